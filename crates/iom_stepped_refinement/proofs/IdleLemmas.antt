-- A world in which nothing is under way is one without walks.
use Rattle.std.proofs.Common.{◌≡◌, ℕ, ◌∙◌, List, [], length, Option, Some, None, refl, sym}
use Rattle.iom_stepped_refinement.specs.Runs.{AreIdle, IdleWorldsAreShown, IdleWorldsAreSound, WalksKeepFacts}
use Rattle.iom_stepped_refinement.proofs.OtherSteps.{row_idle, without}
use Rattle.iom_walks.specs.Walks.{WalkRow, row_of, under_way_in}
use Rattle.iom_world_walks.proofs.RowLoads.{row_there}

idle_row : (rows : List WalkRow) → AreIdle rows → (id : ℕ) → under_way_in (row_of rows id) ≡ None
idle_row rows idle id = by (row_of rows id) refl
  where
    by : (found : Option WalkRow) → row_of rows id ≡ found → under_way_in found ≡ None
    by None is = refl
    by (Some row) is = idle row (row_there rows id row is)

pub idle_sound : IdleWorldsAreSound
idle_sound parts rows events invariants idle = ([], invariants, λ row own there is. let both : Some own ≡ None = sym is ∙ idle row there in cc)

pub idle_shown : IdleWorldsAreShown
idle_shown parts rows state shows idle = record { ledger = shows; walks = λ id. row_idle (length parts.memory) id parts.devices (row_of rows id) None (idle_row rows idle id) refl }

pub walks_keep_facts : WalksKeepFacts
walks_keep_facts parts rows events (walks, invariants, stand) = without parts events invariants
