-- What a quarantine answers, what it leaves, and what stays.
use Rattle.std.specs.Prelude.{◌≡◌, ◌≢◌, ◌↔◌, ℕ, ◌+◌, ◌^◌, ◌<◌, List, [], ◌∷◌, ◌++◌, false, filter, length, map, Contains, None, Some, IsSome, is_some, Result, Ok, Err, slice_get, if◌then◌else◌}
use Rattle.iom_base.specs.Modes.{size_in}
use Rattle.iom_base.specs.Sizes.{levels_of}
use Rattle.iom_base.specs.declared.owner.Owner.TheVariants.{OneDevice}
use Rattle.iom_base.specs.declared.size.Size.{Size}
use Rattle.iom_command_queue.specs.declared.entry.QueueEntry.TheVariants as stands
use Rattle.iom_command_queue.specs.Waiting.{commands_in}
use Rattle.iom_directory_build.specs.Pages.{HasPage, root_level}
use Rattle.iom_directory_build.specs.Written.{without_context}
use Rattle.iom_ledger.specs.Changes.{ShowsReleaseOfAll}
use Rattle.iom_ledger.specs.declared.entry.HistoryEntry.TheVariants as entry
use Rattle.iom_ledger.specs.declared.ledger.Ledger.{Ledger}
use Rattle.iom_base.specs.declared.refusal.Refusal.{Refusal}
use Rattle.iom_ledger.specs.History.{History, confirms}
use Rattle.iom_base.specs.Refusals.{first_that_applies, NoneApplies}
use Rattle.iom_ledger.specs.Shown.{Agrees, held_in}
use Rattle.iom_page_table.specs.Leaves.{leaf_of}
use Rattle.iom_page_table.specs.FirstTables.{unmapped}
use Rattle.iom_registers.specs.declared.mmio.Mmio.{Ghosts}
use Rattle.iom_driver.specs.declared.answers.Ticket.{Ticket}
use Rattle.iom_driver.specs.declared.device.Attachment.TheVariants as attachment
use Rattle.iom_driver.specs.declared.device.Stages.{Stages}
use Rattle.iom_driver.specs.Appends.{detach_commands, AppendsAll}
use Rattle.iom_driver.specs.Devices.{stages_of, with_attachment}
use Rattle.iom_driver.specs.Fences.{last_fence}
use Rattle.iom_driver.specs.Layout.{command_frame, directory_frame, completion_address}
use Rattle.iom_driver.specs.Reasons.{why_not_quarantine}
use Rattle.iom_driver.specs.Standing.{LeavesStanding}
use Rattle.iom_driver.specs.State.{DriverState}

-- memory after the leaves of these pages are cleared, one after another
abbrev pub all_unmapped : Size → List (List ℕ) → ℕ → List ℕ → List (List ℕ)
all_unmapped size memory root [] = memory
all_unmapped size memory root (page ∷ pages) = all_unmapped size (unmapped size memory root page) root pages

-- those of these pages that the device holds
abbrev pub held_pages : Ledger → ℕ → List ℕ → List ℕ
held_pages ledger id pages = filter (λ page. is_some (held_in ledger id page)) pages

-- each page that the device holds has no leaf any more, and each other one has what it had
abbrev pub LosesHeldLeaves : Size → Ledger → ℕ → ℕ → List (List ℕ) → List (List ℕ) → Type 0
LosesHeldLeaves size ledger id root old new = (page : ℕ) → page < 2 ^ 52
    → leaf_of (levels_of size) new root page ≡ (if is_some (held_in ledger id page) then None else leaf_of (levels_of size) old root page)

-- The next ticket is given, and the device is quarantined under it, with its stages. Its context's bytes are zero, and then the leaves of these pages are cleared,
-- which are those that it holds. All of these are released. Then the commands of a detach are appended. No frame but the device's, the directory's pages
-- and the ring's changes.
pub record QueuesQuarantine {M : Type 0} (g : Ghosts M) (d : DriverState) (memory : List (List ℕ)) (io : M) (id ticket : ℕ) (d' : DriverState) (memory' : List (List ℕ)) (io' : M) : Type 0 where
  pub stage : Stages
  pub attached : stages_of d.devices id ≡ Some stage
  pub next : ticket ≡ d.given + 1
  pub pages : List ℕ
  pub all : (page : ℕ) → IsSome (held_in d.ledger id page) ↔ Contains pages page
  pub shown : ShowsReleaseOfAll d.ledger d'.ledger id ticket
  pub agrees : (h : History) → Agrees d.ledger h → confirms h ticket ≡ false → Agrees d'.ledger (entry.AllReleased id ticket ∷ h)
  pub driver : d' ≡ record d { ledger = d'.ledger; devices = with_attachment d.devices id (attachment.Quarantined ticket stage); given = ticket }
  pub queued : AppendsAll g (all_unmapped (size_in stage.mode) (without_context memory (root_level d.levels) (directory_frame (length memory)) id) stage.root pages) io
      (detach_commands id stage (completion_address (length memory)) (last_fence d + 1)) memory' io'
  pub list : commands_in memory' (g.registers io') ≡ commands_in memory (g.registers io)
      ++ map stands.Command (detach_commands id stage (completion_address (length memory)) (last_fence d + 1))
  pub others : (f : ℕ) → slice_get d.owners f ≢ Some (Some (OneDevice id)) → ¬ HasPage memory (root_level d.levels) (directory_frame (length memory)) f
      → f ≢ command_frame (length memory) → slice_get memory' f ≡ slice_get memory f
  pub standing : LeavesStanding d memory d' memory'

-- QUARANTINE
abbrev pub AnswersQuarantine : {M : Type 0} → Ghosts M → DriverState → List (List ℕ) → M → ℕ → Result Ticket Refusal → DriverState → List (List ℕ) → M → Type 0
AnswersQuarantine g d memory io id (Ok ticket) d' memory' io' =
    NoneApplies (why_not_quarantine d (g.registers io) id) × QueuesQuarantine g d memory io id ticket.0 d' memory' io'
AnswersQuarantine g d memory io id (Err why) d' memory' io' =
    (first_that_applies (why_not_quarantine d (g.registers io) id) ≡ Some why) × (d' ≡ d) × (memory' ≡ memory) × (io' ≡ io)
