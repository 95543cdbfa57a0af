-- Where a walk of a stage begins.
use Rattle.std.specs.Prelude.{◌≡◌, ℕ, ◌+◌, true, false, Option, Some, None}
use Rattle.iom_base.specs.Causes.{guest_page_fault_of}
use Rattle.iom_base.specs.Sizes.{levels_of}
use Rattle.iom_base.specs.declared.access.AccessKind.{AccessKind}
use Rattle.iom_base.specs.declared.cause.Cause.{Cause}
use Rattle.iom_base.specs.declared.ppn.Ppn.{Ppn}
use Rattle.iom_base.specs.declared.rights.Rights.{Rights}
use Rattle.iom_base.specs.declared.size.Size.{Size}
use Rattle.iom_stage_walk.specs.Paths.{first_path}
use Rattle.iom_walk_loads.specs.Loads.{Walk}
use Rattle.iom_walk_loads.specs.Tables.{is_canonical, lead, lead_rest}
use Rattle.iom_stepped_walk.specs.Positions.{indices_of}
use Rattle.iom_stepped_walk.specs.Steps.{TableAnswer}
use Rattle.iom_stepped_walk.specs.declared.place.Place.{Place}

-- a first stage begins to translate the address in its root, with all its indices; or not at all, where the address isn't canonical
abbrev pub BeginsFirst : Size → Ppn → ℕ → Option Place → Type 0
BeginsFirst size root address None = is_canonical (levels_of size) address ≡ false
BeginsFirst size root address (Some place) =
    (is_canonical (levels_of size) address ≡ true) × (place.table.number ≡ root.number) × (place.is_wide ≡ false)
    × (place.level + 1 ≡ levels_of size) × (indices_of place address ≡ first_path (levels_of size) address)

-- what remains of the way through a second stage from its root, whatever follows
abbrev pub lead_from : ℕ → AccessKind → AccessKind → (ℕ → Rights → ℕ → Walk TableAnswer) → (Cause → Walk TableAnswer) → ℕ → Option Place → Walk TableAnswer
lead_from frames kind original found stopped address None = stopped (guest_page_fault_of original)
lead_from frames kind original found stopped address (Some place) = lead_rest frames kind original found stopped place.table.number (indices_of place address)

-- a second stage begins there to translate the guest physical address
abbrev pub BeginsSecond : Size → Ppn → ℕ → Option Place → Type 0
BeginsSecond size root address begun = (frames : ℕ) (kind original : AccessKind) (found : ℕ → Rights → ℕ → Walk TableAnswer) (stopped : Cause → Walk TableAnswer)
    → lead frames (levels_of size) root.number kind original found stopped address ≡ lead_from frames kind original found stopped address begun
