-- What one load of an entry makes of a walk through the tables of a stage.
use Rattle.std.specs.Prelude.{◌≡◌, ℕ, List, length, Result}
use Rattle.iom_base.specs.declared.access.AccessKind.{AccessKind}
use Rattle.iom_base.specs.declared.cause.Cause.{Cause}
use Rattle.iom_base.specs.declared.rights.Rights.{Rights}
use Rattle.iom_stage_walk.specs.declared.entry.Entry.{Entry}
use Rattle.iom_stage_walk.specs.declared.walked.Walked.{Walked}
use Rattle.iom_stage_walk.specs.declared.walked.WalkFault.{WalkFault}
use Rattle.iom_walk_loads.specs.Loads.{Walk, after_load}
use Rattle.iom_walk_loads.specs.Tables.{at_entry, down, inside}
use Rattle.iom_stepped_walk.specs.Indices.{indices_below, indices_from}
use Rattle.iom_stepped_walk.specs.declared.place.Place.{Place}
use Rattle.iom_stepped_walk.specs.declared.place.Step.{Step}
use Rattle.iom_stepped_walk.specs.declared.place.Step.TheVariants.{Follow, Found, NoPage, Outside}

-- what a walk of tables answers
abbrev pub TableAnswer : Type 0
TableAnswer = Result Walked WalkFault

-- what remains of a walk along these indices from a table, in a memory of so many frames: `fault` is the stage's page fault, `access` the access fault, `found` what
-- follows where a frame of memory is reached, `stopped` where the walk of the stage stops
abbrev pub along : ℕ → AccessKind → Cause → Cause → (ℕ → Rights → ℕ → Walk TableAnswer) → (Cause → Walk TableAnswer) → ℕ → List ℕ → Walk TableAnswer
along frames kind fault access found stopped table left = down kind fault access (inside frames found (stopped access)) stopped table left

-- what remains of it after this step, on the way to the page
abbrev pub resumed : ℕ → AccessKind → ℕ → Cause → Cause → (ℕ → Rights → ℕ → Walk TableAnswer) → (Cause → Walk TableAnswer) → Step → Walk TableAnswer
resumed frames kind page fault access found stopped (Follow place) =
    along frames kind fault access found stopped place.table.number (indices_from place.is_wide place.level page)
resumed frames kind page fault access found stopped (Found frame rights level) = found frame rights level
resumed frames kind page fault access found stopped NoPage = stopped fault
resumed frames kind page fault access found stopped Outside = stopped access

-- ONE LOAD of this memory, of the entry of the page in the table in hand, makes this step: whatever a walk does where it is through with the stage
abbrev pub Makes : List (List ℕ) → AccessKind → Place → ℕ → Step → Type 0
Makes memory kind place page step = (fault access : Cause) (found : ℕ → Rights → ℕ → Walk TableAnswer) (stopped : Cause → Walk TableAnswer)
    → after_load memory (along (length memory) kind fault access found stopped place.table.number (indices_from place.is_wide place.level page))
    ≡ resumed (length memory) kind page fault access found stopped step

-- the entry of the page in the table in hand makes this step
abbrev pub GoesOnBy : ℕ → AccessKind → Place → ℕ → Entry → Step → Type 0
GoesOnBy frames kind place page entry step = (fault access : Cause) (found : ℕ → Rights → ℕ → Walk TableAnswer) (stopped : Cause → Walk TableAnswer)
    → at_entry kind fault access (inside frames found (stopped access)) stopped (indices_below place.level page)
    (λ next. along frames kind fault access found stopped next (indices_below place.level page)) entry
    ≡ resumed frames kind page fault access found stopped step

-- a pointer there to the table does
abbrev pub FollowsBy : Place → ℕ → Step → Type 0
FollowsBy place next step = (frames : ℕ) (kind : AccessKind) (page : ℕ) (fault access : Cause) (found : ℕ → Rights → ℕ → Walk TableAnswer) (stopped : Cause → Walk TableAnswer)
    → along frames kind fault access found stopped next (indices_below place.level page) ≡ resumed frames kind page fault access found stopped step
