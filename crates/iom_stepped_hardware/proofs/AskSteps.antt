-- A block device takes a step: its disk stays, and what the board knows; and it asks still for what is under way of it then.
use Rattle.std.proofs.Common.{◌≡◌, ◌≢◌, ◌∙◌, inl, inr, ℕ, List, Option, None, Some, is_some, Result, Ok, Err, OnErr, sym, ap, subst}
use Rattle.iom_base.specs.DeviceKinds.{is_block_device}
use Rattle.iom_base.specs.declared.access.Access.{Access}
use Rattle.iom_base.specs.declared.device_kind.DeviceKind.TheVariants.{Block}
use Rattle.iom_base.specs.declared.refusal.Refusal.{Refusal}
use Rattle.iom_block_devices.specs.Changes.{ChangesOne}
use Rattle.iom_block_devices.specs.Shown.{ShownBlock}
use Rattle.iom_board.specs.BoardParts.{BoardParts}
use Rattle.iom_device.specs.Caches.{kind_in}
use Rattle.iom_hardware.specs.declared.steps.Stepped.{Stepped}
use Rattle.iom_iommu.specs.declared.begun.Begun.{Begun}
use Rattle.iom_iommu.specs.declared.begun.Begun.TheVariants as begun
use Rattle.iom_stepped_board.specs.Requests.{BeginsAccessBeside}
use Rattle.iom_virtio_blk.proofs.DiskStays as blk
use Rattle.iom_block_devices.specs.Wanted.{wanted_access}
use Rattle.iom_virtio_blk.specs.Blocks.{IsAsking, wanted_by}
use Rattle.iom_virtio_blk.specs.Steps.{BlockDeviceSteps, Device, device}
use Rattle.iom_virtio_blk.specs.declared.step.Step.{Step}
use Rattle.iom_virtio_blk.specs.declared.step.Step.TheVariants as step
use Rattle.iom_walks.specs.Walks.{UnderWay, WalkRow, row_of, under_way_in, under_way_of}
use Rattle.iom_stepped_hardware.specs.Beside.{AskStill, AsksStill}
use Rattle.iom_stepped_hardware.specs.Steps.{BeginsWanted, Ends, Rests, TakesOneStep, front_after}
use Rattle.iom_stepped_hardware.specs.declared.steps.StepOutcome.{StepOutcome}
use Rattle.iom_stepped_hardware.proofs.AskEvents.{StartsIf, started_others, started_own, starts_if}
use Rattle.iom_stepped_hardware.proofs.AskLaws.{was_there}
use Rattle.iom_stepped_hardware.proofs.AskLemmas.{asks_by, others_stay}

-- what a request that begins leaves of the rows: what was under way, or this one too
pub record Leaves (old new : BoardParts) (rows : List WalkRow) (id : ℕ) (new_rows : List WalkRow) : Type 0 where
  pub devices : new.devices ≡ old.devices
  pub others : (other : ℕ) → other ≢ id → row_of new_rows other ≡ row_of rows other

begun_leaves : (old new : BoardParts) (rows new_rows : List WalkRow) (id : ℕ) (access : Access) (given : Result Begun Refusal) → BeginsAccessBeside is_block_device old rows id access given new new_rows
    → Leaves old new rows id new_rows
begun_leaves old new rows new_rows id access given begins = elim begins.by_device [
  | inl none ↦ refused none.answered none.same
  | inr (inl wrong) ↦ refused wrong.answered wrong.same
  | inr (inr does) ↦ record {
    devices = does.call.devices;
    others = started_others does.given rows new_rows id access (starts_if old.memory new.memory old.iommu new.iommu rows new_rows id access does.given does.call.call);
  }
]
  where
    refused : {why : Refusal} → given ≡ Err why → new ≡ old → Leaves old new rows id new_rows
    refused {why = why} is same =
        let rows_same = subst (λ (a : Result Begun Refusal). OnErr a (new_rows ≡ rows)) is begins.refused in
        record { devices = ap (λ (parts : BoardParts). parts.devices) same; others = λ other ne. ap (λ (rs : List WalkRow). row_of rs other) rows_same }

rested : (rest : Stepped) (old new : BoardParts) (rows new_rows : List WalkRow) (id : ℕ) (between after : Device) (answer : Result StepOutcome Refusal)
    → Rests rest old rows between answer new new_rows after → (is_some after.disk ≡ is_some between.disk) × Leaves old new rows id new_rows
rested rest old new rows new_rows id between after answer rests = (
  ap (λ (d : Device). is_some d.disk) rests.settled,
  record { devices = ap (λ (parts : BoardParts). parts.devices) rests.same; others = λ other ne. ap (λ (rs : List WalkRow). row_of rs other) rests.walks },
)

ended : (taken : Step) (old new : BoardParts) (rows new_rows : List WalkRow) (id : ℕ) (between after : Device) (answer : Result StepOutcome Refusal)
    → Ends taken old rows id between answer new new_rows after → (is_some after.disk ≡ is_some between.disk) × Leaves old new rows id new_rows
ended step.Idle old new rows new_rows id between after answer ends = rested _ old new rows new_rows id between after answer ends
ended step.Waiting old new rows new_rows id between after answer ends = rested _ old new rows new_rows id between after answer ends
ended step.Down old new rows new_rows id between after answer ends = rested _ old new rows new_rows id between after answer ends
ended (step.Chain fault) old new rows new_rows id between after answer ends = rested _ old new rows new_rows id between after answer ends
ended (step.Finished head len) old new rows new_rows id between after answer ends = rested _ old new rows new_rows id between after answer ends
ended (step.Wants want) old new rows new_rows id between after answer begins =
    (ap (λ (d : Device). is_some d.disk) begins.hears, begun_leaves old new rows new_rows id begins.any.access begins.given begins.any.begins)

pub disk_stays : (old new : BoardParts) (rows new_rows : List WalkRow) (id : ℕ) (answer : Result StepOutcome Refusal) (before after : Device)
    → TakesOneStep old rows id answer new new_rows before after → is_some after.disk ≡ is_some before.disk
disk_stays old new rows new_rows id answer before after takes =
    (ended takes.taken old new rows new_rows id takes.between after answer takes.ends).0 ∙ blk.disk_stays takes.taken before takes.between takes.steps

pub step_leaves : (old new : BoardParts) (rows new_rows : List WalkRow) (id : ℕ) (answer : Result StepOutcome Refusal) (before after : Device)
    → TakesOneStep old rows id answer new new_rows before after → Leaves old new rows id new_rows
step_leaves old new rows new_rows id answer before after takes = (ended takes.taken old new rows new_rows id takes.between after answer takes.ends).1

-- nothing was under way, and nothing is
pub idle_still : {X : Type 0} (rows new_rows : List WalkRow) (id : ℕ) (row : WalkRow) (under_way : UnderWay) → under_way_of rows id ≡ None → new_rows ≡ rows → row_of new_rows id ≡ Some row
    → row.under_way ≡ Some under_way → X
idle_still rows new_rows id row under_way idle same has is =
    let both : ◌≡◌ {A = Option UnderWay} None (Some under_way) = sym idle ∙ sym (ap (λ (rs : List WalkRow). under_way_of rs id) same) ∙ ap under_way_in has ∙ is in
    cc

-- a request that begins is what the device asks for
begun_asks : (old new : BoardParts) (rows new_rows : List WalkRow) (id : ℕ) (between after : Device) (answer : Result StepOutcome Refusal) (row : WalkRow) (under_way : UnderWay)
    → kind_in old.devices id ≡ Some Block → under_way_of rows id ≡ None → IsAsking between.front → BeginsWanted old rows id between answer new new_rows after
    → row_of new_rows id ≡ Some row → row.under_way ≡ Some under_way → AsksStill (kind_in old.devices id) after.front row under_way
begun_asks old new rows new_rows id between after answer row under_way kind idle asking begins has is = elim begins.any.begins.by_device [
  | inl none ↦ refused none.answered
  | inr (inl wrong) ↦ refused wrong.answered
  | inr (inr does) ↦
      by does.given (starts_if old.memory new.memory old.iommu new.iommu rows new_rows id begins.any.access does.given does.call.call)
      (begins.hears ∙ ap (λ (given : Result Begun Refusal). device (front_after given between.front) between.disk) does.answered)
]
  where
    refused : {why : Refusal} → begins.given ≡ Err why → AsksStill (kind_in old.devices id) after.front row under_way
    refused {why = why} answered =
        idle_still rows new_rows id row under_way idle (subst (λ (a : Result Begun Refusal). OnErr a (new_rows ≡ rows)) answered begins.any.begins.refused) has is

    by : (given : Begun) → StartsIf given rows id begins.any.access new_rows → after ≡ device (front_after (Ok given) between.front) between.disk
        → AsksStill (kind_in old.devices id) after.front row under_way
    by begun.Walking starts heard = record {
      kind = kind;
      asking = subst (λ (d : Device). IsAsking d.front) (sym heard) asking;
      wants = ap (λ (d : Device). wanted_access (wanted_by d.front)) heard ∙ begins.any.named ∙ ap Some (sym (started_own rows new_rows id begins.any.access starts row under_way has is));
    }
    by begun.Occupied same heard = idle_still rows new_rows id row under_way idle same has is
    by (begun.Answered reply) same heard = idle_still rows new_rows id row under_way idle same has is

-- the device asks for what is under way of it then
own_asks : (old new : BoardParts) (rows new_rows : List WalkRow) (id : ℕ) (answer : Result StepOutcome Refusal) (before after : Device) (row : WalkRow) (under_way : UnderWay)
    → kind_in old.devices id ≡ Some Block → under_way_of rows id ≡ None → TakesOneStep old rows id answer new new_rows before after → row_of new_rows id ≡ Some row
    → row.under_way ≡ Some under_way → AsksStill (kind_in old.devices id) after.front row under_way
own_asks old new rows new_rows id answer before after row under_way kind idle takes has is = by takes.taken takes.steps takes.ends
  where
    by : (taken : Step) → BlockDeviceSteps before taken takes.between → Ends taken old rows id takes.between answer new new_rows after → AsksStill (kind_in old.devices id) after.front row under_way
    by step.Idle steps rests = idle_still rows new_rows id row under_way idle rests.walks has is
    by step.Waiting steps rests = idle_still rows new_rows id row under_way idle rests.walks has is
    by step.Down steps rests = idle_still rows new_rows id row under_way idle rests.walks has is
    by (step.Chain fault) steps rests = idle_still rows new_rows id row under_way idle rests.walks has is
    by (step.Finished head len) steps rests = idle_still rows new_rows id row under_way idle rests.walks has is
    by (step.Wants want) steps begins = begun_asks old new rows new_rows id takes.between after answer row under_way kind idle steps.2 begins has is

-- A BLOCK DEVICE TAKES A STEP
pub stepped_asks : (old new : BoardParts) (blocks after : List ShownBlock) (rows new_rows : List WalkRow) (id : ℕ) (answer : Result StepOutcome Refusal) → AskStill old.devices blocks rows
    → kind_in old.devices id ≡ Some Block → under_way_of rows id ≡ None → (before now : Device) → TakesOneStep old rows id answer new new_rows before now
    → ChangesOne (TakesOneStep old rows id answer new new_rows) blocks id after → AskStill new.devices after new_rows
stepped_asks old new blocks after rows new_rows id answer still kind idle before now takes changes =
    let leaves = step_leaves old new rows new_rows id answer before now takes in
    asks_by old.devices new.devices blocks after rows new_rows id still (λ other ne. ap (λ ds. kind_in ds other) leaves.devices)
    (others_stay (TakesOneStep old rows id answer new new_rows) blocks after id changes) leaves.others
    (λ block row under_way there has is.
    let was = was_there (TakesOneStep old rows id answer new new_rows) blocks after id block changes there in
    subst (λ known. AsksStill known block.device.front row under_way) (sym (ap (λ ds. kind_in ds id) leaves.devices))
    (own_asks old new rows new_rows id answer was.block.device block.device row under_way kind idle was.changed has is))
