-- A step of a block device leaves its disk where it is, and which block devices the board knows.
use Rattle.std.proofs.Common.{◌≡◌, ◌∙◌, ℕ, is_some, Result, ap}
use Rattle.iom_base.specs.declared.refusal.Refusal.{Refusal}
use Rattle.iom_board.specs.BoardParts.{BoardParts}
use Rattle.iom_virtio_blk.specs.declared.step.Step.{Step}
use Rattle.iom_virtio_blk.specs.declared.step.Step.TheVariants as step
use Rattle.iom_virtio_blk.specs.Steps.{Device}
use Rattle.iom_virtio_blk.proofs.DiskStays as blk
use Rattle.iom_hardware.specs.Agreement.{known_blocks}
use Rattle.iom_hardware.specs.declared.steps.Stepped.{Stepped}
use Rattle.iom_hardware.specs.Steps.{Ends, Rests, TakesOneStep}
use Rattle.iom_hardware.proofs.KeptBlocks.{KeepsKnown, begun}

rested : (rest : Stepped) (old new : BoardParts) (between after : Device) (answer : Result Stepped Refusal) → Rests rest old between answer new after
    → (is_some after.disk ≡ is_some between.disk) × KeepsKnown old new
rested rest old new between after answer rests =
    (ap (λ (d : Device). is_some d.disk) rests.settled, ap (λ (parts : BoardParts). known_blocks parts.devices) rests.same)

ended : (taken : Step) (old new : BoardParts) (id : ℕ) (between after : Device) (answer : Result Stepped Refusal) → Ends taken old id between answer new after
    → (is_some after.disk ≡ is_some between.disk) × KeepsKnown old new
ended step.Idle old new id between after answer ends = rested _ old new between after answer ends
ended step.Waiting old new id between after answer ends = rested _ old new between after answer ends
ended step.Down old new id between after answer ends = rested _ old new between after answer ends
ended (step.Chain fault) old new id between after answer ends = rested _ old new between after answer ends
ended (step.Finished head len) old new id between after answer ends = rested _ old new between after answer ends
ended (step.Wants want) old new id between after answer begins =
    (ap (λ (d : Device). is_some d.disk) begins.hears, begun old new id begins.access answer begins.begun)

pub disk_stays : (old new : BoardParts) (id : ℕ) (answer : Result Stepped Refusal) (before after : Device) → TakesOneStep old id answer new before after → is_some after.disk ≡ is_some before.disk
disk_stays old new id answer before after takes =
    (ended takes.taken old new id takes.between after answer takes.ends).0 ∙ blk.disk_stays takes.taken before takes.between takes.steps

pub stepped_known : (old new : BoardParts) (id : ℕ) (answer : Result Stepped Refusal) (before after : Device) → TakesOneStep old id answer new before after → KeepsKnown old new
stepped_known old new id answer before after takes = (ended takes.taken old new id takes.between after answer takes.ends).1
