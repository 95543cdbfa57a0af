-- What happens to the block devices on hardware, as it is told.
use Rattle.std.proofs.Common.{◌≡◌, ◌⊎◌, inl, inr, ℕ, Option, None, Some, Result, Ok, Err, refl, sym, ap, subst}
use Rattle.iom_ats_cache.specs.declared.taken.Taken.TheVariants as taken
use Rattle.iom_base.specs.declared.refusal.Refusal.{Refusal}
use Rattle.iom_base.specs.DeviceKinds.{is_block_device}
use Rattle.iom_block_devices.specs.Changes.{Changes, IsGivenUp}
use Rattle.iom_block_devices.specs.Shown.{ShownBlock, ShownBlocks}
use Rattle.iom_board.specs.declared.answers.Delivered.{Delivered}
use Rattle.iom_board.specs.declared.answers.Delivered.TheVariants as delivered
use Rattle.iom_driver.specs.declared.answers.Ticket.{Ticket}
use Rattle.iom_fabric.specs.declared.fabric.OnLink.{OnLink}
use Rattle.iom_hardware.specs.Blocks.{DeliversInside, UnlessRefused}
use Rattle.iom_hardware.specs.Queues.{SetsQueue}
use Rattle.iom_hardware.specs.Status.{TellsStatus}
use Rattle.iom_machine.specs.declared.outcome.Outcome.{Outcome}
use Rattle.iom_virtqueue.specs.declared.layout.Layout.{Layout}
use Rattle.iom_virtio_blk.specs.Stages.{device_status}
use Rattle.iom_world_effects.specs.Answers.{outcome_of_done, outcome_of_ticket}
use Rattle.iom_world_effects.specs.BlockDevices.{SetsBlockQueue, TellsBlockStatus}
use Rattle.iom_world_effects.specs.Parts.{Parts}
use Rattle.iom_world_effects.specs.Unable.{IsUnknown, IsUnable}
use Rattle.iom_world.specs.Blocks.{DeliversTo, IfDone, IsStatusOf, LeavesBlock, RefusedIfNone}
use Rattle.iom_world.specs.OnHardware.{outcome_of_delivery, hardware_of, outcome_of_status, outcome_unless}
use Rattle.iom_world_effects.proofs.PresentLemmas.{kind_absent}
use Rattle.iom_world.proofs.InParts.{parts_with, same_parts}
use Rattle.iom_world.proofs.StepInParts.{no_block_in_parts}

-- a call that is refused or done is told so
pub done_or_not : (answer : Result (Unit {0}) Refusal) (HappensToThem : Type 0) (old new : ShownBlocks) → UnlessRefused answer HappensToThem old new → IfDone (outcome_of_done answer) HappensToThem old new
done_or_not (Ok done) HappensToThem old new happens = happens
done_or_not (Err why) HappensToThem old new same = same

-- a detach is told by its ticket
pub left_or_not : (answer : Result Ticket Refusal) (id : ℕ) (old new : ShownBlocks) → ((given : Ticket) → answer ≡ Ok given → Changes IsGivenUp old id new) → ((why : Refusal) → answer ≡ Err why → new ≡ old)
    → LeavesBlock old id (outcome_of_ticket answer) new
left_or_not (Ok given) id old new gone same = gone given refl
left_or_not (Err why) id old new gone same = same why refl

-- a delivery that brings a refusal is told so
pub delivers_as_told : (on : Option OnLink) (is : Delivered) (old new : ShownBlocks) → DeliversInside on is old new → DeliversTo on old (outcome_of_delivery is) new
delivers_as_told on delivered.NoMessage old new same = same
delivers_as_told on (delivered.Answered answer) old new same = same
delivers_as_told on (delivered.Taken taken.Kept) old new same = same
delivers_as_told on (delivered.Taken taken.Stale) old new same = same
delivers_as_told on (delivered.Taken taken.Refused) old new brings = brings
delivers_as_told on delivered.Ignored old new same = same
delivers_as_told on (delivered.Invalidated serial) old new same = same
delivers_as_told on (delivered.Closed serial) old new same = same
delivers_as_told on (delivered.NotClosed serial) old new same = same

-- a status
pub status_in_parts : (parts : Parts) (found : Option ShownBlock) (id : ℕ) (answer : Result ℕ Refusal) → TellsStatus found (hardware_of parts) id answer
    → ((status : ℕ) × TellsBlockStatus parts id status (outcome_unless outcome_of_status answer) parts)
    × (RefusedIfNone found parts id (outcome_unless outcome_of_status answer) parts × IsStatusOf found (outcome_unless outcome_of_status answer))
status_in_parts parts None id answer none = let refuses = no_block_in_parts parts parts refl outcome_of_status id answer none in ((0, unknown refuses), (refuses, tt))
  where
    unknown : IsUnknown parts id (outcome_unless outcome_of_status answer) parts ⊎ IsUnable is_block_device parts id (outcome_unless outcome_of_status answer) parts → TellsBlockStatus parts id 0 (outcome_unless outcome_of_status answer) parts
    unknown (inl none) = inl none
    unknown (inr wrong) = inr (inl wrong)
status_in_parts parts (Some block) id answer (able, is) =
    let reply = ap (outcome_unless outcome_of_status) is in (
      (device_status block.device.front.stage, inr (inr (able, reply, refl))),
      (subst (λ (o : Outcome). RefusedIfNone (Some block) parts id o parts) (sym reply) tt, reply),
    )

-- a queue
pub queue_in_parts : (old new : Parts) (driver : new.driver ≡ old.driver) (id : ℕ) (layout : Layout) (answer : Result (Unit {0}) Refusal) → SetsQueue (hardware_of old) id layout answer (hardware_of new)
    → SetsBlockQueue old id layout (outcome_of_done answer) new
queue_in_parts old new driver id layout answer (inl none) =
    inl (record { absent = kind_absent old.devices id none.absent; reply_is = ap outcome_of_done none.answered; same = same_parts old new none.same driver })
queue_in_parts old new driver id layout answer (inr (inl wrong)) =
    inr (inl (record { kind = wrong.kind; there = wrong.there; cannot = wrong.cannot; reply_is = ap outcome_of_done wrong.answered; same = same_parts old new wrong.same driver }))
queue_in_parts old new driver id layout answer (inr (inr (inl bad))) = inr (inr (bad.able, inr (bad.cannot, ap outcome_of_done bad.answered, same_parts old new bad.same driver)))
queue_in_parts old new driver id layout answer (inr (inr (inr sets))) = inr (inr (sets.able, inl (sets.lies, ap outcome_of_done sets.answered, parts_with old new _ sets.cleared driver)))
