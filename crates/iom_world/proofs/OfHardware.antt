-- A world and its hardware: what stays true of the one is true of the other, and each event is counted.
use Rattle.std.proofs.Common.{◌≡◌, ◌+◌, ◌<◌, ◌∙◌, inr, ℕ, Bool, List, length, remove, slice_get, Option, None, Some, Result, Ok, Err, refl, sym, ap, subst}
use Rattle.iom_base.specs.declared.access.AccessKind.TheVariants.{Read}
use Rattle.iom_base.specs.declared.refusal.Refusal.{Refusal}
use Rattle.iom_device.specs.declared.device.Device.{Device}
use Rattle.iom_device.specs.Caches.{cache_of, epoch_in}
use Rattle.iom_device.specs.Calls.{devices_revived, reset_of}
use Rattle.iom_driver.specs.State.{DriverState}
use Rattle.iom_fabric.specs.declared.fabric.OnLink.{OnLink}
use Rattle.iom_fabric.specs.declared.message.Message.{Message}
use Rattle.iom_fabric.specs.declared.message.Message.TheVariants as sent
use Rattle.iom_board.specs.declared.board.Board.{Board}
use Rattle.iom_board.specs.Commits.{CommitsOldestAccess, StandWhereMade}
use Rattle.iom_board.specs.Invariant.{IsOfPlugged, BoardInvariant}
use Rattle.iom_hardware.specs.Agreement.{AgreesWith, known_blocks}
use Rattle.iom_hardware.specs.Invariant.{HardwareInvariant}
use Rattle.iom_hardware.proofs.AgreementLemmas.{agrees_still}
use Rattle.iom_hardware.proofs.KnownBlocks.{known_cache}
use Rattle.iom_inflight.specs.declared.made.MadeAt.{MadeAt}
use Rattle.iom_iommu.specs.Parts.{flights_of}
use Rattle.iom_machine.specs.declared.outcome.Outcome.{Outcome}
use Rattle.iom_virtio_blk.specs.declared.disk.Disk.{Ghosts}
use Rattle.iom_world.specs.declared.world.World.{World}
use Rattle.iom_world.specs.OnHardware.{hardware_of}
use Rattle.iom_world.specs.Shown.{parts_of}
use Rattle.iom_world_effects.specs.Answers.{TellsBytes}
use Rattle.iom_world_effects.specs.Commits.{CommitsAccess, TellsKind, TellsMade}
use Rattle.iom_world_effects.specs.Deliveries.{ArrivesIfAny, DeliversMessage}
use Rattle.iom_world_effects.specs.Parts.{Parts}
use Rattle.iom_world_effects.specs.Invariant.{PartsInvariant, IsAsked}
use Rattle.iom_world_effects.proofs.DriverLemmas.{DriverInvariant}
use Rattle.iom_world_effects.proofs.MadeFrames.{made_unreserved, read_told}
use Rattle.iom_world_effects.proofs.PartsLemmas.{StaysReady, StaysReported}
use Rattle.iom_world_effects.proofs.ServedLemmas.{ServiceLaws}
use Rattle.iom_world_invariant.proofs.CommitKeeps.{keeps_oldest}
use Rattle.iom_world_refinement.proofs.DeliverStep.{keeps_arrived}
use Rattle.iom_world.proofs.InParts.{uncommitted, committed}
use Rattle.iom_world_refinement.proofs.EventLemmas.{sound_counted}

-- hardware, with a driver
abbrev pub with_driver : Board → DriverState → Parts
with_driver hardware driver =
    record { memory = hardware.memory; iommu = hardware.iommu; driver = driver; devices = hardware.devices.items; fabric = hardware.fabric }

-- one event more is counted
pub counted : {D : Type 0} {d : Ghosts D} (world : World D d) → PartsInvariant (parts_of world) (world.hardware.board.events + 1)
counted world = sound_counted (parts_of world) world.hardware.board.events world.invariants

-- what is sound is so at the count that the hardware has
pub at_count : (parts : Parts) (events count : ℕ) → count ≡ events → PartsInvariant parts events → PartsInvariant parts count
at_count parts events count is invariants = rw is invariants

of_plugged : (is_plugged : Bool) (message : Message) → IsAsked is_plugged message → IsOfPlugged is_plugged message
of_plugged is_plugged (sent.Ask epoch page) asked = asked
of_plugged is_plugged (sent.Answer epoch page translation) asked = tt
of_plugged is_plugged (sent.InvReq serial range) asked = tt
of_plugged is_plugged (sent.InvDone serial) asked = tt

-- the hardware of a sound world is sound
pub hardware_sound : (parts : Parts) (events : ℕ) → PartsInvariant parts events → BoardInvariant (hardware_of parts) events
hardware_sound parts events invariants = record {
  size = invariants.size;
  own_ids = invariants.known.own_ids;
  rows = invariants.known.iommu;
  caches = invariants.known.caches;
  askers = λ k on inside. of_plugged _ _ (invariants.known.askers k on inside);
  accepted = invariants.counted;
  serials = invariants.serials;
  epochs = invariants.epochs;
}

-- and so is the hardware with its block devices
pub hardware_invariant : {D : Type 0} {d : Ghosts D} (world : World D d) → HardwareInvariant world.hardware
hardware_invariant world = record { board = hardware_sound (parts_of world) world.hardware.board.events world.invariants; agrees = world.agrees; room = world.room }

-- the block devices agree with their board after one of its calls
pub agrees_now : {D : Type 0} {d : Ghosts D} (world : World D d) (board : Board) → known_blocks board.devices.items ≡ known_blocks world.hardware.board.devices.items
    → board.disks.items ≡ world.hardware.board.disks.items → AgreesWith board.devices.items board.disks.items world.hardware.blocks.items world.hardware.at_hand.items
agrees_now world board known kept =
    agrees_still world.hardware.board.devices.items board.devices.items world.hardware.board.disks.items board.disks.items world.hardware.blocks.items world.hardware.blocks.items
    world.hardware.at_hand.items known kept refl world.agrees

-- the same block devices are known after a revival
pub known_revived : (devices after : List Device) (id : ℕ) (answer : Result (Unit {0}) Refusal) → after ≡ devices_revived answer devices id → known_blocks after ≡ known_blocks devices
known_revived devices after id (Ok done) same = ap known_blocks same ∙ known_cache devices id (reset_of (cache_of devices id))
known_revived devices after id (Err why) same = ap known_blocks same

-- a delivery keeps what is sound
pub keeps_delivered : (laws : ServiceLaws) (old new : Parts) (events place : ℕ) (reply : Outcome) → PartsInvariant old events → DriverInvariant old.driver → StaysReported old.driver → StaysReady old.driver
    → ((id : ℕ) → epoch_in old.devices id < events) → DeliversMessage old place reply new → PartsInvariant new events
keeps_delivered laws old new events place reply invariants own reported unchanged below delivers = by (slice_get old.fabric place) refl delivers
  where
    by : (on : Option OnLink) → slice_get old.fabric place ≡ on → ArrivesIfAny on old (remove old.fabric place) reply new → PartsInvariant new events
    by None at (none, same) = rw same invariants
    by (Some on) at arrives = keeps_arrived laws old new events place reply invariants own reported unchanged below on at arrives

-- so does a commit
pub keeps_committed : (old new : Parts) (events id : ℕ) (answer : Result (Option MadeAt) Refusal) → PartsInvariant old events → DriverInvariant old.driver → StaysReady old.driver → new.driver ≡ old.driver
    → CommitsOldestAccess (hardware_of old) id answer (hardware_of new) → PartsInvariant new events
keeps_committed old new events id (Err why) invariants own unchanged driver commits = rw (uncommitted old new driver id why commits).same invariants
keeps_committed old new events id (Ok made) invariants own unchanged driver commits =
    let makes = (committed old new driver id made commits).1 in
    keeps_oldest old new events id made invariants own unchanged makes.call (made_unreserved old events id made new.memory (flights_of new.iommu) invariants own makes.call.makes) driver makes.devices makes.fabric

-- the oldest access is made, or none is
pub makes_in_parts : (old new : Parts) (events id : ℕ) (made : Option MadeAt) (reply : Outcome) → PartsInvariant old events → DriverInvariant old.driver → new.driver ≡ old.driver
    → CommitsOldestAccess (hardware_of old) id (Ok made) (hardware_of new) → TellsMade old.memory made reply → CommitsAccess old id reply new
makes_in_parts old new events id made reply invariants own driver commits tells =
    let (present, makes) = committed old new driver id made commits in
    inr (record {
      present = present;
      made = made;
      reply_is = tells;
      call = makes.call;
      unreserved = made_unreserved old events id made new.memory (flights_of new.iommu) invariants own makes.call.makes;
      driver = driver;
      devices = makes.devices;
      fabric = makes.fabric;
    })

-- what stands where a read was made is what it tells
pub read_in_parts : (old new : Parts) (id : ℕ) (made : MadeAt) (bytes : List ℕ) (reply : Outcome) → new.driver ≡ old.driver → CommitsOldestAccess (hardware_of old) id (Ok (Some made)) (hardware_of new)
    → made.kind ≡ Read → StandWhereMade new.memory made bytes → TellsBytes reply bytes → TellsKind old.memory made made.kind reply
read_in_parts old new id made bytes reply driver commits reads stand tells =
    let makes = (committed old new driver id (Some made) commits).1 in
    read_told old.memory new.memory (flights_of old.iommu) id made (flights_of new.iommu) reply makes.call.makes reads
    record { bytes = stand.frame; there = stand.there; reply_is = subst (TellsBytes reply) stand.part tells; long = sym (ap (λ (l : List ℕ). length l) stand.part) ∙ stand.long }
