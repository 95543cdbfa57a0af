-- Events in which the hardware and the driver both have a part: what the two do is what the event does to the parts of a world.
use Rattle.std.proofs.Common.{◌≡◌, ◌≢◌, ◌<◌, ◌+◌, ◌/◌, inl, inr, ℕ, Bool, true, false, is_some, nat_le, List, [], ◌∷◌, length, Option, None, Some, Result, Ok, Err, refl, sym, ap, ◌∙◌}
use Rattle.std.specs.Prelude.{IsOk}
use Rattle.std.proofs.lemmas.Bool.{false≢true, leb-false, leb-true}
use Rattle.iom_base.specs.DeviceKinds.{disk_of, has_cache, is_any_kind, kind_of}
use Rattle.iom_base.specs.Disks.{is_missing}
use Rattle.iom_base.specs.Refusals.{IsRefusedBy, NoneApplies}
use Rattle.iom_base.specs.Sizes.{page_size}
use Rattle.iom_base.specs.Spans.{FitsInPage}
use Rattle.iom_base.specs.declared.device_kind.DeviceKind.{DeviceKind}
use Rattle.iom_base.specs.declared.device_kind.NewDevice.{NewDevice}
use Rattle.iom_base.specs.declared.refusal.Refusal.{Refusal}
use Rattle.iom_base.specs.declared.refusal.Refusal.TheVariants.{AlreadyPlugged, BadMedium, Memory, NoSuchDevice, TooManyDevices}
use Rattle.iom_board.specs.BoardParts.{BoardParts, board_parts, disks_at_hand}
use Rattle.iom_board.specs.ByDevice.{ByDevice, HasEffect}
use Rattle.iom_board.specs.Commits.{ClearsCache, ResetsAnyDevice}
use Rattle.iom_board.specs.Invariant.{BoardInvariant}
use Rattle.iom_board.specs.Plugging.{IsForWantOfMemory, LetsDiskGo, LosesDisk, MayBePlugged, PlugsNewDevice, StandsBehindOthers, why_not_plugged}
use Rattle.iom_board.specs.Processor.{ProcessorWrites}
use Rattle.iom_board.specs.declared.answers.NoPlace.{NoPlace}
use Rattle.iom_board.specs.declared.answers.NoPlace.TheVariants.{BadSpan, OutsideMemory}
use Rattle.iom_device.specs.Caches.{kind_in, with_has_disk}
use Rattle.iom_device.specs.Calls.{with_block_reset}
use Rattle.iom_device.specs.declared.device.Device.{Device}
use Rattle.iom_board.proofs.SoftwareLemmas.{software_keeps}
use Rattle.iom_command_queue.specs.OpenSlots.{OpenSlots}
use Rattle.iom_directory_build.specs.Pages.{root_level}
use Rattle.iom_directory_build.specs.Written.{without_context}
use Rattle.iom_driver.specs.Appends.{detach_commands}
use Rattle.iom_driver.specs.Calls.{AnswersPlug}
use Rattle.iom_driver.specs.Devices.{has_device}
use Rattle.iom_driver.specs.Fences.{last_fence}
use Rattle.iom_driver.specs.Layout.{completion_address, directory_frame}
use Rattle.iom_driver.specs.Leaving.{AnswersDetach}
use Rattle.iom_driver.specs.Ready.{IsReady}
use Rattle.iom_driver.specs.Reasons.{why_not_revive}
use Rattle.iom_driver.specs.Revivals.{AnswersRevive}
use Rattle.iom_driver.specs.State.{DriverState}
use Rattle.iom_driver.specs.declared.answers.Ticket.{Ticket}
use Rattle.iom_driver.proofs.Places.{attached_there}
use Rattle.iom_hardware.specs.Agreement.{known_blocks}
use Rattle.iom_hardware.specs.Invariant.{HardwareInvariant}
use Rattle.iom_hardware.specs.declared.hardware.Hardware.{Hardware}
use Rattle.iom_iommu.specs.Parts.{mmio, registers_of}
use Rattle.iom_machine.specs.declared.outcome.Outcome.TheVariants as outcome
use Rattle.iom_table_frames.specs.Owners.{has_owner}
use Rattle.iom_virtio_blk.specs.declared.disk.Disk.{Ghosts}
use Rattle.iom_world.specs.declared.world.World.{World}
use Rattle.iom_world.specs.OnHardware.{hardware_of, outcome_of_store}
use Rattle.iom_world_effects.specs.Effect.{DetachesDevice, PlugsDevice, PlugsIn}
use Rattle.iom_world_effects.specs.Invariant.{AreKnown, PartsInvariant}
use Rattle.iom_world_effects.specs.Parts.{Parts}
use Rattle.iom_world_effects.specs.Processor.{PokesBytes, StoresIfAny}
use Rattle.iom_world_effects.specs.Recovery.{RevivesDevice}
use Rattle.iom_world_effects.proofs.InvariantLemmas.{none_at}
use Rattle.iom_world_effects.proofs.PresentLemmas.{kind_absent, kind_present, known_absent}
use Rattle.iom_world_invariant.proofs.DriverKeeps.{not_false}
use Rattle.iom_world_invariant.proofs.ReleaseKeeps.{rung_all}
use Rattle.iom_world_refinement.proofs.PlugRefused.{lacks_disk, no_memory, plugged_already, plugged_many}
use Rattle.iom_world.proofs.InParts.{parts_with}
use Rattle.iom_world.proofs.OfHardware.{hardware_invariant, hardware_sound}

-- A CALL OF A DEVICE THAT THE DRIVER KNOWS

-- it is there
pub there_if_known : (parts : Parts) (id : ℕ) → AreKnown parts → has_device parts.driver.devices id ≡ true → kind_in parts.devices id ≢ None
there_if_known parts id known has none = false≢true (sym (known_absent parts.driver.devices parts.devices id known.driver (kind_absent parts.devices id none)) ∙ has)

-- so a call that any device takes isn't refused
pub any_effect : {Call : BoardParts → Unit {0} → BoardParts → Type 0} (old : BoardParts) (id : ℕ) (answer : Result (Unit {0}) Refusal) (new : BoardParts) → kind_in old.devices id ≢ None
    → ByDevice is_any_kind Call old id answer new → HasEffect is_any_kind Call old id answer new
any_effect old id answer new there (inl none) = absurd (there none.absent)
any_effect old id answer new there (inr (inl wrong)) = absurd (false≢true (sym wrong.cannot))
any_effect old id answer new there (inr (inr effect)) = effect

-- A PLUG

-- the driver is ready beside hardware that has the same memory and registers
pub ready_beside : (old new : Parts) → IsReady new.driver old.memory (registers_of old.iommu) → new.memory ≡ old.memory → registers_of new.iommu ≡ registers_of old.iommu
    → IsReady new.driver new.memory (registers_of new.iommu)
ready_beside old new ready memory registers = rw (memory, registers) ready

-- nothing is against the device but what stands in front of the driver's reasons, or for want of memory
pub unprepared : (disks : List ℕ) (old : Parts) (id : ℕ) (what : NewDevice) (why : Refusal) → AreKnown old → MayBePlugged disks (hardware_of old) id what (Err why)
    → PlugsDevice disks old id what (outcome.Refused why) old
unprepared disks old id what why known refused =
    by (kind_in old.devices id) (nat_le 16 (length old.devices)) (is_missing disks (disk_of what)) refl refl refl refused
  where
    by : (kind : Option DeviceKind) (many missing : Bool) → kind_in old.devices id ≡ kind → nat_le 16 (length old.devices) ≡ many → is_missing disks (disk_of what) ≡ missing
        → IsRefusedBy ((is_some kind, AlreadyPlugged) ∷ (many, TooManyDevices) ∷ (missing, BadMedium) ∷ []) IsForWantOfMemory why → PlugsDevice disks old id what (outcome.Refused why) old
    by (Some kind) many missing is n m reason = rw reason (plugged_already disks old id what known (kind_present old.devices id kind is))
    by None true missing is n m reason = rw reason (plugged_many disks old id what known (kind_absent old.devices id is) (leb-true 16 (length old.devices) n))
    by None false true is n m reason = rw reason (lacks_disk disks old id what known (kind_absent old.devices id is) (leb-false 16 (length old.devices) n) m)
    by None false false is n m reason = rw reason (inr (record {
      answer = Err Memory;
      reply_is = refl;
      call = no_memory old.driver old.devices id (has_cache (kind_of what)) known.driver (kind_absent old.devices id is) (leb-false 16 (length old.devices) n);
      disk = λ none. m;
      row = refl;
      devices = refl;
      memory = refl;
      fabric = refl;
    }))

-- where nothing is, the disk is at hand
disk_there : (disks : List ℕ) (old : BoardParts) (id : ℕ) (what : NewDevice) → NoneApplies (why_not_plugged disks old id what) → is_missing disks (disk_of what) ≡ false
disk_there disks old id what none = none_at (why_not_plugged disks old id what) 2 _ BadMedium refl none

-- the driver refuses it all the same
pub refused_by_driver : (disks : List ℕ) (old new : Parts) (id : ℕ) (what : NewDevice) (why : Refusal) → NoneApplies (why_not_plugged disks (hardware_of old) id what)
    → AnswersPlug old.driver id (has_cache (kind_of what)) (Err why) new.driver → hardware_of new ≡ hardware_of old → PlugsIn disks old id what (outcome.Refused why) new
refused_by_driver disks old new id what why none call same = record {
  answer = Err why;
  reply_is = refl;
  call = call;
  disk = λ admitted. disk_there disks (hardware_of old) id what none;
  row = ap (λ (h : BoardParts). h.iommu) same;
  devices = ap (λ (h : BoardParts). h.devices) same;
  memory = ap (λ (h : BoardParts). h.memory) same;
  fabric = ap (λ (h : BoardParts). h.fabric) same;
}

-- the hardware doesn't refuse it, since nothing is against it, and there is room
pub plugs : (disks found left : List ℕ) (old ready new : BoardParts) (id : ℕ) (what : NewDevice) (answer : Result (Unit {0}) Refusal) → NoneApplies (why_not_plugged disks old id what)
    → answer ≢ Err Memory → ready ≡ old → found ≡ disks → PlugsNewDevice found ready id what answer new left → (answer ≡ Ok tt) × StandsBehindOthers disks old id what new left
plugs disks found left old ready new id what answer none room same kept call = by answer room (rw (same, kept) at call)
  where
    by : (answer : Result (Unit {0}) Refusal) → answer ≢ Err Memory → PlugsNewDevice disks old id what answer new left → (answer ≡ Ok tt) × StandsBehindOthers disks old id what new left
    by (Ok done) room stands = (refl, stands)
    by (Err why) room (refused, same, kept) = let want : why ≡ Memory = rw none at refused in absurd (room (ap Err want))

-- both have it
pub plugged_in_parts : (disks left : List ℕ) (old new : Parts) (id : ℕ) (what : NewDevice) → AnswersPlug old.driver id (has_cache (kind_of what)) (Ok tt) new.driver
    → StandsBehindOthers disks (hardware_of old) id what (hardware_of new) left → PlugsIn disks old id what outcome.Done new
plugged_in_parts disks left old new id what call stands = record {
  answer = Ok tt;
  reply_is = refl;
  call = call;
  disk = λ admitted. disk_there disks (hardware_of old) id what stands.admitted;
  row = stands.row;
  devices = stands.devices;
  memory = stands.memory;
  fabric = stands.fabric;
}

-- hardware is sound on a board that is the same but for room
pub same_board : {D : Type 0} {d : Ghosts D} (world : World D d) (hardware : Hardware D d) → hardware.blocks ≡ world.hardware.blocks → hardware.at_hand ≡ world.hardware.at_hand
    → board_parts hardware.board ≡ board_parts world.hardware.board → disks_at_hand hardware.board ≡ disks_at_hand world.hardware.board → hardware.board.events ≡ world.hardware.board.events
    → HardwareInvariant hardware
same_board world hardware blocks at_hand parts disks events =
    let before = hardware_invariant world in
    record {
      board = rw (parts, events) before.board;
      agrees = rw (blocks, at_hand, disks, ap (λ (h : BoardParts). h.devices) parts) before.agrees;
      room = rw blocks before.room;
    }

-- A DETACH

-- what the driver did to detach a device is what software may do
pub board_keeps : (old between : Parts) (events id : ℕ) (ticket : Ticket) → PartsInvariant old events
    → AnswersDetach mmio old.driver old.memory old.iommu id (Ok ticket) between.driver between.memory between.iommu → IsReady between.driver between.memory (registers_of between.iommu)
    → between.devices ≡ old.devices → between.fabric ≡ old.fabric → BoardInvariant (hardware_of between) events
board_keeps old between events id ticket invariants call ready devices fabric =
    let queues = call.effect in
    let rung =
    rung_all (detach_commands id queues.stage (completion_address (length old.memory)) (last_fence old.driver + 1))
    (without_context old.memory (root_level old.driver.levels) (directory_frame (length old.memory)) id) between.memory old.iommu between.iommu queues.queued in
    software_keeps (hardware_of old) (hardware_of between) events (hardware_sound old events invariants)
    record {
      size = ready.stand.size ∙ ap (λ (d : DriverState). length d.owners) queues.driver ∙ sym invariants.ready.stand.size;
      frames = rung.frames;
      flights = rung.flights;
      last = ap (λ (slots : OpenSlots). slots.last) (rung.slots (invariants.ready.ring invariants.started).on);
      devices = devices;
      fabric = fabric;
    }

-- and the device is one that it knew: so its disk goes
pub loses_disk : (old between new : Parts) (id : ℕ) (ticket : Ticket) (answer : Result (Unit {0}) Refusal) → AreKnown old
    → AnswersDetach mmio old.driver old.memory old.iommu id (Ok ticket) between.driver between.memory between.iommu → between.devices ≡ old.devices
    → LosesDisk (hardware_of between) id answer (hardware_of new) → IsOk answer × LetsDiskGo id (hardware_of between) tt (hardware_of new)
loses_disk old between new id ticket answer known call devices loses =
    let there = there_if_known old id known (attached_there old.driver.devices id call.effect.stage call.effect.attached) in
    let effect = any_effect (hardware_of between) id answer (hardware_of new) (λ none. there (ap (λ (ds : List Device). kind_in ds id) (sym devices) ∙ none)) loses in
    (rw effect.answered refl, record { gone = effect.call.gone })

-- which the driver doesn't see
pub ready_without_disk : (between new : Parts) (id : ℕ) → new.driver ≡ between.driver → LetsDiskGo id (hardware_of between) tt (hardware_of new) → IsReady between.driver between.memory (registers_of between.iommu)
    → IsReady new.driver new.memory (registers_of new.iommu)
ready_without_disk between new id driver goes ready = rw (parts_with between new _ goes.gone driver) ready

-- the driver detaches it, and then its disk goes
pub detached_in_parts : (old between new : Parts) (id : ℕ) (ticket : Ticket) → AnswersDetach mmio old.driver old.memory old.iommu id (Ok ticket) between.driver between.memory between.iommu
    → between.devices ≡ old.devices → between.fabric ≡ old.fabric → new.driver ≡ between.driver → LetsDiskGo id (hardware_of between) tt (hardware_of new)
    → DetachesDevice old id (outcome.Ticket ticket.0) new
detached_in_parts old between new id ticket call devices fabric driver goes =
    let is = parts_with between new _ goes.gone driver in
    record {
      answer = Ok ticket;
      reply_is = refl;
      call = rw is call;
      devices = ap (λ (parts : Parts). parts.devices) is ∙ ap (λ (ds : List Device). with_block_reset (with_has_disk ds id false) id) devices;
      fabric = ap (λ (parts : Parts). parts.fabric) is ∙ fabric;
    }

-- A REVIVAL

-- a device that the driver may revive is one that it knows
pub revived_known : (d : DriverState) (id : ℕ) → NoneApplies (why_not_revive d id) → has_device d.devices id ≡ true
revived_known d id none = not_false (has_device d.devices id) (none_at (why_not_revive d id) 1 _ NoSuchDevice refl none)

-- and it isn't refused
pub revives : (d d' : DriverState) (memory memory' : List (List ℕ)) (id : ℕ) (answer : Result (Unit {0}) Refusal) → NoneApplies (why_not_revive d id) → AnswersRevive d memory id answer d' memory'
    → answer ≡ Ok tt
revives d d' memory memory' id (Ok done) none call = refl
revives d d' memory memory' id (Err why) none call = absurd (never (sym none ∙ call.0))
  where
    never : ◌≡◌ {A = Option Refusal} None (Some why) → ⊥
    never same = cc

-- so it is reset
pub resets : (old new : Parts) (id : ℕ) (answer : Result (Unit {0}) Refusal) → AreKnown old → NoneApplies (why_not_revive old.driver id) → ResetsAnyDevice (hardware_of old) id answer (hardware_of new)
    → IsOk answer × ClearsCache id (hardware_of old) tt (hardware_of new)
resets old new id answer known none call =
    let effect = any_effect (hardware_of old) id answer (hardware_of new) (there_if_known old id known (revived_known old.driver id none)) call in
    (rw effect.answered refl, record { cleared = effect.call.cleared })

-- to the driver the reset is none
pub ready_after_reset : (old between : Parts) (id : ℕ) → between.driver ≡ old.driver → ClearsCache id (hardware_of old) tt (hardware_of between) → IsReady old.driver old.memory (registers_of old.iommu)
    → IsReady between.driver between.memory (registers_of between.iommu)
ready_after_reset old between id driver clears ready = rw (parts_with old between _ clears.cleared driver) ready

-- the device is reset, and then the driver attaches it
pub revived_in_parts : (old between new : Parts) (id : ℕ) → between.driver ≡ old.driver → ClearsCache id (hardware_of old) tt (hardware_of between)
    → AnswersRevive between.driver between.memory id (Ok tt) new.driver new.memory → new.iommu ≡ between.iommu → new.devices ≡ between.devices → new.fabric ≡ between.fabric
    → RevivesDevice old id outcome.Done new
revived_in_parts old between new id driver clears call iommu devices fabric =
    let is = parts_with old between _ clears.cleared driver in
    record {
      answer = Ok tt;
      reply_is = refl;
      call = rw is at call;
      devices = devices ∙ ap (λ (parts : Parts). parts.devices) is;
      iommu = iommu ∙ ap (λ (parts : Parts). parts.iommu) is;
      fabric = fabric ∙ ap (λ (parts : Parts). parts.fabric) is;
    }

-- A POKE

-- where memory alone changes the same block devices are known
pub known_as_before : (old new : BoardParts) (memory : List (List ℕ)) → new ≡ record old { memory = memory } → known_blocks new.devices ≡ known_blocks old.devices
known_as_before old new memory rest = ap (λ (h : BoardParts). known_blocks h.devices) rest

-- the processor's bytes stand in a frame that isn't reserved
stored_in_parts : (old : Parts) (memory : List (List ℕ)) (address : ℕ) (bytes : List ℕ) (answer : Result (Unit {0}) NoPlace)
    → (FitsInPage address (length bytes) → address / page_size < length old.memory → has_owner old.driver.owners (address / page_size) ≡ false)
    → ProcessorWrites old.memory address bytes answer memory → StoresIfAny old address bytes (outcome_of_store answer) memory
stored_in_parts old memory address bytes (Ok done) unreserved stores = record {
  fits = stores.fits;
  inside = stores.inside;
  unreserved = unreserved stores.fits stores.inside;
  before = stores.before;
  there = stores.there;
  stored = stores.stored;
}
stored_in_parts old memory address bytes (Err BadSpan) unreserved refused = refused
stored_in_parts old memory address bytes (Err OutsideMemory) unreserved ((fits, outside), same) = (fits, outside, same)

pub poked_in_parts : (old new : Parts) (address : ℕ) (bytes : List ℕ) (answer : Result (Unit {0}) NoPlace)
    → (FitsInPage address (length bytes) → address / page_size < length old.memory → has_owner old.driver.owners (address / page_size) ≡ false)
    → ProcessorWrites old.memory address bytes answer new.memory → hardware_of new ≡ record (hardware_of old) { memory = new.memory } → new.driver ≡ old.driver
    → PokesBytes old address bytes (outcome_of_store answer) new
poked_in_parts old new address bytes answer unreserved writes rest driver = record {
  memory = stored_in_parts old new.memory address bytes answer unreserved writes;
  iommu = ap (λ (h : BoardParts). h.iommu) rest;
  driver = driver;
  devices = ap (λ (h : BoardParts). h.devices) rest;
  fabric = ap (λ (h : BoardParts). h.fabric) rest;
}
