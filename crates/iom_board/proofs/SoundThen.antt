-- What stays true of a board, by what changes.
use Rattle.std.proofs.Common.{◌≡◌, ◌+◌, ◌≤◌, ◌∙◌, ℕ, List, length, refl, sym, ap, subst, arith}
use Rattle.std.specs.List.{All}
use Rattle.iom_command_queue.specs.OpenSlots.{OpenSlots}
use Rattle.iom_device.specs.declared.device.Device.{Device}
use Rattle.iom_device.specs.Caches.{epoch_in, HaveTheirCaches}
use Rattle.iom_fabric.specs.declared.fabric.OnLink.{OnLink}
use Rattle.iom_iommu.specs.Parts.{flights_of, slots_of, frames_of}
use Rattle.iom_board.specs.BoardParts.{BoardParts}
use Rattle.iom_iommu.specs.OwnIommu.{Iommu}
use Rattle.iom_board.specs.Invariant.{device_ids, flight_ids, IsMessageOf, BoardInvariant}
use Rattle.iom_board.proofs.DeviceLists.{own_ids_kept, length_kept, messages_kept}

-- as many frames, the same rows by id, and no more accepted and no more serials than events, one more included
pub record KeepsIommu (old new : Iommu) (events : ℕ) : Type 0 where
  pub frames : frames_of new ≡ frames_of old
  pub rows : flight_ids (flights_of new).rows ≡ flight_ids (flights_of old).rows
  pub accepted : (flights_of new).so_far ≤ events + 1
  pub serials : (slots_of new).last ≤ events + 1

-- the same devices by id, with their caches, and no epoch above the events, one more included
pub record KeepsDevices (old new : List Device) (events : ℕ) : Type 0 where
  pub ids : device_ids new ≡ device_ids old
  pub caches : HaveTheirCaches new
  pub epochs : (id : ℕ) → epoch_in new id ≤ events + 1

pub sound_then : (old new : BoardParts) (events : ℕ) → BoardInvariant old events → length new.memory ≡ length old.memory → KeepsIommu old.iommu new.iommu events
    → KeepsDevices old.devices new.devices events → All (IsMessageOf old.devices) new.fabric → BoardInvariant new (events + 1)
sound_then old new events invariants memory iommu devices fabric = record {
  size = iommu.frames ∙ invariants.size ∙ sym memory;
  own_ids = own_ids_kept old.devices new.devices devices.ids invariants.own_ids;
  rows = iommu.rows ∙ invariants.rows ∙ sym devices.ids;
  caches = devices.caches;
  askers = messages_kept old.devices new.devices new.fabric devices.ids fabric;
  accepted = iommu.accepted;
  serials = iommu.serials;
  epochs = devices.epochs;
}

-- all that stays the same is kept
pub iommu_kept : (old : BoardParts) (iommu : Iommu) (events : ℕ) → BoardInvariant old events → frames_of iommu ≡ frames_of old.iommu → flights_of iommu ≡ flights_of old.iommu
    → slots_of iommu ≡ slots_of old.iommu → KeepsIommu old.iommu iommu events
iommu_kept old iommu events invariants frames flights slots = record {
  frames = frames;
  rows = ap (λ f. flight_ids f.rows) flights;
  accepted = subst (λ f. f.so_far ≤ events + 1) (sym flights) (let low = invariants.accepted in omega (arith, low));
  serials = subst (λ (s : OpenSlots). s.last ≤ events + 1) (sym slots) (let low = invariants.serials in omega (arith, low));
}

pub devices_kept : (old : BoardParts) (devices : List Device) (events : ℕ) → BoardInvariant old events → devices ≡ old.devices → KeepsDevices old.devices devices events
devices_kept old devices events invariants same = subst (λ ds. KeepsDevices old.devices ds events) (sym same) (record {
  ids = refl;
  caches = invariants.caches;
  epochs = λ id. let low = invariants.epochs id in omega (arith, low);
})

pub fabric_kept : (old : BoardParts) (fabric : List OnLink) (events : ℕ) → BoardInvariant old events → fabric ≡ old.fabric → All (IsMessageOf old.devices) fabric
fabric_kept old fabric events invariants same = subst (All (IsMessageOf old.devices)) (sym same) invariants.askers

-- an event that changes nothing is counted
pub sound_more : (old : BoardParts) (events : ℕ) → BoardInvariant old events → BoardInvariant old (events + 1)
sound_more old events invariants =
    sound_then old old events invariants refl (iommu_kept old old.iommu events invariants refl refl refl) (devices_kept old old.devices events invariants refl) invariants.askers

-- only messages change, or devices
pub fabric_sound : (old : BoardParts) (fabric : List OnLink) (events : ℕ) → BoardInvariant old events → All (IsMessageOf old.devices) fabric → BoardInvariant (record old { fabric = fabric }) (events + 1)
fabric_sound old fabric events invariants messages =
    sound_then old (record old { fabric = fabric }) events invariants refl (iommu_kept old old.iommu events invariants refl refl refl) (devices_kept old old.devices events invariants refl) messages

pub devices_sound : (old : BoardParts) (devices : List Device) (events : ℕ) → BoardInvariant old events → KeepsDevices old.devices devices events
    → BoardInvariant (record old { devices = devices }) (events + 1)
devices_sound old devices events invariants keeps =
    sound_then old (record old { devices = devices }) events invariants refl (iommu_kept old old.iommu events invariants refl refl refl) keeps invariants.askers

pub memory_sound : (old : BoardParts) (memory : List (List ℕ)) (events : ℕ) → BoardInvariant old events → length memory ≡ length old.memory
    → BoardInvariant (record old { memory = memory }) (events + 1)
memory_sound old memory events invariants same =
    sound_then old (record old { memory = memory }) events invariants same (iommu_kept old old.iommu events invariants refl refl refl) (devices_kept old old.devices events invariants refl) invariants.askers
