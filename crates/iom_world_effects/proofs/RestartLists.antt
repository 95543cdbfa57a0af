-- The commands of a restart for the devices that the driver knows are those that the facts on copies speak of, in the order of plugging.
use Rattle.std.proofs.Common.{◌≡◌, ℕ, suc, Bool, true, false, List, [], ◌∷◌, ◌++◌, map, Contains, Option, Some, slice_get, inl, inr, refl, sym, ap, subst}
use Rattle.std.specs.Option.{option_map}
use Rattle.std.proofs.lemmas.Bool.Decides.{eqb_tells}
use Rattle.std.proofs.lemmas.List.{map-append}
use Rattle.iom_command_queue.specs.declared.entry.QueueEntry.TheVariants.{Command}
use Rattle.iom_coherence.specs.Attachments.{IsKnown}
use Rattle.iom_coherence.specs.DriverCalls as copies
use Rattle.iom_coherence.proofs.ListLemmas.{contains_head, contains_tail}
use Rattle.iom_driver.specs.declared.device.Attachment as driver
use Rattle.iom_driver.specs.declared.device.Attachment.TheVariants as attached
use Rattle.iom_driver.specs.declared.device.Device.{Device}
use Rattle.iom_driver.specs.declared.device.Stages.{Stages}
use Rattle.iom_driver.specs.Appends.{context_invalidation, space_invalidation, fence}
use Rattle.iom_driver.specs.Devices.{attachment_by_id, owned_stages, is_attached_with_ats, HaveOwnIds}
use Rattle.iom_driver.specs.Restarts.{device_reset, requeued_for, requeued, all_requeued, restart_commands}
use Rattle.iom_driver.proofs.Ids.{device_at}
use Rattle.iom_driver.proofs.Places.{attachment_is}
use Rattle.iom_machine.specs.declared.state.Attachment.{Attachment}
use Rattle.iom_machine.specs.declared.state.Attachment.TheVariants as shown
use Rattle.iom_tlb.specs.declared.space.Space.{Space}
use Rattle.iom_world_effects.specs.Devices.{shown_attachment}
use Rattle.iom_world_effects.specs.Queued.{AreQueuedAs}
use Rattle.iom_world_effects.specs.Read.{space_in, space_at}
use Rattle.iom_world_effects.specs.Invariant.{known_ids}
use Rattle.iom_world_effects.proofs.QueuedLemmas.{queued_append, queued_space}

-- the address space of a device that is attached so
abbrev space_of : driver.Attachment → Option Space
space_of a = option_map (λ (stage : Stages). space_in stage.mode stage.number) (owned_stages a)

-- those of an attached device, with ATS or without
queued_attached : (address : ℕ) (spaces : ℕ → Option Space) (id : ℕ) (stage : Stages) (ats : Bool) → spaces id ≡ Some (space_in stage.mode stage.number)
    → AreQueuedAs address spaces (map Command (context_invalidation id ∷ space_invalidation stage.mode stage.number ∷ device_reset id ats)) (copies.queued_again id (shown.Attached stage.mode ats))
queued_attached address spaces id stage true own = (refl, (queued_space address spaces stage.mode stage.number id own, ((refl, refl), tt)))
queued_attached address spaces id stage false own = (refl, (queued_space address spaces stage.mode stage.number id own, tt))

-- those of a device, however it is attached
queued_one : (address : ℕ) (spaces : ℕ → Option Space) (id : ℕ) (a : driver.Attachment) → spaces id ≡ space_of a
    → AreQueuedAs address spaces (map Command (requeued_for id (owned_stages a) (is_attached_with_ats a))) (copies.queued_again id (shown_attachment a))
queued_one address spaces id attached.Detached own = tt
queued_one address spaces id (attached.Attached stage) own = queued_attached address spaces id stage stage.ats own
queued_one address spaces id (attached.Quarantined ticket stage) own = (refl, (queued_space address spaces stage.mode stage.number id own, tt))
queued_one address spaces id (attached.Leaving ticket stage) own = (refl, (queued_space address spaces stage.mode stage.number id own, tt))

-- each of these devices is attached so, and has this address space
abbrev AreThese : (ℕ → Attachment) → (ℕ → Option Space) → List Device → Type 0
AreThese how spaces devices = (k : ℕ) (device : Device) → slice_get devices k ≡ Some device
    → (how device.id ≡ shown_attachment device.attachment) × (spaces device.id ≡ space_of device.attachment)

queued_these : (address : ℕ) (spaces : ℕ → Option Space) (how : ℕ → Attachment) (devices : List Device) → AreThese how spaces devices
    → AreQueuedAs address spaces (map Command (all_requeued devices)) (copies.all_queued_again how (known_ids devices))
queued_these address spaces how [] these = tt
queued_these address spaces how (device ∷ others) these =
    let own = these 0 device refl in
    let first = subst (λ a. AreQueuedAs address spaces (map Command (requeued device)) (copies.queued_again device.id a)) (sym own.0) (queued_one address spaces device.id device.attachment own.1) in
    subst (λ l. AreQueuedAs address spaces l (copies.all_queued_again how (known_ids (device ∷ others)))) (sym (map-append Command (requeued device) (all_requeued others)))
    (queued_append address spaces (map Command (requeued device)) (map Command (all_requeued others)) (copies.queued_again device.id (how device.id)) (copies.all_queued_again how (known_ids others)) first
    (queued_these address spaces how others (λ k other at. these (suc k) other at)))

-- THE COMMANDS for all devices, each of which has an id of its own
pub queued_requeued : (address : ℕ) (devices : List Device) → HaveOwnIds devices
    → AreQueuedAs address (space_at devices) (map Command (all_requeued devices)) (copies.all_queued_again (λ id. shown_attachment (attachment_by_id devices id)) (known_ids devices))
queued_requeued address devices own =
    queued_these address (space_at devices) (λ id. shown_attachment (attachment_by_id devices id)) devices
    (λ k device at.
    let is = attachment_is devices device.id device (device_at devices k device own at) in
    (ap shown_attachment is, ap space_of is))

-- and the one fence behind them
pub restart_last : (devices : List Device) (address number : ℕ) → map Command (restart_commands devices address number) ≡ map Command (all_requeued devices) ++ Command (fence address number) ∷ []
restart_last devices address number = map-append Command (all_requeued devices) (fence address number ∷ [])

-- no device that is attached, quarantined or leaving is left out
pub known_there : (devices : List Device) (id : ℕ) → IsKnown (shown_attachment (attachment_by_id devices id)) → Contains (known_ids devices) id
known_there [] id known = cc
known_there (device ∷ others) id known = elim (eqb_tells device.id id) [
  | inl e ↦ subst (λ n. Contains (known_ids (device ∷ others)) n) e.1 (contains_head device.id (known_ids others))
  | inr ne ↦ contains_tail device.id (known_ids others) id (known_there others id (rw ne.0 at known))
]
