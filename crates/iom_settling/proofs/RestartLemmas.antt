-- A restart leaves a queue that can be worked off.
use Rattle.std.proofs.Common.{◌≡◌, ◌+◌, ◌*◌, ◌≤◌, ◌∙◌, ℕ, suc, Bool, true, false, List, [], ◌∷◌, ◌++◌, length, map, Contains, Option, Some, None, slice_get, refl, sym, ap, subst, arith}
use Rattle.std.proofs.Math.Logic.{∥∥₁_elim}
use Rattle.std.proofs.Math.Nat.{max-eq_right}
use Rattle.std.proofs.Props.{props}
use Rattle.std.proofs.lemmas.Bool.{false≢true}
use Rattle.iom_command_queue.specs.declared.command.Command.{Command}
use Rattle.iom_command_queue.specs.declared.entry.QueueEntry.TheVariants as stands
use Rattle.iom_command_queue.specs.declared.slot.Slot.{Slot}
use Rattle.iom_command_queue.specs.OpenSlots.{OpenSlots}
use Rattle.iom_base.specs.declared.mode.Mode.{Mode}
use Rattle.iom_base.specs.declared.mode.Mode.TheVariants.{First, Second, Both}
use Rattle.iom_coherence.specs.Attachments.{caches_translations}
use Rattle.iom_coherence.specs.Faithful.{IsFaithful}
use Rattle.iom_coherence.specs.Scene.{Scene}
use Rattle.iom_coherence.proofs.ListLemmas.{in_none}
use Rattle.iom_device.specs.Caches.{kind_in}
use Rattle.iom_driver.specs.declared.device.Attachment.{Attachment}
use Rattle.iom_driver.specs.declared.device.Attachment.TheVariants.{Detached, Attached, Quarantined, Leaving}
use Rattle.iom_driver.specs.declared.device.Device.{Device}
use Rattle.iom_driver.specs.declared.device.Stages.{Stages}
use Rattle.iom_driver.specs.Appends.{context_invalidation, space_invalidation}
use Rattle.iom_driver.specs.Devices.{attachment_by_id, owned_stages, is_attached_with_ats}
use Rattle.iom_driver.specs.Fences.{last_fence}
use Rattle.iom_driver.specs.Layout.{completion_address}
use Rattle.iom_driver.specs.Restarts.{turned_off_and_on, device_reset, requeued_for, requeued, all_requeued, restart_commands, QueuesRestart}
use Rattle.iom_driver.specs.State.{DriverState}
use Rattle.iom_driver.proofs.Ids.{device_at}
use Rattle.iom_driver.proofs.Places.{attachment_is}
use Rattle.iom_iommu.specs.Parts.{registers_of, flights_of, slots_of, mmio}
use Rattle.iom_registers.specs.Queues.{is_command_queue_on, is_processing_commands}
use Rattle.iom_iommu.specs.OwnIommu.{Iommu}
use Rattle.iom_world_effects.specs.Parts.{Parts}
use Rattle.iom_world_effects.specs.Read.{values_of}
use Rattle.iom_world_effects.specs.Scenes.{IsSceneOf}
use Rattle.iom_world_effects.specs.Invariant.{PartsInvariant}
use Rattle.iom_world_effects.proofs.DriverLemmas.{DriverInvariant}
use Rattle.iom_world_invariant.proofs.ReleaseKeeps.{IsRung, rung_all}
use Rattle.iom_settling.specs.CatchingUp.{HasCache, NothingIsInFlight, WaitFor, CatchesUp}
use Rattle.iom_settling.specs.Commands.{requests_among, ArePlain}
use Rattle.iom_settling.proofs.CommandLemmas.{requests_append, plain_append}
use Rattle.iom_settling.proofs.WordLemmas.{words_of_none}

-- THE COMMANDS of a restart: of each device three at most, and one request to invalidate at most
requests_reset : (id : ℕ) (ats : Bool) → requests_among (device_reset id ats) ≤ 1
requests_reset id true = omega arith
requests_reset id false = omega arith

plain_reset : (Obeys : ℕ → Type 0) (id : ℕ) (ats : Bool) → (ats ≡ true → Obeys id) → ArePlain Obeys (device_reset id ats)
plain_reset Obeys id true obeys = (obeys refl, tt)
plain_reset Obeys id false obeys = tt

length_reset : (id : ℕ) (ats : Bool) → length (device_reset id ats) ≤ 1
length_reset id true = omega arith
length_reset id false = omega arith

requests_stage : (id : ℕ) (ats : Bool) (mode : Mode) (number : ℕ) → requests_among (context_invalidation id ∷ space_invalidation mode number ∷ device_reset id ats) ≤ 1
requests_stage id ats (First size) number = let reset = requests_reset id ats in omega (arith, reset)
requests_stage id ats (Second size) number = let reset = requests_reset id ats in omega (arith, reset)
requests_stage id ats (Both size) number = let reset = requests_reset id ats in omega (arith, reset)

plain_stage : (Obeys : ℕ → Type 0) (id : ℕ) (ats : Bool) (mode : Mode) (number : ℕ) → (ats ≡ true → Obeys id)
    → ArePlain Obeys (context_invalidation id ∷ space_invalidation mode number ∷ device_reset id ats)
plain_stage Obeys id ats (First size) number obeys = (tt, (tt, plain_reset Obeys id ats obeys))
plain_stage Obeys id ats (Second size) number obeys = (tt, (tt, plain_reset Obeys id ats obeys))
plain_stage Obeys id ats (Both size) number obeys = (tt, (tt, plain_reset Obeys id ats obeys))

requests_one : (id : ℕ) (stages : Option Stages) (ats : Bool) → requests_among (requeued_for id stages ats) ≤ 1
requests_one id None ats = omega arith
requests_one id (Some stage) ats = requests_stage id ats stage.mode stage.number

length_one : (id : ℕ) (stages : Option Stages) (ats : Bool) → length (requeued_for id stages ats) ≤ 3
length_one id None ats = omega arith
length_one id (Some stage) ats = let reset = length_reset id ats in omega (arith, reset)

plain_one : (Obeys : ℕ → Type 0) (id : ℕ) (stages : Option Stages) (ats : Bool) → (ats ≡ true → Obeys id) → ArePlain Obeys (requeued_for id stages ats)
plain_one Obeys id None ats obeys = tt
plain_one Obeys id (Some stage) ats obeys = plain_stage Obeys id ats stage.mode stage.number obeys

pub requests_all : (devices : List Device) → requests_among (all_requeued devices) ≤ length devices
requests_all [] = omega arith
requests_all (device ∷ others) =
    let first = requests_one device.id (owned_stages device.attachment) (is_attached_with_ats device.attachment) in
    let rest = requests_all others in
    let both = requests_append (requeued device) (all_requeued others) in
    omega (arith, first, rest, both)

length_both : (one other : List Command) → length (one ++ other) ≡ length one + length other
length_both [] other = omega arith
length_both (command ∷ later) other = let rest = length_both later other in omega (arith, rest)

pub length_all : (devices : List Device) → length (all_requeued devices) ≤ 3 * length devices
length_all [] = omega arith
length_all (device ∷ others) =
    let first = length_one device.id (owned_stages device.attachment) (is_attached_with_ats device.attachment) in
    let rest = length_all others in
    let both = length_both (requeued device) (all_requeued others) in
    omega (arith, first, rest, both)

plain_all : (Obeys : ℕ → Type 0) (devices : List Device) → ((k : ℕ) (device : Device) → slice_get devices k ≡ Some device → is_attached_with_ats device.attachment ≡ true → Obeys device.id)
    → ArePlain Obeys (all_requeued devices)
plain_all Obeys [] obeys = tt
plain_all Obeys (device ∷ others) obeys =
    plain_append Obeys (requeued device) (all_requeued others)
    (plain_one Obeys device.id (owned_stages device.attachment) (is_attached_with_ats device.attachment) (obeys 0 device refl))
    (plain_all Obeys others (λ k other at. obeys (suc k) other at))

-- A DEVICE THAT IS ATTACHED WITH ATS HAS A CACHE
bool_prop : (a b : Bool) → IsProp (a ≡ b)
bool_prop a b = hlevel props

pub asks_so_caches : (parts : Parts) (events id : ℕ) (a : Attachment) → PartsInvariant parts events → attachment_by_id parts.driver.devices id ≡ a → is_attached_with_ats a ≡ true → HasCache parts.devices id
asks_so_caches parts events id Detached invariants is ats = absurd (false≢true ats)
asks_so_caches parts events id (Quarantined ticket stage) invariants is ats = absurd (false≢true ats)
asks_so_caches parts events id (Leaving ticket stage) invariants is ats = absurd (false≢true ats)
asks_so_caches parts events id (Attached stage) invariants is ats =
    ∥∥₁_elim invariants.copies (bool_prop (caches_translations (kind_in parts.devices id)) true) (λ (scene, shows, facts). by scene shows facts.copies)
  where
    by : (scene : Scene) → IsSceneOf (values_of parts) scene → IsFaithful scene → caches_translations (kind_in parts.devices id) ≡ true
    by scene shows facts =
        ap caches_translations (sym (shows.kinds id))
        ∙ facts.order.cached id (rw (shows.attachments id, is) ats)

-- THE QUEUE IS TURNED OFF AND ON
pub record IsEmptied (old new : Iommu) : Type 0 where
  pub on : is_command_queue_on (registers_of new) ≡ true
  pub status : is_processing_commands (registers_of new) ≡ true
  pub slots : (slots_of new).open_slots ≡ []
  pub flights : flights_of new ≡ flights_of old

emptied_at_once : (old : Iommu) → is_command_queue_on (registers_of old) ≡ true → IsEmptied old (turned_off_and_on mmio old)
emptied_at_once old on = record { on = rw on refl; status = rw on refl; slots = rw on refl; flights = refl }

emptied_rung : (old mid new : Iommu) → IsEmptied old mid → IsRung mid new → IsEmptied old new
emptied_rung old mid new emptied rung = record {
  on = rung.on ∙ emptied.on;
  status = rw rung.status emptied.status;
  slots = ap (λ (s : OpenSlots). s.open_slots) (rung.slots emptied.on) ∙ emptied.slots;
  flights = rung.flights ∙ emptied.flights;
}

-- each ticket that was given waits for the restart's fence
wait_for_it : (d : DriverState) → WaitFor (record d { restarts = d.restarts + 1; restarted = d.given }) (last_fence d + 1)
wait_for_it d ticket low = ap (λ n. n + (d.restarts + 1)) (max-eq_right low) ∙ omega arith

known_few : (parts : Parts) (events : ℕ) → PartsInvariant parts events → DriverInvariant parts.driver → length parts.driver.devices ≤ 16
known_few parts events invariants own = own.few

-- A RESTART
pub restarted : (old new : Parts) (events later : ℕ) → PartsInvariant old events → PartsInvariant new later → DriverInvariant old.driver → NothingIsInFlight old → old.fabric ≡ []
    → QueuesRestart mmio old.driver old.memory old.iommu new.driver new.memory new.iommu → new.devices ≡ old.devices → new.fabric ≡ old.fabric
    → CatchesUp new (last_fence old.driver + 1) (all_requeued old.driver.devices)
restarted old new events later invariants after own idle quiet queues devices fabric =
    let emptied : IsEmptied old.iommu new.iommu =
    emptied_rung old.iommu (turned_off_and_on mmio old.iommu) new.iommu (emptied_at_once old.iommu (invariants.ready.ring invariants.started).on)
    (rung_all (restart_commands old.driver.devices (completion_address (length old.memory)) (last_fence old.driver + 1)) old.memory new.memory (turned_off_and_on mmio old.iommu) new.iommu queues.queued) in
    let size : length new.memory ≡ length old.memory =
    after.ready.stand.size ∙ ap (λ (d : DriverState). length d.owners) queues.driver ∙ sym invariants.ready.stand.size in
    let requests = requests_all old.driver.devices in
    let few = own.few in
    record {
      idle = rw emptied.flights idle;
      taking = emptied.status;
      waiting = queues.list ∙ ap (λ n. map stands.Command (restart_commands old.driver.devices (completion_address n) (last_fence old.driver + 1))) (sym size);
      plain = rw devices (plain_all (HasCache old.devices) old.driver.devices
          (λ k device at ats. asks_so_caches old events device.id device.attachment invariants (attachment_is old.driver.devices device.id device (device_at old.driver.devices k device own.ids at)) ats));
      slot_owners = λ slot there. absurd (in_none slot (subst (λ (l : List Slot). Contains l slot) emptied.slots there));
      words = rw emptied.slots (words_of_none new.fabric);
      room = rw emptied.slots (omega (arith, requests, few));
      few = rw (fabric, quiet) (omega (arith, requests, few));
      tickets = subst (λ (d : DriverState). WaitFor d (last_fence old.driver + 1)) (sym queues.driver) (wait_for_it old.driver);
    }
