-- What the facts that a world carries give at once, and how they stay where little changes.
use Rattle.std.proofs.Common.{zero, suc, ◌≡◌, ◌*◌, ◌/◌, ◌^◌, ◌≤◌, ◌<◌, ◌∙◌, ◌||◌, not, is_some, ℕ, Bool, true, false, List, [], ◌∷◌, length, Some, slice_get, refl, sym, ap, subst, arith}
use Rattle.std.specs.Option.{option_map_or}
use Rattle.std.proofs.Math.Logic.{∥∥₁_elim}
use Rattle.std.proofs.Props.{props}
use Rattle.iom_walk_coherence.specs.Walks.{Walk}
use Rattle.iom_command_queue.specs.OpenSlots.{OpenSlots}
use Rattle.iom_fabric.specs.declared.fabric.OnLink.{OnLink}
use Rattle.iom_command_queue.specs.Waiting.{commands_in}
use Rattle.iom_coherence.specs.Copies.{ContextFits}
use Rattle.iom_coherence.specs.Faithful.{IsFaithful}
use Rattle.iom_coherence.specs.Scene.{Scene}
use Rattle.iom_coherence.proofs.ToComeLemmas.{rise_le}
use Rattle.iom_device_dir.specs.declared.context.Context.{Context}
use Rattle.iom_driver.specs.Fences.{last_fence}
use Rattle.iom_driver.specs.Devices.{attachment_by_id}
use Rattle.iom_driver.specs.Layout.{AreFixed, command_frame, completion_frame, completion_address}
use Rattle.iom_driver.specs.Ready.{IsReady}
use Rattle.iom_driver.proofs.Ring.{same_commands}
use Rattle.iom_iommu.specs.Parts.{registers_of, contexts_of, flights_of, frames_of, slots_of}
use Rattle.iom_base.specs.Refusals.{NoneApplies}
use Rattle.iom_base.specs.declared.refusal.Refusal.{Refusal}
use Rattle.iom_machine.specs.declared.state.Attachment.TheVariants.{Detached}
use Rattle.iom_phys_mem.specs.Words.{word_at}
use Rattle.iom_registers.specs.declared.registers.Registers.{Registers}
use Rattle.iom_registers.specs.Queues.{command_status, is_processing_commands}
use Rattle.iom_world_effects.specs.Devices.{shown_attachment}
use Rattle.iom_world_effects.specs.Parts.{Parts}
use Rattle.iom_world_effects.specs.Queued.{completed_in}
use Rattle.iom_world_effects.specs.Read.{values_of}
use Rattle.iom_world_effects.specs.Scenes.{IsSceneOf, HasSceneWith}
use Rattle.iom_world_effects.specs.Invariant.{InvariantWith, AreKnown, ContextsAreTrue, IsUnmarked}
use Rattle.iom_world_effects.proofs.DriverLemmas.{DriverInvariant}
use Rattle.iom_device.specs.declared.device.Device.{Device}
use Rattle.iom_device.specs.Caches.{kind_in}
use Rattle.iom_world_effects.specs.Traffic.{traffic_of}
use Rattle.iom_device.specs.Caches.{epoch_in}

le_prop : (a b : ℕ) → IsProp (a ≤ b)
le_prop a b = hlevel props

-- the last fence that was done isn't above the last that was queued
pub completed_given : {walks : List Walk} (parts : Parts) (events : ℕ) → InvariantWith walks parts events → completed_in parts.memory ≤ last_fence parts.driver
completed_given parts events invariants =
    ∥∥₁_elim invariants.copies (le_prop (completed_in parts.memory) (last_fence parts.driver))
    (λ (scene, shows, facts). by scene shows facts.copies)
  where
    by : (scene : Scene) → IsSceneOf (values_of parts) scene → IsFaithful scene → completed_in parts.memory ≤ last_fence parts.driver
    by scene shows facts =
        let low = rise_le scene.completed scene.waiting scene.last_fence facts.order.fences in
        let done : scene.completed ≡ completed_in parts.memory = shows.completed in
        let last : scene.last_fence ≡ last_fence parts.driver = shows.last_fence in
        omega (arith, low, done, last)

-- no context of a detached device is cached
pub detached_uncached : {walks : List Walk} (parts : Parts) (id : ℕ) (context : Context) → ∥ HasSceneWith (values_of parts) walks ∥₁ → contexts_of parts.iommu id ≡ Some context
    → shown_attachment (attachment_by_id parts.driver.devices id) ≡ Detached → ⊥
detached_uncached parts id context copies cached detached =
    ∥∥₁_elim copies (λ x y. absurd x) (λ (scene, shows, facts). by scene shows facts.copies)
  where
    by : (scene : Scene) → IsSceneOf (values_of parts) scene → IsFaithful scene → ⊥
    by scene shows facts =
        subst (ContextFits scene id) (shows.attachments id ∙ detached) (facts.contexts id (shows.contexts id (ap is_some cached)))

-- the word at the beginning of a frame that keeps its bytes
word_of_frame : (m n : List (List ℕ)) (frame : ℕ) → slice_get n frame ≡ slice_get m frame → word_at 4 n (4096 * frame) ≡ word_at 4 m (4096 * frame)
word_of_frame m n frame same = let at : 4096 * frame / 4096 ≡ frame = omega arith in rw (at, same) refl

-- where its frame keeps its bytes, the completion word is the same
pub same_completed : (m n : List (List ℕ)) → length n ≡ length m → slice_get n (completion_frame (length m)) ≡ slice_get m (completion_frame (length m)) → completed_in n ≡ completed_in m
same_completed m n size same =
    ap (λ k. option_map_or (λ word. word) (word_at 4 n (completion_address k)) 0) size
    ∙ ap (λ o. option_map_or (λ word. word) o 0) (word_of_frame m n (completion_frame (length m)) same)

-- nothing is wrong where the status is the same
pub still_unmarked : (r s : Registers) → command_status s ≡ command_status r → IsUnmarked r → IsUnmarked s
still_unmarked r s same unmarked = record { loaded = ap (λ c. c.cqmf) same ∙ unmarked.loaded; legal = ap (λ c. c.cmd_ill) same ∙ unmarked.legal }

-- commands are taken, unless a fence timed out
pub processes : {walks : List Walk} (parts : Parts) (events : ℕ) → InvariantWith walks parts events → is_processing_commands (registers_of parts.iommu) ≡ not (command_status (registers_of parts.iommu)).cmd_to
processes parts events invariants =
    let r = registers_of parts.iommu in
    rw ((invariants.ready.ring invariants.started).on, invariants.unmarked.loaded, invariants.unmarked.legal) (by (command_status r).cmd_to)
  where
    by : (timed_out : Bool) → not (timed_out || false) ≡ not timed_out
    by true = refl
    by false = refl

-- memory is as large as it was, and the completion word's frame has its bytes
pub record LeavesWord (old new : Parts) : Type 0 where
  pub size : length new.memory ≡ length old.memory
  pub word : slice_get new.memory (completion_frame (length old.memory)) ≡ slice_get old.memory (completion_frame (length old.memory))

-- and of the IOMMU all stays but its rows, and the index that software writes
pub record LeavesIommu (old new : Parts) : Type 0 where
  pub status : command_status (registers_of new.iommu) ≡ command_status (registers_of old.iommu)
  pub frames : frames_of new.iommu ≡ frames_of old.iommu
  pub so_far : (flights_of new.iommu).so_far ≡ (flights_of old.iommu).so_far
  pub slots : slots_of new.iommu ≡ slots_of old.iommu

-- so the facts stay, where these do
pub sound_from : {walks left : List Walk} (old new : Parts) (events : ℕ) → InvariantWith walks old events → LeavesWord old new → LeavesIommu old new → new.driver.started ≡ old.driver.started
    → IsReady new.driver new.memory (registers_of new.iommu) → AreKnown new → ((id : ℕ) → epoch_in new.devices id ≤ events) → new.driver.given < 2 ^ 32
    → ContextsAreTrue new → ∥ HasSceneWith (values_of new) left ∥₁ → InvariantWith left new events
sound_from old new events invariants leaves iommu started ready known epochs small contexts copies = record {
  ready = ready;
  started = started ∙ invariants.started;
  unmarked = still_unmarked (registers_of old.iommu) (registers_of new.iommu) iommu.status invariants.unmarked;
  size = iommu.frames ∙ invariants.size ∙ sym leaves.size;
  known = known;
  small = small;
  counted = subst (λ n. n ≤ events) (sym iommu.so_far) invariants.counted;
  serials = subst (λ (s : OpenSlots). s.last ≤ events) (sym iommu.slots) invariants.serials;
  epochs = epochs;
  contexts = contexts;
  copies = copies;
}

-- the epochs of devices that are the same
pub same_epochs : {walks : List Walk} (old new : Parts) (events : ℕ) → InvariantWith walks old events → new.devices ≡ old.devices → (id : ℕ) → epoch_in new.devices id ≤ events
same_epochs old new events invariants same id = subst (λ (ds : List Device). epoch_in ds id ≤ events) (sym same) (invariants.epochs id)

-- what is under way between devices that are the same, by the same messages and slots
pub traffic_kept : (old new : Parts) → new.devices ≡ old.devices → new.fabric ≡ old.fabric → slots_of new.iommu ≡ slots_of old.iommu
    → (values_of new).traffic ≡ (values_of old).traffic
traffic_kept old new devices fabric slots =
    ap (λ (ds : List Device). traffic_of ds new.fabric (slots_of new.iommu)) devices
    ∙ ap (λ (ms : List OnLink). traffic_of old.devices ms (slots_of new.iommu)) fabric
    ∙ ap (traffic_of old.devices old.fabric) slots

pub kinds_kept : (old new : Parts) → new.devices ≡ old.devices → (id : ℕ) → kind_in new.devices id ≡ kind_in old.devices id
kinds_kept old new same id = ap (λ (ds : List Device). kind_in ds id) same

-- the IOMMU is the same
pub same_iommu : (old new : Parts) → new.iommu ≡ old.iommu → LeavesIommu old new
same_iommu old new same = record {
  status = ap (λ i. command_status (registers_of i)) same;
  frames = ap frames_of same;
  so_far = ap (λ i. (flights_of i).so_far) same;
  slots = ap slots_of same;
}

-- the ring has its bytes, and the registers are the same: the same commands wait
pub same_waiting : {walks : List Walk} (old new : Parts) (events : ℕ) → InvariantWith walks old events → registers_of new.iommu ≡ registers_of old.iommu
    → slice_get new.memory (command_frame (length old.memory)) ≡ slice_get old.memory (command_frame (length old.memory))
    → commands_in new.memory (registers_of new.iommu) ≡ commands_in old.memory (registers_of old.iommu)
same_waiting old new events invariants registers ring =
    ap (commands_in new.memory) registers ∙ same_commands old.memory new.memory (registers_of old.iommu) (invariants.ready.ring invariants.started) ring

-- the fixed frames of a world
pub fixed_frames : {walks : List Walk} (old : Parts) (events : ℕ) → InvariantWith walks old events → DriverInvariant old.driver → AreFixed old.driver.owners (length old.memory)
fixed_frames old events invariants own = subst (AreFixed old.driver.owners) (sym invariants.ready.stand.size) own.fixed

-- where no reason applies, none of them does
pub none_at : (reasons : List (Bool × Refusal)) (k : ℕ) (test : Bool) (why : Refusal) → slice_get reasons k ≡ Some (test, why) → NoneApplies reasons → test ≡ false
none_at [] k test why at none = cc
none_at ((true, first) ∷ later) k test why at none = cc
none_at ((false, first) ∷ later) zero test why at none = let same : ◌≡◌ {A = Bool × Refusal} (false, first) (test, why) = cc in ap (λ (r : Bool × Refusal). r.0) (sym same)
none_at ((false, first) ∷ later) (suc k) test why at none = none_at later k test why at none
