-- What stays true of a world when an access in flight is made: its frame isn't reserved.
use Rattle.std.proofs.Common.{◌≡◌, ◌<◌, ◌≤◌, ◌∙◌, IfSome, ℕ, false, is_some, List, length, Option, Some, None, slice_get, sym, ap, subst}
use Rattle.std.proofs.lemmas.List.{length-set}
use Rattle.iom_walk_coherence.specs.Walks.{Walk}
use Rattle.iom_base.specs.declared.access.AcceptedAccess.{AcceptedAccess}
use Rattle.iom_base.specs.declared.access.AccessKind.{AccessKind}
use Rattle.iom_base.specs.declared.access.AccessKind.TheVariants.{Read, Write}
use Rattle.iom_base.specs.Accesses.{offset_of}
use Rattle.iom_base.specs.Bytes.{with_bytes}
use Rattle.iom_coherence.specs.Among.{AreAmong}
use Rattle.iom_device_dir.specs.Cached.{cached_contexts}
use Rattle.iom_driver.proofs.Lists.{get_set_other}
use Rattle.iom_inflight.specs.declared.made.MadeAt.{MadeAt}
use Rattle.iom_inflight.specs.Calls.{IsMade, Performs}
use Rattle.iom_inflight.specs.Flights.{Flights}
use Rattle.iom_iommu.specs.Parts.{contexts_of, flights_of}
use Rattle.iom_iommu.specs.Requests.{CommitsOldest}
use Rattle.iom_table_frames.specs.Owners.{has_owner}
use Rattle.iom_tlb.specs.Chosen.{ioatc}
use Rattle.iom_world_effects.specs.Parts.{Parts}
use Rattle.iom_world_effects.specs.Read.{values_of, accesses_of}
use Rattle.iom_world_effects.specs.Invariant.{InvariantWith, ContextsAreTrue, row_ids}
use Rattle.iom_world_effects.proofs.DriverLemmas.{DriverInvariant}
use Rattle.iom_world_effects.proofs.PartsLemmas.{StaysReady}
use Rattle.iom_world_effects.proofs.RowLemmas.{made_among, row_ids_kept}
use Rattle.iom_world_effects.proofs.SceneSteps.{make_scene}
use Rattle.iom_world_effects.proofs.SoundFrom.{Leaves, sound_from, queue_kept, grants_kept, unmarked, owned_differs}

-- what is true of the contexts stays, where they do and the driver's devices
pub contexts_stay : (old new : Parts) → ContextsAreTrue old → contexts_of new.iommu ≡ contexts_of old.iommu → new.driver ≡ old.driver → ContextsAreTrue new
contexts_stay old new are contexts driver = λ id context at. rw driver (are id context (ap (λ c. c id) (sym contexts) ∙ at))

-- what an access does to memory: no frame changes but its own
pub performed_size : (kind : AccessKind) (memory new : List (List ℕ)) (made : AcceptedAccess) → Performs kind memory made new → length new ≡ length memory
performed_size Read memory new made is = ap (λ m. length m) is
performed_size Write memory new made (bytes, there, is) = ap (λ m. length m) is ∙ length-set memory made.frame (with_bytes bytes (offset_of made.access) made.access.bytes)

pub performed_elsewhere : (kind : AccessKind) (memory new : List (List ℕ)) (made : AcceptedAccess) (n : ℕ) → Performs kind memory made new → (n ≡ made.frame → ⊥) → slice_get new n ≡ slice_get memory n
performed_elsewhere Read memory new made n is apart = ap (λ m. slice_get m n) is
performed_elsewhere Write memory new made n (bytes, there, is) apart =
    ap (λ m. slice_get m n) is ∙ get_set_other memory made.frame n (with_bytes bytes (offset_of made.access) made.access.bytes) apart

-- the frame of the access that is made is nobody's
pub made_free : {walks : List Walk} (old : Parts) (events id : ℕ) (made : MadeAt) (memory : List (List ℕ)) (flights : Flights) → InvariantWith walks old events
    → (is : IsMade old.memory (flights_of old.iommu) id made memory flights) → has_owner old.driver.owners made.frame ≡ false → slice_get old.driver.owners is.oldest.accepted.frame ≡ Some None
made_free old events id made memory flights invariants is unreserved =
    unmarked old.driver.owners is.oldest.accepted.frame (subst (λ n. is.oldest.accepted.frame < n) invariants.ready.stand.size is.inside)
    (subst (λ (m : MadeAt). has_owner old.driver.owners m.frame ≡ false) is.reply unreserved)

pub leaves_made : {walks : List Walk} (old new : Parts) (events id : ℕ) (made : MadeAt) → InvariantWith walks old events → IsMade old.memory (flights_of old.iommu) id made new.memory (flights_of new.iommu)
    → CommitsOldest old.memory old.iommu id (Some made) new.memory new.iommu → has_owner old.driver.owners made.frame ≡ false → new.driver ≡ old.driver → new.devices ≡ old.devices → new.fabric ≡ old.fabric → Leaves old new
leaves_made old new events id made invariants is call unreserved driver devices fabric =
    let free = made_free old events id made new.memory (flights_of new.iommu) invariants is unreserved in
    record {
      size = performed_size is.oldest.accepted.access.kind old.memory new.memory is.oldest.accepted is.performed;
      reserved = λ frame owner mark. performed_elsewhere is.oldest.accepted.access.kind old.memory new.memory is.oldest.accepted frame is.performed
          (owned_differs old.driver.owners frame is.oldest.accepted.frame owner mark free);
      registers = (ap (λ parts. parts.registers) call.rest);
      frames = (ap (λ parts. parts.frames) call.rest);
      slots = (ap (λ parts. parts.slots) call.rest);
      rows = ap (λ (f : Flights). row_ids f.rows) is.after ∙ row_ids_kept (flights_of old.iommu).rows (record is.row { waiting = is.later });
      driver = driver;
      devices = devices;
      fabric = fabric;
    }

pub leaves_none : (old new : Parts) (id : ℕ) → CommitsOldest old.memory old.iommu id None new.memory new.iommu → new.driver ≡ old.driver → new.devices ≡ old.devices → new.fabric ≡ old.fabric → Leaves old new
leaves_none old new id call driver devices fabric = record {
  size = ap (λ m. length m) call.makes.1;
  reserved = λ frame owner mark. ap (λ m. slice_get m frame) call.makes.1;
  registers = (ap (λ parts. parts.registers) call.rest);
  frames = (ap (λ parts. parts.frames) call.rest);
  slots = (ap (λ parts. parts.slots) call.rest);
  rows = ap (λ (f : Flights). row_ids f.rows) call.makes.2;
  driver = driver;
  devices = devices;
  fabric = fabric;
}

keeps_made : {walks : List Walk} (old new : Parts) (events id : ℕ) (made : Option MadeAt) → InvariantWith walks old events → DriverInvariant old.driver → StaysReady old.driver → Leaves old new
    → CommitsOldest old.memory old.iommu id made new.memory new.iommu
    → (flights_of new.iommu).so_far ≡ (flights_of old.iommu).so_far → AreAmong (accesses_of (flights_of new.iommu).rows) (accesses_of (flights_of old.iommu).rows) → InvariantWith walks new events
keeps_made {walks = walks} old new events id made invariants own unchanged leaves call so_far among =
    let contexts : contexts_of new.iommu ≡ contexts_of old.iommu = ap cached_contexts (ap (λ parts. parts.contexts) call.rest) in
    sound_from old new events invariants own leaves unchanged (subst (λ n. n ≤ events) (sym so_far) invariants.counted)
    (contexts_stay old new invariants.contexts contexts leaves.driver)
    (λ has. make_scene (values_of old) (values_of new) (grants_kept old new events invariants own leaves) (queue_kept old new events invariants own leaves (ap (λ parts. parts.fence_snapshot) call.rest))
    so_far among (λ d there. ap (λ c. is_some (c d)) (sym contexts) ∙ there) (λ key translation at. ap (λ c. ioatc.content c key) (sym (ap (λ parts. parts.translations) call.rest)) ∙ at) walks has)

-- a commit keeps the facts, whatever is told of it
pub keeps_oldest : {walks : List Walk} (old new : Parts) (events id : ℕ) (made : Option MadeAt) → InvariantWith walks old events → DriverInvariant old.driver → StaysReady old.driver
    → CommitsOldest old.memory old.iommu id made new.memory new.iommu → IfSome made (λ it. has_owner old.driver.owners it.frame ≡ false) → new.driver ≡ old.driver → new.devices ≡ old.devices → new.fabric ≡ old.fabric → InvariantWith walks new events
keeps_oldest old new events id None invariants own unchanged call unreserved driver devices fabric =
    keeps_made old new events id None invariants own unchanged (leaves_none old new id call driver devices fabric) call
    (ap (λ (f : Flights). f.so_far) call.makes.2)
    (subst (λ (f : Flights). AreAmong (accesses_of f.rows) (accesses_of (flights_of old.iommu).rows)) (sym call.makes.2) (λ x there. there))
keeps_oldest old new events id (Some made) invariants own unchanged call unreserved driver devices fabric =
    let is : IsMade old.memory (flights_of old.iommu) id made new.memory (flights_of new.iommu) = call.makes in
    keeps_made old new events id (Some made) invariants own unchanged (leaves_made old new events id made invariants is call unreserved driver devices fabric) call
    (ap (λ (f : Flights). f.so_far) is.after)
    (subst (λ (f : Flights). AreAmong (accesses_of f.rows) (accesses_of (flights_of old.iommu).rows)) (sym is.after)
    (made_among (flights_of old.iommu).rows id is.row is.oldest is.later is.stands is.waiting))
