-- What stays true of a world when the processor writes: it does so into a frame that is nobody's.
use Rattle.std.proofs.Common.{◌≡◌, ◌/◌, ◌%◌, ◌∙◌, ℕ, List, length, Some, None, slice_get, slice_set, refl, sym, ap, subst}
use Rattle.iom_walk_coherence.specs.Walks.{Walk}
use Rattle.iom_base.specs.declared.owner.Owner.{Owner}
use Rattle.std.proofs.lemmas.List.{length-set}
use Rattle.iom_base.specs.Bytes.{with_bytes}
use Rattle.iom_driver.proofs.Lists.{get_set_other}
use Rattle.iom_machine.specs.declared.outcome.Outcome.{Outcome}
use Rattle.iom_machine.specs.declared.outcome.Outcome.TheVariants.{Done, Refused, BadSpan}
use Rattle.iom_world_effects.specs.Parts.{Parts}
use Rattle.iom_world_effects.specs.Processor.{PokesBytes, StoresAt, StoresIfAny}
use Rattle.iom_world_effects.specs.Read.{values_of}
use Rattle.iom_world_effects.specs.Invariant.{InvariantWith}
use Rattle.iom_world_effects.proofs.DriverLemmas.{DriverInvariant}
use Rattle.iom_world_effects.proofs.PartsLemmas.{StaysReady, parts_are}
use Rattle.iom_world_effects.proofs.SceneSteps.{make_scene}
use Rattle.iom_world_effects.proofs.SoundFrom.{Leaves, sound_from, queue_kept, grants_kept, unmarked, owned_differs}

-- the frame that is written to is nobody's
pub stored_free : {walks : List Walk} (old : Parts) (events address : ℕ) (bytes : List ℕ) (new : List (List ℕ)) → InvariantWith walks old events → StoresAt old address bytes new
    → slice_get old.driver.owners (address / 4096) ≡ Some None
stored_free old events address bytes new invariants stores = unmarked old.driver.owners (address / 4096) (rw (sym invariants.ready.stand.size) stores.inside) stores.unreserved

-- memory is as large as it was, and each reserved frame has the bytes that it had
abbrev pub KeepsOwned : Parts → List (List ℕ) → Type 0
KeepsOwned old memory =
    (length memory ≡ length old.memory)
    × ((frame : ℕ) (owner : Owner) → slice_get old.driver.owners frame ≡ Some (Some owner) → slice_get memory frame ≡ slice_get old.memory frame)

pub stores_keep : {walks : List Walk} (old : Parts) (events address : ℕ) (bytes : List ℕ) (reply : Outcome) (memory : List (List ℕ)) → InvariantWith walks old events → StoresIfAny old address bytes reply memory → KeepsOwned old memory
stores_keep old events address bytes Done memory invariants stores =
    let now = with_bytes stores.before (address % 4096) bytes in
    let free = stored_free old events address bytes memory invariants stores in (
      ap (λ m. length m) stores.stored ∙ length-set old.memory (address / 4096) now,
      (λ n owner at. ap (λ m. slice_get m n) stores.stored ∙ get_set_other old.memory (address / 4096) n now (owned_differs old.driver.owners n (address / 4096) owner at free)),
    )
stores_keep old events address bytes BadSpan memory invariants stores = (ap (λ m. length m) stores.1, λ n owner at. ap (λ m. slice_get m n) stores.1)
stores_keep old events address bytes (Refused why) memory invariants stores = (ap (λ m. length m) stores.2, λ n owner at. ap (λ m. slice_get m n) stores.2)
stores_keep old events address bytes _ memory invariants stores = absurd stores

-- so a world stays sound while bytes of such a frame change
pub keeps_stored : {walks : List Walk} (old : Parts) (frame : ℕ) (bytes : List ℕ) (events : ℕ) → InvariantWith walks old events → DriverInvariant old.driver → StaysReady old.driver → slice_get old.driver.owners frame ≡ Some None
    → InvariantWith walks (record old { memory = slice_set old.memory frame bytes }) events
keeps_stored {walks = walks} old frame bytes events invariants own unchanged free =
    let new : Parts = record old { memory = slice_set old.memory frame bytes } in
    let leaves : Leaves old new = record {
      size = length-set old.memory frame bytes;
      reserved = λ n owner at. get_set_other old.memory frame n bytes (owned_differs old.driver.owners n frame owner at free);
      registers = refl;
      frames = refl;
      slots = refl;
      rows = refl;
      driver = refl;
      devices = refl;
      fabric = refl;
    } in
    sound_from old new events invariants own leaves unchanged invariants.counted invariants.contexts
    (λ has. make_scene (values_of old) (values_of new) (grants_kept old new events invariants own leaves) (queue_kept old new events invariants own leaves refl)
    refl (λ x there. there) (λ d there. there) (λ key translation at. at) walks has)

keeps_if_any : {walks : List Walk} (old : Parts) (events address : ℕ) (bytes : List ℕ) (reply : Outcome) (memory : List (List ℕ)) → InvariantWith walks old events → DriverInvariant old.driver → StaysReady old.driver
    → StoresIfAny old address bytes reply memory → InvariantWith walks (record old { memory = memory }) events
keeps_if_any {walks = walks} old events address bytes Done memory invariants own unchanged stores =
    subst (λ m. InvariantWith walks (record old { memory = m }) events) (sym stores.stored)
    (keeps_stored old (address / 4096) (with_bytes stores.before (address % 4096) bytes) events invariants own unchanged (stored_free old events address bytes memory invariants stores))
keeps_if_any {walks = walks} old events address bytes BadSpan memory invariants own unchanged stores = subst (λ m. InvariantWith walks (record old { memory = m }) events) (sym stores.1) invariants
keeps_if_any {walks = walks} old events address bytes (Refused why) memory invariants own unchanged stores = subst (λ m. InvariantWith walks (record old { memory = m }) events) (sym stores.2) invariants
keeps_if_any old events address bytes _ memory invariants own unchanged stores = absurd stores

pub keeps_poked : {walks : List Walk} (old new : Parts) (events address : ℕ) (bytes : List ℕ) (reply : Outcome) → InvariantWith walks old events → DriverInvariant old.driver → StaysReady old.driver → PokesBytes old address bytes reply new → InvariantWith walks new events
keeps_poked {walks = walks} old new events address bytes reply invariants own unchanged pokes =
    let same : new ≡ record old { memory = new.memory } = parts_are new new.memory old.iommu old.driver old.devices old.fabric refl pokes.iommu pokes.driver pokes.devices pokes.fabric in
    subst (λ parts. InvariantWith walks parts events) (sym same) (keeps_if_any old events address bytes reply new.memory invariants own unchanged pokes.memory)
