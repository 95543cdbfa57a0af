-- What a commit hands a block device that waits for the access which was made: as many bytes as it wants.
use Rattle.std.proofs.Common.{◌≡◌, ◌≢◌, ◌∙◌, ◌⊎◌, inl, inr, ℕ, List, [], length, Option, Some, None, refl, sym, ap, subst, option_map}
use Rattle.arrayvec.specs.ArrayVec.{ArrayVec}
use Rattle.iom_base.specs.declared.access.AcceptedAccess.{AcceptedAccess}
use Rattle.iom_base.specs.declared.access.AccessKind.{AccessKind}
use Rattle.iom_base.specs.declared.access.AccessKind.TheVariants.{Read, Write}
use Rattle.iom_inflight.specs.Calls.{IsMade, MakesOldestInFlight}
use Rattle.iom_inflight.specs.Flights.{FlightRow, row_of}
use Rattle.iom_inflight.specs.declared.made.MadeAt.{MadeAt}
use Rattle.iom_iommu.specs.Parts.{flights_of}
use Rattle.iom_machine.specs.declared.event.Event.TheVariants as events
use Rattle.iom_machine.specs.declared.outcome.Outcome.{Outcome}
use Rattle.iom_machine.specs.declared.outcome.Outcome.TheVariants as outcome
use Rattle.iom_virtio_blk.specs.declared.front.Front.{Front}
use Rattle.iom_virtio_blk.specs.Blocks.{wanted_by}
use Rattle.iom_virtio_blk.specs.Steps.{Device}
use Rattle.iom_virtqueue.specs.Accesses.{Access as Wanted, AreOf, nothing, reads, writes}
use Rattle.iom_world_effects.specs.Commits.{CommitsAccess, TellsKind, TellsMade}
use Rattle.iom_world_effects.specs.Parts.{Parts}
use Rattle.iom_block_devices.specs.Changes.{block_with, HearsMade}
use Rattle.iom_block_devices.specs.Shown.{ShownBlock, ShownBlocks}
use Rattle.iom_block_devices.specs.Wanted.{wanted_access}
use Rattle.iom_block_devices.proofs.BlockChanges.{IsChanged, as_device, one_changes}
use Rattle.iom_hardware.specs.Blocks.{HearsOldest, BlocksUnchanged, oldest_number}
use Rattle.iom_world.specs.Blocks.{CommitsOf}
use Rattle.iom_world.specs.EachWaits.{EachWaitsInFlight}
use Rattle.iom_world.specs.Happens.{Happens}
use Rattle.iom_world.specs.Shown.{Shown}
use Rattle.iom_world.specs.Waiting.{in_flight_as, IsOwnAccess, WaitsFor, WaitsInFlight}
use Rattle.iom_world.proofs.NumberLemmas.{numbered_oldest}
use Rattle.iom_block_life.specs.Waits.{IsInStageOf}

module _ (old new : Parts) (id number : ℕ) (front : Front) (waits : WaitsInFlight (Some front) (row_of (flights_of old.iommu).rows id))
    (oldest : oldest_number (row_of (flights_of old.iommu).rows id) ≡ Some number) (own : front.waits ≡ Some number) where
  -- what it waits for is what was made
  wanted_made : (made : MadeAt) (is : IsMade old.memory (flights_of old.iommu) id made new.memory (flights_of new.iommu))
      → IsOwnAccess (Some is.oldest.accepted) (wanted_access (wanted_by front))
  wanted_made made is =
      let found = ap (λ (r : Option FlightRow). in_flight_as r number) is.stands
      ∙ numbered_oldest is.row is.oldest is.later number is.waiting (ap oldest_number (sym is.stands) ∙ oldest) in
      subst (λ (a : Option AcceptedAccess). IsOwnAccess a (wanted_access (wanted_by front))) found
      (subst (λ (n : Option ℕ). WaitsFor n front (row_of (flights_of old.iommu).rows id)) own waits)

  of_read : (wanted : Wanted) (accepted : AcceptedAccess) (bytes : List ℕ) → IsOwnAccess (Some accepted) (wanted_access wanted) → accepted.access.kind ≡ Read
      → length bytes ≡ accepted.access.len → AreOf bytes wanted
  of_read nothing accepted bytes is reading long = absurd is
  of_read (reads address len) accepted bytes is reading long = long ∙ is.len
  of_read (writes address written) accepted bytes is reading long = let both : Read ≡ Write = sym reading ∙ is.kind in cc

  of_write : (wanted : Wanted) (accepted : AcceptedAccess) → IsOwnAccess (Some accepted) (wanted_access wanted) → accepted.access.kind ≡ Write → AreOf [] wanted
  of_write nothing accepted is writing = absurd is
  of_write (reads address len) accepted is writing = let both : Write ≡ Read = sym writing ∙ is.kind in cc
  of_write (writes address written) accepted is writing = refl

  module _ (reply : Outcome) where
    read_kind : (made : MadeAt) (held : ArrayVec ℕ) (kind : AccessKind) → made.kind ≡ kind → reply ≡ outcome.Read held
        → (is : IsMade old.memory (flights_of old.iommu) id made new.memory (flights_of new.iommu))
        → TellsKind old.memory made kind reply → AreOf held.items (wanted_by front)
    read_kind made held Read reads_it gave is tells =
        let both : outcome.Read tells.reply_is.0 ≡ outcome.Read held = sym tells.reply_is.1 ∙ gave in
        let same : tells.reply_is.0 ≡ held = cc in
        of_read (wanted_by front) is.oldest.accepted held.items (wanted_made made is) (sym (ap (λ (m : MadeAt). m.kind) is.reply) ∙ reads_it)
        (ap (λ (l : List ℕ). length l) (ap (λ (h : ArrayVec ℕ). h.items) (sym same) ∙ tells.reply_is.2) ∙ tells.long ∙ ap (λ (m : MadeAt). m.len) is.reply)
    read_kind made held Write writes_it gave is tells = let both = sym tells ∙ gave in cc

    write_kind : (made : MadeAt) (count : ℕ) (kind : AccessKind) → made.kind ≡ kind → reply ≡ outcome.Wrote count
        → (is : IsMade old.memory (flights_of old.iommu) id made new.memory (flights_of new.iommu))
        → TellsKind old.memory made kind reply → AreOf [] (wanted_by front)
    write_kind made count Read reads_it gave is tells = let both = sym tells.reply_is.1 ∙ gave in cc
    write_kind made count Write writes_it gave is tells = of_write (wanted_by front) is.oldest.accepted (wanted_made made is) (sym (ap (λ (m : MadeAt). m.kind) is.reply) ∙ writes_it)

    read_made : (made : Option MadeAt) (held : ArrayVec ℕ) → reply ≡ outcome.Read held → TellsMade old.memory made reply
        → MakesOldestInFlight old.memory (flights_of old.iommu) id made new.memory (flights_of new.iommu) → AreOf held.items (wanted_by front)
    read_made None held gave tells makes = let both = sym tells ∙ gave in cc
    read_made (Some made) held gave tells makes = read_kind made held made.kind refl gave makes tells

    write_made : (made : Option MadeAt) (count : ℕ) → reply ≡ outcome.Wrote count → TellsMade old.memory made reply
        → MakesOldestInFlight old.memory (flights_of old.iommu) id made new.memory (flights_of new.iommu) → AreOf [] (wanted_by front)
    write_made None count gave tells makes = let both = sym tells ∙ gave in cc
    write_made (Some made) count gave tells makes = write_kind made count made.kind refl gave makes tells

    reads_fit : (held : ArrayVec ℕ) → reply ≡ outcome.Read held → CommitsAccess old id reply new → AreOf held.items (wanted_by front)
    reads_fit held gave (inl unknown) = let both = sym unknown.reply_is ∙ gave in cc
    reads_fit held gave (inr makes) = read_made makes.made held gave makes.reply_is makes.call.makes

    writes_fit : (count : ℕ) → reply ≡ outcome.Wrote count → CommitsAccess old id reply new → AreOf [] (wanted_by front)
    writes_fit count gave (inl unknown) = let both = sym unknown.reply_is ∙ gave in cc
    writes_fit count gave (inr makes) = write_made makes.made count gave makes.reply_is makes.call.makes

-- it hears that its access was made, and is in the stage in which it was
stage_made : (number : ℕ) (bytes : List ℕ) (before after : Device) → (before.front.waits ≡ Some number → AreOf bytes (wanted_by before.front)) → HearsMade number bytes before after
    → after.front.stage ≡ before.front.stage
stage_made number bytes before after fits (inl (own, inl taken, same)) = ap (λ b. b.stage) taken.1.rest
stage_made number bytes before after fits (inl (own, inr gone, same)) = absurd (gone.0 (fits own))
stage_made number bytes before after fits (inr (never, same)) = ap (λ d. d.front.stage) same

unchanged : (id : ℕ) (old new : ShownBlocks) (block : ShownBlock) → block_with old.blocks id ≡ Some block → BlocksUnchanged old new → IsInStageOf block (block_with new.blocks id)
unchanged id old new block there stay = (block, ap (λ (inside : ShownBlocks). block_with inside.blocks id) stay ∙ there, refl)

hears : (number : Option ℕ) (bytes : List ℕ) (id other : ℕ) (old new : ShownBlocks) (block : ShownBlock) → block_with old.blocks id ≡ Some block
    → ((n : ℕ) → number ≡ Some n → other ≡ id → block.device.front.waits ≡ Some n → AreOf bytes (wanted_by block.device.front)) → HearsOldest number bytes old other new
    → IsInStageOf block (block_with new.blocks id)
hears None bytes id other old new block there fits stay = unchanged id old new block there stay
hears (Some number) bytes id other old new block there fits changes = by (one_changes (HearsMade number bytes) old.blocks new.blocks id other block there changes.0)
  where
    by : ((other ≢ id) × (block_with new.blocks id ≡ Some block)) ⊎ IsChanged (HearsMade number bytes) new.blocks id other block → IsInStageOf block (block_with new.blocks id)
    by (inl same) = (block, same.1, refl)
    by (inr is) = (as_device block is.after, is.there, stage_made number bytes block.device is.after (fits number refl is.same) is.changed)

-- the device waits in flight, of those that do
waits_so : (old : Shown) (id : ℕ) (block : ShownBlock) → EachWaitsInFlight old → block_with old.inside.blocks id ≡ Some block
    → WaitsInFlight (Some block.device.front) (row_of (flights_of old.parts.iommu).rows id)
waits_so old id block each there =
    subst (λ (b : Option ShownBlock). WaitsInFlight (option_map (λ (one : ShownBlock). one.device.front) b) (row_of (flights_of old.parts.iommu).rows id)) there (each id)

-- A COMMIT leaves each block device in the stage in which it was
pub leaves_stages : (old new : Shown) (id other : ℕ) (reply : Outcome) (block : ShownBlock) → EachWaitsInFlight old → Happens old (events.Commit other) reply new
    → block_with old.inside.blocks id ≡ Some block → IsInStageOf block (block_with new.inside.blocks id)
leaves_stages old new id other reply block each happens there = by reply refl happens.blocks
  where
    oldest : Option ℕ
    oldest = oldest_number (row_of (flights_of old.parts.iommu).rows other)

    by : (what : Outcome) → reply ≡ what → CommitsOf oldest old.inside other what new.inside → IsInStageOf block (block_with new.inside.blocks id)
    by (outcome.Read held) gave changes = hears oldest held.items id other old.inside new.inside block there
        (λ n is same own. reads_fit old.parts new.parts id n block.device.front (waits_so old id block each there)
        (subst (λ (k : ℕ). oldest_number (row_of (flights_of old.parts.iommu).rows k) ≡ Some n) same is) own reply held gave
        (subst (λ (k : ℕ). CommitsAccess old.parts k reply new.parts) same happens.effect)) changes
    by (outcome.Wrote count) gave changes = hears oldest [] id other old.inside new.inside block there
        (λ n is same own. writes_fit old.parts new.parts id n block.device.front (waits_so old id block each there)
        (subst (λ (k : ℕ). oldest_number (row_of (flights_of old.parts.iommu).rows k) ≡ Some n) same is) own reply count gave
        (subst (λ (k : ℕ). CommitsAccess old.parts k reply new.parts) same happens.effect)) changes
    by what gave stay = unchanged id old.inside new.inside block there stay
