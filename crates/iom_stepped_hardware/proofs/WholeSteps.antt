-- A step of a device that makes no load of its own: what is under way stays beside the hardware.
use Rattle.std.proofs.Common.{◌≡◌, ◌≢◌, ◌∙◌, inl, inr, ℕ, Bool, true, false, List, Option, None, Some, IsSome, MatchOption, is_some, Result, Ok, Err, refl, sym, ap, subst}
use Rattle.std.specs.Option.{option_map_or}
use Rattle.std.proofs.lemmas.Bool.{false≢true}
use Rattle.iom_base.specs.DeviceKinds.{has_cache}
use Rattle.iom_base.specs.declared.access.Access.{Access}
use Rattle.iom_base.specs.declared.device_kind.DeviceKind.{DeviceKind}
use Rattle.iom_base.specs.declared.device_kind.DeviceKind.TheVariants.{Raw, Ats, Block, CachedBlock}
use Rattle.iom_base.specs.declared.refusal.Refusal.{Refusal}
use Rattle.iom_block_devices.specs.Changes.{ChangesIfThere, block_with}
use Rattle.iom_block_devices.specs.Places.{IsBlockPlace}
use Rattle.iom_block_devices.specs.Shown.{ShownBlock, ShownBlocks, shown_blocks}
use Rattle.iom_block_devices.specs.declared.block.Block.{Block as BlockDevice}
use Rattle.iom_board.specs.BoardParts.{BoardParts}
use Rattle.iom_board.specs.Invariant.{device_ids}
use Rattle.iom_board.specs.ThroughCache.{GoesByCache, GoesByCachedFrame, frame_in_cache}
use Rattle.iom_board.specs.declared.answers.CacheReply.{CacheReply}
use Rattle.iom_board.specs.declared.answers.CacheReply.TheVariants.{Miss, Replied}
use Rattle.iom_device.specs.Caches.{kind_in}
use Rattle.iom_fault_queue.specs.declared.transaction.Transaction.{Transaction}
use Rattle.iom_hardware.specs.Steps.{AsksIfMissed, Ends, GoesBy, IsRefusedIfNone, TakesOneStep, TakesStep}
use Rattle.iom_hardware.specs.Invariant.{HardwareInvariant}
use Rattle.iom_hardware.specs.declared.hardware.Hardware.{Hardware}
use Rattle.iom_hardware.specs.declared.steps.Stepped.{Stepped}
use Rattle.iom_hardware.proofs.BlockThere.{there_able}
use Rattle.iom_inflight.specs.Flights as flights
use Rattle.iom_inflight.specs.Flights.{Flights}
use Rattle.iom_iommu.specs.OwnIommu.{Iommu}
use Rattle.iom_iommu.specs.Parts.{flights_of}
use Rattle.iom_iommu.specs.Requests.{Answers}
use Rattle.iom_iommu.specs.declared.reply.Reply.{Reply}
use Rattle.iom_iommu.specs.declared.reply.Reply.TheVariants.{Accepted, Busy, Fault, BadSpan}
use Rattle.iom_stepped_board.proofs.BesideLemmas.{beside_by, none_under_way, others_fly}
use Rattle.iom_virtio_blk.specs.DiskStates.{DiskState}
use Rattle.iom_virtio_blk.specs.Steps.{Device}
use Rattle.iom_virtio_blk.specs.declared.disk.Disk.{Ghosts}
use Rattle.iom_virtio_blk.specs.declared.step.Step.{Step}
use Rattle.iom_virtio_blk.specs.declared.step.Step.TheVariants as step
use Rattle.iom_walks.specs.Walks.{UnderWay, WalkRow, row_of, under_way_in, under_way_of}
use Rattle.iom_stepped_hardware.specs.Beside.{AreBesideHardware, AskStill}
use Rattle.iom_stepped_hardware.specs.Steps.{walks_itself}
use Rattle.iom_stepped_hardware.proofs.AskLemmas.{asks_by, others_stay}
use Rattle.iom_stepped_hardware.proofs.AskSteps.{idle_still}

-- the devices stay, and the accesses in flight of all others
record KeepsOthers (id : ℕ) (old new : BoardParts) : Type 0 where
  devices : new.devices ≡ old.devices
  others : (other : ℕ) → other ≢ id → flights.row_of (flights_of new.iommu).rows other ≡ flights.row_of (flights_of old.iommu).rows other

same_parts : (id : ℕ) (old new : BoardParts) → new ≡ old → KeepsOthers id old new
same_parts id old new same = record {
  devices = ap (λ (parts : BoardParts). parts.devices) same;
  others = λ other ne. ap (λ (parts : BoardParts). flights.row_of (flights_of parts.iommu).rows other) same;
}

-- the IOMMU answers
answered : (Served : _) (transaction : Transaction) (old new : BoardParts) (id : ℕ) (access : Access) (reply : Reply) → new.devices ≡ old.devices
    → Answers Served transaction old.memory old.iommu id access reply new.memory new.iommu → KeepsOthers id old new
answered Served transaction old new id access BadSpan devices (outside, same, unchanged) =
    record { devices = devices; others = λ other ne. ap (λ (i : Iommu). flights.row_of (flights_of i).rows other) same }
answered Served transaction old new id access Busy devices (within, full, same, unchanged) =
    record { devices = devices; others = λ other ne. ap (λ (i : Iommu). flights.row_of (flights_of i).rows other) same }
answered Served transaction old new id access (Accepted number) devices (accepts, unchanged) =
    record { devices = devices; others = others_fly (flights_of old.iommu) (flights_of new.iommu) id (record { access = access; frame = accepts.frame }) number accepts.accepted }
answered Served transaction old new id access (Fault cause) devices refuses =
    let same : flights_of new.iommu ≡ flights_of old.iommu = ap (λ parts. parts.flights) refuses.rest in
    record { devices = devices; others = λ other ne. ap (λ (f : Flights). flights.row_of f.rows other) same }

cached : (old new : BoardParts) (id : ℕ) (access : Access) (found : Option ℕ) (reply : CacheReply) → GoesByCachedFrame found id access old reply new → KeepsOthers id old new
cached old new id access None Miss same = same_parts id old new same
cached old new id access None (Replied reply) never = absurd never
cached old new id access (Some frame) Miss never = absurd never
cached old new id access (Some frame) (Replied reply) replies = answered _ _ old new id _ reply replies.devices replies.call

went : (old new : BoardParts) (id : ℕ) (access : Access) (reply : CacheReply) → GoesByCache id access old reply new → KeepsOthers id old new
went old new id access reply (inl (outside, is, same)) = same_parts id old new same
went old new id access reply (inr (inl (within, full, is, same))) = same_parts id old new same
went old new id access reply (inr (inr (within, room, goes))) = cached old new id access (frame_in_cache old id access) reply goes

asked : (first : Result CacheReply Refusal) (between new : BoardParts) (id : ℕ) (access : Access) (answer : Result Stepped Refusal) → AsksIfMissed first between id access answer new
    → KeepsOthers id between new
asked (Ok Miss) between new id access answer (is, sent) = record {
  devices = ap (λ (parts : BoardParts). parts.devices) sent;
  others = λ other ne. ap (λ (parts : BoardParts). flights.row_of (flights_of parts.iommu).rows other) sent;
}
asked (Ok (Replied reply)) between new id access answer asks = same_parts id between new asks.1
asked (Err why) between new id access answer asks = same_parts id between new asks.1

both : (id : ℕ) (old between new : BoardParts) → KeepsOthers id old between → KeepsOthers id between new → KeepsOthers id old new
both id old between new first second =
    record { devices = second.devices ∙ first.devices; others = λ other ne. second.others other ne ∙ first.others other ne }

begun : (through : Bool) (old new : BoardParts) (id : ℕ) (access : Access) (answer : Result Stepped Refusal) → GoesBy through old id access answer new → KeepsOthers id old new
begun false old new id access answer goes = elim goes.requests [
  | inl none ↦ same_parts id old new none.same
  | inr (inl wrong) ↦ same_parts id old new wrong.same
  | inr (inr does) ↦ answered _ _ old new id access does.given does.call.devices does.call.call
]
begun true old new id access answer goes = both id old goes.between new first (asked goes.first goes.between new id access answer goes.asks)
  where
    first : KeepsOthers id old goes.between
    first = elim goes.tries [
      | inl none ↦ same_parts id old goes.between none.same
      | inr (inl wrong) ↦ same_parts id old goes.between wrong.same
      | inr (inr does) ↦ went old goes.between id access does.given does.call
    ]

ended : (taken : Step) (old new : BoardParts) (id : ℕ) (between after : Device) (answer : Result Stepped Refusal) → Ends taken old id between answer new after → KeepsOthers id old new
ended step.Idle old new id between after answer rests = same_parts id old new rests.same
ended step.Waiting old new id between after answer rests = same_parts id old new rests.same
ended step.Down old new id between after answer rests = same_parts id old new rests.same
ended (step.Chain fault) old new id between after answer rests = same_parts id old new rests.same
ended (step.Finished head len) old new id between after answer rests = same_parts id old new rests.same
ended (step.Wants want) old new id between after answer begins =
    begun (option_map_or has_cache (kind_in old.devices id) false) old new id begins.access answer begins.begun

-- nothing is under way of a block device that makes no load of its own
pub block_kind : (known : Option DeviceKind) → walks_itself known ≡ true → known ≡ Some Block
block_kind None is = cc
block_kind (Some Raw) is = cc
block_kind (Some Ats) is = cc
block_kind (Some Block) is = refl
block_kind (Some CachedBlock) is = cc

pub idle_of : (parts : BoardParts) (blocks : List ShownBlock) (rows : List WalkRow) (id : ℕ) (block : ShownBlock) → AskStill parts.devices blocks rows → block_with blocks id ≡ Some block
    → walks_itself (kind_in parts.devices id) ≡ false → under_way_of rows id ≡ None
idle_of parts blocks rows id block still there cannot = by_row (row_of rows id) refl
  where
    by_walk : (row : WalkRow) (found : Option UnderWay) → row_of rows id ≡ Some row → row.under_way ≡ found → under_way_of rows id ≡ None
    by_walk row None at is = ap under_way_in at ∙ is
    by_walk row (Some under_way) at is =
        absurd (false≢true (sym cannot ∙ ap walks_itself (still id block row under_way there at is).kind))

    by_row : (found : Option WalkRow) → row_of rows id ≡ found → under_way_of rows id ≡ None
    by_row None at = ap under_way_in at
    by_row (Some row) at = by_walk row row.under_way at refl

-- THE STEP IS ONE EVENT
pub whole_beside : (old new : BoardParts) (before after : ShownBlocks) (rows : List WalkRow) (id : ℕ) (given : Result Stepped Refusal) → AreBesideHardware old before.blocks rows
    → walks_itself (kind_in old.devices id) ≡ false → IsRefusedIfNone (block_with before.blocks id) old id given new → TakesStep old before id given new after
    → AreBesideHardware new after.blocks rows
whole_beside old new before after rows id given beside cannot refused steps = by (block_with before.blocks id) refl refused steps.0
  where
    by : (found : Option ShownBlock) → block_with before.blocks id ≡ found → IsRefusedIfNone found old id given new → ChangesIfThere found (TakesOneStep old id given new) before.blocks id after.blocks
        → AreBesideHardware new after.blocks rows
    by None at none same = subst (λ (blocks : List ShownBlock). AreBesideHardware new blocks rows) (sym same) (elim none [
      | inl absent ↦ subst (λ (parts : BoardParts). AreBesideHardware parts before.blocks rows) (sym absent.same) beside
      | inr wrong ↦ subst (λ (parts : BoardParts). AreBesideHardware parts before.blocks rows) (sym wrong.same) beside
    ])
    by (Some block) at able (now, takes, is) =
        let keeps = ended takes.taken old new id takes.between now given takes.ends in
        let idle = idle_of old before.blocks rows id block beside.asking at cannot in
        record {
          board = beside_by old new rows rows id beside.board (ap device_ids keeps.devices) refl (λ other ne. refl) keeps.others (none_under_way (under_way_of rows id) idle);
          asking = asks_by old.devices new.devices before.blocks after.blocks rows rows id beside.asking (λ other ne. ap (λ ds. kind_in ds other) keeps.devices)
              (others_stay (TakesOneStep old id given new) before.blocks after.blocks id steps.0) (λ other ne. refl)
              (λ shown row under_way there has so. idle_still rows rows id row under_way idle refl has so);
        }

-- A BLOCK DEVICE without a cache is there itself
pub place_there : {D : Type 0} {d : Ghosts D} (shown : D → DiskState) (hardware : Hardware D d) → HardwareInvariant hardware → (id : ℕ) → kind_in hardware.board.devices.items id ≡ Some Block
    → (blocks : List (BlockDevice D d)) → blocks ≡ hardware.blocks.items → (found : Option ℕ)
    → MatchOption found (block_with (shown_blocks shown blocks) id ≡ None) (IsBlockPlace shown blocks id) → IsSome found
place_there shown hardware invariants id kind blocks same (Some place) finds = refl
place_there {D = D} {d = d} shown hardware invariants id kind blocks same None none =
    absurd (there_able shown hardware invariants id (Block, kind, refl) (subst (λ (bs : List (BlockDevice D d)). block_with (shown_blocks shown bs) id ≡ None) same none))

-- and nothing is under way of it
pub none_walking : (found : Option UnderWay) → is_some found ≡ false → found ≡ None
none_walking None none = refl
none_walking (Some under_way) none = cc

-- where it stands
pub found_there : {D : Type 0} {d : Ghosts D} (shown : D → DiskState) (items blocks : List (BlockDevice D d)) (id place : ℕ) → blocks ≡ items → (found : Option ℕ) → found ≡ Some place
    → MatchOption found (block_with (shown_blocks shown blocks) id ≡ None) (IsBlockPlace shown blocks id) → IsBlockPlace shown items id place
found_there {D = D} {d = d} shown items blocks id place same found is finds =
    subst (λ (bs : List (BlockDevice D d)). IsBlockPlace shown bs id place) same
    (subst (λ (o : Option ℕ). MatchOption o (block_with (shown_blocks shown blocks) id ≡ None) (IsBlockPlace shown blocks id)) is finds)
