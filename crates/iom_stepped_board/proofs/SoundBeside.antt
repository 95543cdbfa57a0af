-- What stays true of a board, and of what is under way beside it, when the IOMMU begins a request or makes a load.
use Rattle.std.proofs.Common.{◌≡◌, ◌≢◌, ◌+◌, ◌<◌, ◌≤◌, ◌∙◌, ◌∷◌, [], inl, inr, ℕ, Bool, List, length, Option, Some, None, IsSome, is_some, Result, refl, sym, ap, subst, arith, if◌then◌else◌}
use Rattle.std.proofs.lemmas.List.{length-append}
use Rattle.iom_base.specs.Accesses.{at_frame}
use Rattle.iom_base.specs.declared.access.Access.{Access}
use Rattle.iom_base.specs.declared.access.AcceptedAccess.{AcceptedAccess}
use Rattle.iom_board.specs.BoardParts.{BoardParts}
use Rattle.iom_board.specs.Invariant.{device_ids, flight_ids, BoardInvariant}
use Rattle.iom_board.specs.ThroughCache.{frame_in_cache}
use Rattle.iom_board.specs.declared.answers.CacheReply.{CacheReply}
use Rattle.iom_board.specs.declared.answers.CacheReply.TheVariants.{Miss, Replied}
use Rattle.iom_board.proofs.SoundReplies as replies
use Rattle.iom_board.proofs.SoundThen.{KeepsIommu, iommu_kept, devices_kept, fabric_kept, sound_more, sound_then}
use Rattle.iom_command_queue.specs.OpenSlots.{OpenSlots}
use Rattle.iom_inflight.specs.Calls.{IsAccepted, with_access}
use Rattle.iom_inflight.specs.Flights.{Flights, FlightRow, count_in}
use Rattle.iom_inflight.specs.Flights as flights
use Rattle.iom_fault_queue.specs.Fields.{translated_of}
use Rattle.iom_inflight.proofs.Rows as flight_rows
use Rattle.iom_iommu.specs.OwnIommu.{Iommu}
use Rattle.iom_iommu.specs.Parts.{flights_of, slots_of, frames_of}
use Rattle.iom_iommu.specs.Stepped as stepped
use Rattle.iom_iommu.specs.Translated.{ServesTranslated}
use Rattle.iom_iommu.specs.declared.begun.Begun.{Begun}
use Rattle.iom_iommu.specs.declared.begun.Begun.TheVariants.{Answered, Walking, Occupied}
use Rattle.iom_iommu.specs.declared.begun.Load.{Load}
use Rattle.iom_iommu.specs.declared.begun.Load.TheVariants.{Nothing, Loaded, Ended}
use Rattle.iom_iommu.specs.declared.reply.Reply.{Reply}
use Rattle.iom_iommu.specs.declared.reply.Reply.TheVariants.{Accepted, Busy, Fault, BadSpan}
use Rattle.iom_stage_walk.specs.declared.walked.WalkFault.{WalkFault}
use Rattle.iom_tlb.specs.declared.trans_cache.Translation.{Translation}
use Rattle.iom_walks.specs.Calls.{row_walking, row_going_on}
use Rattle.iom_walks.specs.Walks.{WalkRow, idle_row, under_way_in, under_way_of}
use Rattle.iom_stepped_board.specs.Beside.{AreBeside, walk_ids}
use Rattle.iom_stepped_board.specs.Requests.{BeginsBeside, LoadsBeside}
use Rattle.iom_stepped_board.specs.ThroughCache.{GoesByCacheBeside, GoesByFrameBeside}
use Rattle.iom_stepped_board.proofs.BesideLemmas.{beside_by, ids_with, none_under_way, others_fly, others_walk, own_walk, stays}

-- AN ACCESS IS ACCEPTED
accepted_kept : (old : BoardParts) (iommu : Iommu) (events id : ℕ) (accepted : AcceptedAccess) (number : ℕ) → BoardInvariant old events
    → IsAccepted (flights_of old.iommu) id accepted number (flights_of iommu) → frames_of iommu ≡ frames_of old.iommu → slots_of iommu ≡ slots_of old.iommu → KeepsIommu old.iommu iommu events
accepted_kept old iommu events id accepted number invariants is frames slots = record {
  frames = frames;
  rows = ap (λ (f : Flights). flight_ids f.rows) is.after ∙ replies.ids_with (flights_of old.iommu).rows (with_access is.row accepted ((flights_of old.iommu).so_far + 1));
  accepted = subst (λ (f : Flights). f.so_far ≤ events + 1) (sym is.after) (let low = invariants.accepted in omega (arith, low));
  serials = subst (λ (s : OpenSlots). s.last ≤ events + 1) (sym slots) (let low = invariants.serials in omega (arith, low));
}

-- A REQUEST THAT HAS ITS ANSWER
replied_kept : (old : BoardParts) (memory : List (List ℕ)) (iommu : Iommu) (events id : ℕ) (access : Access) (translated : Result Translation WalkFault) (reply : Reply) → BoardInvariant old events
    → stepped.Replies old.memory old.iommu id access translated reply memory iommu → KeepsIommu old.iommu iommu events
replied_kept old memory iommu events id access translated (Accepted number) invariants accepts =
    accepted_kept old iommu events id (record { access = access; frame = accepts.translation.frame }) number invariants accepts.accepted
    (ap (λ parts. parts.frames) accepts.rest) (ap (λ parts. parts.slots) accepts.rest)
replied_kept old memory iommu events id access translated (Fault cause) invariants records =
    iommu_kept old iommu events invariants (ap (λ parts. parts.frames) records.rest) (ap (λ parts. parts.flights) records.rest) (ap (λ parts. parts.slots) records.rest)
replied_kept old memory iommu events id access translated Busy invariants never = absurd never
replied_kept old memory iommu events id access translated BadSpan invariants never = absurd never

-- its device has nothing under way then
replied_beside : (old new : BoardParts) (rows new_rows : List WalkRow) (id : ℕ) (access : Access) (translated : Result Translation WalkFault) (reply : Reply) → AreBeside old rows
    → device_ids new.devices ≡ device_ids old.devices → walk_ids new_rows ≡ walk_ids rows → ((other : ℕ) → other ≢ id → under_way_of new_rows other ≡ under_way_of rows other)
    → under_way_of new_rows id ≡ None → stepped.Replies old.memory old.iommu id access translated reply new.memory new.iommu → AreBeside new new_rows
replied_beside old new rows new_rows id access translated (Accepted number) beside devices ids others none accepts =
    beside_by old new rows new_rows id beside devices ids others
    (others_fly (flights_of old.iommu) (flights_of new.iommu) id (record { access = access; frame = accepts.translation.frame }) number accepts.accepted)
    (none_under_way (under_way_of new_rows id) none)
replied_beside old new rows new_rows id access translated (Fault cause) beside devices ids others none records =
    beside_by old new rows new_rows id beside devices ids others
    (λ other ne. ap (λ (f : Flights). flights.row_of f.rows other) {x = flights_of new.iommu} {y = flights_of old.iommu} (ap (λ parts. parts.flights) records.rest))
    (none_under_way (under_way_of new_rows id) none)
replied_beside old new rows new_rows id access translated Busy beside devices ids others none never = absurd never
replied_beside old new rows new_rows id access translated BadSpan beside devices ids others none never = absurd never

-- nothing changes
unchanged_kept : (old : BoardParts) (iommu : Iommu) (events : ℕ) → BoardInvariant old events → iommu ≡ old.iommu → KeepsIommu old.iommu iommu events
unchanged_kept old iommu events invariants same =
    iommu_kept old iommu events invariants (ap (λ (i : Iommu). frames_of i) same) (ap (λ (i : Iommu). flights_of i) same) (ap (λ (i : Iommu). slots_of i) same)

unchanged_beside : (old new : BoardParts) (rows new_rows : List WalkRow) → AreBeside old rows → new.devices ≡ old.devices → new.iommu ≡ old.iommu → new_rows ≡ rows → AreBeside new new_rows
unchanged_beside old new rows new_rows beside devices iommu same =
    subst (λ (rs : List WalkRow). AreBeside new rs) (sym same) (stays old new rows beside (ap device_ids devices) (ap (λ (i : Iommu). flights_of i) iommu))

-- A REQUEST BEGINS
begun_kept : (old : BoardParts) (memory : List (List ℕ)) (iommu : Iommu) (rows new_rows : List WalkRow) (events id : ℕ) (access : Access) (begun : Begun) → BoardInvariant old events
    → stepped.BeginsRequest old.memory old.iommu rows id access begun memory iommu new_rows → KeepsIommu old.iommu iommu events
begun_kept old memory iommu rows new_rows events id access (Answered BadSpan) invariants (outside, (unchanged, same, kept)) = unchanged_kept old iommu events invariants same
begun_kept old memory iommu rows new_rows events id access (Answered Busy) invariants (within, full, (unchanged, same, kept)) = unchanged_kept old iommu events invariants same
begun_kept old memory iommu rows new_rows events id access Occupied invariants (within, room, some, (unchanged, same, kept)) = unchanged_kept old iommu events invariants same
begun_kept old memory iommu rows new_rows events id access Walking invariants (unchanged, begins) =
    iommu_kept old iommu events invariants (ap (λ parts. parts.frames) begins.rest) (ap (λ parts. parts.flights) begins.rest) (ap (λ parts. parts.slots) begins.rest)
begun_kept old memory iommu rows new_rows events id access (Answered (Accepted number)) invariants answers =
    replied_kept old memory iommu events id access (stepped.translation_by old.memory access.address access.kind answers.answer) (Accepted number) invariants answers.replied
begun_kept old memory iommu rows new_rows events id access (Answered (Fault cause)) invariants answers =
    replied_kept old memory iommu events id access (stepped.translation_by old.memory access.address access.kind answers.answer) (Fault cause) invariants answers.replied

pub begun_sound : (old new : BoardParts) (rows new_rows : List WalkRow) (events id : ℕ) (access : Access) (begun : Begun) → BoardInvariant old events
    → BeginsBeside rows id access new_rows old begun new → length new.memory ≡ length old.memory → BoardInvariant new (events + 1)
begun_sound old new rows new_rows events id access begun invariants begins memory =
    sound_then old new events invariants memory (begun_kept old new.memory new.iommu rows new_rows events id access begun invariants begins.call)
    (devices_kept old new.devices events invariants begins.devices) (fabric_kept old new.fabric events invariants begins.fabric)

-- its place is free where it may begin
has_place : (old : Iommu) (rows : List WalkRow) (id : ℕ) → stepped.places_taken (flights_of old) rows id < 8 → count_in (flights.row_of (flights_of old).rows id) < 8
has_place old rows id room = omega (arith, room)

answered_beside : (old new : BoardParts) (rows new_rows : List WalkRow) (id : ℕ) (access : Access) (reply : Reply) → AreBeside old rows → new.devices ≡ old.devices
    → stepped.AnswersAtOnce old.memory old.iommu rows id access reply new.memory new.iommu new_rows → AreBeside new new_rows
answered_beside old new rows new_rows id access reply beside devices answers =
    let same : new_rows ≡ rows = answers.begun.1 in
    replied_beside old new rows new_rows id access (stepped.translation_by old.memory access.address access.kind answers.answer) reply beside (ap device_ids devices)
    (ap walk_ids same) (λ other ne. ap (λ (rs : List WalkRow). under_way_of rs other) same) (ap (λ (rs : List WalkRow). under_way_of rs id) same ∙ answers.may.idle) answers.replied

pub begun_beside : (old new : BoardParts) (rows new_rows : List WalkRow) (id : ℕ) (access : Access) (begun : Begun) → AreBeside old rows
    → BeginsBeside rows id access new_rows old begun new → AreBeside new new_rows
begun_beside old new rows new_rows id access (Answered BadSpan) beside begins = unchanged_beside old new rows new_rows beside begins.devices begins.call.1.1 begins.call.1.2
begun_beside old new rows new_rows id access (Answered Busy) beside begins = unchanged_beside old new rows new_rows beside begins.devices begins.call.2.1 begins.call.2.2
begun_beside old new rows new_rows id access Occupied beside begins = unchanged_beside old new rows new_rows beside begins.devices begins.call.3.1 begins.call.3.2
begun_beside old new rows new_rows id access (Answered (Accepted number)) beside begins = answered_beside old new rows new_rows id access (Accepted number) beside begins.devices begins.call
begun_beside old new rows new_rows id access (Answered (Fault cause)) beside begins = answered_beside old new rows new_rows id access (Fault cause) beside begins.devices begins.call
begun_beside old new rows new_rows id access Walking beside begins =
    let walks = begins.call.1 in
    let starts = walks.begun in
    let flights_same : flights_of new.iommu ≡ flights_of old.iommu = ap (λ parts. parts.flights) walks.rest in
    let own = row_walking starts.row (stepped.request_for id access) access.len access.bytes starts.walk in
    beside_by old new rows new_rows id beside (ap device_ids begins.devices) (ap walk_ids starts.after ∙ ids_with rows own)
    (λ other ne. ap (λ (rs : List WalkRow). under_way_of rs other) starts.after ∙ others_walk rows id starts.row own starts.was_there refl other ne)
    (λ other ne. ap (λ (f : Flights). flights.row_of f.rows other) flights_same)
    (λ some. subst (λ (f : Flights). count_in (flights.row_of f.rows id) < 8) (sym flights_same) (has_place old.iommu rows id walks.may.room))

-- A LOAD IS MADE
loaded_kept : (old : BoardParts) (memory : List (List ℕ)) (iommu : Iommu) (rows new_rows : List WalkRow) (events id : ℕ) (load : Load) → BoardInvariant old events
    → stepped.LoadsNext old.memory old.iommu rows id load memory iommu new_rows → KeepsIommu old.iommu iommu events
loaded_kept old memory iommu rows new_rows events id Nothing invariants (none, (unchanged, same, kept)) = unchanged_kept old iommu events invariants same
loaded_kept old memory iommu rows new_rows events id Loaded invariants (unchanged, more) =
    iommu_kept old iommu events invariants (ap (λ parts. parts.frames) more.rest) (ap (λ parts. parts.flights) more.rest) (ap (λ parts. parts.slots) more.rest)
loaded_kept old memory iommu rows new_rows events id (Ended reply) invariants ends = replied_kept old memory iommu events id _ _ reply invariants ends.replied

pub loaded_sound : (old new : BoardParts) (rows new_rows : List WalkRow) (events id : ℕ) (load : Load) → BoardInvariant old events
    → LoadsBeside rows id new_rows old load new → length new.memory ≡ length old.memory → BoardInvariant new (events + 1)
loaded_sound old new rows new_rows events id load invariants loads memory =
    sound_then old new events invariants memory (loaded_kept old new.memory new.iommu rows new_rows events id load invariants loads.call)
    (devices_kept old new.devices events invariants loads.devices) (fabric_kept old new.fabric events invariants loads.fabric)

pub loaded_beside : (old new : BoardParts) (rows new_rows : List WalkRow) (id : ℕ) (load : Load) → AreBeside old rows → LoadsBeside rows id new_rows old load new → AreBeside new new_rows
loaded_beside old new rows new_rows id Nothing beside loads = unchanged_beside old new rows new_rows beside loads.devices loads.call.1.1 loads.call.1.2
loaded_beside old new rows new_rows id Loaded beside loads =
    let more = loads.call.1 in
    let goes = more.loads in
    let flights_same : flights_of new.iommu ≡ flights_of old.iommu = ap (λ parts. parts.flights) more.rest in
    let own = row_going_on goes.row goes.under_way goes.walk in
    let was : IsSome (under_way_of rows id) = ap (λ (found : Option WalkRow). is_some (under_way_in found)) goes.was_there ∙ ap is_some goes.walks in
    beside_by old new rows new_rows id beside (ap device_ids loads.devices) (ap walk_ids goes.after ∙ ids_with rows own)
    (λ other ne. ap (λ (rs : List WalkRow). under_way_of rs other) goes.after ∙ others_walk rows id goes.row own goes.was_there refl other ne)
    (λ other ne. ap (λ (f : Flights). flights.row_of f.rows other) flights_same)
    (λ some. subst (λ (f : Flights). count_in (flights.row_of f.rows id) < 8) (sym flights_same) (beside.room id was))
loaded_beside old new rows new_rows id (Ended reply) beside loads =
    let ends = loads.call in
    let goes = ends.loads in
    let own = idle_row goes.row in
    replied_beside old new rows new_rows id _ _ reply beside (ap device_ids loads.devices) (ap walk_ids goes.after ∙ ids_with rows own)
    (λ other ne. ap (λ (rs : List WalkRow). under_way_of rs other) goes.after ∙ others_walk rows id goes.row own goes.was_there refl other ne)
    (ap (λ (rs : List WalkRow). under_way_of rs id) goes.after ∙ own_walk rows id goes.row own goes.was_there refl) ends.replied

-- A TRANSLATED REQUEST beside what is under way
pub translated_sound : (old new : BoardParts) (rows : List WalkRow) (events id : ℕ) (access : Access) (reply : Reply) → BoardInvariant old events
    → stepped.AnswersTranslatedBeside old.memory old.iommu rows id access reply new.memory new.iommu → length new.memory ≡ length old.memory → new.devices ≡ old.devices → new.fabric ≡ old.fabric
    → BoardInvariant new (events + 1)
translated_sound old new rows events id access BadSpan invariants answers memory devices fabric =
    sound_then old new events invariants memory (unchanged_kept old new.iommu events invariants answers.1) (devices_kept old new.devices events invariants devices) (fabric_kept old new.fabric events invariants fabric)
translated_sound old new rows events id access Busy invariants answers memory devices fabric =
    sound_then old new events invariants memory (unchanged_kept old new.iommu events invariants answers.2) (devices_kept old new.devices events invariants devices) (fabric_kept old new.fabric events invariants fabric)
translated_sound old new rows events id access (Accepted number) invariants answers memory devices fabric =
    replies.replied_sound (ServesTranslated old.memory old.iommu id access) (translated_of access.kind) old new events id access (Accepted number) invariants answers.1 memory devices fabric
translated_sound old new rows events id access (Fault cause) invariants answers memory devices fabric =
    replies.replied_sound (ServesTranslated old.memory old.iommu id access) (translated_of access.kind) old new events id access (Fault cause) invariants answers.1 memory devices fabric

-- one more is in flight of a device that had a place beside what is under way of it
one_more : (old new : Flights) (rows : List WalkRow) (id : ℕ) (accepted : AcceptedAccess) (number : ℕ) → IsAccepted old id accepted number new → stepped.places_taken old rows id < 8
    → IsSome (under_way_of rows id) → count_in (flights.row_of new.rows id) < 8
one_more old new rows id accepted number is room some =
    let row : FlightRow = with_access is.row accepted (old.so_far + 1) in
    let own : is.row.device ≡ id = flight_rows.row_is_own old.rows id is.row is.stands in
    let there : IsSome (flights.row_of old.rows row.device) = subst (λ (d : ℕ). IsSome (flights.row_of old.rows d)) (sym own) (ap is_some is.stands) in
    let now : flights.row_of new.rows id ≡ Some row =
    subst (λ (d : ℕ). flights.row_of new.rows d ≡ Some row) own (ap (λ (f : Flights). flights.row_of f.rows row.device) is.after ∙ flight_rows.row_of_own old.rows row there) in
    let was : count_in (flights.row_of old.rows id) ≡ length is.row.waiting = ap count_in is.stands in
    let taken : count_in (flights.row_of old.rows id) + 1 < 8 = subst (λ (b : Bool). count_in (flights.row_of old.rows id) + (if b then 1 else 0) < 8) some room in
    let longer = length-append is.row.waiting (record { accepted = accepted; number = old.so_far + 1 } ∷ []) in
    rw now (omega (arith, was, taken, longer))

pub translated_beside : (old new : BoardParts) (rows : List WalkRow) (id : ℕ) (access : Access) (reply : Reply) → AreBeside old rows
    → stepped.AnswersTranslatedBeside old.memory old.iommu rows id access reply new.memory new.iommu → new.devices ≡ old.devices → AreBeside new rows
translated_beside old new rows id access BadSpan beside answers devices = unchanged_beside old new rows rows beside devices answers.1 refl
translated_beside old new rows id access Busy beside answers devices = unchanged_beside old new rows rows beside devices answers.2 refl
translated_beside old new rows id access (Fault cause) beside answers devices =
    stays old new rows beside (ap device_ids devices) (ap (λ parts. parts.flights) answers.1.rest)
translated_beside old new rows id access (Accepted number) beside answers devices =
    let accepts = answers.1.0 in
    let accepted : AcceptedAccess = record { access = access; frame = accepts.frame } in
    beside_by old new rows rows id beside (ap device_ids devices) refl (λ other ne. refl) (others_fly (flights_of old.iommu) (flights_of new.iommu) id accepted number accepts.accepted)
    (one_more (flights_of old.iommu) (flights_of new.iommu) rows id accepted number accepts.accepted answers.0)

-- AN ACCESS GOES THROUGH A CACHE
pub goes_sound : (old new : BoardParts) (rows : List WalkRow) (events id : ℕ) (access : Access) (reply : CacheReply) → BoardInvariant old events → GoesByCacheBeside rows id access old reply new
    → length new.memory ≡ length old.memory → BoardInvariant new (events + 1)
goes_sound old new rows events id access reply invariants goes memory = elim goes [
  | inl outside ↦ still outside.2
  | inr (inl busy) ↦ still busy.3
  | inr (inr asks) ↦ by (frame_in_cache old id access) reply asks.2
]
  where
    still : new ≡ old → BoardInvariant new (events + 1)
    still same = subst (λ parts. BoardInvariant parts (events + 1)) (sym same) (sound_more old events invariants)

    by : (found : Option ℕ) (r : CacheReply) → GoesByFrameBeside found rows id access old r new → BoardInvariant new (events + 1)
    by None Miss same = still same
    by None (Replied r) never = absurd never
    by (Some frame) Miss never = absurd never
    by (Some frame) (Replied r) replies = translated_sound old new rows events id (at_frame frame access) r invariants replies.call memory replies.devices replies.fabric

pub goes_beside : (old new : BoardParts) (rows : List WalkRow) (id : ℕ) (access : Access) (reply : CacheReply) → AreBeside old rows → GoesByCacheBeside rows id access old reply new → AreBeside new rows
goes_beside old new rows id access reply beside goes = elim goes [
  | inl outside ↦ still outside.2
  | inr (inl busy) ↦ still busy.3
  | inr (inr asks) ↦ by (frame_in_cache old id access) reply asks.2
]
  where
    still : new ≡ old → AreBeside new rows
    still same = subst (λ parts. AreBeside parts rows) (sym same) beside

    by : (found : Option ℕ) (r : CacheReply) → GoesByFrameBeside found rows id access old r new → AreBeside new rows
    by None Miss same = still same
    by None (Replied r) never = absurd never
    by (Some frame) Miss never = absurd never
    by (Some frame) (Replied r) replies = translated_beside old new rows id (at_frame frame access) r beside replies.call replies.devices
