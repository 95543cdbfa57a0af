-- What stays true of a board when the IOMMU answers.
use Rattle.std.proofs.Common.{◌≡◌, ◌+◌, ◌==◌, ◌≤◌, ◌∙◌, inl, inr, ℕ, Bool, true, false, List, [], ◌∷◌, length, Option, None, Some, Result, refl, sym, ap, subst, arith, if◌then◌else◌}
use Rattle.std.proofs.lemmas.Bool.{eqb-true}
use Rattle.std.proofs.lemmas.List.{length-set}
use Rattle.iom_base.specs.Accesses.{offset_of, at_frame}
use Rattle.iom_base.specs.Bytes.{with_bytes}
use Rattle.iom_base.specs.declared.access.AccessKind.{AccessKind}
use Rattle.iom_base.specs.declared.access.AccessKind.TheVariants.{Read, Write}
use Rattle.iom_base.specs.declared.access.Access.{Access}
use Rattle.iom_base.specs.declared.access.AcceptedAccess.{AcceptedAccess}
use Rattle.iom_command_queue.specs.OpenSlots.{OpenSlots}
use Rattle.iom_command_queue.specs.declared.command.Command.{Command}
use Rattle.iom_command_queue.specs.declared.command.Command.TheVariants.{IotinvalVma, IotinvalGvma, IofenceC, IodirInvalDdt, AtsInval}
use Rattle.iom_command_queue.specs.declared.entry.QueueEntry.{QueueEntry}
use Rattle.iom_command_queue.specs.declared.entry.QueueEntry.TheVariants as stands
use Rattle.iom_fabric.specs.declared.message.Translation.{Translation as Answer}
use Rattle.iom_fabric.specs.declared.message.Translation.TheVariants.{Page, Refused}
use Rattle.iom_fault_queue.specs.Fields.{translated_of}
use Rattle.iom_fault_queue.specs.declared.transaction.Transaction.{Transaction}
use Rattle.iom_inflight.specs.Calls.{IsAccepted, IsMade, MakesOldestInFlight, Performs, with_access}
use Rattle.iom_inflight.specs.Flights.{Flights, FlightRow, with_row}
use Rattle.iom_inflight.specs.declared.made.MadeAt.{MadeAt}
use Rattle.iom_iommu.specs.declared.fetched.Fetched.{Fetched}
use Rattle.iom_iommu.specs.declared.fetched.Fetched.TheVariants.{Did, Waiting, Empty, Stopped}
use Rattle.iom_iommu.specs.declared.reply.Reply.{Reply}
use Rattle.iom_iommu.specs.declared.reply.Reply.TheVariants.{Accepted, Busy, BadSpan, Fault}
use Rattle.iom_iommu.specs.Fetches.{FetchesCommand, head_entry}
use Rattle.iom_iommu.specs.Effects.{FetchesByAnswer, StopsFetching, StopsAtEntry, slots_by, store_of}
use Rattle.iom_iommu.specs.Parts.{flights_of, slots_of, frames_of, registers_of}
use Rattle.iom_iommu.specs.Questions.{AnswersQuestion}
use Rattle.iom_iommu.specs.Requests.{Answers, CommitsOldest}
use Rattle.iom_iommu.specs.Translated.{ServesTranslated}
use Rattle.iom_iommu.proofs.ByAnswer.{by_answer}
use Rattle.iom_iommu.proofs.FetchLemmas.{store_length}
use Rattle.iom_registers.specs.Queues.{is_processing_commands}
use Rattle.iom_stage_walk.specs.declared.walked.WalkFault.{WalkFault}
use Rattle.iom_tlb.specs.declared.trans_cache.Translation.{Translation}
use Rattle.iom_tlb.specs.Content.{Translations}
use Rattle.iom_board.specs.BoardParts.{BoardParts}
use Rattle.iom_iommu.specs.OwnIommu.{Iommu}
use Rattle.iom_board.specs.Invariant.{flight_ids, BoardInvariant}
use Rattle.iom_board.specs.ThroughCache.{frame_in_cache, GoesByCachedFrame, GoesByCache}
use Rattle.iom_board.specs.declared.answers.CacheReply.{CacheReply}
use Rattle.iom_board.specs.declared.answers.CacheReply.TheVariants.{Miss, Replied}
use Rattle.iom_board.proofs.SoundThen.{KeepsIommu, iommu_kept, devices_kept, fabric_kept, sound_more, sound_then}

-- a row is replaced by one of the same device
pub ids_with : (rows : List FlightRow) (own : FlightRow) → flight_ids (with_row rows own) ≡ flight_ids rows
ids_with [] own = refl
ids_with (row ∷ rows) own = by (row.device == own.device) refl (ids_with rows own)
  where
    by : (b : Bool) → (row.device == own.device) ≡ b → flight_ids (with_row rows own) ≡ flight_ids rows
        → flight_ids (if b then own ∷ rows else row ∷ with_row rows own) ≡ row.device ∷ flight_ids rows
    by true is rest = ap (λ id. id ∷ flight_ids rows) (sym (eqb-true row.device own.device is))
    by false is rest = ap (λ ids. row.device ∷ ids) rest

-- AN ACCESS IS ACCEPTED
accepted_kept : (old : BoardParts) (iommu : Iommu) (events id : ℕ) (accepted : AcceptedAccess) (number : ℕ) → BoardInvariant old events → IsAccepted (flights_of old.iommu) id accepted number (flights_of iommu)
    → frames_of iommu ≡ frames_of old.iommu → slots_of iommu ≡ slots_of old.iommu → KeepsIommu old.iommu iommu events
accepted_kept old iommu events id accepted number invariants is frames slots = record {
  frames = frames;
  rows = ap (λ (f : Flights). flight_ids f.rows) is.after ∙ ids_with (flights_of old.iommu).rows (with_access is.row accepted ((flights_of old.iommu).so_far + 1));
  accepted = subst (λ (f : Flights). f.so_far ≤ events + 1) (sym is.after) (let low = invariants.accepted in omega (arith, low));
  serials = subst (λ (s : OpenSlots). s.last ≤ events + 1) (sym slots) (let low = invariants.serials in omega (arith, low));
}

-- A REQUEST IS ANSWERED, be it translated or not
replied_kept : (Served : Result Translation WalkFault → Translations → Type 0) (transaction : Transaction) (old : BoardParts) (memory : List (List ℕ)) (iommu : Iommu) (events id : ℕ)
    (access : Access) (reply : Reply) → BoardInvariant old events → Answers Served transaction old.memory old.iommu id access reply memory iommu → KeepsIommu old.iommu iommu events
replied_kept Served transaction old memory iommu events id access BadSpan invariants (outside, same, unchanged) = iommu_kept old iommu events invariants (ap (λ (i : Iommu). frames_of i) same) (ap (λ (i : Iommu). flights_of i) same) (ap (λ (i : Iommu). slots_of i) same)
replied_kept Served transaction old memory iommu events id access Busy invariants (within, full, same, unchanged) = iommu_kept old iommu events invariants (ap (λ (i : Iommu). frames_of i) same) (ap (λ (i : Iommu). flights_of i) same) (ap (λ (i : Iommu). slots_of i) same)
replied_kept Served transaction old memory iommu events id access (Accepted number) invariants (accepts, unchanged) =
    accepted_kept old iommu events id (record { access = access; frame = accepts.frame }) number invariants accepts.accepted (ap (λ parts. parts.frames) accepts.rest) (ap (λ parts. parts.slots) accepts.rest)
replied_kept Served transaction old memory iommu events id access (Fault cause) invariants refuses = iommu_kept old iommu events invariants (ap (λ parts. parts.frames) refuses.rest) (ap (λ parts. parts.flights) refuses.rest) (ap (λ parts. parts.slots) refuses.rest)

pub replied_sound : (Served : Result Translation WalkFault → Translations → Type 0) (transaction : Transaction) (old new : BoardParts) (events id : ℕ) (access : Access) (reply : Reply)
    → BoardInvariant old events → Answers Served transaction old.memory old.iommu id access reply new.memory new.iommu → length new.memory ≡ length old.memory → new.devices ≡ old.devices
    → new.fabric ≡ old.fabric → BoardInvariant new (events + 1)
replied_sound Served transaction old new events id access reply invariants answers memory devices fabric =
    sound_then old new events invariants memory (replied_kept Served transaction old new.memory new.iommu events id access reply invariants answers) (devices_kept old new.devices events invariants devices)
    (fabric_kept old new.fabric events invariants fabric)

-- AN ACCESS GOES THROUGH A CACHE
pub goes_sound : (old new : BoardParts) (events id : ℕ) (access : Access) (reply : CacheReply) → BoardInvariant old events → GoesByCache id access old reply new
    → length new.memory ≡ length old.memory → BoardInvariant new (events + 1)
goes_sound old new events id access reply invariants goes memory = elim goes [
  | inl outside ↦ still outside.2
  | inr (inl busy) ↦ still busy.3
  | inr (inr asks) ↦ by (frame_in_cache old id access) reply asks.2
]
  where
    still : new ≡ old → BoardInvariant new (events + 1)
    still same = subst (λ parts. BoardInvariant parts (events + 1)) (sym same) (sound_more old events invariants)

    by : (found : Option ℕ) (r : CacheReply) → GoesByCachedFrame found id access old r new → BoardInvariant new (events + 1)
    by None Miss same = still same
    by None (Replied r) never = absurd never
    by (Some frame) Miss never = absurd never
    by (Some frame) (Replied r) replies =
        replied_sound (ServesTranslated old.memory old.iommu id (at_frame frame access)) (translated_of access.kind) old new events id (at_frame frame access) r invariants replies.call memory replies.devices
        replies.fabric

-- A QUESTION IS ANSWERED
pub asked_kept : (old : BoardParts) (memory : List (List ℕ)) (iommu : Iommu) (events id page : ℕ) (answer : Answer) → BoardInvariant old events
    → AnswersQuestion old.memory old.iommu id page answer memory iommu → KeepsIommu old.iommu iommu events
asked_kept old memory iommu events id page (Page frame rights) invariants tells = iommu_kept old iommu events invariants (ap (λ parts. parts.frames) tells.0.rest) (ap (λ parts. parts.flights) tells.0.rest) (ap (λ parts. parts.slots) tells.0.rest)
asked_kept old memory iommu events id page (Refused cause) invariants tells = iommu_kept old iommu events invariants (ap (λ parts. parts.frames) tells.rest) (ap (λ parts. parts.flights) tells.rest) (ap (λ parts. parts.slots) tells.rest)

-- AN ACCESS IS MADE
performed_length : (kind : AccessKind) (memory new : List (List ℕ)) (made : AcceptedAccess) → Performs kind memory made new → length new ≡ length memory
performed_length Read memory new made is = ap (λ m. length m) is
performed_length Write memory new made (bytes, there, is) = ap (λ m. length m) is ∙ length-set memory made.frame (with_bytes bytes (offset_of made.access) made.access.bytes)

pub made_length : (flights now : Flights) (id : ℕ) (made : Option MadeAt) (memory new : List (List ℕ)) → MakesOldestInFlight memory flights id made new now → length new ≡ length memory
made_length flights now id None memory new makes = ap (λ m. length m) makes.1
made_length flights now id (Some made) memory new makes = performed_length makes.oldest.accepted.access.kind memory new makes.oldest.accepted makes.performed

made_kept : (old : BoardParts) (memory : List (List ℕ)) (iommu : Iommu) (events id : ℕ) (made : Option MadeAt) → BoardInvariant old events → CommitsOldest old.memory old.iommu id made memory iommu
    → KeepsIommu old.iommu iommu events
made_kept old memory iommu events id None invariants call = iommu_kept old iommu events invariants (ap (λ parts. parts.frames) call.rest) call.makes.2 (ap (λ parts. parts.slots) call.rest)
made_kept old memory iommu events id (Some made) invariants call =
    let is : IsMade old.memory (flights_of old.iommu) id made memory (flights_of iommu) = call.makes in
    record {
      frames = (ap (λ parts. parts.frames) call.rest);
      rows = ap (λ (f : Flights). flight_ids f.rows) is.after ∙ ids_with (flights_of old.iommu).rows (record is.row { waiting = is.later });
      accepted = subst (λ (f : Flights). f.so_far ≤ events + 1) (sym is.after) (let low = invariants.accepted in omega (arith, low));
      serials = subst (λ (s : OpenSlots). s.last ≤ events + 1) (sym (ap (λ parts. parts.slots) call.rest)) (let low = invariants.serials in omega (arith, low));
    }

pub made_sound : (old new : BoardParts) (events id : ℕ) (made : Option MadeAt) → BoardInvariant old events → CommitsOldest old.memory old.iommu id made new.memory new.iommu
    → new.devices ≡ old.devices → new.fabric ≡ old.fabric → BoardInvariant new (events + 1)
made_sound old new events id made invariants call devices fabric =
    sound_then old new events invariants (made_length (flights_of old.iommu) (flights_of new.iommu) id made old.memory new.memory call.makes) (made_kept old new.memory new.iommu events id made invariants call) (devices_kept old new.devices events invariants devices) (fabric_kept old new.fabric events invariants fabric)

-- A COMMAND IS TAKEN
stopped_kept : (old : BoardParts) (iommu : Iommu) (events : ℕ) (entry : Option QueueEntry) → BoardInvariant old events → StopsAtEntry old.memory entry old.iommu iommu → KeepsIommu old.iommu iommu events
stopped_kept old iommu events None invariants stops = absurd stops
stopped_kept old iommu events (Some stands.Outside) invariants same = iommu_kept old iommu events invariants (ap (λ (i : Iommu). frames_of i) same) (ap (λ (i : Iommu). flights_of i) same) (ap (λ (i : Iommu). slots_of i) same)
stopped_kept old iommu events (Some (stands.Illegal reason)) invariants same = iommu_kept old iommu events invariants (ap (λ (i : Iommu). frames_of i) same) (ap (λ (i : Iommu). flights_of i) same) (ap (λ (i : Iommu). slots_of i) same)
stopped_kept old iommu events (Some (stands.Command command)) invariants (held, place, same) = iommu_kept old iommu events invariants (ap (λ (i : Iommu). frames_of i) same) (ap (λ (i : Iommu). flights_of i) same) (ap (λ (i : Iommu). slots_of i) same)

-- a command opens one request at most
serials_low : (command : Command) (slots : OpenSlots) (events : ℕ) → slots.last ≤ events → (slots_by command slots).last ≤ events + 1
serials_low (IotinvalVma gscid pscid page) slots events low = omega (arith, low)
serials_low (IotinvalGvma gscid page) slots events low = omega (arith, low)
serials_low (IofenceC store wsi pr pw) slots events low = omega (arith, low)
serials_low (IodirInvalDdt device) slots events low = omega (arith, low)
serials_low (AtsInval device range) slots events low = omega (arith, low)

kept_by_answer : (old : BoardParts) (memory : List (List ℕ)) (iommu : Iommu) (events : ℕ) (fetched : Fetched) → BoardInvariant old events → FetchesByAnswer old.memory old.iommu fetched memory iommu
    → KeepsIommu old.iommu iommu events
kept_by_answer old memory iommu events (Did command) invariants (on, at, free, place, stored, left) = record {
  frames = left.frames;
  rows = ap (λ (f : Flights). flight_ids f.rows) left.flights;
  accepted = subst (λ (f : Flights). f.so_far ≤ events + 1) (sym left.flights) (let low = invariants.accepted in omega (arith, low));
  serials = subst (λ (s : OpenSlots). s.last ≤ events + 1) (sym left.slots) (serials_low command (slots_of old.iommu) events invariants.serials);
}
kept_by_answer old memory iommu events Waiting invariants (on, waits, unchanged, same) = iommu_kept old iommu events invariants (ap (λ (i : Iommu). frames_of i) same) (ap (λ (i : Iommu). flights_of i) same) (ap (λ (i : Iommu). slots_of i) same)
kept_by_answer old memory iommu events Empty invariants (on, none, unchanged, same) = iommu_kept old iommu events invariants (ap (λ (i : Iommu). frames_of i) same) (ap (λ (i : Iommu). flights_of i) same) (ap (λ (i : Iommu). slots_of i) same)
kept_by_answer old memory iommu events Stopped invariants (stops, unchanged) = by (is_processing_commands (registers_of old.iommu)) stops
  where
    by : (on : Bool) → StopsFetching on old.memory old.iommu iommu → KeepsIommu old.iommu iommu events
    by false same = iommu_kept old iommu events invariants (ap (λ (i : Iommu). frames_of i) same) (ap (λ (i : Iommu). flights_of i) same) (ap (λ (i : Iommu). slots_of i) same)
    by true stops = stopped_kept old iommu events (head_entry old.memory (registers_of old.iommu)) invariants stops

pub fetched_kept : (old : BoardParts) (memory : List (List ℕ)) (iommu : Iommu) (events : ℕ) (fetched : Fetched) → BoardInvariant old events → FetchesCommand old.memory old.iommu fetched memory iommu
    → KeepsIommu old.iommu iommu events
fetched_kept old memory iommu events fetched invariants fetches = kept_by_answer old memory iommu events fetched invariants (by_answer old.memory memory old.iommu iommu fetched fetches)

length_by_answer : (old : List (List ℕ)) (iommu : Iommu) (fetched : Fetched) (memory : List (List ℕ)) (new : Iommu) → FetchesByAnswer old iommu fetched memory new → length memory ≡ length old
length_by_answer old iommu (Did command) memory new (on, at, free, place, stored, left) = ap (λ m. length m) stored ∙ store_length old (store_of command)
length_by_answer old iommu Waiting memory new (on, waits, unchanged, same) = ap (λ m. length m) unchanged
length_by_answer old iommu Empty memory new (on, none, unchanged, same) = ap (λ m. length m) unchanged
length_by_answer old iommu Stopped memory new (stops, unchanged) = ap (λ m. length m) unchanged

pub fetched_length : (old : List (List ℕ)) (iommu : Iommu) (fetched : Fetched) (memory : List (List ℕ)) (new : Iommu) → FetchesCommand old iommu fetched memory new → length memory ≡ length old
fetched_length old iommu fetched memory new fetches = length_by_answer old iommu fetched memory new (by_answer old memory iommu new fetched fetches)
