-- A request that begins, with all its loads, is one that is served in one event.
use Rattle.std.proofs.Common.{◌≡◌, ◌∙◌, ◌+◌, ◌<◌, ◌≤◌, ◌≢◌, inl, inr, ℕ, Bool, true, false, List, length, Option, None, Some, IsSome, is_some, Result, Ok, Err, if◌then◌else◌, refl, sym, ap, subst, arith}
use Rattle.std.proofs.lemmas.Bool.Decides.{eqb_tells}
use Rattle.iom_base.specs.Accesses.{IsWithinPage}
use Rattle.iom_base.specs.declared.access.Access.{Access}
use Rattle.iom_base.specs.declared.cause.Cause.{Cause}
use Rattle.iom_device_dir.specs.Cached.{cached_contexts}
use Rattle.iom_device_dir.specs.Contents.{Content, IsSameContent}
use Rattle.iom_device_dir.specs.declared.cache.DirCache.{DirCache}
use Rattle.iom_device_dir.specs.declared.context.Context.{Context}
use Rattle.iom_fault_queue.specs.Calls.{PutsRecord}
use Rattle.iom_fault_queue.specs.Fields.{untranslated_of}
use Rattle.iom_fault_queue.specs.Records.{record_of}
use Rattle.iom_inflight.specs.Calls.{HasRoom, IsAccepted, IsFull}
use Rattle.iom_inflight.specs.Flights.{Flights, FlightRow, count_in, row_of}
use Rattle.iom_iommu.specs.OwnIommu.{Iommu}
use Rattle.iom_iommu.specs.Parts.{IommuParts, IsAdded, contexts_of, flights_of, frames_of, iommu_parts, registers_of, translations_of}
use Rattle.iom_iommu.specs.Requests.{AnswersRequest, access_of, fault_of, faulted_of}
use Rattle.iom_iommu.specs.Service.{KeepsContext, Serves}
use Rattle.iom_iommu.specs.Stepped.{AcceptsTranslation, AnswersAtOnce, BeginsWalk, MayBegin, RecordsFault, Replies, beginning, places_taken, request_for, translation_by}
use Rattle.iom_iommu.specs.declared.reply.Reply.{Reply}
use Rattle.iom_iommu.specs.declared.reply.Reply.TheVariants.{Accepted, Busy, Fault, BadSpan}
use Rattle.iom_registers.specs.declared.registers.Registers.{Registers}
use Rattle.iom_stage_walk.specs.declared.walked.WalkFault.{WalkFault}
use Rattle.iom_stepped_requests.specs.Keeping.{Keeping, keeping}
use Rattle.iom_stepped_requests.specs.Serving.{Remaining, Serves as IsServed}
use Rattle.iom_stepped_requests.specs.Standing.{stands}
use Rattle.iom_stepped_requests.specs.Whole.{walk_on}
use Rattle.iom_stepped_requests.specs.declared.request.Answer.{Answer}
use Rattle.iom_stepped_requests.specs.declared.walk.Serving.TheVariants.{GoesOn}
use Rattle.iom_tlb.specs.Chosen.{Ioatc}
use Rattle.iom_tlb.specs.Content.{Translations}
use Rattle.iom_tlb.specs.declared.trans_cache.Translation.{Translation}
use Rattle.iom_walk_loads.specs.Loads.{made_from}
use Rattle.iom_walks.proofs.Rows.{row_is_own, row_of_other}
use Rattle.iom_walks.specs.Caches.{LooksAtBegin}
use Rattle.iom_walks.specs.Calls.{row_walking}
use Rattle.iom_walks.specs.Walks.{UnderWay, WalkRow, bytes_in, row_of as row_of_walks, under_way_in, under_way_of}
use Rattle.iom_stepped_service.proofs.RunLemmas.{IsRunOf, KeepsAll, replaced_row, runs, same_content, same_contexts}
use Rattle.iom_stepped_service.specs.Runs.{AnswersAreRequests, RunsAreRequests, SameUnderWay}
use Rattle.iom_stepped_service.specs.Service.{RunsServe, answer_of_run, begun}

-- a look loses no context
looked : (is_looked_for : Bool) (id : ℕ) (old new : DirCache) → LooksAtBegin is_looked_for id old new → IsSameContent (cached_contexts old) (cached_contexts new)
looked true id old new looks = looks.unchanged
looked false id old new same = λ key. ap (λ c. cached_contexts c key) same

-- a device with fewer than eight accesses in flight has room for one
room_of : (flights : Flights) (id : ℕ) (found : Option FlightRow) → row_of flights.rows id ≡ found → IsSome found → count_in found < 8 → HasRoom flights id
room_of flights id None at some room = absurd (let no : ⊥ = cc in no)
room_of flights id (Some row) at some room = record { row = row; stands = at; room = room }

full_of : (flights : Flights) (id : ℕ) (found : Option FlightRow) → row_of flights.rows id ≡ found → IsSome found → 8 ≤ count_in found → IsFull flights id
full_of flights id None at some full = absurd (let no : ⊥ = cc in no)
full_of flights id (Some row) at some full = record { row = row; stands = at; full = full }

below_eight : (n : ℕ) (b : Bool) → n + (if b then 1 else 0) < 8 → n < 8
below_eight n true less = omega (arith, less)
below_eight n false less = omega (arith, less)

module _ (serve : RunsServe) (memory new_memory : List (List ℕ)) (old last new : Iommu) (rows : List WalkRow) (id : ℕ) (access : Access) (answer : Answer)
    (added : IsAdded old id) (may : MayBegin old rows id access)
    (answered : answer ≡ answer_of_run memory (registers_of old) (contexts_of old) (translations_of old) (request_for id access))
    (keeps : KeepsAll true (keeping memory (translations_of old) (begun memory (registers_of old) (contexts_of old) (translations_of old) (request_for id access)))
    (contexts_of old) (translations_of old) (contexts_of new) (translations_of new))
    (last_is : iommu_parts last ≡ record (iommu_parts old) { contexts = last.contexts; translations = last.translations }) where
  abbrev translated : Result Translation WalkFault
  translated = translation_by memory access.address access.kind answer

  served : KeepsContext memory (registers_of old) (contexts_of old) id (contexts_of new)
      × Serves true memory (registers_of old) (contexts_of old) id access.address access.kind (translations_of old) translated (translations_of new)
  served =
      let (contexts, serves) = serve true memory (registers_of old) (request_for id access) (contexts_of old) (contexts_of new) (translations_of old) (translations_of new) keeps.0 keeps.1 in (
        contexts,
        subst (λ a. Serves true memory (registers_of old) (contexts_of old) id access.address access.kind (translations_of old) (translation_by memory access.address access.kind a) (translations_of new))
            (sym answered) serves,
      )

  flights_same : flights_of last ≡ flights_of old
  flights_same = ap (λ (p : IommuParts Ioatc). p.flights) last_is

  registers_same : registers_of last ≡ registers_of old
  registers_same = ap (λ (p : IommuParts Ioatc). p.registers) last_is

  accepts : (number : ℕ) → AcceptsTranslation memory last id access translated number new_memory new → AnswersRequest memory old id access (Accepted number) new_memory new
  accepts number is = (
    record {
      within = may.within;
      frame = is.translation.frame;
      rights = is.translation.rights;
      order = is.translation.order;
      served = subst (λ t. Serves true memory (registers_of old) (contexts_of old) id access.address access.kind (translations_of old) t (translations_of new)) is.is served.1;
      inside = subst (λ n. is.translation.frame < n) (ap (λ (p : IommuParts Ioatc). p.frames) last_is) is.inside;
      accepted = subst (λ f. IsAccepted f id (record { access = access; frame = is.translation.frame }) number (flights_of new)) flights_same is.accepted;
      contexts = served.0;
      rest = is.rest ∙ ap (λ (p : IommuParts Ioatc). record p { flights = new.in_flight; contexts = new.contexts; translations = new.translations }) last_is;
    },
    is.memory_stays,
  )

  faults : (cause : Cause) → RecordsFault memory last id access translated cause new_memory new → AnswersRequest memory old id access (Fault cause) new_memory new
  faults cause is = record {
    within = may.within;
    room = room_of (flights_of old) id (row_of (flights_of old).rows id) refl added (below_eight (count_in (row_of (flights_of old).rows id)) (is_some (under_way_of rows id)) may.room);
    fault = is.fault;
    reply = is.reply;
    served = subst (λ t. Serves true memory (registers_of old) (contexts_of old) id access.address access.kind (translations_of old) t (translations_of new)) is.is served.1;
    contexts = served.0;
    answer = is.answer;
    recorded = subst (λ r. PutsRecord memory r (record_of (faulted_of id (untranslated_of access.kind) access.address) (fault_of is.fault)) is.answer new_memory (registers_of new)) registers_same is.recorded;
    rest = is.rest ∙ ap (λ (p : IommuParts Ioatc). record p { registers = new.registers; contexts = new.contexts; translations = new.translations }) last_is;
  }

  -- WHATEVER THE REPLY
  replied : (reply : Reply) → Replies memory last id access translated reply new_memory new → AnswersRequest memory old id access reply new_memory new
  replied (Accepted number) is = accepts number is
  replied (Fault cause) is = faults cause is
  replied Busy is = absurd is
  replied BadSpan is = absurd is

-- what is under way of each device is what was, where nothing was of this one, and nothing is
still_idle : (rows begun_rows new_rows : List WalkRow) (id : ℕ) → under_way_of rows id ≡ None → under_way_of new_rows id ≡ None
    → ((other : ℕ) → other ≢ id → under_way_of new_rows other ≡ under_way_of begun_rows other)
    → ((other : ℕ) → other ≢ id → under_way_of begun_rows other ≡ under_way_of rows other) → SameUnderWay rows new_rows
still_idle rows begun_rows new_rows id before after later first other = elim (eqb_tells other id) [
  | inl e ↦ subst (λ d. under_way_of new_rows d ≡ under_way_of rows d) (sym e.1) (after ∙ sym before)
  | inr ne ↦ later other ne.1 ∙ first other ne.1
]

-- the caches are the same after a request began
pub runs_are_requests : RunsServe → RunsAreRequests
runs_are_requests serve memory new_memory old mid new rows begun_rows new_rows id access more reply added (same, walks) loads =
    let l = walks.begun in
    let own = row_walking l.row (request_for id access) access.len access.bytes l.walk in
    let there : row_of_walks begun_rows id ≡ Some own = ap (λ rs. row_of_walks rs id) l.after ∙ replaced_row rows id l.row own l.was_there refl in
    let u : UnderWay = record { request = request_for id access; serving = GoesOn l.walk; len = access.len } in
    let run = runs more memory new_memory mid new begun_rows new_rows id reply u access.bytes (ap under_way_in there) (ap bytes_in there) loads in
    let t : translations_of mid ≡ translations_of old = same_content (translations_of old) (translations_of mid) walks.looks.translations in
    let c : contexts_of mid ≡ contexts_of old = same_contexts (contexts_of old) (contexts_of mid) (looked _ id old.contexts mid.contexts walks.looks.contexts) in
    let from : stands (length memory) l.walk ≡ begun memory (registers_of old) (contexts_of old) (translations_of old) (request_for id access) = l.has_begun (length memory) in
    let answered : run.answer ≡ answer_of_run memory (registers_of old) (contexts_of old) (translations_of old) (request_for id access) =
    subst (λ (own : Translations). run.answer ≡ made_from memory (walk_on (length memory) own (stands (length memory) l.walk))) t run.answered
    ∙ ap (λ (r : Remaining). made_from memory (walk_on (length memory) (translations_of old) r)) from in
    let keeps = subst (λ (r : Remaining). KeepsAll true (keeping memory (translations_of old) r) (contexts_of old) (translations_of old) (contexts_of new) (translations_of new)) from
    (subst (λ (own : Content ℕ Context). KeepsAll true (keeping memory (translations_of old) (stands (length memory) l.walk)) own (translations_of old) (contexts_of new) (translations_of new)) c
    (subst (λ (own : Translations). KeepsAll true (keeping memory own (stands (length memory) l.walk)) (contexts_of mid) own (contexts_of new) (translations_of new)) t run.keeps)) in (
      replied serve memory new_memory old run.last new rows id access run.answer added walks.may answered keeps
          (run.last_is ∙ ap (λ (p : IommuParts Ioatc). record p { contexts = run.last.contexts; translations = run.last.translations }) walks.rest) reply run.replied,
      still_idle rows begun_rows new_rows id walks.may.idle run.idle run.others
          (λ other ne. ap (λ rs. under_way_of rs other) l.after ∙ ap under_way_in (row_of_other rows own other (λ e. ne (e ∙ row_is_own rows id l.row l.was_there)))),
    )

-- nothing is kept of one that needs no load
answers_at_once : RunsServe → (memory new_memory : List (List ℕ)) (old new : Iommu) (rows new_rows : List WalkRow) (id : ℕ) (access : Access) (reply : Reply) → IsAdded old id
    → AnswersAtOnce memory old rows id access reply new_memory new new_rows → AnswersRequest memory old id access reply new_memory new × (new_rows ≡ rows)
answers_at_once serve memory new_memory old new rows new_rows id access reply added answers =
    let from : IsServed answers.answer ≡ begun memory (registers_of old) (contexts_of old) (translations_of old) (request_for id access) = answers.begun.0 (length memory) in (
      replied serve memory new_memory old old new rows id access answers.answer added answers.may
          (ap (λ (r : Remaining). made_from memory (walk_on (length memory) (translations_of old) r)) from)
          (subst (λ (r : Remaining). KeepsAll true (keeping memory (translations_of old) r) (contexts_of old) (translations_of old) (contexts_of new) (translations_of new)) from
          (looked _ id old.contexts new.contexts answers.looks.contexts, answers.looks.translations))
          refl reply answers.replied,
      answers.begun.1,
    )

pub answers_are_requests : RunsServe → AnswersAreRequests
answers_are_requests serve memory new_memory old new rows new_rows id access BadSpan added idle (out, (memory_same, iommu_same, rows_same)) = ((out, iommu_same, memory_same), rows_same)
answers_are_requests serve memory new_memory old new rows new_rows id access Busy added idle (within, full, (memory_same, iommu_same, rows_same)) =
    ((within, full_of (flights_of old) id (row_of (flights_of old).rows id) refl added (all_taken (count_in (row_of (flights_of old).rows id)) full_alone), iommu_same, memory_same), rows_same)
  where
    full_alone : 8 ≤ count_in (row_of (flights_of old).rows id) + 0
    full_alone = subst (λ (o : Option UnderWay). 8 ≤ count_in (row_of (flights_of old).rows id) + (if is_some o then 1 else 0)) idle full

    all_taken : (n : ℕ) → 8 ≤ n + 0 → 8 ≤ n
    all_taken n full = omega (arith, full)
answers_are_requests serve memory new_memory old new rows new_rows id access (Accepted number) added idle answers =
    answers_at_once serve memory new_memory old new rows new_rows id access (Accepted number) added answers
answers_are_requests serve memory new_memory old new rows new_rows id access (Fault cause) added idle answers =
    answers_at_once serve memory new_memory old new rows new_rows id access (Fault cause) added answers
