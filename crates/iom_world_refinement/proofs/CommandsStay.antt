-- Nothing but a release, a detach, a quarantine, a restart and a fetch changes the commands that wait: the ring lies in a frame of the system's.
use Rattle.std.proofs.Common.{◌≡◌, ◌<◌, ◌*◌, ◌⊎◌, ◌∙◌, inl, inr, ℕ, Bool, true, false, List, length, remove, Option, Some, None, IfSome, Result, Ok, Err, slice_get, slice_set, refl, sym, ap, subst}
use Rattle.iom_walk_coherence.specs.Walks.{Walk}
use Rattle.iom_base.specs.declared.grant_rights.GrantRights.{GrantRights}
use Rattle.iom_base.specs.declared.owner.Owner.TheVariants.{System}
use Rattle.iom_base.specs.Accesses.{read_of, write_of, at_frame}
use Rattle.iom_base.specs.declared.access.AcceptedAccess.{AcceptedAccess}
use Rattle.iom_base.specs.declared.access.Access.{Access}
use Rattle.iom_base.specs.declared.access.AccessKind.{AccessKind}
use Rattle.iom_base.specs.declared.access.AccessKind.TheVariants.{Read, Write}
use Rattle.iom_base.specs.declared.owner.Owner.{Owner}
use Rattle.iom_command_queue.specs.Waiting.{commands_in}
use Rattle.iom_driver.specs.declared.answers.Polled.{Polled}
use Rattle.iom_driver.specs.Attaching.{AnswersAttach}
use Rattle.iom_driver.specs.Calls.{AnswersGrant}
use Rattle.iom_driver.specs.Confirmed.{is_gone}
use Rattle.iom_driver.specs.Polling.{AnswersPoll, done_after}
use Rattle.iom_driver.specs.Layout.{command_frame}
use Rattle.iom_driver.proofs.Lists.{get_set_other}
use Rattle.iom_inflight.specs.declared.made.MadeAt.{MadeAt}
use Rattle.iom_inflight.specs.Calls.{Performs, MakesOldestInFlight}
use Rattle.iom_iommu.specs.declared.reply.Reply.{Reply}
use Rattle.iom_iommu.specs.declared.reply.Reply.TheVariants as reply
use Rattle.iom_iommu.specs.Questions.{AnswersQuestion, RefusesQuestion, RecordsUnless, is_page_fault}
use Rattle.iom_iommu.specs.Requests.{Answers, ServesRequest, faulted_of, fault_of}
use Rattle.iom_iommu.specs.Translated.{ServesTranslated}
use Rattle.iom_fault_queue.specs.Fields.{untranslated_of, translated_of}
use Rattle.iom_table_frames.specs.Owners.{has_owner}
use Rattle.iom_base.specs.declared.device_kind.DeviceKind.{DeviceKind}
use Rattle.iom_base.specs.declared.device_kind.NewDevice.{NewDevice}
use Rattle.iom_iommu.specs.Parts.{registers_of, flights_of}
use Rattle.iom_base.specs.declared.refusal.Refusal.{Refusal}
use Rattle.iom_machine.specs.declared.event.Event.{Event}
use Rattle.iom_machine.specs.declared.event.Event.TheVariants as events
use Rattle.iom_machine.specs.declared.outcome.Outcome.{Outcome}
use Rattle.iom_machine.specs.declared.outcome.Outcome.TheVariants as outcome
use Rattle.iom_base.specs.declared.cause.Cause.{Cause}
use Rattle.iom_base.specs.Sizes.{page_size}
use Rattle.iom_fabric.specs.declared.fabric.OnLink.{OnLink}
use Rattle.iom_fabric.specs.declared.message.Message.{Message}
use Rattle.iom_fabric.specs.declared.message.Message.TheVariants as sent
use Rattle.iom_fabric.specs.declared.message.Translation.{Translation as Told}
use Rattle.iom_fabric.specs.declared.message.Translation.TheVariants.{Page, Refused}
use Rattle.iom_fault_queue.specs.declared.transaction.Transaction.{Transaction}
use Rattle.iom_fault_queue.specs.declared.transaction.Transaction.TheVariants.{AtsRequest}
use Rattle.iom_fault_queue.specs.Records.{record_of}
use Rattle.iom_base.specs.DeviceKinds.{asks_questions, forges, is_block_device, sends_untranslated, sends_through_cache}
use Rattle.iom_stage_walk.specs.declared.walked.WalkFault.{WalkFault}
use Rattle.iom_tlb.specs.declared.trans_cache.Translation.{Translation}
use Rattle.iom_tlb.specs.Content.{Translations}
use Rattle.iom_virtqueue.specs.declared.layout.Layout.{Layout}
use Rattle.iom_virtqueue.specs.Layouts.{layout_of}
use Rattle.iom_coherence.specs.Attachments.{caches_translations}
use Rattle.iom_world_effects.specs.BlockDevices.{InsertsMedium, SetsBlockQueue, AsksIfMissed, GoesToMemory, BeginsAccess, TakesBlockStep, TellsBlockStatus}
use Rattle.iom_device.specs.Caches.{IsAble, epoch_in, kind_in}
use Rattle.iom_world_effects.specs.Commits.{CommitsAccess}
use Rattle.iom_world_effects.specs.Deliveries.{AnswersAsked, Arrives, ArrivesIfAny, DeliversMessage}
use Rattle.iom_world_effects.specs.Messages.{SendsOnLink}
use Rattle.iom_world_effects.specs.Effect.{Effect, PlugsDevice, AddsRow, AttachesDevice, GrantsPage, PollsTickets}
use Rattle.iom_world_effects.specs.Unchanged.{waiting_in, KeepsCommands}
use Rattle.iom_world_effects.specs.Parts.{Parts}
use Rattle.iom_world_effects.specs.Processor.{StoresIfAny}
use Rattle.iom_world_effects.specs.Requests.{AsksAccess, AsksTranslated}
use Rattle.iom_world_effects.specs.ThroughCache.{DeviceAsksThroughCache, TriesCache, FindsFrame, cached_frame}
use Rattle.iom_world_effects.specs.Unable.{IsUnknown, IsUnable}
use Rattle.iom_base.specs.declared.mode.Mode.{Mode}
use Rattle.iom_world_effects.specs.Invariant.{InvariantWith}
use Rattle.iom_world_invariant.proofs.DriverKeeps.{owned_differs, unmarked, attach_keeps_ring, tables_keep_system}
use Rattle.iom_world_effects.proofs.DriverLemmas.{DriverInvariant}
use Rattle.iom_world_invariant.proofs.ProcessorKeeps.{stores_keep}
use Rattle.iom_world_effects.proofs.PartsLemmas.{StaysReported}
use Rattle.iom_world_invariant.proofs.ReportKeeps.{taken_waiting}
use Rattle.iom_world_invariant.proofs.RequestKeeps.{report_leaves, record_leaves}
use Rattle.iom_world_invariant.proofs.ResetKeeps.{reset_commands}
use Rattle.iom_world_refinement.proofs.RevivalStep.{revival_commands}
use Rattle.iom_world_effects.proofs.SoundFrom.{report_waiting}
use Rattle.iom_world_effects.proofs.InvariantLemmas.{same_waiting, fixed_frames}
use Rattle.iom_world_invariant.proofs.TimeoutKeeps.{timeout_commands}

-- the system's frames keep their bytes
abbrev pub KeepsSystem : Parts → List (List ℕ) → Type 0
KeepsSystem old memory = (n : ℕ) → slice_get old.driver.owners n ≡ Some (Some System) → slice_get memory n ≡ slice_get old.memory n

-- so the ring does, and what waits in it
waits_still : {walks : List Walk} (old new : Parts) (events : ℕ) → InvariantWith walks old events → DriverInvariant old.driver → registers_of new.iommu ≡ registers_of old.iommu → KeepsSystem old new.memory → waiting_in new ≡ waiting_in old
waits_still old new events invariants own registers keeps =
    same_waiting old new events invariants registers (keeps (command_frame (length old.memory)) (fixed_frames old events invariants own).command)

-- memory and registers are the same
waits_same : (old new : Parts) → new.memory ≡ old.memory → registers_of new.iommu ≡ registers_of old.iommu → waiting_in new ≡ waiting_in old
waits_same old new memory registers = ap (λ m. commands_in m (registers_of new.iommu)) memory ∙ ap (commands_in old.memory) registers

-- bytes of a frame change that is nobody's
stored_keeps : (old : Parts) (frame : ℕ) (bytes : List ℕ) (memory : List (List ℕ)) → slice_get old.driver.owners frame ≡ Some None → memory ≡ slice_set old.memory frame bytes → KeepsSystem old memory
stored_keeps old frame bytes memory free stored n system =
    ap (λ m. slice_get m n) stored ∙ get_set_other old.memory frame n bytes (owned_differs old.driver.owners n frame System system free)

attach_keeps : {walks : List Walk} (old new : Parts) (events id : ℕ) (mode : Mode) (ats : Bool) (answered : Outcome) → InvariantWith walks old events → DriverInvariant old.driver → AttachesDevice old id mode ats answered new → waiting_in new ≡ waiting_in old
attach_keeps old new events id mode ats answered invariants own effect = by effect.answer effect.call
  where
    by : (answer : Result (Unit {0}) Refusal) → AnswersAttach old.driver old.memory id mode ats answer new.driver new.memory → waiting_in new ≡ waiting_in old
    by (Ok done) (admitted, takes) = same_waiting old new events invariants (ap registers_of effect.iommu) (attach_keeps_ring old new events id invariants own ats admitted mode takes)
    by (Err why) (refused, driver, memory) = waits_same old new memory (ap registers_of effect.iommu)

pub grant_keeps : {walks : List Walk} (old new : Parts) (events id page frame : ℕ) (rights : GrantRights) (answered : Outcome) → InvariantWith walks old events → GrantsPage old id page frame rights answered new → KeepsSystem old new.memory
grant_keeps old new events id page frame rights answered invariants effect = by effect.answer effect.call
  where
    by : (answer : Result (Unit {0}) Refusal) → AnswersGrant old.driver old.memory id page frame rights answer new.driver new.memory → KeepsSystem old new.memory
    by (Ok done) (admitted, takes) = tables_keep_system old.driver old.memory id page frame rights new.driver new.memory invariants.ready.stand.size takes
    by (Err why) (refused, driver, memory) = λ n system. ap (λ m. slice_get m n) memory

plug_keeps : (disks : List ℕ) (old new : Parts) (id : ℕ) (what : NewDevice) (answered : Outcome) → PlugsDevice disks old id what answered new → waiting_in new ≡ waiting_in old
plug_keeps disks old new id what answered (inl lacks) = ap waiting_in lacks.same
plug_keeps disks old new id what answered (inr effect) = by effect.answer effect.row
  where
    by : (answer : Result (Unit {0}) Refusal) → AddsRow answer old.iommu id new.iommu → waiting_in new ≡ waiting_in old
    by (Ok done) row = waits_same old new effect.memory (ap (λ parts. parts.registers) row.rest)
    by (Err why) same = waits_same old new effect.memory (ap registers_of same)

-- a poll clears frames of devices that left
pub poll_keeps : (old new : Parts) (answered : Outcome) → PollsTickets old answered new → KeepsSystem old new.memory
poll_keeps old new answered effect = by effect.answer effect.call
  where
    by : (answer : Result Polled Refusal) → AnswersPoll (registers_of old.iommu) old.driver old.memory answer new.driver new.memory → KeepsSystem old new.memory
    by (Ok polled) (admitted, confirms) = λ n system. confirms.cleared.others n (λ owner at.
        let both : ◌≡◌ {A = Option (Option Owner)} (Some (Some owner)) (Some (Some System)) = sym at ∙ system in
        let same : owner ≡ System = cc in
        subst (λ o. is_gone (done_after old.driver polled) old.driver.devices o ≡ false) (sym same) refl)
    by (Err why) (refused, driver, memory) = λ n system. ap (λ m. slice_get m n) memory

-- the IOMMU's answer to a request leaves the registers of the command queue: a fault is reported in those of another queue
answer_keeps : {walks : List Walk} (Served : Result Translation WalkFault → Translations → Type 0) (transaction : Transaction) (old new : Parts) (events id : ℕ) (access : Access) → InvariantWith walks old events → DriverInvariant old.driver
    → StaysReported old.driver → new.driver ≡ old.driver → new.devices ≡ old.devices → new.fabric ≡ old.fabric → (reply : Reply) → Answers Served transaction old.memory old.iommu id access reply new.memory new.iommu
    → waiting_in new ≡ waiting_in old
answer_keeps Served transaction old new events id access invariants own reported driver devices fabric reply.BadSpan answers = waits_same old new answers.2 (ap registers_of answers.1)
answer_keeps Served transaction old new events id access invariants own reported driver devices fabric reply.Busy answers = waits_same old new answers.3 (ap registers_of answers.2)
answer_keeps Served transaction old new events id access invariants own reported driver devices fabric (reply.Accepted number) answers = waits_same old new answers.1 (ap (λ parts. parts.registers) answers.0.rest)
answer_keeps Served transaction old new events id access invariants own reported driver devices fabric (reply.Fault cause) answers =
    report_waiting old new events invariants own (report_leaves old new events id access invariants reported driver devices fabric cause answers)

asks_keep : {walks : List Walk} (can : DeviceKind → Bool) (old new : Parts) (events id : ℕ) (access : Access) (answered : Outcome) → InvariantWith walks old events → DriverInvariant old.driver → StaysReported old.driver
    → AsksAccess can old id access answered new → waiting_in new ≡ waiting_in old
asks_keep can old new events id access answered invariants own reported asks = elim asks [
  | inl unknown ↦ ap waiting_in unknown.same
  | inr (inl unable) ↦ ap waiting_in unable.same
  | inr (inr (able, replied)) ↦ answer_keeps (ServesRequest old.memory old.iommu id access) (untranslated_of access.kind) old new events id access invariants own reported replied.driver replied.devices replied.fabric replied.reply replied.call
]

translated_keep : {walks : List Walk} (old new : Parts) (events id : ℕ) (access : Access) (answered : Outcome) → InvariantWith walks old events → DriverInvariant old.driver → StaysReported old.driver
    → AsksTranslated old id access answered new → waiting_in new ≡ waiting_in old
translated_keep old new events id access answered invariants own reported asks = elim asks [
  | inl unknown ↦ ap waiting_in unknown.same
  | inr (inl unable) ↦ ap waiting_in unable.same
  | inr (inr (able, replied)) ↦ answer_keeps (ServesTranslated old.memory old.iommu id access) (translated_of access.kind) old new events id access invariants own reported replied.driver replied.devices replied.fabric replied.reply replied.call
]

finds_keep : {walks : List Walk} (found : Option ℕ) (old new : Parts) (events id : ℕ) (access : Access) (answered : Outcome) → InvariantWith walks old events → DriverInvariant old.driver → StaysReported old.driver
    → FindsFrame found old id access answered new → waiting_in new ≡ waiting_in old
finds_keep None old new events id access answered invariants own reported missed = ap waiting_in missed.1
finds_keep (Some frame) old new events id access answered invariants own reported replied =
    answer_keeps (ServesTranslated old.memory old.iommu id (at_frame frame access)) (translated_of access.kind) old new events id (at_frame frame access) invariants own reported
    replied.driver replied.devices replied.fabric replied.reply replied.call

tries_keep : {walks : List Walk} (old new : Parts) (events id : ℕ) (access : Access) (answered : Outcome) → InvariantWith walks old events → DriverInvariant old.driver → StaysReported old.driver
    → TriesCache old id access answered new → waiting_in new ≡ waiting_in old
tries_keep old new events id access answered invariants own reported (inl far) = ap waiting_in far.2
tries_keep old new events id access answered invariants own reported (inr (inl full)) = ap waiting_in full.3
tries_keep old new events id access answered invariants own reported (inr (inr finds)) = finds_keep (cached_frame old id access) old new events id access answered invariants own reported finds.2

through_cache_keep : {walks : List Walk} (can : DeviceKind → Bool) (old new : Parts) (events id : ℕ) (access : Access) (answered : Outcome) → InvariantWith walks old events → DriverInvariant old.driver → StaysReported old.driver
    → DeviceAsksThroughCache can old id access answered new → waiting_in new ≡ waiting_in old
through_cache_keep can old new events id access answered invariants own reported (inl unknown) = ap waiting_in unknown.same
through_cache_keep can old new events id access answered invariants own reported (inr (inl unable)) = ap waiting_in unable.same
through_cache_keep can old new events id access answered invariants own reported (inr (inr tried)) = tries_keep old new events id access answered invariants own reported tried.1

-- nor does a message change them, but for a question whose fault is reported
sends_keep : (can : DeviceKind → Bool) (old new : Parts) (id : ℕ) (message : Message) (answered : Outcome)
    → IsUnknown old id answered new ⊎ IsUnable can old id answered new ⊎ (IsAble can old.devices id × SendsOnLink old id message answered new) → waiting_in new ≡ waiting_in old
sends_keep can old new id message answered asks = elim asks [
  | inl unknown ↦ ap waiting_in unknown.same
  | inr (inl unable) ↦ ap waiting_in unable.same
  | inr (inr (able, sends)) ↦ ap waiting_in sends.sent
]

answered_keep : {walks : List Walk} (old new : Parts) (events device epoch page : ℕ) (others : List OnLink) (answered : Outcome) → InvariantWith walks old events → DriverInvariant old.driver → StaysReported old.driver
    → AnswersAsked old device epoch page others answered new → waiting_in new ≡ waiting_in old
answered_keep old new events device epoch page others answered invariants own reported answers = by answers.answer answers.call
  where
    recorded : (cause : Cause) → (call : RefusesQuestion old.memory old.iommu device page cause new.memory new.iommu) → (b : Bool)
        → RecordsUnless b old.memory (registers_of old.iommu) (record_of (faulted_of device AtsRequest (page * page_size)) (fault_of call.fault)) new.memory (registers_of new.iommu)
        → waiting_in new ≡ waiting_in old
    recorded cause call true (memory, registers) = waits_same old new memory registers
    recorded cause call false (put, puts) =
        report_waiting old (record old { memory = new.memory; iommu = new.iommu }) events invariants own
        (record_leaves old (record old { memory = new.memory; iommu = new.iommu }) events (record_of (faulted_of device AtsRequest (page * page_size)) (fault_of call.fault)) put invariants reported refl refl refl
        (ap (λ parts. parts.frames) call.rest) (ap (λ parts. parts.slots) call.rest) (ap (λ parts. parts.flights) call.rest) puts)

    by : (answer : Told) → AnswersQuestion old.memory old.iommu device page answer new.memory new.iommu → waiting_in new ≡ waiting_in old
    by (Page frame rights) call = waits_same old new call.1 (ap (λ parts. parts.registers) call.0.rest)
    by (Refused cause) call = recorded cause call (is_page_fault call.fault.cause) call.recorded

delivered_keep : {walks : List Walk} (old new : Parts) (events place : ℕ) (answered : Outcome) → InvariantWith walks old events → DriverInvariant old.driver → StaysReported old.driver → DeliversMessage old place answered new
    → waiting_in new ≡ waiting_in old
delivered_keep old new events place answered invariants own reported delivers = by (slice_get old.fabric place) delivers
  where
    arrived : (message : Message) (device : ℕ) → Arrives message old device (remove old.fabric place) answered new → waiting_in new ≡ waiting_in old
    arrived (sent.Ask epoch page) device arrives = answered_keep old new events device epoch page (remove old.fabric place) answered invariants own reported arrives
    arrived (sent.Answer epoch page answer) device arrives = ap waiting_in arrives.rest
    arrived (sent.InvReq serial range) device arrives = ap waiting_in arrives.rest
    arrived (sent.InvDone serial) device arrives = waits_same old new arrives.memory (ap registers_of arrives.call.left)

    by : (on : Option OnLink) → ArrivesIfAny on old (remove old.fabric place) answered new → waiting_in new ≡ waiting_in old
    by None none = ap waiting_in none.1
    by (Some on) arrives = arrived on.message on.device arrives

-- what an access that is made does to memory: a frame changes that is nobody's, or none
performs_keep : (old : Parts) (accepted : AcceptedAccess) (memory : List (List ℕ)) → slice_get old.driver.owners accepted.frame ≡ Some None
    → Performs accepted.access.kind old.memory accepted memory → KeepsSystem old memory
performs_keep old accepted memory free performed = by accepted.access.kind performed
  where
    by : (kind : AccessKind) → Performs kind old.memory accepted memory → KeepsSystem old memory
    by Read same = λ n system. ap (λ m. slice_get m n) same
    by Write stores = stored_keeps old accepted.frame _ memory free stores.2

pub makes_keep : {walks : List Walk} (old new : Parts) (events id : ℕ) (made : Option MadeAt) → InvariantWith walks old events → MakesOldestInFlight old.memory (flights_of old.iommu) id made new.memory (flights_of new.iommu)
    → IfSome made (λ it. has_owner old.driver.owners it.frame ≡ false) → KeepsSystem old new.memory
makes_keep old new events id None invariants makes unreserved = λ n system. ap (λ m. slice_get m n) makes.1
makes_keep old new events id (Some made) invariants makes unreserved =
    let frame : made.frame ≡ makes.oldest.accepted.frame = ap (λ m. m.frame) makes.reply in
    let inside : makes.oldest.accepted.frame < length old.driver.owners = subst (λ n. makes.oldest.accepted.frame < n) invariants.ready.stand.size makes.inside in
    performs_keep old makes.oldest.accepted new.memory
    (unmarked old.driver.owners makes.oldest.accepted.frame inside (subst (λ f. has_owner old.driver.owners f ≡ false) frame unreserved)) makes.performed

commits_keep : {walks : List Walk} (old new : Parts) (events id : ℕ) (answered : Outcome) → InvariantWith walks old events → DriverInvariant old.driver → CommitsAccess old id answered new → waiting_in new ≡ waiting_in old
commits_keep old new events id answered invariants own commits = elim commits [
  | inl unknown ↦ ap waiting_in unknown.same
  | inr oldest ↦ waits_still old new events invariants own (ap (λ parts. parts.registers) oldest.call.rest) (makes_keep old new events id oldest.made invariants oldest.call.makes oldest.unreserved)
]

pub poke_keeps : {walks : List Walk} (old : Parts) (events address : ℕ) (bytes : List ℕ) (answered : Outcome) (memory : List (List ℕ)) → InvariantWith walks old events → StoresIfAny old address bytes answered memory → KeepsSystem old memory
poke_keeps old events address bytes answered memory invariants stores n system = (stores_keep old events address bytes answered memory invariants stores).1 n System system

-- what block devices do changes them only by a fault that is reported
medium_keeps : (disks : List ℕ) (old new : Parts) (id disk : ℕ) (answered : Outcome) → InsertsMedium disks old id disk answered new → waiting_in new ≡ waiting_in old
medium_keeps disks old new id disk answered (inl unknown) = ap waiting_in unknown.same
medium_keeps disks old new id disk answered (inr (inl unable)) = ap waiting_in unable.same
medium_keeps disks old new id disk answered (inr (inr (device, is, inl puts))) = ap waiting_in puts.2
medium_keeps disks old new id disk answered (inr (inr (device, is, inr refuses))) = ap waiting_in refuses.2

queue_keeps : (old new : Parts) (id : ℕ) (layout : Layout) (answered : Outcome) → SetsBlockQueue old id layout answered new → waiting_in new ≡ waiting_in old
queue_keeps old new id layout answered (inl unknown) = ap waiting_in unknown.same
queue_keeps old new id layout answered (inr (inl unable)) = ap waiting_in unable.same
queue_keeps old new id layout answered (inr (inr (able, inl sets))) = ap waiting_in sets.2
queue_keeps old new id layout answered (inr (inr (able, inr refuses))) = ap waiting_in refuses.2

asked_if_missed : (first : Outcome) (between new : Parts) (id : ℕ) (access : Access) (answered : Outcome) → AsksIfMissed first between id access answered new → waiting_in new ≡ waiting_in between
asked_if_missed outcome.Miss between new id access answered asks = ap waiting_in asks.1
asked_if_missed _ between new id access answered asks = ap waiting_in asks.1

begins_keep : {walks : List Walk} (old new : Parts) (events id : ℕ) (access : Access) (answered : Outcome) → InvariantWith walks old events → DriverInvariant old.driver → StaysReported old.driver
    → BeginsAccess old id access answered new → waiting_in new ≡ waiting_in old
begins_keep old new events id access answered invariants own reported begins = by (caches_translations (kind_in old.devices id)) begins
  where
    by : (has_cache : Bool) → GoesToMemory has_cache old id access answered new → waiting_in new ≡ waiting_in old
    by false asks = asks_keep is_block_device old new events id access answered invariants own reported asks
    by true goes =
        asked_if_missed goes.first goes.between new id access answered goes.asks
        ∙ through_cache_keep is_block_device old goes.between events id access goes.first invariants own reported goes.tries

step_keeps : {walks : List Walk} (old new : Parts) (events id : ℕ) (answered : Outcome) → InvariantWith walks old events → DriverInvariant old.driver → StaysReported old.driver → TakesBlockStep old id answered new → waiting_in new ≡ waiting_in old
step_keeps old new events id answered invariants own reported (inl (access, fits, may, begins)) = begins_keep old new events id access answered invariants own reported begins
step_keeps old new events id answered invariants own reported (inr (step, rest, inl unknown)) = ap waiting_in unknown.same
step_keeps old new events id answered invariants own reported (inr (step, rest, inr (inl unable))) = ap waiting_in unable.same
step_keeps old new events id answered invariants own reported (inr (step, rest, inr (inr (able, is, same)))) = ap waiting_in same

status_keeps : (old new : Parts) (id status : ℕ) (answered : Outcome) → TellsBlockStatus old id status answered new → waiting_in new ≡ waiting_in old
status_keeps old new id status answered (inl unknown) = ap waiting_in unknown.same
status_keeps old new id status answered (inr (inl unable)) = ap waiting_in unable.same
status_keeps old new id status answered (inr (inr (able, is, same))) = ap waiting_in same

pub commands_stay : {walks : List Walk} (disks : List ℕ) (old new : Parts) (before : ℕ) (event : Event) (answered : Outcome) → InvariantWith walks old before → DriverInvariant old.driver → StaysReported old.driver → Effect disks old event answered new → KeepsCommands event old new
commands_stay disks old new before (events.Release id page) answered invariants own reported effect = tt
commands_stay disks old new before (events.Detach id) answered invariants own reported effect = tt
commands_stay disks old new before (events.Quarantine id) answered invariants own reported effect = tt
commands_stay disks old new before events.Restart answered invariants own reported effect = tt
commands_stay disks old new before events.Fetch answered invariants own reported effect = tt
commands_stay disks old new before (events.Revive id) answered invariants own reported effect = revival_commands old new before id answered invariants own effect
commands_stay disks old new before events.Timeout answered invariants own reported effect = timeout_commands old new answered effect
commands_stay disks old new before (events.Reset id) answered invariants own reported effect = reset_commands old new id answered effect
commands_stay disks old new before (events.Plug id what) answered invariants own reported effect = plug_keeps disks old new id what answered effect
commands_stay disks old new before (events.Attach id mode ats) answered invariants own reported effect = attach_keeps old new before id mode ats answered invariants own effect
commands_stay disks old new before (events.Grant id page frame rights) answered invariants own reported effect = waits_still old new before invariants own (ap registers_of effect.iommu) (grant_keeps old new before id page frame rights answered invariants effect)
commands_stay disks old new before events.Poll answered invariants own reported effect = waits_still old new before invariants own (ap registers_of effect.iommu) (poll_keeps old new answered effect)
commands_stay disks old new before events.Faults answered invariants own reported effect = taken_waiting old new before answered invariants own effect
commands_stay disks old new before (events.Read id address len) answered invariants own reported effect = asks_keep sends_untranslated old new before id (read_of address len) answered invariants own reported effect
commands_stay disks old new before (events.Write id address bytes) answered invariants own reported effect = asks_keep sends_untranslated old new before id (write_of address bytes) answered invariants own reported effect
commands_stay disks old new before (events.Commit id) answered invariants own reported effect = commits_keep old new before id answered invariants own effect
commands_stay disks old new before (events.Poke address bytes) answered invariants own reported effect = waits_still old new before invariants own (ap registers_of effect.iommu) (poke_keeps old before address bytes answered new.memory invariants effect.memory)
commands_stay disks old new before (events.Peek address len) answered invariants own reported effect = ap waiting_in effect.1
commands_stay disks old new before (events.Free frame) answered invariants own reported effect = ap waiting_in effect.1
commands_stay disks old new before (events.ReadTranslated id address len) answered invariants own reported effect = translated_keep old new before id (read_of address len) answered invariants own reported effect
commands_stay disks old new before (events.WriteTranslated id address bytes) answered invariants own reported effect = translated_keep old new before id (write_of address bytes) answered invariants own reported effect
commands_stay disks old new before (events.ReadThroughCache id address len) answered invariants own reported effect = through_cache_keep sends_through_cache old new before id (read_of address len) answered invariants own reported effect
commands_stay disks old new before (events.WriteThroughCache id address bytes) answered invariants own reported effect = through_cache_keep sends_through_cache old new before id (write_of address bytes) answered invariants own reported effect
commands_stay disks old new before (events.Ask id page) answered invariants own reported effect = sends_keep asks_questions old new id (sent.Ask (epoch_in old.devices id) page) answered effect
commands_stay disks old new before (events.Forge id serial) answered invariants own reported effect = sends_keep forges old new id (sent.InvDone serial) answered effect
commands_stay disks old new before (events.Deliver place) answered invariants own reported effect = delivered_keep old new before place answered invariants own reported effect
commands_stay disks old new before (events.Drop place) answered invariants own reported effect = ap waiting_in effect.dropped
commands_stay disks old new before (events.Repeat place) answered invariants own reported effect = ap waiting_in effect.repeated
commands_stay disks old new before (events.Medium id disk) answered invariants own reported effect = medium_keeps disks old new id disk answered effect
commands_stay disks old new before (events.Queue id size descriptors available used) answered invariants own reported effect = queue_keeps old new id (layout_of size descriptors available used) answered effect
commands_stay disks old new before (events.Step id) answered invariants own reported effect = step_keeps old new before id answered invariants own reported effect
commands_stay disks old new before (events.Status id) answered invariants own reported effect = status_keeps old new id effect.0 answered effect.1
