-- Each call leaves memory of its size: what a device writes, the word of a fence and the record of a fault go into a frame that is there.
use Rattle.std.proofs.Common.{◌≡◌, ◌∙◌, ◌*◌, ◌/◌, ◌%◌, inl, inr, ℕ, Bool, true, false, List, length, slice_get, remove, Option, None, Some, Result, ap}
use Rattle.std.proofs.lemmas.List.{length-set}
use Rattle.iom_base.specs.Bytes.{with_bytes}
use Rattle.iom_base.specs.Accesses.{at_frame}
use Rattle.iom_base.specs.declared.access.Access.{Access}
use Rattle.iom_base.specs.declared.device_kind.DeviceKind.{DeviceKind}
use Rattle.iom_base.specs.declared.refusal.Refusal.{Refusal}
use Rattle.iom_board.specs.BoardParts.{BoardParts}
use Rattle.iom_board.specs.ByDevice.{ByDevice}
use Rattle.iom_board.specs.Deliveries.{MessageArrives, MessageArrivesIfAny}
use Rattle.iom_board.specs.ThroughCache.{GoesByCache, GoesByCachedFrame, frame_in_cache}
use Rattle.iom_board.specs.declared.answers.CacheReply.{CacheReply}
use Rattle.iom_board.specs.declared.answers.CacheReply.TheVariants.{Miss, Replied}
use Rattle.iom_board.specs.declared.answers.Delivered.{Delivered}
use Rattle.iom_board.specs.declared.answers.Delivered.TheVariants.{Answered as Told, Ignored, Invalidated, Closed, NotClosed}
use Rattle.iom_board.proofs.SoundReplies.{fetched_length, made_length}
use Rattle.iom_fabric.specs.declared.fabric.OnLink.{OnLink}
use Rattle.iom_fabric.specs.declared.message.Message.{Message}
use Rattle.iom_fabric.specs.declared.message.Message.TheVariants as sent
use Rattle.iom_fabric.specs.declared.message.Translation.{Translation as Answer}
use Rattle.iom_fabric.specs.declared.message.Translation.TheVariants.{Page, Refused}
use Rattle.iom_fault_queue.specs.Calls.{PutsRecord}
use Rattle.iom_fault_queue.specs.Fields.{Fields, translated_of, untranslated_of}
use Rattle.iom_fault_queue.specs.Grammar.{encoded_record}
use Rattle.iom_fault_queue.specs.Records.{record_of}
use Rattle.iom_fault_queue.specs.Ring.{record_place}
use Rattle.iom_fault_queue.specs.declared.ring.Put.{Put}
use Rattle.iom_fault_queue.specs.declared.ring.Put.TheVariants.{Written, Overflow, Off}
use Rattle.iom_fault_queue.specs.declared.transaction.Transaction.{Transaction}
use Rattle.iom_fault_queue.specs.declared.transaction.Transaction.TheVariants.{AtsRequest}
use Rattle.iom_iommu.specs.OwnIommu.{Iommu}
use Rattle.iom_iommu.specs.Parts.{flights_of, registers_of}
use Rattle.iom_iommu.specs.Questions.{AnswersQuestion, RecordsUnless, is_page_fault}
use Rattle.iom_iommu.specs.Requests.{Answers, ServesRequest, access_of, fault_of, faulted_of}
use Rattle.iom_iommu.specs.Stepped.{AnswersTranslatedBeside, BeginsRequest, LoadsNext, Replies as RepliesTo, translation_by}
use Rattle.iom_iommu.specs.Translated.{ServesTranslated}
use Rattle.iom_iommu.specs.declared.begun.Begun.{Begun}
use Rattle.iom_iommu.specs.declared.begun.Begun.TheVariants.{Answered, Walking, Occupied}
use Rattle.iom_iommu.specs.declared.begun.Load.{Load as Loading}
use Rattle.iom_iommu.specs.declared.begun.Load.TheVariants.{Nothing, Loaded, Ended}
use Rattle.iom_iommu.specs.declared.reply.Reply.{Reply}
use Rattle.iom_iommu.specs.declared.reply.Reply.TheVariants.{Accepted, Busy, Fault, BadSpan}
use Rattle.iom_registers.specs.Queues.{fault_tail}
use Rattle.iom_registers.specs.declared.registers.Registers.{Registers}
use Rattle.iom_stage_walk.specs.declared.walked.WalkFault.{WalkFault}
use Rattle.iom_stepped_board.specs.ThroughCache.{GoesByCacheBeside, GoesByFrameBeside}
use Rattle.iom_tlb.specs.Content.{Translations}
use Rattle.iom_tlb.specs.declared.trans_cache.Translation.{Translation}
use Rattle.iom_walks.specs.Walks.{WalkRow}
use Rattle.iom_hardware_ways.specs.Calls.{HardwareCall, CallEffect, Request, Translated, ThroughCache, Ask, AskAtStep, Forge, Fetch, Timeout, Deliver, Drop, Repeat, Commit, Reset}
use Rattle.iom_stepped_ways.specs.Calls.{SteppedCall, SteppedEffect, Alone, Begin, Load, TranslatedBeside, ThroughCacheBeside, FetchBeside, ResetBeside}

-- how many frames memory has
abbrev size : BoardParts → ℕ
size parts = length parts.memory

abbrev SameSize : List (List ℕ) → List (List ℕ) → Type 0
SameSize memory new = length new ≡ length memory

same_memory : (memory new : List (List ℕ)) → new ≡ memory → SameSize memory new
same_memory memory new same = ap (λ m. length m) same

-- THE RECORD OF A FAULT
recorded_size : (memory : List (List ℕ)) (r : Registers) (f : Fields) (put : Put) (new : List (List ℕ)) (s : Registers)
    → PutsRecord memory r f put new s → SameSize memory new
recorded_size memory r f Written new s (on, none, stores, is) =
    let place = record_place r (fault_tail r) in
    ap (λ m. length m) stores.stored ∙ length-set memory (place / 4096) (with_bytes stores.frame (place % 4096) (encoded_record f))
recorded_size memory r f Overflow new s (on, drops, same) = same_memory memory new same
recorded_size memory r f Off new s (off, same, is) = same_memory memory new same

-- WHAT THE IOMMU ANSWERS
module _ (memory : List (List ℕ)) (iommu : Iommu) (new : List (List ℕ)) (new_iommu : Iommu) (id : ℕ) where
  recorded : (f : Fields) (put : Put) → PutsRecord memory (registers_of iommu) f put new (registers_of new_iommu) → SameSize memory new
  recorded f put puts = recorded_size memory (registers_of iommu) f put new (registers_of new_iommu) puts

  -- a request, be it translated or not
  answered_size : (Served : Result Translation WalkFault → Translations → Type 0) (transaction : Transaction) (access : Access) (reply : Reply)
      → Answers Served transaction memory iommu id access reply new new_iommu → SameSize memory new
  answered_size Served transaction access BadSpan (outside, is, same) = same_memory memory new same
  answered_size Served transaction access Busy (within, full, is, same) = same_memory memory new same
  answered_size Served transaction access (Accepted number) (accepts, same) = same_memory memory new same
  answered_size Served transaction access (Fault cause) refuses =
      recorded (record_of (faulted_of id transaction access.address) (fault_of refuses.fault)) refuses.answer refuses.recorded

  -- a question, whose fault is recorded or told to the device alone
  recorded_unless : (alone : Bool) (f : Fields) → RecordsUnless alone memory (registers_of iommu) f new (registers_of new_iommu) → SameSize memory new
  recorded_unless true f (same, is) = same_memory memory new same
  recorded_unless false f (put, puts) = recorded f put puts

  question_size : (page : ℕ) (answer : Answer) → AnswersQuestion memory iommu id page answer new new_iommu → SameSize memory new
  question_size page (Page frame rights) (tells, same) = same_memory memory new same
  question_size page (Refused cause) refuses =
      recorded_unless (is_page_fault refuses.fault.cause) (record_of (faulted_of id AtsRequest (page * 4096)) (fault_of refuses.fault)) refuses.recorded

  -- a request that has its translation, or its fault
  replied_size : (access : Access) (translated : Result Translation WalkFault) (reply : Reply)
      → RepliesTo memory iommu id access translated reply new new_iommu → SameSize memory new
  replied_size access translated (Accepted number) accepts = same_memory memory new accepts.memory_stays
  replied_size access translated (Fault cause) records =
      recorded (record_of (faulted_of id (untranslated_of access.kind) access.address) (fault_of records.fault)) records.answer records.recorded
  replied_size access translated Busy never = absurd never
  replied_size access translated BadSpan never = absurd never

  module _ (rows new_rows : List WalkRow) where
    -- a request that begins
    begun_size : (access : Access) (begun : Begun) → BeginsRequest memory iommu rows id access begun new new_iommu new_rows → SameSize memory new
    begun_size access (Answered BadSpan) (outside, (same, is, kept)) = same_memory memory new same
    begun_size access (Answered Busy) (within, full, (same, is, kept)) = same_memory memory new same
    begun_size access Occupied (within, room, some, (same, is, kept)) = same_memory memory new same
    begun_size access Walking (same, begins) = same_memory memory new same
    begun_size access (Answered (Accepted number)) answers =
        replied_size access (translation_by memory access.address access.kind answers.answer) (Accepted number) answers.replied
    begun_size access (Answered (Fault cause)) answers =
        replied_size access (translation_by memory access.address access.kind answers.answer) (Fault cause) answers.replied

    -- a load
    loaded_size : (load : Loading) → LoadsNext memory iommu rows id load new new_iommu new_rows → SameSize memory new
    loaded_size Nothing (none, (same, is, kept)) = same_memory memory new same
    loaded_size Loaded (same, more) = same_memory memory new same
    loaded_size (Ended reply) ends =
        let asked = ends.ended.request.asked in
        replied_size (access_of asked.address ends.ended.len asked.kind ends.loads.row.bytes)
        (translation_by memory asked.address asked.kind ends.ended.answer) reply ends.replied

    -- a translated request beside what is under way
    translated_size : (access : Access) (reply : Reply) → AnswersTranslatedBeside memory iommu rows id access reply new new_iommu → SameSize memory new
    translated_size access BadSpan (outside, is, same) = same_memory memory new same
    translated_size access Busy (within, full, is, same) = same_memory memory new same
    translated_size access (Accepted number) (room, answers) =
        answered_size (ServesTranslated memory iommu id access) (translated_of access.kind) access (Accepted number) answers
    translated_size access (Fault cause) (room, answers) =
        answered_size (ServesTranslated memory iommu id access) (translated_of access.kind) access (Fault cause) answers

-- A CALL OF A DEVICE: one that can't make it changes nothing
by_device : {A : Type 0} {can : DeviceKind → Bool} {Call : BoardParts → A → BoardParts → Type 0} (old new : BoardParts) (id : ℕ)
    (answer : Result A Refusal) → ByDevice can Call old id answer new → ((given : A) → Call old given new → size new ≡ size old) → size new ≡ size old
by_device old new id answer (inl absent) keeps = ap size absent.same
by_device old new id answer (inr (inl other)) keeps = ap size other.same
by_device old new id answer (inr (inr so)) keeps = keeps so.given so.call

-- AN ACCESS THROUGH A CACHE
module _ (old new : BoardParts) (id : ℕ) (access : Access) where
  goes_size : (reply : CacheReply) → GoesByCache id access old reply new → size new ≡ size old
  goes_size reply (inl (outside, is, same)) = ap size same
  goes_size reply (inr (inl (within, full, is, same))) = ap size same
  goes_size reply (inr (inr (within, room, goes))) = by (frame_in_cache old id access) reply goes
    where
      by : (found : Option ℕ) (reply : CacheReply) → GoesByCachedFrame found id access old reply new → size new ≡ size old
      by None Miss same = ap size same
      by None (Replied reply) never = absurd never
      by (Some frame) Miss never = absurd never
      by (Some frame) (Replied reply) replies =
          let at = at_frame frame access in
          answered_size old.memory old.iommu new.memory new.iommu id (ServesTranslated old.memory old.iommu id at) (translated_of at.kind) at reply replies.call

  goes_beside_size : (rows : List WalkRow) (reply : CacheReply) → GoesByCacheBeside rows id access old reply new → size new ≡ size old
  goes_beside_size rows reply (inl (outside, is, same)) = ap size same
  goes_beside_size rows reply (inr (inl (within, full, is, same))) = ap size same
  goes_beside_size rows reply (inr (inr (within, room, goes))) = by (frame_in_cache old id access) reply goes
    where
      by : (found : Option ℕ) (reply : CacheReply) → GoesByFrameBeside found rows id access old reply new → size new ≡ size old
      by None Miss same = ap size same
      by None (Replied reply) never = absurd never
      by (Some frame) Miss never = absurd never
      by (Some frame) (Replied reply) replies =
          translated_size old.memory old.iommu new.memory new.iommu id rows rows (at_frame frame access) reply replies.call

-- A MESSAGE ARRIVES
module _ (old new : BoardParts) (device : ℕ) (others : List OnLink) where
  arrives_size : (message : Message) (delivered : Delivered) → MessageArrives message old device others delivered new → size new ≡ size old
  arrives_size (sent.Ask epoch page) (Told answer) asks = question_size old.memory old.iommu new.memory new.iommu device page answer asks.call
  arrives_size (sent.Answer epoch page answer) delivered takes = ap size takes.rest
  arrives_size (sent.InvReq serial range) (Invalidated named) (same, (done, after, obeys, is)) = ap size is
  arrives_size (sent.InvReq serial range) Ignored (after, obeys, is) = ap size is
  arrives_size (sent.InvDone serial) (Closed named) (same, takes) = ap (λ m. length m) takes.memory
  arrives_size (sent.InvDone serial) (NotClosed named) (same, takes) = ap (λ m. length m) takes.memory
  arrives_size message _ never = absurd never

if_any_size : (old new : BoardParts) (others : List OnLink) (delivered : Delivered) (found : Option OnLink)
    → MessageArrivesIfAny found old others delivered new → size new ≡ size old
if_any_size old new others delivered None (none, same) = ap size same
if_any_size old new others delivered (Some on) arrives = arrives_size old new on.device others on.message delivered arrives

-- EACH CALL of hardware
pub call_keeps_size : (call : HardwareCall) (old new : BoardParts) → CallEffect call old new → length new.memory ≡ length old.memory
call_keeps_size (Request sender id access answer) old new effect = by_device old new id answer effect
    (λ reply replies. answered_size old.memory old.iommu new.memory new.iommu id
    (ServesRequest old.memory old.iommu id access) (untranslated_of access.kind) access reply replies.call)
call_keeps_size (Translated id access answer) old new effect = by_device old new id answer effect
    (λ reply replies. answered_size old.memory old.iommu new.memory new.iommu id
    (ServesTranslated old.memory old.iommu id access) (translated_of access.kind) access reply replies.call)
call_keeps_size (ThroughCache sender id access answer) old new effect =
    by_device old new id answer effect (λ reply goes. goes_size old new id access reply goes)
call_keeps_size (Ask id page answer) old new effect = by_device old new id answer effect (λ is_sent sends. ap size sends.sent)
call_keeps_size (AskAtStep id page) old new asks = ap size asks.asked
call_keeps_size (Forge id serial answer) old new effect = by_device old new id answer effect (λ is_sent sends. ap size sends.sent)
call_keeps_size (Fetch fetched) old new takes = fetched_length old.memory old.iommu fetched new.memory new.iommu takes.call
call_keeps_size (Timeout has_effect) old new gives_up = same_memory old.memory new.memory gives_up.memory
call_keeps_size (Deliver place delivered) old new delivers =
    if_any_size old new (remove old.fabric place) delivered (slice_get old.fabric place) delivers
call_keeps_size (Drop place found) old new loses = ap size loses.lost
call_keeps_size (Repeat place answer) old new copies = ap size copies.copied
call_keeps_size (Commit id answer) old new effect = by_device old new id answer effect
    (λ made makes. made_length (flights_of old.iommu) (flights_of new.iommu) id made old.memory new.memory makes.call.makes)
call_keeps_size (Reset id answer) old new effect = by_device old new id answer effect (λ done clears. ap size clears.cleared)

-- and each beside which requests are under way
pub stepped_keeps_size : (call : SteppedCall) (old new : BoardParts) (rows new_rows : List WalkRow) → SteppedEffect call old rows new new_rows
    → length new.memory ≡ length old.memory
stepped_keeps_size (Alone call) old new rows new_rows (effect, same) = call_keeps_size call old new effect
stepped_keeps_size (Begin sender id access answer) old new rows new_rows begins = by_device old new id answer begins.by_device
    (λ begun effect. begun_size old.memory old.iommu new.memory new.iommu id rows new_rows access begun effect.call)
stepped_keeps_size (Load id answer) old new rows new_rows loads = by_device old new id answer loads.by_device
    (λ load effect. loaded_size old.memory old.iommu new.memory new.iommu id rows new_rows load effect.call)
stepped_keeps_size (TranslatedBeside id access answer) old new rows new_rows (effect, same) = by_device old new id answer effect
    (λ reply replies. translated_size old.memory old.iommu new.memory new.iommu id rows new_rows access reply replies.call)
stepped_keeps_size (ThroughCacheBeside sender id access answer) old new rows new_rows (effect, same) = by_device old new id answer effect
    (λ reply goes. goes_beside_size old new id access rows reply goes)
stepped_keeps_size (FetchBeside fetched) old new rows new_rows (takes, anew) = fetched_length old.memory old.iommu fetched new.memory new.iommu takes.call
stepped_keeps_size (ResetBeside id answer) old new rows new_rows (effect, given, kept) =
    by_device old new id answer effect (λ done clears. ap size clears.cleared)
