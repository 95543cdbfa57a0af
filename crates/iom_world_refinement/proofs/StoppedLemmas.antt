-- From a timeout to the next restart nothing goes on: each fetch is answered Stopped, and whatever happens leaves the completion word and the mark of the timeout.
use Rattle.std.proofs.Common.{◌≡◌, ◌≢◌, ◌+◌, ◌*◌, ◌/◌, ◌⊎◌, ◌∙◌, inl, inr, ℕ, Bool, true, false, not, List, length, remove, Option, Some, None, Result, Ok, Err, slice_get, refl, sym, ap, subst, arith}
use Rattle.std.proofs.lemmas.Bool.{false≢true}
use Rattle.iom_walk_coherence.specs.Walks.{Walk}
use Rattle.iom_base.specs.Accesses.{read_of, write_of, at_frame}
use Rattle.iom_base.specs.declared.access.Access.{Access}
use Rattle.iom_base.specs.declared.cause.Cause.{Cause}
use Rattle.iom_base.specs.declared.mode.Mode.{Mode}
use Rattle.iom_base.specs.Modes.{size_in}
use Rattle.iom_base.specs.Sizes.{page_size}
use Rattle.iom_directory_build.specs.Pages.{root_level}
use Rattle.iom_directory_build.specs.Written.{without_context}
use Rattle.iom_driver.specs.declared.answers.Ticket.{Ticket}
use Rattle.iom_driver.specs.Appends.{release_commands, detach_commands}
use Rattle.iom_driver.specs.Attaching.{AnswersAttach}
use Rattle.iom_driver.specs.Calls.{AnswersRelease}
use Rattle.iom_driver.specs.Fences.{last_fence}
use Rattle.iom_driver.specs.Layout.{command_frame, completion_frame, completion_address, directory_frame}
use Rattle.iom_driver.specs.Leaving.{DetachEffect}
use Rattle.iom_driver.specs.Quarantines.{AnswersQuarantine, all_unmapped}
use Rattle.iom_driver.specs.Reports.{AnswersFaults}
use Rattle.iom_driver.specs.Restarts.{AnswersRestart}
use Rattle.iom_driver.specs.Revivals.{AnswersRevive}
use Rattle.iom_fabric.specs.declared.fabric.OnLink.{OnLink}
use Rattle.iom_fabric.specs.declared.message.Message.{Message}
use Rattle.iom_fabric.specs.declared.message.Message.TheVariants as sent
use Rattle.iom_fabric.specs.declared.message.Translation.{Translation as Told}
use Rattle.iom_fabric.specs.declared.message.Translation.TheVariants.{Page, Refused as NotTold}
use Rattle.iom_fault_queue.specs.declared.transaction.Transaction.{Transaction}
use Rattle.iom_fault_queue.specs.declared.transaction.Transaction.TheVariants.{AtsRequest}
use Rattle.iom_fault_queue.specs.Fields.{Fields, untranslated_of, translated_of}
use Rattle.iom_fault_queue.specs.Records.{record_of}
use Rattle.iom_iommu.specs.declared.fetched.Fetched.{Fetched}
use Rattle.iom_iommu.specs.declared.fetched.Fetched.TheVariants.{Did, Waiting, Empty, Stopped}
use Rattle.iom_iommu.specs.declared.reply.Reply.{Reply}
use Rattle.iom_iommu.specs.declared.reply.Reply.TheVariants as reply
use Rattle.iom_iommu.specs.Effects.{FetchesByAnswer, StopsFetching}
use Rattle.iom_iommu.proofs.ByAnswer.{by_answer}
use Rattle.iom_iommu.specs.Parts.{mmio, registers_of, frames_of}
use Rattle.iom_iommu.specs.Questions.{AnswersQuestion, RefusesQuestion, RecordsUnless, is_page_fault}
use Rattle.iom_iommu.specs.Requests.{Answers, ServesRequest, faulted_of, fault_of}
use Rattle.iom_iommu.specs.Timeouts.{TimesFenceOut}
use Rattle.iom_iommu.specs.Translated.{ServesTranslated}
use Rattle.iom_base.specs.declared.refusal.Refusal.{Refusal}
use Rattle.iom_machine.specs.declared.event.Event.{Event}
use Rattle.iom_machine.specs.declared.event.Event.TheVariants as events
use Rattle.iom_machine.specs.declared.outcome.Fetched.TheVariants as tells
use Rattle.iom_machine.specs.declared.outcome.Outcome.{Outcome}
use Rattle.iom_machine.specs.declared.outcome.Outcome.TheVariants as outcome
use Rattle.iom_base.specs.declared.device_kind.DeviceKind.{DeviceKind}
use Rattle.iom_base.specs.declared.device_kind.NewDevice.{NewDevice}
use Rattle.iom_base.specs.DeviceKinds.{asks_questions, forges, is_block_device, sends_untranslated, sends_through_cache}
use Rattle.iom_page_table.specs.FirstTables.{unmapped}
use Rattle.iom_phys_mem.specs.Words.{word_at}
use Rattle.iom_registers.specs.Queues.{command_status, is_processing_commands}
use Rattle.iom_tlb.specs.Content.{Translations}
use Rattle.iom_tlb.specs.declared.trans_cache.Translation.{Translation}
use Rattle.iom_stage_walk.specs.declared.walked.WalkFault.{WalkFault}
use Rattle.iom_world_effects.specs.Answers.{outcome_of_done}
use Rattle.iom_virtqueue.specs.declared.layout.Layout.{Layout}
use Rattle.iom_virtqueue.specs.Layouts.{layout_of}
use Rattle.iom_coherence.specs.Attachments.{caches_translations}
use Rattle.iom_world_effects.specs.BlockDevices.{InsertsMedium, SetsBlockQueue, AsksIfMissed, GoesToMemory, TakesBlockStep, TellsBlockStatus}
use Rattle.iom_device.specs.Caches.{IsAble, epoch_in, kind_in}
use Rattle.iom_world_effects.specs.Commits.{CommitsAccess}
use Rattle.iom_world_effects.specs.Deliveries.{AnswersAsked, Arrives, ArrivesIfAny, DeliversMessage}
use Rattle.iom_world_effects.specs.Effect.{Effect, PlugsDevice, AddsRow, AttachesDevice, ReleasesPage, DetachesDevice, FetchesNext, TakesReport, fetch_named}
use Rattle.iom_world_effects.specs.Unchanged.{HasTimedOut, RemainsStopped, MayGoOn, StaysStopped}
use Rattle.iom_world_effects.specs.Messages.{SendsOnLink}
use Rattle.iom_iommu.specs.OwnIommu.{Iommu}
use Rattle.iom_world_effects.specs.Parts.{Parts}
use Rattle.iom_world_effects.specs.Recovery.{QuarantinesDevice, RevivesDevice, RestartsQueue, TimesOutFence, ResetsDevice}
use Rattle.iom_world_effects.specs.Requests.{AsksAccess, AsksTranslated}
use Rattle.iom_world_effects.specs.Invariant.{InvariantWith}
use Rattle.iom_world_effects.specs.ThroughCache.{DeviceAsksThroughCache, TriesCache, FindsFrame, cached_frame}
use Rattle.iom_world_effects.specs.Unable.{IsUnknown, IsUnable}
use Rattle.iom_world_refinement.proofs.CommandsStay.{KeepsSystem, grant_keeps, poll_keeps, makes_keep, poke_keeps}
use Rattle.iom_world_invariant.proofs.DriverKeeps.{attach_keeps_word}
use Rattle.iom_world_effects.proofs.DriverLemmas.{DriverInvariant}
use Rattle.iom_world_effects.proofs.PartsLemmas.{StaysReported}
use Rattle.iom_world_invariant.proofs.ReleaseKeeps.{IsRung, rung_all, not_of_device}
use Rattle.iom_world_invariant.proofs.RequestKeeps.{report_leaves, record_leaves}
use Rattle.iom_world_invariant.proofs.RevivalKeeps.{again_keeps_word}
use Rattle.iom_world_effects.proofs.SoundFrom.{LeavesReport}
use Rattle.iom_world_effects.proofs.InvariantLemmas.{fixed_frames, processes}

-- the word at the beginning of a frame that keeps its bytes
word_of_frame : (m n : List (List ℕ)) (frame : ℕ) → slice_get n frame ≡ slice_get m frame → word_at 4 n (4096 * frame) ≡ word_at 4 m (4096 * frame)
word_of_frame m n frame same = let at : 4096 * frame / 4096 ≡ frame = omega arith in rw (at, same) refl

-- no command is taken, and the frame of the completion word has the bytes that it had
record LeavesFence (old : Parts) (memory : List (List ℕ)) (iommu : Iommu) : Type 0 where
  stopped : (command_status (registers_of iommu)).cmd_to ≡ true
  frames : frames_of iommu ≡ frames_of old.iommu
  word : slice_get memory (completion_frame (length old.memory)) ≡ slice_get old.memory (completion_frame (length old.memory))

-- so the word stays, since memory is as large as the IOMMU was built for
remains : {walks : List Walk} (old new : Parts) (before counted : ℕ) → InvariantWith walks old before → InvariantWith walks new counted → LeavesFence old new.memory new.iommu → RemainsStopped old new
remains old new before counted invariants then leaves =
    let size : length new.memory ≡ length old.memory = sym then.size ∙ leaves.frames ∙ invariants.size in (
      leaves.stopped,
      ap (λ k. word_at 4 new.memory (completion_address k)) size ∙ word_of_frame old.memory new.memory (completion_frame (length old.memory)) leaves.word,
    )

module _ {walks : List Walk} (old : Parts) (before : ℕ) (invariants : InvariantWith walks old before) (own : DriverInvariant old.driver) (stopped : HasTimedOut old) where
  -- nothing changes of memory and IOMMU
  nothing : LeavesFence old old.memory old.iommu
  nothing = record { stopped = stopped; frames = refl; word = refl }

  same_both : (memory : List (List ℕ)) (iommu : Iommu) → memory ≡ old.memory → iommu ≡ old.iommu → LeavesFence old memory iommu
  same_both memory iommu same_memory same_iommu = subst (λ m. LeavesFence old m iommu) (sym same_memory) (subst (λ i. LeavesFence old old.memory i) (sym same_iommu) nothing)

  same_parts : (new : Parts) → new ≡ old → LeavesFence old new.memory new.iommu
  same_parts new same = same_both new.memory new.iommu (ap (λ (p : Parts). p.memory) same) (ap (λ (p : Parts). p.iommu) same)

  -- memory alone changes, and no frame of the system's
  system_stays : (memory : List (List ℕ)) (iommu : Iommu) → command_status (registers_of iommu) ≡ command_status (registers_of old.iommu) → frames_of iommu ≡ frames_of old.iommu
      → KeepsSystem old memory → LeavesFence old memory iommu
  system_stays memory iommu status frames keeps = record {
    stopped = ap (λ c. c.cmd_to) status ∙ stopped;
    frames = frames;
    word = keeps (completion_frame (length old.memory)) (fixed_frames old before invariants own).completion;
  }

  system_alone : (memory : List (List ℕ)) (iommu : Iommu) → iommu ≡ old.iommu → KeepsSystem old memory → LeavesFence old memory iommu
  system_alone memory iommu same keeps = system_stays memory iommu (ap (λ i. command_status (registers_of i)) same) (ap frames_of same) keeps

  -- memory is the same, and so are the registers
  registers_stay : (memory : List (List ℕ)) (iommu : Iommu) → memory ≡ old.memory → command_status (registers_of iommu) ≡ command_status (registers_of old.iommu) → frames_of iommu ≡ frames_of old.iommu
      → LeavesFence old memory iommu
  registers_stay memory iommu same status frames = system_stays memory iommu status frames (λ n system. ap (λ m. slice_get m n) same)

  -- commands are appended, and the word's frame isn't touched
  rung_stays : (memory : List (List ℕ)) (iommu : Iommu) → IsRung old.iommu iommu
      → slice_get memory (completion_frame (length old.memory)) ≡ slice_get old.memory (completion_frame (length old.memory)) → LeavesFence old memory iommu
  rung_stays memory iommu rung word = record { stopped = ap (λ c. c.cmd_to) rung.status ∙ stopped; frames = rung.frames; word = word }

  -- the frame of the completion word is neither the ring's, nor a device's, nor a page of the directory
  not_the_ring : completion_frame (length old.memory) ≢ command_frame (length old.memory)
  not_the_ring = let many = own.sizes.size.0 in let size = invariants.ready.stand.size in omega (arith, size, many)

  -- A CALL OF THE DRIVER
  plugged : (disks : List ℕ) (new : Parts) (id : ℕ) (what : NewDevice) (given : Outcome) → PlugsDevice disks old id what given new → LeavesFence old new.memory new.iommu
  plugged disks new id what given (inl lacks) = same_parts new lacks.same
  plugged disks new id what given (inr effect) = by effect.answer effect.row
    where
      by : (answer : Result (Unit {0}) Refusal) → AddsRow answer old.iommu id new.iommu → LeavesFence old new.memory new.iommu
      by (Ok done) row = registers_stay new.memory new.iommu effect.memory (ap command_status (ap (λ parts. parts.registers) row.rest)) (ap (λ parts. parts.frames) row.rest)
      by (Err why) same = same_both new.memory new.iommu effect.memory same

  attached : (new : Parts) (id : ℕ) (mode : Mode) (ats : Bool) (given : Outcome) → AttachesDevice old id mode ats given new → LeavesFence old new.memory new.iommu
  attached new id mode ats given effect = by effect.answer effect.call
    where
      by : (answer : Result (Unit {0}) Refusal) → AnswersAttach old.driver old.memory id mode ats answer new.driver new.memory → LeavesFence old new.memory new.iommu
      by (Ok done) (admitted, takes) = record {
        stopped = ap (λ i. (command_status (registers_of i)).cmd_to) effect.iommu ∙ stopped;
        frames = ap frames_of effect.iommu;
        word = attach_keeps_word old new before id invariants own ats admitted mode takes;
      }
      by (Err why) (refused, driver, memory) = same_both new.memory new.iommu memory effect.iommu

  released : (new : Parts) (id page : ℕ) (given : Outcome) → ReleasesPage old id page given new → LeavesFence old new.memory new.iommu
  released new id page given effect = by effect.answer effect.call
    where
      by : (answer : Result Ticket Refusal) → AnswersRelease mmio old.driver old.memory old.iommu id page answer new.driver new.memory new.iommu → LeavesFence old new.memory new.iommu
      by (Ok ticket) (admitted, queues) =
          rung_stays new.memory new.iommu
          (rung_all (release_commands id queues.stage page (completion_address (length old.memory)) (last_fence old.driver + 1)) (unmapped (size_in queues.stage.mode) old.memory queues.stage.root page)
          new.memory old.iommu new.iommu queues.queued)
          (queues.others (completion_frame (length old.memory))
          (not_of_device old.driver.owners (completion_frame (length old.memory)) id (fixed_frames old before invariants own).completion) not_the_ring)
      by (Err why) (refused, driver, memory, iommu) = same_both new.memory new.iommu memory iommu

  detached : (new : Parts) (id : ℕ) (given : Outcome) → DetachesDevice old id given new → LeavesFence old new.memory new.iommu
  detached new id given effect = by effect.answer effect.call.effect
    where
      by : (answer : Result Ticket Refusal) → DetachEffect mmio old.driver old.memory old.iommu id answer new.driver new.memory new.iommu → LeavesFence old new.memory new.iommu
      by (Ok ticket) queues =
          rung_stays new.memory new.iommu
          (rung_all (detach_commands id queues.stage (completion_address (length old.memory)) (last_fence old.driver + 1)) (without_context old.memory (root_level old.driver.levels) (directory_frame (length old.memory)) id)
          new.memory old.iommu new.iommu queues.queued)
          (queues.others (completion_frame (length old.memory))
          (λ page. ((invariants.ready.stand.directory invariants.started).own (completion_frame (length old.memory)) page).no_completion refl) not_the_ring)
      by (Err why) (driver, memory, iommu) = same_both new.memory new.iommu memory iommu

  quarantined : (new : Parts) (id : ℕ) (given : Outcome) → QuarantinesDevice old id given new → LeavesFence old new.memory new.iommu
  quarantined new id given effect = by effect.answer effect.call
    where
      by : (answer : Result Ticket Refusal) → AnswersQuarantine mmio old.driver old.memory old.iommu id answer new.driver new.memory new.iommu → LeavesFence old new.memory new.iommu
      by (Ok ticket) (admitted, queues) =
          rung_stays new.memory new.iommu
          (rung_all (detach_commands id queues.stage (completion_address (length old.memory)) (last_fence old.driver + 1)) (all_unmapped (size_in queues.stage.mode) (without_context old.memory (root_level old.driver.levels) (directory_frame (length old.memory)) id) queues.stage.root queues.pages)
          new.memory old.iommu new.iommu queues.queued)
          (queues.others (completion_frame (length old.memory))
          (not_of_device old.driver.owners (completion_frame (length old.memory)) id (fixed_frames old before invariants own).completion)
          (λ page. ((invariants.ready.stand.directory invariants.started).own (completion_frame (length old.memory)) page).no_completion refl) not_the_ring)
      by (Err why) (refused, driver, memory, iommu) = same_both new.memory new.iommu memory iommu

  revived : (new : Parts) (id : ℕ) (given : Outcome) → RevivesDevice old id given new → LeavesFence old new.memory new.iommu
  revived new id given effect = by effect.answer effect.call
    where
      by : (answer : Result (Unit {0}) Refusal) → AnswersRevive old.driver old.memory id answer new.driver new.memory → LeavesFence old new.memory new.iommu
      by (Ok done) (admitted, writes) = record {
        stopped = ap (λ i. (command_status (registers_of i)).cmd_to) effect.iommu ∙ stopped;
        frames = ap frames_of effect.iommu;
        word = again_keeps_word old new before id invariants own admitted writes;
      }
      by (Err why) (refused, driver, memory) = same_both new.memory new.iommu memory effect.iommu

  -- registers of the fault queue alone are written
  taken : (new : Parts) (given : Outcome) → TakesReport old given new → LeavesFence old new.memory new.iommu
  taken new given effect = by effect.answer effect.call
    where
      by : (answer : Result (Option Fields) Refusal) → AnswersFaults mmio old.driver old.memory old.iommu answer new.iommu → LeavesFence old new.memory new.iommu
      by (Ok (Some fields)) (none, (takes, list)) =
          registers_stay new.memory new.iommu effect.memory (ap (λ i. command_status (registers_of i)) takes.1) (ap frames_of takes.1)
      by (Ok None) (none, (empty, is)) = registers_stay new.memory new.iommu effect.memory (ap (λ i. command_status (registers_of i)) is) (ap frames_of is)
      by (Err why) (refused, is) = same_both new.memory new.iommu effect.memory is

  -- A TIMEOUT leaves the mark, whether it has an effect or not
  given_up : (new : Parts) (given : Outcome) → TimesOutFence old given new → LeavesFence old new.memory new.iommu
  given_up new given effect = by effect.answer effect.call
    where
      by : (answer : Bool) → TimesFenceOut old.iommu answer new.iommu → LeavesFence old new.memory new.iommu
      by true call = record {
        stopped = ap (λ i. (command_status (registers_of i)).cmd_to) call.1;
        frames = ap frames_of call.1;
        word = ap (λ m. slice_get m (completion_frame (length old.memory))) effect.memory;
      }
      by false call = same_both new.memory new.iommu effect.memory call.1

  -- A DEVICE'S REQUEST: a fault is reported in the fault queue's frame and registers
  reported_stays : (new : Parts) → LeavesReport old new → LeavesFence old new.memory new.iommu
  reported_stays new leaves = record {
    stopped = ap (λ c. c.cmd_to) leaves.else_same.registers.status ∙ stopped;
    frames = leaves.frames;
    word = leaves.else_same.frames (completion_frame (length old.memory))
        (let many = own.sizes.size.0 in let size = invariants.ready.stand.size in λ same. absurd (omega (arith, many, size, same)));
  }

  module _ (reported : StaysReported old.driver) where
    answered : (Served : Result Translation WalkFault → Translations → Type 0) (transaction : Transaction) (new : Parts) (id : ℕ) (access : Access)
        → new.driver ≡ old.driver → new.devices ≡ old.devices → new.fabric ≡ old.fabric → (reply : Reply) → Answers Served transaction old.memory old.iommu id access reply new.memory new.iommu
        → LeavesFence old new.memory new.iommu
    answered Served transaction new id access driver devices fabric reply.BadSpan answers = same_both new.memory new.iommu answers.2 answers.1
    answered Served transaction new id access driver devices fabric reply.Busy answers = same_both new.memory new.iommu answers.3 answers.2
    answered Served transaction new id access driver devices fabric (reply.Accepted number) answers =
        registers_stay new.memory new.iommu answers.1 (ap command_status (ap (λ parts. parts.registers) answers.0.rest)) (ap (λ parts. parts.frames) answers.0.rest)
    answered Served transaction new id access driver devices fabric (reply.Fault cause) answers =
        reported_stays new (report_leaves old new before id access invariants reported driver devices fabric cause answers)

    asked : (can : DeviceKind → Bool) (new : Parts) (id : ℕ) (access : Access) (given : Outcome) → AsksAccess can old id access given new → LeavesFence old new.memory new.iommu
    asked can new id access given asks = elim asks [
      | inl unknown ↦ same_parts new unknown.same
      | inr (inl unable) ↦ same_parts new unable.same
      | inr (inr (able, replied)) ↦
          answered (ServesRequest old.memory old.iommu id access) (untranslated_of access.kind) new id access replied.driver replied.devices replied.fabric replied.reply replied.call
    ]

    translated : (new : Parts) (id : ℕ) (access : Access) (given : Outcome) → AsksTranslated old id access given new → LeavesFence old new.memory new.iommu
    translated new id access given asks = elim asks [
      | inl unknown ↦ same_parts new unknown.same
      | inr (inl unable) ↦ same_parts new unable.same
      | inr (inr (able, replied)) ↦
          answered (ServesTranslated old.memory old.iommu id access) (translated_of access.kind) new id access replied.driver replied.devices replied.fabric replied.reply replied.call
    ]

    found : (found : Option ℕ) (new : Parts) (id : ℕ) (access : Access) (given : Outcome) → FindsFrame found old id access given new → LeavesFence old new.memory new.iommu
    found None new id access given missed = same_parts new missed.1
    found (Some frame) new id access given replied =
        answered (ServesTranslated old.memory old.iommu id (at_frame frame access)) (translated_of access.kind) new id (at_frame frame access)
        replied.driver replied.devices replied.fabric replied.reply replied.call

    tried : (new : Parts) (id : ℕ) (access : Access) (given : Outcome) → TriesCache old id access given new → LeavesFence old new.memory new.iommu
    tried new id access given (inl far) = same_parts new far.2
    tried new id access given (inr (inl full)) = same_parts new full.3
    tried new id access given (inr (inr finds)) = found (cached_frame old id access) new id access given finds.2

    through_cache : (can : DeviceKind → Bool) (new : Parts) (id : ℕ) (access : Access) (given : Outcome) → DeviceAsksThroughCache can old id access given new → LeavesFence old new.memory new.iommu
    through_cache can new id access given (inl unknown) = same_parts new unknown.same
    through_cache can new id access given (inr (inl unable)) = same_parts new unable.same
    through_cache can new id access given (inr (inr tries)) = tried new id access given tries.1

    -- A BLOCK DEVICE'S STEP
    missed : (first : Outcome) (between new : Parts) (id : ℕ) (access : Access) (given : Outcome) → AsksIfMissed first between id access given new
        → LeavesFence old between.memory between.iommu → LeavesFence old new.memory new.iommu
    missed outcome.Miss between new id access given asks leaves = subst (λ (p : Parts). LeavesFence old p.memory p.iommu) (sym asks.1) leaves
    missed _ between new id access given asks leaves = subst (λ (p : Parts). LeavesFence old p.memory p.iommu) (sym asks.1) leaves

    goes : (has_cache : Bool) (new : Parts) (id : ℕ) (access : Access) (given : Outcome) → GoesToMemory has_cache old id access given new → LeavesFence old new.memory new.iommu
    goes false new id access given asks = asked is_block_device new id access given asks
    goes true new id access given effect =
        missed effect.first effect.between new id access given effect.asks (through_cache is_block_device effect.between id access effect.first effect.tries)

    stepped : (new : Parts) (id : ℕ) (given : Outcome) → TakesBlockStep old id given new → LeavesFence old new.memory new.iommu
    stepped new id given (inl (access, fits, may, begins)) = goes (caches_translations (kind_in old.devices id)) new id access given begins
    stepped new id given (inr (step, rest, inl unknown)) = same_parts new unknown.same
    stepped new id given (inr (step, rest, inr (inl unable))) = same_parts new unable.same
    stepped new id given (inr (step, rest, inr (inr (able, is, same)))) = same_parts new same

    -- A MESSAGE IS DELIVERED
    told_device : (new : Parts) (device epoch page : ℕ) (others : List OnLink) (given : Outcome) → AnswersAsked old device epoch page others given new → LeavesFence old new.memory new.iommu
    told_device new device epoch page others given answers = by answers.answer answers.call
      where
        recorded : (cause : Cause) → (call : RefusesQuestion old.memory old.iommu device page cause new.memory new.iommu) → (b : Bool)
            → RecordsUnless b old.memory (registers_of old.iommu) (record_of (faulted_of device AtsRequest (page * page_size)) (fault_of call.fault)) new.memory (registers_of new.iommu)
            → LeavesFence old new.memory new.iommu
        recorded cause call true (memory, registers) = registers_stay new.memory new.iommu memory (ap command_status registers) (ap (λ parts. parts.frames) call.rest)
        recorded cause call false (put, puts) =
            reported_stays (record old { memory = new.memory; iommu = new.iommu })
            (record_leaves old (record old { memory = new.memory; iommu = new.iommu }) before (record_of (faulted_of device AtsRequest (page * page_size)) (fault_of call.fault)) put invariants reported
            refl refl refl (ap (λ parts. parts.frames) call.rest) (ap (λ parts. parts.slots) call.rest) (ap (λ parts. parts.flights) call.rest) puts)

        by : (answer : Told) → AnswersQuestion old.memory old.iommu device page answer new.memory new.iommu → LeavesFence old new.memory new.iommu
        by (Page frame rights) call = registers_stay new.memory new.iommu call.1 (ap command_status (ap (λ parts. parts.registers) call.0.rest)) (ap (λ parts. parts.frames) call.0.rest)
        by (NotTold cause) call = recorded cause call (is_page_fault call.fault.cause) call.recorded

    delivered : (new : Parts) (place : ℕ) (given : Outcome) → DeliversMessage old place given new → LeavesFence old new.memory new.iommu
    delivered new place given delivers = by (slice_get old.fabric place) delivers
      where
        arrived : (message : Message) (device : ℕ) → Arrives message old device (remove old.fabric place) given new → LeavesFence old new.memory new.iommu
        arrived (sent.Ask epoch page) device arrives = told_device new device epoch page (remove old.fabric place) given arrives
        arrived (sent.Answer epoch page answer) device arrives = subst (λ (p : Parts). LeavesFence old p.memory p.iommu) (sym arrives.rest) nothing
        arrived (sent.InvReq serial range) device arrives = subst (λ (p : Parts). LeavesFence old p.memory p.iommu) (sym arrives.rest) nothing
        arrived (sent.InvDone serial) device arrives =
            registers_stay new.memory new.iommu arrives.memory (ap (λ i. command_status (registers_of i)) arrives.call.left) (ap frames_of arrives.call.left)

        by : (on : Option OnLink) → ArrivesIfAny on old (remove old.fabric place) given new → LeavesFence old new.memory new.iommu
        by None none = same_parts new none.1
        by (Some on) arrives = arrived on.message on.device arrives

  -- A MESSAGE IS SENT
  sends : (can : DeviceKind → Bool) (new : Parts) (id : ℕ) (message : Message) (given : Outcome)
      → IsUnknown old id given new ⊎ IsUnable can old id given new ⊎ (IsAble can old.devices id × SendsOnLink old id message given new) → LeavesFence old new.memory new.iommu
  sends can new id message given asks = elim asks [
    | inl unknown ↦ same_parts new unknown.same
    | inr (inl unable) ↦ same_parts new unable.same
    | inr (inr (able, goes)) ↦ subst (λ (p : Parts). LeavesFence old p.memory p.iommu) (sym goes.sent) nothing
  ]

  -- AN ACCESS IS MADE
  committed : (new : Parts) (id : ℕ) (given : Outcome) → CommitsAccess old id given new → LeavesFence old new.memory new.iommu
  committed new id given commits = elim commits [
    | inl unknown ↦ same_parts new unknown.same
    | inr oldest ↦
        system_stays new.memory new.iommu (ap command_status (ap (λ parts. parts.registers) oldest.call.rest)) (ap (λ parts. parts.frames) oldest.call.rest) (makes_keep old new before id oldest.made invariants oldest.call.makes oldest.unreserved)
  ]

  reset : (new : Parts) (id : ℕ) (given : Outcome) → ResetsDevice old id given new → LeavesFence old new.memory new.iommu
  reset new id given effect = elim effect [
    | inl unknown ↦ same_parts new unknown.same
    | inr resets ↦ subst (λ (p : Parts). LeavesFence old p.memory p.iommu) (sym resets.2) nothing
  ]

  -- A DISK IS PUT IN, A QUEUE IS SET, A STATUS IS TOLD
  inserted : (disks : List ℕ) (new : Parts) (id disk : ℕ) (given : Outcome) → InsertsMedium disks old id disk given new → LeavesFence old new.memory new.iommu
  inserted disks new id disk given (inl unknown) = same_parts new unknown.same
  inserted disks new id disk given (inr (inl unable)) = same_parts new unable.same
  inserted disks new id disk given (inr (inr (device, is, inl puts))) = subst (λ (p : Parts). LeavesFence old p.memory p.iommu) (sym puts.2) nothing
  inserted disks new id disk given (inr (inr (device, is, inr refuses))) = same_parts new refuses.2

  queue_set : (new : Parts) (id : ℕ) (layout : Layout) (given : Outcome) → SetsBlockQueue old id layout given new → LeavesFence old new.memory new.iommu
  queue_set new id layout given (inl unknown) = same_parts new unknown.same
  queue_set new id layout given (inr (inl unable)) = same_parts new unable.same
  queue_set new id layout given (inr (inr (able, inl sets))) = subst (λ (p : Parts). LeavesFence old p.memory p.iommu) (sym sets.2) nothing
  queue_set new id layout given (inr (inr (able, inr refuses))) = same_parts new refuses.2

  outcome_of_status : (new : Parts) (id status : ℕ) (given : Outcome) → TellsBlockStatus old id status given new → LeavesFence old new.memory new.iommu
  outcome_of_status new id status given (inl unknown) = same_parts new unknown.same
  outcome_of_status new id status given (inr (inl unable)) = same_parts new unable.same
  outcome_of_status new id status given (inr (inr (able, is, same))) = same_parts new same

  -- A FETCH is answered Stopped: no command is taken
  takes_none : is_processing_commands (registers_of old.iommu) ≡ false
  takes_none = processes old before invariants ∙ ap not stopped

  fetched : (new : Parts) (given : Outcome) → FetchesNext old given new → (given ≡ outcome.Fetched tells.Stopped) × LeavesFence old new.memory new.iommu
  fetched new given effect = let after = by effect.answer (by_answer old.memory new.memory old.iommu new.iommu effect.answer effect.call) in (effect.reply_is ∙ ap (λ a. outcome.Fetched (fetch_named a)) after.0, after.1)
    where
      halted : (on : Bool) → on ≡ false → StopsFetching on old.memory old.iommu new.iommu → new.memory ≡ old.memory → LeavesFence old new.memory new.iommu
      halted true none stops memory = absurd (false≢true (sym none))
      halted false none stops memory =
          registers_stay new.memory new.iommu memory (ap (λ i. command_status (registers_of i)) stops) (ap frames_of stops)

      by : (answer : Fetched) → FetchesByAnswer old.memory old.iommu answer new.memory new.iommu → (answer ≡ Stopped) × LeavesFence old new.memory new.iommu
      by (Did command) call = absurd (false≢true (sym takes_none ∙ call.0))
      by Waiting call = absurd (false≢true (sym takes_none ∙ call.0))
      by Empty call = absurd (false≢true (sym takes_none ∙ call.0))
      by Stopped call = (refl, halted (is_processing_commands (registers_of old.iommu)) takes_none call.0 call.1)

module _ {walks : List Walk} (old new : Parts) (before counted : ℕ) (invariants : InvariantWith walks old before) (own : DriverInvariant old.driver) (reported : StaysReported old.driver) (then : InvariantWith walks new counted)
    (stopped : HasTimedOut old) where
  unchanged : LeavesFence old new.memory new.iommu → RemainsStopped old new
  unchanged leaves = remains old new before counted invariants then leaves

  -- a restart that is refused
  restarted : (given : Outcome) → RestartsQueue old given new → MayGoOn given old new
  restarted given effect = subst (λ t. MayGoOn t old new) (sym effect.reply_is) (by effect.answer effect.call)
    where
      by : (answer : Result (Unit {0}) Refusal) → AnswersRestart mmio old.driver old.memory old.iommu answer new.driver new.memory new.iommu → MayGoOn (outcome_of_done answer) old new
      by (Ok done) call = tt
      by (Err why) (refused, driver, memory, iommu) = unchanged (same_both old before invariants own stopped new.memory new.iommu memory iommu)

  -- EACH EVENT
  pub stays_stopped : (disks : List ℕ) (event : Event) (given : Outcome) → Effect disks old event given new → StaysStopped event given old new
  stays_stopped disks (events.Plug id what) given effect = unchanged (plugged old before invariants own stopped disks new id what given effect)
  stays_stopped disks (events.Attach id mode ats) given effect = unchanged (attached old before invariants own stopped new id mode ats given effect)
  stays_stopped disks (events.Detach id) given effect = unchanged (detached old before invariants own stopped new id given effect)
  stays_stopped disks (events.Grant id page frame rights) given effect =
      unchanged (system_alone old before invariants own stopped new.memory new.iommu effect.iommu (grant_keeps old new before id page frame rights given invariants effect))
  stays_stopped disks (events.Release id page) given effect = unchanged (released old before invariants own stopped new id page given effect)
  stays_stopped disks (events.Quarantine id) given effect = unchanged (quarantined old before invariants own stopped new id given effect)
  stays_stopped disks (events.Revive id) given effect = unchanged (revived old before invariants own stopped new id given effect)
  stays_stopped disks events.Restart given effect = restarted given effect
  stays_stopped disks events.Fetch given effect = let after = fetched old before invariants own stopped new given effect in (after.0, unchanged after.1)
  stays_stopped disks events.Timeout given effect = unchanged (given_up old before invariants own stopped new given effect)
  stays_stopped disks events.Poll given effect = unchanged (system_alone old before invariants own stopped new.memory new.iommu effect.iommu (poll_keeps old new given effect))
  stays_stopped disks events.Faults given effect = unchanged (taken old before invariants own stopped new given effect)
  stays_stopped disks (events.Read id address len) given effect = unchanged (asked old before invariants own stopped reported sends_untranslated new id (read_of address len) given effect)
  stays_stopped disks (events.Write id address bytes) given effect = unchanged (asked old before invariants own stopped reported sends_untranslated new id (write_of address bytes) given effect)
  stays_stopped disks (events.Commit id) given effect = unchanged (committed old before invariants own stopped new id given effect)
  stays_stopped disks (events.ReadTranslated id address len) given effect = unchanged (translated old before invariants own stopped reported new id (read_of address len) given effect)
  stays_stopped disks (events.WriteTranslated id address bytes) given effect = unchanged (translated old before invariants own stopped reported new id (write_of address bytes) given effect)
  stays_stopped disks (events.ReadThroughCache id address len) given effect = unchanged (through_cache old before invariants own stopped reported sends_through_cache new id (read_of address len) given effect)
  stays_stopped disks (events.WriteThroughCache id address bytes) given effect = unchanged (through_cache old before invariants own stopped reported sends_through_cache new id (write_of address bytes) given effect)
  stays_stopped disks (events.Ask id page) given effect = unchanged (sends old before invariants own stopped asks_questions new id (sent.Ask (epoch_in old.devices id) page) given effect)
  stays_stopped disks (events.Forge id serial) given effect = unchanged (sends old before invariants own stopped forges new id (sent.InvDone serial) given effect)
  stays_stopped disks (events.Deliver place) given effect = unchanged (delivered old before invariants own stopped reported new place given effect)
  stays_stopped disks (events.Drop place) given effect = unchanged (subst (λ (p : Parts). LeavesFence old p.memory p.iommu) (sym effect.dropped) (nothing old before invariants own stopped))
  stays_stopped disks (events.Repeat place) given effect = unchanged (subst (λ (p : Parts). LeavesFence old p.memory p.iommu) (sym effect.repeated) (nothing old before invariants own stopped))
  stays_stopped disks (events.Reset id) given effect = unchanged (reset old before invariants own stopped new id given effect)
  stays_stopped disks (events.Poke address bytes) given effect =
      unchanged (system_alone old before invariants own stopped new.memory new.iommu effect.iommu (poke_keeps old before address bytes given new.memory invariants effect.memory))
  stays_stopped disks (events.Peek address len) given effect = unchanged (same_parts old before invariants own stopped new effect.1)
  stays_stopped disks (events.Free frame) given effect = unchanged (same_parts old before invariants own stopped new effect.1)
  stays_stopped disks (events.Medium id disk) given effect = unchanged (inserted old before invariants own stopped disks new id disk given effect)
  stays_stopped disks (events.Queue id size descriptors available used) given effect =
      unchanged (queue_set old before invariants own stopped new id (layout_of size descriptors available used) given effect)
  stays_stopped disks (events.Step id) given effect = unchanged (stepped old before invariants own stopped reported new id given effect)
  stays_stopped disks (events.Status id) given effect = unchanged (outcome_of_status old before invariants own stopped new id effect.0 given effect.1)
