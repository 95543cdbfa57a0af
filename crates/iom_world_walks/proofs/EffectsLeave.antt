-- WHATEVER HAPPENS in a world, tables and pages of the directory in which a request may stand stay where they are.
use Rattle.std.proofs.Common.{◌≡◌, ◌*◌, ◌⊎◌, ◌∙◌, inl, inr, ℕ, Bool, true, false, List, length, remove, Option, Some, None, IfSome, Result, Ok, Err, slice_get, refl, sym, ap, subst}
use Rattle.iom_walk_coherence.specs.Walks.{Walk}
use Rattle.iom_base.specs.declared.grant_rights.GrantRights.{GrantRights}
use Rattle.iom_base.specs.Accesses.{read_of, write_of, at_frame}
use Rattle.iom_base.specs.declared.access.Access.{Access}
use Rattle.iom_driver.specs.declared.answers.Polled.{Polled}
use Rattle.iom_driver.specs.Attaching.{AnswersAttach}
use Rattle.iom_driver.specs.Calls.{AnswersGrant, AnswersPlug, AnswersRelease}
use Rattle.iom_driver.specs.Polling.{AnswersPoll, done_after}
use Rattle.iom_inflight.specs.declared.made.MadeAt.{MadeAt}
use Rattle.iom_iommu.specs.declared.reply.Reply.{Reply}
use Rattle.iom_iommu.specs.declared.reply.Reply.TheVariants as reply
use Rattle.iom_iommu.specs.Questions.{AnswersQuestion, RefusesQuestion, RecordsUnless, is_page_fault}
use Rattle.iom_iommu.specs.Requests.{Answers, ServesRequest, faulted_of, fault_of, CommitsOldest}
use Rattle.iom_iommu.specs.Translated.{ServesTranslated}
use Rattle.iom_fault_queue.specs.Fields.{untranslated_of, translated_of}
use Rattle.iom_table_frames.specs.Owners.{has_owner}
use Rattle.iom_base.specs.declared.device_kind.DeviceKind.{DeviceKind}
use Rattle.iom_base.specs.declared.device_kind.NewDevice.{NewDevice}
use Rattle.iom_iommu.specs.Parts.{registers_of, mmio}
use Rattle.iom_base.specs.declared.refusal.Refusal.{Refusal}
use Rattle.iom_machine.specs.declared.event.Event.{Event}
use Rattle.iom_machine.specs.declared.event.Event.TheVariants as events
use Rattle.iom_machine.specs.declared.outcome.Outcome.{Outcome}
use Rattle.iom_machine.specs.declared.outcome.Outcome.TheVariants as outcome
use Rattle.iom_base.specs.declared.cause.Cause.{Cause}
use Rattle.iom_base.specs.Sizes.{page_size}
use Rattle.iom_fabric.specs.declared.fabric.OnLink.{OnLink}
use Rattle.iom_fabric.specs.declared.message.Message.{Message}
use Rattle.iom_fabric.specs.declared.message.Message.TheVariants as sent
use Rattle.iom_fabric.specs.declared.message.Translation.{Translation as Told}
use Rattle.iom_fabric.specs.declared.message.Translation.TheVariants.{Page, Refused}
use Rattle.iom_fault_queue.specs.declared.transaction.Transaction.{Transaction}
use Rattle.iom_fault_queue.specs.declared.transaction.Transaction.TheVariants.{AtsRequest}
use Rattle.iom_fault_queue.specs.Records.{record_of}
use Rattle.iom_base.specs.DeviceKinds.{asks_questions, forges, is_block_device, sends_untranslated, sends_through_cache, has_cache, kind_of}
use Rattle.iom_stage_walk.specs.declared.walked.WalkFault.{WalkFault}
use Rattle.iom_tlb.specs.declared.trans_cache.Translation.{Translation}
use Rattle.iom_tlb.specs.Content.{Translations}
use Rattle.iom_virtqueue.specs.declared.layout.Layout.{Layout}
use Rattle.iom_virtqueue.specs.Layouts.{layout_of}
use Rattle.iom_coherence.specs.Attachments.{caches_translations}
use Rattle.iom_world_effects.specs.BlockDevices.{InsertsMedium, SetsBlockQueue, AsksIfMissed, GoesToMemory, BeginsAccess, TakesBlockStep, TellsBlockStatus}
use Rattle.iom_device.specs.Caches.{IsAble, epoch_in, kind_in, with_has_disk}
use Rattle.iom_world_effects.specs.Commits.{CommitsAccess}
use Rattle.iom_world_effects.specs.Deliveries.{AnswersAsked, Arrives, ArrivesIfAny, DeliversMessage}
use Rattle.iom_world_effects.specs.Messages.{SendsOnLink, with_sent}
use Rattle.iom_world_effects.specs.Effect.{Effect, PlugsDevice, AttachesDevice, GrantsPage, PollsTickets, ReleasesPage, DetachesDevice, FetchesNext}
use Rattle.iom_world_effects.specs.Parts.{Parts}
use Rattle.iom_world_effects.specs.Processor.{PokesBytes}
use Rattle.iom_world_effects.specs.Requests.{AsksAccess, AsksTranslated}
use Rattle.iom_world_effects.specs.ThroughCache.{DeviceAsksThroughCache, TriesCache, FindsFrame, cached_frame}
use Rattle.iom_world_effects.specs.Unable.{IsUnknown, IsUnable}
use Rattle.iom_base.specs.declared.mode.Mode.{Mode}
use Rattle.iom_world_effects.specs.Invariant.{InvariantWith}
use Rattle.iom_world_effects.proofs.DriverLemmas.{DriverInvariant}
use Rattle.iom_world_invariant.proofs.ProcessorKeeps.{stores_keep}
use Rattle.iom_world_effects.proofs.PartsLemmas.{StaysReported}
use Rattle.iom_world_invariant.proofs.RequestKeeps.{report_leaves, record_leaves}
use Rattle.iom_world_effects.proofs.SoundFrom.{LeavesReport, Leaves}
use Rattle.iom_world_effects.proofs.InvariantLemmas.{none_at}
use Rattle.iom_driver.specs.Devices.{owned_stages, owned_stages_of, attachment_by_id, detached}
use Rattle.iom_driver.specs.Laws.{KeepsReserved, LeavesAllElse}
use Rattle.iom_driver.specs.Leaving.{DetachEffect}
use Rattle.iom_driver.specs.Quarantines.{AnswersQuarantine}
use Rattle.iom_driver.specs.Ready.{TablesStand}
use Rattle.iom_driver.specs.Restarts.{AnswersRestart}
use Rattle.iom_driver.specs.Revivals.{AnswersRevive}
use Rattle.iom_driver.specs.Standing.{LeavesStanding}
use Rattle.iom_driver.specs.State.{DriverState}
use Rattle.iom_driver.specs.declared.answers.Ticket.{Ticket}
use Rattle.iom_registers.specs.declared.registers.Registers.{Registers}
use Rattle.iom_world_walks.specs.Leaving.{LeavesTables}
use Rattle.iom_world_walks.proofs.LeavingLemmas.{stages_same, stages_set, leaves_memory, leaves_all, leaves_said, stages_plugged, stages_confirmed, attached_owned, none_owned}
use Rattle.iom_world_effects.specs.Recovery.{QuarantinesDevice, RevivesDevice, RestartsQueue, ResetsDevice}
use Rattle.iom_world_invariant.proofs.CommitKeeps.{leaves_made, leaves_none}
use Rattle.iom_world_invariant.proofs.FetchKeeps.{keeps_reserved}
use Rattle.iom_iommu.specs.declared.fetched.Fetched.{Fetched}
use Rattle.iom_iommu.specs.declared.fetched.Fetched.TheVariants.{Did, Waiting, Empty, Stopped}
use Rattle.iom_driver.specs.declared.device.Attachment.TheVariants as attached
use Rattle.iom_device.specs.declared.device.Device as world
use Rattle.iom_driver.specs.Reasons.{why_not_attach}
use Rattle.iom_base.specs.declared.refusal.Refusal.TheVariants.{AlreadyAttached}
use Rattle.iom_iommu.specs.Effects.{FetchesByAnswer}
use Rattle.iom_iommu.proofs.ByAnswer.{by_answer}
use Rattle.iom_device.specs.Calls.{with_reset}
use Rattle.iom_fabric.specs.Messages.{repeated}

-- the driver's laws, of one state: who keeps the reserved frames leaves tables and pages where they are, and so does a fault record
abbrev pub OthersLeave : DriverState → Type 0
OthersLeave d = (old new : List (List ℕ)) → TablesStand d old → KeepsReserved d old new → LeavesStanding d old d new

abbrev pub RecordsLeave : DriverState → Type 0
RecordsLeave d = (old new : List (List ℕ)) (r s : Registers) → TablesStand d old → LeavesAllElse old new r s → LeavesStanding d old d new

-- what is left of one state of the parts in another
abbrev pub Leave : Parts → Parts → Type 0
Leave old new = LeavesTables old.driver old.memory new.driver new.memory

leave_same : (old new : Parts) → new ≡ old → Leave old new
leave_same old new same = leaves_all old.driver new.driver old.memory new.memory (ap (λ (p : Parts). p.driver) same) (ap (λ (p : Parts). p.memory) same)

-- A CALL OF THE DRIVER says what it leaves

leave_plugged : (disks : List ℕ) (old new : Parts) (id : ℕ) (what : NewDevice) (answered : Outcome) → PlugsDevice disks old id what answered new → Leave old new
leave_plugged disks old new id what answered (inl lacks) = leave_same old new lacks.same
leave_plugged disks old new id what answered (inr plugs) = by plugs.answer plugs.call
  where
    by : (answer : Result (Unit {0}) Refusal) → AnswersPlug old.driver id (has_cache (kind_of what)) answer new.driver → Leave old new
    by (Ok done) (admitted, driver) =
        leaves_memory old.driver new.driver old.memory new.memory plugs.memory (ap (λ (d : DriverState). d.levels) driver)
        (stages_plugged old.driver new.driver (detached id (has_cache (kind_of what))) (ap (λ (d : DriverState). d.devices) driver) refl)
    by (Err why) (refused, driver) = leaves_all old.driver new.driver old.memory new.memory driver plugs.memory

module _ (old new : Parts) (size : length new.memory ≡ length old.memory) where
  leave_attached : (id : ℕ) (mode : Mode) (ats : Bool) (answered : Outcome) → AttachesDevice old id mode ats answered new → Leave old new
  leave_attached id mode ats answered effect = by effect.answer effect.call
    where
      by : (answer : Result (Unit {0}) Refusal) → AnswersAttach old.driver old.memory id mode ats answer new.driver new.memory → Leave old new
      by (Ok done) (admitted, takes) = record {
        size = size;
        levels = ap (λ (d : DriverState). d.levels) takes.driver;
        stages = stages_set old.driver new.driver id (attached.Attached takes.stage) (ap (λ (d : DriverState). d.devices) takes.driver)
            (λ stage owned. absurd (none_owned (owned_stages_of old.driver.devices id) stage (none_at (why_not_attach old.driver id ats) 2 _ AlreadyAttached refl admitted) owned));
        standing = takes.standing;
      }
      by (Err why) (refused, driver, memory) = leaves_all old.driver new.driver old.memory new.memory driver memory

  leave_granted : (id page frame : ℕ) (rights : GrantRights) (answered : Outcome) → GrantsPage old id page frame rights answered new → Leave old new
  leave_granted id page frame rights answered effect = by effect.answer effect.call
    where
      by : (answer : Result (Unit {0}) Refusal) → AnswersGrant old.driver old.memory id page frame rights answer new.driver new.memory → Leave old new
      by (Ok done) (admitted, takes) = record {
        size = size;
        levels = ap (λ (d : DriverState). d.levels) takes.driver;
        stages = stages_same old.driver new.driver (ap (λ (d : DriverState). d.devices) takes.driver);
        standing = takes.standing;
      }
      by (Err why) (refused, same, memory) =
          leaves_memory old.driver new.driver old.memory new.memory memory (ap (λ (d : DriverState). d.levels) same.rest) (stages_same old.driver new.driver (ap (λ (d : DriverState). d.devices) same.rest))

  leave_released : (id page : ℕ) (answered : Outcome) → ReleasesPage old id page answered new → Leave old new
  leave_released id page answered effect = by effect.answer effect.call
    where
      by : (answer : Result Ticket Refusal) → AnswersRelease mmio old.driver old.memory old.iommu id page answer new.driver new.memory new.iommu → Leave old new
      by (Ok ticket) (admitted, queues) = record {
        size = size;
        levels = ap (λ (d : DriverState). d.levels) queues.driver;
        stages = stages_same old.driver new.driver (ap (λ (d : DriverState). d.devices) queues.driver);
        standing = queues.standing;
      }
      by (Err why) (refused, driver, memory, iommu) = leaves_all old.driver new.driver old.memory new.memory driver memory

  leave_detached : (id : ℕ) (answered : Outcome) → DetachesDevice old id answered new → Leave old new
  leave_detached id answered effect = by effect.answer effect.call.effect
    where
      by : (answer : Result Ticket Refusal) → DetachEffect mmio old.driver old.memory old.iommu id answer new.driver new.memory new.iommu → Leave old new
      by (Ok ticket) queues = record {
        size = size;
        levels = ap (λ (d : DriverState). d.levels) queues.driver;
        stages = stages_set old.driver new.driver id (attached.Leaving ticket.0 queues.stage) (ap (λ (d : DriverState). d.devices) queues.driver)
            (λ stage owned. attached_owned (attachment_by_id old.driver.devices id) queues.stage stage queues.attached owned);
        standing = queues.standing;
      }
      by (Err why) (driver, memory, iommu) = leaves_all old.driver new.driver old.memory new.memory driver memory

  leave_quarantined : (id : ℕ) (answered : Outcome) → QuarantinesDevice old id answered new → Leave old new
  leave_quarantined id answered effect = by effect.answer effect.call
    where
      by : (answer : Result Ticket Refusal) → AnswersQuarantine mmio old.driver old.memory old.iommu id answer new.driver new.memory new.iommu → Leave old new
      by (Ok ticket) (admitted, queues) = record {
        size = size;
        levels = ap (λ (d : DriverState). d.levels) queues.driver;
        stages = stages_set old.driver new.driver id (attached.Quarantined ticket.0 queues.stage) (ap (λ (d : DriverState). d.devices) queues.driver)
            (λ stage owned. attached_owned (attachment_by_id old.driver.devices id) queues.stage stage queues.attached owned);
        standing = queues.standing;
      }
      by (Err why) (refused, driver, memory, iommu) = leaves_all old.driver new.driver old.memory new.memory driver memory

  leave_revived : (id : ℕ) (answered : Outcome) → RevivesDevice old id answered new → Leave old new
  leave_revived id answered effect = by effect.answer effect.call
    where
      by : (answer : Result (Unit {0}) Refusal) → AnswersRevive old.driver old.memory id answer new.driver new.memory → Leave old new
      by (Ok done) (admitted, writes) = record {
        size = size;
        levels = ap (λ (d : DriverState). d.levels) writes.driver;
        stages = stages_set old.driver new.driver id (attached.Attached writes.stage) (ap (λ (d : DriverState). d.devices) writes.driver)
            (λ stage owned. sym (ap owned_stages writes.quarantined) ∙ owned);
        standing = writes.standing;
      }
      by (Err why) (refused, driver, memory) = leaves_all old.driver new.driver old.memory new.memory driver memory

  leave_restarted : (answered : Outcome) → RestartsQueue old answered new → Leave old new
  leave_restarted answered effect = by effect.answer effect.call
    where
      by : (answer : Result (Unit {0}) Refusal) → AnswersRestart mmio old.driver old.memory old.iommu answer new.driver new.memory new.iommu → Leave old new
      by (Ok done) (admitted, queues) = record {
        size = size;
        levels = ap (λ (d : DriverState). d.levels) queues.driver;
        stages = stages_same old.driver new.driver (ap (λ (d : DriverState). d.devices) queues.driver);
        standing = queues.standing;
      }
      by (Err why) (refused, driver, memory, iommu) = leaves_all old.driver new.driver old.memory new.memory driver memory

  leave_polled : (answered : Outcome) → PollsTickets old answered new → Leave old new
  leave_polled answered effect = by effect.answer effect.call
    where
      by : (answer : Result Polled Refusal) → AnswersPoll (registers_of old.iommu) old.driver old.memory answer new.driver new.memory → Leave old new
      by (Ok polled) (admitted, confirms) = record {
        size = size;
        levels = ap (λ (d : DriverState). d.levels) confirms.driver;
        stages = stages_confirmed old.driver new.driver (done_after old.driver polled) (ap (λ (d : DriverState). d.devices) confirms.driver);
        standing = confirms.standing;
      }
      by (Err why) (refused, driver, memory) = leaves_all old.driver new.driver old.memory new.memory driver memory

-- THE IOMMU AND DEVICES store in frames that are nobody's, a fence's word, and fault records

module _ {walks : List Walk} (old new : Parts) (events : ℕ) (invariants : InvariantWith walks old events) (own : DriverInvariant old.driver) (reported : StaysReported old.driver)
    (others : OthersLeave old.driver) (records : RecordsLeave old.driver) where
  leave_reserved : new.driver ≡ old.driver → KeepsReserved old.driver old.memory new.memory → Leave old new
  leave_reserved driver keeps = leaves_said old.driver new.driver old.memory new.memory driver keeps.size (others old.memory new.memory invariants.ready.stand keeps)

  leave_frames : Leaves old new → Leave old new
  leave_frames leaves = leave_reserved leaves.driver (record { size = leaves.size; bytes = λ frame owner mark other. leaves.reserved frame owner mark })

  leave_reported : LeavesReport old new → Leave old new
  leave_reported leaves =
      leaves_said old.driver new.driver old.memory new.memory leaves.driver leaves.else_same.size
      (records old.memory new.memory (registers_of old.iommu) (registers_of new.iommu) invariants.ready.stand leaves.else_same)

  leave_answered : (Served : Result Translation WalkFault → Translations → Type 0) (transaction : Transaction) (id : ℕ) (access : Access) → new.driver ≡ old.driver → new.devices ≡ old.devices → new.fabric ≡ old.fabric
      → (reply : Reply) → Answers Served transaction old.memory old.iommu id access reply new.memory new.iommu → Leave old new
  leave_answered Served transaction id access driver devices fabric reply.BadSpan answers = leaves_all old.driver new.driver old.memory new.memory driver answers.2
  leave_answered Served transaction id access driver devices fabric reply.Busy answers = leaves_all old.driver new.driver old.memory new.memory driver answers.3
  leave_answered Served transaction id access driver devices fabric (reply.Accepted number) answers = leaves_all old.driver new.driver old.memory new.memory driver answers.1
  leave_answered Served transaction id access driver devices fabric (reply.Fault cause) answers =
      leave_reported (report_leaves old new events id access invariants reported driver devices fabric cause answers)

  leave_asked : (can : DeviceKind → Bool) (id : ℕ) (access : Access) (answered : Outcome) → AsksAccess can old id access answered new → Leave old new
  leave_asked can id access answered asks = elim asks [
    | inl unknown ↦ leave_same old new unknown.same
    | inr (inl unable) ↦ leave_same old new unable.same
    | inr (inr (able, replied)) ↦ leave_answered (ServesRequest old.memory old.iommu id access) (untranslated_of access.kind) id access replied.driver replied.devices replied.fabric replied.reply replied.call
  ]

  leave_translated : (id : ℕ) (access : Access) (answered : Outcome) → AsksTranslated old id access answered new → Leave old new
  leave_translated id access answered asks = elim asks [
    | inl unknown ↦ leave_same old new unknown.same
    | inr (inl unable) ↦ leave_same old new unable.same
    | inr (inr (able, replied)) ↦ leave_answered (ServesTranslated old.memory old.iommu id access) (translated_of access.kind) id access replied.driver replied.devices replied.fabric replied.reply replied.call
  ]

  leave_found : (found : Option ℕ) (id : ℕ) (access : Access) (answered : Outcome) → FindsFrame found old id access answered new → Leave old new
  leave_found None id access answered missed = leave_same old new missed.1
  leave_found (Some frame) id access answered replied =
      leave_answered (ServesTranslated old.memory old.iommu id (at_frame frame access)) (translated_of access.kind) id (at_frame frame access) replied.driver replied.devices replied.fabric replied.reply replied.call

  leave_tried : (id : ℕ) (access : Access) (answered : Outcome) → TriesCache old id access answered new → Leave old new
  leave_tried id access answered (inl far) = leave_same old new far.2
  leave_tried id access answered (inr (inl full)) = leave_same old new full.3
  leave_tried id access answered (inr (inr finds)) = leave_found (cached_frame old id access) id access answered finds.2

  leave_through_cache : (can : DeviceKind → Bool) (id : ℕ) (access : Access) (answered : Outcome) → DeviceAsksThroughCache can old id access answered new → Leave old new
  leave_through_cache can id access answered (inl unknown) = leave_same old new unknown.same
  leave_through_cache can id access answered (inr (inl unable)) = leave_same old new unable.same
  leave_through_cache can id access answered (inr (inr tried)) = leave_tried id access answered tried.1

  leave_questioned : (device epoch page : ℕ) (rest : List OnLink) (answered : Outcome) → AnswersAsked old device epoch page rest answered new → Leave old new
  leave_questioned device epoch page rest answered answers = by answers.answer answers.call
    where
      recorded : (cause : Cause) → (call : RefusesQuestion old.memory old.iommu device page cause new.memory new.iommu) → (b : Bool)
          → RecordsUnless b old.memory (registers_of old.iommu) (record_of (faulted_of device AtsRequest (page * page_size)) (fault_of call.fault)) new.memory (registers_of new.iommu) → Leave old new
      recorded cause call true (memory, registers) = leaves_all old.driver new.driver old.memory new.memory answers.driver memory
      recorded cause call false (put, puts) =
          let record_left = record_leaves old (record old { memory = new.memory; iommu = new.iommu }) events (record_of (faulted_of device AtsRequest (page * page_size)) (fault_of call.fault)) put invariants reported refl refl refl
          (ap (λ parts. parts.frames) call.rest) (ap (λ parts. parts.slots) call.rest) (ap (λ parts. parts.flights) call.rest) puts in
          leaves_said old.driver new.driver old.memory new.memory answers.driver record_left.else_same.size
          (records old.memory new.memory (registers_of old.iommu) (registers_of new.iommu) invariants.ready.stand record_left.else_same)

      by : (answer : Told) → AnswersQuestion old.memory old.iommu device page answer new.memory new.iommu → Leave old new
      by (Page frame rights) call = leaves_all old.driver new.driver old.memory new.memory answers.driver call.1
      by (Refused cause) call = recorded cause call (is_page_fault call.fault.cause) call.recorded

  leave_delivered : (place : ℕ) (answered : Outcome) → DeliversMessage old place answered new → Leave old new
  leave_delivered place answered delivers = by (slice_get old.fabric place) delivers
    where
      arrived : (message : Message) (device : ℕ) → Arrives message old device (remove old.fabric place) answered new → Leave old new
      arrived (sent.Ask epoch page) device arrives = leave_questioned device epoch page (remove old.fabric place) answered arrives
      arrived (sent.Answer epoch page answer) device arrives = leaves_all old.driver new.driver old.memory new.memory (ap (λ (p : Parts). p.driver) arrives.rest) (ap (λ (p : Parts). p.memory) arrives.rest)
      arrived (sent.InvReq serial range) device arrives = leaves_all old.driver new.driver old.memory new.memory (ap (λ (p : Parts). p.driver) arrives.rest) (ap (λ (p : Parts). p.memory) arrives.rest)
      arrived (sent.InvDone serial) device arrives = leaves_all old.driver new.driver old.memory new.memory arrives.driver arrives.memory

      by : (on : Option OnLink) → ArrivesIfAny on old (remove old.fabric place) answered new → Leave old new
      by None none = leave_same old new none.1
      by (Some on) arrives = arrived on.message on.device arrives

  leave_committed : (id : ℕ) (answered : Outcome) → CommitsAccess old id answered new → Leave old new
  leave_committed id answered commits = elim commits [
    | inl unknown ↦ leave_same old new unknown.same
    | inr oldest ↦ leave_frames (by oldest.made oldest.call oldest.unreserved oldest.driver oldest.devices oldest.fabric)
  ]
    where
      by : (made : Option MadeAt) → CommitsOldest old.memory old.iommu id made new.memory new.iommu → IfSome made (λ it. has_owner old.driver.owners it.frame ≡ false) → new.driver ≡ old.driver → new.devices ≡ old.devices
          → new.fabric ≡ old.fabric → Leaves old new
      by None call unreserved driver devices fabric = leaves_none old new id call driver devices fabric
      by (Some made) call unreserved driver devices fabric = leaves_made old new events id made invariants call.makes call unreserved driver devices fabric

  leave_poked : (address : ℕ) (bytes : List ℕ) (answered : Outcome) → PokesBytes old address bytes answered new → Leave old new
  leave_poked address bytes answered pokes =
      let kept = stores_keep old events address bytes answered new.memory invariants pokes.memory in
      leave_reserved pokes.driver (record { size = kept.0; bytes = λ frame owner mark other. kept.1 frame owner mark })

  leave_fetched : (answered : Outcome) → FetchesNext old answered new → Leave old new
  leave_fetched answered fetches = by fetches.answer (by_answer old.memory new.memory old.iommu new.iommu fetches.answer fetches.call)
    where
      by : (answer : Fetched) → FetchesByAnswer old.memory old.iommu answer new.memory new.iommu → Leave old new
      by (Did command) call = leave_reserved fetches.driver (keeps_reserved old new events command invariants own call)
      by Waiting call = leaves_all old.driver new.driver old.memory new.memory fetches.driver call.2
      by Empty call = leaves_all old.driver new.driver old.memory new.memory fetches.driver call.2
      by Stopped call = leaves_all old.driver new.driver old.memory new.memory fetches.driver call.1

-- DEVICES AND MESSAGES leave memory and driver

leave_devices : (old new : Parts) (devices : List world.Device) → new ≡ record old { devices = devices } → Leave old new
leave_devices old new devices is = leaves_all old.driver new.driver old.memory new.memory (ap (λ (p : Parts). p.driver) is) (ap (λ (p : Parts). p.memory) is)

leave_messages : (old new : Parts) (fabric : List OnLink) → new ≡ record old { fabric = fabric } → Leave old new
leave_messages old new fabric is = leaves_all old.driver new.driver old.memory new.memory (ap (λ (p : Parts). p.driver) is) (ap (λ (p : Parts). p.memory) is)

leave_sent : (can : DeviceKind → Bool) (old new : Parts) (id : ℕ) (message : Message) (answered : Outcome)
    → IsUnknown old id answered new ⊎ IsUnable can old id answered new ⊎ (IsAble can old.devices id × SendsOnLink old id message answered new) → Leave old new
leave_sent can old new id message answered asks = elim asks [
  | inl unknown ↦ leave_same old new unknown.same
  | inr (inl unable) ↦ leave_same old new unable.same
  | inr (inr (able, sends)) ↦ leave_messages old new (with_sent old.fabric id message) sends.sent
]

leave_medium : (disks : List ℕ) (old new : Parts) (id disk : ℕ) (answered : Outcome) → InsertsMedium disks old id disk answered new → Leave old new
leave_medium disks old new id disk answered (inl unknown) = leave_same old new unknown.same
leave_medium disks old new id disk answered (inr (inl unable)) = leave_same old new unable.same
leave_medium disks old new id disk answered (inr (inr (device, is, inl puts))) = leave_devices old new (with_has_disk old.devices id true) puts.2
leave_medium disks old new id disk answered (inr (inr (device, is, inr refuses))) = leave_same old new refuses.2

leave_queue : (old new : Parts) (id : ℕ) (layout : Layout) (answered : Outcome) → SetsBlockQueue old id layout answered new → Leave old new
leave_queue old new id layout answered (inl unknown) = leave_same old new unknown.same
leave_queue old new id layout answered (inr (inl unable)) = leave_same old new unable.same
leave_queue old new id layout answered (inr (inr (able, inl sets))) = leave_devices old new (with_reset old.devices id) sets.2
leave_queue old new id layout answered (inr (inr (able, inr refuses))) = leave_same old new refuses.2

leave_reset : (old new : Parts) (id : ℕ) (answered : Outcome) → ResetsDevice old id answered new → Leave old new
leave_reset old new id answered (inl unknown) = leave_same old new unknown.same
leave_reset old new id answered (inr (able, reply_is, is)) = leave_devices old new (with_reset old.devices id) is

leave_status : (old new : Parts) (id status : ℕ) (answered : Outcome) → TellsBlockStatus old id status answered new → Leave old new
leave_status old new id status answered (inl unknown) = leave_same old new unknown.same
leave_status old new id status answered (inr (inl unable)) = leave_same old new unable.same
leave_status old new id status answered (inr (inr (able, is, same))) = leave_same old new same

leave_missed : (first : Outcome) (between new : Parts) (id : ℕ) (access : Access) (answered : Outcome) → AsksIfMissed first between id access answered new
    → (new.driver ≡ between.driver) × (new.memory ≡ between.memory)
leave_missed outcome.Miss between new id access answered asks = (ap (λ (p : Parts). p.driver) asks.1, ap (λ (p : Parts). p.memory) asks.1)
leave_missed _ between new id access answered asks = (ap (λ (p : Parts). p.driver) asks.1, ap (λ (p : Parts). p.memory) asks.1)

module _ {walks : List Walk} (old new : Parts) (before : ℕ) (invariants : InvariantWith walks old before) (own : DriverInvariant old.driver) (reported : StaysReported old.driver)
    (others : OthersLeave old.driver) (records : RecordsLeave old.driver) where
  leave_begun : (id : ℕ) (access : Access) (answered : Outcome) → BeginsAccess old id access answered new → Leave old new
  leave_begun id access answered begins = by (caches_translations (kind_in old.devices id)) begins
    where
      by : (has_cache : Bool) → GoesToMemory has_cache old id access answered new → Leave old new
      by false asks = leave_asked old new before invariants own reported others records is_block_device id access answered asks
      by true goes =
          let between = leave_through_cache old goes.between before invariants own reported others records is_block_device id access goes.first goes.tries in
          let same = leave_missed goes.first goes.between new id access answered goes.asks in
          subst (λ (d : DriverState). LeavesTables old.driver old.memory d new.memory) (sym same.0) (subst (LeavesTables old.driver old.memory goes.between.driver) (sym same.1) between)

  leave_stepped : (id : ℕ) (answered : Outcome) → TakesBlockStep old id answered new → Leave old new
  leave_stepped id answered (inl (access, fits, may, begins)) = leave_begun id access answered begins
  leave_stepped id answered (inr (step, rest, inl unknown)) = leave_same old new unknown.same
  leave_stepped id answered (inr (step, rest, inr (inl unable))) = leave_same old new unable.same
  leave_stepped id answered (inr (step, rest, inr (inr (able, is, same)))) = leave_same old new same

  -- EACH EVENT
  pub effects_leave : (disks : List ℕ) (event : Event) (answered : Outcome) → length new.memory ≡ length old.memory → Effect disks old event answered new → Leave old new
  effects_leave disks (events.Plug id what) answered size effect = leave_plugged disks old new id what answered effect
  effects_leave disks (events.Medium id disk) answered size effect = leave_medium disks old new id disk answered effect
  effects_leave disks (events.Attach id mode ats) answered size effect = leave_attached old new size id mode ats answered effect
  effects_leave disks (events.Grant id page frame rights) answered size effect = leave_granted old new size id page frame rights answered effect
  effects_leave disks (events.Release id page) answered size effect = leave_released old new size id page answered effect
  effects_leave disks (events.Detach id) answered size effect = leave_detached old new size id answered effect
  effects_leave disks (events.Quarantine id) answered size effect = leave_quarantined old new size id answered effect
  effects_leave disks (events.Revive id) answered size effect = leave_revived old new size id answered effect
  effects_leave disks events.Restart answered size effect = leave_restarted old new size answered effect
  effects_leave disks events.Fetch answered size effect = leave_fetched old new before invariants own reported others records answered effect
  effects_leave disks events.Timeout answered size effect = leaves_all old.driver new.driver old.memory new.memory effect.driver effect.memory
  effects_leave disks events.Poll answered size effect = leave_polled old new size answered effect
  effects_leave disks events.Faults answered size effect = leaves_all old.driver new.driver old.memory new.memory effect.driver effect.memory
  effects_leave disks (events.Read id address len) answered size effect = leave_asked old new before invariants own reported others records sends_untranslated id (read_of address len) answered effect
  effects_leave disks (events.Write id address bytes) answered size effect = leave_asked old new before invariants own reported others records sends_untranslated id (write_of address bytes) answered effect
  effects_leave disks (events.Commit id) answered size effect = leave_committed old new before invariants own reported others records id answered effect
  effects_leave disks (events.ReadTranslated id address len) answered size effect = leave_translated old new before invariants own reported others records id (read_of address len) answered effect
  effects_leave disks (events.WriteTranslated id address bytes) answered size effect = leave_translated old new before invariants own reported others records id (write_of address bytes) answered effect
  effects_leave disks (events.ReadThroughCache id address len) answered size effect =
      leave_through_cache old new before invariants own reported others records sends_through_cache id (read_of address len) answered effect
  effects_leave disks (events.WriteThroughCache id address bytes) answered size effect =
      leave_through_cache old new before invariants own reported others records sends_through_cache id (write_of address bytes) answered effect
  effects_leave disks (events.Ask id page) answered size effect = leave_sent asks_questions old new id (sent.Ask (epoch_in old.devices id) page) answered effect
  effects_leave disks (events.Forge id serial) answered size effect = leave_sent forges old new id (sent.InvDone serial) answered effect
  effects_leave disks (events.Deliver place) answered size effect = leave_delivered old new before invariants own reported others records place answered effect
  effects_leave disks (events.Drop place) answered size effect = leave_messages old new (remove old.fabric place) effect.dropped
  effects_leave disks (events.Repeat place) answered size effect = leave_messages old new (repeated old.fabric (slice_get old.fabric place)) effect.repeated
  effects_leave disks (events.Reset id) answered size effect = leave_reset old new id answered effect
  effects_leave disks (events.Queue id queue_size descriptors available used) answered size effect = leave_queue old new id (layout_of queue_size descriptors available used) answered effect
  effects_leave disks (events.Step id) answered size effect = leave_stepped id answered effect
  effects_leave disks (events.Status id) answered size effect = leave_status old new id effect.0 answered effect.1
  effects_leave disks (events.Poke address bytes) answered size effect = leave_poked old new before invariants own reported others records address bytes answered effect
  effects_leave disks (events.Peek address len) answered size effect = leave_same old new effect.1
  effects_leave disks (events.Free frame) answered size effect = leave_same old new effect.1
