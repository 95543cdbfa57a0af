-- What stays true of a world when the IOMMU answers a question: what is told is held, or cached, and so no copy outlives it.
use Rattle.std.proofs.Common.{◌≡◌, ◌*◌, ◌/◌, ◌^◌, ◌<◌, ◌≤◌, ◌⊎◌, ◌∙◌, inl, inr, ℕ, Bool, true, false, is_some, length, [], remove, Contains, Some, Ok, Err, slice_get, refl, sym, ap, subst, arith, List}
use Rattle.std.specs.List.{All}
use Rattle.iom_walk_coherence.specs.Walks.{Walk}
use Rattle.iom_base.specs.declared.access.AccessKind.TheVariants.{Read}
use Rattle.iom_base.specs.declared.cause.Cause.{Cause}
use Rattle.iom_base.specs.declared.rights.Rights.{Rights}
use Rattle.iom_coherence.specs.Attachments.{has_ats}
use Rattle.iom_coherence.specs.Deliveries.{MayBeSent}
use Rattle.iom_coherence.specs.Requests.{IsWalked}
use Rattle.iom_coherence.specs.Scene.{AtsMessage, Question, Answer, Scene}
use Rattle.iom_coherence.proofs.ListLemmas.{contains_head, in_none}
use Rattle.iom_driver.specs.Devices.{attachment_by_id}
use Rattle.iom_fabric.specs.declared.message.Message.TheVariants as sent
use Rattle.iom_fabric.specs.declared.message.Translation.{Translation as Told}
use Rattle.iom_fabric.specs.declared.message.Translation.TheVariants.{Page, Refused}
use Rattle.iom_fault_queue.specs.declared.transaction.Transaction.TheVariants.{AtsRequest}
use Rattle.iom_fault_queue.specs.Fields.{Fields}
use Rattle.iom_fault_queue.specs.Records.{record_of}
use Rattle.iom_inflight.specs.Flights.{Flights}
use Rattle.iom_iommu.specs.Parts.{registers_of, contexts_of, translations_of, flights_of, frames_of, slots_of, fence_snapshot_of}
use Rattle.iom_iommu.specs.Questions.{is_page_fault, RecordsUnless, TellsPage, RefusesQuestion, AnswersQuestion}
use Rattle.iom_iommu.specs.Requests.{faulted_of, fault_of}
use Rattle.iom_machine.proofs.InFlightLemmas.{All-at}
use Rattle.iom_machine.specs.declared.outcome.Outcome.{Outcome}
use Rattle.iom_tlb.specs.declared.trans_cache.Translation.{Translation}
use Rattle.iom_tlb.specs.Chosen.{ioatc}
use Rattle.iom_world_effects.specs.Deliveries.{AnswersAsked}
use Rattle.iom_world_effects.specs.Messages.{with_sent}
use Rattle.iom_world_effects.specs.Parts.{Parts}
use Rattle.iom_world_effects.specs.Read.{values_of}
use Rattle.iom_world_effects.specs.Scenes.{copy_of, IsSceneOf}
use Rattle.iom_world_effects.specs.Invariant.{InvariantWith, HasAsker, row_ids}
use Rattle.iom_world_effects.specs.Traffic.{Traffic, message_on, messages_in}
use Rattle.iom_world_invariant.proofs.ContextKeeps.{KeepsAttached, keeps_attached, contexts_kept}
use Rattle.iom_world_effects.proofs.DriverLemmas.{DriverInvariant}
use Rattle.iom_world_effects.proofs.MessageLemmas.{sent_cases, the_one, askers_sent}
use Rattle.iom_world_invariant.proofs.MessageKeeps.{left_among, there_at, askers_left}
use Rattle.iom_world_effects.proofs.TrafficSound.{carried_sound}
use Rattle.iom_world_effects.proofs.PartsLemmas.{StaysReady, StaysReported, parts_are}
use Rattle.iom_world_effects.proofs.QuestionAnswers.{IsToldOf, outcome_of_done}
use Rattle.iom_world_invariant.proofs.RequestKeeps.{TranslationsChange, settled_scene, change_of, served_from, record_leaves}
use Rattle.iom_world_effects.proofs.SceneSteps.{served_there}
use Rattle.iom_world_effects.proofs.ServedLemmas.{ServiceLaws}
use Rattle.iom_world_effects.proofs.SoundFrom.{Leaves, sound_from, queue_kept, grants_kept, LeavesReport, report_grants, report_queue, report_sound}

-- the scene has the translation of the page from a walk, or among its cached ones
abbrev IsKnownTo : Scene → ℕ → ℕ → Translation → Type 0
IsKnownTo scene device page translation = IsWalked scene (copy_of device page translation) ⊎ Contains scene.translations (copy_of device page translation)

-- the parts where the IOMMU has the answer, and nothing was sent yet
abbrev pub answering : Parts → Parts → Parts
answering old new = record old { memory = new.memory; iommu = new.iommu }

module _ {walks : List Walk} (laws : ServiceLaws) (old new : Parts) (events device page : ℕ) (invariants : InvariantWith walks old events) (own : DriverInvariant old.driver) (stays_ready : StaysReady old.driver)
    (report_ready : StaysReported old.driver) (low : page < 2 ^ 52) where
  abbrev after : Parts
  after = record old { memory = new.memory; iommu = new.iommu }

  fits : page * 4096 < 2 ^ 64
  fits = omega (arith, low)

  at_page : page * 4096 / 4096 ≡ page
  at_page = omega arith

  -- memory and registers are the same: only what is cached changed
  quiet_sound : new.memory ≡ old.memory → registers_of new.iommu ≡ registers_of old.iommu → frames_of new.iommu ≡ frames_of old.iommu → slots_of new.iommu ≡ slots_of old.iommu
      → flights_of new.iommu ≡ flights_of old.iommu → fence_snapshot_of new.iommu ≡ fence_snapshot_of old.iommu
      → KeepsAttached (attachment_by_id old.driver.devices device) device (contexts_of old.iommu) (contexts_of new.iommu)
      → TranslationsChange (values_of old) device (translations_of new.iommu) → InvariantWith walks (answering old new) events
  quiet_sound memory registers frames slots flights fence_snapshot keeps change =
      let leaves : Leaves old after = record {
        size = ap (λ m. length m) memory;
        reserved = λ frame owner mark. ap (λ m. slice_get m frame) memory;
        registers = registers;
        frames = frames;
        slots = slots;
        rows = ap (λ (f : Flights). row_ids f.rows) flights;
        driver = refl;
        devices = refl;
        fabric = refl;
      } in
      sound_from old after events invariants own leaves stays_ready (subst (λ (f : Flights). f.so_far ≤ events) (sym flights) invariants.counted)
      (contexts_kept old after device invariants.contexts keeps refl)
      (settled_scene old after device (grants_kept old after events invariants own leaves) (queue_kept old after events invariants own leaves fence_snapshot) flights keeps change walks)

  -- a page is told
  told_page : (frame : ℕ) (rights : Rights) → (call : TellsPage old.memory old.iommu device page frame rights new.iommu)
      → IsToldOf ioatc.SURE old.driver device (page * 4096) (translations_of old.iommu) (Ok (record { frame = frame; rights = rights; order = call.order })) (translations_of new.iommu)
  told_page frame rights call =
      outcome_of_done laws old events invariants own device (page * 4096) ioatc.SURE (translations_of old.iommu) (translations_of new.iommu) (Ok (record { frame = frame; rights = rights; order = call.order })) fits call.served

  told_sound : (frame : ℕ) (rights : Rights) → TellsPage old.memory old.iommu device page frame rights new.iommu → new.memory ≡ old.memory → InvariantWith walks (answering old new) events
  told_sound frame rights call memory =
      let reply = told_page frame rights call in
      quiet_sound memory (ap (λ parts. parts.registers) call.rest) (ap (λ parts. parts.frames) call.rest) (ap (λ parts. parts.slots) call.rest) (ap (λ parts. parts.flights) call.rest) (ap (λ parts. parts.fence_snapshot) call.rest) (keeps_attached laws old events invariants own device (contexts_of new.iommu) call.contexts)
      (change_of old device (page * 4096) Read (translations_of new.iommu) (record { frame = frame; rights = rights; order = call.order }) reply.1)

  -- and it is what a walk gives, or a cached translation, of a device with ATS
  told_there : (frame : ℕ) (rights : Rights) → TellsPage old.memory old.iommu device page frame rights new.iommu → (scene : Scene) → IsSceneOf (values_of (answering old new)) scene
      → (has_ats (scene.attachment_of device) ≡ true)
      × (IsWalked scene (record { device = device; page = page; pair = (frame, rights) }) ⊎ Contains scene.translations (record { device = device; page = page; pair = (frame, rights) }))
  told_there frame rights call scene shows =
      let reply = told_page frame rights call in
      let from = served_from old device (page * 4096) Read (λ d. is_some (contexts_of new.iommu d)) (translations_of new.iommu) (record { frame = frame; rights = rights; order = call.order }) own reply.1 in
      let source = served_there (values_of after) scene device (page * 4096 / 4096) from.0 from.1 shows from.4 in (
        ap has_ats (shows.attachments device) ∙ reply.0,
        subst (λ p. IsKnownTo scene device p (record { frame = frame; rights = rights; order = call.order })) at_page (subst (IsKnownTo scene device (page * 4096 / 4096)) (sym from.2) source),
      )

  -- there is no answer
  refused_sound : (cause : Cause) → RefusesQuestion old.memory old.iommu device page cause new.memory new.iommu → InvariantWith walks (answering old new) events
  refused_sound cause call = by (is_page_fault call.fault.cause) call.recorded
    where
      fields : Fields
      fields = record_of (faulted_of device AtsRequest (page * 4096)) (fault_of call.fault)

      keeps : KeepsAttached (attachment_by_id old.driver.devices device) device (contexts_of old.iommu) (contexts_of new.iommu)
      keeps = keeps_attached laws old events invariants own device (contexts_of new.iommu) call.contexts

      change : TranslationsChange (values_of old) device (translations_of new.iommu)
      change =
          let reply = outcome_of_done laws old events invariants own device (page * 4096) ioatc.SURE (translations_of old.iommu) (translations_of new.iommu) (Err call.fault) fits call.served in
          inl (λ key translation at. sym (reply.1 key) ∙ at)

      by : (b : Bool) → RecordsUnless b old.memory (registers_of old.iommu) (record_of (faulted_of device AtsRequest (page * 4096)) (fault_of call.fault)) new.memory (registers_of new.iommu)
          → InvariantWith walks (answering old new) events
      by true (memory, registers) = quiet_sound memory registers (ap (λ parts. parts.frames) call.rest) (ap (λ parts. parts.slots) call.rest) (ap (λ parts. parts.flights) call.rest) (ap (λ parts. parts.fence_snapshot) call.rest) keeps change
      by false (put, recorded) =
          let leaves : LeavesReport old after = record_leaves old after events fields put invariants report_ready refl refl refl (ap (λ parts. parts.frames) call.rest) (ap (λ parts. parts.slots) call.rest) (ap (λ parts. parts.flights) call.rest) recorded in
          report_sound old after events invariants own leaves (subst (λ (f : Flights). f.so_far ≤ events) (sym (ap (λ parts. parts.flights) call.rest)) invariants.counted)
          (contexts_kept old after device invariants.contexts keeps refl)
          (settled_scene old after device (report_grants old after events invariants own leaves) (report_queue old after events invariants own leaves (ap (λ parts. parts.fence_snapshot) call.rest)) (ap (λ parts. parts.flights) call.rest) keeps change walks)

  -- the answer is sent
  module _ (place epoch : ℕ) (at : slice_get old.fabric place ≡ Some (record { device = device; message = sent.Ask epoch page })) where
    askers : (answer : Told) → All (HasAsker old.devices) (with_sent (remove old.fabric place) device (sent.Answer epoch page answer))
    askers answer =
        askers_sent old.devices (remove old.fabric place) device (sent.Answer epoch page answer) (askers_left old.devices old.fabric place invariants.known.askers) tt

    -- what was under way
    was : (scene : Scene) → IsSceneOf (values_of (answering old new)) scene → (x : AtsMessage) → Contains (messages_in old.fabric) x → Contains scene.messages x
    was scene shows x there = subst (λ ms. Contains ms x) (sym (ap (λ (t : Traffic). t.messages) shows.traffic)) there

    asked : (scene : Scene) → IsSceneOf (values_of (answering old new)) scene → Contains scene.messages (Question device epoch page)
    asked scene shows =
        was scene shows (Question device epoch page)
        (there_at old.fabric place (record { device = device; message = sent.Ask epoch page }) (Question device epoch page) at (contains_head (Question device epoch page) []))

    may_send : (answer : Told) → AnswersQuestion old.memory old.iommu device page answer new.memory new.iommu → (scene : Scene) → IsSceneOf (values_of (answering old new)) scene
        → (x : AtsMessage) → Contains (message_on device (sent.Answer epoch page answer)) x → MayBeSent scene x
    may_send (Refused cause) call scene shows x there = absurd (in_none x there)
    may_send (Page frame rights) call scene shows x there =
        let answered = told_there frame rights call.0 scene shows in
        subst (MayBeSent scene) (sym (the_one (Answer epoch (record { device = device; page = page; pair = (frame, rights) })) x there)) (asked scene shows, answered.0, answered.1)

    sent_sound : (answer : Told) → AnswersQuestion old.memory old.iommu device page answer new.memory new.iommu → InvariantWith walks (answering old new) events
        → InvariantWith walks (record (answering old new) { fabric = with_sent (remove old.fabric place) device (sent.Answer epoch page answer) }) events
    sent_sound answer call between =
        carried_sound after (with_sent (remove old.fabric place) device (sent.Answer epoch page answer)) events between (askers answer)
        (λ scene shows facts x there. elim (sent_cases (remove old.fabric place) device (sent.Answer epoch page answer) x there) [
          | inl new ↦ inl (may_send answer call scene shows x new)
          | inr before ↦ inr (was scene shows x (left_among old.fabric place x before))
        ])

    answer_sound : (answer : Told) → AnswersQuestion old.memory old.iommu device page answer new.memory new.iommu
        → InvariantWith walks (record (answering old new) { fabric = with_sent (remove old.fabric place) device (sent.Answer epoch page answer) }) events
    answer_sound (Page frame rights) call = sent_sound (Page frame rights) call (told_sound frame rights call.0 call.1)
    answer_sound (Refused cause) call = sent_sound (Refused cause) call (refused_sound cause call)

-- A QUESTION IS ANSWERED
pub keeps_answered : {walks : List Walk} → ServiceLaws → (old new : Parts) (events place device epoch page : ℕ) (reply : Outcome) → InvariantWith walks old events → DriverInvariant old.driver → StaysReady old.driver
    → StaysReported old.driver → slice_get old.fabric place ≡ Some (record { device = device; message = sent.Ask epoch page })
    → AnswersAsked old device epoch page (remove old.fabric place) reply new → InvariantWith walks new events
keeps_answered {walks = walks} laws old new events place device epoch page reply invariants own unchanged reported at answers =
    let asker = All-at (HasAsker old.devices) old.fabric place (record { device = device; message = sent.Ask epoch page }) invariants.known.askers at in
    subst (λ parts. InvariantWith walks parts events)
    (sym (parts_are new new.memory new.iommu old.driver old.devices (with_sent (remove old.fabric place) device (sent.Answer epoch page answers.answer)) refl refl answers.driver answers.devices answers.fabric))
    (answer_sound laws old new events device page invariants own unchanged reported asker.1 place epoch at answers.answer answers.call)
