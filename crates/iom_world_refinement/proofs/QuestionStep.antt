-- A question that is answered is a lawful step of the ledger machine: its device may be told so, and nothing changes.
use Rattle.std.proofs.Common.{◌≡◌, ◌*◌, ◌/◌, ◌^◌, ◌<◌, ◌==◌, ◌∙◌, ℕ, Bool, true, false, find, is_some, IsSomeAnd, List, Option, Some, None, option_map, Ok, Err, remove, slice_get, refl, sym, ap, subst, arith}
use Rattle.iom_walk_coherence.specs.Walks.{Walk}
use Rattle.iom_base.specs.declared.cause.Cause.{Cause}
use Rattle.iom_driver.specs.Devices.{attachment_by_id}
use Rattle.iom_fabric.specs.declared.message.Message.TheVariants as sent
use Rattle.iom_fabric.specs.declared.message.Translation.{Translation as Told}
use Rattle.iom_fabric.specs.declared.message.Translation.TheVariants.{Page, Refused}
use Rattle.iom_fault_queue.specs.declared.transaction.Transaction.TheVariants.{AtsRequest}
use Rattle.iom_fault_queue.specs.Records.{record_of}
use Rattle.iom_iommu.specs.Parts.{registers_of, translations_of, flights_of}
use Rattle.iom_iommu.specs.Questions.{is_page_fault, RecordsUnless, RefusesQuestion, AnswersQuestion}
use Rattle.iom_iommu.specs.Requests.{faulted_of, fault_of}
use Rattle.iom_machine.proofs.InFlightLemmas.{All-at}
use Rattle.iom_machine.specs.declared.outcome.Outcome.{Outcome}
use Rattle.iom_machine.specs.declared.outcome.Outcome.TheVariants as outcome
use Rattle.iom_machine.specs.declared.state.Device as machine
use Rattle.iom_machine.specs.declared.state.State.{State}
use Rattle.iom_machine.specs.Devices.{device_of}
use Rattle.iom_machine.specs.Messages.{Delivers}
use Rattle.iom_machine.specs.Questions.{MayTell}
use Rattle.iom_tlb.specs.Chosen.{ioatc}
use Rattle.iom_device.specs.declared.device.Device.{Device}
use Rattle.iom_device.specs.Caches.{device_with}
use Rattle.iom_world_effects.specs.Deliveries.{AnswersAsked}
use Rattle.iom_world_effects.specs.Devices.{shown_attachment, shown_device}
use Rattle.iom_world_effects.specs.Frames.{ShowsFrames}
use Rattle.iom_world_effects.specs.Parts.{Parts}
use Rattle.iom_world_effects.specs.Places.{IsPresent}
use Rattle.iom_world_effects.specs.Shows.{PartsShow}
use Rattle.iom_world_effects.specs.Invariant.{InvariantWith, HasAsker}
use Rattle.iom_world_effects.proofs.DriverLemmas.{DriverInvariant}
use Rattle.iom_world_effects.proofs.PartsLemmas.{StaysReported}
use Rattle.iom_world_effects.proofs.PresentLemmas.{kind_present}
use Rattle.iom_world_effects.proofs.QuestionAnswers.{outcome_of_done}
use Rattle.iom_world_refinement.proofs.QuestionMay.{may_tell, may_refuse}
use Rattle.iom_world_invariant.proofs.RequestKeeps.{record_leaves}
use Rattle.iom_world_invariant.proofs.RequestStep.{shows_where, shows_reported}
use Rattle.iom_world_effects.proofs.RowPlaces.{present_found}
use Rattle.iom_world_effects.proofs.ServedLemmas.{ServiceLaws}
use Rattle.iom_world_effects.proofs.SoundFrom.{LeavesReport}

-- a device that is plugged in is there
pub plugged_present : (devices : List Device) (id : ℕ) → is_some (device_with devices id) ≡ true → IsPresent devices id
plugged_present devices id plugged = by (device_with devices id) refl plugged
  where
    by : (device : Option Device) → device_with devices id ≡ device → is_some device ≡ true → IsPresent devices id
    by None is plugged = cc
    by (Some device) is plugged = kind_present devices id device.kind (ap (option_map (λ (d : Device). d.kind)) is)

module _ {walks : List Walk} (laws : ServiceLaws) (old new : Parts) (events device page : ℕ) (invariants : InvariantWith walks old events) (own : DriverInvariant old.driver) (reported : StaysReported old.driver) (low : page < 2 ^ 52)
    (state : State) (shows : PartsShow old state) where
  fits : page * 4096 < 2 ^ 64
  fits = omega (arith, low)

  at_page : page * 4096 / 4096 ≡ page
  at_page = omega arith

  tells : (answer : Told) → AnswersQuestion old.memory old.iommu device page answer new.memory new.iommu
      → MayTell (shown_attachment (attachment_by_id old.driver.devices device)) state device page answer
  tells (Page frame rights) call =
      let reply = outcome_of_done laws old events invariants own device (page * 4096) ioatc.SURE (translations_of old.iommu) (translations_of new.iommu) (Ok (record { frame = frame; rights = rights; order = call.0.order })) fits call.0.served in
      subst (λ p. MayTell (shown_attachment (attachment_by_id old.driver.devices device)) state device p (Page frame rights)) at_page
      (may_tell old events state device (page * 4096) (record { frame = frame; rights = rights; order = call.0.order }) ioatc.SURE (translations_of new.iommu) invariants own shows reply.0 reply.1)
  tells (Refused cause) call =
      let reply = outcome_of_done laws old events invariants own device (page * 4096) ioatc.SURE (translations_of old.iommu) (translations_of new.iommu) (Err call.fault) fits call.served in
      subst (λ p. MayTell (shown_attachment (attachment_by_id old.driver.devices device)) state device p (Refused cause)) at_page
      (subst (λ c. MayTell (shown_attachment (attachment_by_id old.driver.devices device)) state device (page * 4096 / 4096) (Refused c)) (sym call.reply)
      (may_refuse (attachment_by_id old.driver.devices device) old state device (page * 4096) call.fault.cause own shows refl reply.0))

  -- a record of a fault is in a frame that is nobody's but the driver's
  frames_recorded : (cause : Cause) → (call : RefusesQuestion old.memory old.iommu device page cause new.memory new.iommu) → (b : Bool)
      → RecordsUnless b old.memory (registers_of old.iommu) (record_of (faulted_of device AtsRequest (page * 4096)) (fault_of call.fault)) new.memory (registers_of new.iommu)
      → ShowsFrames new.memory old.driver.owners state.frames
  frames_recorded cause call true (memory, registers) = rw memory shows.frames
  frames_recorded cause call false (put, recorded) =
      let after : Parts = record old { memory = new.memory; iommu = new.iommu } in
      let leaves : LeavesReport old after =
      record_leaves old after events (record_of (faulted_of device AtsRequest (page * 4096)) (fault_of call.fault)) put invariants reported refl refl refl (ap (λ parts. parts.frames) call.rest) (ap (λ parts. parts.slots) call.rest) (ap (λ parts. parts.flights) call.rest) recorded in
      shows_reported old after state leaves invariants.ready.stand.size own shows

  shows_answered : (answer : Told) → AnswersQuestion old.memory old.iommu device page answer new.memory new.iommu → new.driver ≡ old.driver → new.devices ≡ old.devices → PartsShow new state
  shows_answered (Page frame rights) call driver devices = shows_where old new state (rw call.1 shows.frames) driver devices (ap (λ parts. parts.flights) call.0.rest) shows
  shows_answered (Refused cause) call driver devices =
      shows_where old new state (frames_recorded cause call (is_page_fault call.fault.cause) call.recorded) driver devices (ap (λ parts. parts.flights) call.rest) shows

  -- its device is found, and may be told so
  delivered : (answer : Told) → AnswersQuestion old.memory old.iommu device page answer new.memory new.iommu → IsPresent old.devices device
      → Delivers device page state (outcome.Answered answer) state
  delivered answer call present =
      let is = present_found old.driver.devices (flights_of old.iommu).rows old.devices device present in
      let may : MayTell (shown_attachment (attachment_by_id old.driver.devices is.device.id)) state is.device.id page answer =
      subst (λ n. MayTell (shown_attachment (attachment_by_id old.driver.devices n)) state n page answer) (sym is.own) (tells answer call) in
      let found : device_of state device ≡ Some (shown_device old.driver.devices (flights_of old.iommu).rows is.device) =
      ap (λ (devices : List machine.Device). find (λ (d : machine.Device). d.id == device) devices) shows.devices ∙ is.shown in
      (subst (λ o. IsSomeAnd o (λ (d : machine.Device). MayTell d.attachment state d.id page answer)) (sym found) may, refl)

-- A QUESTION IS ANSWERED
pub answered_step : {walks : List Walk} → ServiceLaws → (old new : Parts) (events place device epoch page : ℕ) (reply : Outcome) → InvariantWith walks old events → DriverInvariant old.driver → StaysReported old.driver
    → slice_get old.fabric place ≡ Some (record { device = device; message = sent.Ask epoch page }) → AnswersAsked old device epoch page (remove old.fabric place) reply new
    → (state : State) → PartsShow old state → Delivers device page state reply state × PartsShow new state
answered_step laws old new events place device epoch page reply invariants own reported at answers state shows =
    let asker = All-at (HasAsker old.devices) old.fabric place (record { device = device; message = sent.Ask epoch page }) invariants.known.askers at in (
      subst (λ t. Delivers device page state t state) (sym answers.reply_is)
          (delivered laws old new events device page invariants own reported asker.1 state shows answers.answer answers.call (plugged_present old.devices device asker.0)),
      shows_answered laws old new events device page invariants own reported asker.1 state shows answers.answer answers.call answers.driver answers.devices,
    )
