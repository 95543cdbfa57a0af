-- A request that says it is translated already, of a raw device, is a lawful step of the ledger machine.
use Rattle.std.proofs.Common.{◌≡◌, ◌∙◌, inl, inr, ℕ, true, List, Result, Err, refl, sym, ap, subst}
use Rattle.iom_walk_coherence.specs.Walks.{Walk}
use Rattle.iom_base.specs.declared.access.Access.{Access}
use Rattle.iom_base.specs.declared.cause.Cause.{Cause}
use Rattle.iom_device_dir.specs.declared.context.Context.{Context}
use Rattle.iom_driver.specs.Devices.{attachment_by_id}
use Rattle.iom_iommu.specs.declared.reply.Reply.{Reply}
use Rattle.iom_iommu.specs.declared.reply.Reply.TheVariants.{Accepted, Busy, BadSpan, Fault}
use Rattle.iom_iommu.specs.Parts.{registers_of, contexts_of, flights_of}
use Rattle.iom_iommu.specs.Service.{ats_context_for}
use Rattle.iom_iommu.specs.Translated.{AnswersTranslated, RefusesTranslated, physical_page}
use Rattle.iom_machine.specs.declared.outcome.Outcome.{Outcome}
use Rattle.iom_machine.specs.declared.outcome.Outcome.TheVariants as outcome
use Rattle.iom_machine.specs.declared.state.Device as machine
use Rattle.iom_machine.specs.declared.state.State.{State}
use Rattle.iom_base.specs.DeviceKinds.{forges}
use Rattle.iom_machine.specs.Machine.{RequestsTranslated}
use Rattle.iom_machine.specs.Requests.{cause_without_context}
use Rattle.iom_machine.specs.Translated.{MayLackContext, MayFaultTranslated, MayAnswerTranslated}
use Rattle.iom_stage_walk.specs.declared.walked.WalkFault.{WalkFault}
use Rattle.iom_stage_walk.specs.Both.{plain}
use Rattle.iom_tlb.specs.declared.trans_cache.Translation.{Translation}
use Rattle.iom_world_effects.specs.Devices.{shown_attachment, shown_device}
use Rattle.iom_world_effects.specs.Parts.{Parts}
use Rattle.iom_world_effects.specs.Requests.{AsksTranslated, outcome_of_reply}
use Rattle.iom_world_effects.specs.Shows.{PartsShow}
use Rattle.iom_world_effects.specs.Invariant.{InvariantWith}
use Rattle.iom_world_effects.proofs.DriverLemmas.{DriverInvariant}
use Rattle.iom_world_effects.proofs.PartsLemmas.{StaysReported}
use Rattle.iom_world_effects.proofs.PresentLemmas.{kind_present}
use Rattle.iom_world_invariant.proofs.RequestKeeps.{report_leaves}
use Rattle.iom_world_invariant.proofs.RequestStep.{acts_at, acts_unable, acts_absent, kind_found, shows_same, shows_where, shows_reported, is_busy, not_busy}
use Rattle.iom_world_effects.proofs.RowPlaces.{IsFound, present_found}
use Rattle.iom_world_effects.proofs.ServedLemmas.{ServiceLaws, cause_at}
use Rattle.iom_world_invariant.proofs.TranslatedKeeps.{IsNotLet, not_let, never_accepted}

-- where no context is found, it is refused with that cause
pub told_cause : (memory : List (List ℕ)) (access : Access) (found : Result Context Cause) (cause : Cause) (fault : WalkFault) → found ≡ Err cause
    → Err fault ≡ physical_page found memory access.address access.kind → fault.cause ≡ cause
told_cause memory access found cause fault is served =
    err_same fault (plain cause) (served ∙ ap (λ (f : Result Context Cause). physical_page f memory access.address access.kind) is)
  where
    err_same : (x y : WalkFault) → ◌≡◌ {A = Result Translation WalkFault} (Err x) (Err y) → x.cause ≡ y.cause
    err_same x y same = cc

-- a cause for which no context lets it through is one that the machine allows
pub may_fault_translated : (parts : Parts) (state : State) (device : machine.Device) (id : ℕ) (cause : Cause) → PartsShow parts state
    → device.attachment ≡ shown_attachment (attachment_by_id parts.driver.devices id) → device.id ≡ id → IsNotLet (attachment_by_id parts.driver.devices id) parts.driver.levels id cause
    → MayFaultTranslated state device cause
may_fault_translated parts state device id cause shows attached is (inl disallowed) = inl disallowed
may_fault_translated parts state device id cause shows attached is (inr lacks) = inr (
  subst MayLackContext (sym attached) lacks.0,
  subst (λ n. cause ≡ cause_without_context state n) (sym is) (lacks.1 ∙ ap (λ l. cause_at l id) (sym shows.levels)),
)

module _ {walks : List Walk} (laws : ServiceLaws) (old new : Parts) (events id : ℕ) (access : Access) (invariants : InvariantWith walks old events) (own : DriverInvariant old.driver)
    (reported : StaysReported old.driver) (driver : new.driver ≡ old.driver) (devices : new.devices ≡ old.devices) (fabric : new.fabric ≡ old.fabric) (state : State) (shows : PartsShow old state)
    (is : IsFound old.driver.devices (flights_of old.iommu).rows old.devices id) (able : forges is.device.kind ≡ true) (why : Cause)
    (found : ats_context_for old.memory (registers_of old.iommu) (contexts_of old.iommu) id ≡ Err why)
    (not_let_for : IsNotLet (attachment_by_id old.driver.devices id) old.driver.levels id why) where
  -- what it leads to: the machine may answer so, and shows the parts as before
  abbrev Steps : Outcome → Type 0
  Steps answer = RequestsTranslated state id access answer state × PartsShow new state

  step_same : (answer : Outcome) → MayAnswerTranslated state (shown_device old.driver.devices (flights_of old.iommu).rows is.device) access answer → PartsShow new state
      → RequestsTranslated state id access answer state × PartsShow new state
  step_same answer may shown = (acts_at forges (λ device. MayAnswerTranslated state device access answer × (state ≡ state)) old state id answer state shows.devices is able (may, refl), shown)

  unchanged : new.memory ≡ old.memory → new.iommu ≡ old.iommu → PartsShow new state
  unchanged memory iommu = shows_where old new state (rw memory shows.frames) driver devices (ap flights_of iommu) shows

  step_fault : (cause : Cause) → RefusesTranslated old.memory old.iommu id access cause new.memory new.iommu → Steps (outcome.Fault cause)
  step_fault cause call =
      let leaves = report_leaves old new events id access invariants reported driver devices fabric cause call in
      let same = call.reply ∙ told_cause old.memory access (ats_context_for old.memory (registers_of old.iommu) (contexts_of old.iommu) id) why call.fault found call.served.0 in
      step_same (outcome.Fault cause) (
        (call.within, not_busy old new events id invariants state shows is call.room.row call.room.stands call.room.room),
        may_fault_translated old state (shown_device old.driver.devices (flights_of old.iommu).rows is.device) id cause shows
            (ap (λ n. shown_attachment (attachment_by_id old.driver.devices n)) is.own) is.own
            (subst (IsNotLet (attachment_by_id old.driver.devices id) old.driver.levels id) (sym same) not_let_for),
      )
      (shows_where old new state (shows_reported old new state leaves invariants.ready.stand.size own shows) driver devices (ap (λ parts. parts.flights) call.rest) shows)

  step_replied : (reply : Reply) → AnswersTranslated old.memory old.iommu id access reply new.memory new.iommu → RequestsTranslated state id access (outcome_of_reply reply) state × PartsShow new state
  step_replied (Accepted number) call = absurd (never_accepted old id access number new why found call.0)
  step_replied Busy call = step_same outcome.Busy (call.0, is_busy old new events id invariants state shows is call.1) (unchanged call.3 call.2)
  step_replied BadSpan call = step_same outcome.BadSpan call.0 (unchanged call.2 call.1)
  step_replied (Fault cause) call = step_fault cause call

pub translated_step : {walks : List Walk} → ServiceLaws → (old new : Parts) (events id : ℕ) (access : Access) (answer : Outcome) → InvariantWith walks old events → DriverInvariant old.driver → StaysReported old.driver
    → AsksTranslated old id access answer new → (state : State) → PartsShow old state → RequestsTranslated state id access answer state × PartsShow new state
translated_step laws old new events id access answer invariants own reported asks state shows = elim asks [
  | inl unknown ↦ (
    acts_absent forges (λ device. MayAnswerTranslated state device access answer × (state ≡ state)) old state id answer shows.devices unknown.absent unknown.reply_is,
    shows_same old new state unknown.same shows,
  )
  | inr (inl unable) ↦
      let is = present_found old.driver.devices (flights_of old.iommu).rows old.devices id (kind_present old.devices id unable.kind unable.there) in (
        acts_unable forges (λ device. MayAnswerTranslated state device access answer × (state ≡ state)) old state id answer shows.devices is
            (ap forges (kind_found old.driver.devices (flights_of old.iommu).rows old.devices id unable.kind is unable.there) ∙ unable.cannot) unable.reply_is,
        shows_same old new state unable.same shows,
      )
  | inr (inr answered) ↦
      let kind = answered.0.0 in
      let is = present_found old.driver.devices (flights_of old.iommu).rows old.devices id (kind_present old.devices id kind answered.0.1) in
      let reply = answered.1 in
      let found = not_let laws old events id kind invariants own answered.0.1 answered.0.2 in
      let step = step_replied laws old new events id access invariants own reported reply.driver reply.devices reply.fabric state shows is
      (ap forges (kind_found old.driver.devices (flights_of old.iommu).rows old.devices id kind is answered.0.1) ∙ answered.0.2) found.0 found.1 found.2 reply.reply reply.call in
      (subst (λ t. RequestsTranslated state id access t state) (sym reply.reply_is) step.0, step.1)
]
