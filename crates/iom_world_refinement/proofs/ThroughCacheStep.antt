-- An access of a device through its own cache is a lawful step of the ledger machine.
use Rattle.std.proofs.Common.{◌≡◌, ◌∙◌, inl, inr, ℕ, Bool, true, Option, None, Some, Result, Ok, Err, refl, sym, ap, subst, arith, List}
use Rattle.iom_walk_coherence.specs.Walks.{Walk}
use Rattle.iom_base.specs.declared.access.Access.{Access}
use Rattle.iom_base.specs.Accesses.{IsWithinPage, page_of, at_frame}
use Rattle.iom_base.specs.declared.cause.Cause.{Cause}
use Rattle.iom_driver.specs.declared.device.Attachment.TheVariants as attached
use Rattle.iom_driver.specs.declared.device.Stages.{Stages}
use Rattle.iom_driver.specs.Devices.{attachment_by_id, attached_stages}
use Rattle.iom_inflight.specs.Calls.{IsAccepted, HasRoom}
use Rattle.iom_iommu.specs.declared.reply.Reply.{Reply}
use Rattle.iom_iommu.specs.declared.reply.Reply.TheVariants.{Accepted, Busy, BadSpan, Fault}
use Rattle.iom_iommu.specs.Parts.{flights_of, registers_of, contexts_of}
use Rattle.iom_iommu.specs.Service.{ats_context_for}
use Rattle.iom_iommu.specs.Translated.{AnswersTranslated, AcceptsTranslated, RefusesTranslated}
use Rattle.iom_machine.specs.declared.outcome.Outcome.{Outcome}
use Rattle.iom_machine.specs.declared.outcome.Outcome.TheVariants as outcome
use Rattle.iom_machine.specs.declared.state.Device as machine
use Rattle.iom_machine.specs.declared.state.State.{State}
use Rattle.iom_base.specs.declared.device_kind.DeviceKind.{DeviceKind}
use Rattle.iom_machine.specs.Machine.{Acts}
use Rattle.iom_machine.specs.Requests.{with_accepted, cause_without_context}
use Rattle.iom_machine.specs.Translated.{MayLackContext}
use Rattle.iom_machine.specs.ThroughCache.{MayGoThrough, MayAnswerThroughCache, state_after_cached}
use Rattle.iom_stage_walk.specs.declared.walked.WalkFault.{WalkFault}
use Rattle.iom_tlb.specs.declared.trans_cache.Translation.{Translation}
use Rattle.iom_world_effects.specs.Devices.{shown_attachment, shown_device}
use Rattle.iom_world_effects.specs.Parts.{Parts}
use Rattle.iom_world_effects.specs.Requests.{outcome_of_reply}
use Rattle.iom_world_effects.specs.Shows.{PartsShow}
use Rattle.iom_world_effects.specs.Invariant.{InvariantWith}
use Rattle.iom_world_effects.specs.ThroughCache.{DeviceAsksThroughCache, TriesCache, FindsFrame, cached_frame}
use Rattle.iom_world_effects.proofs.AtsContexts.{finds_none}
use Rattle.iom_world_effects.proofs.DriverLemmas.{DriverInvariant}
use Rattle.iom_world_effects.proofs.EntryMay.{HasEntry, IsUsable, found_entry, usable_or, entry_page, entry_may}
use Rattle.iom_world_effects.proofs.PresentLemmas.{kind_present}
use Rattle.iom_world_invariant.proofs.RequestStep.{acts_at, acts_unable, acts_absent, kind_found, shows_same, shows_where, shows_reported, is_busy, not_busy, accepted_shown}
use Rattle.iom_world_effects.proofs.RowPlaces.{IsFound, present_found}
use Rattle.iom_world_effects.proofs.ServedLemmas.{ServiceLaws, cause_at}
use Rattle.iom_world_effects.proofs.PartsLemmas.{StaysReported}
use Rattle.iom_world_invariant.proofs.RequestKeeps.{report_leaves}
use Rattle.iom_world_invariant.proofs.TranslatedKeeps.{never_accepted}
use Rattle.iom_world_refinement.proofs.TranslatedStep.{told_cause}
use Rattle.iom_world_invariant.proofs.ThroughCacheKeeps.{accepted_frame}

-- the machine may answer the access of a device through its own cache so, on the frame, if it is of a kind that can have one
abbrev pub GoesAs : (DeviceKind → Bool) → ℕ → State → ℕ → Access → Outcome → State → Type 0
GoesAs can frame state id access answer next =
    Acts can (λ device. MayAnswerThroughCache state device access frame answer × (next ≡ state_after_cached state device access frame answer)) state id answer next

-- what it leads to: the machine may answer so, on some frame, and shows the parts then
abbrev Steps : (DeviceKind → Bool) → State → ℕ → Access → Outcome → Parts → Type 0
Steps can state id access answer new = (frame : ℕ) × (next : State) × GoesAs can frame state id access answer next × PartsShow new next

module _ {walks : List Walk} (can : DeviceKind → Bool) (laws : ServiceLaws) (old new : Parts) (events id : ℕ) (access : Access) (invariants : InvariantWith walks old events) (own : DriverInvariant old.driver) (reported : StaysReported old.driver) (state : State) (shows : PartsShow old state)
    (is : IsFound old.driver.devices (flights_of old.iommu).rows old.devices id) (able : can is.device.kind ≡ true) where
  abbrev MayTell : ℕ → State → Outcome → machine.Device → Type 0
  MayTell frame next answer device = MayAnswerThroughCache state device access frame answer × (next ≡ state_after_cached state device access frame answer)

  step_same : (answer : Outcome) → MayAnswerThroughCache state (shown_device old.driver.devices (flights_of old.iommu).rows is.device) access 0 answer
      → state ≡ state_after_cached state (shown_device old.driver.devices (flights_of old.iommu).rows is.device) access 0 answer → PartsShow new state → Steps can state id access answer new
  step_same answer may unchanged shown = (0, state, acts_at can (MayTell 0 state answer) old state id answer state shows.devices is able (may, unchanged), shown)

  -- of an entry that was found
  module _ (within : IsWithinPage access) (room : HasRoom (flights_of old.iommu) id) (frame : ℕ) (entry : HasEntry old.devices id (page_of access) access.kind frame)
      (driver : new.driver ≡ old.driver) (devices : new.devices ≡ old.devices) (fabric : new.fabric ≡ old.fabric) where
    unchanged : new.memory ≡ old.memory → new.iommu ≡ old.iommu → PartsShow new state
    unchanged memory iommu = shows_where old new state (rw memory shows.frames) driver devices (ap flights_of iommu) shows

    step_accept : IsUsable old id → new.memory ≡ old.memory → (number : ℕ) → AcceptsTranslated old.memory old.iommu id (at_frame frame access) number new.iommu → Steps can state id access (outcome.Accepted number) new
    step_accept usable memory number call =
        let same = accepted_frame laws old new events id access frame number invariants own entry usable call in
        let it = subst (λ n. IsAccepted (flights_of old.iommu) id (record { access = at_frame frame access; frame = n }) number (flights_of new.iommu)) same call.accepted in
        let next = with_accepted state (shown_device old.driver.devices (flights_of old.iommu).rows is.device) (at_frame frame access) frame in
        let after = accepted_shown old new events id invariants state shows is (at_frame frame access) frame number memory driver devices it in (
          frame,
          next,
          acts_at can (MayTell frame next (outcome.Accepted number)) old state id (outcome.Accepted number) next shows.devices is able (
            (
              (within, not_busy old new events id invariants state shows is room.row room.stands room.room),
              subst (λ n. MayGoThrough (shown_attachment (attachment_by_id old.driver.devices n)) state n access frame) (sym is.own)
                  (entry_may old events id access frame invariants own entry usable state shows),
              after.0,
            ),
            refl,
          ),
          after.1,
        )

    -- one that may be used isn't refused, as its frame is one of memory, and its device's context lets it through
    never_refused : (fault : WalkFault) (page : Translation) → ◌≡◌ {A = Result Translation WalkFault} (Err fault) (Ok page) → ⊥
    never_refused fault page same = cc

    -- of a device that is quarantined no context is found
    step_fault : (ticket : ℕ) (stage : Stages) → attachment_by_id old.driver.devices id ≡ attached.Quarantined ticket stage
        → ats_context_for old.memory (registers_of old.iommu) (contexts_of old.iommu) id ≡ Err (cause_at old.driver.levels id)
        → (cause : Cause) → RefusesTranslated old.memory old.iommu id (at_frame frame access) cause new.memory new.iommu → Steps can state id access (outcome.Fault cause) new
    step_fault ticket stage at found cause call =
        let leaves = report_leaves old new events id (at_frame frame access) invariants reported driver devices fabric cause call in
        let same = call.reply ∙ told_cause old.memory (at_frame frame access) (ats_context_for old.memory (registers_of old.iommu) (contexts_of old.iommu) id) (cause_at old.driver.levels id)
        call.fault found call.served.0 in
        step_same (outcome.Fault cause) (
          (within, not_busy old new events id invariants state shows is room.row room.stands room.room),
          (
            subst (λ n. MayLackContext (shown_attachment (attachment_by_id old.driver.devices n))) (sym is.own) (subst (λ a. MayLackContext (shown_attachment a)) (sym at) tt),
            subst (λ n. cause ≡ cause_without_context state n) (sym is.own) (same ∙ ap (λ l. cause_at l id) (sym shows.levels)),
          ),
        )
        refl (shows_where old new state (shows_reported old new state leaves invariants.ready.stand.size own shows) driver devices (ap (λ parts. parts.flights) call.rest) shows)

    step_replied : (reply : Reply) → AnswersTranslated old.memory old.iommu id (at_frame frame access) reply new.memory new.iommu → Steps can state id access (outcome_of_reply reply) new
    step_replied (Accepted number) call = elim (usable_or old id) [
      | inl usable ↦ step_accept usable call.1 number call.0
      | inr (ticket, stage, at, none) ↦
          absurd (never_accepted old id (at_frame frame access) number new (cause_at old.driver.levels id) (finds_none laws old events invariants own id (ap attached_stages at) none) call.0)
    ]
    step_replied Busy call = step_same outcome.Busy (within, is_busy old new events id invariants state shows is call.1) refl (unchanged call.3 call.2)
    step_replied BadSpan call = absurd (call.0 (within.0, (let fits = within.1 in omega (arith, fits))))
    step_replied (Fault cause) call = elim (usable_or old id) [
      | inl usable ↦ absurd (never_refused call.fault _ (call.served.0 ∙ entry_page old events id access frame invariants own entry usable laws))
      | inr (ticket, stage, at, none) ↦ step_fault ticket stage at (finds_none laws old events invariants own id (ap attached_stages at) none) cause call
    ]

  by_frame : IsWithinPage access → HasRoom (flights_of old.iommu) id → (found : Option ℕ) → cached_frame old id access ≡ found → (answer : Outcome) → FindsFrame found old id access answer new
      → Steps can state id access answer new
  by_frame within room None at answer misses =
      subst (λ t. Steps can state id access t new) (sym misses.0)
      (step_same outcome.Miss (within, not_busy old new events id invariants state shows is room.row room.stands room.room) refl (shows_same old new state misses.1 shows))
  by_frame within room (Some frame) at answer answered =
      subst (λ t. Steps can state id access t new) (sym answered.reply_is)
      (step_replied within room frame (found_entry old.devices id (page_of access) access.kind frame at) answered.driver answered.devices answered.fabric answered.reply answered.call)

  tries : (answer : Outcome) → TriesCache old id access answer new → Steps can state id access answer new
  tries answer (inl outside) = subst (λ t. Steps can state id access t new) (sym outside.1) (step_same outcome.BadSpan outside.0 refl (shows_same old new state outside.2 shows))
  tries answer (inr (inl full)) =
      subst (λ t. Steps can state id access t new) (sym full.2)
      (step_same outcome.Busy (full.0, is_busy old new events id invariants state shows is full.1) refl (shows_same old new state full.3 shows))
  tries answer (inr (inr finds)) = by_frame finds.0 finds.1 (cached_frame old id access) refl answer finds.2

pub through_cache_step : {walks : List Walk} (can : DeviceKind → Bool) → ServiceLaws → (old new : Parts) (events id : ℕ) (access : Access) (answer : Outcome) → InvariantWith walks old events → DriverInvariant old.driver → StaysReported old.driver
    → DeviceAsksThroughCache can old id access answer new → (state : State) → PartsShow old state
    → (frame : ℕ) × (next : State) × GoesAs can frame state id access answer next × PartsShow new next
through_cache_step can laws old new events id access answer invariants own reported asks state shows = elim asks [
  | inl unknown ↦ (
    0,
    state,
    acts_absent can (λ device. MayAnswerThroughCache state device access 0 answer × (state ≡ state_after_cached state device access 0 answer)) old state id answer shows.devices unknown.absent unknown.reply_is,
    shows_same old new state unknown.same shows,
  )
  | inr (inl unable) ↦
      let is = present_found old.driver.devices (flights_of old.iommu).rows old.devices id (kind_present old.devices id unable.kind unable.there) in (
        0,
        state,
        acts_unable can (λ device. MayAnswerThroughCache state device access 0 answer × (state ≡ state_after_cached state device access 0 answer)) old state id answer shows.devices is
            (ap can (kind_found old.driver.devices (flights_of old.iommu).rows old.devices id unable.kind is unable.there) ∙ unable.cannot) unable.reply_is,
        shows_same old new state unable.same shows,
      )
  | inr (inr tried) ↦
      let kind = tried.0.0 in
      let is = present_found old.driver.devices (flights_of old.iommu).rows old.devices id (kind_present old.devices id kind tried.0.1) in
      tries can laws old new events id access invariants own reported state shows is
      (ap can (kind_found old.driver.devices (flights_of old.iommu).rows old.devices id kind is tried.0.1) ∙ tried.0.2) answer tried.1
]
