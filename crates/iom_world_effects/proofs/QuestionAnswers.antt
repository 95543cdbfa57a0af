-- What a question is answered in a sound world, by how its device is attached: a translation only where it is attached, or leaves, with ATS.
use Rattle.std.proofs.Common.{◌≡◌, ◌/◌, ◌^◌, ◌<◌, ◌⊎◌, ◌∙◌, inl, inr, ℕ, Bool, true, false, Result, Ok, Err, refl, sym, ap, subst, if◌then◌else◌, List}
use Rattle.iom_walk_coherence.specs.Walks.{Walk}
use Rattle.iom_base.specs.declared.access.AccessKind.TheVariants.{Read}
use Rattle.iom_base.specs.declared.cause.Cause.{Cause}
use Rattle.iom_base.specs.declared.cause.Cause.TheVariants.{TransactionTypeDisallowed}
use Rattle.iom_coherence.specs.Attachments.{has_ats}
use Rattle.iom_device_dir.specs.declared.context.Context.{Context}
use Rattle.iom_driver.specs.declared.device.Attachment.{Attachment}
use Rattle.iom_driver.specs.declared.device.Attachment.TheVariants.{Detached, Attached, Quarantined, Leaving}
use Rattle.iom_driver.specs.declared.device.Stages.{Stages}
use Rattle.iom_driver.specs.Devices.{attachment_by_id}
use Rattle.iom_driver.specs.Directory.{context_for}
use Rattle.iom_driver.specs.State.{DriverState}
use Rattle.iom_iommu.specs.Parts.{registers_of, contexts_of}
use Rattle.iom_iommu.specs.Service.{ServesBy, ats_context_for}
use Rattle.iom_machine.specs.Requests.{IsPageFaultOf}
use Rattle.iom_stage_walk.specs.declared.walked.WalkFault.{WalkFault}
use Rattle.iom_stage_walk.specs.Both.{plain}
use Rattle.iom_tlb.specs.declared.trans_cache.Translation.{Translation}
use Rattle.iom_tlb.specs.Content.{Translations, TranslationsUnchanged}
use Rattle.iom_world_effects.specs.Devices.{shown_attachment}
use Rattle.iom_world_effects.specs.Parts.{Parts}
use Rattle.iom_world_effects.specs.Invariant.{InvariantWith}
use Rattle.iom_world_effects.proofs.AtsContexts.{FindsAts, finds_ats}
use Rattle.iom_world_effects.proofs.QuarantinedLemmas.{IsPending}
use Rattle.iom_world_effects.proofs.DriverLemmas.{DriverInvariant}
use Rattle.iom_world_effects.proofs.ServedLemmas.{ServiceLaws, FaultsAs, IsAnswered, cause_at, of_attached, of_quarantined, of_leaving}
use Rattle.iom_world_effects.proofs.WalkLemmas.{FaultsBy}

-- for which cause a question is refused by the context of the stages that a device had
abbrev pub RefusedFormerly : Stages → Cause → Type 0
RefusedFormerly stage cause = ((stage.ats ≡ true) × IsPageFaultOf stage.mode Read cause) ⊎ ((stage.ats ≡ false) × (cause ≡ TransactionTypeDisallowed))

-- for which cause a question about the page at the address is refused
abbrev pub RefusedAs : Attachment → DriverState → ℕ → ℕ → Cause → Type 0
RefusedAs Detached d id address cause = cause ≡ cause_at d.levels id
RefusedAs (Attached stage) d id address cause =
    ((stage.ats ≡ true) × FaultsBy stage.mode d.ledger id (address / 4096) Read cause) ⊎ ((stage.ats ≡ false) × (cause ≡ TransactionTypeDisallowed))
RefusedAs (Quarantined ticket stage) d id address cause = (cause ≡ cause_at d.levels id) ⊎ ((d.confirmed < ticket) × RefusedFormerly stage cause)
RefusedAs (Leaving ticket stage) d id address cause = (cause ≡ cause_at d.levels id) ⊎ RefusedFormerly stage cause

-- how it is answered
abbrev pub IsToldOf : Bool → DriverState → ℕ → ℕ → Translations → Result Translation WalkFault → Translations → Type 0
IsToldOf sure d id address old (Ok answer) new =
    (has_ats (shown_attachment (attachment_by_id d.devices id)) ≡ true) × IsAnswered sure d id address Read old (Ok answer) new
IsToldOf sure d id address old (Err fault) new = RefusedAs (attachment_by_id d.devices id) d id address fault.cause × TranslationsUnchanged old new

module _ {walks : List Walk} (laws : ServiceLaws) (parts : Parts) (events : ℕ) (invariants : InvariantWith walks parts events) (own : DriverInvariant parts.driver) (id address : ℕ) (fits : address < 2 ^ 64)
    (sure : Bool) (old new : Translations) where
  abbrev d : DriverState
  d = parts.driver

  abbrev Served : Result Context Cause → Result Translation WalkFault → Type 0
  Served found answer = ServesBy sure found parts.memory address Read old answer new

  abbrev Told : Result Translation WalkFault → Type 0
  Told answer = IsToldOf sure parts.driver id address old answer new

  -- without a context that lets it through
  refused_for : (answer : Result Translation WalkFault) (cause : Cause) → RefusedAs (attachment_by_id d.devices id) d id address cause → answer ≡ Err (plain cause) → TranslationsUnchanged old new → Told answer
  refused_for (Ok answer) cause refused same unchanged = cc
  refused_for (Err fault) cause refused same unchanged =
      let c : fault ≡ plain cause = cc in
      (subst (RefusedAs (attachment_by_id d.devices id) d id address) (sym (ap (λ (f : WalkFault). f.cause) c)) refused, unchanged)

  -- with one
  told_attached : (stage : Stages) (answer : Result Translation WalkFault) → attachment_by_id d.devices id ≡ Attached stage → stage.ats ≡ true
      → IsAnswered sure d id address Read old answer new → Told answer
  told_attached stage (Ok answer) is ats answered = (ap (λ a. has_ats (shown_attachment a)) is ∙ ats, answered)
  told_attached stage (Err fault) is ats (faults, unchanged) = (
    subst (λ a. RefusedAs a d id address fault.cause) (sym is) (inl (ats, subst (λ a. FaultsAs a d id address Read fault.cause) is faults)),
    unchanged,
  )

  quarantined : (ticket : ℕ) (stage : Stages) (cause : Cause) → stage.ats ≡ true → ((d.confirmed < ticket) × IsPageFaultOf stage.mode Read cause) ⊎ (cause ≡ cause_at d.levels id)
      → (cause ≡ cause_at d.levels id) ⊎ ((d.confirmed < ticket) × RefusedFormerly stage cause)
  quarantined ticket stage cause ats (inl (pending, page)) = inr (pending, inl (ats, page))
  quarantined ticket stage cause ats (inr none) = inl none

  told_quarantined : (ticket : ℕ) (stage : Stages) (answer : Result Translation WalkFault) → attachment_by_id d.devices id ≡ Quarantined ticket stage → stage.ats ≡ true
      → IsAnswered sure d id address Read old answer new → Told answer
  told_quarantined ticket stage (Ok answer) is ats answered = (ap (λ a. has_ats (shown_attachment a)) is ∙ ats, answered)
  told_quarantined ticket stage (Err fault) is ats (faults, unchanged) = (
    subst (λ a. RefusedAs a d id address fault.cause) (sym is) (quarantined ticket stage fault.cause ats (subst (λ a. FaultsAs a d id address Read fault.cause) is faults)),
    unchanged,
  )

  left : (stage : Stages) (cause : Cause) → stage.ats ≡ true → IsPageFaultOf stage.mode Read cause ⊎ (cause ≡ cause_at d.levels id)
      → (cause ≡ cause_at d.levels id) ⊎ ((stage.ats ≡ true) × IsPageFaultOf stage.mode Read cause) ⊎ ((stage.ats ≡ false) × (cause ≡ TransactionTypeDisallowed))
  left stage cause ats (inl page) = inr (inl (ats, page))
  left stage cause ats (inr none) = inl none

  told_leaving : (ticket : ℕ) (stage : Stages) (answer : Result Translation WalkFault) → attachment_by_id d.devices id ≡ Leaving ticket stage → stage.ats ≡ true
      → IsAnswered sure d id address Read old answer new → Told answer
  told_leaving ticket stage (Ok answer) is ats answered = (ap (λ a. has_ats (shown_attachment a)) is ∙ ats, answered)
  told_leaving ticket stage (Err fault) is ats (faults, unchanged) = (
    subst (λ a. RefusedAs a d id address fault.cause) (sym is) (left stage fault.cause ats (subst (λ a. FaultsAs a d id address Read fault.cause) is faults)),
    unchanged,
  )

  -- by whether the context of its stages lets it through
  by_attached : (stage : Stages) (answer : Result Translation WalkFault) → attachment_by_id d.devices id ≡ Attached stage → (b : Bool) → stage.ats ≡ b
      → Served (if b then Ok (context_for stage) else Err TransactionTypeDisallowed) answer → Told answer
  by_attached stage answer is true ats served = told_attached stage answer is ats (of_attached laws parts events invariants own id address Read fits sure old new stage answer is served)
  by_attached stage answer is false none served =
      refused_for answer TransactionTypeDisallowed (subst (λ a. RefusedAs a d id address TransactionTypeDisallowed) (sym is) (inr (none, refl))) served.0 served.1

  by_quarantined : (ticket : ℕ) (stage : Stages) (answer : Result Translation WalkFault) → attachment_by_id d.devices id ≡ Quarantined ticket stage → IsPending parts.driver id → (b : Bool) → stage.ats ≡ b
      → Served (if b then Ok (context_for stage) else Err TransactionTypeDisallowed) answer → Told answer
  by_quarantined ticket stage answer is pending true ats served =
      told_quarantined ticket stage answer is ats (of_quarantined laws parts events invariants own id address Read fits sure old new ticket stage answer is pending served)
  by_quarantined ticket stage answer is pending false none served =
      refused_for answer TransactionTypeDisallowed (subst (λ a. RefusedAs a d id address TransactionTypeDisallowed) (sym is) (inr (pending ticket stage is, inr (none, refl)))) served.0 served.1

  by_leaving : (ticket : ℕ) (stage : Stages) (answer : Result Translation WalkFault) → attachment_by_id d.devices id ≡ Leaving ticket stage → (b : Bool) → stage.ats ≡ b
      → Served (if b then Ok (context_for stage) else Err TransactionTypeDisallowed) answer → Told answer
  by_leaving ticket stage answer is true ats served =
      told_leaving ticket stage answer is ats (of_leaving laws parts events invariants own id address Read fits sure old new ticket stage answer is served)
  by_leaving ticket stage answer is false none served =
      refused_for answer TransactionTypeDisallowed (subst (λ a. RefusedAs a d id address TransactionTypeDisallowed) (sym is) (inr (inr (none, refl)))) served.0 served.1

  -- by how the device is attached
  by_found : (a : Attachment) (found : Result Context Cause) (answer : Result Translation WalkFault) → attachment_by_id d.devices id ≡ a → FindsAts a parts.driver id found → Served found answer → Told answer
  by_found Detached found answer is none served =
      let by : Served (Err (cause_at d.levels id)) answer = subst (λ f. Served f answer) none served in
      refused_for answer (cause_at d.levels id) (subst (λ a. RefusedAs a d id address (cause_at d.levels id)) (sym is) refl) by.0 by.1
  by_found (Attached stage) found answer is finds served = by_attached stage answer is stage.ats refl (subst (λ f. Served f answer) finds served)
  by_found (Quarantined ticket stage) found answer is (inl none) served =
      let by : Served (Err (cause_at d.levels id)) answer = subst (λ f. Served f answer) none served in
      refused_for answer (cause_at d.levels id) (subst (λ a. RefusedAs a d id address (cause_at d.levels id)) (sym is) (inl refl)) by.0 by.1
  by_found (Quarantined ticket stage) found answer is (inr (pending, finds)) served =
      by_quarantined ticket stage answer is pending stage.ats refl (subst (λ f. Served f answer) finds served)
  by_found (Leaving ticket stage) found answer is (inl none) served =
      let by : Served (Err (cause_at d.levels id)) answer = subst (λ f. Served f answer) none served in
      refused_for answer (cause_at d.levels id) (subst (λ a. RefusedAs a d id address (cause_at d.levels id)) (sym is) (inl refl)) by.0 by.1
  by_found (Leaving ticket stage) found answer is (inr finds) served = by_leaving ticket stage answer is stage.ats refl (subst (λ f. Served f answer) finds served)

-- WHAT A QUESTION IS ANSWERED
pub outcome_of_done : {walks : List Walk} → ServiceLaws → (parts : Parts) (events : ℕ) → InvariantWith walks parts events → DriverInvariant parts.driver → (id address : ℕ) (sure : Bool) (old new : Translations)
    (answer : Result Translation WalkFault) → address < 2 ^ 64
    → ServesBy sure (ats_context_for parts.memory (registers_of parts.iommu) (contexts_of parts.iommu) id) parts.memory address Read old answer new
    → IsToldOf sure parts.driver id address old answer new
outcome_of_done laws parts events invariants own id address sure old new answer fits served =
    by_found laws parts events invariants own id address fits sure old new (attachment_by_id parts.driver.devices id) (ats_context_for parts.memory (registers_of parts.iommu) (contexts_of parts.iommu) id)
    answer refl (finds_ats laws parts events invariants own id) served
