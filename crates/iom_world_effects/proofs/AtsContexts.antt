-- What a question or a translated request finds of its device's context in a sound world, by how the device is attached.
use Rattle.std.proofs.Common.{zero, suc, ◌≡◌, ◌⊎◌, ◌∙◌, inl, inr, ℕ, Bool, true, is_some, Option, None, Some, Result, Ok, Err, option_map, refl, sym, ap, subst, arith, if◌then◌else◌, List}
use Rattle.iom_walk_coherence.specs.Walks.{Walk}
use Rattle.iom_base.specs.declared.cause.Cause.{Cause}
use Rattle.iom_base.specs.declared.cause.Cause.TheVariants.{TransactionTypeDisallowed}
use Rattle.iom_base.specs.declared.mode.Mode.{Mode}
use Rattle.iom_base.specs.declared.mode.Mode.TheVariants.{First, Second, Both}
use Rattle.iom_device_dir.specs.declared.context.Context.{Context}
use Rattle.iom_driver.specs.declared.device.Attachment.{Attachment}
use Rattle.iom_driver.specs.declared.device.Attachment.TheVariants.{Detached, Attached, Quarantined, Leaving}
use Rattle.iom_driver.specs.declared.device.Stages.{Stages}
use Rattle.iom_driver.specs.Devices.{attachment_by_id, attached_stages, owned_stages, stages_of, owned_stages_of}
use Rattle.iom_driver.specs.Directory.{context_in, context_for, mode_of}
use Rattle.iom_driver.specs.Layout.{IsLevels}
use Rattle.iom_driver.specs.State.{DriverState}
use Rattle.iom_iommu.specs.Parts.{registers_of, contexts_of}
use Rattle.iom_iommu.specs.Service.{found_context, context_or_cause, letting_ats, ats_context_in, ats_context_for}
use Rattle.iom_world_effects.specs.Parts.{Parts}
use Rattle.iom_world_effects.specs.Invariant.{InvariantWith}
use Rattle.iom_world_effects.proofs.QuarantinedLemmas.{IsPending, pending_cached}
use Rattle.iom_world_effects.proofs.DriverLemmas.{DriverInvariant}
use Rattle.iom_world_effects.proofs.ServedLemmas.{ServiceLaws, cause_at, located_as, found_as}

-- the context of these stages, where they have ATS
abbrev pub ats_context : Stages → Result Context Cause
ats_context stage = if stage.ats then Ok (context_for stage) else Err TransactionTypeDisallowed

-- by how the device is attached
abbrev pub FindsAts : Attachment → DriverState → ℕ → Result Context Cause → Type 0
FindsAts Detached d id found = found ≡ Err (cause_at d.levels id)
FindsAts (Attached stage) d id found = found ≡ ats_context stage
FindsAts (Quarantined ticket stage) d id found = (found ≡ Err (cause_at d.levels id)) ⊎ (IsPending d id × (found ≡ ats_context stage))
FindsAts (Leaving ticket stage) d id found = (found ≡ Err (cause_at d.levels id)) ⊎ (found ≡ ats_context stage)

-- the directory is on
ats_in : (levels : ℕ) → IsLevels levels → (found : Result Context Cause) → ats_context_in (mode_of levels) found ≡ letting_ats found
ats_in zero range found = absurd (let low = range.0 in omega (arith, low))
ats_in (suc zero) range found = refl
ats_in (suc (suc zero)) range found = refl
ats_in (suc (suc (suc zero))) range found = refl
ats_in (suc (suc (suc (suc n)))) range found = absurd (let high = range.1 in omega (arith, high))

-- EN_ATS is as the device was attached
en_ats_is : (mode : Mode) (root number : ℕ) (ats : Bool) → (context_in mode root number ats).en_ats ≡ ats
en_ats_is (First size) root number ats = refl
en_ats_is (Second size) root number ats = refl
en_ats_is (Both size) root number ats = refl

letting : (stage : Stages) → letting_ats (Ok (context_for stage)) ≡ ats_context stage
letting stage = ap (λ (b : Bool). if b then Ok (context_for stage) else Err TransactionTypeDisallowed) (en_ats_is stage.mode stage.root stage.number stage.ats)

-- a cached one is that of the stages that the device owns
cached_ats : (stage : Stages) (context : Context) → option_map context_for (Some stage) ≡ Some context → letting_ats (Ok context) ≡ ats_context stage
cached_ats stage context both = let same : context ≡ context_for stage = cc in ap (λ (c : Context). letting_ats (Ok c)) same ∙ letting stage

by_attachment : (d : DriverState) (id : ℕ) (a : Attachment) (cached : Option Context) → ((context : Context) → cached ≡ Some context → option_map context_for (owned_stages a) ≡ Some context)
    → (is_some cached ≡ true → IsPending d id) → FindsAts a d id (letting_ats (found_context cached (located_as d.levels id (attached_stages a))))
by_attachment d id Detached None true_for pends = refl
by_attachment d id Detached (Some context) true_for pends = let never = true_for context refl in cc
by_attachment d id (Attached stage) None true_for pends = letting stage
by_attachment d id (Attached stage) (Some context) true_for pends = cached_ats stage context (true_for context refl)
by_attachment d id (Quarantined ticket stage) None true_for pends = inl refl
by_attachment d id (Quarantined ticket stage) (Some context) true_for pends = inr (pends refl, cached_ats stage context (true_for context refl))
by_attachment d id (Leaving ticket stage) None true_for pends = inl refl
by_attachment d id (Leaving ticket stage) (Some context) true_for pends = inr (cached_ats stage context (true_for context refl))

-- WHAT IS FOUND
found_for : {walks : List Walk} → ServiceLaws → (parts : Parts) (events : ℕ) → InvariantWith walks parts events → DriverInvariant parts.driver → (id : ℕ)
    → ats_context_for parts.memory (registers_of parts.iommu) (contexts_of parts.iommu) id
    ≡ letting_ats (found_context (contexts_of parts.iommu id) (located_as parts.driver.levels id (stages_of parts.driver.devices id)))
found_for laws parts events invariants own id =
    let found = context_or_cause parts.memory (registers_of parts.iommu) (contexts_of parts.iommu) id in
    ap (λ m. ats_context_in m found) (invariants.ready.directory invariants.started).mode ∙ ats_in parts.driver.levels own.sizes.in_range found ∙ ap letting_ats (found_as laws parts events invariants own id)

pub finds_ats : {walks : List Walk} → ServiceLaws → (parts : Parts) (events : ℕ) → InvariantWith walks parts events → DriverInvariant parts.driver → (id : ℕ)
    → FindsAts (attachment_by_id parts.driver.devices id) parts.driver id (ats_context_for parts.memory (registers_of parts.iommu) (contexts_of parts.iommu) id)
finds_ats laws parts events invariants own id =
    subst (FindsAts (attachment_by_id parts.driver.devices id) parts.driver id) (sym (found_for laws parts events invariants own id))
    (by_attachment parts.driver id (attachment_by_id parts.driver.devices id) (contexts_of parts.iommu id) (λ context is. invariants.contexts id context is)
    (λ there. pending_cached parts events invariants id there))

-- of a device that isn't attached only a cached context is found
module _ {walks : List Walk} (laws : ServiceLaws) (parts : Parts) (events : ℕ) (invariants : InvariantWith walks parts events) (own : DriverInvariant parts.driver) (id : ℕ) (away : stages_of parts.driver.devices id ≡ None) where
  found_away : (cached : Option Context) → contexts_of parts.iommu id ≡ cached
      → ats_context_for parts.memory (registers_of parts.iommu) (contexts_of parts.iommu) id ≡ letting_ats (found_context cached (Err (cause_at parts.driver.levels id)))
  found_away cached at =
      found_for laws parts events invariants own id
      ∙ ap (λ s. letting_ats (found_context (contexts_of parts.iommu id) (located_as parts.driver.levels id s))) away
      ∙ ap (λ c. letting_ats (found_context c (Err (cause_at parts.driver.levels id)))) at

  pub finds_none : contexts_of parts.iommu id ≡ None → ats_context_for parts.memory (registers_of parts.iommu) (contexts_of parts.iommu) id ≡ Err (cause_at parts.driver.levels id)
  finds_none at = found_away None at

  pub finds_cached : (stage : Stages) → owned_stages_of parts.driver.devices id ≡ Some stage → (context : Context) → contexts_of parts.iommu id ≡ Some context
      → ats_context_for parts.memory (registers_of parts.iommu) (contexts_of parts.iommu) id ≡ ats_context stage
  finds_cached stage owned context at = found_away (Some context) at ∙ cached_ats stage context (ap (option_map context_for) (sym owned) ∙ invariants.contexts id context at)
