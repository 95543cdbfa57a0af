-- What a request leaves of the context cache: it keeps the context of an attached device alone, as the directory has it.
use Rattle.std.proofs.Common.{zero, suc, ◌≡◌, ◌⊎◌, ◌∙◌, inl, inr, ℕ, true, is_some, Option, Some, None, Result, option_map, refl, sym, ap, subst, arith, List}
use Rattle.std.proofs.lemmas.Bool.{false≢true}
use Rattle.std.proofs.lemmas.Bool.Decides.{eqb_tells}
use Rattle.iom_walk_coherence.specs.Walks.{Walk}
use Rattle.iom_base.specs.declared.cause.Cause.{Cause}
use Rattle.iom_device_dir.specs.declared.context.Context.{Context}
use Rattle.iom_device_dir.specs.Contents.{Content, IsSameContent, KeepsOne}
use Rattle.iom_device_dir.specs.Located.{located_context}
use Rattle.iom_driver.specs.declared.device.Attachment.{Attachment}
use Rattle.iom_driver.specs.declared.device.Attachment.TheVariants.{Detached, Attached, Quarantined, Leaving}
use Rattle.iom_driver.specs.declared.device.Stages.{Stages}
use Rattle.iom_driver.specs.Devices.{attachment_by_id, owned_stages_of, attached_stages, owned_stages}
use Rattle.iom_driver.specs.Directory.{context_for, mode_of}
use Rattle.iom_driver.specs.Layout.{IsLevels}
use Rattle.iom_iommu.specs.Parts.{registers_of, contexts_of}
use Rattle.iom_iommu.specs.Service.{KeepsContext, KeepsIn, KeepsLocated}
use Rattle.iom_world_effects.specs.Parts.{Parts}
use Rattle.iom_world_effects.specs.Invariant.{InvariantWith, ContextsAreTrue}
use Rattle.iom_world_effects.proofs.DriverLemmas.{DriverInvariant}
use Rattle.iom_world_effects.proofs.ServedLemmas.{ServiceLaws, located, located_as}

-- nothing changes, or the context of an attached device is kept
abbrev pub KeepsAttached : Attachment → ℕ → Content ℕ Context → Content ℕ Context → Type 0
KeepsAttached a id old new = IsSameContent old new ⊎ ((stage : Stages) × (a ≡ Attached stage) × KeepsOne old id (context_for stage) new)

keeps_in : (levels : ℕ) → IsLevels levels → (cached : Option Context) (found : Result Context Cause) (old : Content ℕ Context) (id : ℕ) (new : Content ℕ Context)
    → KeepsIn (mode_of levels) cached found old id new → KeepsLocated cached found old id new
keeps_in zero range cached found old id new is = absurd (let low = range.0 in omega (arith, low))
keeps_in (suc zero) range cached found old id new is = is
keeps_in (suc (suc zero)) range cached found old id new is = is
keeps_in (suc (suc (suc zero))) range cached found old id new is = is
keeps_in (suc (suc (suc (suc n)))) range cached found old id new is = absurd (let high = range.1 in omega (arith, high))

by_attachment : (levels id : ℕ) (a : Attachment) (cached : Option Context) (old new : Content ℕ Context) → KeepsLocated cached (located_as levels id (attached_stages a)) old id new → KeepsAttached a id old new
by_attachment levels id a (Some context) old new keeps = inl keeps
by_attachment levels id Detached None old new keeps = inl keeps
by_attachment levels id (Attached stage) None old new keeps = inr (stage, refl, keeps)
by_attachment levels id (Quarantined ticket stage) None old new keeps = inl keeps
by_attachment levels id (Leaving ticket stage) None old new keeps = inl keeps

pub keeps_attached : {walks : List Walk} → ServiceLaws → (parts : Parts) (events : ℕ) → InvariantWith walks parts events → DriverInvariant parts.driver → (id : ℕ) (new : Content ℕ Context)
    → KeepsContext parts.memory (registers_of parts.iommu) (contexts_of parts.iommu) id new → KeepsAttached (attachment_by_id parts.driver.devices id) id (contexts_of parts.iommu) new
keeps_attached laws parts events invariants own id new keeps =
    let names = invariants.ready.directory invariants.started in
    let levels = parts.driver.levels in
    let old = contexts_of parts.iommu in
    let found = located_context parts.memory (registers_of parts.iommu).ddtp id in
    by_attachment levels id (attachment_by_id parts.driver.devices id) (old id) old new
    (subst (λ f. KeepsLocated (old id) f old id new) (located laws parts events invariants own id)
    (keeps_in levels own.sizes.in_range (old id) found old id new
    (subst (λ m. KeepsIn m (old id) found old id new) names.mode keeps)))

-- what is cached then was, or is the device's
pub cached_or : (a : Attachment) (id : ℕ) (old new : Content ℕ Context) → KeepsAttached a id old new → (d : ℕ) → is_some (new d) ≡ true → (is_some (old d) ≡ true) ⊎ (d ≡ id)
cached_or a id old new (inl same) d there = inl (ap is_some (sym (same d)) ∙ there)
cached_or a id old new (inr (stage, is, inr none)) d there = inl (ap is_some (sym (none.1 d)) ∙ there)
cached_or a id old new (inr (stage, is, inl (here, lost, others))) d there = elim (eqb_tells d id) [
  | inl e ↦ inr e.1
  | inr ne ↦ elim (others d ne.1) [
    | inl same ↦ inl (ap is_some (sym same) ∙ there)
    | inr gone ↦ absurd (false≢true (sym (ap is_some gone.1) ∙ there))
  ]
]

-- and each is true
contexts_true : (old : Parts) (id : ℕ) (new : Content ℕ Context) → ContextsAreTrue old → KeepsAttached (attachment_by_id old.driver.devices id) id (contexts_of old.iommu) new
    → (d : ℕ) (context : Context) → new d ≡ Some context → option_map context_for (owned_stages_of old.driver.devices d) ≡ Some context
contexts_true old id new are (inl same) d context at = are d context (sym (same d) ∙ at)
contexts_true old id new are (inr (stage, is, inr none)) d context at = are d context (sym (none.1 d) ∙ at)
contexts_true old id new are (inr (stage, is, inl (here, lost, others))) d context at = elim (eqb_tells d id) [
  | inl e ↦
      ap (λ n. option_map context_for (owned_stages_of old.driver.devices n)) e.1 ∙ ap (λ a. option_map context_for (owned_stages a)) is
      ∙ sym here ∙ ap (λ n. new n) (sym e.1) ∙ at
  | inr ne ↦ elim (others d ne.1) [
    | inl same ↦ are d context (sym same ∙ at)
    | inr gone ↦ absurd (none_some (sym gone.1 ∙ at))
  ]
]
  where
    none_some : ◌≡◌ {A = Option Context} None (Some context) → ⊥
    none_some same = cc

pub contexts_kept : (old new : Parts) (id : ℕ) → ContextsAreTrue old → KeepsAttached (attachment_by_id old.driver.devices id) id (contexts_of old.iommu) (contexts_of new.iommu)
    → new.driver ≡ old.driver → ContextsAreTrue new
contexts_kept old new id are keeps driver = λ d context at. rw driver (contexts_true old id (contexts_of new.iommu) are keeps d context at)
