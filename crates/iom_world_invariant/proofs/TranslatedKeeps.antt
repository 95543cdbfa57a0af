-- What stays true of a world when a raw device says of a request that it is translated: no context lets it through, and no copy outlives what it copies.
use Rattle.std.proofs.Common.{◌≡◌, ◌<◌, ◌⊎◌, ◌∙◌, inl, inr, ℕ, Bool, true, false, Some, Result, Ok, Err, refl, sym, ap, subst, if◌then◌else◌, List}
use Rattle.std.proofs.lemmas.Bool.{false≢true}
use Rattle.std.proofs.lemmas.Grind.{not_there}
use Rattle.iom_walk_coherence.specs.Walks.{Walk}
use Rattle.iom_base.specs.declared.access.Access.{Access}
use Rattle.iom_base.specs.declared.cause.Cause.{Cause}
use Rattle.iom_base.specs.declared.cause.Cause.TheVariants.{TransactionTypeDisallowed}
use Rattle.iom_coherence.specs.Attachments.{has_ats, caches_translations}
use Rattle.iom_device_dir.specs.declared.context.Context.{Context}
use Rattle.iom_driver.specs.declared.device.Attachment.{Attachment}
use Rattle.iom_driver.specs.declared.device.Attachment.TheVariants.{Detached, Attached, Quarantined, Leaving}
use Rattle.iom_driver.specs.Devices.{attachment_by_id}
use Rattle.iom_driver.specs.Directory.{context_for}
use Rattle.iom_driver.specs.State.{DriverState}
use Rattle.iom_iommu.specs.declared.reply.Reply.{Reply}
use Rattle.iom_iommu.specs.declared.reply.Reply.TheVariants.{Accepted, Busy, BadSpan, Fault}
use Rattle.iom_iommu.specs.Parts.{registers_of, contexts_of, flights_of}
use Rattle.iom_iommu.specs.Service.{ats_context_for}
use Rattle.iom_iommu.specs.Translated.{AnswersTranslated, AcceptsTranslated, physical_page}
use Rattle.iom_machine.specs.declared.outcome.Outcome.{Outcome}
use Rattle.iom_base.specs.declared.device_kind.DeviceKind.{DeviceKind}
use Rattle.iom_base.specs.declared.device_kind.DeviceKind.TheVariants.{Raw, Ats, Block, CachedBlock}
use Rattle.iom_base.specs.DeviceKinds.{forges, has_cache}
use Rattle.iom_machine.specs.Translated.{MayLackContext}
use Rattle.iom_stage_walk.specs.declared.walked.WalkFault.{WalkFault}
use Rattle.iom_stage_walk.specs.Both.{plain}
use Rattle.iom_tlb.specs.declared.trans_cache.Translation.{Translation}
use Rattle.iom_device.specs.Caches.{kind_in}
use Rattle.iom_world_effects.specs.Devices.{shown_attachment}
use Rattle.iom_world_effects.specs.Parts.{Parts}
use Rattle.iom_world_effects.specs.Requests.{AsksTranslated}
use Rattle.iom_world_effects.specs.Invariant.{InvariantWith}
use Rattle.iom_world_effects.proofs.AtsContexts.{FindsAts, finds_ats}
use Rattle.iom_world_effects.proofs.DriverLemmas.{DriverInvariant}
use Rattle.iom_world_effects.proofs.PartsLemmas.{StaysReady, StaysReported}
use Rattle.iom_world_invariant.proofs.RequestKeeps.{keeps_refused, keeps_same}
use Rattle.iom_world_effects.proofs.ServedLemmas.{ServiceLaws, cause_at}

-- a device that forges has no cache of its own
pub forges_uncached : (kind : DeviceKind) → forges kind ≡ true → has_cache kind ≡ false
forges_uncached Raw is = refl
forges_uncached Ats is = absurd (false≢true is)
forges_uncached Block is = absurd (false≢true is)
forges_uncached CachedBlock is = absurd (false≢true is)

-- and one without a cache was never attached with ATS
pub uncached_plain : {walks : List Walk} (parts : Parts) (events id : ℕ) (kind : DeviceKind) → InvariantWith walks parts events → kind_in parts.devices id ≡ Some kind → has_cache kind ≡ false
    → has_ats (shown_attachment (attachment_by_id parts.driver.devices id)) ≡ false
uncached_plain parts events id kind invariants there uncached = by (has_ats (shown_attachment (attachment_by_id parts.driver.devices id))) refl
  where
    by : (b : Bool) → has_ats (shown_attachment (attachment_by_id parts.driver.devices id)) ≡ b → has_ats (shown_attachment (attachment_by_id parts.driver.devices id)) ≡ false
    by false is = is
    by true is = absurd (not_there invariants.copies (λ (scene, shown, facts).
        false≢true (sym uncached ∙ sym (ap caches_translations (shown.kinds id ∙ there)) ∙ facts.copies.order.cached id (ap has_ats (shown.attachments id) ∙ is))))

-- the cause for which no context lets a request through that is of ATS
abbrev pub IsNotLet : Attachment → ℕ → ℕ → Cause → Type 0
IsNotLet a levels id cause = (cause ≡ TransactionTypeDisallowed) ⊎ (MayLackContext (shown_attachment a) × (cause ≡ cause_at levels id))

not_let_by : (a : Attachment) (d : DriverState) (id : ℕ) (found : Result Context Cause) → has_ats (shown_attachment a) ≡ false → FindsAts a d id found
    → (cause : Cause) × (found ≡ Err cause) × IsNotLet a d.levels id cause
not_let_by Detached d id found plain_one is = (cause_at d.levels id, is, inr (tt, refl))
not_let_by (Attached stage) d id found plain_one is =
    (TransactionTypeDisallowed, is ∙ ap (λ (b : Bool). if b then Ok (context_for stage) else Err TransactionTypeDisallowed) plain_one, inl refl)
not_let_by (Quarantined ticket stage) d id found plain_one (inl is) = (cause_at d.levels id, is, inr (tt, refl))
not_let_by (Quarantined ticket stage) d id found plain_one (inr (pending, is)) =
    (TransactionTypeDisallowed, is ∙ ap (λ (b : Bool). if b then Ok (context_for stage) else Err TransactionTypeDisallowed) plain_one, inl refl)
not_let_by (Leaving ticket stage) d id found plain_one (inl is) = (cause_at d.levels id, is, inr (tt, refl))
not_let_by (Leaving ticket stage) d id found plain_one (inr is) =
    (TransactionTypeDisallowed, is ∙ ap (λ (b : Bool). if b then Ok (context_for stage) else Err TransactionTypeDisallowed) plain_one, inl refl)

-- WHAT A FORGED REQUEST FINDS
pub not_let : {walks : List Walk} → ServiceLaws → (parts : Parts) (events id : ℕ) (kind : DeviceKind) → InvariantWith walks parts events → DriverInvariant parts.driver → kind_in parts.devices id ≡ Some kind → forges kind ≡ true
    → (cause : Cause) × (ats_context_for parts.memory (registers_of parts.iommu) (contexts_of parts.iommu) id ≡ Err cause)
    × IsNotLet (attachment_by_id parts.driver.devices id) parts.driver.levels id cause
not_let laws parts events id kind invariants own there able =
    not_let_by (attachment_by_id parts.driver.devices id) parts.driver id (ats_context_for parts.memory (registers_of parts.iommu) (contexts_of parts.iommu) id)
    (uncached_plain parts events id kind invariants there (forges_uncached kind able)) (finds_ats laws parts events invariants own id)

-- so it is never accepted
pub never_accepted : (old : Parts) (id : ℕ) (access : Access) (number : ℕ) (new : Parts) (cause : Cause)
    → ats_context_for old.memory (registers_of old.iommu) (contexts_of old.iommu) id ≡ Err cause → ¬ AcceptsTranslated old.memory old.iommu id access number new.iommu
never_accepted old id access number new cause found call =
    ok_err (record { frame = call.frame; rights = call.rights; order = call.order }) (plain cause)
    (call.served.0 ∙ ap (λ (f : Result Context Cause). physical_page f old.memory access.address access.kind) found)
  where
    ok_err : (translation : Translation) (fault : WalkFault) → ◌≡◌ {A = Result Translation WalkFault} (Ok translation) (Err fault) → ⊥
    ok_err translation fault same = cc

pub keeps_translated : {walks : List Walk} → ServiceLaws → (old new : Parts) (events id : ℕ) (access : Access) (answer : Outcome) → InvariantWith walks old events → DriverInvariant old.driver → StaysReady old.driver
    → StaysReported old.driver → (flights_of old.iommu).so_far < events → AsksTranslated old id access answer new → InvariantWith walks new events
keeps_translated {walks = walks} laws old new events id access answer invariants own unchanged reported below asks = elim asks [
  | inl unknown ↦ subst (λ parts. InvariantWith walks parts events) (sym unknown.same) invariants
  | inr (inl unable) ↦ subst (λ parts. InvariantWith walks parts events) (sym unable.same) invariants
  | inr (inr answered) ↦
      let found = not_let laws old events id answered.0.0 invariants own answered.0.1 answered.0.2 in
      by found.0 found.1 answered.1.driver answered.1.devices answered.1.fabric answered.1.reply answered.1.call
]
  where
    by : (cause : Cause) → ats_context_for old.memory (registers_of old.iommu) (contexts_of old.iommu) id ≡ Err cause → new.driver ≡ old.driver → new.devices ≡ old.devices → new.fabric ≡ old.fabric
        → (reply : Reply) → AnswersTranslated old.memory old.iommu id access reply new.memory new.iommu → InvariantWith walks new events
    by why found driver devices fabric (Accepted number) call = absurd (never_accepted old id access number new why found call.0)
    by why found driver devices fabric Busy call = keeps_same laws old new events id access invariants own unchanged reported driver devices fabric below call.3 call.2
    by why found driver devices fabric BadSpan call = keeps_same laws old new events id access invariants own unchanged reported driver devices fabric below call.2 call.1
    by why found driver devices fabric (Fault cause) call =
        keeps_refused laws old new events id access invariants own unchanged reported driver devices fabric below cause call call.served.1
