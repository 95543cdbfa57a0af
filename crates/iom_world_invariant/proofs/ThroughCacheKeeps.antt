-- What stays true of a world when a device has an access through its own cache: what goes through is an entry there, and so no copy outlives what it copies.
use Rattle.std.proofs.Common.{◌≡◌, ◌<◌, ◌∙◌, inl, inr, ℕ, Bool, Option, None, Some, Result, Ok, Contains, is_some, refl, sym, ap, subst, List}
use Rattle.iom_walk_coherence.specs.Walks.{Walk}
use Rattle.iom_base.specs.declared.access.Access.{Access}
use Rattle.iom_base.specs.Accesses.{page_of, at_frame}
use Rattle.std.proofs.lemmas.Bool.{false≢true}
use Rattle.iom_coherence.specs.Copies.{IsInUse}
use Rattle.iom_coherence.specs.Scene.{Scene}
use Rattle.iom_driver.specs.Devices.{attachment_by_id, attached_stages}
use Rattle.iom_iommu.specs.declared.reply.Reply.{Reply}
use Rattle.iom_iommu.specs.declared.reply.Reply.TheVariants.{Accepted, Busy, BadSpan, Fault}
use Rattle.iom_iommu.specs.Parts.{contexts_of, translations_of, flights_of}
use Rattle.iom_iommu.specs.Translated.{AnswersTranslated, AcceptsTranslated}
use Rattle.iom_machine.specs.declared.outcome.Outcome.{Outcome}
use Rattle.iom_base.specs.declared.device_kind.DeviceKind.{DeviceKind}
use Rattle.iom_machine.specs.Refusals.{is_quarantined}
use Rattle.iom_stage_walk.specs.declared.walked.WalkFault.{WalkFault}
use Rattle.iom_tlb.specs.declared.trans_cache.Translation.{Translation}
use Rattle.iom_world_effects.specs.Parts.{Parts}
use Rattle.iom_world_effects.specs.Read.{values_of}
use Rattle.iom_world_effects.specs.Scenes.{copy_of, IsSceneOf}
use Rattle.iom_world_effects.specs.Invariant.{InvariantWith}
use Rattle.iom_world_effects.specs.ThroughCache.{DeviceAsksThroughCache, TriesCache, FindsFrame, cached_frame}
use Rattle.iom_world_effects.specs.Traffic.{Traffic}
use Rattle.iom_world_effects.specs.Devices.{shown_attachment}
use Rattle.iom_world_effects.proofs.AtsContexts.{finds_none}
use Rattle.iom_world_invariant.proofs.ContextKeeps.{KeepsAttached, keeps_attached}
use Rattle.iom_world_effects.proofs.DriverLemmas.{DriverInvariant}
use Rattle.iom_world_effects.proofs.EntryMay.{HasEntry, IsUsable, found_entry, usable_or, used_by, entry_page}
use Rattle.iom_world_effects.proofs.PartsLemmas.{StaysReady, StaysReported}
use Rattle.iom_world_invariant.proofs.RequestKeeps.{cached_so, keeps_accepted, keeps_refused, keeps_same}
use Rattle.iom_world_effects.proofs.SceneSteps.{HasSource}
use Rattle.iom_world_effects.proofs.ServedLemmas.{ServiceLaws, cause_at}
use Rattle.iom_world_invariant.proofs.TranslatedKeeps.{never_accepted}

-- an access that is accepted is on the frame of the entry
pub accepted_frame : {walks : List Walk} → ServiceLaws → (old new : Parts) (events id : ℕ) (access : Access) (frame number : ℕ) → InvariantWith walks old events → DriverInvariant old.driver
    → HasEntry old.devices id (page_of access) access.kind frame → IsUsable old id → (call : AcceptsTranslated old.memory old.iommu id (at_frame frame access) number new.iommu) → call.frame ≡ frame
accepted_frame laws old new events id access frame number invariants own entry usable call =
    ok_frame (record { frame = call.frame; rights = call.rights; order = call.order }) _ (call.served.0 ∙ entry_page old events id access frame invariants own entry usable laws)
  where
    ok_frame : (x y : Translation) → ◌≡◌ {A = Result Translation WalkFault} (Ok x) (Ok y) → x.frame ≡ y.frame
    ok_frame x y same = cc

module _ {walks : List Walk} (laws : ServiceLaws) (old new : Parts) (events id : ℕ) (access : Access) (answer : Outcome) (invariants : InvariantWith walks old events) (own : DriverInvariant old.driver) (unchanged : StaysReady old.driver)
    (reported : StaysReported old.driver) (below : (flights_of old.iommu).so_far < events) where
  stays_as : new ≡ old → InvariantWith walks new events
  stays_as same = subst (λ parts. InvariantWith walks parts events) (sym same) invariants

  -- a context that is cached of a device that is quarantined stays
  used_still : IsUsable old id → KeepsAttached (attachment_by_id old.driver.devices id) id (contexts_of old.iommu) (contexts_of new.iommu) → (scene : Scene)
      → IsSceneOf (cached_so (values_of old) (λ d. is_some (contexts_of new.iommu d)) (translations_of new.iommu)) scene → IsInUse scene id
  used_still usable keeps scene shown quarantined = by keeps
    where
      by : KeepsAttached (attachment_by_id old.driver.devices id) id (contexts_of old.iommu) (contexts_of new.iommu) → Contains scene.contexts id
      by (inl same) = used_by old id usable scene (shown.attachments id) (λ there. shown.contexts id (ap is_some (same id) ∙ there)) quarantined
      by (inr (stage, is, kept)) = absurd (false≢true (ap is_quarantined (sym (shown.attachments id ∙ ap shown_attachment is)) ∙ quarantined))

  -- whatever scene there is has the entry
  source : (frame : ℕ) → (entry : HasEntry old.devices id (page_of access) access.kind frame) → IsUsable old id
      → KeepsAttached (attachment_by_id old.driver.devices id) id (contexts_of old.iommu) (contexts_of new.iommu)
      → HasSource (cached_so (values_of old) (λ d. is_some (contexts_of new.iommu d)) (translations_of new.iommu)) (copy_of id (page_of access) (record { frame = frame; rights = entry.rights; order = 0 }))
  source frame entry usable keeps scene shown = inr (inr (
    subst (λ l. Contains l (copy_of id (page_of access) (record { frame = frame; rights = entry.rights; order = 0 }))) (sym (ap (λ (t : Traffic). t.entries) shown.traffic)) entry.there,
    used_still usable keeps scene shown,
  ))

  by_reply : (frame : ℕ) → HasEntry old.devices id (page_of access) access.kind frame → new.driver ≡ old.driver → new.devices ≡ old.devices → new.fabric ≡ old.fabric
      → (reply : Reply) → AnswersTranslated old.memory old.iommu id (at_frame frame access) reply new.memory new.iommu → InvariantWith walks new events
  by_reply frame entry driver devices fabric (Accepted number) call = elim (usable_or old id) [
    | inl usable ↦
        keeps_accepted laws old new events id (at_frame frame access) invariants own unchanged reported driver devices fabric below (page_of access) (record { frame = frame; rights = entry.rights; order = 0 })
        call.1 number call.0 (accepted_frame laws old new events id access frame number invariants own entry usable call.0) entry.allowed
        (inl (λ key translation at. sym (call.0.served.1 key) ∙ at))
        (source frame entry usable (keeps_attached laws old events invariants own id (contexts_of new.iommu) call.0.contexts))
    | inr (ticket, stage, is, none) ↦
        absurd (never_accepted old id (at_frame frame access) number new (cause_at old.driver.levels id) (finds_none laws old events invariants own id (ap attached_stages is) none) call.0)
  ]
  by_reply frame entry driver devices fabric Busy call =
      keeps_same laws old new events id (at_frame frame access) invariants own unchanged reported driver devices fabric below call.3 call.2
  by_reply frame entry driver devices fabric BadSpan call =
      keeps_same laws old new events id (at_frame frame access) invariants own unchanged reported driver devices fabric below call.2 call.1
  by_reply frame entry driver devices fabric (Fault cause) call =
      keeps_refused laws old new events id (at_frame frame access) invariants own unchanged reported driver devices fabric below cause call call.served.1

  by_frame : (found : Option ℕ) → cached_frame old id access ≡ found → FindsFrame found old id access answer new → InvariantWith walks new events
  by_frame None is misses = stays_as misses.1
  by_frame (Some frame) is answered =
      by_reply frame (found_entry old.devices id (page_of access) access.kind frame is) answered.driver answered.devices answered.fabric answered.reply answered.call

  tries : TriesCache old id access answer new → InvariantWith walks new events
  tries (inl outside) = stays_as outside.2
  tries (inr (inl full)) = stays_as full.3
  tries (inr (inr finds)) = by_frame (cached_frame old id access) refl finds.2

pub keeps_through_cache : {walks : List Walk} (can : DeviceKind → Bool) → ServiceLaws → (old new : Parts) (events id : ℕ) (access : Access) (answer : Outcome) → InvariantWith walks old events → DriverInvariant old.driver → StaysReady old.driver
    → StaysReported old.driver → (flights_of old.iommu).so_far < events → DeviceAsksThroughCache can old id access answer new → InvariantWith walks new events
keeps_through_cache {walks = walks} can laws old new events id access answer invariants own unchanged reported below asks = elim asks [
  | inl unknown ↦ subst (λ parts. InvariantWith walks parts events) (sym unknown.same) invariants
  | inr (inl unable) ↦ subst (λ parts. InvariantWith walks parts events) (sym unable.same) invariants
  | inr (inr tried) ↦ tries laws old new events id access answer invariants own unchanged reported below tried.1
]
