-- What a revival does to a scene: the facts on copies stay.
use Rattle.std.proofs.Common.{◌≡◌, ◌≤◌, ◌==◌, ◌∙◌, ℕ, Bool, true, List, Some, refl, sym, ap, subst, if◌then◌else◌}
use Rattle.iom_base.specs.declared.mode.Mode.{Mode}
use Rattle.iom_coherence.specs.Deliveries.{AreOthers, raised}
use Rattle.iom_coherence.specs.DriverCalls.{attachments_with}
use Rattle.iom_coherence.specs.Transitions.{Revive}
use Rattle.iom_coherence.specs.Scene.{Copy, Scene}
use Rattle.iom_coherence.proofs.ListLemmas.{same_function}
use Rattle.iom_walk_coherence.specs.Transitions.{AreOfOthers}
use Rattle.iom_walk_coherence.specs.Walks.{Walk}
use Rattle.iom_world_effects.proofs.FactsKept.{facts_kept}
use Rattle.iom_machine.specs.declared.state.Attachment.TheVariants.{Attached, Quarantined}
use Rattle.iom_tlb.specs.declared.space.Space.{Space}
use Rattle.iom_tlb.specs.declared.trans_cache.Translation.{Translation}
use Rattle.iom_tlb.specs.Content.{Key}
use Rattle.iom_world_effects.specs.Scenes.{Values, IsSceneOf, HasSceneWith}
use Rattle.iom_world_effects.specs.Traffic.{Traffic, under_way}
use Rattle.iom_world_effects.proofs.QueuedLemmas.{queued_still}
use Rattle.iom_world_effects.proofs.ResetScenes.{reset_traffic}
use Rattle.iom_world_effects.proofs.SceneCalls.{AttachesOne, attached_leaves}

-- A device that was quarantined under a ticket that is confirmed is attached as before, and reset. Nothing else changes, but that less may be cached.
pub record RevivesOne (old new : Values) (id : ℕ) (left : List Copy) : Type 0 where
  pub ticket : ℕ
  pub mode : Mode
  pub ats : Bool
  pub quarantined : old.attachment_of id ≡ Quarantined ticket mode ats
  pub done : ticket ≤ old.confirmed
  pub attached : AttachesOne old new id (Attached mode ats)
  pub others : AreOthers left id old.traffic.entries
  pub traffic : new.traffic ≡ reset_traffic old id left old.traffic
  pub ledger : new.ledger ≡ old.ledger
  pub address : new.address ≡ old.address
  pub waiting : new.waiting ≡ old.waiting
  pub completed : new.completed ≡ old.completed
  pub last_fence : new.last_fence ≡ old.last_fence
  pub fences : new.fence_of ≡ old.fence_of
  pub given : new.given ≡ old.given
  pub confirmed : new.confirmed ≡ old.confirmed
  pub so_far : new.so_far ≡ old.so_far
  pub in_flight : new.in_flight ≡ old.in_flight
  pub kinds : (d : ℕ) → new.kind_of d ≡ old.kind_of d
  pub contexts : (d : ℕ) → new.is_cached d ≡ true → old.is_cached d ≡ true
  pub spaces : (d : ℕ) (space : Space) → old.space_of d ≡ Some space → new.space_of d ≡ Some space
  pub translations : (key : Key) (translation : Translation) → new.translations key ≡ Some translation → old.translations key ≡ Some translation
  pub fence_snapshot : new.fence_snapshot ≡ old.fence_snapshot
  pub stopped : new.is_stopped ≡ old.is_stopped

-- the scene then
abbrev revived : Scene → ℕ → Mode → Bool → List Copy → Scene
revived scene id mode ats left = record scene {
  entries = left;
  epoch_of = raised scene.kind_of scene.epoch_of id;
  attachment_of = attachments_with scene.attachment_of id (Attached mode ats);
}

shows_revived : (old new : Values) (id : ℕ) (left : List Copy) (scene : Scene) → (revives : RevivesOne old new id left) → IsSceneOf old scene
    → IsSceneOf new (revived scene id revives.mode revives.ats left)
shows_revived old new id left scene revives shows = record {
  ledger = rw revives.ledger shows.ledger;
  waiting = rw (revives.address, revives.waiting) (queued_still old.address old.space_of new.space_of old.waiting scene.waiting (λ device space extent there own. revives.spaces device space own) shows.waiting);
  completed = shows.completed ∙ sym revives.completed;
  last_fence = shows.last_fence ∙ sym revives.last_fence;
  pending = rw (revives.given, revives.confirmed, revives.fences) shows.pending;
  given = shows.given ∙ sym revives.given;
  confirmed = shows.confirmed ∙ sym revives.confirmed;
  accepted = shows.accepted ∙ sym revives.so_far;
  in_flight = shows.in_flight ∙ sym revives.in_flight;
  kinds = λ d. shows.kinds d ∙ sym (revives.kinds d);
  attachments = λ d. ap (λ before. if id == d then Attached revives.mode revives.ats else before) (shows.attachments d) ∙ sym (revives.attached d);
  contexts = λ d is. shows.contexts d (revives.contexts d is);
  translations = λ key translation at.
      let was = shows.translations key translation (revives.translations key translation at) in
      record { device = was.device; own = revives.spaces was.device key.0 was.own; there = was.there };
  fence_snapshot = rw revives.fence_snapshot shows.fence_snapshot;
  leaving = attached_leaves old new scene id revives.mode revives.ats shows revives.attached revives.fences;
  traffic = ap (λ k. record (under_way scene) { entries = left; epoch_of = raised k scene.epoch_of id }) (same_function scene.kind_of old.kind_of shows.kinds)
      ∙ ap (reset_traffic old id left) shows.traffic ∙ sym revives.traffic;
  stopped = shows.stopped ∙ sym revives.stopped;
}

-- A DEVICE IS REVIVED
pub revival_scene : (old new : Values) (id : ℕ) (left : List Copy) → RevivesOne old new id left → (walks standing : List Walk) → AreOfOthers standing id walks
    → HasSceneWith old walks → HasSceneWith new standing
revival_scene old new id left revives walks standing of_others (scene, shows, facts) =
    let next = revived scene id revives.mode revives.ats left in (
      next,
      shows_revived old new id left scene revives shows,
      facts_kept (Revive id) scene next walks standing of_others facts (
        revives.ticket,
        revives.mode,
        revives.ats,
        left,
        shows.attachments id ∙ revives.quarantined,
        subst (λ (n : ℕ). revives.ticket ≤ n) (sym shows.confirmed) revives.done,
        subst (λ (t : Traffic). AreOthers left id t.entries) (sym shows.traffic) revives.others,
        refl,
      ),
    )
