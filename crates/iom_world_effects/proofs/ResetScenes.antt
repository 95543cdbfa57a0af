-- What a reset of a device does to a scene: the facts on copies stay.
use Rattle.std.proofs.Common.{◌≡◌, ◌∙◌, ℕ, List, sym, ap, subst}
use Rattle.iom_coherence.specs.Deliveries.{AreOthers, raised}
use Rattle.iom_coherence.specs.Transitions.{Reset}
use Rattle.iom_coherence.specs.Scene.{Copy}
use Rattle.iom_coherence.proofs.ListLemmas.{same_function}
use Rattle.iom_walk_coherence.specs.Transitions.{AreOfOthers}
use Rattle.iom_walk_coherence.specs.Walks.{Walk}
use Rattle.iom_world_effects.proofs.FactsKept.{facts_kept}
use Rattle.iom_world_effects.specs.Scenes.{Values, HasSceneWith}
use Rattle.iom_world_effects.specs.Traffic.{Traffic}
use Rattle.iom_world_effects.proofs.MessageScenes.{KeepsRest, with_traffic, shows_traffic}

-- the device's entries are gone, and its epoch is raised, if it has a cache
abbrev pub reset_traffic : Values → ℕ → List Copy → Traffic → Traffic
reset_traffic old id left traffic = record traffic { entries = left; epoch_of = raised old.kind_of traffic.epoch_of id }

-- A DEVICE IS RESET
pub reset_scene : (old new : Values) (id : ℕ) (left : List Copy) → KeepsRest old new → new.traffic ≡ reset_traffic old id left old.traffic
    → AreOthers left id old.traffic.entries → (walks standing : List Walk) → AreOfOthers standing id walks → HasSceneWith old walks → HasSceneWith new standing
reset_scene old new id left rest traffic others walks standing of_others (scene, shows, facts) =
    let next = with_traffic scene new.traffic in
    let kinds : old.kind_of ≡ scene.kind_of = same_function old.kind_of scene.kind_of (λ d. sym (shows.kinds d)) in (
      next,
      shows_traffic old new scene rest shows,
      facts_kept (Reset id) scene next walks standing of_others facts (
        left,
        subst (λ (t : Traffic). AreOthers left id t.entries) (sym shows.traffic) others,
        ap (with_traffic scene) (traffic ∙ ap (reset_traffic old id left) (sym shows.traffic))
            ∙ ap (λ k. record scene { entries = left; epoch_of = raised k scene.epoch_of id }) kinds,
      ),
    )
