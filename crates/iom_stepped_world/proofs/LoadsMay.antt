-- Where requests that are under way make their loads.
use Rattle.std.proofs.Common.{◌<◌, ◌∙◌, ℕ, List, subst, sym}
use Rattle.std.proofs.Math.Logic.{∥∥₁_map}
use Rattle.iom_coherence.specs.Holdings.{SayTheSame}
use Rattle.iom_coherence.specs.Scene.{Scene}
use Rattle.iom_machine.specs.declared.state.State.{State}
use Rattle.iom_stepped_world.specs.Loads.{GuestTablesMayBeRead, LoadWhereTheyMay}
use Rattle.iom_walk_coherence.specs.Walks.{Walk}
use Rattle.iom_walk_coherence.proofs.LawLemmas.{guest_tables_may_be_read, walks_are_of_all_histories}
use Rattle.iom_walks.specs.Walks.{WalkRow}
use Rattle.iom_world_effects.specs.Invariant.{InvariantWith}
use Rattle.iom_world_effects.specs.Parts.{Parts}
use Rattle.iom_world_effects.specs.Read.{values_of}
use Rattle.iom_world_effects.specs.Scenes.{FactsHold, IsSceneOf}
use Rattle.iom_world_effects.specs.Shows.{PartsShow}
use Rattle.iom_world_effects.proofs.HistoryMay.{facts_of_history}
use Rattle.iom_world_walks.specs.Invariant.{SteppedInvariant}

module _ (parts : Parts) (events : ℕ) (state : State) (shows : PartsShow parts state) where
  -- by the facts on walks of a scene, which are those of the state's history too
  module _ {walks : List Walk} (scene : Scene) (is : IsSceneOf (values_of parts) scene) (facts : FactsHold scene walks) where
    abbrev there : Scene
    there = record scene { history = state.history }

    -- with both the driver's ledger agrees
    same : SayTheSame scene.history state.history
    same device page =
        let was = is.ledger.pages device page in
        let now = shows.ledger.pages device page in (now.holds ∙ sym was.holds, now.lingers ∙ sym was.lingers)

    guests_may : GuestTablesMayBeRead walks state.history
    guests_may id frame stands =
        (guest_tables_may_be_read (record { scene = there; walks = walks }) id frame (
          facts_of_history parts.driver.ledger scene state.history is.ledger shows.ledger (λ ticket later. shows.none_later ticket (subst (λ n. n < ticket) is.confirmed later)) facts.copies,
          walks_are_of_all_histories (record { scene = scene; walks = walks }) state.history facts.standing same,
        ) stands).1

  pub loads_may : (rows : List WalkRow) → SteppedInvariant parts rows events → LoadWhereTheyMay parts rows state.history
  loads_may rows (walks, invariants, stand) =
      ∥∥₁_map invariants.copies (λ (scene, is, facts). (walks, stand, guests_may scene is facts))
