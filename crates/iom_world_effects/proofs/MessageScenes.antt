-- What messages, the devices' caches and the open requests to invalidate do to a scene: the facts on copies stay.
use Rattle.std.proofs.Common.{◌≡◌, ◌⊎◌, ◌∙◌, inr, ℕ, true, List, Contains, refl, sym, ap, subst}
use Rattle.iom_coherence.specs.Among.{AreAmong, AreAmongWith}
use Rattle.iom_coherence.specs.Deliveries.{MayBeSent, raised}
use Rattle.iom_coherence.specs.Faithful.{IsFaithful}
use Rattle.iom_coherence.specs.Fetches.{AreOutside}
use Rattle.iom_coherence.specs.Queue.{Extent}
use Rattle.iom_coherence.specs.Transitions.{CarryMessages, DeliverAnswer, DeliverRequest, DeliverCompletion}
use Rattle.iom_coherence.specs.Scene.{AtsMessage, Answer, InvalidateRequest, InvalidateCompletion, Copy, Invalidation, Scene}
use Rattle.iom_coherence.proofs.ListLemmas.{same_function}
use Rattle.iom_walk_coherence.specs.Walks.{Walk}
use Rattle.iom_world_effects.proofs.FactsKept.{facts_kept}
use Rattle.iom_world_effects.specs.Scenes.{Values, IsSceneOf, HasSceneWith}
use Rattle.iom_world_effects.specs.Traffic.{Traffic, under_way}
use Rattle.iom_world_effects.proofs.SceneSteps.{KeepsGrants, CachesNoMore, scene_from}

-- nothing changes but what is under way to and from the devices' caches; less may be cached
pub record KeepsRest (old new : Values) : Type 0 where
  pub grants : KeepsGrants old new
  pub waiting : new.waiting ≡ old.waiting
  pub completed : new.completed ≡ old.completed
  pub fence_snapshot : new.fence_snapshot ≡ old.fence_snapshot
  pub so_far : new.so_far ≡ old.so_far
  pub in_flight : new.in_flight ≡ old.in_flight
  pub contexts : (d : ℕ) → new.is_cached d ≡ true → old.is_cached d ≡ true
  pub translations : CachesNoMore old new

-- the scene with this under way
abbrev pub with_traffic : Scene → Traffic → Scene
with_traffic scene traffic = record scene {
  entries = traffic.entries;
  epoch_of = traffic.epoch_of;
  messages = traffic.messages;
  slots = traffic.slots;
  last_serial = traffic.last_serial;
}

-- it is a scene of the values then
pub shows_traffic : (old new : Values) (scene : Scene) → KeepsRest old new → IsSceneOf old scene → IsSceneOf new (with_traffic scene new.traffic)
shows_traffic old new scene rest shows = scene_from old new scene (with_traffic scene new.traffic) rest.grants shows refl (record {
  waiting = rw rest.waiting shows.waiting;
  completed = shows.completed ∙ sym rest.completed;
  accepted = shows.accepted ∙ sym rest.so_far;
  in_flight = shows.in_flight ∙ sym rest.in_flight;
  contexts = λ d is. shows.contexts d (rest.contexts d is);
  translations = λ key translation at. shows.translations key translation (rest.translations key translation at);
  fence_snapshot = rw rest.fence_snapshot shows.fence_snapshot;
  leaving = shows.leaving;
  traffic = refl;
})

-- the values' own, by the scene's
own_traffic : (old : Values) (scene : Scene) (change : Traffic → Traffic) (new : Traffic) → IsSceneOf old scene → new ≡ change old.traffic
    → with_traffic scene new ≡ with_traffic scene (change (under_way scene))
own_traffic old scene change new shows is = ap (with_traffic scene) (is ∙ ap change (sym shows.traffic))

-- MESSAGES ARE SENT, lost, repeated and reordered
pub carry_scene : (old new : Values) (messages : List AtsMessage) → KeepsRest old new → new.traffic ≡ record old.traffic { messages = messages }
    → ((scene : Scene) → IsSceneOf old scene → IsFaithful scene → (message : AtsMessage) → Contains messages message → MayBeSent scene message ⊎ Contains scene.messages message)
    → (walks : List Walk) → HasSceneWith old walks → HasSceneWith new walks
carry_scene old new messages rest traffic may walks (scene, shows, facts) =
    let next = with_traffic scene new.traffic in (
      next,
      shows_traffic old new scene rest shows,
      facts_kept CarryMessages scene next walks walks refl facts (
        messages,
        may scene shows facts.copies,
        own_traffic old scene (λ (t : Traffic). record t { messages = messages }) new.traffic shows traffic,
      ),
    )

-- the scene's own
pub messages_as : (values : Values) (scene : Scene) (message : AtsMessage) → IsSceneOf values scene → Contains values.traffic.messages message → Contains scene.messages message
messages_as values scene message shows there = subst (λ (t : Traffic). Contains t.messages message) (sym shows.traffic) there

-- AN ANSWER IS KEPT, and is under way no more
pub keep_entry_scene : (old new : Values) (epoch : ℕ) (copy : Copy) (kept : List Copy) (messages : List AtsMessage) → KeepsRest old new
    → new.traffic ≡ record old.traffic { entries = kept; messages = messages } → Contains old.traffic.messages (Answer epoch copy) → epoch ≡ old.traffic.epoch_of copy.device
    → AreAmongWith kept copy old.traffic.entries → AreAmong messages old.traffic.messages → (walks : List Walk) → HasSceneWith old walks → HasSceneWith new walks
keep_entry_scene old new epoch copy kept messages rest traffic there current among fewer walks (scene, shows, facts) =
    let between : Scene = record scene { entries = kept } in
    let next = with_traffic scene new.traffic in
    let held = facts_kept (DeliverAnswer copy) scene between walks walks refl facts (
      epoch,
      kept,
      messages_as old scene (Answer epoch copy) shows there,
      current ∙ ap (λ (t : Traffic). t.epoch_of copy.device) (sym shows.traffic),
      subst (λ (t : Traffic). AreAmongWith kept copy t.entries) (sym shows.traffic) among,
      refl,
    ) in (
      next,
      shows_traffic old new scene rest shows,
      facts_kept CarryMessages between next walks walks refl held (
        messages,
        (λ message one. inr (messages_as old scene message shows (fewer message one))),
        own_traffic old scene (λ (t : Traffic). record t { entries = kept; messages = messages }) new.traffic shows traffic,
      ),
    )

-- A REQUEST TO INVALIDATE IS OBEYED, and the word that it is done is sent, or lost
pub obey_scene : (old new : Values) (invalidation : Invalidation) (extent : Extent) (left : List Copy) (messages : List AtsMessage) → KeepsRest old new
    → new.traffic ≡ record old.traffic { entries = left; epoch_of = raised old.kind_of old.traffic.epoch_of invalidation.device; messages = messages }
    → Contains old.traffic.messages (InvalidateRequest invalidation extent) → AreOutside left invalidation.device extent old.traffic.entries
    → AreAmongWith messages (InvalidateCompletion invalidation) old.traffic.messages → (walks : List Walk) → HasSceneWith old walks → HasSceneWith new walks
obey_scene old new invalidation extent left messages rest traffic there outside among walks (scene, shows, facts) =
    let next = with_traffic scene new.traffic in
    let kinds : old.kind_of ≡ scene.kind_of = same_function old.kind_of scene.kind_of (λ d. sym (shows.kinds d)) in (
      next,
      shows_traffic old new scene rest shows,
      facts_kept (DeliverRequest invalidation extent) scene next walks walks refl facts (
        left,
        messages,
        messages_as old scene (InvalidateRequest invalidation extent) shows there,
        subst (λ (t : Traffic). AreOutside left invalidation.device extent t.entries) (sym shows.traffic) outside,
        subst (λ (t : Traffic). AreAmongWith messages (InvalidateCompletion invalidation) t.messages) (sym shows.traffic) among,
        own_traffic old scene (λ (t : Traffic). record t { entries = left; epoch_of = raised old.kind_of t.epoch_of invalidation.device; messages = messages }) new.traffic shows traffic
            ∙ ap (λ k. record scene { entries = left; epoch_of = raised k scene.epoch_of invalidation.device; messages = messages }) kinds,
      ),
    )

-- A WORD THAT A REQUEST IS DONE arrives: that of this number and this device is open no more
pub close_scene : (old new : Values) (invalidation : Invalidation) (slots : List Invalidation) (messages : List AtsMessage) → KeepsRest old new
    → new.traffic ≡ record old.traffic { slots = slots; messages = messages } → Contains old.traffic.messages (InvalidateCompletion invalidation)
    → AreAmong slots old.traffic.slots → ((slot : Invalidation) → Contains old.traffic.slots slot → (slot ≡ invalidation) ⊎ Contains slots slot)
    → AreAmong messages old.traffic.messages → (walks : List Walk) → HasSceneWith old walks → HasSceneWith new walks
close_scene old new invalidation slots messages rest traffic there fewer others among walks (scene, shows, facts) =
    let next = with_traffic scene new.traffic in (
      next,
      shows_traffic old new scene rest shows,
      facts_kept (DeliverCompletion invalidation) scene next walks walks refl facts (
        slots,
        messages,
        messages_as old scene (InvalidateCompletion invalidation) shows there,
        subst (λ (t : Traffic). AreAmong slots t.slots) (sym shows.traffic) fewer,
        subst (λ (t : Traffic). (slot : Invalidation) → Contains t.slots slot → (slot ≡ invalidation) ⊎ Contains slots slot) (sym shows.traffic) others,
        subst (λ (t : Traffic). AreAmong messages t.messages) (sym shows.traffic) among,
        own_traffic old scene (λ (t : Traffic). record t { slots = slots; messages = messages }) new.traffic shows traffic,
      ),
    )
