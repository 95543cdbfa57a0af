-- Each call of hardware is a list of transitions.
use Rattle.std.proofs.Common.{inl, inr, ℕ, Bool, [], ◌∷◌, refl, subst}
use Rattle.std.specs.Bool.{⊤}
use Rattle.iom_hardware_ways.specs.Calls.{HardwareCall, CallEffect, IsMadeHarmlessly, Request, Translated, ThroughCache, Ask, AskAtStep, Forge, Fetch, Timeout, Deliver, Drop, Repeat, Commit, Reset}
use Rattle.iom_hardware_ways.specs.Laws.{AreTransitions, CallsAreTransitions}
use Rattle.iom_board.specs.BoardParts.{BoardParts}
use Rattle.iom_board.specs.Invariant.{BoardInvariant}
use Rattle.iom_board.specs.Senders.{untranslated_by, cached_by}
use Rattle.iom_hardware_ways.proofs.RequestLemmas.{requests, requests_translated, requests_through_cache}
use Rattle.iom_hardware_ways.proofs.FetchLemmas.{fetches}
use Rattle.iom_hardware_ways.proofs.FlightLemmas.{commits, makes}
use Rattle.iom_hardware_ways.proofs.DeliveryLemmas.{delivers}
use Rattle.iom_hardware_ways.proofs.EntryLemmas.{resets}
use Rattle.iom_reach.specs.Transitions.{Transition, Make}
use Rattle.iom_hardware_ways.specs.Scenes.{scene_of}
use Rattle.iom_hardware_ways.proofs.Turns.{Comes}
use Rattle.iom_hardware_ways.proofs.CarryLemmas.{lost, repeats, asks, asks_at_step, forged, gives_up}

-- a call that makes no access
abbrev pub IsQuietCall : HardwareCall → Type 0
IsQuietCall (Commit id answer) = ⊥
IsQuietCall _ = ⊤

-- it is a list of transitions that make none
pub quiet_calls : (trusted : ℕ → Bool) (call : HardwareCall) (events : ℕ) (old new : BoardParts) → IsQuietCall call → BoardInvariant old events
    → CallEffect call old new → Comes (scene_of trusted old) (scene_of trusted new)
quiet_calls trusted (Request sender id access answer) events old new quiet invariants effect = requests trusted (untranslated_by sender) old id access answer new effect
quiet_calls trusted (Translated id access answer) events old new quiet invariants effect = requests_translated trusted old id access answer new effect
quiet_calls trusted (ThroughCache sender id access answer) events old new quiet invariants effect = requests_through_cache trusted (cached_by sender) old id access answer new invariants.caches effect
quiet_calls trusted (Ask id page answer) events old new quiet invariants effect = asks trusted old id page answer new effect
quiet_calls trusted (AskAtStep id page) events old new quiet invariants effect = asks_at_step trusted old id page new effect
quiet_calls trusted (Forge id serial answer) events old new quiet invariants effect = forged trusted old id serial answer new effect
quiet_calls trusted (Fetch fetched) events old new quiet invariants effect = fetches trusted old fetched new effect
quiet_calls trusted (Timeout has_effect) events old new quiet invariants effect = gives_up trusted old has_effect new effect
quiet_calls trusted (Deliver place delivered) events old new quiet invariants effect = delivers trusted old place delivered new invariants.askers effect
quiet_calls trusted (Drop place found) events old new quiet invariants effect = lost trusted old place found new effect
quiet_calls trusted (Repeat place repeated) events old new quiet invariants effect = repeats trusted old place repeated new effect
quiet_calls trusted (Reset id answer) events old new quiet invariants effect = resets trusted old id answer new effect
quiet_calls trusted (Commit id answer) events old new quiet invariants effect = absurd quiet

loudly : (trusted : ℕ → Bool) (old new : BoardParts) → Comes (scene_of trusted old) (scene_of trusted new) → AreTransitions trusted old new
loudly trusted old new (transitions, quiet, turns) = (transitions, turns)

pub calls_are_transitions : CallsAreTransitions
calls_are_transitions trusted (Request sender id access answer) events old new invariants effect harmless = loudly trusted old new (quiet_calls trusted (Request sender id access answer) events old new tt invariants effect)
calls_are_transitions trusted (Translated id access answer) events old new invariants effect harmless = loudly trusted old new (quiet_calls trusted (Translated id access answer) events old new tt invariants effect)
calls_are_transitions trusted (ThroughCache sender id access answer) events old new invariants effect harmless = loudly trusted old new (quiet_calls trusted (ThroughCache sender id access answer) events old new tt invariants effect)
calls_are_transitions trusted (Ask id page answer) events old new invariants effect harmless = loudly trusted old new (quiet_calls trusted (Ask id page answer) events old new tt invariants effect)
calls_are_transitions trusted (AskAtStep id page) events old new invariants effect harmless = loudly trusted old new (quiet_calls trusted (AskAtStep id page) events old new tt invariants effect)
calls_are_transitions trusted (Forge id serial answer) events old new invariants effect harmless = loudly trusted old new (quiet_calls trusted (Forge id serial answer) events old new tt invariants effect)
calls_are_transitions trusted (Fetch fetched) events old new invariants effect harmless = loudly trusted old new (quiet_calls trusted (Fetch fetched) events old new tt invariants effect)
calls_are_transitions trusted (Timeout has_effect) events old new invariants effect harmless = loudly trusted old new (quiet_calls trusted (Timeout has_effect) events old new tt invariants effect)
calls_are_transitions trusted (Deliver place delivered) events old new invariants effect harmless = loudly trusted old new (quiet_calls trusted (Deliver place delivered) events old new tt invariants effect)
calls_are_transitions trusted (Drop place found) events old new invariants effect harmless = loudly trusted old new (quiet_calls trusted (Drop place found) events old new tt invariants effect)
calls_are_transitions trusted (Repeat place repeated) events old new invariants effect harmless = loudly trusted old new (quiet_calls trusted (Repeat place repeated) events old new tt invariants effect)
calls_are_transitions trusted (Commit id answer) events old new invariants effect harmless = elim (commits trusted old id answer new effect) [
  | inl same ↦ ([], same)
  | inr (made, reply, effects) ↦
      let call : Transition = Make id (record { frame = made.frame; kind = made.kind }) in
      (call ∷ [], (scene_of trusted new, makes trusted old id made new effects (subst (IsMadeHarmlessly trusted old id) reply harmless), refl))
]
calls_are_transitions trusted (Reset id answer) events old new invariants effect harmless = loudly trusted old new (quiet_calls trusted (Reset id answer) events old new tt invariants effect)
