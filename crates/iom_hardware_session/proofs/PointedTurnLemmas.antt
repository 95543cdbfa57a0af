-- Calls of hardware that caches pointers to tables, one after another: after more events, with fewer devices trusted, with something done before them.
use Rattle.std.proofs.Common.{◌≡◌, inl, inr, ℕ, ◌+◌, Bool, List, [], ◌∷◌, ◌++◌, refl, sym, subst, arith}
use Rattle.iom_board.specs.BoardParts.{BoardParts}
use Rattle.iom_board.specs.Invariant.{BoardInvariant}
use Rattle.iom_hardware_session.proofs.PointedEventLemmas.{DoesByPointers, DoesPlainly, GoesAheadAt}
use Rattle.iom_hardware_session.proofs.SteppedTurnLemmas.{untrusted}
use Rattle.iom_hardware_session.proofs.TurnLemmas.{AreFewer, sound_later}
use Rattle.iom_hardware_session.specs.Laws.{Comes, ComesFromPointers}
use Rattle.iom_hardware_session.specs.declared.beside.Beside.TheVariants.{Pointers}
use Rattle.iom_inflight.specs.declared.made.MadeAt.{MadeAt}
use Rattle.iom_pointed_board.proofs.AheadLemmas.{ahead_are_calls, ahead_is_sound}
use Rattle.iom_pointer_ways.specs.Calls.{PointedCall, Plain, Fill, Fills, Point, ArePassed, PointedEffect, IsByHardware, DoPointedInTurn}
use Rattle.iom_pointer_ways.specs.Scenes.{walk_from, pointed_scene}
use Rattle.iom_pointers.specs.declared.features.Features.{Features}
use Rattle.iom_pointers.specs.declared.pointer.Pointer.{Pointer}
use Rattle.iom_reach.specs.Memory.{WalkStep}
use Rattle.iom_reach.specs.Scene.{AddressSpace, PartialWalk}
use Rattle.iom_reach.specs.Transitions.{IsContinued, IsOwned}
use Rattle.iom_reach.specs.Ways.{WalkBegins, AtRoot, PartWay}
use Rattle.iom_stepped_ways.specs.Scenes.{address_space}
use Rattle.iom_tlb.specs.declared.space.Space.{Space}
use Rattle.iom_tlb.specs.declared.trans_cache.Translation.{Translation}

-- AFTER MORE EVENTS
turns_later : (napot : Bool) (trusted : ℕ → Bool) (calls : List PointedCall) (events more : ℕ) (old new : BoardParts) (pointers new_pointers : List Pointer)
    → DoPointedInTurn napot trusted events old pointers calls new new_pointers → DoPointedInTurn napot trusted (events + more) old pointers calls new new_pointers
turns_later napot trusted [] events more old new pointers new_pointers turns = turns
turns_later napot trusted (first ∷ others) events more old new pointers new_pointers (invariants, own, (between, between_pointers, effect, rest)) = (
  sound_later old events more invariants,
  own,
  (
    between,
    between_pointers,
    effect,
    subst (λ (n : ℕ). DoPointedInTurn napot trusted n between between_pointers others new new_pointers) (swap events more)
        (turns_later napot trusted others (events + 1) more between new between_pointers new_pointers rest),
  ),
)
  where
    swap : (a b : ℕ) → a + 1 + b ≡ a + b + 1
    swap a b = omega arith

-- FEWER DEVICES ARE TRUSTED: where a walk may begin doesn't go by that
module _ (napot : Bool) (fewer more : ℕ → Bool) (parts : BoardParts) (pointers : List Pointer) where
  begins_alike : (space : AddressSpace) (table : ℕ) (steps_to : ℕ → List WalkStep) → WalkBegins (pointed_scene napot more parts pointers) space table steps_to
      → WalkBegins (pointed_scene napot fewer parts pointers) space table steps_to
  begins_alike space table steps_to (AtRoot device context tables find is decide root all) = AtRoot device context tables find is decide root all
  begins_alike space table steps_to (PartWay device there) = PartWay device there

  owned_alike : (device : ℕ) (space : AddressSpace) (table : ℕ) (steps_to : ℕ → List WalkStep) → IsOwned (pointed_scene napot more parts pointers) device space table steps_to
      → IsOwned (pointed_scene napot fewer parts pointers) device space table steps_to
  owned_alike device space table steps_to (inl own) = inl own
  owned_alike device space table steps_to (inr there) = inr there

  continued_alike : (walk : PartialWalk) → IsContinued (pointed_scene napot more parts pointers) walk → IsContinued (pointed_scene napot fewer parts pointers) walk
  continued_alike walk (table, steps_to, begins, owned, passes) =
      (table, steps_to, begins_alike walk.space table steps_to begins, (λ device is. owned_alike device walk.space table steps_to (owned device is)), passes)

  passed_alike : (new_pointers : List Pointer) → ArePassed napot more parts pointers new_pointers → ArePassed napot fewer parts pointers new_pointers
  passed_alike new_pointers passed pointer there = elim (passed pointer there) [
    | inl old ↦ inl old
    | inr continues ↦ inr (continued_alike (walk_from pointer) continues)
  ]

  fills_alike : (space : Space) (page : ℕ) (translation : Translation) (new : BoardParts) → Fills napot more parts pointers space page translation new
      → Fills napot fewer parts pointers space page translation new
  fills_alike space page translation new fills =
      let (table, steps_to, begins, ends) = fills.led in
      record { led = (table, steps_to, begins_alike (address_space space) table steps_to begins, ends); kept = fills.kept; rest = fills.rest }

effect_fewer : (napot : Bool) (fewer more : ℕ → Bool) (call : PointedCall) (old new : BoardParts) (pointers new_pointers : List Pointer) → PointedEffect napot more call old pointers new new_pointers
    → PointedEffect napot fewer call old pointers new new_pointers
effect_fewer napot fewer more (Plain call) old new pointers new_pointers effect = effect
effect_fewer napot fewer more (Fill space page translation) old new pointers new_pointers (fills, same) = (fills_alike napot fewer more old pointers space page translation new fills, same)
effect_fewer napot fewer more Point old new pointers new_pointers (same, passed) = (same, passed_alike napot fewer more old pointers new_pointers passed)

by_hardware : (fewer more : ℕ → Bool) (call : PointedCall) → AreFewer fewer more → IsByHardware more call → IsByHardware fewer call
by_hardware fewer more (Plain call) are is = untrusted fewer more call are is
by_hardware fewer more (Fill space page translation) are is = is
by_hardware fewer more Point are is = is

pub turns_fewer : (napot : Bool) (fewer more : ℕ → Bool) (calls : List PointedCall) (events : ℕ) (old new : BoardParts) (pointers new_pointers : List Pointer) → AreFewer fewer more
    → DoPointedInTurn napot more events old pointers calls new new_pointers → DoPointedInTurn napot fewer events old pointers calls new new_pointers
turns_fewer napot fewer more [] events old new pointers new_pointers are turns = turns
turns_fewer napot fewer more (first ∷ others) events old new pointers new_pointers are (invariants, own, (between, between_pointers, effect, rest)) = (
  invariants,
  by_hardware fewer more first are own,
  (
    between,
    between_pointers,
    effect_fewer napot fewer more first old between pointers between_pointers effect,
    turns_fewer napot fewer more others (events + 1) between new between_pointers new_pointers are rest,
  ),
)

-- SOMETHING IS DONE BEFORE
module _ (features : Features) (trusted : ℕ → Bool) (id : ℕ) (made : MadeAt) where
  -- a call
  comes_after : (call : PointedCall) (calls : List PointedCall) (events : ℕ) (old new : BoardParts) (pointers new_pointers : List Pointer) → BoardInvariant old events
      → IsByHardware trusted call → PointedEffect features.napot trusted call old pointers new new_pointers → ComesFromPointers features.napot trusted new new_pointers calls id made
      → ComesFromPointers features.napot trusted old pointers (call ∷ calls) id made
  comes_after call calls events old new pointers new_pointers invariants own effect (more, between, between_pointers, last, turns, commits) = (
    events + more,
    between,
    between_pointers,
    last,
    (
      sound_later old events more invariants,
      own,
      (
        new,
        new_pointers,
        effect,
        subst (λ (n : ℕ). DoPointedInTurn features.napot trusted n new new_pointers calls between between_pointers) (swap events more)
            (turns_later features.napot trusted calls more (events + 1) new between new_pointers between_pointers turns),
      ),
    ),
    commits,
  )
    where
      swap : (a b : ℕ) → b + (a + 1) ≡ a + b + 1
      swap a b = omega arith

  -- many calls
  comes_behind : (first calls : List PointedCall) (events : ℕ) (old new : BoardParts) (pointers new_pointers : List Pointer)
      → DoPointedInTurn features.napot trusted events old pointers first new new_pointers → ComesFromPointers features.napot trusted new new_pointers calls id made
      → ComesFromPointers features.napot trusted old pointers (first ++ calls) id made
  comes_behind [] calls events old new pointers new_pointers (same, left) came =
      subst (λ (parts : BoardParts). ComesFromPointers features.napot trusted parts pointers calls id made) same
      (subst (λ (own : List Pointer). ComesFromPointers features.napot trusted new own calls id made) left came)
  comes_behind (one ∷ first) calls events old new pointers new_pointers (invariants, own, (between, between_pointers, effect, rest)) came =
      comes_after one (first ++ calls) events old between pointers between_pointers invariants own effect
      (comes_behind first calls (events + 1) between new between_pointers new_pointers rest came)

  -- what hardware does at an event: it walks ahead, does something by a call of the board, and forgets
  plainly : (calls : List PointedCall) (events : ℕ) (between new : BoardParts) (pointers : List Pointer) → BoardInvariant between events → DoesPlainly trusted between new
      → ComesFromPointers features.napot trusted new pointers calls id made → (others : List PointedCall) × ComesFromPointers features.napot trusted between pointers others id made
  plainly calls events between new pointers invariants (inl same) came = (calls, subst (λ (parts : BoardParts). ComesFromPointers features.napot trusted parts pointers calls id made) same came)
  plainly calls events between new pointers invariants (inr (done, effect, own)) came =
      (Plain done ∷ calls, comes_after (Plain done) calls events between new pointers pointers invariants own (effect, refl) came)

  ahead : (calls : List PointedCall) (events : ℕ) (old between : BoardParts) (pointers between_pointers : List Pointer) → BoardInvariant old events
      → GoesAheadAt features old pointers between between_pointers → ComesFromPointers features.napot trusted between between_pointers calls id made
      → (others : List PointedCall) × ComesFromPointers features.napot trusted old pointers others id made
  ahead calls events old between pointers between_pointers invariants (inl (same, left)) came = (
    calls,
    subst (λ (parts : BoardParts). ComesFromPointers features.napot trusted parts pointers calls id made) same
        (subst (λ (own : List Pointer). ComesFromPointers features.napot trusted between own calls id made) left came),
  )
  ahead calls events old between pointers between_pointers invariants (inr (request, kind, plugged, walks)) came =
      let (first, turns) = ahead_are_calls features trusted events old between pointers between_pointers request kind plugged invariants walks in
      (first ++ calls, comes_behind first calls events old between pointers between_pointers turns came)

  sound_ahead : (events : ℕ) (old between : BoardParts) (pointers between_pointers : List Pointer) → BoardInvariant old events → GoesAheadAt features old pointers between between_pointers
      → BoardInvariant between events
  sound_ahead events old between pointers between_pointers invariants (inl (same, left)) = subst (λ (parts : BoardParts). BoardInvariant parts events) (sym same) invariants
  sound_ahead events old between pointers between_pointers invariants (inr (request, kind, plugged, walks)) =
      ahead_is_sound features events old between pointers between_pointers request invariants walks

  pub came_by_pointers : (events more : ℕ) (old new : BoardParts) (pointers new_pointers : List Pointer) → BoardInvariant old events → BoardInvariant new more
      → DoesByPointers features trusted old pointers new new_pointers → Comes trusted new (Pointers features new_pointers) id made → Comes trusted old (Pointers features pointers) id made
  came_by_pointers events more old new pointers new_pointers invariants after (between, between_pointers, goes, does, left) (calls, came) =
      let forgets = comes_after Point calls more new new between_pointers new_pointers after tt (refl, (λ pointer there. inl (left pointer there))) came in
      let (others, sooner) = plainly (Point ∷ calls) events between new between_pointers (sound_ahead events old between pointers between_pointers invariants goes) does forgets in
      ahead others events old between pointers between_pointers invariants goes sooner
