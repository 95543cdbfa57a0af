-- The laws over lists of transitions.
use Rattle.std.proofs.Common.{List, [], ◌∷◌, refl, sym, ◌∙◌, subst}
use Rattle.iom_reach.proofs.TransitionLemmas.{transitions_add_no_way}
use Rattle.iom_reach.specs.Laws.{AddsNoWay, UsesNoMore, AccessesHadWays, QuietIsTrue, FreeIsTrue}
use Rattle.iom_reach.specs.Transitions.{Transition, ComeInTurn}
use Rattle.iom_reach.specs.Safe.{IsSafe, AreTimely}
use Rattle.iom_reach.specs.Scene.{HardwareScene}
use Rattle.iom_reach.specs.Ways.{Accepted}

pub turns_add_no_way : (transitions : List Transition) (old new : HardwareScene) → IsSafe old → AreTimely old → ComeInTurn old transitions new
    → AddsNoWay old new × UsesNoMore old new × IsSafe new × AreTimely new
turns_add_no_way [] old new safe timely is = subst (λ n. AddsNoWay old n × UsesNoMore old n × IsSafe n × AreTimely n) (sym is) ((λ device frame kind way. way), (λ frame. ((λ read. read), (λ word. word), refl)), safe, timely)
turns_add_no_way (first ∷ others) old new safe timely (between, now, later) =
    let (back, use_then, safe_then, timely_then) = transitions_add_no_way first old between safe timely now in
    let (rest, use_last, safe_last, timely_last) = turns_add_no_way others between new safe_then timely_then later in (
      (λ device frame kind way. back device frame kind (rest device frame kind way)),
      (λ frame. ((λ read. (use_then frame).0 ((use_last frame).0 read)), (λ word. (use_then frame).1 ((use_last frame).1 word)), (use_last frame).2 ∙ (use_then frame).2)),
      safe_last,
      timely_last,
    )

pub accesses_had_ways : AccessesHadWays
accesses_had_ways transitions device access old between new safe timely turns (left, memory, there, among, harmless, after, made) =
    (turns_add_no_way transitions old between safe timely turns).0 device access.frame access.kind (Accepted there)

pub quiet_is_true : QuietIsTrue
quiet_is_true may transitions device access old between new safe timely quiet turns made =
    quiet access.kind (accesses_had_ways transitions device access old between new safe timely turns made)

pub free_is_true : FreeIsTrue
free_is_true transitions device access old between new safe timely free turns made =
    free device access.kind (accesses_had_ways transitions device access old between new safe timely turns made)
