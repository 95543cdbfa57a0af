-- The laws over lists of calls.
use Rattle.std.proofs.Common.{◌≡◌, ◌∙◌, ◌+◌, inl, inr, ℕ, Bool, [], ◌∷◌, Contains, Some, Ok, sym, ap, subst, refl}
use Rattle.std.proofs.lemmas.List.Elements.{Contains-append_left}
use Rattle.iom_board.specs.BoardParts.{BoardParts}
use Rattle.iom_board.specs.Commits.{CommitsOldestAccess, MakesAccess}
use Rattle.iom_inflight.specs.declared.made.MadeAt.{MadeAt}
use Rattle.iom_iommu.specs.Parts.{flights_of}
use Rattle.iom_reach.specs.Scene.{PendingAccess}
use Rattle.iom_reach.specs.Ways.{Way, Accepted}
use Rattle.iom_reach.proofs.LawLemmas.{turns_add_no_way}
use Rattle.iom_hardware_ways.specs.Scenes.{flight_of, scene_of}
use Rattle.iom_hardware_ways.proofs.FlightLemmas.{made_there}
use Rattle.iom_stepped_ways.proofs.CallLemmas.{stepped_calls_are_transitions}
use Rattle.iom_stepped_ways.specs.Laws.{SteppedCallsAddNoWay, SteppedAccessesHadWays, SteppedQuietStaysQuiet, SteppedGoodClaimsHold, SteppedFreeStaysFree}
use Rattle.iom_stepped_ways.specs.Scenes.{Covers, access_on}

pub stepped_calls_add_no_way : SteppedCallsAddNoWay
stepped_calls_add_no_way trusted [] events old new rows new_rows scene covers safe timely (same, same_rows) = (
  scene,
  subst (λ p. Covers trusted p new_rows scene) (sym same) (subst (λ r. Covers trusted old r scene) (sym same_rows) covers),
  (λ device frame kind way. way),
  (λ frame. ((λ read. read), (λ word. word), refl)),
  safe,
  timely,
)
stepped_calls_add_no_way trusted (first ∷ others) events old new rows new_rows scene covers safe timely
    (invariants, by_hardware, (between, between_rows, effect, later)) =
    let (transitions, next, turns, covered) =
    stepped_calls_are_transitions trusted first events old between rows between_rows scene invariants effect by_hardware covers in
    let (back, used, safe_then, timely_then) = turns_add_no_way transitions scene next safe timely turns in
    let (last, all_covered, back_last, used_last, safe_last, timely_last) =
    stepped_calls_add_no_way trusted others (events + 1) between new between_rows new_rows next covered safe_then timely_then later in (
      last,
      all_covered,
      (λ device frame kind way. back device frame kind (back_last device frame kind way)),
      (λ frame. ((λ read. (used frame).0 ((used_last frame).0 read)), (λ word. (used frame).1 ((used_last frame).1 word)), (used_last frame).2 ∙ (used frame).2)),
      safe_last,
      timely_last,
    )

-- an access that is made was in flight
was_in_flight : (trusted : ℕ → Bool) (old new : BoardParts) (id : ℕ) (made : MadeAt) → CommitsOldestAccess old id (Ok (Some made)) new
    → Contains ((scene_of trusted old).in_flight id) (access_on made.frame made.kind)
was_in_flight trusted old new id made (inl absent) = let never = absent.answered in let no : ⊥ = cc in absurd no
was_in_flight trusted old new id made (inr (inl other)) = let never = other.answered in let no : ⊥ = cc in absurd no
was_in_flight trusted old new id made (inr (inr so)) = by (subst (λ given. MakesAccess id old given new) (let reply = so.answered in let same : so.given ≡ Some made = cc in same) so.call)
  where
    as_flight : MadeAt → PendingAccess
    as_flight m = access_on m.frame m.kind

    by : MakesAccess id old (Some made) new → Contains ((scene_of trusted old).in_flight id) (access_on made.frame made.kind)
    by effect =
        let is = effect.call.makes in
        let own : access_on made.frame made.kind ≡ flight_of is.oldest = ap as_flight is.reply in
        subst (Contains ((scene_of trusted old).in_flight id)) (sym own) (made_there (flights_of old.iommu).rows id is.row is.oldest is.later is.stands is.waiting)

pub stepped_accesses_had_ways : SteppedAccessesHadWays
stepped_accesses_had_ways trusted scene id made safe timely after =
    let (next, covers, back, used, safe_then, timely_then) =
    stepped_calls_add_no_way trusted after.calls after.events after.old after.between after.rows after.between_rows scene after.covers safe timely after.turns in
    let flies = was_in_flight trusted after.between after.new id made after.makes in
    back id made.frame made.kind
    (subst (λ s. Way s id made.frame made.kind) (sym covers.is)
    (Accepted (Contains-append_left ((scene_of trusted after.between).in_flight id) (covers.added.let_through id) (access_on made.frame made.kind) flies)))

pub stepped_quiet : SteppedQuietStaysQuiet
stepped_quiet trusted may scene id made safe timely quiet after = quiet made.kind (stepped_accesses_had_ways trusted scene id made safe timely after)

pub stepped_good : SteppedGoodClaimsHold
stepped_good trusted claimed scene id made safe timely good after = good made.kind (stepped_accesses_had_ways trusted scene id made safe timely after)

pub stepped_free : SteppedFreeStaysFree
stepped_free trusted scene id made safe timely free after = free id made.kind (stepped_accesses_had_ways trusted scene id made safe timely after)
