-- The laws over lists of calls.
use Rattle.std.proofs.Common.{◌+◌, ◌++◌, ℕ, Bool, false, List, [], ◌∷◌, Contains, Some, Ok, refl, sym, subst}
use Rattle.std.proofs.lemmas.Bool.{false≢true}
use Rattle.std.proofs.lemmas.List.Elements.{Contains-append_left}
use Rattle.iom_board.specs.BoardParts.{BoardParts}
use Rattle.iom_board.specs.Commits.{CommitsOldestAccess}
use Rattle.iom_inflight.specs.declared.made.MadeAt.{MadeAt}
use Rattle.iom_pointers.specs.declared.pointer.Pointer.{Pointer}
use Rattle.iom_reach.proofs.LawLemmas.{turns_add_no_way}
use Rattle.iom_reach.specs.Safe.{IsSafe, AreTimely}
use Rattle.iom_reach.specs.Ways.{Way, Accepted}
use Rattle.iom_hardware_ways.proofs.LawLemmas.{made_so}
use Rattle.iom_hardware_ways.proofs.Turns.{in_turn}
use Rattle.iom_hardware_ways.specs.Scenes.{scene_of}
use Rattle.iom_stepped_ways.specs.Scenes.{access_on}
use Rattle.iom_pointer_ways.proofs.CallLemmas.{Reached, pointed_calls_are_transitions}
use Rattle.iom_pointer_ways.specs.Calls.{PointedCall, DoPointedInTurn}
use Rattle.iom_pointer_ways.specs.Laws.{MakesAfter, PointedCallsAddNoWay, PointedQuietStaysQuiet, PointedGoodClaimsHold, PointedFreeStaysFree}
use Rattle.iom_pointer_ways.specs.Scenes.{pointed_scene}

-- a list of calls is a list of transitions
all_occur : (napot : Bool) (trusted : ℕ → Bool) (calls : List PointedCall) (events : ℕ) (old new : BoardParts) (pointers new_pointers : List Pointer)
    → DoPointedInTurn napot trusted events old pointers calls new new_pointers → Reached napot trusted old pointers new new_pointers
all_occur napot trusted [] events old new pointers new_pointers (same, same_pointers) =
    subst (λ p. Reached napot trusted old pointers p new_pointers) (sym same) (subst (Reached napot trusted old pointers old) (sym same_pointers) ([], refl))
all_occur napot trusted (first ∷ others) events old new pointers new_pointers (invariants, by_hardware, (between, between_pointers, effect, later)) =
    let (some, now) = pointed_calls_are_transitions napot trusted first events old between pointers between_pointers invariants effect by_hardware in
    let (rest, then) = all_occur napot trusted others (events + 1) between new between_pointers new_pointers later in
    (some ++ rest, in_turn some rest (pointed_scene napot trusted old pointers) (pointed_scene napot trusted between between_pointers) (pointed_scene napot trusted new new_pointers) now then)

pub pointed_calls_add_no_way : PointedCallsAddNoWay
pointed_calls_add_no_way napot trusted calls events old new pointers new_pointers safe timely turns =
    let (transitions, all) = all_occur napot trusted calls events old new pointers new_pointers turns in
    turns_add_no_way transitions (pointed_scene napot trusted old pointers) (pointed_scene napot trusted new new_pointers) safe timely all

-- an access that is made was in flight: that is so whomever software trusts
was_in_flight : (trusted : ℕ → Bool) (old new : BoardParts) (id : ℕ) (made : MadeAt) → CommitsOldestAccess old id (Ok (Some made)) new
    → Contains ((scene_of trusted old).in_flight id) (access_on made.frame made.kind)
was_in_flight trusted old new id made commits = (made_so (λ device. false) old id made new (commits, (λ trusts. absurd (false≢true trusts)))).2

-- so it had its way at the beginning
had_way : (napot : Bool) (trusted : ℕ → Bool) (parts : BoardParts) (pointers : List Pointer) (id : ℕ) (made : MadeAt) → IsSafe (pointed_scene napot trusted parts pointers)
    → AreTimely (pointed_scene napot trusted parts pointers) → MakesAfter napot trusted parts pointers id made → Way (pointed_scene napot trusted parts pointers) id made.frame made.kind
had_way napot trusted parts pointers id made safe timely after =
    let (back, used, safe_then, timely_then) =
    pointed_calls_add_no_way napot trusted after.calls after.events parts after.between pointers after.between_pointers safe timely after.turns in
    back id made.frame made.kind
    (Accepted (Contains-append_left ((scene_of trusted after.between).in_flight id) [] (access_on made.frame made.kind)
    (was_in_flight trusted after.between after.new id made after.makes)))

pub pointed_quiet : PointedQuietStaysQuiet
pointed_quiet napot trusted may parts pointers id made safe timely quiet after = quiet made.kind (had_way napot trusted parts pointers id made safe timely after)

pub pointed_good : PointedGoodClaimsHold
pointed_good napot trusted claimed parts pointers id made safe timely good after = good made.kind (had_way napot trusted parts pointers id made safe timely after)

pub pointed_free : PointedFreeStaysFree
pointed_free napot trusted parts pointers id made safe timely free after = free id made.kind (had_way napot trusted parts pointers id made safe timely after)
