-- Each walk stays one for the kind of access that its request asks for, whatever is called.
use Rattle.std.proofs.Common.{ℕ, Bool, false, List, sym, subst}
use Rattle.iom_board.specs.BoardParts.{BoardParts}
use Rattle.iom_walks.specs.Walks.{WalkRow}
use Rattle.iom_stepped_ways.proofs.CallLemmas.{stepped_calls_are_transitions}
use Rattle.iom_stepped_ways.proofs.SceneLemmas.{covered_are_for_kinds, scenes_cover}
use Rattle.iom_stepped_ways.specs.Calls.{SteppedCall, Alone, Begin, Load, TranslatedBeside, ThroughCacheBeside, FetchBeside, ResetBeside, SteppedEffect, SteppedInvariant, IsByHardware}
use Rattle.iom_stepped_ways.specs.Laws.{KindsOutliveSoftware, KindsStay}
use Rattle.iom_stepped_ways.specs.Scenes.{AreForKinds, stepped_scene}

-- a device that nobody trusts
abbrev nobody : ℕ → Bool
nobody device = false

stays : (call : SteppedCall) → IsByHardware nobody call → (events : ℕ) (old new : BoardParts) (rows new_rows : List WalkRow) → SteppedInvariant old rows events
    → SteppedEffect call old rows new new_rows → AreForKinds rows → AreForKinds new_rows
stays call by_hardware events old new rows new_rows invariants effect for =
    let (transitions, next, turns, covers) =
    stepped_calls_are_transitions nobody call events old new rows new_rows (stepped_scene nobody old rows) invariants effect by_hardware
    (scenes_cover nobody old rows invariants.walks for) in
    covered_are_for_kinds nobody new new_rows next covers

pub kinds_stay : KindsStay
kinds_stay (Alone call) events old new rows new_rows invariants effect for = subst AreForKinds (sym effect.1) for
kinds_stay (Begin sender id access answer) events old new rows new_rows invariants effect for =
    stays (Begin sender id access answer) tt events old new rows new_rows invariants effect for
kinds_stay (Load id answer) events old new rows new_rows invariants effect for = stays (Load id answer) tt events old new rows new_rows invariants effect for
kinds_stay (TranslatedBeside id access answer) events old new rows new_rows invariants effect for = subst AreForKinds (sym effect.1) for
kinds_stay (ThroughCacheBeside sender id access answer) events old new rows new_rows invariants effect for = subst AreForKinds (sym effect.1) for
kinds_stay (FetchBeside fetched) events old new rows new_rows invariants effect for =
    stays (FetchBeside fetched) tt events old new rows new_rows invariants effect for
kinds_stay (ResetBeside id answer) events old new rows new_rows invariants effect for =
    stays (ResetBeside id answer) tt events old new rows new_rows invariants effect for

-- what is left after software has acted is for its kind as it was
pub kinds_outlive_software : KindsOutliveSoftware
kinds_outlive_software rows new_rows left for id under_way is = for id under_way (left id under_way is)
