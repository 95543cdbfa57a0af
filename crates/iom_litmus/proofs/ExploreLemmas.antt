-- What the places and edges that were found say of schedules.
use Rattle.std.proofs.Common.{◌≡◌, ◌↔◌, ◌⊎◌, inl, inr, ℕ, ◌+◌, ◌<◌, ◌≤◌, zero, suc, Bool, true, IsTrue, is_some, List, [], ◌∷◌, ◌++◌, Option, Some, None, length, get_or, slice_get, find, refl, sym, ap, ap₂, ◌∙◌, subst, arith}
use Rattle.std.proofs.lemmas.Option.{slice_get_within, slice_get_cases}
use Rattle.iom_litmus_test.specs.declared.column.Cell.{Cell}
use Rattle.iom_litmus_test.specs.declared.observable.Value.{Value}
use Rattle.iom_litmus_test.specs.declared.test.Test.{Test}
use Rattle.iom_litmus.specs.declared.histogram.Row.{Row}
use Rattle.iom_litmus.specs.declared.node.Edge.{Edge}
use Rattle.iom_litmus.specs.declared.node.Node.{Node}
use Rattle.iom_litmus.specs.declared.place.Deed.{Deed}
use Rattle.iom_litmus.specs.declared.place.Deed.TheVariants as Deeds
use Rattle.iom_litmus.specs.declared.place.Happened.{Happened}
use Rattle.iom_litmus.specs.declared.place.Place.{Place}
use Rattle.iom_litmus.specs.declared.reply.Reply.{Reply}
use Rattle.iom_litmus.specs.declared.step.Step.{Step}
use Rattle.iom_litmus.specs.declared.step.Step.TheVariants as Steps
use Rattle.iom_litmus.specs.Alike.{IsSamePlace}
use Rattle.iom_litmus.specs.Behaviours.{Behaviour}
use Rattle.iom_litmus.specs.Candidates.{CanTry}
use Rattle.iom_litmus.specs.Graphs.{Answer, IsExpanded, answer_in, reply_in, reply_of, after_of, end_of, steps_of}
use Rattle.iom_litmus.specs.Happenings.{next_cell}
use Rattle.iom_litmus.specs.Histograms.{IsHistogram, IsScheduleCount, IsSearched, outcomes}
use Rattle.iom_litmus.specs.Listed.{IsListed, AreListedOnce}
use Rattle.iom_litmus.specs.Readings.{Readings}
use Rattle.iom_litmus.specs.Replies.{RunsLines}
use Rattle.iom_litmus.specs.Rules.{Noted}
use Rattle.iom_litmus.specs.Schedules.{arrived, IsWay, IsSchedule}
use Rattle.iom_litmus.specs.Searches.{IsExploring, IsExplored, IsEndless, IsFoundBy}
use Rattle.iom_litmus.specs.Seen.{seen_at, outcome_after}
use Rattle.iom_litmus.specs.Steps.{CanRun, CanStep, CanStepBy, MayAnswerNoted, IsLawful, deed_of, deed_of_cell, done, gone_on, taken, opening_place}
use Rattle.iom_litmus.specs.Tallies.{edges_at, IsRoute, IsEndWith, AreSoMany, IsWalk, GoesOnForEver, IsGraph, IsFirstEndWith, AreRows}
use Rattle.iom_litmus.proofs.AlikeLemmas.{IsLike, like_from_same, like_sym, can_like, noted_like, deed_like, same_more, same_refl, same_trans, seen_same}
use Rattle.iom_litmus.proofs.ExpandLemmas.{step_is_listed, edge_of_step}

-- the place to which what happened leads, by the answers
abbrev pub follow : {S : Type 0} → List (List (Answer S)) → ℕ → List Happened → ℕ
follow table n [] = n
follow table n (event ∷ rest) = follow table (end_of (answer_in (get_or table n []) event.deed)) rest

follow-push : {S : Type 0} (table : List (List (Answer S))) (n : ℕ) (happened : List Happened) (event : Happened)
    → follow table n (happened ++ event ∷ []) ≡ end_of (answer_in (get_or table (follow table n happened) []) event.deed)
follow-push table n [] event = refl
follow-push table n (first ∷ rest) event = follow-push table (end_of (answer_in (get_or table n []) first.deed)) rest event

-- the answer to a deed is the one at that place
abbrev pub answer_by : {S : Type 0} → List (List (Answer S)) → List Happened → Deed → Option (Answer S)
answer_by table happened deed = answer_in (get_or table (follow table 0 happened) []) deed

abbrev pub behave : {S : Type 0} → S → List (List (Answer S)) → Behaviour S
behave system table = record {
  after = λ happened deed. after_of system (answer_by table happened deed);
  reply = λ happened deed. reply_of (answer_by table happened deed);
}

-- a place is the one with this number
pub record IsAt {S : Type 0} (test : Test) (nodes : List (Node S)) (table : List (List (Answer S))) (n : ℕ) (place : Place S) : Type 0 where
  pub node : Node S
  pub got : slice_get nodes n ≡ Some node
  pub same : IsSamePlace test place node.place
  pub followed : follow table 0 place.happened ≡ n

pub some_same : {X : Type 0} (o : Option X) (x y : X) → o ≡ Some x → o ≡ Some y → x ≡ y
some_same o x y one other = let both : Some x ≡ Some y = sym one ∙ other in cc

pub expanded_at : {S : Type 0} (noted : Noted S) (r : Readings S) (test : Test) (system : S) (nodes : List (Node S)) (edges : List (List Edge)) (table : List (List (Answer S))) (n : ℕ) (node : Node S)
    → IsExploring noted r test system nodes edges table → length edges ≡ length nodes → slice_get nodes n ≡ Some node
    → IsExpanded noted r test nodes node.place (edges_at edges n) (get_or table n [])
expanded_at noted r test system nodes edges table n node x whole got =
    let within : n < length nodes = slice_get_within nodes n node got in
    let (other, at, ex) = x.expanded n (omega (arith, within, whole)) in
    subst (λ y. IsExpanded noted r test nodes y.place (edges_at edges n) (get_or table n [])) (some_same (slice_get nodes n) other node at got) ex

try_from_can : {S : Type 0} (r : Readings S) (test : Test) (said : Deed → Reply) (place : Place S) (step : Step) → CanStepBy r test said place step → CanTry r test place step
try_from_can r test said place (Steps.Hardware act) can = can
try_from_can r test said place (Steps.Column column) can = by (next_cell test place.happened column) can
  where
    by : (o : Option (ℕ × Cell)) → CanRun said column o → IsTrue (is_some o)
    by None none = absurd none
    by (Some (k, cell)) at = refl

-- each step that can be taken is an edge
at_can : {S : Type 0} (noted : Noted S) (r : Readings S) (test : Test) (system : S) (nodes : List (Node S)) (edges : List (List Edge)) (table : List (List (Answer S))) (n : ℕ) (place : Place S) (step : Step)
    → IsExploring noted r test system nodes edges table → length edges ≡ length nodes → IsAt test nodes table n place
    → CanStep r (behave system table) test place step → (edge : Edge) × IsListed (edges_at edges n) edge × (edge.step ≡ step)
at_can noted r test system nodes edges table n place step x whole at can =
    let (first, ex, candidates) = expanded_at noted r test system nodes edges table n at.node x whole at.got in
    let here : CanStepBy r test (reply_in (get_or table n [])) place step = subst (λ m. CanStepBy r test (reply_in (get_or table m [])) place step) at.followed can in
    let there = can_like r test (reply_in (get_or table n [])) place at.node.place step (like_from_same test place at.node.place at.same) here in
    edge_of_step (edges_at edges n) step (ex.all step (candidates step (try_from_can r test (reply_in (get_or table n [])) at.node.place step there)) there)

-- and each edge is a step that can be taken
at_edge : {S : Type 0} (noted : Noted S) (r : Readings S) (test : Test) (system : S) (nodes : List (Node S)) (edges : List (List Edge)) (table : List (List (Answer S))) (n : ℕ) (place : Place S) (edge : Edge)
    → IsExploring noted r test system nodes edges table → length edges ≡ length nodes → IsAt test nodes table n place
    → IsListed (edges_at edges n) edge → CanStep r (behave system table) test place edge.step
at_edge noted r test system nodes edges table n place edge x whole at listed =
    let (first, ex, candidates) = expanded_at noted r test system nodes edges table n at.node x whole at.got in
    subst (λ m. CanStepBy r test (reply_in (get_or table m [])) place edge.step) (sym at.followed)
    (can_like r test (reply_in (get_or table n [])) at.node.place place edge.step (like_sym test place at.node.place (like_from_same test place at.node.place at.same)) (ex.can edge listed))

-- which leads to the place at its end
at_leads : {S : Type 0} (noted : Noted S) (r : Readings S) (test : Test) (system : S) (nodes : List (Node S)) (edges : List (List Edge)) (table : List (List (Answer S))) (n : ℕ) (place : Place S) (edge : Edge)
    → IsExploring noted r test system nodes edges table → length edges ≡ length nodes → IsAt test nodes table n place
    → IsListed (edges_at edges n) edge → IsAt test nodes table edge.to (taken (behave system table) test place edge.step)
at_leads noted r test system nodes edges table n place edge x whole at listed =
    let (first, ex, candidates) = expanded_at noted r test system nodes edges table n at.node x whole at.got in
    let (answer, deed, is, to, (end, got, same)) = ex.leads edge listed in
    let effect : deed_of test place.happened edge.step ≡ Some answer.deed = deed_like test place at.node.place edge.step (like_from_same test place at.node.place at.same) ∙ deed in
    let by : answer_by table place.happened answer.deed ≡ Some answer = ap (λ m. answer_in (get_or table m []) answer.deed) at.followed ∙ is in
    let goes : taken (behave system table) test place edge.step ≡ gone_on place answer.deed answer.reply answer.after =
    ap (done (behave system table) place) effect ∙ ap (λ o. gone_on place answer.deed (reply_of o) (after_of system o)) by in
    subst (λ p. IsAt test nodes table edge.to p) (sym goes) (record {
      node = end;
      got = got;
      same = same_trans test (gone_on place answer.deed answer.reply answer.after) (gone_on at.node.place answer.deed answer.reply answer.after) end.place
          (same_more test place at.node.place answer.deed answer.reply answer.after at.same) same;
      followed = follow-push table 0 place.happened (record { deed = answer.deed; reply = answer.reply }) ∙ ap end_of by ∙ to;
    })

at_start : {S : Type 0} (noted : Noted S) (r : Readings S) (test : Test) (system : S) (nodes : List (Node S)) (edges : List (List Edge)) (table : List (List (Answer S)))
    → IsExploring noted r test system nodes edges table → IsAt test nodes table 0 (opening_place system)
at_start noted r test system nodes edges table x =
    let (node, got, place, way) = x.begun in
    record { node = node; got = got; same = subst (λ p. IsSamePlace test (opening_place system) p) (sym place) (same_refl test (opening_place system)); followed = refl }

seen_there : {S : Type 0} (noted : Noted S) (r : Readings S) (test : Test) (system : S) (nodes : List (Node S)) (edges : List (List Edge)) (table : List (List (Answer S))) (n : ℕ) (place : Place S)
    → IsExploring noted r test system nodes edges table → (at : IsAt test nodes table n place) → seen_at r test place ≡ at.node.outcome
seen_there noted r test system nodes edges table n place x at = seen_same r test place at.node.place at.same ∙ sym (x.seen n at.node at.got)

none_from_end : (es : List Edge) → ((edge : Edge) → ¬ IsListed es edge) → es ≡ []
none_from_end [] none = refl
none_from_end (first ∷ rest) none = absurd (none first (inl refl))

end_has_no_edges : {S : Type 0} (noted : Noted S) (r : Readings S) (test : Test) (system : S) (nodes : List (Node S)) (edges : List (List Edge)) (table : List (List (Answer S))) (n : ℕ) (place : Place S)
    → IsExploring noted r test system nodes edges table → length edges ≡ length nodes → IsAt test nodes table n place
    → ((step : Step) → ¬ CanStep r (behave system table) test place step) → edges_at edges n ≡ []
end_has_no_edges noted r test system nodes edges table n place x whole at end =
    none_from_end (edges_at edges n) (λ edge listed. end edge.step (at_edge noted r test system nodes edges table n place edge x whole at listed))

no_edges_is_end : {S : Type 0} (noted : Noted S) (r : Readings S) (test : Test) (system : S) (nodes : List (Node S)) (edges : List (List Edge)) (table : List (List (Answer S))) (n : ℕ) (place : Place S)
    → IsExploring noted r test system nodes edges table → length edges ≡ length nodes → IsAt test nodes table n place
    → edges_at edges n ≡ [] → (step : Step) → ¬ CanStep r (behave system table) test place step
no_edges_is_end noted r test system nodes edges table n place x whole at none step can =
    let (edge, listed, same) = at_can noted r test system nodes edges table n place step x whole at can in
    subst (λ es. IsListed es edge) none listed

-- routes are schedules
route_is_schedule : {S : Type 0} (noted : Noted S) (r : Readings S) (test : Test) (system : S) (nodes : List (Node S)) (edges : List (List Edge)) (table : List (List (Answer S)))
    → IsExploring noted r test system nodes edges table → length edges ≡ length nodes
    → (outcome : List Value) (steps : List Step) (n : ℕ) (place : Place S) → IsAt test nodes table n place → IsRoute nodes edges outcome n steps
    → IsSchedule (CanStep r (behave system table) test) (taken (behave system table) test) place steps
    × (seen_at r test (arrived (taken (behave system table) test) place steps) ≡ outcome)
route_is_schedule noted r test system nodes edges table x whole outcome [] n place at (none, (node, got, is)) = (
  no_edges_is_end noted r test system nodes edges table n place x whole at none,
  seen_there noted r test system nodes edges table n place x at ∙ ap (λ y. y.outcome) (some_same (slice_get nodes n) at.node node at.got got) ∙ is,
)
route_is_schedule noted r test system nodes edges table x whole outcome (step ∷ rest) n place at (to, listed, route) =
    let next = at_leads noted r test system nodes edges table n place (record { step = step; to = to }) x whole at listed in
    let (schedule, seen) = route_is_schedule noted r test system nodes edges table x whole outcome rest to (taken (behave system table) test place step) next route in
    ((at_edge noted r test system nodes edges table n place (record { step = step; to = to }) x whole at listed, schedule), seen)

-- and schedules are routes
schedule_is_route : {S : Type 0} (noted : Noted S) (r : Readings S) (test : Test) (system : S) (nodes : List (Node S)) (edges : List (List Edge)) (table : List (List (Answer S)))
    → IsExploring noted r test system nodes edges table → length edges ≡ length nodes
    → (outcome : List Value) (steps : List Step) (n : ℕ) (place : Place S) → IsAt test nodes table n place
    → IsSchedule (CanStep r (behave system table) test) (taken (behave system table) test) place steps
    → seen_at r test (arrived (taken (behave system table) test) place steps) ≡ outcome
    → IsRoute nodes edges outcome n steps
schedule_is_route noted r test system nodes edges table x whole outcome [] n place at end seen =
    (end_has_no_edges noted r test system nodes edges table n place x whole at end, (at.node, at.got, sym (seen_there noted r test system nodes edges table n place x at) ∙ seen))
schedule_is_route noted r test system nodes edges table x whole outcome (step ∷ rest) n place at (can, schedule) seen =
    let (edge, listed, same) = at_can noted r test system nodes edges table n place step x whole at can in
    let next = subst (λ s. IsAt test nodes table edge.to (taken (behave system table) test place s)) same (at_leads noted r test system nodes edges table n place edge x whole at listed) in (
      edge.to,
      subst (λ s. IsListed (edges_at edges n) (record { step = s; to = edge.to })) same listed,
      schedule_is_route noted r test system nodes edges table x whole outcome rest edge.to (taken (behave system table) test place step) next schedule seen,
    )

-- where steps lead, no further than there are steps
way_is_at : {S : Type 0} (noted : Noted S) (r : Readings S) (test : Test) (system : S) (nodes : List (Node S)) (edges : List (List Edge)) (table : List (List (Answer S)))
    → IsExploring noted r test system nodes edges table → length edges ≡ length nodes
    → (steps : List Step) (n : ℕ) (place : Place S) → (at : IsAt test nodes table n place)
    → IsWay (CanStep r (behave system table) test) (taken (behave system table) test) place steps
    → (m : ℕ) × ((end : IsAt test nodes table m (arrived (taken (behave system table) test) place steps)) × (length end.node.way ≤ length at.node.way + length steps))
way_is_at noted r test system nodes edges table x whole [] n place at way = (n, (at, omega arith))
way_is_at noted r test system nodes edges table x whole (step ∷ rest) n place at (can, way) =
    let (edge, listed, same) = at_can noted r test system nodes edges table n place step x whole at can in
    let first = at_leads noted r test system nodes edges table n place edge x whole at listed in
    let next : IsAt test nodes table edge.to (taken (behave system table) test place step) = record {
      node = first.node;
      got = first.got;
      same = subst (λ s. IsSamePlace test (taken (behave system table) test place s) first.node.place) same first.same;
      followed = subst (λ s. follow table 0 (taken (behave system table) test place s).happened ≡ edge.to) same first.followed;
    } in
    let near = x.near n at.node first.node edge listed at.got first.got in
    let (m, (end, far)) = way_is_at noted r test system nodes edges table x whole rest edge.to (taken (behave system table) test place step) next way in
    (m, (end, omega (arith, near, far)))

way_from_schedule : {P : Type 0} (can : P → Step → Type 0) (after : P → Step → P) (place : P) (steps : List Step) → IsSchedule can after place steps
    → IsWay can after place steps × ((step : Step) → ¬ can (arrived after place steps) step)
way_from_schedule can after place [] end = (tt, end)
way_from_schedule can after place (step ∷ rest) (may, schedule) = let (way, end) = way_from_schedule can after (after place step) rest schedule in ((may, way), end)

schedule_from_way : {P : Type 0} (can : P → Step → Type 0) (after : P → Step → P) (place : P) (steps : List Step) → IsWay can after place steps
    → ((step : Step) → ¬ can (arrived after place steps) step) → IsSchedule can after place steps
schedule_from_way can after place [] way end = end
schedule_from_way can after place (step ∷ rest) (may, way) end = (may, schedule_from_way can after (after place step) rest way end)

arrived-push : {P : Type 0} (after : P → Step → P) (place : P) (steps : List Step) (step : Step) → arrived after place (steps ++ step ∷ []) ≡ after (arrived after place steps) step
arrived-push after place [] step = refl
arrived-push after place (first ∷ rest) step = arrived-push after (after place first) rest step

way-push : {P : Type 0} (can : P → Step → Type 0) (after : P → Step → P) (place : P) (steps : List Step) (step : Step) → IsWay can after place steps → can (arrived after place steps) step
    → IsWay can after place (steps ++ step ∷ [])
way-push can after place [] step way may = (may, tt)
way-push can after place (first ∷ rest) step (here, way) may = (here, way-push can after (after place first) rest step way may)

-- the way that is kept of a place leads there
way_of_node : {S : Type 0} (noted : Noted S) (r : Readings S) (test : Test) (system : S) (nodes : List (Node S)) (edges : List (List Edge)) (table : List (List (Answer S)))
    → IsExploring noted r test system nodes edges table → length edges ≡ length nodes
    → (bound k : ℕ) (node : Node S) → k < bound → slice_get nodes k ≡ Some node
    → IsWay (CanStep r (behave system table) test) (taken (behave system table) test) (opening_place system) node.way
    × IsAt test nodes table k (arrived (taken (behave system table) test) (opening_place system) node.way)
way_of_node noted r test system nodes edges table x whole zero k node within got = absurd (omega arith)
way_of_node noted r test system nodes edges table x whole (suc bound) zero node within got =
    let (first, at, place, way) = x.begun in
    let none : node.way ≡ [] = ap (λ y. y.way) (some_same (slice_get nodes 0) node first got at) ∙ way in
    subst (λ steps. IsWay (CanStep r (behave system table) test) (taken (behave system table) test) (opening_place system) steps
    × IsAt test nodes table 0 (arrived (taken (behave system table) test) (opening_place system) steps)) (sym none)
    (tt, at_start noted r test system nodes edges table x)
way_of_node {S} noted r test system nodes edges table x whole (suc bound) (suc k) node within got =
    let (n, before, earlier, there, edge, listed, to, way) = x.found (suc k) node (omega arith) got in
    let (led, at) = way_of_node noted r test system nodes edges table x whole bound n earlier (omega (arith, before, within)) there in
    let can = at_edge noted r test system nodes edges table n (arrived (taken (behave system table) test) (opening_place system) earlier.way) edge x whole at listed in
    let ends = at_leads noted r test system nodes edges table n (arrived (taken (behave system table) test) (opening_place system) earlier.way) edge x whole at listed in
    subst (λ steps. IsWay (CanStep r (behave system table) test) (taken (behave system table) test) (opening_place system) steps
    × IsAt test nodes table (suc k) (arrived (taken (behave system table) test) (opening_place system) steps)) (sym way) (
      way-push (CanStep r (behave system table) test) (taken (behave system table) test) (opening_place system) earlier.way edge.step led can,
      subst (λ p. IsAt test nodes table (suc k) p) (sym (arrived-push (taken (behave system table) test) (opening_place system) earlier.way edge.step))
          (subst (λ m. IsAt test nodes table m (taken (behave system table) test (arrived (taken (behave system table) test) (opening_place system) earlier.way) edge.step)) to ends),
    )

-- each answer is one that the system may give
may_at_node : {S : Type 0} (noted : Noted S) (r : Readings S) (test : Test) (nodes : List (Node S)) (place : Place S) (edges : List Edge) (answers : List (Answer S)) (before : S)
    → IsExpanded noted r test nodes place edges answers → (deed : Deed) → MayAnswerNoted noted r test place deed (reply_in answers deed) (after_of before (answer_in answers deed))
may_at_node noted r test nodes place edges answers before (first, ex, candidates) (Deeds.Cell spot) = (
  (λ cell is. (ex.may (Steps.Column spot.column) (candidates (Steps.Column spot.column) (ap is_some is)) (Deeds.Cell spot) (ap (deed_of_cell spot.column) is) before).0 cell is),
  (λ cell is other. (ex.may (Steps.Column spot.column) (candidates (Steps.Column spot.column) (ap is_some is)) (Deeds.Cell spot) (ap (deed_of_cell spot.column) is) before).1 cell is other),
)
may_at_node noted r test nodes place edges answers before (first, ex, candidates) (Deeds.Hardware act) =
    ((λ can. (ex.may (Steps.Hardware act) (candidates (Steps.Hardware act) can) (Deeds.Hardware act) refl before).0 can), tt)

pub explored_is_lawful : {S : Type 0} (noted : Noted S) (r : Readings S) (test : Test) (system : S) (nodes : List (Node S)) (edges : List (List Edge)) (table : List (List (Answer S)))
    → IsExploring noted r test system nodes edges table → length edges ≡ length nodes → IsLawful noted r (behave system table) test system
explored_is_lawful noted r test system nodes edges table x whole steps way deed =
    let (m, (at, far)) = way_is_at noted r test system nodes edges table x whole steps 0 (opening_place system) (at_start noted r test system nodes edges table x) way in
    let place = arrived (taken (behave system table) test) (opening_place system) steps in
    subst (λ k. MayAnswerNoted noted r test place deed (reply_in (get_or table k []) deed) (after_of system (answer_in (get_or table k []) deed))) (sym at.followed)
    (noted_like noted r test at.node.place place deed (reply_in (get_or table m []) deed) (after_of system (answer_in (get_or table m []) deed))
    (like_sym test place at.node.place (like_from_same test place at.node.place at.same))
    (may_at_node noted r test nodes at.node.place (edges_at edges m) (get_or table m []) system (expanded_at noted r test system nodes edges table m at.node x whole at.got) deed))

-- an end to which a schedule leads
pub record IsEndAt {S : Type 0} (r : Readings S) (test : Test) (nodes : List (Node S)) (edges : List (List Edge)) (system : S) (b : Behaviour S) (schedule : List Step) : Type 0 where
  pub m : ℕ
  pub node : Node S
  pub got : slice_get nodes m ≡ Some node
  pub none : edges_at edges m ≡ []
  pub seen : node.outcome ≡ outcome_after r b test system schedule
  pub far : length node.way ≤ length schedule

end_of_schedule : {S : Type 0} (noted : Noted S) (r : Readings S) (test : Test) (system : S) (nodes : List (Node S)) (edges : List (List Edge)) (table : List (List (Answer S)))
    → IsExploring noted r test system nodes edges table → length edges ≡ length nodes → (schedule : List Step)
    → IsSchedule (CanStep r (behave system table) test) (taken (behave system table) test) (opening_place system) schedule
    → IsEndAt r test nodes edges system (behave system table) schedule
end_of_schedule noted r test system nodes edges table x whole schedule is =
    let (way, end) = way_from_schedule (CanStep r (behave system table) test) (taken (behave system table) test) (opening_place system) schedule is in
    let start = at_start noted r test system nodes edges table x in
    let (m, (at, far)) = way_is_at noted r test system nodes edges table x whole schedule 0 (opening_place system) start way in
    let place = arrived (taken (behave system table) test) (opening_place system) schedule in
    let (first, got, opened, none) = x.begun in
    let short : length start.node.way ≡ 0 = ap (λ y. length y.way) (some_same (slice_get nodes 0) start.node first start.got got) ∙ ap length none in
    record {
      m = m;
      node = at.node;
      got = at.got;
      none = end_has_no_edges noted r test system nodes edges table m place x whole at end;
      seen = sym (seen_there noted r test system nodes edges table m place x at);
      far = omega (arith, far, short);
    }

pub explored_is_searched : {S : Type 0} (opens : S → Type 0) (noted : Noted S) (r : Readings S) (test : Test) (nodes : List (Node S)) (edges : List (List Edge)) (rows : List Row)
    → IsExplored opens noted r test nodes edges → AreRows nodes edges (length edges) rows → IsSearched opens noted r test rows
explored_is_searched {S} opens noted r test nodes edges rows (system, opened, table, x, whole) tells = record {
  system = system;
  behaviour = behave system table;
  opened = opened;
  lawful = explored_is_lawful noted r test system nodes edges table x whole;
  histogram = record {
    complete = complete;
    counted = counted;
    told = told;
    shortest = shortest;
    apart = tells.apart;
  };
}
  where
    complete : (schedule : List Step) → IsSchedule (CanStep r (behave system table) test) (taken (behave system table) test) (opening_place system) schedule
        → IsListed (outcomes rows) (outcome_after r (behave system table) test system schedule)
    complete schedule is =
        let e = end_of_schedule noted r test system nodes edges table x whole schedule is in
        let within = slice_get_within nodes e.m e.node e.got in
        subst (λ o. IsListed (outcomes rows) o) e.seen (tells.complete e.m e.node (omega (arith, within, whole)) e.got e.none)

    counted : (row : Row) → IsListed rows row → IsScheduleCount r (behave system table) test system row.outcome row.count
    counted row listed =
        let (routes, once, many, are) = tells.counted row listed in
        let start = at_start noted r test system nodes edges table x in (
          routes,
          once,
          many,
          λ schedule. (
            (λ there. route_is_schedule noted r test system nodes edges table x whole row.outcome schedule 0 (opening_place system) start ((are schedule).0 there)),
            (λ (is, seen). (are schedule).1 (schedule_is_route noted r test system nodes edges table x whole row.outcome schedule 0 (opening_place system) start is seen)),
          ),
        )

    told : (row : Row) → IsListed rows row → IsSchedule (CanStep r (behave system table) test) (taken (behave system table) test) (opening_place system) row.schedule
        × (outcome_after r (behave system table) test system row.schedule ≡ row.outcome)
    told row listed =
        let (k, node, got, none, seen, way, first) = tells.first row listed in
        let within = slice_get_within nodes k node got in
        let (led, at) = way_of_node noted r test system nodes edges table x whole (length nodes) k node within got in
        let place = arrived (taken (behave system table) test) (opening_place system) node.way in
        subst (λ steps. IsSchedule (CanStep r (behave system table) test) (taken (behave system table) test) (opening_place system) steps
        × (outcome_after r (behave system table) test system steps ≡ row.outcome)) way (
          schedule_from_way (CanStep r (behave system table) test) (taken (behave system table) test) (opening_place system) node.way led (no_edges_is_end noted r test system nodes edges table k place x whole at none),
          seen_there noted r test system nodes edges table k place x at ∙ ap (λ y. y.outcome) (some_same (slice_get nodes k) at.node node at.got got) ∙ seen,
        )

    shortest : (row : Row) → IsListed rows row → (schedule : List Step) → IsSchedule (CanStep r (behave system table) test) (taken (behave system table) test) (opening_place system) schedule
        → outcome_after r (behave system table) test system schedule ≡ row.outcome → length row.schedule ≤ length schedule
    shortest row listed schedule is like =
        let (k, node, got, none, seen, way, first) = tells.first row listed in
        let e = end_of_schedule noted r test system nodes edges table x whole schedule is in
        let sorted = x.sorted k e.m node e.node got e.got (first e.m e.node e.got e.none (e.seen ∙ like)) in
        let far = e.far in
        let same : length node.way ≡ length row.schedule = ap length way in
        omega (arith, sorted, far, same)

-- steps that go on for ever
walk_is_way : {S : Type 0} (noted : Noted S) (r : Readings S) (test : Test) (system : S) (nodes : List (Node S)) (edges : List (List Edge)) (table : List (List (Answer S)))
    → IsExploring noted r test system nodes edges table → length edges ≡ length nodes
    → (steps : List Step) (n : ℕ) (place : Place S) → IsAt test nodes table n place → IsWalk edges n steps
    → IsWay (CanStep r (behave system table) test) (taken (behave system table) test) place steps
walk_is_way noted r test system nodes edges table x whole [] n place at walk = tt
walk_is_way noted r test system nodes edges table x whole (step ∷ rest) n place at (to, listed, walk) = (
  at_edge noted r test system nodes edges table n place (record { step = step; to = to }) x whole at listed,
  walk_is_way noted r test system nodes edges table x whole rest to (taken (behave system table) test place step)
      (at_leads noted r test system nodes edges table n place (record { step = step; to = to }) x whole at listed) walk,
)

pub explored_is_endless : {S : Type 0} (opens : S → Type 0) (noted : Noted S) (r : Readings S) (test : Test) (nodes : List (Node S)) (edges : List (List Edge))
    → IsExplored opens noted r test nodes edges → GoesOnForEver edges 0 → IsEndless opens noted.rules r test
explored_is_endless opens noted r test nodes edges (system, opened, table, x, whole) goes = record {
  system = system;
  behaviour = behave system table;
  cells = noted.cells;
  opened = opened;
  lawful = explored_is_lawful noted r test system nodes edges table x whole;
  endless = λ count. let (walk, long, is) = goes count in
      (walk, long, walk_is_way noted r test system nodes edges table x whole walk 0 (opening_place system) (at_start noted r test system nodes edges table x) is);
}

-- so they are a graph
pub no_edges_past : (edges : List (List Edge)) (n : ℕ) → length edges ≤ n → edges_at edges n ≡ []
no_edges_past [] n past = refl
no_edges_past (first ∷ rest) zero past = absurd (omega arith)
no_edges_past (first ∷ rest) (suc n) past = no_edges_past rest n (omega arith)

pub explored_is_graph : {S : Type 0} (opens : S → Type 0) (noted : Noted S) (r : Readings S) (test : Test) (nodes : List (Node S)) (edges : List (List Edge))
    → IsExplored opens noted r test nodes edges → IsGraph nodes edges
explored_is_graph {S} opens noted r test nodes edges (system, opened, table, x, whole) = record {
  apart = λ n. apart n (slice_get_cases edges n).1;
  within = λ n edge listed. within n edge listed (slice_get_cases edges n).1;
  as_many = sym whole;
  some = let (node, got, _, _) = x.begun in let less = slice_get_within nodes 0 node got in omega (arith, less, whole);
}
  where
    apart : (n : ℕ) → ((es : List Edge) × (n < length edges) × (slice_get edges n ≡ Some es) × (get_or edges n es ≡ es)) ⊎ ((length edges ≤ n) × (slice_get edges n ≡ None)) → AreListedOnce (steps_of (edges_at edges n))
    apart n (inl (es, less, _, _)) = let (node, got, (first, ex, candidates)) = x.expanded n less in ex.once
    apart n (inr (past, _)) = subst (λ es. AreListedOnce (steps_of es)) (sym (no_edges_past edges n past)) tt

    within : (n : ℕ) (edge : Edge) → IsListed (edges_at edges n) edge → ((es : List Edge) × (n < length edges) × (slice_get edges n ≡ Some es) × (get_or edges n es ≡ es)) ⊎ ((length edges ≤ n) × (slice_get edges n ≡ None))
        → edge.to < length edges
    within n edge listed (inl (es, less, _, _)) =
        let (node, got, (first, ex, candidates)) = x.expanded n less in
        let (answer, _, _, _, (end, there, _)) = ex.leads edge listed in
        let inside = slice_get_within nodes edge.to end there in omega (arith, inside, whole)
    within n edge listed (inr (past, _)) = absurd (subst (λ es. IsListed es edge) (no_edges_past edges n past) listed)
