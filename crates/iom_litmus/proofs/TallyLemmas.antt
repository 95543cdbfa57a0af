-- How many routes there are.
use Rattle.std.proofs.Common.{◌≡◌, ◌↔◌, ◌⊎◌, inl, inr, ℕ, ◌+◌, ◌-◌, ◌<◌, ◌≤◌, zero, suc, nat_lt, Bool, true, false, ◌||◌, IsTrue, List, [], ◌∷◌, ◌++◌, map, Option, Some, None, is_some, Result, Ok, Err, IfOk, length, take, get_or, set, slice_get, refl, sym, ap, ◌∙◌, subst, arith, add-one}
use Rattle.std.proofs.lemmas.Bool.{false≢true, ltb-true, ltb-false}
use mir.Val.{bool_byte}
use Rattle.std.proofs.lemmas.Option.{slice_get_within, slice_get-get_or}
use Rattle.iom_litmus_test.specs.declared.observable.Value.{Value}
use Rattle.iom_litmus.specs.declared.histogram.Row.{Row}
use Rattle.iom_litmus.specs.declared.node.Edge.{Edge}
use Rattle.iom_litmus.specs.declared.node.Node.{Node}
use Rattle.iom_litmus.specs.declared.step.Step.{Step}
use Rattle.iom_litmus.specs.Graphs.{steps_of}
use Rattle.iom_litmus.specs.Histograms.{outcomes}
use Rattle.iom_litmus.specs.Listed.{IsListed, AreListedOnce}
use Rattle.iom_litmus.specs.Tallies.{edges_at, IsRoute, IsRouteBy, IsEndWith, AreSoMany, AreTallies, IsUntold, IsToldOf, IsSum, IsTally, IsStuckAt, untold, IsNothingTold, WasTold, WasPassed, IsWalk, GoesOnForEver, IsGraph, IsFirstEndWith, AreRows}
use Rattle.iom_litmus.proofs.ListedLemmas.{IsListed-push, IsListed-push_cases, AreListedOnce-push, last_is_listed}
use Rattle.iom_litmus.proofs.ExpandLemmas.{step_is_listed, slice_get_push_cases}

listed_map : {X Y : Type 0} (f : X → Y) (xs : List X) (y : Y) → IsListed (map f xs) y → (x : X) × IsListed xs x × (f x ≡ y)
listed_map f [] y listed = absurd listed
listed_map f (x ∷ rest) y (inl same) = (x, inl refl, same)
listed_map f (x ∷ rest) y (inr listed) = let (other, there, same) = listed_map f rest y listed in (other, inr there, same)

map_listed : {X Y : Type 0} (f : X → Y) (xs : List X) (x : X) → IsListed xs x → IsListed (map f xs) (f x)
map_listed f [] x listed = absurd listed
map_listed f (first ∷ rest) x (inl same) = inl (ap f same)
map_listed f (first ∷ rest) x (inr listed) = inr (map_listed f rest x listed)

once_map : {X Y : Type 0} (f : X → Y) (xs : List X) → ((a b : X) → f a ≡ f b → a ≡ b) → AreListedOnce xs → AreListedOnce (map f xs)
once_map f [] same once = tt
once_map f (x ∷ rest) same (apart, once) = (
  (λ listed. let (other, there, is) = listed_map f rest (f x) listed in apart (subst (λ y. IsListed rest y) (same other x is) there)),
  once_map f rest same once,
)

map_length : {X Y : Type 0} (f : X → Y) (xs : List X) → length (map f xs) ≡ length xs
map_length f [] = refl
map_length f (x ∷ rest) = ap suc (map_length f rest)

append_length : {X : Type 0} (xs ys : List X) → length (xs ++ ys) ≡ length xs + length ys
append_length [] ys = omega arith
append_length (x ∷ rest) ys = let later = append_length rest ys in omega (arith, later)

append_cases : {X : Type 0} (xs ys : List X) (x : X) → IsListed (xs ++ ys) x → IsListed xs x ⊎ IsListed ys x
append_cases [] ys x listed = inr listed
append_cases (first ∷ rest) ys x (inl same) = inl (inl same)
append_cases (first ∷ rest) ys x (inr listed) = elim (append_cases rest ys x listed) [ inl there ↦ inl (inr there) | inr there ↦ inr there ]

append_left : {X : Type 0} (xs ys : List X) (x : X) → IsListed xs x → IsListed (xs ++ ys) x
append_left [] ys x listed = absurd listed
append_left (first ∷ rest) ys x (inl same) = inl same
append_left (first ∷ rest) ys x (inr listed) = inr (append_left rest ys x listed)

append_right : {X : Type 0} (xs ys : List X) (x : X) → IsListed ys x → IsListed (xs ++ ys) x
append_right [] ys x listed = listed
append_right (first ∷ rest) ys x listed = inr (append_right rest ys x listed)

once_append : {X : Type 0} (xs ys : List X) → AreListedOnce xs → AreListedOnce ys → ((x : X) → IsListed xs x → ¬ IsListed ys x) → AreListedOnce (xs ++ ys)
once_append [] ys one other apart = other
once_append (first ∷ rest) ys (alone, one) other apart = (
  (λ listed. elim (append_cases rest ys first listed) [ inl there ↦ alone there | inr there ↦ apart first (inl refl) there ]),
  once_append rest ys one other (λ x there. apart x (inr there)),
)

-- a step before each
tails_same : (step : Step) (a b : List Step) → (step ∷ a) ≡ (step ∷ b) → a ≡ b
tails_same step a b is = cc

routes_by_none : {S : Type 0} (nodes : List (Node S)) (edges : List (List Edge)) (outcome : List Value) (route : List Step) → IsRouteBy nodes edges outcome [] route → ⊥
routes_by_none nodes edges outcome [] by = by
routes_by_none nodes edges outcome (step ∷ rest) (to, listed, route) = listed

-- the routes by one edge and those by others
routes_by_more : {S : Type 0} (nodes : List (Node S)) (edges : List (List Edge)) (outcome : List Value) (edge : Edge) (rest : List Edge) (one others : ℕ)
    → (¬ IsListed (steps_of rest) edge.step) → AreSoMany (IsRoute nodes edges outcome edge.to) one → AreSoMany (IsRouteBy nodes edges outcome rest) others
    → AreSoMany (IsRouteBy nodes edges outcome (edge ∷ rest)) (one + others)
routes_by_more {S} nodes edges outcome edge rest one others alone (mine, mine_once, many, mine_are) (theirs, theirs_once, more, theirs_are) = (
  map (λ route. edge.step ∷ route) mine ++ theirs,
  once_append (map (λ route. edge.step ∷ route) mine) theirs (once_map (λ route. edge.step ∷ route) mine (λ a b same. tails_same edge.step a b same) mine_once) theirs_once
      (λ route here there. apart route (listed_map (λ r. edge.step ∷ r) mine route here) ((theirs_are route).0 there)),
  append_length (map (λ route. edge.step ∷ route) mine) theirs ∙ (let mapped = map_length (λ route. edge.step ∷ route) mine in omega (arith, mapped, many, more)),
  λ route. ((λ listed. from route (append_cases (map (λ r. edge.step ∷ r) mine) theirs route listed)), back route),
)
  where
    apart : (route : List Step) → (r : List Step) × IsListed mine r × (edge.step ∷ r ≡ route) → IsRouteBy nodes edges outcome rest route → ⊥
    apart [] (r, there, same) by = by
    apart (step ∷ later) (r, there, same) (to, listed, route) =
        let is : edge.step ≡ step = cc in alone (subst (λ s. IsListed (steps_of rest) s) (sym is) (step_is_listed rest (record { step = step; to = to }) listed))

    from : (route : List Step) → IsListed (map (λ r. edge.step ∷ r) mine) route ⊎ IsListed theirs route → IsRouteBy nodes edges outcome (edge ∷ rest) route
    from route (inl listed) = let (r, there, same) = listed_map (λ r. edge.step ∷ r) mine route listed in
        subst (λ x. IsRouteBy nodes edges outcome (edge ∷ rest) x) same (edge.to, inl refl, (mine_are r).0 there)
    from route (inr listed) = wider route ((theirs_are route).0 listed)
      where
        wider : (x : List Step) → IsRouteBy nodes edges outcome rest x → IsRouteBy nodes edges outcome (edge ∷ rest) x
        wider [] by = by
        wider (step ∷ later) (to, there, is) = (to, inr there, is)

    back : (route : List Step) → IsRouteBy nodes edges outcome (edge ∷ rest) route → IsListed (map (λ r. edge.step ∷ r) mine ++ theirs) route
    back [] by = absurd by
    back (step ∷ later) (to, inl same, is) =
        append_left (map (λ r. edge.step ∷ r) mine) theirs (step ∷ later)
        (subst (λ s. IsListed (map (λ r. edge.step ∷ r) mine) (s ∷ later)) (ap (λ e. e.step) same)
        (map_listed (λ r. edge.step ∷ r) mine later ((mine_are later).1 (subst (λ n. IsRoute nodes edges outcome n later) (sym (ap (λ e. e.to) same)) is))))
    back (step ∷ later) (to, inr there, is) = append_right (map (λ r. edge.step ∷ r) mine) theirs (step ∷ later) ((theirs_are (step ∷ later)).1 (to, there, is))

-- the sum of what is told counts the routes by these edges
sum_counts : {S : Type 0} (nodes : List (Node S)) (edges : List (List Edge)) (outcome : List Value) (tallies : List (Option ℕ)) (by : List Edge) (sum : ℕ)
    → AreTallies nodes edges outcome tallies → AreListedOnce (steps_of by) → IsSum tallies by (Some sum) → AreSoMany (IsRouteBy nodes edges outcome by) sum
sum_counts nodes edges outcome tallies [] sum told once is = ([], tt, sym is, λ route. ((λ none. absurd none), routes_by_none nodes edges outcome route))
sum_counts nodes edges outcome tallies (edge ∷ rest) sum told (alone, once) (one, others, here, later, is) =
    subst (λ n. AreSoMany (IsRouteBy nodes edges outcome (edge ∷ rest)) n) (sym is)
    (routes_by_more nodes edges outcome edge rest one others alone (told edge.to one here) (sum_counts nodes edges outcome tallies rest others told once later))

-- where edges go on, routes are by edges
route_by : {S : Type 0} (nodes : List (Node S)) (edges : List (List Edge)) (outcome : List Value) (n count : ℕ) → (¬ (edges_at edges n ≡ []))
    → AreSoMany (IsRouteBy nodes edges outcome (edges_at edges n)) count → AreSoMany (IsRoute nodes edges outcome n) count
route_by {S} nodes edges outcome n count some (routes, once, many, are) = (routes, once, many, λ route. ((λ listed. from route ((are route).0 listed)), (λ is. (are route).1 (back route is))))
  where
    from : (route : List Step) → IsRouteBy nodes edges outcome (edges_at edges n) route → IsRoute nodes edges outcome n route
    from [] by = absurd by
    from (step ∷ rest) by = by

    back : (route : List Step) → IsRoute nodes edges outcome n route → IsRouteBy nodes edges outcome (edges_at edges n) route
    back [] (none, end) = absurd (some none)
    back (step ∷ rest) is = is

pub tally_from_sum : {S : Type 0} (nodes : List (Node S)) (edges : List (List Edge)) (outcome : List Value) (tallies : List (Option ℕ)) (n : ℕ) (by : List Edge) (sum : Option ℕ)
    → AreTallies nodes edges outcome tallies → IsGraph nodes edges → by ≡ edges_at edges n → (¬ (by ≡ [])) → IsSum tallies by sum → IsTally nodes edges outcome tallies n sum
tally_from_sum nodes edges outcome tallies n by None told graph is some (edge, listed, none) = (edge, subst (λ es. IsListed es edge) is listed, none)
tally_from_sum nodes edges outcome tallies n by (Some sum) told graph is some sums =
    route_by nodes edges outcome n sum (λ none. some (is ∙ none))
    (sum_counts nodes edges outcome tallies (edges_at edges n) sum told (graph.apart n) (subst (λ es. IsSum tallies es (Some sum)) is sums))

-- where none does, there is one route or none
pub end_counts_one : {S : Type 0} (nodes : List (Node S)) (edges : List (List Edge)) (outcome : List Value) (n : ℕ) (node : Node S)
    → edges_at edges n ≡ [] → slice_get nodes n ≡ Some node → node.outcome ≡ outcome → AreSoMany (IsRoute nodes edges outcome n) 1
end_counts_one {S} nodes edges outcome n node none got same = ([] ∷ [], ((λ listed. listed), tt), refl, λ route. (from route, back route))
  where
    from : (route : List Step) → IsListed ([] ∷ []) route → IsRoute nodes edges outcome n route
    from route (inl is) = subst (λ x. IsRoute nodes edges outcome n x) is (none, (node, got, same))
    from route (inr listed) = absurd listed

    back : (route : List Step) → IsRoute nodes edges outcome n route → IsListed ([] ∷ []) route
    back [] is = inl refl
    back (step ∷ rest) (to, listed, is) = absurd (subst (λ es. IsListed es (record { step = step; to = to })) none listed)

pub end_counts_none : {S : Type 0} (nodes : List (Node S)) (edges : List (List Edge)) (outcome : List Value) (n : ℕ) (node : Node S)
    → edges_at edges n ≡ [] → slice_get nodes n ≡ Some node → (¬ (node.outcome ≡ outcome)) → AreSoMany (IsRoute nodes edges outcome n) 0
end_counts_none {S} nodes edges outcome n node none got other = ([], tt, refl, λ route. ((λ listed. absurd listed), back route))
  where
    back : (route : List Step) → IsRoute nodes edges outcome n route → ⊥
    back [] (_, (end, at, same)) =
        let both : Some node ≡ Some end = sym got ∙ at in let is : node ≡ end = cc in other (ap (λ x. x.outcome) is ∙ same)
    back (step ∷ rest) (to, listed, is) = subst (λ es. IsListed es (record { step = step; to = to })) none listed

-- one more is told
told_cases : {X : Type 0} (xs : List X) (n m : ℕ) (y x : X) → slice_get (set xs n y) m ≡ Some x → (slice_get xs m ≡ Some x) ⊎ ((m ≡ n) × (y ≡ x))
told_cases [] n m y x at = absurd cc
told_cases (first ∷ rest) zero zero y x at = inr (refl, cc)
told_cases (first ∷ rest) zero (suc m) y x at = inl at
told_cases (first ∷ rest) (suc n) zero y x at = inl at
told_cases (first ∷ rest) (suc n) (suc m) y x at = elim (told_cases rest n m y x at) [ inl there ↦ inl there | inr here ↦ inr (omega (arith, here.0), here.1) ]

untold_less : (tallies : List (Option ℕ)) (n count : ℕ) → slice_get tallies n ≡ Some None → untold (set tallies n (Some count)) < untold tallies
untold_less [] n count at = absurd cc
untold_less (first ∷ rest) zero count at = let is : first ≡ None = cc in subst (λ o. untold rest < untold (o ∷ rest)) (sym is) (omega arith)
untold_less (None ∷ rest) (suc n) count at = let later = untold_less rest n count at in omega (arith, later)
untold_less (Some one ∷ rest) (suc n) count at = untold_less rest n count at

set_length : {X : Type 0} (xs : List X) (n : ℕ) (y : X) → length (set xs n y) ≡ length xs
set_length [] n y = refl
set_length (first ∷ rest) zero y = refl
set_length (first ∷ rest) (suc n) y = ap suc (set_length rest n y)

pub was_told : {S : Type 0} (nodes : List (Node S)) (edges : List (List Edge)) (outcome : List Value) (n count : ℕ) (old new : List (Option ℕ))
    → AreTallies nodes edges outcome old → slice_get old n ≡ Some None → AreSoMany (IsRoute nodes edges outcome n) count → new ≡ set old n (Some count)
    → WasTold nodes edges outcome n old new true
was_told nodes edges outcome n count old new told none counts is =
    subst (λ xs. WasTold nodes edges outcome n old xs true) (sym is) (
      (λ m other at. elim (told_cases old n m (Some count) (Some other) at) [
        | inl there ↦ told m other there
        | inr here ↦ let same : count ≡ other = cc in subst (λ c. AreSoMany (IsRoute nodes edges outcome m) c) same (subst (λ k. AreSoMany (IsRoute nodes edges outcome k) count) (sym here.0) counts)
      ]),
      set_length old n (Some count),
      untold_less old n count none,
    )

-- of one more place
pub passed_next : {S : Type 0} (nodes : List (Node S)) (edges : List (List Edge)) (outcome : List Value) (back number : ℕ) (old mid new : List (Option ℕ)) (any told : Bool)
    → WasPassed nodes edges outcome back old mid any → WasTold nodes edges outcome number mid new told → back < length edges → number + 1 + back ≡ length edges
    → WasPassed nodes edges outcome (back + 1) old new (any || told)
passed_next nodes edges outcome back number old mid new true true (tallies, long, less) (later, also, fewer) within is = (later, also ∙ long, omega (arith, less, fewer))
passed_next nodes edges outcome back number old mid new true false (tallies, long, less) (same, stuck) within is =
    (subst (λ xs. AreTallies nodes edges outcome xs) (sym same) tallies, ap length same ∙ long, subst (λ xs. untold xs < untold old) (sym same) less)
passed_next nodes edges outcome back number old mid new false true (same, stuck) (later, also, fewer) within is =
    (later, also ∙ ap length same, subst (λ xs. untold new < untold xs) same fewer)
passed_next nodes edges outcome back number old mid new false false (same, stuck) (also, here) within is = (also ∙ same, λ n less far. by n less far (nat_lt n number) refl)
  where
    by : (n : ℕ) → n < length edges → length edges ≤ n + (back + 1) → (b : Bool) → nat_lt n number ≡ b → IsStuckAt edges old n
    by n less far true e = absurd (let below : n < number = ltb-true n number e in omega (arith, below, far, is))
    by n less far false e =
        let above : number ≤ n = ltb-false n number e in at n less far above (nat_lt number n) refl
      where
        at : (m : ℕ) → m < length edges → length edges ≤ m + (back + 1) → number ≤ m → (b : Bool) → nat_lt number m ≡ b → IsStuckAt edges old m
        at m less far above true more = let further : number < m = ltb-true number m more in stuck m less (omega (arith, further, is))
        at m less far above false no_more =
            let beneath : m ≤ number = ltb-false number m no_more in
            let equal : number ≡ m = omega (arith, above, beneath) in
            subst (λ xs. IsStuckAt edges xs m) same (subst (λ k. IsStuckAt edges mid k) equal here)

pub passed_none : {S : Type 0} (nodes : List (Node S)) (edges : List (List Edge)) (outcome : List Value) (tallies : List (Option ℕ)) → WasPassed nodes edges outcome 0 tallies tallies false
passed_none nodes edges outcome tallies = (refl, λ n less far. absurd (omega (arith, less, far)))

-- where nothing more can be told, steps go on for ever
stuck_walks : {S : Type 0} (nodes : List (Node S)) (edges : List (List Edge)) (tallies : List (Option ℕ)) → IsGraph nodes edges → ((n : ℕ) → n < length edges → IsStuckAt edges tallies n)
    → (count n : ℕ) → n < length edges → IsUntold tallies n → (walk : List Step) × (length walk ≡ count) × IsWalk edges n walk
stuck_walks nodes edges tallies graph stuck zero n less none = ([], refl, tt)
stuck_walks nodes edges tallies graph stuck (suc count) n less none =
    let (edge, listed, also) = stuck n less none in
    let (walk, long, is) = stuck_walks nodes edges tallies graph stuck count edge.to (graph.within n edge listed) also in
    (edge.step ∷ walk, ap suc long, (edge.to, listed, is))

pub stuck_goes_on : {S : Type 0} (nodes : List (Node S)) (edges : List (List Edge)) (outcome : List Value) (old new : List (Option ℕ)) → IsGraph nodes edges
    → WasPassed nodes edges outcome (length edges) old new false → IsUntold old 0 → GoesOnForEver edges 0
stuck_goes_on nodes edges outcome old new graph (same, stuck) none count =
    stuck_walks nodes edges old graph (λ n less. stuck n less (omega arith)) count 0 graph.some none

-- rows
pub rows_none : {S : Type 0} (nodes : List (Node S)) (edges : List (List Edge)) → AreRows nodes edges 0 []
rows_none nodes edges = record {
  complete = λ k node less got none. absurd (omega (arith, less));
  counted = λ row listed. absurd listed;
  first = λ row listed. absurd listed;
  apart = tt;
}

-- one more place, of which a row tells if a schedule ends there
pub rows_past : {S : Type 0} (nodes : List (Node S)) (edges : List (List Edge)) (n : ℕ) (rows : List Row) → AreRows nodes edges n rows
    → ((node : Node S) → slice_get nodes n ≡ Some node → edges_at edges n ≡ [] → IsListed (outcomes rows) node.outcome) → AreRows nodes edges (n + 1) rows
rows_past {S} nodes edges n rows are tells = record {
  complete = λ k node less got none. by k node less got none (nat_lt k n) refl;
  counted = are.counted;
  first = are.first;
  apart = are.apart;
}
  where
    by : (k : ℕ) (node : Node S) → k < n + 1 → slice_get nodes k ≡ Some node → edges_at edges k ≡ [] → (b : Bool) → nat_lt k n ≡ b → IsListed (outcomes rows) node.outcome
    by k node less got none true e = are.complete k node (ltb-true k n e) got none
    by k node less got none false e =
        let above : n ≤ k = ltb-false k n e in let equal : k ≡ n = omega (arith, above, less) in
        tells node (subst (λ m. slice_get nodes m ≡ Some node) equal got) (subst (λ m. edges_at edges m ≡ []) equal none)

outcomes-push : (rows : List Row) (row : Row) → outcomes (rows ++ row ∷ []) ≡ outcomes rows ++ row.outcome ∷ []
outcomes-push [] row = refl
outcomes-push (first ∷ rest) row = ap (λ os. first.outcome ∷ os) (outcomes-push rest row)

-- or one more row
pub rows_more : {S : Type 0} (nodes : List (Node S)) (edges : List (List Edge)) (n : ℕ) (rows new : List Row) (node : Node S) (row : Row) → AreRows nodes edges n rows
    → slice_get nodes n ≡ Some node → edges_at edges n ≡ [] → (¬ IsListed (outcomes rows) node.outcome)
    → AreSoMany (IsRoute nodes edges row.outcome 0) row.count → row.outcome ≡ node.outcome → row.schedule ≡ node.way → new ≡ rows ++ row ∷ []
    → AreRows nodes edges (n + 1) new
rows_more {S} nodes edges n rows new node row are got none apart counts seen way is =
    subst (λ rs. AreRows nodes edges (n + 1) rs) (sym is) (rows_past nodes edges n (rows ++ row ∷ []) (record {
      complete = λ k other less at end. subst (λ os. IsListed os other.outcome) (sym (outcomes-push rows row)) (IsListed-push (outcomes rows) row.outcome other.outcome (are.complete k other less at end));
      counted = λ other listed. elim (IsListed-push_cases rows row other listed) [
        | inl there ↦ are.counted other there
        | inr same ↦ subst (λ x. AreSoMany (IsRoute nodes edges x.outcome 0) x.count) same counts
      ];
      first = λ other listed. elim (IsListed-push_cases rows row other listed) [
        | inl there ↦ are.first other there
        | inr same ↦ subst (λ x. IsFirstEndWith nodes edges x.outcome x.schedule) same (n, node, got, none, sym seen, sym way, λ j later at end like. before j later at end like (nat_lt j n) refl)
      ];
      apart = subst (λ os. AreListedOnce os) (sym (outcomes-push rows row)) (AreListedOnce-push (outcomes rows) row.outcome are.apart (λ listed. apart (subst (λ o. IsListed (outcomes rows) o) seen listed)));
    }) (λ other at end.
    let both : Some node ≡ Some other = sym got ∙ at in let same : node ≡ other = cc in
    subst (λ os. IsListed os other.outcome) (sym (outcomes-push rows row))
    (subst (λ o. IsListed (outcomes rows ++ row.outcome ∷ []) o) (seen ∙ ap (λ x. x.outcome) same) (last_is_listed (outcomes rows) row.outcome))))
  where
    before : (j : ℕ) (later : Node S) → slice_get nodes j ≡ Some later → edges_at edges j ≡ [] → later.outcome ≡ row.outcome → (b : Bool) → nat_lt j n ≡ b → n ≤ j
    before j later at end like true e = absurd (apart (subst (λ o. IsListed (outcomes rows) o) (like ∙ seen) (are.complete j later (ltb-true j n e) at end)))
    before j later at end like false e = ltb-false j n e

-- what the code's tests say
pub edges_from : (edges : List (List Edge)) (n : ℕ) (shown d : List Edge) → shown ≡ get_or edges n d → n < length edges → shown ≡ edges_at edges n
edges_from edges n shown d is within = is ∙ by edges n within
  where
    by : (xs : List (List Edge)) (k : ℕ) → k < length xs → get_or xs k d ≡ get_or xs k []
    by [] k less = absurd (omega (arith, less))
    by (first ∷ rest) zero less = refl
    by (first ∷ rest) (suc k) less = by rest k (omega (arith, less))

pub if_ok_map : {T E : Type 0} (result : Result T E) (P Q : T → Type 0) → ((x : T) → P x → Q x) → IfOk result P → IfOk result Q
if_ok_map (Ok x) P Q f p = f x p
if_ok_map (Err e) P Q f p = p

pub end_counts : {S : Type 0} (nodes : List (Node S)) (edges : List (List Edge)) (outcome shown told : List Value) (n : ℕ) (node : Node S) (same : Bool)
    → (IsTrue same ↔ (shown ≡ told)) → shown ≡ node.outcome → told ≡ outcome → edges_at edges n ≡ [] → slice_get nodes n ≡ Some node → AreSoMany (IsRoute nodes edges outcome n) (bool_byte same)
end_counts nodes edges outcome shown told n node true (is, _) shows tells none got = end_counts_one nodes edges outcome n node none got (sym shows ∙ is refl ∙ tells)
end_counts nodes edges outcome shown told n node false (_, is) shows tells none got =
    end_counts_none nodes edges outcome n node none got (λ same. false≢true (is (shows ∙ same ∙ sym tells)))

pub told_keeps : {S : Type 0} (nodes : List (Node S)) (edges : List (List Edge)) (outcome : List Value) (n : ℕ) (mid new : List (Option ℕ)) (told : Bool)
    → AreTallies nodes edges outcome mid → WasTold nodes edges outcome n mid new told → AreTallies nodes edges outcome new × (length new ≡ length mid)
told_keeps nodes edges outcome n mid new true tallies (later, long, fewer) = (later, long)
told_keeps nodes edges outcome n mid new false tallies (same, stuck) = (subst (λ xs. AreTallies nodes edges outcome xs) (sym same) tallies, ap length same)

pub passed_on : {S : Type 0} (nodes : List (Node S)) (edges : List (List Edge)) (outcome : List Value) (back number : ℕ) (old mid new : List (Option ℕ)) (any told now : Bool)
    → AreTallies nodes edges outcome mid × (length mid ≡ length edges) × WasPassed nodes edges outcome back old mid any
    → WasTold nodes edges outcome number mid new told → back < length edges → number + 1 + back ≡ length edges → now ≡ (any || told)
    → AreTallies nodes edges outcome new × (length new ≡ length edges) × WasPassed nodes edges outcome (back + 1) old new now
passed_on nodes edges outcome back number old mid new any told now (tallies, long, passed) was within is same =
    let (later, kept) = told_keeps nodes edges outcome number mid new told tallies was in
    (later, kept ∙ long, subst (λ b. WasPassed nodes edges outcome (back + 1) old new b) (sym same) (passed_next nodes edges outcome back number old mid new any told passed was within is))

pub none_is : (o : Option ℕ) → is_some o ≡ false → o ≡ None
none_is None is = refl
none_is (Some x) is = absurd (false≢true (sym is))

pub first_is_none : (tallies : List (Option ℕ)) (d : Option ℕ) → 0 < length tallies → get_or tallies 0 d ≡ None → slice_get tallies 0 ≡ Some None
first_is_none [] d some is = absurd (omega (arith, some))
first_is_none (first ∷ rest) d some is = ap (λ x. Some x) is

pub told_within : (tallies : List (Option ℕ)) (n : ℕ) (d : Option ℕ) → n < length tallies → IsToldOf tallies n (get_or tallies n d)
told_within tallies n d within = by (get_or tallies n d) (slice_get-get_or tallies n d within)
  where
    by : (o : Option ℕ) → slice_get tallies n ≡ Some o → IsToldOf tallies n o
    by None at = λ count is. let both : ◌≡◌ {A = Option (Option ℕ)} (Some None) (Some (Some count)) = sym at ∙ is in
        let none : ◌≡◌ {A = Option ℕ} None (Some count) = cc in absurd cc
    by (Some count) at = at

pub told_past : (tallies : List (Option ℕ)) (n : ℕ) → length tallies ≤ n → IsToldOf tallies n None
told_past tallies n past count at = let within = slice_get_within tallies n (Some count) at in omega (arith, past, within)
