-- What the edges of one more place add to the search.
use Rattle.std.proofs.Common.{◌≡◌, ◌⊎◌, inl, inr, ℕ, ◌+◌, ◌<◌, ◌≤◌, zero, suc, nat_lt, Bool, true, false, List, [], ◌∷◌, ◌++◌, Option, Some, None, length, take, get_or, slice_get, refl, sym, ap, ◌∙◌, subst, arith}
use Rattle.std.proofs.lemmas.Bool.{ltb-true, ltb-false}
use Rattle.std.proofs.lemmas.Option.{slice_get_within, get_or_from_slice_get}
use Rattle.iom_litmus_test.specs.declared.test.Test.{Test}
use Rattle.iom_litmus.specs.declared.node.Edge.{Edge}
use Rattle.iom_litmus.specs.declared.node.Node.{Node}
use Rattle.iom_litmus.specs.declared.place.Place.{Place}
use Rattle.iom_litmus.specs.declared.step.Step.{Step}
use Rattle.iom_litmus.specs.Graphs.{Answer, IsExpanded, WasExpanded, WasPut, AreFoundBy, HasGrown}
use Rattle.iom_litmus.specs.Listed.{IsListed}
use Rattle.iom_litmus.specs.Readings.{Readings}
use Rattle.iom_litmus.specs.Rules.{Rules, Noted}
use Rattle.iom_litmus.specs.Searches.{IsExploring, IsExplored, IsFoundBy, LeadsOn}
use Rattle.iom_litmus.specs.Graphs.{WasTried}
use Rattle.iom_litmus.specs.declared.taking.Tried.{Tried}
use Rattle.iom_litmus.specs.declared.taking.Tried.TheVariants.{Taken}
use Rattle.iom_litmus.specs.Seen.{seen_at}
use Rattle.iom_litmus.specs.Steps.{opening_place}
use Rattle.iom_litmus.specs.Tallies.{edges_at}
use Rattle.iom_litmus.proofs.ExpandLemmas.{expands_grown, slice_get_grown, slice_get_push_cases, take_next}
use Rattle.iom_litmus.proofs.ExploreLemmas.{some_same, no_edges_past}

pub push_length : {X : Type 0} (xs : List X) (y : X) → length (xs ++ y ∷ []) ≡ length xs + 1
push_length [] y = refl
push_length (first ∷ rest) y = let later = push_length rest y in omega (arith, later)

push_before : {X : Type 0} (xs : List X) (y d : X) (n : ℕ) → n < length xs → get_or (xs ++ y ∷ []) n d ≡ get_or xs n d
push_before [] y d n less = absurd (omega (arith, less))
push_before (first ∷ rest) y d zero less = refl
push_before (first ∷ rest) y d (suc n) less = push_before rest y d n (omega (arith, less))

push_at : {X : Type 0} (xs : List X) (y d : X) → get_or (xs ++ y ∷ []) (length xs) d ≡ y
push_at [] y d = refl
push_at (first ∷ rest) y d = push_at rest y d

kept_back : {S : Type 0} (old new : List (Node S)) (k : ℕ) (node : Node S) → HasGrown old new → k < length old → slice_get new k ≡ Some node → slice_get old k ≡ Some node
kept_back {S} old new k node (added, is) less got = by old k less (subst (λ xs. slice_get xs k ≡ Some node) is got)
  where
    by : (xs : List (Node S)) (n : ℕ) → n < length xs → slice_get (xs ++ added) n ≡ Some node → slice_get xs n ≡ Some node
    by [] n less at = absurd (omega (arith, less))
    by (first ∷ rest) zero less at = at
    by (first ∷ rest) (suc n) less at = by rest n (omega (arith, less)) at

grown_length : {S : Type 0} (old new : List (Node S)) → HasGrown old new → length old ≤ length new
grown_length {S} old new (added, is) = subst (λ xs. length old ≤ length xs) (sym is) (by old)
  where
    by : (xs : List (Node S)) → length xs ≤ length (xs ++ added)
    by [] = omega arith
    by (first ∷ rest) = let later = by rest in omega (arith, later)

-- the search begins
pub exploring_begins : {S : Type 0} (noted : Noted S) (r : Readings S) (test : Test) (system : S) (place : Place S) (way : List Step) (nodes : List (Node S)) (to : ℕ)
    → WasPut r test way place [] nodes to → place ≡ opening_place system → way ≡ [] → IsExploring noted r test system nodes [] []
exploring_begins noted r test system place way nodes to (inl ((node, got, same), is)) opening none = absurd cc
exploring_begins {S} noted r test system place way nodes to (inr (node, is, at, there, by, seen)) opening none = record {
  begun = (node, subst (λ xs. slice_get xs 0 ≡ Some node) (sym is) refl, there ∙ opening, by ∙ none);
  answered = refl;
  within = omega arith;
  expanded = λ n less. absurd (omega (arith, less));
  found = λ k found more got. let (first, _) = only k found got in absurd (omega (arith, more, first));
  seen = λ k found got. let (_, same) = only k found got in subst (λ x. x.outcome ≡ seen_at r test x.place) same (seen ∙ ap (seen_at r test) (sym there));
  sorted = λ j k earlier later one other order. let (_, same) = only j earlier one in let (_, also) = only k later other in
      let long : length earlier.way ≡ length later.way = ap (λ x. length x.way) (sym same ∙ also) in omega (arith, long);
  near = λ n node end edge listed. absurd listed;
  next = λ k found current one other. let (_, same) = only 0 current one in let (_, also) = only k found other in
      let long : length found.way ≡ length current.way = ap (λ x. length x.way) (sym also ∙ same) in omega (arith, long);
}
  where
    only : (k : ℕ) (found : Node S) → slice_get nodes k ≡ Some found → (k ≡ 0) × (node ≡ found)
    only k found got = elim (slice_get_push_cases [] node k found (subst (λ xs. slice_get xs k ≡ Some found) is got)) [ inl there ↦ absurd cc | inr here ↦ here ]

-- one more place has its edges
pub exploring_more : {S : Type 0} (noted : Noted S) (r : Readings S) (test : Test) (system : S) (old new : List (Node S)) (edges : List (List Edge)) (table : List (List (Answer S))) (node : Node S) (onward : List Edge)
    → IsExploring noted r test system old edges table → slice_get old (length edges) ≡ Some node → (was : WasExpanded noted r test node old new onward)
    → IsExploring noted r test system new (edges ++ onward ∷ []) (table ++ was.answers ∷ [])
exploring_more {S} noted r test system old new edges table node onward x here was = record {
  begun = let (first, got, place, way) = x.begun in (first, slice_get_grown old new 0 first was.grown got, place, way);
  answered = push_length table was.answers ∙ ap (λ n. n + 1) x.answered ∙ sym (push_length edges onward);
  within = let less = slice_get_within old (length edges) node here in let more = grown_length old new was.grown in let long = push_length edges onward in omega (arith, less, more, long);
  expanded = λ n less. expanded n (let long = push_length edges onward in omega (arith, less, long)) (nat_lt n (length edges)) refl;
  found = λ k found more got. found_by k found more got (nat_lt k (length old)) refl;
  seen = λ k found got. seen k found got (nat_lt k (length old)) refl;
  sorted = λ j k earlier later one other order. sorted j k earlier later one other order (nat_lt j (length old)) (nat_lt k (length old)) refl refl;
  near = λ n from end edge listed got ends. near n from end edge listed got ends (nat_lt n (length edges)) refl;
  next = λ k found current one other.
      let far = far k found other in
      let ordered = sorted (length edges) (length (edges ++ onward ∷ [])) node current (slice_get_grown old new (length edges) node was.grown here) one
      (let long = push_length edges onward in omega (arith, long)) (nat_lt (length edges) (length old)) (nat_lt (length (edges ++ onward ∷ [])) (length old)) refl refl in
      omega (arith, far, ordered);
}
  where
    new_way : (k : ℕ) (found : Node S) → length old ≤ k → slice_get new k ≡ Some found → length found.way ≡ length node.way + 1
    new_way k found past got = let (_, (edge, listed, to, way)) = was.found k found past got in ap length way ∙ push_length node.way edge.step

    far : (k : ℕ) (found : Node S) → slice_get new k ≡ Some found → length found.way ≤ length node.way + 1
    far k found got = by (nat_lt k (length old)) refl
      where
        by : (b : Bool) → nat_lt k (length old) ≡ b → length found.way ≤ length node.way + 1
        by true e = x.next k found node here (kept_back old new k found was.grown (ltb-true k (length old) e) got)
        by false e = let long = new_way k found (ltb-false k (length old) e) got in omega (arith, long)

    expanded : (n : ℕ) → n < length edges + 1 → (b : Bool) → nat_lt n (length edges) ≡ b
        → (at : Node S) × (slice_get new n ≡ Some at) × IsExpanded noted r test new at.place (edges_at (edges ++ onward ∷ []) n) (get_or (table ++ was.answers ∷ []) n [])
    expanded n less true e =
        let before : n < length edges = ltb-true n (length edges) e in
        let long = x.answered in
        let (at, got, (first, ex, candidates)) = x.expanded n before in (
          at,
          slice_get_grown old new n at was.grown got,
          subst (λ es. IsExpanded noted r test new at.place es (get_or (table ++ was.answers ∷ []) n [])) (sym (push_before edges onward [] n before))
              (subst (λ as_here. IsExpanded noted r test new at.place (edges_at edges n) as_here) (sym (push_before table was.answers [] n (omega (arith, before, long))))
              (first, expands_grown noted r test old new at.place first (edges_at edges n) (get_or table n []) was.grown ex, candidates)),
        )
    expanded n less false e =
        let equal : length edges ≡ n = (let above = ltb-false n (length edges) e in omega (arith, above, less)) in
        let also : length table ≡ n = x.answered ∙ equal in (
          node,
          slice_get_grown old new n node was.grown (subst (λ k. slice_get old k ≡ Some node) equal here),
          subst (λ es. IsExpanded noted r test new node.place es (get_or (table ++ was.answers ∷ []) n [])) (sym (subst (λ k. get_or (edges ++ onward ∷ []) k [] ≡ onward) equal (push_at edges onward [])))
              (subst (λ as_here. IsExpanded noted r test new node.place onward as_here) (sym (subst (λ k. get_or (table ++ was.answers ∷ []) k [] ≡ was.answers) also (push_at table was.answers []))) was.all),
        )

    unchanged : (n : ℕ) (edge : Edge) → IsListed (edges_at edges n) edge → IsListed (edges_at (edges ++ onward ∷ []) n) edge
    unchanged n edge listed = by (nat_lt n (length edges)) refl
      where
        by : (b : Bool) → nat_lt n (length edges) ≡ b → IsListed (edges_at (edges ++ onward ∷ []) n) edge
        by true e = subst (λ es. IsListed es edge) (sym (push_before edges onward [] n (ltb-true n (length edges) e))) listed
        by false e = absurd (subst (λ es. IsListed es edge) (no_edges_past edges n (ltb-false n (length edges) e)) listed)

    found_by : (k : ℕ) (found : Node S) → 0 < k → slice_get new k ≡ Some found → (b : Bool) → nat_lt k (length old) ≡ b → IsFoundBy new (edges ++ onward ∷ []) k found
    found_by k found more got true e =
        let (n, before, earlier, there, edge, listed, to, way) = x.found k found more (kept_back old new k found was.grown (ltb-true k (length old) e) got) in
        (n, before, earlier, slice_get_grown old new n earlier was.grown there, edge, unchanged n edge listed, to, way)
    found_by k found more got false e =
        let (_, (edge, listed, to, way)) = was.found k found (ltb-false k (length old) e) got in
        let less = slice_get_within old (length edges) node here in
        let past = ltb-false k (length old) e in (
          length edges,
          omega (arith, less, past),
          node,
          slice_get_grown old new (length edges) node was.grown here,
          edge,
          subst (λ es. IsListed es edge) (sym (push_at edges onward [])) listed,
          to,
          way,
        )

    seen : (k : ℕ) (found : Node S) → slice_get new k ≡ Some found → (b : Bool) → nat_lt k (length old) ≡ b → found.outcome ≡ seen_at r test found.place
    seen k found got true e = x.seen k found (kept_back old new k found was.grown (ltb-true k (length old) e) got)
    seen k found got false e = (was.found k found (ltb-false k (length old) e) got).0

    sorted : (j k : ℕ) (earlier later : Node S) → slice_get new j ≡ Some earlier → slice_get new k ≡ Some later → j ≤ k → (a b : Bool) → nat_lt j (length old) ≡ a → nat_lt k (length old) ≡ b
        → length earlier.way ≤ length later.way
    sorted j k earlier later one other order true true e f =
        x.sorted j k earlier later (kept_back old new j earlier was.grown (ltb-true j (length old) e) one) (kept_back old new k later was.grown (ltb-true k (length old) f) other) order
    sorted j k earlier later one other order true false e f =
        let short = far j earlier one in let long = new_way k later (ltb-false k (length old) f) other in omega (arith, short, long)
    sorted j k earlier later one other order false true e f =
        absurd (let past = ltb-false j (length old) e in let before : k < length old = ltb-true k (length old) f in omega (arith, past, before, order))
    sorted j k earlier later one other order false false e f =
        let short = new_way j earlier (ltb-false j (length old) e) one in let long = new_way k later (ltb-false k (length old) f) other in omega (arith, short, long)

    near : (n : ℕ) (from end : Node S) (edge : Edge) → IsListed (edges_at (edges ++ onward ∷ []) n) edge → slice_get new n ≡ Some from → slice_get new edge.to ≡ Some end
        → (b : Bool) → nat_lt n (length edges) ≡ b → length end.way ≤ length from.way + 1
    near n from end edge listed got ends true e =
        let before : n < length edges = ltb-true n (length edges) e in
        let within = x.within in
        let (at, there, (first, ex, candidates)) = x.expanded n before in
        let mine : IsListed (edges_at edges n) edge = subst (λ es. IsListed es edge) (push_before edges onward [] n before) listed in
        let (answer, _, _, _, (to, led, _)) = ex.leads edge mine in
        let same : to ≡ end = some_same (slice_get new edge.to) to end (slice_get_grown old new edge.to to was.grown led) ends in
        let close = x.near n from to edge mine (kept_back old new n from was.grown (omega (arith, before, within)) got) led in
        subst (λ y. length y.way ≤ length from.way + 1) same close
    near n from end edge listed got ends false e = by (nat_lt (length edges) n) refl
      where
        by : (b : Bool) → nat_lt (length edges) n ≡ b → length end.way ≤ length from.way + 1
        by true f = absurd (subst (λ es. IsListed es edge) (no_edges_past (edges ++ onward ∷ []) n (let past : length edges < n = ltb-true (length edges) n f in let long = push_length edges onward in omega (arith, past, long))) listed)
        by false f =
            let above = ltb-false n (length edges) e in let below = ltb-false (length edges) n f in
            let equal : n ≡ length edges = omega (arith, above, below) in
            let same : node ≡ from = some_same (slice_get new n) node from (slice_get_grown old new n node was.grown (subst (λ k. slice_get old k ≡ Some node) (sym equal) here)) got in
            subst (λ y. length end.way ≤ length y.way + 1) same (far edge.to end ends)

-- steps lead on by one more
pub leads_on-push : {S : Type 0} (rules : Rules S) (r : Readings S) (test : Test) (place middle end : Place S) (steps : List Step) (step : Step)
    → LeadsOn rules r test place steps middle → WasTried rules r test middle step (Taken end) → LeadsOn rules r test place (steps ++ step ∷ []) end
leads_on-push rules r test place middle end [] step is was = (end, subst (λ p. WasTried rules r test p step (Taken end)) is was, refl)
leads_on-push rules r test place middle end (first ∷ rest) step (next, tried, on) was = (next, tried, leads_on-push rules r test next middle end rest step on was)

pub leads_on-next : {S : Type 0} (rules : Rules S) (r : Readings S) (test : Test) (place middle end : Place S) (steps : List Step) (k : ℕ) (d : Step) (tried : Tried S)
    → LeadsOn rules r test place (take k steps) middle → k < length steps → WasTried rules r test middle (get_or steps k d) tried → tried ≡ Taken end
    → LeadsOn rules r test place (take (k + 1) steps) end
leads_on-next rules r test place middle end steps k d tried leads within was is =
    subst (λ xs. LeadsOn rules r test place xs end) (take_next steps k d within)
    (leads_on-push rules r test place middle end (take k steps) (get_or steps k d) leads (subst (λ o. WasTried rules r test middle (get_or steps k d) o) is was))

pub take_whole : {X : Type 0} (xs : List X) (n : ℕ) → length xs ≤ n → take n xs ≡ xs
take_whole [] zero past = refl
take_whole [] (suc n) past = refl
take_whole (first ∷ rest) zero past = absurd (omega (arith, past))
take_whole (first ∷ rest) (suc n) past = ap (λ xs. first ∷ xs) (take_whole rest n (omega (arith, past)))

-- what stands at a place of a list
pub item_is : {X : Type 0} (shown xs : List X) (i : ℕ) (x y : X) → shown ≡ xs → x ≡ get_or shown i x → slice_get xs i ≡ Some y → x ≡ y
item_is shown xs i x y is at got = at ∙ ap (λ ys. get_or ys i x) is ∙ get_or_from_slice_get xs i y x got

pub item_there : {X : Type 0} (xs : List X) (k : ℕ) → k < length xs → (x : X) × (slice_get xs k ≡ Some x)
item_there [] k within = absurd (omega (arith, within))
item_there (first ∷ rest) zero within = (first, refl)
item_there (first ∷ rest) (suc k) within = item_there rest k (omega (arith, within))

pub less_where_not_same : (a b : ℕ) → a ≤ b → ¬ (a ≡ b) → a < b
less_where_not_same a b within apart = by (nat_lt a b) refl
  where
    by : (t : Bool) → nat_lt a b ≡ t → a < b
    by true e = ltb-true a b e
    by false e = absurd (let above = ltb-false a b e in apart (omega (arith, above, within)))
