-- What trying a step tells.
use Rattle.std.proofs.Common.{◌≡◌, ◌⊎◌, inl, inr, ℕ, Bool, true, false, IsTrue, is_some, List, [], ◌∷◌, ◌++◌, Option, Some, None, ◌+◌, ◌<◌, ◌≤◌, zero, suc, length, drop, get_or, refl, sym, ap, ◌∙◌, subst, arith, add-one}
use Rattle.iom_litmus_test.specs.declared.column.Cell.{Cell}
use Rattle.iom_litmus_test.specs.declared.observable.Spot.{Spot}
use Rattle.iom_litmus_test.specs.declared.test.Test.{Test}
use Rattle.iom_litmus.specs.declared.node.Node.{Node}
use Rattle.iom_litmus.specs.declared.place.Deed.{Deed}
use Rattle.iom_litmus.specs.declared.place.Deed.TheVariants as Deeds
use Rattle.iom_litmus.specs.declared.place.Place.{Place}
use Rattle.iom_litmus.specs.declared.reply.Reply.{Reply}
use Rattle.iom_litmus.specs.declared.step.HardwareStep.{HardwareStep}
use Rattle.iom_litmus.specs.declared.step.Step.{Step}
use Rattle.iom_litmus.specs.declared.step.Step.TheVariants as Steps
use Rattle.iom_litmus.specs.declared.taking.Tried.TheVariants.{Taken, Refused}
use Rattle.iom_litmus.specs.Alike.{IsSamePlace}
use Rattle.iom_litmus.specs.Deeds.{deed_of_what}
use Rattle.iom_litmus.specs.Listed.{IsListed, KeepsListed}
use Rattle.iom_litmus.specs.Candidates.{CanTry}
use Rattle.iom_litmus.specs.Graphs.{WasTried, WasTaken, WasExplored, WasPut, IsLeftOrNoted}
use Rattle.iom_litmus.specs.Happenings.{next_cell}
use Rattle.iom_litmus.specs.Readings.{Readings}
use Rattle.iom_litmus.specs.Replies.{RunsLines, no_reply, joined}
use Rattle.iom_litmus.specs.Rules.{Rules, Noted}
use Rattle.iom_litmus.specs.Steps.{CanAct, CanRun, CanStepBy, IsAnsweredLike, MayAnswer, LeavesUnlessNoted, deed_of, deed_of_cell, gone_on}
use Rattle.iom_litmus.proofs.AlikeLemmas.{like_from_same, like_sym, can_like, may_like, deed_like, same_more}

-- hardware
pub cannot_act : {S : Type 0} (rules : Rules S) (r : Readings S) (test : Test) (place : Place S) (act : HardwareStep) → (¬ CanAct r test place act) → WasTried rules r test place (Steps.Hardware act) (Refused place)
cannot_act rules r test place act cannot = (
  no_reply,
  place.system,
  (λ deed is. let same : Deeds.Hardware act ≡ deed = cc in subst (λ d. MayAnswer rules r test place d no_reply place.system) same (λ can. absurd (cannot can))),
  (cannot, refl),
)

pub has_acted : {S : Type 0} (rules : Rules S) (r : Readings S) (test : Test) (place new : Place S) (act : HardwareStep) (reply : Reply) (after : S) → CanAct r test place act → rules.acts place.system act reply after
    → new ≡ gone_on place (Deeds.Hardware act) reply after → WasTried rules r test place (Steps.Hardware act) (Taken new)
has_acted rules r test place new act reply after can acts is = (
  reply,
  after,
  (λ deed at. let same : Deeds.Hardware act ≡ deed = cc in subst (λ d. MayAnswer rules r test place d reply after) same (λ _. acts)),
  (can, (Deeds.Hardware act, refl, is)),
)

-- a column
pub has_no_next : {S : Type 0} (rules : Rules S) (r : Readings S) (test : Test) (place : Place S) (column : ℕ) → next_cell test place.happened column ≡ None → WasTried rules r test place (Steps.Column column) (Refused place)
has_no_next rules r test place column none = (
  no_reply,
  place.system,
  (λ deed is. let nothing : None ≡ Some deed = sym (ap (deed_of_cell column) none) ∙ is in absurd cc),
  ((λ can. subst (λ o. CanRun (λ _. no_reply) column o) none can), refl),
)

next_may : {S : Type 0} (rules : Rules S) (r : Readings S) (test : Test) (place : Place S) (column k : ℕ) (cell : Cell) (reply : Reply) (after : S)
    → next_cell test place.happened column ≡ Some (k, cell) → RunsLines rules place.system no_reply cell.lines reply after
    → (deed : Deed) → deed_of test place.happened (Steps.Column column) ≡ Some deed → MayAnswer rules r test place deed reply after
next_may rules r test place column k cell reply after is runs deed at =
    let both : Some (Deeds.Cell (record { column = column; cell = k })) ≡ Some deed = sym (ap (deed_of_cell column) is) ∙ at in
    let same : Deeds.Cell (record { column = column; cell = k }) ≡ deed = cc in
    subst (λ d. MayAnswer rules r test place d reply after) same
    (λ other there.
    let pairs : ◌≡◌ {A = Option (ℕ × Cell)} (Some (k, cell)) (Some (k, other)) = sym is ∙ there in
    let pair : ◌≡◌ {A = ℕ × Cell} (k, cell) (k, other) = cc in
    subst (λ x. RunsLines rules place.system no_reply x.lines reply after) (ap (λ p. p.1) pair) runs)

pub next_refused : {S : Type 0} (rules : Rules S) (r : Readings S) (test : Test) (place left : Place S) (column k : ℕ) (cell : Cell) (reply : Reply) (after : S)
    → next_cell test place.happened column ≡ Some (k, cell) → RunsLines rules place.system no_reply cell.lines reply after
    → (¬ IsAnsweredLike cell.awaited reply.text) → left.system ≡ after → WasTried rules r test place (Steps.Column column) (Refused left)
next_refused rules r test place left column k cell reply after is runs other unchanged =
    (reply, after, next_may rules r test place column k cell reply after is runs, ((λ can. other (subst (λ o. CanRun (λ _. reply) column o) is can)), unchanged))

pub next_ran : {S : Type 0} (rules : Rules S) (r : Readings S) (test : Test) (place new : Place S) (column k : ℕ) (cell : Cell) (reply : Reply) (after : S)
    → next_cell test place.happened column ≡ Some (k, cell) → RunsLines rules place.system no_reply cell.lines reply after
    → IsAnsweredLike cell.awaited reply.text → new ≡ gone_on place (Deeds.Cell (record { column = column; cell = k })) reply after
    → WasTried rules r test place (Steps.Column column) (Taken new)
next_ran rules r test place new column k cell reply after is runs like goes = (
  reply,
  after,
  next_may rules r test place column k cell reply after is runs,
  (subst (λ o. CanRun (λ _. reply) column o) (sym is) like, (Deeds.Cell (record { column = column; cell = k }), ap (deed_of_cell column) is, goes)),
)

-- what is left where a step is refused, and where it is taken
leaves_refused : {S : Type 0} (cells : List Spot) (test : Test) (place : Place S) (step : Step) (reply : Reply) (after : S)
    → ((spot : Spot) → deed_of test place.happened step ≡ Some (Deeds.Cell spot) → (after ≡ place.system) ⊎ IsListed cells spot)
    → (deed : Deed) → deed_of test place.happened step ≡ Some deed → LeavesUnlessNoted cells test place deed reply after
leaves_refused cells test place step reply after known (Deeds.Cell spot) at = λ cell is other. known spot at
leaves_refused cells test place step reply after known (Deeds.Hardware act) at = tt

leaves_taken : {S : Type 0} (cells : List Spot) (r : Readings S) (test : Test) (place : Place S) (step : Step) (reply : Reply) (after : S) → CanStepBy r test (λ _. reply) place step
    → (deed : Deed) → deed_of test place.happened step ≡ Some deed → LeavesUnlessNoted cells test place deed reply after
leaves_taken cells r test place step reply after can (Deeds.Hardware act) at = tt
leaves_taken cells r test place (Steps.Hardware act) reply after can (Deeds.Cell spot) at = absurd cc
leaves_taken cells r test place (Steps.Column column) reply after can (Deeds.Cell spot) at =
    λ cell is other. absurd (other (subst (λ o. CanRun (λ _. reply) column o) (ap (next_cell test place.happened) (column_is (next_cell test place.happened column) at) ∙ is) can))
  where
    column_is : (o : Option (ℕ × Cell)) → deed_of_cell column o ≡ Some (Deeds.Cell spot) → column ≡ spot.column
    column_is None none = absurd cc
    column_is (Some (k, cell)) some = let here : Deeds.Cell (record { column = column; cell = k }) ≡ Deeds.Cell spot = cc in ap deed_of_what here

-- a step at a place that was found
pub cannot_try : {S : Type 0} (noted : Noted S) (r : Readings S) (test : Test) (node : Node S) (step : Step) (nodes : List (Node S)) → (¬ CanTry r test node.place step) → WasExplored noted r test node step nodes nodes None
cannot_try noted r test node (Steps.Hardware act) nodes cannot =
    let (reply, after, may, (taken, unchanged)) = cannot_act noted.rules r test node.place act cannot in (
      reply,
      after,
      (λ deed at. (may deed at, leaves_refused noted.cells test node.place (Steps.Hardware act) reply after (λ spot here. inl (sym unchanged)) deed at)),
      (taken, refl),
    )
cannot_try noted r test node (Steps.Column column) nodes cannot =
    let (reply, after, may, (taken, unchanged)) = has_no_next noted.rules r test node.place column (none_next (next_cell test node.place.happened column) cannot) in (
      reply,
      after,
      (λ deed at. (may deed at, leaves_refused noted.cells test node.place (Steps.Column column) reply after (λ spot here. inl (sym unchanged)) deed at)),
      (taken, refl),
    )
  where
    none_next : (o : Option (ℕ × Cell)) → (¬ IsTrue (is_some o)) → o ≡ None
    none_next None never = refl
    none_next (Some next) never = absurd (never refl)

pub explored_none : {S : Type 0} (noted : Noted S) (r : Readings S) (test : Test) (node : Node S) (place left : Place S) (step : Step) (nodes : List (Node S))
    → IsSamePlace test node.place place → WasTried noted.rules r test place step (Refused left) → IsLeftOrNoted noted.cells test node step left → WasExplored noted r test node step nodes nodes None
explored_none noted r test node place left step nodes same (reply, after, may, (taken, is_left)) known =
    let like = like_from_same test node.place place same in (
      reply,
      after,
      (λ deed at. (
        may_like noted.rules r test place node.place deed reply after (like_sym test node.place place like) (may deed (sym (deed_like test node.place place step like) ∙ at)),
        leaves_refused noted.cells test node.place step reply after (λ spot here. elim (known spot here) [ inl unchanged ↦ inl (sym is_left ∙ unchanged) | inr there ↦ inr there ]) deed at,
      )),
      ((λ can. taken (can_like r test (λ _. reply) node.place place step like can)), refl),
    )

pub explored_some : {S : Type 0} (noted : Noted S) (r : Readings S) (test : Test) (node : Node S) (place end : Place S) (step : Step) (way : List Step) (old new : List (Node S)) (to : ℕ)
    → IsSamePlace test node.place place → WasTried noted.rules r test place step (Taken end) → way ≡ node.way ++ step ∷ [] → WasPut r test way end old new to
    → WasExplored noted r test node step old new (Some to)
explored_some noted r test node place end step way old new to same (reply, after, may, (can, (deed, is, goes))) longer put =
    let like = like_from_same test node.place place same in
    let here = can_like r test (λ _. reply) place node.place step (like_sym test node.place place like) can in (
      reply,
      after,
      (λ other at. (
        may_like noted.rules r test place node.place other reply after (like_sym test node.place place like) (may other (sym (deed_like test node.place place step like) ∙ at)),
        leaves_taken noted.cells r test node.place step reply after here other at,
      )),
      (
        here,
        (
          deed,
          deed_like test node.place place step like ∙ is,
          (
            end,
            subst (λ p. IsSamePlace test (gone_on node.place deed reply after) p) (sym goes) (same_more test node.place place deed reply after same),
            subst (λ w. WasPut r test w end old new to) longer put,
          ),
        ),
      ),
    )

-- more cells that are noted
pub left_more : {S : Type 0} (test : Test) (node : Node S) (step : Step) (left : Place S) (old new : List Spot) → KeepsListed old new → IsLeftOrNoted old test node step left → IsLeftOrNoted new test node step left
left_more test node step left old new keeps known spot at = elim (known spot at) [ inl unchanged ↦ inl unchanged | inr there ↦ inr (keeps spot there) ]

-- lines, one more
pub runs_more : {S : Type 0} (rules : Rules S) (system next after : S) (earlier said reply : Reply) (lines : List (List ℕ)) (k : ℕ) (d : List ℕ) → k < length lines
    → rules.runs system (get_or lines k d) said next → RunsLines rules next (joined earlier said) (drop (k + 1) lines) reply after → RunsLines rules system earlier (drop k lines) reply after
runs_more rules system next after earlier said reply lines k d within runs rest = by lines k within runs (subst (λ n. RunsLines rules next (joined earlier said) (drop n lines) reply after) (add-one k) rest)
  where
    by : (xs : List (List ℕ)) (n : ℕ) → n < length xs → rules.runs system (get_or xs n d) said next → RunsLines rules next (joined earlier said) (drop (suc n) xs) reply after
        → RunsLines rules system earlier (drop n xs) reply after
    by [] n within runs rest = absurd (omega (arith, within))
    by (line ∷ others) zero within runs rest = (said, next, runs, rest)
    by (line ∷ others) (suc n) within runs rest = by others n (omega (arith, within)) runs rest

pub runs_all : {S : Type 0} (rules : Rules S) (system : S) (earlier : Reply) (lines : List (List ℕ)) (n : ℕ) → length lines ≤ n → RunsLines rules system earlier (drop n lines) earlier system
runs_all rules system earlier lines n past = subst (λ xs. RunsLines rules system earlier xs earlier system) (sym (by lines n past)) (refl, refl)
  where
    by : (xs : List (List ℕ)) (n : ℕ) → length xs ≤ n → drop n xs ≡ []
    by [] zero past = refl
    by [] (suc n) past = refl
    by (line ∷ others) zero past = absurd (omega (arith, past))
    by (line ∷ others) (suc n) past = by others n (omega (arith, past))
