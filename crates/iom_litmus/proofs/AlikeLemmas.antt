-- What happened alike goes on alike.
use Rattle.std.proofs.Common.{◌≡◌, ◌↔◌, ◌⊎◌, inl, inr, ℕ, ◌+◌, ◌<◌, zero, suc, Bool, true, false, cond, not, ◌&&◌, ◌||◌, IsTrue, List, [], ◌∷◌, ◌++◌, map, Option, Some, None, option_map, is_some, find, count_by, slice_get, get_or, length, ◌≤◌, nat_lt, refl, sym, ap, ap₂, ◌∙◌, subst, arith}
use Rattle.std.specs.List.{list_any, sum_by}
use Rattle.std.proofs.lemmas.Bool.{ltb-true, ltb-false}
use Rattle.std.proofs.lemmas.Option.{slice_get_cases, slice_get-get_or}
use Rattle.std.proofs.lemmas.List.Folds.{list_any-append}
use Rattle.std.proofs.lemmas.List.Sums.{sum_by-append}
use Rattle.iom_litmus_test.specs.declared.column.Cell.{Cell}
use Rattle.iom_litmus_test.specs.declared.column.Condition.{Condition}
use Rattle.iom_litmus_test.specs.declared.observable.Observable.{Observable}
use Rattle.iom_litmus_test.specs.declared.observable.Observable.TheVariants.{Answer, Touched, Before, Stuck, Wrong, Violated, Memory}
use Rattle.iom_litmus_test.specs.declared.observable.Reach.{Reach}
use Rattle.iom_litmus_test.specs.declared.observable.Spot.{Spot}
use Rattle.iom_litmus_test.specs.declared.observable.Value.{Value}
use Rattle.iom_litmus_test.specs.declared.observable.Value.TheVariants.{Text, Truth}
use Rattle.iom_litmus_test.specs.declared.test.Test.{Test}
use Rattle.iom_litmus_test.specs.Globs.{is_match}
use Rattle.iom_litmus.specs.declared.place.Deed.{Deed}
use Rattle.iom_litmus.specs.declared.place.Deed.TheVariants as Deeds
use Rattle.iom_litmus.specs.declared.place.Happened.{Happened}
use Rattle.iom_litmus.specs.declared.place.Place.{Place}
use Rattle.iom_litmus.specs.declared.reply.Reply.{Reply}
use Rattle.iom_litmus.specs.declared.step.HardwareStep.{HardwareStep}
use Rattle.iom_litmus.specs.declared.step.HardwareStep.TheVariants as Acts
use Rattle.iom_litmus.specs.declared.step.Step.{Step}
use Rattle.iom_litmus.specs.declared.step.Step.TheVariants as Steps
use Rattle.iom_litmus.specs.Alike.{is_run, said_of, said_to, AreAskedAlike, AreAlikeAt, AreAlikeIn, AreRunAlike, AreSeenAlike, AreAlike, IsSamePlace}
use Rattle.iom_litmus.specs.Deeds.{is_run_of, is_passed_by, is_drop, is_repeat, is_timeout}
use Rattle.iom_litmus.specs.Happenings.{text_said, answer_to, goes_ahead, is_passed, cells_of, cells_in, first_from, next_cell, times}
use Rattle.iom_litmus.specs.Listed.{IsListed}
use Rattle.iom_litmus.specs.Readings.{Readings}
use Rattle.iom_litmus.specs.Replies.{RunsLines, no_reply}
use Rattle.iom_litmus.specs.Rules.{Rules, Noted}
use Rattle.iom_litmus.specs.Seen.{after_run, after_any, touches, is_touched, is_before, is_any_wrong, is_any_violated, seen_of, seen_at}
use Rattle.iom_litmus.specs.Steps.{CanAct, CanRun, CanStepBy, IsFirstSuch, MayAnswer, MayAnswerNoted, LeavesUnlessNoted, deed_of, deed_of_cell, gone_on}

abbrev text_in : Option (List ℕ) → List ℕ
text_in None = []
text_in (Some text) = text

answer_is : (spot : Spot) (happened : List Happened) → answer_to spot happened ≡ text_in (said_to spot happened)
answer_is spot happened = by (find (λ event. is_run_of spot event.deed) happened)
  where
    by : (o : Option Happened) → text_said o ≡ text_in (said_of o)
    by None = refl
    by (Some event) = refl

answer_same : (spot : Spot) (one other : List Happened) → said_to spot one ≡ said_to spot other → answer_to spot one ≡ answer_to spot other
answer_same spot one other same = answer_is spot one ∙ ap text_in same ∙ sym (answer_is spot other)

goes_same : (column : ℕ) (condition : Option Condition) (one other : List Happened) → AreAskedAlike column condition one other
    → goes_ahead one column condition ≡ goes_ahead other column condition
goes_same column None one other alike = refl
goes_same column (Some condition) one other alike =
    ap (λ text. is_match condition.answer.parts text) (answer_same (record { column = column; cell = condition.cell }) one other alike)

first_same : (one other : List Happened) (column k : ℕ) (cells : List Cell)
    → ((j m : ℕ) (cell : Cell) → slice_get cells j ≡ Some cell → m ≡ k + j → AreAlikeAt column m cell one other)
    → first_from one column k cells ≡ first_from other column k cells
first_same one other column k [] alike = refl
first_same one other column k (cell ∷ rest) alike =
    let (passed, asked) = alike 0 k cell refl (omega arith) in
    ap₂ (λ test later. cond test (Some (k, cell)) later)
    (ap₂ (λ is_behind goes. not is_behind && goes) passed (goes_same column cell.condition one other asked))
    (first_same one other column (k + 1) rest (λ j m next at is. alike (suc j) m next at (omega (arith, is))))

-- the next cell of a column is the same
pub next_same : (test : Test) (one other : List Happened) (column : ℕ) → AreAlike test one other → next_cell test one column ≡ next_cell test other column
next_same test one other column alike = first_same one other column 0 (cells_of test column)
    (λ j m cell at is. let same : j ≡ m = omega (arith, is) in subst (λ n. AreAlikeAt column n cell one other) same (alike.columns column j cell at))

-- alike is the same as itself, and goes from one to the next
asked_refl : (column : ℕ) (condition : Option Condition) (h : List Happened) → AreAskedAlike column condition h h
asked_refl column None h = tt
asked_refl column (Some condition) h = refl

run_refl : (spot : Option Spot) (h : List Happened) → AreRunAlike spot h h
run_refl None h = tt
run_refl (Some spot) h = refl

seen_refl : (observable : Observable) (h : List Happened) → AreSeenAlike observable h h
seen_refl (Answer spot) h = refl
seen_refl (Touched reach) h = (refl, run_refl reach.after h)
seen_refl (Before first then) h = (refl, refl)
seen_refl (Stuck column) h = tt
seen_refl Wrong h = refl
seen_refl Violated h = refl
seen_refl (Memory address length) h = tt

pub alike_refl : (test : Test) (h : List Happened) → AreAlike test h h
alike_refl test h = record {
  columns = λ column k cell at. (refl, asked_refl column cell.condition h);
  seen = λ observable listed. seen_refl observable h;
  drops = refl;
  repeats = refl;
  timeouts = refl;
}

asked_trans : (column : ℕ) (condition : Option Condition) (a b c : List Happened) → AreAskedAlike column condition a b → AreAskedAlike column condition b c → AreAskedAlike column condition a c
asked_trans column None a b c first then = tt
asked_trans column (Some condition) a b c first then = first ∙ then

run_trans : (spot : Option Spot) (a b c : List Happened) → AreRunAlike spot a b → AreRunAlike spot b c → AreRunAlike spot a c
run_trans None a b c first then = tt
run_trans (Some spot) a b c first then = first ∙ then

seen_trans : (observable : Observable) (a b c : List Happened) → AreSeenAlike observable a b → AreSeenAlike observable b c → AreSeenAlike observable a c
seen_trans (Answer spot) a b c first then = first ∙ then
seen_trans (Touched reach) a b c first then = (first.0 ∙ then.0, run_trans reach.after a b c first.1 then.1)
seen_trans (Before one other) a b c first then = (first.0 ∙ then.0, first.1 ∙ then.1)
seen_trans (Stuck column) a b c first then = tt
seen_trans Wrong a b c first then = first ∙ then
seen_trans Violated a b c first then = first ∙ then
seen_trans (Memory address length) a b c first then = tt

alike_trans : (test : Test) (a b c : List Happened) → AreAlike test a b → AreAlike test b c → AreAlike test a c
alike_trans test a b c first then = record {
  columns = λ column k cell at. (
    (first.columns column k cell at).0 ∙ (then.columns column k cell at).0,
    asked_trans column cell.condition a b c (first.columns column k cell at).1 (then.columns column k cell at).1,
  );
  seen = λ observable listed. seen_trans observable a b c (first.seen observable listed) (then.seen observable listed);
  drops = first.drops ∙ then.drops;
  repeats = first.repeats ∙ then.repeats;
  timeouts = first.timeouts ∙ then.timeouts;
}

pub same_refl : {S : Type 0} (test : Test) (place : Place S) → IsSamePlace test place place
same_refl test place = (refl, alike_refl test place.happened)

pub same_trans : {S : Type 0} (test : Test) (a b c : Place S) → IsSamePlace test a b → IsSamePlace test b c → IsSamePlace test a c
same_trans test a b c (system, alike) (then, also) = (system ∙ then, alike_trans test a.happened b.happened c.happened alike also)

-- one more thing happens
any_more : (p : Happened → Bool) (one other : List Happened) (event : Happened) → list_any p one ≡ list_any p other → list_any p (one ++ event ∷ []) ≡ list_any p (other ++ event ∷ [])
any_more p one other event same = list_any-append p one (event ∷ []) ∙ ap (λ b. b || list_any p (event ∷ [])) same ∙ sym (list_any-append p other (event ∷ []))

abbrev said_next : Spot → Happened → Option (List ℕ) → Option (List ℕ)
said_next spot event (Some text) = Some text
said_next spot event None = said_of (cond (is_run_of spot event.deed) (Some event) None)

said_push : (spot : Spot) (happened : List Happened) (event : Happened) → said_to spot (happened ++ event ∷ []) ≡ said_next spot event (said_to spot happened)
said_push spot [] event = refl
said_push spot (first ∷ rest) event = by (is_run_of spot first.deed) (said_push spot rest event)
  where
    by : (b : Bool) → said_to spot (rest ++ event ∷ []) ≡ said_next spot event (said_to spot rest)
        → said_of (cond b (Some first) (find (λ e. is_run_of spot e.deed) (rest ++ event ∷ []))) ≡ said_next spot event (said_of (cond b (Some first) (find (λ e. is_run_of spot e.deed) rest)))
    by true later = refl
    by false later = later

said_more : (spot : Spot) (one other : List Happened) (event : Happened) → said_to spot one ≡ said_to spot other → said_to spot (one ++ event ∷ []) ≡ said_to spot (other ++ event ∷ [])
said_more spot one other event same = said_push spot one event ∙ ap (said_next spot event) same ∙ sym (said_push spot other event)

times_more : (p : Deed → Bool) (one other : List Happened) (event : Happened) → times p one ≡ times p other → times p (one ++ event ∷ []) ≡ times p (other ++ event ∷ [])
times_more p one other event same =
    let f : Happened → ℕ = λ e. cond (p e.deed) 1 0 in
    sum_by-append f one (event ∷ []) ∙ ap (λ n. n + sum_by f (event ∷ [])) same ∙ sym (sum_by-append f other (event ∷ []))

or_false : (b : Bool) → (b || false) ≡ b
or_false true = refl
or_false false = refl

after_push : (f : Happened → Bool) (spot : Spot) (happened : List Happened) (event : Happened)
    → list_any f (after_run spot (happened ++ event ∷ [])) ≡ cond (is_run spot happened) (list_any f (after_run spot happened) || f event) false
after_push f spot [] event = by (is_run_of spot event.deed)
  where
    by : (b : Bool) → list_any f (cond b [] []) ≡ false
    by true = refl
    by false = refl
after_push f spot (first ∷ rest) event = by (is_run_of spot first.deed) (after_push f spot rest event)
  where
    by : (b : Bool) → list_any f (after_run spot (rest ++ event ∷ [])) ≡ cond (is_run spot rest) (list_any f (after_run spot rest) || f event) false
        → list_any f (cond b (rest ++ event ∷ []) (after_run spot (rest ++ event ∷ []))) ≡ cond (b || is_run spot rest) (list_any f (cond b rest (after_run spot rest)) || f event) false
    by true later = list_any-append f rest (event ∷ []) ∙ ap (λ b. list_any f rest || b) (or_false (f event))
    by false later = later

after_more : (f : Happened → Bool) (spot : Spot) (one other : List Happened) (event : Happened)
    → list_any f (after_run spot one) ≡ list_any f (after_run spot other) → is_run spot one ≡ is_run spot other
    → list_any f (after_run spot (one ++ event ∷ [])) ≡ list_any f (after_run spot (other ++ event ∷ []))
after_more f spot one other event same run =
    after_push f spot one event ∙ ap₂ (λ r a. cond r (a || f event) false) run same ∙ sym (after_push f spot other event)

any_after_more : (f : Happened → Bool) (after : Option Spot) (one other : List Happened) (event : Happened)
    → list_any f (after_any after one) ≡ list_any f (after_any after other) → AreRunAlike after one other
    → list_any f (after_any after (one ++ event ∷ [])) ≡ list_any f (after_any after (other ++ event ∷ []))
any_after_more f None one other event same run = any_more f one other event same
any_after_more f (Some spot) one other event same run = after_more f spot one other event same run

asked_more : (column : ℕ) (condition : Option Condition) (one other : List Happened) (event : Happened) → AreAskedAlike column condition one other
    → AreAskedAlike column condition (one ++ event ∷ []) (other ++ event ∷ [])
asked_more column None one other event alike = tt
asked_more column (Some condition) one other event alike = said_more (record { column = column; cell = condition.cell }) one other event alike

run_more : (spot : Option Spot) (one other : List Happened) (event : Happened) → AreRunAlike spot one other → AreRunAlike spot (one ++ event ∷ []) (other ++ event ∷ [])
run_more None one other event alike = tt
run_more (Some spot) one other event alike = any_more (λ e. is_run_of spot e.deed) one other event alike

seen_more : (observable : Observable) (one other : List Happened) (event : Happened) → AreSeenAlike observable one other → AreSeenAlike observable (one ++ event ∷ []) (other ++ event ∷ [])
seen_more (Answer spot) one other event alike = said_more spot one other event alike
seen_more (Touched reach) one other event alike = (any_after_more (touches reach) reach.after one other event alike.0 alike.1, run_more reach.after one other event alike.1)
seen_more (Before first then) one other event alike =
    (after_more (λ e. is_run_of then e.deed) first one other event alike.0 alike.1, any_more (λ e. is_run_of first e.deed) one other event alike.1)
seen_more (Stuck column) one other event alike = tt
seen_more Wrong one other event alike = any_more (λ e. e.reply.wrong) one other event alike
seen_more Violated one other event alike = any_more (λ e. e.reply.violated) one other event alike
seen_more (Memory address length) one other event alike = tt

alike_more : (test : Test) (one other : List Happened) (event : Happened) → AreAlike test one other → AreAlike test (one ++ event ∷ []) (other ++ event ∷ [])
alike_more test one other event alike = record {
  columns = λ column k cell at. (
    any_more (λ e. is_passed_by column k e.deed) one other event (alike.columns column k cell at).0,
    asked_more column cell.condition one other event (alike.columns column k cell at).1,
  );
  seen = λ observable listed. seen_more observable one other event (alike.seen observable listed);
  drops = times_more is_drop one other event alike.drops;
  repeats = times_more is_repeat one other event alike.repeats;
  timeouts = times_more is_timeout one other event alike.timeouts;
}

pub same_more : {S : Type 0} (test : Test) (p q : Place S) (deed : Deed) (reply : Reply) (after : S) → IsSamePlace test p q → IsSamePlace test (gone_on p deed reply after) (gone_on q deed reply after)
same_more test p q deed reply after (system, alike) = (refl, alike_more test p.happened q.happened (record { deed = deed; reply = reply }) alike)

-- the same is seen
map_same : {X Y : Type 0} (f g : X → Y) (xs : List X) → ((x : X) → IsListed xs x → f x ≡ g x) → map f xs ≡ map g xs
map_same f g [] same = refl
map_same f g (x ∷ rest) same = ap₂ (λ y ys. y ∷ ys) (same x (inl refl)) (map_same f g rest (λ other listed. same other (inr listed)))

seen_of_same : {S : Type 0} (r : Readings S) (test : Test) (p q : Place S) (observable : Observable) → p.system ≡ q.system
    → ((column : ℕ) → next_cell test p.happened column ≡ next_cell test q.happened column)
    → AreSeenAlike observable p.happened q.happened → seen_of r test p observable ≡ seen_of r test q observable
seen_of_same r test p q (Answer spot) system next alike = ap (λ text. Text text) (answer_same spot p.happened q.happened alike)
seen_of_same r test p q (Touched reach) system next alike = ap (λ b. Truth b) alike.0
seen_of_same r test p q (Before first then) system next alike = ap (λ b. Truth b) alike.0
seen_of_same r test p q (Stuck column) system next alike = ap (λ o. Truth (is_some o)) (next column)
seen_of_same r test p q Wrong system next alike = ap (λ b. Truth b) alike
seen_of_same r test p q Violated system next alike = ap (λ b. Truth b) alike
seen_of_same r test p q (Memory address length) system next alike = ap (λ s. Text (r.memory s address length)) system

pub seen_same : {S : Type 0} (r : Readings S) (test : Test) (p q : Place S) → IsSamePlace test p q → seen_at r test p ≡ seen_at r test q
seen_same r test p q (system, alike) = map_same (seen_of r test p) (seen_of r test q) test.observables
    (λ observable listed. seen_of_same r test p q observable system (λ column. next_same test p.happened q.happened column alike) (alike.seen observable listed))

-- what steps depend on
pub record IsLike {S : Type 0} (test : Test) (p q : Place S) : Type 0 where
  pub system : p.system ≡ q.system
  pub next : (column : ℕ) → next_cell test p.happened column ≡ next_cell test q.happened column
  pub drops : times is_drop p.happened ≡ times is_drop q.happened
  pub repeats : times is_repeat p.happened ≡ times is_repeat q.happened
  pub timeouts : times is_timeout p.happened ≡ times is_timeout q.happened

pub like_from_same : {S : Type 0} (test : Test) (p q : Place S) → IsSamePlace test p q → IsLike test p q
like_from_same test p q (system, alike) = record {
  system = system;
  next = λ column. next_same test p.happened q.happened column alike;
  drops = alike.drops;
  repeats = alike.repeats;
  timeouts = alike.timeouts;
}

pub like_sym : {S : Type 0} (test : Test) (p q : Place S) → IsLike test p q → IsLike test q p
like_sym test p q like = record {
  system = sym like.system;
  next = λ column. sym (like.next column);
  drops = sym like.drops;
  repeats = sym like.repeats;
  timeouts = sym like.timeouts;
}

act_like : {S : Type 0} (r : Readings S) (test : Test) (p q : Place S) (act : HardwareStep) → IsLike test p q → CanAct r test p act → CanAct r test q act
act_like r test p q Acts.Fetch like (part, can) = (part, subst (λ s. IsTrue (r.fetches s)) like.system can)
act_like r test p q (Acts.Commit device) like (part, listed, can) = (part, subst (λ s. IsListed (r.devices s) device) like.system listed, subst (λ s. IsTrue (r.is_in_flight s device)) like.system can)
act_like r test p q (Acts.Load device) like (part, listed, can) = (part, subst (λ s. IsListed (r.devices s) device) like.system listed, subst (λ s. IsTrue (r.is_in_walk s device)) like.system can)
act_like r test p q (Acts.Deliver message) like (part, within, order, first) =
    (part, subst (λ s. message < r.messages s) like.system within, order, subst (λ s. IsFirstSuch r s message) like.system first)
act_like r test p q (Acts.Drop message) like (within, left) = (subst (λ s. message < r.messages s) like.system within, subst (λ n. n < test.budgets.drops) like.drops left)
act_like r test p q (Acts.Repeat message) like (within, left) = (subst (λ s. message < r.messages s) like.system within, subst (λ n. n < test.budgets.repeats) like.repeats left)
act_like r test p q Acts.Timeout like (out, left) = (subst (λ s. IsTrue (r.times_out s)) like.system out, subst (λ n. n < test.budgets.timeouts) like.timeouts left)

-- the same steps can be taken, and may be answered so
pub can_like : {S : Type 0} (r : Readings S) (test : Test) (said : Deed → Reply) (p q : Place S) (step : Step) → IsLike test p q → CanStepBy r test said p step → CanStepBy r test said q step
can_like r test said p q (Steps.Column column) like can = subst (λ o. CanRun said column o) (like.next column) can
can_like r test said p q (Steps.Hardware act) like can = act_like r test p q act like can

pub may_like : {S : Type 0} (rules : Rules S) (r : Readings S) (test : Test) (p q : Place S) (deed : Deed) (reply : Reply) (after : S) → IsLike test p q
    → MayAnswer rules r test p deed reply after → MayAnswer rules r test q deed reply after
may_like rules r test p q (Deeds.Cell spot) reply after like may =
    λ cell is. subst (λ s. RunsLines rules s no_reply cell.lines reply after) like.system (may cell (like.next spot.column ∙ is))
may_like rules r test p q (Deeds.Hardware act) reply after like may =
    λ can. subst (λ s. rules.acts s act reply after) like.system (may (act_like r test q p act (like_sym test p q like) can))

leaves_like : {S : Type 0} (cells : List Spot) (test : Test) (p q : Place S) (deed : Deed) (reply : Reply) (after : S) → IsLike test p q
    → LeavesUnlessNoted cells test p deed reply after → LeavesUnlessNoted cells test q deed reply after
leaves_like cells test p q (Deeds.Cell spot) reply after like leaves =
    λ cell is other. elim (leaves cell (like.next spot.column ∙ is) other) [ inl same ↦ inl (same ∙ like.system) | inr there ↦ inr there ]
leaves_like cells test p q (Deeds.Hardware act) reply after like leaves = tt

pub noted_like : {S : Type 0} (noted : Noted S) (r : Readings S) (test : Test) (p q : Place S) (deed : Deed) (reply : Reply) (after : S) → IsLike test p q
    → MayAnswerNoted noted r test p deed reply after → MayAnswerNoted noted r test q deed reply after
noted_like noted r test p q deed reply after like (may, leaves) =
    (may_like noted.rules r test p q deed reply after like may, leaves_like noted.cells test p q deed reply after like leaves)

pub deed_like : {S : Type 0} (test : Test) (p q : Place S) (step : Step) → IsLike test p q → deed_of test p.happened step ≡ deed_of test q.happened step
deed_like test p q (Steps.Column column) like = ap (deed_of_cell column) (like.next column)
deed_like test p q (Steps.Hardware act) like = refl

-- of the cells of a column, one more
pub cells_more : (one other : List Happened) (column : ℕ) (cells : List Cell) (k : ℕ) (d : Cell)
    → ((j : ℕ) (cell : Cell) → j < k → slice_get cells j ≡ Some cell → AreAlikeAt column j cell one other) → k < length cells → AreAlikeAt column k (get_or cells k d) one other
    → (j : ℕ) (cell : Cell) → j < k + 1 → slice_get cells j ≡ Some cell → AreAlikeAt column j cell one other
cells_more one other column cells k d alike within here j cell less at = by (nat_lt j k) refl
  where
    by : (b : Bool) → nat_lt j k ≡ b → AreAlikeAt column j cell one other
    by true e = alike j cell (ltb-true j k e) at
    by false e =
        let above = ltb-false j k e in let equal : k ≡ j = omega (arith, above, less) in
        let got : Some (get_or cells k d) ≡ Some cell = sym (slice_get-get_or cells k d within) ∙ subst (λ n. slice_get cells n ≡ Some cell) (sym equal) at in
        let same : get_or cells k d ≡ cell = cc in
        subst (λ n. AreAlikeAt column n cell one other) equal (subst (λ x. AreAlikeAt column k x one other) same here)

-- a cell is in one of the columns
pub cell_is_within : (test : Test) (column k : ℕ) (cell : Cell) → slice_get (cells_of test column) k ≡ Some cell → column < length test.columns
cell_is_within test column k cell at = by (slice_get_cases test.columns column).1
  where
    by : ((x : _) × (column < length test.columns) × (slice_get test.columns column ≡ Some x) × (get_or test.columns column x ≡ x)) ⊎ ((length test.columns ≤ column) × (slice_get test.columns column ≡ None))
        → column < length test.columns
    by (inl (x, within, _, _)) = within
    by (inr (_, none)) = let nothing : None ≡ Some cell = subst (λ o. slice_get (cells_in o) k ≡ Some cell) none at in absurd cc
