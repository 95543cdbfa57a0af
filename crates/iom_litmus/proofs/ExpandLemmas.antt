-- What one more step from a place adds to its answers and edges.
use Rattle.std.proofs.Common.{◌≡◌, ◌⊎◌, inl, inr, ℕ, ◌+◌, ◌<◌, ◌≤◌, zero, suc, Bool, true, false, cond, ◌==◌, ◌&&◌, List, [], ◌∷◌, ◌++◌, Option, Some, None, length, find, take, get_or, slice_get, refl, sym, ap, ◌∙◌, subst, arith, add-one, take-suc, append_assoc, append-nil}
use Rattle.std.proofs.lemmas.Bool.{false≢true, eqb-true, eq-eqb}
use Rattle.std.proofs.lemmas.Option.{slice_get_cases}
use Rattle.iom_litmus_test.specs.declared.test.Test.{Test}
use Rattle.iom_litmus_test.specs.declared.column.Cell.{Cell}
use Rattle.iom_litmus.specs.declared.node.Edge.{Edge}
use Rattle.iom_litmus.specs.declared.node.Node.{Node}
use Rattle.iom_litmus.specs.declared.place.Deed.{Deed}
use Rattle.iom_litmus.specs.declared.place.Deed.TheVariants as Deeds
use Rattle.iom_litmus.specs.declared.place.Happened.{Happened}
use Rattle.iom_litmus.specs.declared.place.Place.{Place}
use Rattle.iom_litmus.specs.declared.reply.Reply.{Reply}
use Rattle.iom_litmus.specs.declared.step.HardwareStep.{HardwareStep}
use Rattle.iom_litmus.specs.declared.step.HardwareStep.TheVariants as Acts
use Rattle.iom_litmus.specs.declared.step.Step.{Step}
use Rattle.iom_litmus.specs.declared.step.Step.TheVariants as Steps
use Rattle.iom_litmus.specs.Alike.{IsSamePlace}
use Rattle.iom_litmus.specs.Candidates.{CanTry, ListsCandidates, ListsOnce}
use Rattle.iom_litmus.specs.Deeds.{is_deed, deed_kind, deed_of_what, deed_cell}
use Rattle.iom_litmus.specs.Graphs.{Answer, Expands, WasExplored, WasExpanded, WasPut, HasGrown, IsFoundAt, Leads, AreFoundBy, answer_in, reply_in, reply_of, after_of, steps_of}
use Rattle.iom_litmus.specs.Happenings.{next_cell}
use Rattle.iom_litmus.specs.Listed.{IsListed, AreListedOnce}
use Rattle.iom_litmus.specs.Readings.{Readings}
use Rattle.iom_litmus.specs.Rules.{Noted}
use Rattle.iom_litmus.specs.Seen.{seen_at}
use Rattle.iom_litmus.specs.Steps.{CanRun, CanStepBy, MayAnswerNoted, deed_of, deed_of_cell, gone_on}
use Rattle.iom_litmus.proofs.AlikeLemmas.{same_refl, same_trans}
use Rattle.iom_litmus.proofs.ListedLemmas.{IsListed-push, IsListed-push_cases, AreListedOnce-push, last_is_listed, at_is_listed, none_is_taken, all_are_taken}

-- deeds are told apart by their numbers
abbrev deed_at : ℕ → ℕ → ℕ → Deed
deed_at zero what cell = Deeds.Cell (record { column = what; cell = cell })
deed_at (suc zero) what cell = Deeds.Hardware Acts.Fetch
deed_at (suc (suc zero)) what cell = Deeds.Hardware (Acts.Commit what)
deed_at (suc (suc (suc zero))) what cell = Deeds.Hardware (Acts.Load what)
deed_at (suc (suc (suc (suc zero)))) what cell = Deeds.Hardware (Acts.Deliver what)
deed_at (suc (suc (suc (suc (suc zero))))) what cell = Deeds.Hardware (Acts.Drop what)
deed_at (suc (suc (suc (suc (suc (suc zero)))))) what cell = Deeds.Hardware (Acts.Repeat what)
deed_at (suc (suc (suc (suc (suc (suc (suc n))))))) what cell = Deeds.Hardware Acts.Timeout

deed_again : (deed : Deed) → deed_at (deed_kind deed) (deed_of_what deed) (deed_cell deed) ≡ deed
deed_again (Deeds.Cell spot) = refl
deed_again (Deeds.Hardware Acts.Fetch) = refl
deed_again (Deeds.Hardware (Acts.Commit device)) = refl
deed_again (Deeds.Hardware (Acts.Load device)) = refl
deed_again (Deeds.Hardware (Acts.Deliver message)) = refl
deed_again (Deeds.Hardware (Acts.Drop message)) = refl
deed_again (Deeds.Hardware (Acts.Repeat message)) = refl
deed_again (Deeds.Hardware Acts.Timeout) = refl

both_true : (a b : Bool) → (a && b) ≡ true → (a ≡ true) × (b ≡ true)
both_true true b e = (refl, e)
both_true false b e = absurd (false≢true e)

both_are_true : (a b : Bool) → a ≡ true → b ≡ true → (a && b) ≡ true
both_are_true a b e f = ap (λ x. x && b) e ∙ f

pub deed_same : (a b : Deed) → is_deed a b ≡ true → a ≡ b
deed_same a b e =
    let (kind, rest) = both_true (deed_kind a == deed_kind b) ((deed_of_what a == deed_of_what b) && (deed_cell a == deed_cell b)) e in
    let (what, cell) = both_true (deed_of_what a == deed_of_what b) (deed_cell a == deed_cell b) rest in
    sym (deed_again a)
    ∙ ap (λ n. deed_at n (deed_of_what a) (deed_cell a)) (eqb-true (deed_kind a) (deed_kind b) kind)
    ∙ ap (λ n. deed_at (deed_kind b) n (deed_cell a)) (eqb-true (deed_of_what a) (deed_of_what b) what)
    ∙ ap (λ n. deed_at (deed_kind b) (deed_of_what b) n) (eqb-true (deed_cell a) (deed_cell b) cell)
    ∙ deed_again b

pub deed_is : (a : Deed) → is_deed a a ≡ true
deed_is a = both_are_true _ _ (eq-eqb (deed_kind a) (deed_kind a) refl)
    (both_are_true _ _ (eq-eqb (deed_of_what a) (deed_of_what a) refl) (eq-eqb (deed_cell a) (deed_cell a) refl))

-- a deed tells its step
abbrev step_of : Deed → Step
step_of (Deeds.Cell spot) = Steps.Column spot.column
step_of (Deeds.Hardware act) = Steps.Hardware act

deed_tells : (test : Test) (happened : List Happened) (step : Step) (deed : Deed) → deed_of test happened step ≡ Some deed → step_of deed ≡ step
deed_tells test happened (Steps.Hardware act) deed is = let same : Deeds.Hardware act ≡ deed = cc in sym (ap step_of same)
deed_tells test happened (Steps.Column column) deed is = by (next_cell test happened column) is
  where
    by : (o : Option (ℕ × Cell)) → deed_of_cell column o ≡ Some deed → step_of deed ≡ Steps.Column column
    by None none = absurd cc
    by (Some (k, cell)) at = let same : Deeds.Cell (record { column = column; cell = k }) ≡ deed = cc in sym (ap step_of same)

-- one more answer
find_kept : {X : Type 0} (test : X → Bool) (xs : List X) (y x : X) → find test xs ≡ Some x → find test (xs ++ y ∷ []) ≡ Some x
find_kept test [] y x is = absurd cc
find_kept test (first ∷ rest) y x is = by (test first) is (find_kept test rest y x)
  where
    by : (b : Bool) → cond b (Some first) (find test rest) ≡ Some x → (find test rest ≡ Some x → find test (rest ++ y ∷ []) ≡ Some x)
        → cond b (Some first) (find test (rest ++ y ∷ [])) ≡ Some x
    by true e later = e
    by false e later = later e

find_other : {X : Type 0} (test : X → Bool) (xs : List X) (y : X) → test y ≡ false → find test (xs ++ y ∷ []) ≡ find test xs
find_other test [] y fails = ap (λ b. cond b (Some y) None) fails
find_other test (first ∷ rest) y fails = ap (λ o. cond (test first) (Some first) o) (find_other test rest y fails)

find_new : {X : Type 0} (test : X → Bool) (xs : List X) (y : X) → test y ≡ true → ((x : X) → IsListed xs x → test x ≡ false) → find test (xs ++ y ∷ []) ≡ Some y
find_new test [] y passes none = ap (λ b. cond b (Some y) None) passes
find_new test (first ∷ rest) y passes none =
    ap (λ b. cond b (Some first) (find test (rest ++ y ∷ []))) (none first (inl refl)) ∙ find_new test rest y passes (λ x listed. none x (inr listed))

not_true : (b : Bool) → (b ≡ true → ⊥) → b ≡ false
not_true true never = absurd (never refl)
not_true false never = refl

-- more places
pub slice_get_kept : {X : Type 0} (xs ys : List X) (k : ℕ) (x : X) → slice_get xs k ≡ Some x → slice_get (xs ++ ys) k ≡ Some x
slice_get_kept [] ys k x at = absurd cc
slice_get_kept (first ∷ rest) ys zero x at = at
slice_get_kept (first ∷ rest) ys (suc k) x at = slice_get_kept rest ys k x at

pub slice_get_last : {X : Type 0} (xs : List X) (y : X) → slice_get (xs ++ y ∷ []) (length xs) ≡ Some y
slice_get_last [] y = refl
slice_get_last (first ∷ rest) y = slice_get_last rest y

pub slice_get_grown : {S : Type 0} (old new : List (Node S)) (k : ℕ) (node : Node S) → HasGrown old new → slice_get old k ≡ Some node → slice_get new k ≡ Some node
slice_get_grown old new k node (added, is) at = subst (λ xs. slice_get xs k ≡ Some node) (sym is) (slice_get_kept old added k node at)

pub found_grown : {S : Type 0} (test : Test) (old new : List (Node S)) (place : Place S) (to : ℕ) → HasGrown old new → IsFoundAt test old place to → IsFoundAt test new place to
found_grown test old new place to grown (node, at, same) = (node, slice_get_grown old new to node grown at, same)

pub leads_grown : {S : Type 0} (test : Test) (old new : List (Node S)) (place : Place S) (answers : List (Answer S)) (edge : Edge) → HasGrown old new → Leads test old place answers edge → Leads test new place answers edge
leads_grown test old new place answers edge grown (answer, deed, is, to, found) = (answer, deed, is, to, found_grown test old new _ edge.to grown found)

grown_none : {S : Type 0} (old new : List (Node S)) → new ≡ old → HasGrown old new
grown_none old new is = ([], is ∙ sym (append-nil old))

grown_put : {S : Type 0} (r : Readings S) (test : Test) (way : List Step) (place : Place S) (old new : List (Node S)) (to : ℕ) → WasPut r test way place old new to → HasGrown old new
grown_put r test way place old new to (inl (_, is)) = grown_none old new is
grown_put r test way place old new to (inr (node, is, _, _, _, _)) = (node ∷ [], is)

found_put : {S : Type 0} (r : Readings S) (test : Test) (way : List Step) (place : Place S) (old new : List (Node S)) (to : ℕ) → WasPut r test way place old new to
    → ((node : Node S) → node.place ≡ place → IsSamePlace test place node.place) → IsFoundAt test new place to
found_put r test way place old new to (inl (found, is)) same = found_grown test old new place to (grown_none old new is) found
found_put r test way place old new to (inr (node, is, at, there, _, _)) same =
    (node, subst (λ xs. slice_get xs to ≡ Some node) (sym is) (subst (λ k. slice_get (old ++ node ∷ []) k ≡ Some node) (sym at) (slice_get_last old node)), same node there)

-- a step that can be taken is a deed, and only what is said to that matters
can_has_deed : {S : Type 0} (r : Readings S) (test : Test) (said : Deed → Reply) (place : Place S) (step : Step) → CanStepBy r test said place step
    → (deed : Deed) × (deed_of test place.happened step ≡ Some deed)
can_has_deed r test said place (Steps.Hardware act) can = (Deeds.Hardware act, refl)
can_has_deed r test said place (Steps.Column column) can = by (next_cell test place.happened column) can
  where
    by : (o : Option (ℕ × Cell)) → CanRun said column o → (deed : Deed) × (deed_of_cell column o ≡ Some deed)
    by None none = absurd none
    by (Some (k, cell)) at = (Deeds.Cell (record { column = column; cell = k }), refl)

pub can_said : {S : Type 0} (r : Readings S) (test : Test) (said other : Deed → Reply) (place : Place S) (step : Step) (deed : Deed)
    → deed_of test place.happened step ≡ Some deed → said deed ≡ other deed → CanStepBy r test said place step → CanStepBy r test other place step
can_said r test said other place (Steps.Hardware act) deed is same can = can
can_said r test said other place (Steps.Column column) deed is same can = by (next_cell test place.happened column) is can
  where
    by : (o : Option (ℕ × Cell)) → deed_of_cell column o ≡ Some deed → CanRun said column o → CanRun other column o
    by None at none = absurd none
    by (Some (k, cell)) at can = let here : Deeds.Cell (record { column = column; cell = k }) ≡ deed = cc in
        subst (λ reply. CanRun (λ _. reply) column (Some (k, cell))) (ap said here ∙ same ∙ sym (ap other here)) can

steps_of-push : (edges : List Edge) (edge : Edge) → steps_of (edges ++ edge ∷ []) ≡ steps_of edges ++ edge.step ∷ []
steps_of-push [] edge = refl
steps_of-push (first ∷ rest) edge = ap (λ steps. first.step ∷ steps) (steps_of-push rest edge)

pub step_is_listed : (edges : List Edge) (edge : Edge) → IsListed edges edge → IsListed (steps_of edges) edge.step
step_is_listed [] edge listed = absurd listed
step_is_listed (first ∷ rest) edge (inl same) = inl (ap (λ e. e.step) same)
step_is_listed (first ∷ rest) edge (inr listed) = inr (step_is_listed rest edge listed)

pub edge_of_step : (edges : List Edge) (step : Step) → IsListed (steps_of edges) step → (edge : Edge) × IsListed edges edge × (edge.step ≡ step)
edge_of_step [] step listed = absurd listed
edge_of_step (first ∷ rest) step (inl same) = (first, inl refl, same)
edge_of_step (first ∷ rest) step (inr listed) = let (edge, there, same) = edge_of_step rest step listed in (edge, inr there, same)

-- the answers to earlier steps stay
answer_stays : {S : Type 0} (test : Test) (happened : List Happened) (first : List Step) (answers : List (Answer S)) (answer : Answer S) (step other : Step) (deed : Deed)
    → ¬ IsListed first step → deed_of test happened step ≡ Some answer.deed → IsListed first other → deed_of test happened other ≡ Some deed
    → answer_in (answers ++ answer ∷ []) deed ≡ answer_in answers deed
answer_stays test happened first answers answer step other deed apart is listed at =
    find_other (λ a. is_deed a.deed deed) answers answer (not_true (is_deed answer.deed deed) (λ e.
    apart (subst (λ s. IsListed first s) (sym (deed_tells test happened other deed at) ∙ sym (ap step_of (deed_same answer.deed deed e)) ∙ deed_tells test happened step answer.deed is) listed)))

answer_is_new : {S : Type 0} (test : Test) (happened : List Happened) (first : List Step) (answers : List (Answer S)) (answer : Answer S) (step : Step)
    → ¬ IsListed first step → deed_of test happened step ≡ Some answer.deed
    → ((a : Answer S) → IsListed answers a → (other : Step) × IsListed first other × (deed_of test happened other ≡ Some a.deed))
    → answer_in (answers ++ answer ∷ []) answer.deed ≡ Some answer
answer_is_new test happened first answers answer step apart is tried =
    find_new (λ a. is_deed a.deed answer.deed) answers answer (deed_is answer.deed) (λ x there. not_true (is_deed x.deed answer.deed) (λ e.
    let (other, listed, at) = tried x there in
    apart (subst (λ s. IsListed first s) (sym (deed_tells test happened other x.deed at) ∙ ap step_of (deed_same x.deed answer.deed e) ∙ deed_tells test happened step answer.deed is) listed)))

-- a step that does nothing
expands_nothing : {S : Type 0} (noted : Noted S) (r : Readings S) (test : Test) (nodes : List (Node S)) (place : Place S) (first : List Step) (edges : List Edge) (answers : List (Answer S)) (step : Step)
    → Expands noted r test nodes place first edges answers → deed_of test place.happened step ≡ None → Expands noted r test nodes place (first ++ step ∷ []) edges answers
expands_nothing {S} noted r test nodes place first edges answers step ex none = record {
  once = ex.once;
  from = λ edge listed. IsListed-push first step edge.step (ex.from edge listed);
  can = ex.can;
  all = λ s listed can. all s (IsListed-push_cases first step s listed) can;
  leads = ex.leads;
  may = λ s listed deed is before. may s (IsListed-push_cases first step s listed) deed is before;
  tried = λ a listed. let (s, there, is) = ex.tried a listed in (s, IsListed-push first step s there, is);
}
  where
    nothing : (s : Step) (deed : Deed) → step ≡ s → deed_of test place.happened s ≡ Some deed → ⊥
    nothing s deed same is = let no : None ≡ Some deed = sym none ∙ ap (deed_of test place.happened) same ∙ is in absurd cc

    all : (s : Step) → IsListed first s ⊎ (step ≡ s) → CanStepBy r test (reply_in answers) place s → IsListed (steps_of edges) s
    all s (inl there) can = ex.all s there can
    all s (inr same) can = let (deed, is) = can_has_deed r test (reply_in answers) place s can in absurd (nothing s deed same is)

    may : (s : Step) → IsListed first s ⊎ (step ≡ s) → (deed : Deed) → deed_of test place.happened s ≡ Some deed
        → (before : S) → MayAnswerNoted noted r test place deed (reply_in answers deed) (after_of before (answer_in answers deed))
    may s (inl there) deed is before = ex.may s there deed is before
    may s (inr same) deed is before = absurd (nothing s deed same is)

-- what a further answer leaves as it was
leads_stays : {S : Type 0} (test : Test) (nodes : List (Node S)) (place : Place S) (answers : List (Answer S)) (answer : Answer S) (edge : Edge)
    → Leads test nodes place answers edge → Leads test nodes place (answers ++ answer ∷ []) edge
leads_stays test nodes place answers answer edge (mine, deed, is, to, found) = (mine, deed, find_kept (λ a. is_deed a.deed mine.deed) answers answer mine is, to, found)

may_stays : {S : Type 0} (noted : Noted S) (r : Readings S) (test : Test) (nodes : List (Node S)) (place : Place S) (first : List Step) (edges : List Edge) (answers : List (Answer S)) (step : Step) (answer : Answer S)
    → Expands noted r test nodes place first edges answers → ¬ IsListed first step → deed_of test place.happened step ≡ Some answer.deed
    → MayAnswerNoted noted r test place answer.deed answer.reply answer.after
    → (s : Step) → IsListed first s ⊎ (step ≡ s) → (deed : Deed) → deed_of test place.happened s ≡ Some deed → (before : S)
    → MayAnswerNoted noted r test place deed (reply_in (answers ++ answer ∷ []) deed) (after_of before (answer_in (answers ++ answer ∷ []) deed))
may_stays noted r test nodes place first edges answers step answer ex apart is may s (inl there) deed at before =
    subst (λ o. MayAnswerNoted noted r test place deed (reply_of o) (after_of before o))
    (sym (answer_stays test place.happened first answers answer step s deed apart is there at)) (ex.may s there deed at before)
may_stays noted r test nodes place first edges answers step answer ex apart is may s (inr same) deed at before =
    let here : Some answer.deed ≡ Some deed = sym is ∙ ap (deed_of test place.happened) same ∙ at in
    let same_deed : answer.deed ≡ deed = cc in
    subst (λ d. MayAnswerNoted noted r test place d (reply_of (answer_in (answers ++ answer ∷ []) d)) (after_of before (answer_in (answers ++ answer ∷ []) d))) same_deed
    (subst (λ o. MayAnswerNoted noted r test place answer.deed (reply_of o) (after_of before o)) (sym (answer_is_new test place.happened first answers answer step apart is ex.tried)) may)

tried_more : {S : Type 0} (test : Test) (happened : List Happened) (first : List Step) (answers : List (Answer S)) (step : Step) (answer : Answer S)
    → ((a : Answer S) → IsListed answers a → (s : Step) × IsListed first s × (deed_of test happened s ≡ Some a.deed)) → deed_of test happened step ≡ Some answer.deed
    → (a : Answer S) → IsListed (answers ++ answer ∷ []) a → (s : Step) × IsListed (first ++ step ∷ []) s × (deed_of test happened s ≡ Some a.deed)
tried_more test happened first answers step answer tried is a listed = elim (IsListed-push_cases answers answer a listed) [
  | inl there ↦ let (s, was, at) = tried a there in (s, IsListed-push first step s was, at)
  | inr same ↦ (step, last_is_listed first step, is ∙ ap (λ x. Some x.deed) same)
]

can_stays : {S : Type 0} (noted : Noted S) (r : Readings S) (test : Test) (nodes : List (Node S)) (place : Place S) (first : List Step) (edges : List Edge) (answers : List (Answer S)) (step : Step) (answer : Answer S)
    → Expands noted r test nodes place first edges answers → ¬ IsListed first step → deed_of test place.happened step ≡ Some answer.deed
    → (edge : Edge) → IsListed edges edge → CanStepBy r test (reply_in (answers ++ answer ∷ [])) place edge.step
can_stays noted r test nodes place first edges answers step answer ex apart is edge listed =
    let (mine, deed, _, _, _) = ex.leads edge listed in
    can_said r test (reply_in answers) (reply_in (answers ++ answer ∷ [])) place edge.step mine.deed deed
    (ap reply_of (sym (answer_stays test place.happened first answers answer step edge.step mine.deed apart is (ex.from edge listed) deed))) (ex.can edge listed)

all_stays : {S : Type 0} (noted : Noted S) (r : Readings S) (test : Test) (nodes : List (Node S)) (place : Place S) (first : List Step) (edges : List Edge) (answers : List (Answer S)) (step : Step) (answer : Answer S)
    → Expands noted r test nodes place first edges answers → ¬ IsListed first step → deed_of test place.happened step ≡ Some answer.deed
    → (s : Step) → IsListed first s → CanStepBy r test (reply_in (answers ++ answer ∷ [])) place s → IsListed (steps_of edges) s
all_stays noted r test nodes place first edges answers step answer ex apart is s there can =
    let (deed, at) = can_has_deed r test (reply_in (answers ++ answer ∷ [])) place s can in
    ex.all s there (can_said r test (reply_in (answers ++ answer ∷ [])) (reply_in answers) place s deed at
    (ap reply_of (answer_stays test place.happened first answers answer step s deed apart is there at)) can)

said_now : {S : Type 0} (test : Test) (happened : List Happened) (first : List Step) (answers : List (Answer S)) (step : Step) (answer : Answer S)
    → ¬ IsListed first step → deed_of test happened step ≡ Some answer.deed
    → ((a : Answer S) → IsListed answers a → (other : Step) × IsListed first other × (deed_of test happened other ≡ Some a.deed))
    → reply_in (answers ++ answer ∷ []) answer.deed ≡ answer.reply
said_now test happened first answers step answer apart is tried = ap reply_of (answer_is_new test happened first answers answer step apart is tried)

-- one that was answered, and can't be taken
expands_untaken : {S : Type 0} (noted : Noted S) (r : Readings S) (test : Test) (nodes : List (Node S)) (place : Place S) (first : List Step) (edges : List Edge) (answers : List (Answer S)) (step : Step) (answer : Answer S)
    → Expands noted r test nodes place first edges answers → ¬ IsListed first step → deed_of test place.happened step ≡ Some answer.deed
    → MayAnswerNoted noted r test place answer.deed answer.reply answer.after → (¬ CanStepBy r test (λ _. answer.reply) place step)
    → Expands noted r test nodes place (first ++ step ∷ []) edges (answers ++ answer ∷ [])
expands_untaken {S} noted r test nodes place first edges answers step answer ex apart is may untaken = record {
  once = ex.once;
  from = λ edge listed. IsListed-push first step edge.step (ex.from edge listed);
  can = can_stays noted r test nodes place first edges answers step answer ex apart is;
  all = λ s listed can. all s (IsListed-push_cases first step s listed) can;
  leads = λ edge listed. leads_stays test nodes place answers answer edge (ex.leads edge listed);
  may = λ s listed deed at before. may_stays noted r test nodes place first edges answers step answer ex apart is may s (IsListed-push_cases first step s listed) deed at before;
  tried = tried_more test place.happened first answers step answer ex.tried is;
}
  where
    all : (s : Step) → IsListed first s ⊎ (step ≡ s) → CanStepBy r test (reply_in (answers ++ answer ∷ [])) place s → IsListed (steps_of edges) s
    all s (inl there) can = all_stays noted r test nodes place first edges answers step answer ex apart is s there can
    all s (inr same) can = absurd (untaken (can_said r test (reply_in (answers ++ answer ∷ [])) (λ _. answer.reply) place step answer.deed is
        (said_now test place.happened first answers step answer apart is ex.tried) (subst (λ x. CanStepBy r test (reply_in (answers ++ answer ∷ [])) place x) (sym same) can)))

-- one that was taken
expands_taken : {S : Type 0} (noted : Noted S) (r : Readings S) (test : Test) (nodes : List (Node S)) (place : Place S) (first : List Step) (edges : List Edge) (answers : List (Answer S)) (step : Step) (answer : Answer S)
    → Expands noted r test nodes place first edges answers → ¬ IsListed first step → deed_of test place.happened step ≡ Some answer.deed
    → MayAnswerNoted noted r test place answer.deed answer.reply answer.after → CanStepBy r test (λ _. answer.reply) place step
    → IsFoundAt test nodes (gone_on place answer.deed answer.reply answer.after) answer.to
    → Expands noted r test nodes place (first ++ step ∷ []) (edges ++ record { step = step; to = answer.to } ∷ []) (answers ++ answer ∷ [])
expands_taken {S} noted r test nodes place first edges answers step answer ex apart is may taken found = record {
  once = subst (λ steps. AreListedOnce steps) (sym (steps_of-push edges (record { step = step; to = answer.to })))
      (AreListedOnce-push (steps_of edges) step ex.once (λ listed. unlisted (edge_of_step edges step listed)));
  from = λ edge listed. from edge (IsListed-push_cases edges (record { step = step; to = answer.to }) edge listed);
  can = λ edge listed. can edge (IsListed-push_cases edges (record { step = step; to = answer.to }) edge listed);
  all = λ s listed can_be. subst (λ steps. IsListed steps s) (sym (steps_of-push edges (record { step = step; to = answer.to }))) (all s (IsListed-push_cases first step s listed) can_be);
  leads = λ edge listed. leads edge (IsListed-push_cases edges (record { step = step; to = answer.to }) edge listed);
  may = λ s listed deed at before. may_stays noted r test nodes place first edges answers step answer ex apart is may s (IsListed-push_cases first step s listed) deed at before;
  tried = tried_more test place.happened first answers step answer ex.tried is;
}
  where
    unlisted : (edge : Edge) × IsListed edges edge × (edge.step ≡ step) → ⊥
    unlisted (edge, there, same) = apart (subst (λ x. IsListed first x) same (ex.from edge there))

    from : (edge : Edge) → IsListed edges edge ⊎ (record { step = step; to = answer.to } ≡ edge) → IsListed (first ++ step ∷ []) edge.step
    from edge (inl there) = IsListed-push first step edge.step (ex.from edge there)
    from edge (inr same) = subst (λ e. IsListed (first ++ step ∷ []) e.step) same (last_is_listed first step)

    can : (edge : Edge) → IsListed edges edge ⊎ (record { step = step; to = answer.to } ≡ edge) → CanStepBy r test (reply_in (answers ++ answer ∷ [])) place edge.step
    can edge (inl there) = can_stays noted r test nodes place first edges answers step answer ex apart is edge there
    can edge (inr same) = subst (λ e. CanStepBy r test (reply_in (answers ++ answer ∷ [])) place e.step) same
        (can_said r test (λ _. answer.reply) (reply_in (answers ++ answer ∷ [])) place step answer.deed is (sym (said_now test place.happened first answers step answer apart is ex.tried)) taken)

    all : (s : Step) → IsListed first s ⊎ (step ≡ s) → CanStepBy r test (reply_in (answers ++ answer ∷ [])) place s → IsListed (steps_of edges ++ step ∷ []) s
    all s (inl there) can_be = IsListed-push (steps_of edges) step s (all_stays noted r test nodes place first edges answers step answer ex apart is s there can_be)
    all s (inr same) can_be = subst (λ x. IsListed (steps_of edges ++ step ∷ []) x) same (last_is_listed (steps_of edges) step)

    leads : (edge : Edge) → IsListed edges edge ⊎ (record { step = step; to = answer.to } ≡ edge) → Leads test nodes place (answers ++ answer ∷ []) edge
    leads edge (inl there) = leads_stays test nodes place answers answer edge (ex.leads edge there)
    leads edge (inr same) = subst (λ e. Leads test nodes place (answers ++ answer ∷ []) e) same
        (answer, is, answer_is_new test place.happened first answers answer step apart is ex.tried, refl, found)

-- the same over more places
pub expands_grown : {S : Type 0} (noted : Noted S) (r : Readings S) (test : Test) (old new : List (Node S)) (place : Place S) (first : List Step) (edges : List Edge) (answers : List (Answer S))
    → HasGrown old new → Expands noted r test old place first edges answers → Expands noted r test new place first edges answers
expands_grown noted r test old new place first edges answers grown ex = record {
  once = ex.once;
  from = ex.from;
  can = ex.can;
  all = ex.all;
  leads = λ edge listed. leads_grown test old new place answers edge grown (ex.leads edge listed);
  may = ex.may;
  tried = ex.tried;
}

grown_trans : {S : Type 0} (a b c : List (Node S)) → HasGrown a b → HasGrown b c → HasGrown a c
grown_trans a b c (first, is) (then, also) = (first ++ then, also ∙ ap (λ xs. xs ++ then) is ∙ append_assoc a first then)

-- the steps from a place so far
pub record IsExpanding {S : Type 0} (noted : Noted S) (r : Readings S) (test : Test) (node : Node S) (old new : List (Node S)) (first : List Step) (edges : List Edge) : Type 0 where
  pub answers : List (Answer S)
  pub expands : Expands noted r test new node.place first edges answers
  pub grown : HasGrown old new
  pub found : AreFoundBy r test node edges old new

slice_get_none : {X : Type 0} (xs : List X) (k : ℕ) (x : X) → length xs ≤ k → ¬ (slice_get xs k ≡ Some x)
slice_get_none [] k x past at = absurd cc
slice_get_none (first ∷ rest) zero x past at = absurd (omega arith)
slice_get_none (first ∷ rest) (suc k) x past at = slice_get_none rest k x (omega arith) at

pub slice_get_push_cases : {X : Type 0} (xs : List X) (y : X) (k : ℕ) (x : X) → slice_get (xs ++ y ∷ []) k ≡ Some x → (slice_get xs k ≡ Some x) ⊎ ((k ≡ length xs) × (y ≡ x))
slice_get_push_cases [] y zero x at = inr (refl, cc)
slice_get_push_cases [] y (suc k) x at = absurd cc
slice_get_push_cases (first ∷ rest) y zero x at = inl at
slice_get_push_cases (first ∷ rest) y (suc k) x at = elim (slice_get_push_cases rest y k x at) [ inl there ↦ inl there | inr last ↦ inr (omega (arith, last.0), last.1) ]

pub expanding_none : {S : Type 0} (noted : Noted S) (r : Readings S) (test : Test) (node : Node S) (nodes : List (Node S)) (first : List Step) → IsExpanding noted r test node nodes nodes (take 0 first) []
expanding_none noted r test node nodes first = record {
  answers = [];
  expands = record {
    once = tt;
    from = λ edge listed. absurd listed;
    can = λ edge listed. absurd listed;
    all = λ step listed can. absurd (none_is_taken first step listed);
    leads = λ edge listed. absurd listed;
    may = λ step listed deed is before. absurd (none_is_taken first step listed);
    tried = λ answer listed. absurd listed;
  };
  grown = grown_none nodes nodes refl;
  found = λ k found past at. absurd (slice_get_none nodes k found past at);
}

-- one more step, which can't be taken
pub expanding_untaken : {S : Type 0} (noted : Noted S) (r : Readings S) (test : Test) (node : Node S) (old mid new : List (Node S)) (first : List Step) (edges : List Edge) (step : Step)
    → IsExpanding noted r test node old mid first edges → ¬ IsListed first step → WasExplored noted r test node step mid new None
    → IsExpanding noted r test node old new (first ++ step ∷ []) edges
expanding_untaken {S} noted r test node old mid new first edges step e apart (reply, after, may, (cannot, is)) =
    subst (λ nodes. IsExpanding noted r test node old nodes (first ++ step ∷ []) edges) (sym is) (by (deed_of test node.place.happened step) refl)
  where
    by : (o : Option Deed) → deed_of test node.place.happened step ≡ o → IsExpanding noted r test node old mid (first ++ step ∷ []) edges
    by None none = record {
      answers = e.answers;
      expands = expands_nothing noted r test mid node.place first edges e.answers step e.expands none;
      grown = e.grown;
      found = e.found;
    }
    by (Some deed) at = record {
      answers = e.answers ++ record { deed = deed; reply = reply; after = after; to = 0 } ∷ [];
      expands = expands_untaken noted r test mid node.place first edges e.answers step (record { deed = deed; reply = reply; after = after; to = 0 }) e.expands apart at (may deed at) cannot;
      grown = e.grown;
      found = e.found;
    }

-- one that can
pub expanding_taken : {S : Type 0} (noted : Noted S) (r : Readings S) (test : Test) (node : Node S) (old mid new : List (Node S)) (first : List Step) (edges : List Edge) (step : Step) (to : ℕ)
    → IsExpanding noted r test node old mid first edges → ¬ IsListed first step → WasExplored noted r test node step mid new (Some to)
    → IsExpanding noted r test node old new (first ++ step ∷ []) (edges ++ record { step = step; to = to } ∷ [])
expanding_taken {S} noted r test node old mid new first edges step to e apart (reply, after, may, (can, (deed, at, (end, same, put)))) = record {
  answers = e.answers ++ record { deed = deed; reply = reply; after = after; to = to } ∷ [];
  expands = expands_taken noted r test new node.place first edges e.answers step (record { deed = deed; reply = reply; after = after; to = to })
      (expands_grown noted r test mid new node.place first edges e.answers grown e.expands) apart at (may deed at) can (there (found_put r test (node.way ++ step ∷ []) end mid new to put is_same));
  grown = grown_trans old mid new e.grown grown;
  found = λ k found past got. found_by k found past got put;
}
  where
    grown : HasGrown mid new
    grown = grown_put r test (node.way ++ step ∷ []) end mid new to put

    is_same : (n : Node S) → n.place ≡ end → IsSamePlace test end n.place
    is_same n is = subst (λ p. IsSamePlace test end p) (sym is) (same_refl test end)

    there : IsFoundAt test new end to → IsFoundAt test new (gone_on node.place deed reply after) to
    there (n, got, alike) = (n, got, same_trans test (gone_on node.place deed reply after) end n.place same alike)

    was_found : (k : ℕ) (found : Node S) → length old ≤ k → slice_get mid k ≡ Some found
        → (found.outcome ≡ seen_at r test found.place) × ((edge : Edge) × IsListed (edges ++ record { step = step; to = to } ∷ []) edge × (edge.to ≡ k) × (found.way ≡ node.way ++ edge.step ∷ []))
    was_found k found past got = let (seen, (edge, listed, ends, way)) = e.found k found past got in (seen, (edge, IsListed-push edges (record { step = step; to = to }) edge listed, ends, way))

    found_by : (k : ℕ) (found : Node S) → length old ≤ k → slice_get new k ≡ Some found → WasPut r test (node.way ++ step ∷ []) end mid new to
        → (found.outcome ≡ seen_at r test found.place) × ((edge : Edge) × IsListed (edges ++ record { step = step; to = to } ∷ []) edge × (edge.to ≡ k) × (found.way ≡ node.way ++ edge.step ∷ []))
    found_by k found past got (inl (_, is)) = was_found k found past (subst (λ nodes. slice_get nodes k ≡ Some found) is got)
    found_by k found past got (inr (n, is, ends, place, way, seen)) = elim (slice_get_push_cases mid n k found (subst (λ nodes. slice_get nodes k ≡ Some found) is got)) [
      | inl was ↦ was_found k found past was
      | inr (last, it) ↦ (
        sym (ap (λ x. x.outcome) it) ∙ seen ∙ ap (seen_at r test) (sym place ∙ ap (λ x. x.place) it),
        (record { step = step; to = to }, last_is_listed edges (record { step = step; to = to }), ends ∙ sym last, sym (ap (λ x. x.way) it) ∙ way),
      )
    ]

once_before : {X : Type 0} (xs : List X) (k : ℕ) (d : X) → k < length xs → AreListedOnce xs → ¬ IsListed (take k xs) (get_or xs k d)
once_before [] k d within once listed = absurd (omega arith)
once_before (first ∷ rest) zero d within once listed = listed
once_before (first ∷ rest) (suc k) d within (apart, once) (inl same) = apart (at_is_listed rest k d first (omega arith) (sym same))
once_before (first ∷ rest) (suc k) d within (apart, once) (inr listed) = once_before rest k d (omega arith) once listed

pub take_next : {X : Type 0} (xs : List X) (k : ℕ) (d : X) → k < length xs → take k xs ++ get_or xs k d ∷ [] ≡ take (k + 1) xs
take_next xs k d within = sym (take-suc xs k d within) ∙ ap (λ n. take n xs) (sym (add-one k))

-- of the first steps, one more
pub expanding_past : {S : Type 0} (noted : Noted S) (r : Readings S) (test : Test) (node : Node S) (old mid new : List (Node S)) (first : List Step) (edges : List Edge) (k : ℕ) (d : Step)
    → IsExpanding noted r test node old mid (take k first) edges → k < length first → AreListedOnce first → WasExplored noted r test node (get_or first k d) mid new None
    → IsExpanding noted r test node old new (take (k + 1) first) edges
expanding_past noted r test node old mid new first edges k d e within once explored =
    subst (λ steps. IsExpanding noted r test node old new steps edges) (take_next first k d within)
    (expanding_untaken noted r test node old mid new (take k first) edges (get_or first k d) e (once_before first k d within once) explored)

pub expanding_on : {S : Type 0} (noted : Noted S) (r : Readings S) (test : Test) (node : Node S) (old mid new : List (Node S)) (first : List Step) (edges later : List Edge) (k to : ℕ) (d : Step)
    → IsExpanding noted r test node old mid (take k first) edges → k < length first → AreListedOnce first → WasExplored noted r test node (get_or first k d) mid new (Some to)
    → later ≡ edges ++ record { step = get_or first k d; to = to } ∷ []
    → IsExpanding noted r test node old new (take (k + 1) first) later
expanding_on noted r test node old mid new first edges later k to d e within once explored is =
    subst (λ es. IsExpanding noted r test node old new (take (k + 1) first) es) (sym is)
    (subst (λ steps. IsExpanding noted r test node old new steps (edges ++ record { step = get_or first k d; to = to } ∷ [])) (take_next first k d within)
    (expanding_taken noted r test node old mid new (take k first) edges (get_or first k d) to e (once_before first k d within once) explored))

pub expanding_next_past : {S : Type 0} (noted : Noted S) (r : Readings S) (test : Test) (node : Node S) (old mid new : List (Node S)) (first : List Step) (edges later : List Edge) (k : ℕ) (d : Step) (tried : Option ℕ)
    → IsExpanding noted r test node old mid (take k first) edges → k < length first → AreListedOnce first → WasExplored noted r test node (get_or first k d) mid new tried → tried ≡ None → later ≡ edges
    → IsExpanding noted r test node old new (take (k + 1) first) later
expanding_next_past noted r test node old mid new first edges later k d tried e within once explored none is =
    subst (λ es. IsExpanding noted r test node old new (take (k + 1) first) es) (sym is)
    (expanding_past noted r test node old mid new first edges k d e within once (subst (λ o. WasExplored noted r test node (get_or first k d) mid new o) none explored))

pub expanding_next_on : {S : Type 0} (noted : Noted S) (r : Readings S) (test : Test) (node : Node S) (old mid new : List (Node S)) (first : List Step) (edges later : List Edge) (k to : ℕ) (d : Step) (tried : Option ℕ)
    → IsExpanding noted r test node old mid (take k first) edges → k < length first → AreListedOnce first → WasExplored noted r test node (get_or first k d) mid new tried → tried ≡ Some to
    → later ≡ edges ++ record { step = get_or first k d; to = to } ∷ []
    → IsExpanding noted r test node old new (take (k + 1) first) later
expanding_next_on noted r test node old mid new first edges later k to d tried e within once explored some is =
    expanding_on noted r test node old mid new first edges later k to d e within once (subst (λ o. WasExplored noted r test node (get_or first k d) mid new o) some explored) is

-- all steps
pub expanded_all : {S : Type 0} (noted : Noted S) (r : Readings S) (test : Test) (node : Node S) (old new : List (Node S)) (all first : List Step) (edges : List Edge) (n : ℕ)
    → IsExpanding noted r test node old new (take n first) edges → n ≡ length first → ListsCandidates r test node.place all → ListsOnce all first
    → WasExpanded noted r test node old new edges
expanded_all noted r test node old new all first edges n e is candidates once = record {
  answers = e.answers;
  all = (take n first, e.expands, λ step can. subst (λ k. IsListed (take k first) step) (sym is) (all_are_taken first step (once.all step (candidates step can))));
  grown = e.grown;
  found = e.found;
}
