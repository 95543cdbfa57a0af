-- What the judge finds of the first line and of the later ones.
use Rattle.std.proofs.Common.{◌≡◌, ◌↔◌, ℕ, zero, suc, ◌+◌, ◌≤◌, List, [], ◌∷◌, map, length, drop, Option, None, Some, slice_get, refl, sym, ap, subst, arith}
use Rattle.std.proofs.lemmas.Grind.{common_steps}
use Rattle.iom_kept_state.specs.declared.state.KeptState.{KeptState}
use Rattle.iom_kept_state.specs.Grants.{IsPastOf}
use Rattle.iom_kept_state.specs.States.{state_of, Leaves, MayNotCome}
use Rattle.iom_ledger.specs.History.{History}
use Rattle.iom_machine.specs.declared.event.Event.{Event}
use Rattle.iom_machine_judge.specs.declared.line.Line.{Line}
use Rattle.iom_machine.specs.declared.outcome.Outcome.{Outcome}
use Rattle.iom_machine.specs.declared.state.State.{State}
use Rattle.iom_machine.specs.Machine.{Run}
use Rattle.iom_machine_judge.specs.Verdicts.{LineStep, LinesRun, FirstUnlawfulAt, lines_before, IsFoundOf}

-- what is found of a list of lines, by what is found of the list without its first so many
abbrev pub later_by : ℕ → Option ℕ → Option ℕ
later_by count None = None
later_by count (Some place) = Some (count + place)

-- the line decides the next state
abbrev pub LineLeaves : KeptState → Line → KeptState → Type 0
LineLeaves old line next = Leaves old next (λ before after. LineStep before line after)

-- numbers under an option
number_of : (place k : ℕ) → ◌≡◌ {A = Option ℕ} (Some place) (Some k) → place ≡ k
number_of place k same = cc

never_none : (k : ℕ) → ◌≡◌ {A = Option ℕ} None (Some k) → ⊥
never_none k same = cc

-- the lines before the one that is found, where that is a later one
before_later : (found : Option ℕ) (line : Line) (later : List Line) → lines_before (later_by 1 found) (line ∷ later) ≡ line ∷ lines_before found later
before_later None line later = refl
before_later (Some place) line later = let numbers : 1 + place ≡ suc place = omega arith in rw numbers refl

-- the state that the first line leaves, and where the later ones lead from there
left_after : (old next new : KeptState) (line : Line) (later : List Line)
    → LineLeaves old line next → Leaves next new (λ before after. LinesRun before later after) → Leaves old new (λ before after. LinesRun before (line ∷ later) after)
left_after old next new line later leaves runs h past =
    let step = leaves h past in
    let rest = runs step.0 step.1 in (
      rest.0,
      rest.1,
      (λ after. (
        (λ same. (state_of next step.0, (step.2 (state_of next step.0)).0 refl, (rest.2 after).0 same)),
        (λ run. (rest.2 after).1 (subst (λ s. LinesRun s later after) ((step.2 run.0).1 run.1) run.2)),
      )),
    )

-- the first that may not come, of the later lines
stops_after : (found : Option ℕ) (old next : State) (line : Line) (later : List Line)
    → ((after : State) → (after ≡ next) ↔ LineStep old line after)
    → ((k : ℕ) → (found ≡ Some k) ↔ FirstUnlawfulAt k next later) → (k : ℕ) → (later_by 1 found ≡ Some k) ↔ FirstUnlawfulAt k old (line ∷ later)
stops_after found old next line later leaves stops k = (forward found k stops, backward found k stops)
  where
    forward : (found : Option ℕ) (k : ℕ) → ((k : ℕ) → (found ≡ Some k) ↔ FirstUnlawfulAt k next later) → later_by 1 found ≡ Some k → FirstUnlawfulAt k old (line ∷ later)
    forward None k stops same = absurd (never_none k same)
    forward (Some place) k stops same =
        let numbers : suc place ≡ k = omega (arith, number_of (1 + place) k same) in
        subst (λ n. FirstUnlawfulAt n old (line ∷ later)) numbers (next, (leaves next).0 refl, (stops place).0 refl)

    backward : (found : Option ℕ) (k : ℕ) → ((k : ℕ) → (found ≡ Some k) ↔ FirstUnlawfulAt k next later) → FirstUnlawfulAt k old (line ∷ later) → later_by 1 found ≡ Some k
    backward found zero stops stop = absurd (stop next ((leaves next).0 refl))
    backward None (suc k) stops (mid, step, stop) = absurd (never_none k ((stops k).1 (subst (λ s. FirstUnlawfulAt k s later) ((leaves mid).1 step) stop)))
    backward (Some place) (suc k) stops (mid, step, stop) =
        let same : place ≡ k = number_of place k ((stops k).1 (subst (λ s. FirstUnlawfulAt k s later) ((leaves mid).1 step) stop)) in
        let numbers : 1 + place ≡ suc k = omega (arith, same) in ap (λ n. Some n) numbers

-- what is found of the later lines, in the state that the first one leaves, is found of all
found_after : (old next new : KeptState) (line : Line) (later : List Line) (found : Option ℕ)
    → LineLeaves old line next → IsFoundOf found next new later → IsFoundOf (later_by 1 found) old new (line ∷ later)
found_after old next new line later found leaves (runs, stops) = (
  subst (λ ls. Leaves old new (λ before after. LinesRun before ls after)) (sym (before_later found line later)) (left_after old next new line (lines_before found later) leaves runs),
  (λ h past. let step = leaves h past in stops_after found (state_of old h) (state_of next step.0) line later step.2 (stops step.0 step.1)),
)

-- the first so many lines lead to what is kept: what is found of the others there is found of all
abbrev pub LeadsTo : KeptState → List Line → ℕ → KeptState → Type 0
LeadsTo old lines count reached =
    (new : KeptState) (found : Option ℕ) → IsFoundOf found reached new (drop count lines) → IsFoundOf (later_by count found) old new lines

pub leads_to_none : (old : KeptState) (lines : List Line) → LeadsTo old lines 0 old
leads_to_none old lines new None is = is
leads_to_none old lines new (Some place) is = let none : place ≡ 0 + place = omega arith in subst (λ n. IsFoundOf (Some n) old new lines) none is

-- the others, from a line on
drop_at : (lines : List Line) (count : ℕ) (line : Line) → slice_get lines count ≡ Some line → drop count lines ≡ line ∷ drop (suc count) lines
drop_at [] count line at = cc
drop_at (first ∷ later) zero line at = let same : first ≡ line = cc in ap (λ (l : Line). l ∷ later) same
drop_at (first ∷ later) (suc count) line at = drop_at later count line at

later_still : (count : ℕ) (found : Option ℕ) → later_by count (later_by 1 found) ≡ later_by (count + 1) found
later_still count None = refl
later_still count (Some place) = let numbers : count + (1 + place) ≡ count + 1 + place = omega arith in ap (λ n. Some n) numbers

-- one line more leads on
pub leads_to_next : (old reached next : KeptState) (lines : List Line) (count : ℕ) (line : Line)
    → slice_get lines count ≡ Some line → LineLeaves reached line next → LeadsTo old lines count reached → LeadsTo old lines (count + 1) next
leads_to_next old reached next lines count line at leaves leads new found is =
    subst (λ o. IsFoundOf o old new lines) (later_still count found)
    (leads new (later_by 1 found) (subst (λ ls. IsFoundOf (later_by 1 found) reached new ls) (sym (drop_at lines count line at))
    (found_after reached next new line (drop (suc count) lines) found leaves (as_later count is))))
  where
    as_later : (n : ℕ) → IsFoundOf found next new (drop (n + 1) lines) → IsFoundOf found next new (drop (suc n) lines)
    as_later n found_so = let one_more : n + 1 ≡ suc n = omega arith in subst (λ m. IsFoundOf found next new (drop m lines)) one_more found_so

-- a line that may not come is the first such one
pub stops_at : (old reached : KeptState) (lines : List Line) (count : ℕ) (line : Line)
    → slice_get lines count ≡ Some line → MayNotCome reached (λ before after. LineStep before line after) → LeadsTo old lines count reached → IsFoundOf (Some count) old reached lines
stops_at old reached lines count line at never leads =
    let none : count + 0 ≡ count = omega arith in
    subst (λ n. IsFoundOf (Some n) old reached lines) none
    (leads reached (Some 0) (subst (λ ls. IsFoundOf (Some 0) reached reached ls) (sym (drop_at lines count line at)) first))
  where
    later : List Line
    later = drop (suc count) lines

    forward : (h : History) → IsPastOf reached.grants h → (k : ℕ) → ◌≡◌ {A = Option ℕ} (Some 0) (Some k) → FirstUnlawfulAt k (state_of reached h) (line ∷ later)
    forward h past k same = subst (λ n. FirstUnlawfulAt n (state_of reached h) (line ∷ later)) (number_of 0 k same) (never h past)

    backward : (h : History) → IsPastOf reached.grants h → (k : ℕ) → FirstUnlawfulAt k (state_of reached h) (line ∷ later) → ◌≡◌ {A = Option ℕ} (Some 0) (Some k)
    backward h past zero stop = refl
    backward h past (suc k) (mid, step, stop) = absurd (never h past mid step)

    first : IsFoundOf (Some 0) reached reached (line ∷ later)
    first = ((λ h past. (h, past, (λ after. ((λ same. same), (λ run. run))))), (λ h past k. (forward h past k, backward h past k)))

-- after the last line
pub ends_at : (old reached : KeptState) (lines : List Line) (count : ℕ) → length lines ≤ count → LeadsTo old lines count reached → IsFoundOf None old reached lines
ends_at old reached lines count all leads = leads reached None (subst (λ ls. IsFoundOf None reached reached ls) (sym (nothing lines count all)) empty)
  where
    nothing : (ls : List Line) (n : ℕ) → length ls ≤ n → drop n ls ≡ []
    nothing [] n all = grind (arith, common_steps)
    nothing (first ∷ later) zero all = absurd (omega (arith, all))
    nothing (first ∷ later) (suc n) all = nothing later n (omega (arith, all))

    empty : IsFoundOf None reached reached []
    empty = ((λ h past. (h, past, (λ after. ((λ same. same), (λ run. run))))), (λ h past k. ((λ same. never_none k same), (λ stop. absurd stop))))

-- a run, line by line
pub lines_of_run : (old new : State) (events : List Event) (outcomes : List Outcome) → Run old events outcomes new
    → (lines : List Line) × (map (λ line. line.event) lines ≡ events) × (map (λ line. line.outcome) lines ≡ outcomes) × LinesRun old lines new
lines_of_run old new [] [] run = ([], refl, refl, run)
lines_of_run old new (event ∷ events) (outcome ∷ outcomes) (mid, (choice, step), run) =
    let rest = lines_of_run mid new events outcomes run in
    (record { event = event; outcome = outcome; choice = choice } ∷ rest.0, ap (λ (es : List Event). event ∷ es) rest.1, ap (λ (os : List Outcome). outcome ∷ os) rest.2, (mid, step, rest.3))
lines_of_run old new [] (outcome ∷ outcomes) run = absurd run
lines_of_run old new (event ∷ events) [] run = absurd run

pub run_of_lines : (old new : State) (lines : List Line) → LinesRun old lines new → Run old (map (λ line. line.event) lines) (map (λ line. line.outcome) lines) new
run_of_lines old new [] run = run
run_of_lines old new (line ∷ lines) (mid, step, run) = (mid, (line.choice, step), run_of_lines mid new lines run)

pub run_if_lines : (old new : State) (events : List Event) (outcomes : List Outcome) (lines : List Line) → map (λ line. line.event) lines ≡ events → map (λ line. line.outcome) lines ≡ outcomes
    → LinesRun old lines new → Run old events outcomes new
run_if_lines old new events outcomes lines es os run =
    subst (λ (e : List Event). Run old e outcomes new) es (subst (λ (o : List Outcome). Run old (map (λ line. line.event) lines) o new) os (run_of_lines old new lines run))
