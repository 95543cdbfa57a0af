-- That all steps which can be taken are among the candidates.
use Rattle.std.proofs.Common.{◌≡◌, ◌⊎◌, inl, inr, ℕ, ◌+◌, ◌<◌, ◌≤◌, List, [], ◌∷◌, ◌++◌, Option, Some, None, is_some, IsTrue, length, take, get_or, refl, sym, ap, ◌∙◌, subst, arith, below_more}
use Rattle.std.proofs.lemmas.Bool.{false≢true}
use Rattle.std.proofs.lemmas.Option.{slice_get_cases}
use Rattle.std.specs.List.{slice_get}
use Rattle.iom_litmus_test.specs.declared.test.Test.{Test}
use Rattle.iom_litmus.specs.declared.place.Place.{Place}
use Rattle.iom_litmus.specs.declared.step.HardwareStep.{HardwareStep}
use Rattle.iom_litmus.specs.declared.step.HardwareStep.TheVariants as Acts
use Rattle.iom_litmus.specs.declared.step.Step.{Step}
use Rattle.iom_litmus.specs.declared.step.Step.TheVariants as Steps
use Rattle.iom_litmus.specs.Readings.{Readings}
use Rattle.iom_litmus.specs.Candidates.{ListsColumns, ListsDeviceSteps, ListsMessageSteps, ListsCandidates, ListsOnce, PutsOnce, CanTry}
use Rattle.iom_litmus.specs.Happenings.{next_cell, first_from, cells_of, cells_in}
use Rattle.iom_litmus.specs.Listed.{IsListed, AreListedOnce, KeepsListed}
use Rattle.iom_litmus.proofs.ListedLemmas.{IsListed-push, pushed_is_listed, KeepsListed-push, more_taken_cases, AreListedOnce-push, none_is_taken, all_are_taken}

pub columns_more : (old new : List Step) (k : ℕ) → ListsColumns k old → new ≡ old ++ Steps.Column k ∷ [] → ListsColumns (k + 1) new
columns_more old new k lists is =
    below_more (λ column. IsListed new (Steps.Column column)) k
    (λ column below. KeepsListed-push old old new (Steps.Column k) (λ x listed. listed) is (Steps.Column column) (lists column below))
    (pushed_is_listed old new (Steps.Column k) is)

pub devices_more : (old middle new : List Step) (devices : List ℕ) (k device : ℕ) → k < length devices → get_or devices k device ≡ device
    → ListsDeviceSteps (take k devices) old
    → middle ≡ old ++ Steps.Hardware (Acts.Commit device) ∷ [] → new ≡ middle ++ Steps.Hardware (Acts.Load device) ∷ []
    → ListsDeviceSteps (take (k + 1) devices) new
devices_more old middle new devices k device within at lists first second other listed =
    let keeps : KeepsListed old new = KeepsListed-push old middle new _ (KeepsListed-push old old middle _ (λ x there. there) first) second in
    elim (more_taken_cases devices k device other within listed) [
      | inl there ↦ (keeps _ (lists other there).0, keeps _ (lists other there).1)
      | inr same ↦ subst (λ d. IsListed new (Steps.Hardware (Acts.Commit d)) × IsListed new (Steps.Hardware (Acts.Load d))) (sym at ∙ same)
          (KeepsListed-push middle middle new _ (λ x there. there) second _ (pushed_is_listed old middle _ first), pushed_is_listed middle new _ second)
    ]

pub messages_more : (old one two new : List Step) (k : ℕ) → ListsMessageSteps k old
    → one ≡ old ++ Steps.Hardware (Acts.Deliver k) ∷ [] → two ≡ one ++ Steps.Hardware (Acts.Drop k) ∷ [] → new ≡ two ++ Steps.Hardware (Acts.Repeat k) ∷ []
    → ListsMessageSteps (k + 1) new
messages_more old one two new k lists first second third =
    let later : KeepsListed one new = KeepsListed-push one two new _ (KeepsListed-push one one two _ (λ x there. there) second) third in
    let keeps : KeepsListed old new = λ x there. later x (KeepsListed-push old old one _ (λ y here. here) first x there) in
    below_more (λ m. IsListed new (Steps.Hardware (Acts.Deliver m)) × IsListed new (Steps.Hardware (Acts.Drop m)) × IsListed new (Steps.Hardware (Acts.Repeat m))) k
    (λ m below. (keeps _ (lists m below).0, keeps _ (lists m below).1, keeps _ (lists m below).2))
    (later _ (pushed_is_listed old one _ first), KeepsListed-push two two new _ (λ x there. there) third _ (pushed_is_listed one two _ second), pushed_is_listed two new _ third)

-- a column that isn't there has no next cell
pub next_is_within : {S : Type 0} (r : Readings S) (test : Test) (place : Place S) (column : ℕ) → CanTry r test place (Steps.Column column) → column < length test.columns
next_is_within r test place column can = by (slice_get_cases test.columns column).1
  where
    by : ((x : _) × (column < length test.columns) × (slice_get test.columns column ≡ Some x) × (get_or test.columns column x ≡ x)) ⊎ ((length test.columns ≤ column) × (slice_get test.columns column ≡ None))
        → column < length test.columns
    by (inl (x, within, _, _)) = within
    by (inr (_, none)) = absurd (false≢true (subst (λ o. IsTrue (is_some (first_from place.happened column 0 (cells_in o)))) none can))

pub candidates_are_enough : {S : Type 0} (r : Readings S) (test : Test) (place : Place S) (steps : List Step)
    → ListsColumns (length test.columns) steps → IsListed steps (Steps.Hardware Acts.Fetch) → IsListed steps (Steps.Hardware Acts.Timeout)
    → ListsDeviceSteps (r.devices place.system) steps → ListsMessageSteps (r.messages place.system) steps → ListsCandidates r test place steps
candidates_are_enough r test place steps columns fetch timeout devices messages (Steps.Column column) can = columns column (next_is_within r test place column can)
candidates_are_enough r test place steps columns fetch timeout devices messages (Steps.Hardware Acts.Fetch) can = fetch
candidates_are_enough r test place steps columns fetch timeout devices messages (Steps.Hardware Acts.Timeout) can = timeout
candidates_are_enough r test place steps columns fetch timeout devices messages (Steps.Hardware (Acts.Commit device)) (_, there, _) = (devices device there).0
candidates_are_enough r test place steps columns fetch timeout devices messages (Steps.Hardware (Acts.Load device)) (_, there, _) = (devices device there).1
candidates_are_enough r test place steps columns fetch timeout devices messages (Steps.Hardware (Acts.Deliver message)) (_, within, _, _) = (messages message within).0
candidates_are_enough r test place steps columns fetch timeout devices messages (Steps.Hardware (Acts.Drop message)) (within, _) = (messages message within).1
candidates_are_enough r test place steps columns fetch timeout devices messages (Steps.Hardware (Acts.Repeat message)) (within, _) = (messages message within).2

-- each once
pub once_none : (steps : List Step) → ListsOnce (take 0 steps) []
once_none steps = record { once = tt; all = λ step listed. absurd (none_is_taken steps step listed) }

pub once_more : (steps once new : List Step) (k : ℕ) (d : Step) → ListsOnce (take k steps) once → k < length steps → (¬ IsListed once (get_or steps k d)) → new ≡ once ++ get_or steps k d ∷ []
    → ListsOnce (take (k + 1) steps) new
once_more steps once new k d lists within apart is = subst (λ xs. ListsOnce (take (k + 1) steps) xs) (sym is) (record {
  once = AreListedOnce-push once (get_or steps k d) lists.once apart;
  all = λ step listed. elim (more_taken_cases steps k d step within listed) [
    | inl there ↦ IsListed-push once (get_or steps k d) step (lists.all step there)
    | inr same ↦ subst (λ x. IsListed (once ++ get_or steps k d ∷ []) x) same (pushed_is_listed once (once ++ get_or steps k d ∷ []) (get_or steps k d) refl)
  ];
})

pub once_same : (steps once : List Step) (k : ℕ) (d : Step) → ListsOnce (take k steps) once → k < length steps → IsListed once (get_or steps k d) → ListsOnce (take (k + 1) steps) once
once_same steps once k d lists within there = record {
  once = lists.once;
  all = λ step listed. elim (more_taken_cases steps k d step within listed) [
    | inl earlier ↦ lists.all step earlier
    | inr same ↦ subst (λ x. IsListed once x) same there
  ];
}

pub once_all : (steps once : List Step) (n : ℕ) → n ≡ length steps → ListsOnce (take n steps) once → ListsOnce steps once
once_all steps once n is lists = record {
  once = lists.once;
  all = λ step listed. lists.all step (subst (λ k. IsListed (take k steps) step) (sym is) (all_are_taken steps step listed));
}

pub once_next : (steps once new : List Step) (k : ℕ) (d : Step) → ListsOnce (take k steps) once → k < length steps → PutsOnce (get_or steps k d) once new → ListsOnce (take (k + 1) steps) new
once_next steps once new k d lists within (inl (apart, is)) = once_more steps once new k d lists within apart is
once_next steps once new k d lists within (inr (there, is)) = subst (λ xs. ListsOnce (take (k + 1) steps) xs) (sym is) (once_same steps once k d lists within there)
