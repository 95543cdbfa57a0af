-- Histograms: of each outcome how many schedules have it.
use Rattle.std.specs.Prelude.{◌≡◌, ◌↔◌, ℕ, ◌≤◌, List, [], ◌∷◌, length}
use Rattle.iom_litmus_test.specs.declared.observable.Value.{Value}
use Rattle.iom_litmus_test.specs.declared.test.Test.{Test}
use Rattle.iom_litmus.specs.declared.histogram.Row.{Row}
use Rattle.iom_litmus.specs.declared.step.Step.{Step}
use Rattle.iom_litmus.specs.Behaviours.{Behaviour}
use Rattle.iom_litmus.specs.Readings.{Readings}
use Rattle.iom_litmus.specs.Rules.{Noted}
use Rattle.iom_litmus.specs.Listed.{IsListed, AreListedOnce}
use Rattle.iom_litmus.specs.Seen.{outcome_after}
use Rattle.iom_litmus.specs.Steps.{IsScheduleOf, IsLawful}

-- so many schedules have the outcome: they can be listed, each once
abbrev pub IsScheduleCount : {S : Type 0} → Readings S → Behaviour S → Test → S → List Value → ℕ → Type 0
IsScheduleCount r b test system outcome count =
    (schedules : List (List Step))
    × AreListedOnce schedules
    × (length schedules ≡ count)
    × ((schedule : List Step) → IsListed schedules schedule ↔ (IsScheduleOf r b test system schedule × (outcome_after r b test system schedule ≡ outcome)))

abbrev pub outcomes : List Row → List (List Value)
outcomes [] = []
outcomes (row ∷ rest) = row.outcome ∷ outcomes rest

-- a row for each outcome that some schedule has, with how many have it and one of the shortest of them, and no other row
pub record IsHistogram {S : Type 0} (r : Readings S) (b : Behaviour S) (test : Test) (system : S) (rows : List Row) : Type 0 where
  pub complete : (schedule : List Step) → IsScheduleOf r b test system schedule → IsListed (outcomes rows) (outcome_after r b test system schedule)
  pub counted : (row : Row) → IsListed rows row → IsScheduleCount r b test system row.outcome row.count
  pub told : (row : Row) → IsListed rows row → IsScheduleOf r b test system row.schedule × (outcome_after r b test system row.schedule ≡ row.outcome)
  pub shortest : (row : Row) → IsListed rows row → (schedule : List Step) → IsScheduleOf r b test system schedule → outcome_after r b test system schedule ≡ row.outcome
      → length row.schedule ≤ length schedule
  pub apart : AreListedOnce (outcomes rows)

-- what a search answers: the histogram of all schedules by some behaviour, of which each answer is one that the system may give. An awaited cell that isn't
-- answered like that leaves the system as it was, unless it is among those that are noted
pub record IsSearched {S : Type 0} (opens : S → Type 0) (noted : Noted S) (r : Readings S) (test : Test) (rows : List Row) : Type 0 where
  pub system : S
  pub behaviour : Behaviour S
  pub opened : opens system
  pub lawful : IsLawful noted r behaviour test system
  pub histogram : IsHistogram r behaviour test system rows
