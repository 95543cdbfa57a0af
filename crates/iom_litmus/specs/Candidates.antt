-- Steps that are enough: whatever can be taken at a place is among them.
use Rattle.std.specs.Prelude.{◌≡◌, ◌⊎◌, ℕ, ◌<◌, List, [], ◌∷◌, ◌++◌, length, is_some, IsTrue}
use Rattle.iom_litmus_test.specs.declared.test.Test.{Test}
use Rattle.iom_litmus.specs.declared.place.Place.{Place}
use Rattle.iom_litmus.specs.declared.step.HardwareStep.{HardwareStep}
use Rattle.iom_litmus.specs.declared.step.HardwareStep.TheVariants as Acts
use Rattle.iom_litmus.specs.declared.step.Step.{Step}
use Rattle.iom_litmus.specs.declared.step.Step.TheVariants as Steps
use Rattle.iom_litmus.specs.Readings.{Readings}
use Rattle.iom_litmus.specs.Happenings.{next_cell}
use Rattle.iom_litmus.specs.Listed.{IsListed, AreListedOnce}
use Rattle.iom_litmus.specs.Steps.{CanAct}

abbrev pub ListsColumns : ℕ → List Step → Type 0
ListsColumns columns steps = (column : ℕ) → column < columns → IsListed steps (Steps.Column column)

abbrev pub ListsDeviceSteps : List ℕ → List Step → Type 0
ListsDeviceSteps devices steps = (device : ℕ) → IsListed devices device
    → IsListed steps (Steps.Hardware (Acts.Commit device)) × IsListed steps (Steps.Hardware (Acts.Load device))

abbrev pub ListsMessageSteps : ℕ → List Step → Type 0
ListsMessageSteps messages steps = (message : ℕ) → message < messages
    → IsListed steps (Steps.Hardware (Acts.Deliver message))
    × IsListed steps (Steps.Hardware (Acts.Drop message))
    × IsListed steps (Steps.Hardware (Acts.Repeat message))

-- a step can be tried: the column has a next cell, or hardware can do this
abbrev pub CanTry : {S : Type 0} → Readings S → Test → Place S → Step → Type 0
CanTry r test place (Steps.Column column) = IsTrue (is_some (next_cell test place.happened column))
CanTry r test place (Steps.Hardware act) = CanAct r test place act

abbrev pub ListsCandidates : {S : Type 0} → Readings S → Test → Place S → List Step → Type 0
ListsCandidates r test place steps = (step : Step) → CanTry r test place step → IsListed steps step

-- the step is put behind the others where it isn't there
abbrev pub PutsOnce : Step → List Step → List Step → Type 0
PutsOnce step old new = ((¬ IsListed old step) × (new ≡ old ++ step ∷ [])) ⊎ (IsListed old step × (new ≡ old))

-- the same steps, each once
pub record ListsOnce (steps new : List Step) : Type 0 where
  pub once : AreListedOnce new
  pub all : (step : Step) → IsListed steps step → IsListed new step
