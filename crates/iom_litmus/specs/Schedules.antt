-- Schedules, over any places: what can be taken at a place, and where it leads.
use Rattle.std.specs.Prelude.{List, [], ◌∷◌}
use Rattle.iom_litmus.specs.declared.step.Step.{Step}

-- the place to which steps lead, one after another
abbrev pub arrived : {P : Type 0} → (P → Step → P) → P → List Step → P
arrived after place [] = place
arrived after place (step ∷ rest) = arrived after (after place step) rest

-- each step can be taken where the earlier ones lead
abbrev pub IsWay : {P : Type 0} → (P → Step → Type 0) → (P → Step → P) → P → List Step → Type 0
IsWay can after place [] = Unit {0}
IsWay can after place (step ∷ rest) = can place step × IsWay can after (after place step) rest

-- and at the end none can
abbrev pub IsSchedule : {P : Type 0} → (P → Step → Type 0) → (P → Step → P) → P → List Step → Type 0
IsSchedule can after place [] = (step : Step) → ¬ can place step
IsSchedule can after place (step ∷ rest) = can place step × IsSchedule can after (after place step) rest
