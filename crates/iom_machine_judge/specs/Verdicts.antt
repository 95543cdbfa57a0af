-- What the judge finds of a list of lines.
use Rattle.std.specs.Prelude.{◌≡◌, ◌↔◌, ℕ, zero, suc, List, [], ◌∷◌, Option, None, Some, map, take}
use Rattle.iom_kept_state.specs.Grants.{IsPastOf}
use Rattle.iom_kept_state.specs.States.{state_of, Leaves}
use Rattle.iom_kept_state.specs.declared.state.KeptState.{KeptState}
use Rattle.iom_ledger.specs.History.{History}
use Rattle.iom_machine.specs.declared.event.Event.{Event}
use Rattle.iom_machine_judge.specs.declared.line.Line.{Line}
use Rattle.iom_machine.specs.declared.outcome.Outcome.{Outcome}
use Rattle.iom_machine.specs.declared.state.State.{State}
use Rattle.iom_machine.specs.Machine.{ChosenStep, Run}

-- the line may come in the state, and leave the other
abbrev pub LineStep : State → Line → State → Type 0
LineStep old line new = ChosenStep line.choice old line.event line.outcome new

-- the lines may come one after another, and leave the state
abbrev pub LinesRun : State → List Line → State → Type 0
LinesRun old [] new = new ≡ old
LinesRun old (line ∷ lines) new = (mid : State) × LineStep old line mid × LinesRun mid lines new

-- the first so many lines may come one after another, and then the next one may not
abbrev pub FirstUnlawfulAt : ℕ → State → List Line → Type 0
FirstUnlawfulAt k old [] = ⊥
FirstUnlawfulAt zero old (line ∷ lines) = (new : State) → ¬ LineStep old line new
FirstUnlawfulAt (suc k) old (line ∷ lines) = (mid : State) × LineStep old line mid × FirstUnlawfulAt k mid lines

-- the lines before the one with this number; all, where there is none
abbrev pub lines_before : Option ℕ → List Line → List Line
lines_before None lines = lines
lines_before (Some k) lines = take k lines

-- WHAT IS FOUND is the number of the first line that may not come, if there is one, whatever the past. The lines before it may come, or all of them, and
-- the state that is kept is the only one that they leave.
abbrev pub IsFoundOf : Option ℕ → KeptState → KeptState → List Line → Type 0
IsFoundOf found old new lines =
    Leaves old new (λ before after. LinesRun before (lines_before found lines) after)
    × ((history : History) → IsPastOf old.grants history → (k : ℕ) → (found ≡ Some k) ↔ FirstUnlawfulAt k (state_of old history) lines)

-- Each run is one of some lines, with those events and outcomes.
abbrev pub RunsAreChosen : Type 0
RunsAreChosen =
    (old new : State) (events : List Event) (outcomes : List Outcome)
    → Run old events outcomes new
    ↔ ((lines : List Line) × (map (λ line. line.event) lines ≡ events) × (map (λ line. line.outcome) lines ≡ outcomes) × LinesRun old lines new)
