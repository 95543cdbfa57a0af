-- No step changes the limits.
use Rattle.std.proofs.Common.{◌≡◌, List, [], ◌∷◌, ap, ◌∙◌}
use Rattle.iom_machine.specs.declared.event.Event.{Event}
use Rattle.iom_machine.specs.declared.outcome.Outcome.{Outcome}
use Rattle.iom_machine.specs.declared.state.State.{State}
use Rattle.iom_machine.specs.Laws.{LimitsUnchanged}
use Rattle.iom_machine.specs.Machine.{Run}
use Rattle.iom_machine.proofs.StepChanges.{step_change}

pub limits-step : LimitsUnchanged
limits-step old new event outcome step = (step_change old new event outcome step).limits

-- nor does a run
pub limits-run : (old new : State) (events : List Event) (outcomes : List Outcome) → Run old events outcomes new → new.limits ≡ old.limits
limits-run old new [] [] run = ap (λ (s : State). s.limits) run
limits-run old new [] (outcome ∷ outcomes) run = absurd run
limits-run old new (event ∷ events) [] run = absurd run
limits-run old new (event ∷ events) (outcome ∷ outcomes) (mid, step, run) = limits-run mid new events outcomes run ∙ limits-step old mid event outcome step
