-- What a test asks of its schedules.
use Rattle.std.specs.Prelude.{List}
use Rattle.iom_litmus_test.specs.declared.proposition.Proposition.{Proposition}
use Rattle.iom_litmus_test.specs.declared.test.QuestionKind.{QuestionKind}
use Rattle.iom_litmus_test.specs.declared.test.QuestionKind.TheVariants as Kinds
use Rattle.iom_litmus_test.specs.declared.test.Test.{Test}
use Rattle.iom_litmus_test.specs.Propositions.{HoldsOfOutcome}
use Rattle.iom_litmus.specs.declared.histogram.Row.{Row}
use Rattle.iom_litmus.specs.declared.step.Step.{Step}
use Rattle.iom_litmus.specs.Behaviours.{Behaviour}
use Rattle.iom_litmus.specs.Readings.{Readings}
use Rattle.iom_litmus.specs.Listed.{IsListed}
use Rattle.iom_litmus.specs.Seen.{outcome_after}
use Rattle.iom_litmus.specs.Steps.{IsScheduleOf}

-- it holds of some schedule, of none, of each
abbrev pub IsSoAs : {S : Type 0} → Readings S → Behaviour S → Test → S → QuestionKind → Proposition → Type 0
IsSoAs r b test system Kinds.Exists asked = (schedule : List Step) × IsScheduleOf r b test system schedule × HoldsOfOutcome asked (outcome_after r b test system schedule)
IsSoAs r b test system Kinds.NotExists asked = (schedule : List Step) → IsScheduleOf r b test system schedule → ¬ HoldsOfOutcome asked (outcome_after r b test system schedule)
IsSoAs r b test system Kinds.ForAll asked = (schedule : List Step) → IsScheduleOf r b test system schedule → HoldsOfOutcome asked (outcome_after r b test system schedule)

-- the question is answered as the test says
abbrev pub IsValidated : {S : Type 0} → Readings S → Behaviour S → Test → S → Type 0
IsValidated r b test system = IsSoAs r b test system test.question.kind test.question.proposition

-- of rows
abbrev pub HoldsOfSome : List Row → Proposition → Type 0
HoldsOfSome rows asked = (row : Row) × IsListed rows row × HoldsOfOutcome asked row.outcome

abbrev pub HoldsOfEach : List Row → Proposition → Type 0
HoldsOfEach rows asked = (row : Row) → IsListed rows row → HoldsOfOutcome asked row.outcome
