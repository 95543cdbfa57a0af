use Rattle.iom_litmus.specs.Candidates.{ListsMessageSteps}
use Rattle.iom_litmus.specs.Listed.{KeepsListed}
use Rattle.iom_litmus.proofs.candidates.add_message_steps.Given as goal

abbrev pub invariant-loop-message : goal.invariant-loop-message
invariant-loop-message l = KeepsListed l.initial.steps l.steps × ListsMessageSteps l.message l.steps
