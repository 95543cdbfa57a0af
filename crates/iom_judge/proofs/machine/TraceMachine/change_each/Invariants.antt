use Rattle.iom_judge.specs.Certified.{ContinuesAtEach}
use Rattle.iom_judge.proofs.machine.TraceMachine.change_each.Given as goal

-- those so far went on, and took the tables that are shown
abbrev pub invariant-loop-index : goal.invariant-loop-index
invariant-loop-index l =
    ContinuesAtEach l.initial.self l.fn.device l.fn.first l.fn.outcome l.index l.fn.has_tables l.fn.tables l.self
