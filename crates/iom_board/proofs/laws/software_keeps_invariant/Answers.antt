use Rattle.iom_board.proofs.SoftwareLemmas.{software_keeps, writes_are}
use Rattle.iom_board.proofs.laws.software_keeps_invariant.Goals as goal

pub returns-clause-keeps : goal.returns-clause-keeps
returns-clause-keeps c = software_keeps

pub returns-clause-writes : goal.returns-clause-writes
returns-clause-writes c = writes_are
