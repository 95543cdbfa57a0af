use Rattle.iom_walks.proofs.AnewLemmas.{BegunTo}
use Rattle.iom_walks.proofs.walks.begin_all_anew.Given as goal

-- those before the place have begun anew
abbrev pub invariant-loop-row : goal.invariant-loop-row
invariant-loop-row l = BegunTo l.ddtp l.row-index l.fn.rows l.rows
