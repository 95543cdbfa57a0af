use Rattle.std.proofs.Common.{arith}
use Rattle.iom_fault_queue.proofs.Lists.{below}
use Rattle.iom_fault_queue.proofs.Bases.{few_entries}
use Rattle.iom_fault_queue.proofs.ring.head.Goals as goal

pub overflow_cast-result : goal.overflow_cast-result
overflow_cast-result g c =
    let r = g.M.Mmio.registers c.args.io.now in
    omega (arith, c.read.ensures, below r.fqh r, few_entries r.fqb)

pub returns-clause-below : goal.returns-clause-below
returns-clause-below g c = let r = g.M.Mmio.registers c.args.io.now in rw c.read.ensures (below r.fqh r)
