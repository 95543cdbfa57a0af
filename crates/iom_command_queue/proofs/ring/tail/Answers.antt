use Rattle.std.proofs.Common.{arith}
use Rattle.iom_command_queue.proofs.Waits.{tail_below}
use Rattle.iom_command_queue.proofs.Bases.{few_entries}
use Rattle.iom_command_queue.proofs.ring.tail.Goals as goal

pub overflow_cast-result : goal.overflow_cast-result
overflow_cast-result g c =
    let r = g.M.Mmio.registers c.args.io.now in
    omega (arith, c.read.ensures, tail_below r, few_entries r.cqb)

pub returns-clause-below : goal.returns-clause-below
returns-clause-below g c = let r = g.M.Mmio.registers c.args.io.now in rw c.read.ensures (tail_below r)
