use Rattle.iom_fault_queue.proofs.Lists.{full_is}
use Rattle.iom_fault_queue.proofs.laws.full.Goals as goal

pub returns : goal.returns
returns c = full_is c.args.memory.now c.args.registers.now
