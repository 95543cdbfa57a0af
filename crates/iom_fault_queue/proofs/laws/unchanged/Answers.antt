use Rattle.iom_fault_queue.proofs.Lists.{unchanged}
use Rattle.iom_fault_queue.proofs.laws.unchanged.Goals as goal

pub returns : goal.returns
returns c =
    let leaves = c.requires in
    unchanged c.args.memory.now c.args.new.now c.args.registers.now c.args.later.now leaves.base leaves.head leaves.tail leaves.frames
