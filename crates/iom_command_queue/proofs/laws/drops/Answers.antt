use Rattle.iom_command_queue.proofs.Waits.{drops}
use Rattle.iom_command_queue.proofs.laws.drops.Goals as goal

pub returns : goal.returns
returns c = drops c.args.memory.now c.args.registers.now c.requires
