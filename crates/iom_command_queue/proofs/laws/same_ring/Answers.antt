use Rattle.iom_command_queue.proofs.Waits.{same_ring}
use Rattle.iom_command_queue.proofs.laws.same_ring.Goals as goal

pub returns : goal.returns
returns c = same_ring c.args.memory.now c.args.one.now c.args.other.now c.requires.base c.requires.entries c.requires.head c.requires.tail
