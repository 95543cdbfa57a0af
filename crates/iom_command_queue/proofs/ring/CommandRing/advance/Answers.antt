use Rattle.iom_command_queue.proofs.Waits.{drops}
use Rattle.iom_command_queue.proofs.ring.CommandRing.advance.Goals as goal

pub returns-clause-list : goal.returns-clause-list
returns-clause-list c = λ memory. rw c.advance_command_head.ensures.value (drops memory c.args.registers.now c.requires)
