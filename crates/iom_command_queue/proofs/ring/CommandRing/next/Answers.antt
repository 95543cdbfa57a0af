use Rattle.std.proofs.Common.{◌≡◌, sym}
use Rattle.iom_registers.specs.Queues.{command_head, command_tail}
use Rattle.iom_command_queue.proofs.Waits.{none_is}
use Rattle.iom_command_queue.proofs.ring.CommandRing.next.Goals as goal

pub returns-then-command_head-command_tail : goal.returns-then-command_head-command_tail
returns-then-command_head-command_tail c =
    let same : command_head c.args.registers.now ≡ command_tail c.args.registers.now = cc in
    sym (none_is c.args.memory.now c.args.registers.now same)
