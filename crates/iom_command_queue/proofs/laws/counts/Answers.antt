use Rattle.iom_command_queue.proofs.Waits.{count, head_below, tail_below, distance_below, empty_iff}
use Rattle.iom_registers.specs.Queues.{command_entries, command_head, command_tail}
use Rattle.iom_command_queue.proofs.laws.counts.Goals as goal

pub returns-clause-count : goal.returns-clause-count
returns-clause-count c = count c.args.memory.now c.args.registers.now

pub returns-clause-below : goal.returns-clause-below
returns-clause-below c =
    let r = c.args.registers.now in
    distance_below (command_entries r) (command_head r) (command_tail r) (head_below r) (tail_below r)

pub returns-clause-empty : goal.returns-clause-empty
returns-clause-empty c = empty_iff c.args.memory.now c.args.registers.now
