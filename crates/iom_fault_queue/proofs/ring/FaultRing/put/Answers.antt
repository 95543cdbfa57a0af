use Rattle.std.proofs.Common.{arith, rules}
use Rattle.iom_fault_queue.specs.declared.ring.Put.TheVariants.{Written, Overflow}
use Rattle.iom_registers.specs.Queues.{fault_tail}
use Rattle.iom_fault_queue.specs.Ring.{record_place}
use Rattle.iom_fault_queue.proofs.Entries.{stored_here}
use Rattle.iom_fault_queue.proofs.Orders.{puts_list}
use Rattle.iom_fault_queue.proofs.ring.FaultRing.put.Goals as goal

pub returns-then-is_full-clause-list : goal.returns-then-is_full-clause-list
returns-then-is_full-clause-list c = puts_list _ _ c.args.record Overflow _ _ (search rules)

pub returns-then-not-store-clause-list : goal.returns-then-not-store-clause-list
returns-then-not-store-clause-list c = puts_list _ _ c.args.record Overflow _ _ (search rules)

pub returns-clause-list : goal.returns-clause-list
returns-clause-list c = puts_list _ _ c.args.record Written _ _ (search rules)

pub hand_over-requires : goal.hand_over-requires
hand_over-requires c =
    let r = c.args.registers.now in
    stored_here c.args.memory.now c.store.new.memory (record_place r (fault_tail r)) c.args.record (omega arith) (search rules)
