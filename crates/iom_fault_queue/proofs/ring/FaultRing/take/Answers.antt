use Rattle.std.proofs.Common.{Some, rules}
use Rattle.iom_fault_queue.proofs.Orders.{takes_list}
use Rattle.iom_fault_queue.proofs.ring.FaultRing.take.Goals as goal

pub returns-clause-list : goal.returns-clause-list
returns-clause-list g c =
    takes_list g.M.Mmio.registers g.M.Mmio.after g.met.M.Mmio.writes_registers c.args.memory.now c.args.io.now (Some c.record_at-entry.result) c.hand_back.new.io (search rules)
