use Rattle.iom_fault_queue.proofs.Orders.{run_list}
use Rattle.iom_fault_queue.proofs.laws.in_order.Goals as goal

pub returns : goal.returns
returns c = run_list
