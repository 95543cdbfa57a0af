use Rattle.std.proofs.Common.{◌<◌, ◌%◌, ◌+◌, ℕ}
use Rattle.std.proofs.Math.Nat.{mod-lt}
use Rattle.std.proofs.lemmas.Nat.{pow_pos}
use Rattle.iom_registers.specs.Fields.{entry_count}
use Rattle.iom_registers.specs.declared.queue_base.QueueBase.{QueueBase}
use Rattle.iom_registers.proofs.Modulo.{twice, next_same}
use Rattle.iom_registers.proofs.laws.indices_read_back.Goals as goal

below : (index : ℕ) (base : QueueBase) → index % entry_count base < entry_count base
unfolding entry_count
below index base = mod-lt index (pow_pos (base.log2sz_less_1 + 1))

pub returns-clause-tail : goal.returns-clause-tail
returns-clause-tail c r index is_below = twice (entry_count r.cqb) index is_below

pub returns-clause-head : goal.returns-clause-head
returns-clause-head c r = next_same (entry_count r.cqb) (r.cqh % entry_count r.cqb) (below r.cqh r.cqb)

pub returns-clause-fault_head : goal.returns-clause-fault_head
returns-clause-fault_head c r index is_below = twice (entry_count r.fqb) index is_below

pub returns-clause-fault_tail : goal.returns-clause-fault_tail
returns-clause-fault_tail c r = next_same (entry_count r.fqb) (r.fqt % entry_count r.fqb) (below r.fqt r.fqb)
