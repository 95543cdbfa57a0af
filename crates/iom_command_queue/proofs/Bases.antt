-- What the values of cqb, cqh and cqt tell software.
use Rattle.std.proofs.Common.{◌≡◌, ◌*◌, ◌/◌, ◌%◌, ◌^◌, ◌≤◌, ap, ◌∙◌, arith}
use Rattle.iom_registers.proofs.Sizes.{shifted, few}
use Rattle.iom_registers.specs.Fields.{entry_count, address, base_value}
use Rattle.iom_registers.specs.declared.queue_base.QueueBase.{QueueBase}

pub base_by_value : (base : QueueBase) → base_value base / 1024 % 17592186044416 * 4096 ≡ address base
base_by_value base = omega (arith, base.sized, base.in_range)

pub entries_by_value : (base : QueueBase) → 2 * 2 ^ (base_value base % 32) % 18446744073709551616 ≡ entry_count base
unfolding entry_count
entries_by_value base =
    let low : base_value base % 32 ≡ base.log2sz_less_1 = omega (arith, base.sized) in
    ap (λ k. 2 * 2 ^ k % 18446744073709551616) low ∙ shifted base.log2sz_less_1 base.sized

pub few_entries : (base : QueueBase) → entry_count base ≤ 2 ^ 32
unfolding entry_count
few_entries base = few base.log2sz_less_1 base.sized
