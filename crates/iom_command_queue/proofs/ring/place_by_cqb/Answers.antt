use Rattle.std.proofs.Common.{◌∙◌, ◌*◌, ◌/◌, ◌%◌, ◌^◌, ap}
use Rattle.iom_command_queue.proofs.Bases.{base_by_value, entries_by_value, few_entries}
use Rattle.iom_command_queue.proofs.ring.place_by_cqb.Goals as goal

pub returns-clause-base : goal.returns-clause-base
returns-clause-base g c =
    ap (λ n. n / 1024 % 17592186044416 * 4096) c.read-cqb.ensures ∙ base_by_value (g.M.Mmio.registers c.args.io.now).cqb

entries_are : goal.returns-clause-entries
entries_are g c =
    ap (λ n. 2 * 2 ^ (n % 32) % 18446744073709551616) c.read-cqb.ensures ∙ entries_by_value (g.M.Mmio.registers c.args.io.now).cqb

pub returns-clause-entries : goal.returns-clause-entries
returns-clause-entries g c = entries_are g c

pub returns-clause-few : goal.returns-clause-few
returns-clause-few g c = rw (entries_are g c) (few_entries (g.M.Mmio.registers c.args.io.now).cqb)
