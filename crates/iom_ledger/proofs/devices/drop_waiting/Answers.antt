use Rattle.std.proofs.Common.{ℕ, ◌≡◌, arith, subst}
use Rattle.iom_ledger.specs.Rows.{entries_of, NoneWaitsFrom}
use Rattle.iom_ledger.proofs.RowLemmas.{all_dropped_of}
use Rattle.iom_ledger.proofs.devices.drop_waiting.Goals as goal

pub returns-clause-rows : goal.returns-clause-rows
returns-clause-rows c =
    let now = c.loop-index.devices in
    let first : c.loop-index.index ≡ 0 = omega arith in
    all_dropped_of c.args.devices.now now c.args.device c.args.ticket c.loop-index.invariant.rows
    (subst (λ (n : ℕ). NoneWaitsFrom (entries_of now c.args.device) n c.args.ticket) first c.loop-index.invariant.looked)
