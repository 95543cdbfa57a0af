use Rattle.std.proofs.Common.{◌≡◌, ◌+◌, suc, set, subst, arith}
use Rattle.iom_walks.proofs.AnewLemmas.{BegunTo, all_begun, none_yet, one_more}
use Rattle.iom_walks.proofs.walks.begin_all_anew.Goals as goal

pub loop-row-init : goal.loop-row-init
loop-row-init c = none_yet c.args.ddtp c.args.rows.now

pub loop-row-preserved : goal.loop-row-preserved
loop-row-preserved c =
    let next : suc c.loop-row.row-index ≡ c.loop-row.row-index + 1 = omega arith in
    subst (λ place. BegunTo c.args.ddtp place c.args.rows.now (set c.loop-row.rows c.loop-row.row-index c.begin_anew.new.self)) next
    (one_more c.args.ddtp c.loop-row.row-index c.args.rows.now c.loop-row.rows c.row-item.result c.begin_anew.new.self (omega arith) c.begin_anew.ensures c.loop-row.invariant)

pub returns : goal.returns
returns c = all_begun c.args.ddtp c.loop-row.row-index c.args.rows.now c.loop-row.rows (omega arith) c.loop-row.invariant
