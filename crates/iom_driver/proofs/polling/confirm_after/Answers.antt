use Rattle.std.proofs.Common.{◌≡◌, ◌+◌, ◌-◌, suc, subst, sym, arith}
use Rattle.iom_ledger.specs.History.{confirmed_from}
use Rattle.iom_ledger.specs.Shown.{Agrees}
use Rattle.iom_driver.proofs.Confirms.{confirms_none, confirms_more, agrees_more}
use Rattle.iom_driver.proofs.polling.confirm_after.Goals as goal

pub loop-before-init : goal.loop-before-init
loop-before-init c =
    let none : c.args.confirmed - c.args.confirmed ≡ 0 = omega arith in
    record {
      agrees = λ h agrees. subst (λ n. Agrees c.args.ledger.now (confirmed_from (c.args.confirmed + 1) n h)) (sym none) agrees;
      shown = confirms_none c.args.ledger.now (c.args.confirmed + 1) (c.args.confirmed - c.args.confirmed) none;
    }

pub loop-before-preserved : goal.loop-before-preserved
loop-before-preserved c =
    let first = c.args.confirmed + 1 in
    let before = c.loop-before.before in
    let n = before - c.args.confirmed in
    let next : before + 1 ≡ first + n = omega (arith, c.loop-before.auto.before) in
    let more : before + 1 - c.args.confirmed ≡ suc n = omega (arith, c.loop-before.auto.before) in
    record {
      agrees = agrees_more c.args.ledger.now c.loop-before.ledger c.confirm.new.self first n (before + 1) (before + 1 - c.args.confirmed) next more c.loop-before.invariant.agrees c.confirm.ensures.agrees;
      shown = confirms_more c.args.ledger.now c.loop-before.ledger c.confirm.new.self first n (before + 1) (before + 1 - c.args.confirmed) next more c.loop-before.invariant.shown c.confirm.ensures.confirmed;
    }
