use Rattle.std.proofs.Common.{arith}
use Rattle.iom_driver.proofs.Chosen.{chosen_next, none_chosen, chosen_low, chosen_many}
use Rattle.iom_driver.proofs.driver.Driver.choose.Goals as goal

pub highest_free-requires : goal.highest_free-requires
highest_free-requires c =
    let driver = c.args.self.now in
    let low = chosen_low driver.owners driver.ledger c.args.named driver.frames c.args.count c.loop.limit c.loop.counter c.loop.chosen.items c.loop.invariant.so_far in
    omega (arith, low, driver.invariants.sizes.owned)

pub push-requires : goal.push-requires
push-requires c =
    let driver = c.args.self.now in
    let many = chosen_many driver.owners driver.ledger c.args.named driver.frames c.args.count c.loop.limit c.loop.counter c.loop.chosen.items c.loop.invariant.so_far in
    (omega arith, omega (arith, many, c.loop-test.true, c.requires))

pub returns-in_err-frame-clause-none : goal.returns-in_err-frame-clause-none
returns-in_err-frame-clause-none c =
    let driver = c.args.self.now in
    rw c.from_residual.ensures
    (none_chosen driver.owners driver.ledger c.args.named driver.frames c.args.count c.loop.limit c.loop.counter c.loop.chosen.items c.loop-test.true c.loop.invariant.so_far c.in_err-frame.ensures)

pub loop-preserved : goal.loop-preserved
loop-preserved c =
    let driver = c.args.self.now in
    rw c.push.ensures.items record {
      so_far = chosen_next driver.owners driver.ledger c.args.named driver.frames c.args.count c.loop.limit c.loop.counter c.in_ok-frame.frame c.loop.chosen.items c.loop-test.true c.loop.invariant.so_far c.in_ok-frame.ensures;
    }
