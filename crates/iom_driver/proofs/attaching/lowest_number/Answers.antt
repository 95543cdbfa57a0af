use Rattle.std.proofs.Common.{arith}
use Rattle.iom_driver.proofs.Numbers.{last_unused}
use Rattle.iom_driver.proofs.attaching.lowest_number.Goals as goal

pub returns-clause-lowest : goal.returns-clause-lowest
returns-clause-lowest c = record {
  from_one = omega arith;
  unused = last_unused c.args.devices.now c.requires (λ n low lt. c.loop-number.invariant n low (omega arith));
  lowest = λ n low lt. c.loop-number.invariant n low (omega arith);
}
