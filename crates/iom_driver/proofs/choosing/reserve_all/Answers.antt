use Rattle.std.proofs.Common.{arith, rules}
use Rattle.std.proofs.lemmas.Grind.{common_steps}
use Rattle.iom_driver.proofs.choosing.reserve_all.Goals as goal

pub loop-frame-preserved : goal.loop-frame-preserved
loop-frame-preserved c = record {
  owners = grind (arith, common_steps);
  memory = grind (arith, common_steps);
  owned = search rules;
  inside = search rules;
}
