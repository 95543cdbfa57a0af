use Rattle.std.proofs.Common.{refl}
use Rattle.iom_stepped_machine.specs.Walks.{Writes}
use Rattle.iom_stepped_world.proofs.begins.write.Goals as goal

pub returns-clause-does : goal.returns-clause-does
returns-clause-does g c = c.begin.ensures.does (Writes c.args.address c.args.bytes.now) tt refl
