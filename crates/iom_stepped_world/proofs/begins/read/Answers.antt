use Rattle.std.proofs.Common.{refl}
use Rattle.iom_stepped_machine.specs.Walks.{Reads}
use Rattle.iom_stepped_world.proofs.begins.read.Goals as goal

pub returns-clause-does : goal.returns-clause-does
returns-clause-does g c = c.begin.ensures.does (Reads c.args.address c.args.len) tt refl
