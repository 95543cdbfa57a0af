use Rattle.std.proofs.Common.{refl}
use Rattle.iom_machine.specs.declared.event.Event.TheVariants as events
use Rattle.iom_stepped_world.proofs.beside.read_translated.Goals as goal

pub returns-clause-does : goal.returns-clause-does
returns-clause-does g c = c.translated.ensures.does (events.ReadTranslated c.args.id c.args.address c.args.len) (refl, refl)
