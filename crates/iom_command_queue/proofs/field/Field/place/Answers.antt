use Rattle.iom_command_queue.proofs.Fields.{placed}
use Rattle.iom_command_queue.proofs.field.Field.place.Goals as goal

pub returns : goal.returns
returns c = placed c.args.value c.args.self.high c.args.self.low c.requires.within c.requires.some c.requires.fits
