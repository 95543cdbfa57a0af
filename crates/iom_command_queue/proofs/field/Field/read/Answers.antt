use Rattle.iom_command_queue.proofs.Fields.{read_off, bits_fit}
use Rattle.iom_command_queue.proofs.field.Field.read.Goals as goal

pub returns-clause-value : goal.returns-clause-value
returns-clause-value c = read_off c.args.word c.args.self.high c.args.self.low c.requires.within c.requires.some

pub returns-clause-fits : goal.returns-clause-fits
returns-clause-fits c = rw (read_off c.args.word c.args.self.high c.args.self.low c.requires.within c.requires.some) (bits_fit c.args.word c.args.self.high c.args.self.low)
