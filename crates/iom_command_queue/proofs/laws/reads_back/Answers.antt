use Rattle.std.proofs.Common.{rules}
use Rattle.iom_command_queue.proofs.Fits.{Fits}
use Rattle.iom_command_queue.proofs.Encodes.{reads_back, bytes_read_back}
use Rattle.iom_command_queue.proofs.laws.reads_back.Goals as goal

pub returns-clause-words : goal.returns-clause-words
returns-clause-words c = let fits : Fits c.args.command = search rules in reads_back c.args.command fits

pub returns-clause-bytes : goal.returns-clause-bytes
returns-clause-bytes c = let fits : Fits c.args.command = search rules in bytes_read_back c.args.command fits
