-- What is written is read back.
use Rattle.std.proofs.Common.{rules}
use Rattle.iom_device_dir.proofs.Encodes.{ContextFits, words_read_back, bytes_read_back}
use Rattle.iom_device_dir.proofs.laws.reads_back.Goals as goal

pub returns-clause-words : goal.returns-clause-words
returns-clause-words c = let fits : ContextFits c.args.context = search rules in words_read_back c.args.context fits

pub returns-clause-bytes : goal.returns-clause-bytes
returns-clause-bytes c = let fits : ContextFits c.args.context = search rules in bytes_read_back c.args.context fits
