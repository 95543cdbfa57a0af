-- What is decoded is what the grammar says.
use Rattle.std.proofs.Common.{rules}
use Rattle.iom_device_dir.proofs.Exact.{answers_non_leaf, refuses_non_leaf}
use Rattle.iom_device_dir.proofs.entry.NonLeafEntry.decode.Goals as goal

value : goal.returns-clause-value
value c = search rules

pub returns-clause-value : goal.returns-clause-value
returns-clause-value c = value c

pub returns-clause-entry : goal.returns-clause-entry
returns-clause-entry c = answers_non_leaf c.args.word _ (value c)

pub returns-clause-refused : goal.returns-clause-refused
returns-clause-refused c = refuses_non_leaf c.args.word _ (value c)
