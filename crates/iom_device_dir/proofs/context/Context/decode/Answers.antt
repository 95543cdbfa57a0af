-- What is decoded is what the grammar says.
use Rattle.std.proofs.Common.{◌∙◌, ap}
use Rattle.iom_device_dir.specs.Words.{context_words}
use Rattle.iom_device_dir.specs.Decoded.{decoded_context}
use Rattle.iom_device_dir.proofs.Exact.{answers, refuses}
use Rattle.iom_device_dir.proofs.context.Context.decode.Goals as goal

pub returns-clause-context : goal.returns-clause-context
returns-clause-context c = answers (context_words c.args.bytes.now) c.context.result (c.context.ensures ∙ ap decoded_context c.from_bytes.ensures)

pub returns-clause-refused : goal.returns-clause-refused
returns-clause-refused c = refuses (context_words c.args.bytes.now) c.context.result (c.context.ensures ∙ ap decoded_context c.from_bytes.ensures)
