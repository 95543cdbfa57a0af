use Rattle.std.proofs.Common.{sym}
use Rattle.iom_fault_queue.specs.Grammar.{decoded_record}
use Rattle.iom_fault_queue.proofs.Exact.{decoded_is, only_one, none_is}
use Rattle.iom_fault_queue.proofs.record.Record.decode.Goals as goal

value : goal.returns-clause-value
unfolding decoded_record
value c = c.from_words.ensures _ _ _ _ c.to_words.ensures

pub returns-clause-value : goal.returns-clause-value
returns-clause-value c = value c

pub returns-clause-is : goal.returns-clause-is
returns-clause-is c = rw (value c) (decoded_is c.args.bytes.now)

pub returns-clause-only : goal.returns-clause-only
returns-clause-only c = only_one c.args.bytes.now c.from_words.result (sym (value c))

pub returns-clause-none : goal.returns-clause-none
returns-clause-none c = none_is c.args.bytes.now c.from_words.result (sym (value c))
