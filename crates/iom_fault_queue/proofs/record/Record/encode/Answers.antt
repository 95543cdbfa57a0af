use Rattle.std.proofs.Common.{ap, ◌∙◌}
use Rattle.iom_fault_queue.specs.Grammar.{encoded_record, decoded_record, word_bytes}
use Rattle.iom_fault_queue.proofs.Exact.{encoded_is, reads_back}
use Rattle.iom_fault_queue.proofs.Unique.{only_bytes}
use Rattle.iom_fault_queue.proofs.record.Record.encode.Goals as goal

value : goal.returns-clause-value
unfolding encoded_record
value c = c.to_bytes.ensures ∙ ap word_bytes c.words.ensures.value

pub returns-clause-value : goal.returns-clause-value
returns-clause-value c = value c

pub returns-clause-is : goal.returns-clause-is
returns-clause-is c = rw (value c) (encoded_is c.args.self c.words.ensures.lawful)

pub returns-clause-only : goal.returns-clause-only
returns-clause-only c = λ other long bytes is. rw (value c) (only_bytes other c.args.self long bytes is)

pub returns-clause-reads_back : goal.returns-clause-reads_back
returns-clause-reads_back c = ap decoded_record (value c) ∙ reads_back c.args.self c.words.ensures.lawful
