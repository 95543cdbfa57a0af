use Rattle.std.proofs.Common.{◌/◌, ◌%◌, ◌∙◌, ap, sym, set}
use Rattle.iom_base.specs.Bytes.{with_bytes}
use Rattle.iom_fault_queue.specs.Grammar.{decoded_record}
use Rattle.iom_fault_queue.proofs.ring.store.Goals as goal

pub returns-clause-stored : goal.returns-clause-stored
returns-clause-stored c = record {
  frame = c.in-Some.frame.now;
  found = sym c.in-Some.ensures.value;
  whole = c.put_bytes.ensures.whole;
  stored = ap (set c.args.memory.now (c.args.address / 4096)) (c.put_bytes.ensures.replaced ∙ ap (with_bytes c.in-Some.frame.now (c.args.address % 4096)) c.encode.ensures.value);
  meant = ap decoded_record (sym c.encode.ensures.value) ∙ c.encode.ensures.reads_back;
}
