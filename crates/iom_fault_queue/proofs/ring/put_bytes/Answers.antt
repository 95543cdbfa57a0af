use Rattle.iom_fault_queue.proofs.Entries.{put_part}
use Rattle.iom_fault_queue.proofs.ring.put_bytes.Goals as goal

pub returns-clause-replaced : goal.returns-clause-replaced
returns-clause-replaced c = rw c.copy_from_slice.ensures.after (put_part c.args.frame.now c.args.bytes.now c.args.offset 32 c.told-bytes)
