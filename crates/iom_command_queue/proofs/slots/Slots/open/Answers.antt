use Rattle.iom_command_queue.proofs.SlotLemmas.{rise_more}
use Rattle.iom_command_queue.proofs.slots.Slots.open.Goals as goal

pub invariant_of-self : goal.invariant_of-self
invariant_of-self c = rw c.push.ensures.items (rise_more 0 c.self.inside.last c.args.device c.self.inside.open.items c.self.invariant)
