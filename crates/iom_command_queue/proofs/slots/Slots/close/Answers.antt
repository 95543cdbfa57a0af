use Rattle.std.specs.Prelude.{not}
use Rattle.iom_command_queue.specs.OpenSlots.{is_request}
use Rattle.iom_command_queue.proofs.SlotLemmas.{rise_filter}
use Rattle.iom_command_queue.proofs.slots.Slots.close.Goals as goal

pub invariant_of-self : goal.invariant_of-self
invariant_of-self c =
    rw c.drop_request.ensures
    (rise_filter (λ slot. not (is_request c.args.serial c.args.sender slot)) 0 c.self.inside.last c.self.inside.open.items c.self.invariant)
