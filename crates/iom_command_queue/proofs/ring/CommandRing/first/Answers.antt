use Rattle.std.proofs.Common.{◌≡◌, ◌∙◌, Some, sym, ap}
use Rattle.iom_command_queue.specs.Waiting.{first_entry}
use Rattle.iom_command_queue.proofs.Waits.{first_is}
use Rattle.iom_command_queue.proofs.ring.CommandRing.first.Goals as goal

pub returns : goal.returns
returns c =
    let found : c.entry_at.result ≡ first_entry c.args.memory.now c.args.registers.now = cc in
    first_is c.args.memory.now c.args.registers.now c.requires.waits ∙ ap (λ e. Some e) (sym found)
