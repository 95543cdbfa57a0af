use Rattle.iom_command_queue.proofs.Waits.{stays_by_frames}
use Rattle.iom_command_queue.proofs.laws.unchanged.Goals as goal

pub returns : goal.returns
returns c = stays_by_frames c.args.old.now c.args.new.now c.args.registers.now c.requires
