use Rattle.iom_command_queue.proofs.Waits.{appended}
use Rattle.iom_command_queue.proofs.laws.appends.Goals as goal

pub returns : goal.returns
returns c = appended c.args.old.now c.args.new.now c.args.registers.now c.args.command c.requires.room c.requires.written
