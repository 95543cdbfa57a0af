use Rattle.iom_hardware_script.proofs.HardwareLineLemmas.{software_found, asked_found, load_found}
use Rattle.iom_hardware_script.proofs.lines.line_of.Goals as goal

pub returns-in-Some : goal.returns-in-Some
returns-in-Some c = software_found c.args.line.now c.in-Some.said c.in-Some.ensures

pub returns-in-Some-help_of : goal.returns-in-Some-help_of
returns-in-Some-help_of c = asked_found c.args.line.now c.in-Some-help_of.help c.in-Some-help_of.ensures

pub returns-in-Some-load : goal.returns-in-Some-load
returns-in-Some-load c = load_found c.args.line.now c.in-Some-load.said c.in-Some-load.ensures
