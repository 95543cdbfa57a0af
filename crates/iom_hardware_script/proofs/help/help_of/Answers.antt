use Rattle.std.proofs.Common.{codes}
use Rattle.iom_hardware_script.proofs.HelpLemmas.{help_found, last_help}
use Rattle.iom_hardware_script.proofs.help.help_of.Goals as goal

pub returns-in-Some : goal.returns-in-Some
returns-in-Some c = help_found (codes "auto ") c.args.line.now c.in-Some.help c.in-Some.ensures

pub returns-in-Some-traffic : goal.returns-in-Some-traffic
returns-in-Some-traffic c = help_found (codes "traffic ") c.args.line.now c.in-Some-traffic.help c.in-Some-traffic.ensures

pub returns : goal.returns
returns c = last_help c.args.line.now c.quiesce.result c.in_default.ensures c.in_default-traffic.ensures c.quiesce.ensures
