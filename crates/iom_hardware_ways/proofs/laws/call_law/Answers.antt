use Rattle.iom_hardware_ways.proofs.CallLemmas.{calls_are_transitions}
use Rattle.iom_hardware_ways.proofs.laws.call_law.Goals as goal

pub returns : goal.returns
returns c = record { each = calls_are_transitions }
