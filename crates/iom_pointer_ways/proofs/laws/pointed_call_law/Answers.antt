use Rattle.iom_pointer_ways.proofs.CallLemmas.{pointed_calls_are_transitions}
use Rattle.iom_pointer_ways.proofs.laws.pointed_call_law.Goals as goal

pub returns : goal.returns
returns c = pointed_calls_are_transitions
