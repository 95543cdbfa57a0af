use Rattle.iom_stepped_ways.proofs.CallLemmas.{stepped_calls_are_transitions}
use Rattle.iom_stepped_ways.proofs.SizeLemmas.{stepped_keeps_size}
use Rattle.iom_stepped_ways.proofs.laws.stepped_call_law.Goals as goal

pub returns : goal.returns
returns c = record { each = stepped_calls_are_transitions; sized = stepped_keeps_size }
