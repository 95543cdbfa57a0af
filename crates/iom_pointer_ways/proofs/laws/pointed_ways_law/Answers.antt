use Rattle.iom_pointer_ways.proofs.LawLemmas.{pointed_calls_add_no_way, pointed_free, pointed_good, pointed_quiet}
use Rattle.iom_pointer_ways.proofs.laws.pointed_ways_law.Goals as goal

pub returns : goal.returns
returns c = record { in_turn = pointed_calls_add_no_way; quiet = pointed_quiet; claims = pointed_good; free = pointed_free }
