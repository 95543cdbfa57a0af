use Rattle.iom_stepped_ways.proofs.LawLemmas.{stepped_accesses_had_ways, stepped_calls_add_no_way, stepped_free, stepped_good, stepped_quiet}
use Rattle.iom_stepped_ways.proofs.laws.stepped_ways_law.Goals as goal

pub returns : goal.returns
returns c = record { in_turn = stepped_calls_add_no_way; made = stepped_accesses_had_ways; quiet = stepped_quiet; claims = stepped_good; free = stepped_free }
