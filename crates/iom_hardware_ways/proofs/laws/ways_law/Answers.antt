use Rattle.iom_hardware_ways.proofs.LawLemmas.{calls_add_no_way, accesses_had_ways_in, quiet_stays_quiet, good_claims_hold, free_stays_free, begins_safe}
use Rattle.iom_hardware_ways.proofs.laws.ways_law.Goals as goal

pub returns : goal.returns
returns c = record { in_turn = calls_add_no_way; made = accesses_had_ways_in; quiet = quiet_stays_quiet; claims = good_claims_hold; free = free_stays_free; begins = begins_safe }
