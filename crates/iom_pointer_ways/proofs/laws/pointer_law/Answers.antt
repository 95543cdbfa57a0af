use Rattle.iom_pointer_ways.proofs.SceneLemmas.{pointers_add_their_tables, pointers_add_their_ways}
use Rattle.iom_pointer_ways.proofs.laws.pointer_law.Goals as goal

pub returns : goal.returns
returns c = record { ways = pointers_add_their_ways; tables = pointers_add_their_tables }
