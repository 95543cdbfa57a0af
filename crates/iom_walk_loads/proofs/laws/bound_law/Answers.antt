use Rattle.iom_walk_loads.proofs.BoundLemmas.{locating_ends, walks_end}
use Rattle.iom_walk_loads.proofs.LoadLemmas.{bounded_walks_end, enough_loads_are_the_whole}
use Rattle.iom_walk_loads.proofs.laws.bound_law.Goals as goal

pub returns : goal.returns
returns c = record {
  walks = walks_end;
  locating = locating_ends;
  ended = bounded_walks_end;
  locating_ended = bounded_walks_end;
  whole = enough_loads_are_the_whole;
  locating_whole = enough_loads_are_the_whole;
}
