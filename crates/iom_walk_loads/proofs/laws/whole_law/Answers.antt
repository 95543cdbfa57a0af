use Rattle.iom_walk_loads.proofs.WholeLemmas.{both_is_whole, first_is_whole, locating_is_whole, second_is_whole}
use Rattle.iom_walk_loads.proofs.LoadLemmas.{loads_are_of_the_whole}
use Rattle.iom_walk_loads.proofs.laws.whole_law.Goals as goal

pub returns : goal.returns
returns c = record {
  loads = loads_are_of_the_whole;
  locating_loads = loads_are_of_the_whole;
  first = first_is_whole;
  second = second_is_whole;
  both = both_is_whole;
  locating = locating_is_whole;
}
