use Rattle.iom_standing_walks.proofs.StandingLemmas.{standing_stays, standing_walks_are_of_now}
use Rattle.iom_standing_walks.proofs.PositionLemmas.{loads_are_of_now}
use Rattle.iom_standing_walks.proofs.NowLemmas.{first_ends_as_now, second_ends_as_now}
use Rattle.iom_standing_walks.proofs.laws.standing_law.Goals as goal

pub returns : goal.returns
returns c = record {
  load = loads_are_of_now;
  now = standing_walks_are_of_now;
  first = first_ends_as_now;
  second = second_ends_as_now;
  unchanged = standing_stays;
}
