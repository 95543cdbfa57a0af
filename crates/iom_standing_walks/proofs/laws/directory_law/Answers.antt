use Rattle.iom_standing_walks.proofs.PageLemmas.{directory_ends_as_now, directory_goes_on}
use Rattle.iom_standing_walks.proofs.laws.directory_law.Goals as goal

pub returns : goal.returns
returns c = record {
  ends = directory_ends_as_now;
  goes_on = directory_goes_on;
}
