use Rattle.iom_stepped_requests.proofs.WholeLemmas.{loads_are_of_the_walk, requests_are_whole}
use Rattle.iom_stepped_requests.proofs.laws.whole_law.Goals as goal

pub returns : goal.returns
returns c = record { load = loads_are_of_the_walk; whole = requests_are_whole }
