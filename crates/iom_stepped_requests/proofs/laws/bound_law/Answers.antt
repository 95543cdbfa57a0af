use Rattle.iom_stepped_requests.proofs.BoundLemmas.{loads_take_away, requests_end}
use Rattle.iom_stepped_requests.proofs.laws.bound_law.Goals as goal

pub returns : goal.returns
returns c = record { ends = requests_end; fewer = loads_take_away }
