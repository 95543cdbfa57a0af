use Rattle.iom_stepped_requests.proofs.KeepingLemmas.{loads_keep_of_the_run, runs_keep}
use Rattle.iom_stepped_requests.proofs.laws.kept_law.Goals as goal

pub returns : goal.returns
returns c = record { load = loads_keep_of_the_run; whole = runs_keep }
