use Rattle.iom_iommu.proofs.FetchLemmas.{timeout_list}
use Rattle.iom_iommu.proofs.laws.stops_after_timeout.Goals as goal

pub returns-clause-list : goal.returns-clause-list
returns-clause-list g c = timeout_list
