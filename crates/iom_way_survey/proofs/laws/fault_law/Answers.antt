use Rattle.iom_iommu.specs.Parts.{registers_of}
use Rattle.iom_way_survey.proofs.QueueLemmas.{fault_stored}
use Rattle.iom_way_survey.proofs.laws.fault_law.Goals as goal

pub returns : goal.returns
returns c = λ trusted parts rows frame. fault_stored (registers_of parts.iommu) frame
