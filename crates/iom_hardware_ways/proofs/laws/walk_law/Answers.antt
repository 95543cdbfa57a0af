use Rattle.iom_hardware_ways.proofs.BackLemmas.{first_stages_are_reached, second_stages_are_reached}
use Rattle.iom_hardware_ways.proofs.DirectoryBack.{directories_are_found}
use Rattle.iom_hardware_ways.proofs.PageIndices.{sizes_have_indices}
use Rattle.iom_hardware_ways.proofs.WalkLaws.{first_stages_lead, second_stages_lead, both_stages_lead, directories_lead}
use Rattle.iom_hardware_ways.proofs.laws.walk_law.Goals as goal

pub returns : goal.returns
returns c = record { first = first_stages_lead; second = second_stages_lead; both = both_stages_lead; first_back = first_stages_are_reached; second_back = second_stages_are_reached; indices = sizes_have_indices; directory = directories_lead; directory_back = directories_are_found }
