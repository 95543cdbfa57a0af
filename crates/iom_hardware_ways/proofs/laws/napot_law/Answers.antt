use Rattle.iom_hardware_ways.proofs.NapotLemmas.{reads_more}
use Rattle.iom_hardware_ways.proofs.laws.napot_law.Goals as goal

pub returns : goal.returns
returns c = reads_more
