use Rattle.iom_tlb.proofs.LawLemmas.{all_covered}
use Rattle.iom_tlb.proofs.laws.two_commands_take_out_everything.Goals as goal

pub returns : goal.returns
returns c = all_covered
