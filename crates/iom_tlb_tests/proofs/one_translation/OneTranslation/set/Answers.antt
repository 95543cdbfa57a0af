use Rattle.iom_tlb_tests.proofs.OneLemmas.{sets}
use Rattle.iom_tlb_tests.proofs.one_translation.OneTranslation.set.Goals as goal

pub returns : goal.returns
returns c = sets c.args.kept c.args.self.now.only
