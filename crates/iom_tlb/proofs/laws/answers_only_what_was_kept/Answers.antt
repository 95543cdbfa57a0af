use Rattle.iom_tlb.proofs.LawLemmas.{answers_kept}
use Rattle.iom_tlb.proofs.laws.answers_only_what_was_kept.Goals as goal

pub returns : goal.returns
returns c = answers_kept
