-- Field by field.
use Rattle.std.proofs.lemmas.Bool.Decides.{Decides-at}
use Rattle.iom_tlb.specs.contracts.trans_cache.TranslationPartialEq.TheImpl as translation
use Rattle.iom_tlb.proofs.SameLemmas.{translation_decides}
use Rattle.iom_tlb.proofs.trans_cache.Translation.is_same.Goals as goal

pub returns : goal.returns
returns c = Decides-at c.eq.result (translation.ghosts.eq c.args.self.now c.args.other.now) c.eq.ensures (translation_decides c.args.self.now c.args.other.now)
