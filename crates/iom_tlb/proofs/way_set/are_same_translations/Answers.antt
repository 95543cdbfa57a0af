-- Translation by translation.
use Rattle.std.proofs.lemmas.Slice.Eq.{slice_eq-Decides}
use Rattle.iom_tlb.proofs.SameLemmas.{translation_decides}
use Rattle.iom_tlb.proofs.way_set.are_same_translations.Goals as goal

pub returns : goal.returns
returns c = slice_eq-Decides translation_decides c.args.one.now c.args.other.now c.eq.result c.eq.ensures
