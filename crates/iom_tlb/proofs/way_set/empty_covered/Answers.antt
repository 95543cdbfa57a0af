use Rattle.std.proofs.Common.{◌∙◌, sym, get_or, ap, arith}
use Rattle.std.proofs.lemmas.Option.{get_or_from_slice_get}
use Rattle.iom_tlb.specs.Covers.{covers}
use Rattle.iom_tlb.specs.declared.trans_cache.Translation.{Translation}
use Rattle.iom_tlb.proofs.EmptyLemmas.{one_out, one_in}
use Rattle.iom_tlb.proofs.way_set.empty_covered.Goals as goal
use Rattle.iom_tlb.proofs.way_set.empty_covered.Goals.{then-is_covered, else-is_covered}

abbrev nothing : Translation
nothing = record { frame = 0; rights = record { 0 = 0 }; order = 0 }

pub loop-way-preserved : goal.loop-way-preserved
loop-way-preserved c = elim c.if-is_covered.branch [
  | then-is_covered w ↦
      rw w.spaces-is (one_out (covers c.args.cover.now) c.args.pages.now c.args.translations.now c.args.spaces.now c.loop-way.way c.loop-way.spaces c.loop-way.invariant (omega arith)
      (λ space own e cached at.
      ap (covers c.args.cover.now (space, get_or c.args.pages.now c.loop-way.way 0)) (sym (get_or_from_slice_get c.args.translations.now c.loop-way.way cached nothing at))
      ∙ sym (c.is_covered.ensures.covered space own e) ∙ w.if-is_covered.true))
  | else-is_covered w ↦
      rw w.spaces-is (one_in (covers c.args.cover.now) c.args.pages.now c.args.translations.now c.args.spaces.now c.loop-way.way c.loop-way.spaces c.loop-way.invariant
      (λ space own e cached at.
      ap (covers c.args.cover.now (space, get_or c.args.pages.now c.loop-way.way 0)) (sym (get_or_from_slice_get c.args.translations.now c.loop-way.way cached nothing at))
      ∙ sym (c.is_covered.ensures.covered space own e) ∙ w.if-is_covered.false))
]
