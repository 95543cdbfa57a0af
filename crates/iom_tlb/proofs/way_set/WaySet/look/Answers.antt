use Rattle.std.proofs.Common.{◌∙◌, refl, sym, ap}
use Rattle.iom_tlb.specs.declared.trans_cache.Translation.{Translation}
use Rattle.iom_tlb.specs.Ways.{Ways, in_set}
use Rattle.iom_tlb.proofs.SetLemmas.{looked, missed}
use Rattle.iom_tlb.proofs.way_set.WaySet.look.Goals as goal

pub returns-in_err-way : goal.returns-in_err-way
returns-in_err-way c =
    let none = rw c.space_word.ensures.word at (c.in_err-way.ensures.none refl) in
    c.from_residual.ensures ∙ sym (ap (λ (s : Ways). in_set s (c.args.space, c.args.page)) (sym c.self.view_is) ∙ missed _ c.self.invariant (c.args.space, c.args.page) none)

pub returns : goal.returns
returns c =
    let found = rw c.space_word.ensures.word at c.in_ok-way.ensures.found in
    let lowest = rw c.space_word.ensures.word at c.in_ok-way.ensures.lowest in
    let nothing : Translation = record { frame = 0; rights = record { 0 = 0 }; order = 0 } in
    sym (ap (λ (s : Ways). in_set s (c.args.space, c.args.page)) (sym c.self.view_is)
    ∙ looked _ c.self.invariant (c.args.space, c.args.page) c.in_ok-way.way nothing c.space_word.ensures.fits found.0 (found.1, found.2) lowest)
