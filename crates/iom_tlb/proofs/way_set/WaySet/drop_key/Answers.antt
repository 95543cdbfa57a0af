use Rattle.std.proofs.Common.{refl, set, subst}
use Rattle.iom_tlb.specs.Content.{DropsWhere}
use Rattle.iom_tlb.specs.Entries.{has_key}
use Rattle.iom_tlb.specs.Ways.{Ways, in_set}
use Rattle.iom_tlb.specs.WayCalls.{OnlyEmptied}
use Rattle.iom_tlb.proofs.SetLemmas.{drops, empties_one, drops_nothing, emptied_by_test}
use Rattle.iom_tlb.proofs.way_set.WaySet.drop_key.Goals as goal

pub returns-in-Some-clause-dropped : goal.returns-in-Some-clause-dropped
returns-in-Some-clause-dropped c =
    let found = rw c.space_word.ensures.word at c.in-Some.ensures.found in
    let new : Ways = record { spaces = set c.self.inside.spaces c.in-Some.way 0; pages = c.self.inside.pages; translations = c.self.inside.translations; next = c.self.inside.next } in
    subst (λ (old : Ways). DropsWhere (has_key (c.args.space, c.args.page)) (in_set old) (in_set new)) c.self.view_is
    (drops _ c.self.invariant (has_key (c.args.space, c.args.page)) (set c.self.inside.spaces c.in-Some.way 0)
    (empties_one _ c.self.invariant (c.args.space, c.args.page) c.in-Some.way c.space_word.ensures.fits found.0 (found.1, found.2)))

pub returns-in_default-clause-dropped : goal.returns-in_default-clause-dropped
returns-in_default-clause-dropped c =
    let none = rw c.space_word.ensures.word at (c.in_default.ensures.none refl) in
    subst (λ (old : Ways). DropsWhere (has_key (c.args.space, c.args.page)) (in_set old) (in_set old)) c.self.view_is
    (drops_nothing _ c.self.invariant (c.args.space, c.args.page) none)

pub returns-in-Some-clause-emptied : goal.returns-in-Some-clause-emptied
returns-in-Some-clause-emptied c =
    let found = rw c.space_word.ensures.word at c.in-Some.ensures.found in
    let new : Ways = record { spaces = set c.self.inside.spaces c.in-Some.way 0; pages = c.self.inside.pages; translations = c.self.inside.translations; next = c.self.inside.next } in
    subst (λ (old : Ways). OnlyEmptied old new) c.self.view_is
    (emptied_by_test _ (has_key (c.args.space, c.args.page)) (set c.self.inside.spaces c.in-Some.way 0)
    (empties_one _ c.self.invariant (c.args.space, c.args.page) c.in-Some.way c.space_word.ensures.fits found.0 (found.1, found.2)))
