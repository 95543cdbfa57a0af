use Rattle.std.proofs.Common.{subst}
use Rattle.iom_tlb.specs.Content.{DropsWhere}
use Rattle.iom_tlb.specs.Covers.{covers}
use Rattle.iom_tlb.specs.Ways.{Ways, in_set}
use Rattle.iom_tlb.specs.WayCalls.{OnlyEmptied}
use Rattle.iom_tlb.proofs.SetLemmas.{drops, emptied_by_test}
use Rattle.iom_tlb.proofs.way_set.WaySet.drop_where.Goals as goal

pub returns-clause-dropped : goal.returns-clause-dropped
returns-clause-dropped c =
    let new : Ways = record { spaces = c.empty_covered.new.spaces; pages = c.self.inside.pages; translations = c.self.inside.translations; next = c.self.inside.next } in
    subst (λ (old : Ways). DropsWhere (covers c.args.cover.now) (in_set old) (in_set new)) c.self.view_is
    (drops _ c.self.invariant (covers c.args.cover.now) c.empty_covered.new.spaces c.empty_covered.ensures)

pub returns-clause-emptied : goal.returns-clause-emptied
returns-clause-emptied c =
    let new : Ways = record { spaces = c.empty_covered.new.spaces; pages = c.self.inside.pages; translations = c.self.inside.translations; next = c.self.inside.next } in
    subst (λ (old : Ways). OnlyEmptied old new) c.self.view_is (emptied_by_test _ (covers c.args.cover.now) c.empty_covered.new.spaces c.empty_covered.ensures)
