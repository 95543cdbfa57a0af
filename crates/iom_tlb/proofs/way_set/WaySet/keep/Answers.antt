use Rattle.std.proofs.Common.{inl, inr, refl, set, subst}
use Rattle.iom_tlb.specs.Ways.{Ways, space_word}
use Rattle.iom_tlb.specs.WayCalls.{PutsWay}
use Rattle.iom_tlb.proofs.SetLemmas.{none_has, puts_sets, puts_ways}
use Rattle.iom_tlb.proofs.way_set.WaySet.keep.Goals as goal
use Rattle.iom_tlb.proofs.way_set.WaySet.keep.Goals.{in-Some, in-None}

-- the way that has the key, or one that was taken for it
pub returns-clause-put : goal.returns-clause-put
returns-clause-put c =
    let new : Ways = record {
      spaces = set c.match-find_way.self-inside.spaces c.match-find_way.way' c.space_word-word.result;
      pages = set c.match-find_way.self-inside.pages c.match-find_way.way' c.args.page;
      translations = set c.match-find_way.self-inside.translations c.match-find_way.way' c.args.translation;
      next = c.match-find_way.self-inside.next;
    } in
    subst (λ (old : Ways). PutsWay old (space_word c.args.space) c.args.page c.args.translation new) c.self.view_is (elim c.match-find_way.branch [
      | in-Some w ↦
          let found = rw c.space_word-word.ensures.word at w.in-Some.ensures.found in
          (w.in-Some.way, c.self.inside.next, inl (found.0, (found.1, found.2), refl), rw (w.self-inside-is, w.way'-is, c.space_word-word.ensures.word) refl)
      | in-None w ↦
          let none = rw c.space_word-word.ensures.word at (w.in-None.ensures.none refl) in (
            w.take_way-way.result,
            w.take_way-way.new.next,
            inr ((λ other has. none_has _ c.self.invariant (c.args.space, c.args.page) none other has.0 has.1), w.take_way-way.ensures),
            rw (w.self-inside-is, w.way'-is, c.space_word-word.ensures.word) refl,
          )
    ])

pub returns-clause-kept : goal.returns-clause-kept
returns-clause-kept c =
    let facts = rw c.self.view_is at c.self.invariant in
    puts_sets c.args.self.now facts (c.args.space, c.args.page) c.space_word-word.ensures.fits c.args.translation _ (returns-clause-put c)

pub invariant_of-self : goal.invariant_of-self
invariant_of-self c =
    let facts = rw c.self.view_is at c.self.invariant in
    puts_ways c.args.self.now facts (c.args.space, c.args.page) c.space_word-word.ensures.fits c.args.translation _ (returns-clause-put c)
