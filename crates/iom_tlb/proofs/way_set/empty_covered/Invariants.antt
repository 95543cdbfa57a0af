use Rattle.iom_tlb.specs.Covers.{covers}
use Rattle.iom_tlb.proofs.EmptyLemmas.{EmptiesBelow}
use Rattle.iom_tlb.proofs.way_set.empty_covered.Given as goal

-- the ways so far are tested
abbrev pub invariant-loop-way : goal.invariant-loop-way
invariant-loop-way l = EmptiesBelow l.way (covers l.cover) l.pages l.translations l.fn.spaces l.spaces
