use Rattle.std.proofs.Common.{◌<◌, ◌+◌, length, get_or, subst, arith}
use Rattle.std.proofs.lemmas.List.{get_or_default}
use Rattle.iom_tlb.specs.Content.{HasNothing}
use Rattle.iom_tlb.specs.Ways.{in_set, no_ways}
use Rattle.iom_tlb.specs.WayCalls.{AreAtHome, OnlyEmptied}
use Rattle.iom_tlb.proofs.CacheLemmas.{changed}
use Rattle.iom_tlb.proofs.SetLemmas.{emptied_again}
use Rattle.iom_tlb.proofs.way_cache.empty_all.Goals as goal

pub loop-number-preserved : goal.loop-number-preserved
loop-number-preserved c =
    let n = c.loop-number.number in
    let within : n < length c.loop-number.sets = omega arith in
    let read = get_or_default c.loop-number.sets n c.index-sets-number.result no_ways within in
    record {
      nothing = changed (λ k s. k < n + 1 → HasNothing (in_set s)) c.loop-number.sets n c.drop_all.new.self within (λ lt. c.drop_all.ensures.nothing)
          (λ k ne lt. c.loop-number.invariant.nothing k (omega (arith, ne)));
      home = changed (λ k s. k < n + 1 → AreAtHome k s) c.loop-number.sets n c.drop_all.new.self within (λ lt. c.drop_all.ensures.home n)
          (λ k ne lt. c.loop-number.invariant.home k (omega (arith, ne)));
      emptied = changed (λ k s. OnlyEmptied (get_or c.args.sets.now k no_ways) s) c.loop-number.sets n c.drop_all.new.self within
          (emptied_again (c.loop-number.invariant.emptied n) (subst (λ s. OnlyEmptied s c.drop_all.new.self) read c.drop_all.ensures.emptied))
          (λ k ne. c.loop-number.invariant.emptied k);
    }
