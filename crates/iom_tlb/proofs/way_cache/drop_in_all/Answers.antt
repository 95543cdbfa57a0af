use Rattle.std.proofs.Common.{◌∙◌, ◌≢◌, ◌<◌, ◌+◌, length, get_or, subst, arith}
use Rattle.std.proofs.lemmas.List.{get_or_default, get_or-set_other}
use Rattle.iom_tlb.specs.Content.{DropsWhere}
use Rattle.iom_tlb.specs.Covers.{covers}
use Rattle.iom_tlb.specs.Ways.{in_set, no_ways}
use Rattle.iom_tlb.specs.WayCalls.{AreAtHome, OnlyEmptied}
use Rattle.iom_tlb.proofs.CacheLemmas.{changed}
use Rattle.iom_tlb.proofs.way_cache.drop_in_all.Goals as goal

pub loop-number-preserved : goal.loop-number-preserved
loop-number-preserved c =
    let n = c.loop-number.number in
    let within : n < length c.loop-number.sets = omega arith in
    let old = c.args.sets.now in
    let new = c.drop_where.new.self in
    let read = get_or_default c.loop-number.sets n c.index-sets-number.result no_ways within ∙ c.loop-number.invariant.rest n (omega arith) in
    record {
      dropped = changed (λ k s. k < n + 1 → DropsWhere (covers c.args.cover.now) (in_set (get_or old k no_ways)) (in_set s)) c.loop-number.sets n new within
          (λ lt. subst (λ s. DropsWhere (covers c.args.cover.now) (in_set s) (in_set new)) read c.drop_where.ensures.dropped)
          (λ k ne lt. c.loop-number.invariant.dropped k (omega (arith, ne)));
      home = changed (λ k s. AreAtHome k (get_or old k no_ways) → AreAtHome k s) c.loop-number.sets n new within
          (subst (λ s. AreAtHome n s → AreAtHome n new) read (c.drop_where.ensures.home n))
          (λ k ne. c.loop-number.invariant.home k);
      emptied = changed (λ k s. OnlyEmptied (get_or old k no_ways) s) c.loop-number.sets n new within
          (subst (λ s. OnlyEmptied s new) read c.drop_where.ensures.emptied)
          (λ k ne. c.loop-number.invariant.emptied k);
      rest = λ k le. let ne : k ≢ n = omega arith in get_or-set_other c.loop-number.sets n k new no_ways ne ∙ c.loop-number.invariant.rest k (omega arith);
    }
