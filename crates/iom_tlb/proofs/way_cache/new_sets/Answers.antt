use Rattle.std.proofs.Common.{◌≡◌, refl, arith, length-append}
use Rattle.iom_tlb.specs.Content.{HasNothing}
use Rattle.iom_tlb.specs.Ways.{in_set}
use Rattle.iom_tlb.specs.WayCalls.{AreAtHome}
use Rattle.iom_tlb.proofs.CacheLemmas.{pushed, nothing_past, home_past}
use Rattle.iom_tlb.proofs.way_cache.new_sets.Goals as goal

pub loop-made-preserved : goal.loop-made-preserved
loop-made-preserved c = rw c.in_ok-push.ensures.items (record {
  as_many = simp length-append (omega arith);
  nothing = pushed (λ k s. HasNothing (in_set s)) c.loop-made.sets.items c.new.result (λ k. nothing_past) c.loop-made.invariant.nothing (λ k. c.new.ensures.nothing);
  home = pushed (λ k s. AreAtHome k s) c.loop-made.sets.items c.new.result home_past c.loop-made.invariant.home c.new.ensures.home;
  counters = pushed (λ k s. s.next ≡ 0) c.loop-made.sets.items c.new.result (λ k. refl) c.loop-made.invariant.counters (λ k. c.new.ensures.counter);
})
