use Rattle.std.proofs.Common.{◌∙◌, sym, arith}
use Rattle.iom_settling.proofs.LawLemmas.{nobody_is_busy}
use Rattle.iom_settling.proofs.LoopLemmas.{commits_begin, commits_more, commits_end, commits_room, one_in_flight_less}
use Rattle.iom_settling.proofs.settling.commit_all.Goals as goal

pub loop-device-init : goal.loop-device-init
loop-device-init g c = commits_begin g.T.TakesEvents.parts g.T.TakesEvents.counted g.T.TakesEvents.happens (record { effect = g.met.T.TakesEvents.effect; commands = g.met.T.TakesEvents.commands; counts = g.met.T.TakesEvents.counts; invariants = g.met.T.TakesEvents.invariants; own = g.met.T.TakesEvents.own }) _ c.facts.ensures.flights

pub take-requires : goal.take-requires
take-requires g c = record {
  settling = tt;
  count = commits_room g.T.TakesEvents.parts g.T.TakesEvents.counted g.T.TakesEvents.happens (record { effect = g.met.T.TakesEvents.effect; commands = g.met.T.TakesEvents.commands; counts = g.met.T.TakesEvents.counts; invariants = g.met.T.TakesEvents.invariants; own = g.met.T.TakesEvents.own }) _ _ _ c.in-Some.device c.loop-device.invariant c.requires.count c.facts-in-Some.ensures.flights (sym c.first_busy.ensures ∙ c.in-Some.is);
}

pub loop-device-smaller : goal.loop-device-smaller
loop-device-smaller g c =
    let less = one_in_flight_less g.T.TakesEvents.parts g.T.TakesEvents.counted g.T.TakesEvents.happens (record { effect = g.met.T.TakesEvents.effect; commands = g.met.T.TakesEvents.commands; counts = g.met.T.TakesEvents.counts; invariants = g.met.T.TakesEvents.invariants; own = g.met.T.TakesEvents.own }) _ _ c.in-Some.device c.take.ensures.0 c.facts-in-Some.ensures.flights (sym c.first_busy.ensures ∙ c.in-Some.is) c.take.ensures.1 in
    let fewer = less.1 in
    omega (arith, fewer)

pub loop-device-preserved : goal.loop-device-preserved
loop-device-preserved g c =
    commits_more g.T.TakesEvents.parts g.T.TakesEvents.counted g.T.TakesEvents.happens (record { effect = g.met.T.TakesEvents.effect; commands = g.met.T.TakesEvents.commands; counts = g.met.T.TakesEvents.counts; invariants = g.met.T.TakesEvents.invariants; own = g.met.T.TakesEvents.own }) _ _ _ _ c.in-Some.device c.take.ensures.0 c.loop-device.invariant c.facts-in-Some.ensures.flights (sym c.first_busy.ensures ∙ c.in-Some.is) c.take.ensures.1

pub returns-clause-went : goal.returns-clause-went
returns-clause-went g c =
    commits_end g.T.TakesEvents.parts g.T.TakesEvents.counted g.T.TakesEvents.happens (record { effect = g.met.T.TakesEvents.effect; commands = g.met.T.TakesEvents.commands; counts = g.met.T.TakesEvents.counts; invariants = g.met.T.TakesEvents.invariants; own = g.met.T.TakesEvents.own }) _ _ _ c.loop-device.invariant
    (nobody_is_busy (g.T.TakesEvents.parts c.loop-device.world) (sym c.first_busy.ensures ∙ c.in_default.is))

pub returns-clause-driver : goal.returns-clause-driver
returns-clause-driver g c = c.loop-device.invariant.driver

pub returns-clause-few : goal.returns-clause-few
returns-clause-few g c = let left = c.loop-device.invariant.left in omega (arith, left)

pub returns-clause-idle : goal.returns-clause-idle
returns-clause-idle g c = nobody_is_busy (g.T.TakesEvents.parts c.loop-device.world) (sym c.first_busy.ensures ∙ c.in_default.is)

pub returns-clause-counted : goal.returns-clause-counted
returns-clause-counted g c = c.loop-device.invariant.counted
