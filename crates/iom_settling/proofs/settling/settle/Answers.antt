use Rattle.std.proofs.Common.{arith}
use Rattle.iom_settling.proofs.LoopLemmas.{settled_then}
use Rattle.iom_settling.proofs.settling.settle.Goals as goal

pub returns-clause-settled : goal.returns-clause-settled
returns-clause-settled g c =
    settled_then g.T.TakesEvents.parts g.T.TakesEvents.counted g.T.TakesEvents.happens (record { effect = g.met.T.TakesEvents.effect; commands = g.met.T.TakesEvents.commands; counts = g.met.T.TakesEvents.counts; invariants = g.met.T.TakesEvents.invariants; own = g.met.T.TakesEvents.own }) _ _ _ c.quiet_down-events.result c.catch_up.result c.has_pending.result c.quiet_down-events.ensures.went c.quiet_down-events.ensures.few
    c.quiet_down-events.ensures.driver c.has_pending.ensures c.if-not-has_pending.false c.catch_up.ensures.went c.catch_up.ensures.few c.catch_up.ensures.idle c.catch_up.ensures.confirmed

pub returns-then-not-has_pending-clause-counted : goal.returns-then-not-has_pending-clause-counted
returns-then-not-has_pending-clause-counted g c =
    let few = c.quiet_down-events.ensures.few in
    let count = c.quiet_down-events.ensures.counted in
    omega (arith, few, count)

pub returns-then-has_used_up-clause-counted : goal.returns-then-has_used_up-clause-counted
returns-then-has_used_up-clause-counted g c =
    let few = c.quiet_down-events.ensures.few in
    let count = c.quiet_down-events.ensures.counted in
    omega (arith, few, count)

pub returns-clause-counted : goal.returns-clause-counted
returns-clause-counted g c =
    let few = c.quiet_down-events.ensures.few in
    let count = c.quiet_down-events.ensures.counted in
    let short = c.catch_up.ensures.few in
    let more = c.catch_up.ensures.counted in
    omega (arith, few, count, short, more)
