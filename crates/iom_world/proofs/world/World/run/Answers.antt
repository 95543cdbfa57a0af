-- A run goes on by one event, or ends where the sink fails.
use Rattle.std.proofs.Common.{[], refl, arith}
use Rattle.std.proofs.lemmas.Result.{err_from_is_err_and}
use Rattle.iom_world.specs.Shown.{shown_of}
use Rattle.iom_world.proofs.RunLemmas.{are_outcomes, goes_on, ends_at, shown_so_far}
use Rattle.iom_world.proofs.world.World.run.Goals as goal

pub loop-event-init : goal.loop-event-init
loop-event-init g c =
    let shown = shown_of g.D.Disk.shown c.args.self.now in
    record {
      ran = λ state shows. ([], [], state, are_outcomes state state shown shown [] [] [] refl (shows, refl), refl);
      counted = omega arith;
    }

pub loop-event-preserved : goal.loop-event-preserved
loop-event-preserved g c = record {
  ran = λ state shows.
      let so_far = c.loop-event.invariant.ran state shows in
      let reply = c.in_ok-run_event.ensures in
      let next = reply.1.step so_far.2 (shown_so_far g.S.Sink.wants g.S.Sink.takes state _ _ _ _ _ so_far) in
      goes_on g.S.Sink.wants g.S.Sink.takes state next.0 c.args.events.now c.loop-event.event-index c.event-item.result reply.0 reply.2 _ _ _ _ _ _
      so_far c.event-item.is c.loop-event-test.true next.1 reply.1 (reply.4 next.0 next.2) next.2 reply.3 reply.5;
  counted = omega (arith, c.run_event.ensures.1.events, c.loop-event.invariant.counted);
}

pub returns-in_err-run_event-clause-failed : goal.returns-in_err-run_event-clause-failed
returns-in_err-run_event-clause-failed g c = λ state shows.
    let so_far = c.loop-event.invariant.ran state shows in
    let reply = c.in_err-run_event.ensures in
    let shown = shown_of g.D.Disk.shown c.args.self.now in
    let next = reply.1.step so_far.2 (shown_so_far g.S.Sink.wants g.S.Sink.takes state _ _ _ _ _ so_far) in
    let fault = err_from_is_err_and c.from_residual.result c.from_residual.ensures.1 in
    rw fault.1 (ends_at g.S.Sink.wants g.S.Sink.takes g.S.Sink.fails state next.0 c.args.events.now c.loop-event.event-index c.event-item.result reply.0 reply.2 _ _ _ shown _ _
    so_far c.event-item.is c.loop-event-test.true (omega (arith, reply.1.events, c.loop-event.invariant.counted)) next.1 reply.1 (reply.4 next.0 next.2) next.2
    reply.3 reply.6)
