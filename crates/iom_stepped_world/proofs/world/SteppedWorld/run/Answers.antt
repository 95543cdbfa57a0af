-- A run goes on by one event, or ends where the sink fails.
use Rattle.std.proofs.Common.{List, take_all, subst, arith}
use Rattle.std.proofs.lemmas.Result.{err_from_is_err_and}
use Rattle.iom_stepped_world.specs.Runs.{RunsTo}
use Rattle.iom_stepped_world.specs.Shown.{stepped_of}
use Rattle.iom_stepped_world.specs.Told.{told}
use Rattle.iom_stepped_world.specs.declared.event.SteppedEvent.{SteppedEvent}
use Rattle.iom_stepped_world.proofs.RunLemmas.{begins, ends_at, goes_on}
use Rattle.iom_stepped_world.proofs.world.SteppedWorld.run.Goals as goal

pub loop-event-init : goal.loop-event-init
loop-event-init g c = record {
  ran = λ state shows. begins g.S.SteppedSink.takes state (stepped_of g.D.Disk.shown c.args.self.now.world c.args.self.now.walks) c.args.sink.now shows;
  counted = omega arith;
}

pub returns-clause-ran : goal.returns-clause-ran
returns-clause-ran g c = λ state shows.
    subst (λ (events : List SteppedEvent). RunsTo g.S.SteppedSink.takes state (stepped_of g.D.Disk.shown c.args.self.now.world c.args.self.now.walks) events c.args.sink.now c.loop-event.sink
    (stepped_of g.D.Disk.shown c.loop-event.self.world c.loop-event.self.walks)) (take_all c.loop-event.event-index c.args.events.now (omega (arith, c.loop-event-test.false)))
    (c.loop-event.invariant.ran state shows)

pub loop-event-preserved : goal.loop-event-preserved
loop-event-preserved g c = record {
  ran = λ state shows.
      goes_on g.S.SteppedSink.takes state c.args.events.now c.loop-event.event-index c.event-item.result (told c.happen-outcome.result) _ _ _ _ _ _
      (c.loop-event.invariant.ran state shows) c.event-item.is c.loop-event-test.true c.happen-outcome.ensures.happens c.in_ok-put.ensures.taken;
  counted = omega (arith, c.happen-outcome.ensures.happens.does.leads.counted, c.loop-event.invariant.counted);
}

pub returns-in_err-put-clause-failed : goal.returns-in_err-put-clause-failed
returns-in_err-put-clause-failed g c = λ state shows.
    let fault = err_from_is_err_and c.from_residual.result c.from_residual.ensures.1 in
    rw fault.1 (ends_at g.S.SteppedSink.takes g.S.SteppedSink.fails state c.args.events.now c.loop-event.event-index c.event-item.result (told c.happen-outcome.result) _ _ _
    (stepped_of g.D.Disk.shown c.args.self.now.world c.args.self.now.walks) _ _ (c.loop-event.invariant.ran state shows) c.event-item.is c.loop-event-test.true c.happen-outcome.ensures.happens
    c.in_err-put.ensures.failed)
