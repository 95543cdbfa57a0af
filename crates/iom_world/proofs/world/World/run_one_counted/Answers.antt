use Rattle.std.proofs.Common.{Some, OnOk, OnErr, sym, subst}
use Rattle.iom_machine.specs.declared.outcome.Outcome.{Outcome}
use Rattle.iom_world.proofs.world.World.run_one_counted.Goals as goal

pub returns : goal.returns
returns g c = (
  c.step-outcome.result,
  c.step-outcome.ensures.happens,
  Some c.trace-trace.result,
  sym c.requires.wants,
  λ state shows. c.trace-trace.ensures state shows,
  subst (λ (outcome : Outcome). OnOk c.put.result (g.S.AnswerSink.takes c.args.sink.now outcome (Some c.trace-trace.result) c.put.new.self)) c.of.ensures c.put.ensures.taken,
  subst (λ (outcome : Outcome). OnErr c.put.result (g.S.AnswerSink.fails c.args.sink.now outcome (Some c.trace-trace.result) c.put.new.self)) c.of.ensures c.put.ensures.failed,
)
