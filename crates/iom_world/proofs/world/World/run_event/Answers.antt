use Rattle.std.proofs.Common.{◌∙◌}
use Rattle.iom_world.proofs.world.World.run_event.Goals as goal

pub returns : goal.returns
returns g c =
    let trace = c.trace_if-trace.ensures in
    (c.step-outcome.result, c.step-outcome.ensures.happens, c.trace_if-trace.result, trace.wanted ∙ c.wants_trace.ensures, λ state shows. trace.counts state shows, c.put.ensures.taken, c.put.ensures.failed)
