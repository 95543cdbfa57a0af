-- Event after event.
use Rattle.iom_litmus_world.specs.Openings.{Nothing}
use Rattle.iom_litmus_world.proofs.OpeningLemmas.{through_more}
use Rattle.iom_litmus_world.proofs.opening.go_through.Goals as goal

pub loop-event-init : goal.loop-event-init
loop-event-init g c = Nothing

pub loop-event-preserved : goal.loop-event-preserved
loop-event-preserved g c =
    through_more c.args.events.now c.loop-event.event-index c.event-item.result c.args.world.now c.loop-event.world c.step.new.self c.step.result c.loop-event-test.true c.event-item.is
    c.step.ensures.happens c.loop-event.invariant
