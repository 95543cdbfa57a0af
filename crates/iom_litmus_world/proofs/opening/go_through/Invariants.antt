-- The world went through the events so far.
use Rattle.std.proofs.Common.{take}
use Rattle.iom_litmus_world.specs.Openings.{GoesThrough}
use Rattle.iom_litmus_world.proofs.opening.go_through.Given as goal

abbrev pub invariant-loop-event : goal.invariant-loop-event
invariant-loop-event g l = GoesThrough l.fn.world (take l.event-index l.events) l.world
