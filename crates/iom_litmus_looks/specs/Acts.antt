-- What hardware does by itself, as an event.
use Rattle.std.specs.Prelude.{Option, None, Some}
use Rattle.iom_litmus.specs.declared.step.HardwareStep.{HardwareStep}
use Rattle.iom_litmus.specs.declared.step.HardwareStep.TheVariants as steps
use Rattle.iom_machine.specs.declared.event.Event.{Event}
use Rattle.iom_machine.specs.declared.event.Event.TheVariants as events

-- a walk goes whole here, so that there is none of one load
abbrev pub event_of : HardwareStep → Option Event
event_of steps.Fetch = Some events.Fetch
event_of (steps.Commit device) = Some (events.Commit device)
event_of (steps.Load device) = None
event_of (steps.Deliver place) = Some (events.Deliver place)
event_of (steps.Drop place) = Some (events.Drop place)
event_of (steps.Repeat place) = Some (events.Repeat place)
event_of steps.Timeout = Some events.Timeout
