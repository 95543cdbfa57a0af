-- What a world tells of itself beside the outcomes of its events.
use Rattle.std.specs.Prelude.{◌≡◌, length}
use Rattle.iom_machine.specs.declared.outcome.Trace.{Trace}
use Rattle.iom_machine.specs.declared.state.State.{State}
use Rattle.iom_machine.specs.Traces.{IsTrace}
use Rattle.iom_world.specs.Shown.{Shown}

-- the counts are those of the state; the messages, of which the machine knows nothing, are those that are under way in the world
abbrev pub IsTraceOf : State → Shown → Trace → Type 0
IsTraceOf state shown trace = IsTrace state trace × (trace.messages ≡ length shown.parts.fabric)
