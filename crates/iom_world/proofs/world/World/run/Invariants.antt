-- The events so far are a run, and are counted.
use Rattle.std.proofs.Common.{◌≡◌, ◌+◌, take}
use Rattle.iom_machine.specs.declared.state.State.{State}
use Rattle.iom_world.specs.Runs.{RunsTo}
use Rattle.iom_world.specs.Shown.{shown_of}
use Rattle.iom_world.specs.Shows.{Shows}
use Rattle.iom_world.proofs.world.World.run.Given as goal

abbrev pub invariant-loop-event : goal.invariant-loop-event
invariant-loop-event g l =
    record {
      ran : (state : State) → Shows (shown_of g.D.Disk.shown l.fn.self) state
          → RunsTo g.S.Sink.wants g.S.Sink.takes state (shown_of g.D.Disk.shown l.fn.self) (take l.event-index l.events) l.fn.sink l.sink
          (shown_of g.D.Disk.shown l.self);
      counted : l.self.hardware.board.events ≡ l.fn.self.hardware.board.events + l.event-index;
    }
