-- The events so far are a run, and are counted.
use Rattle.std.proofs.Common.{◌≡◌, ◌+◌, take}
use Rattle.iom_stepped_machine.specs.Machine.{SteppedState}
use Rattle.iom_stepped_refinement.specs.Runs.{ShowsMoment}
use Rattle.iom_stepped_world.specs.Runs.{RunsTo}
use Rattle.iom_stepped_world.specs.Shown.{moment, stepped_of}
use Rattle.iom_stepped_world.proofs.world.SteppedWorld.run.Given as goal

abbrev pub invariant-loop-event : goal.invariant-loop-event
invariant-loop-event g l =
    record {
      ran : (state : SteppedState) → ShowsMoment (moment (stepped_of g.D.Disk.shown l.fn.self.world l.fn.self.walks)) state
          → RunsTo g.S.SteppedSink.takes state (stepped_of g.D.Disk.shown l.fn.self.world l.fn.self.walks) (take l.event-index l.events) l.fn.sink l.sink
          (stepped_of g.D.Disk.shown l.self.world l.self.walks);
      counted : l.self.world.hardware.board.events ≡ l.fn.self.world.hardware.board.events + l.event-index;
    }
