-- The load that ends the walk is its last.
use Rattle.std.proofs.Common.{Ok, Err, sym, ap, ◌∙◌}
use Rattle.iom_stepped_walk.proofs.FinishLemmas.{directory_left, directory_within}
use Rattle.iom_stepped_walk.specs.Directories.{directory_rest}
use Rattle.iom_stepped_walk.specs.declared.directory.Locating.TheVariants.{GoesOn}
use Rattle.iom_walk_loads.specs.Loads.{Ends}
use Rattle.iom_walk_stops.proofs.LoadLemmas.{last_is, made_is, stands_next}
use Rattle.iom_walk_stops.proofs.directory.end_from.Goals as goal

pub returns-in-Ended-Ok : goal.returns-in-Ended-Ok
returns-in-Ended-Ok g c =
    let m = g.B.Bytes.frames_of c.args.memory.now in
    made_is m c.loop-made._made (directory_rest c.args.begun) (directory_rest c.loop-made.walk) (Ok c.in-Ended-Ok.context) c.loop-made.invariant.stands
    (sym c.in-Ended-Ok.ensures ∙ ap Ends c.in-Ended-Ok.field-0-is)

pub returns-in-Ended-Err : goal.returns-in-Ended-Err
returns-in-Ended-Err g c =
    let m = g.B.Bytes.frames_of c.args.memory.now in
    let whole = directory_rest c.args.begun in
    let rest = directory_rest c.loop-made.walk in
    let stands = c.loop-made.invariant.stands in
    let ends = sym c.in-Ended-Err.ensures ∙ ap Ends c.in-Ended-Err.field-0-is in
    record {
      made = made_is m c.loop-made._made whole rest (Err c.in-Ended-Err.cause) stands ends;
      last =
          last_is m c.loop-made._made whole rest c.next_load-load.result.address (Err c.in-Ended-Err.cause) stands c.next_load-load.ensures.address ends;
      walk = c.loop-made.walk;
      stands = (c.loop-made._made, stands);
      next = c.next_load-load.ensures;
      ends = ends;
    }

pub loop-made-preserved : goal.loop-made-preserved
loop-made-preserved g c =
    let m = g.B.Bytes.frames_of c.args.memory.now in
    record {
      stands =
          stands_next m c.loop-made._made (directory_rest c.args.begun) (directory_rest c.loop-made.walk) (directory_rest c.in-GoesOn.next)
          c.loop-made.invariant.stands c.in-GoesOn.ensures;
      bounded = directory_within m c.loop-made.walk (GoesOn c.in-GoesOn.next) c.loop-made._made c.loop-made-test.true c.in-GoesOn.ensures c.loop-made.invariant.bounded;
    }

pub unreachable-requires : goal.unreachable-requires
unreachable-requires g c =
    directory_left (g.B.Bytes.frames_of c.args.memory.now) c.loop-made.walk c.loop-made._made c.loop-made-test.false c.loop-made.invariant.bounded
