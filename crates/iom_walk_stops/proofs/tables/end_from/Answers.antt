-- The load that ends the walk is its last.
use Rattle.std.proofs.Common.{length, Ok, Err, sym, ap, ◌∙◌}
use Rattle.iom_stepped_walk.proofs.FinishLemmas.{table_left, table_within}
use Rattle.iom_stepped_walk.specs.Flaws.{asks_of, flaw_of, level_of}
use Rattle.iom_stepped_walk.specs.Positions.{rest_of}
use Rattle.iom_stepped_walk.specs.declared.tables.Progress.TheVariants.{GoesOn}
use Rattle.iom_walk_loads.specs.Loads.{Ends}
use Rattle.iom_walk_stops.proofs.LoadLemmas.{last_is, made_is, stands_next}
use Rattle.iom_walk_stops.proofs.tables.end_from.Goals as goal

pub returns-in-Ended-Ok : goal.returns-in-Ended-Ok
returns-in-Ended-Ok g c =
    let m = g.B.Bytes.frames_of c.args.memory.now in
    made_is m c.loop-made._made (rest_of (length m) c.args.begun) (rest_of (length m) c.loop-made.walk) (Ok c.in-Ended-Ok.walked) c.loop-made.invariant.stands
    (sym c.in-Ended-Ok.ensures ∙ ap Ends c.in-Ended-Ok.field-0-is)

pub returns-in-Ended-Err : goal.returns-in-Ended-Err
returns-in-Ended-Err g c =
    let m = g.B.Bytes.frames_of c.args.memory.now in
    let whole = rest_of (length m) c.args.begun in
    let rest = rest_of (length m) c.loop-made.walk in
    let stands = c.loop-made.invariant.stands in
    let ends = sym c.in-Ended-Err.ensures ∙ ap Ends c.in-Ended-Err.field-0-is in
    record {
      made = made_is m c.loop-made._made whole rest (Err c.in-Ended-Err.fault) stands ends;
      last =
          last_is m c.loop-made._made whole rest c.next_load-load.result.address (Err c.in-Ended-Err.fault) stands (c.next_load-load.ensures.address (length m)) ends;
      walk = c.loop-made.walk;
      stands = (c.loop-made._made, stands);
      next = c.next_load-load.ensures;
      ends = ends;
      wrong = c.flaw-flaw.ensures ∙ ap (flaw_of (asks_of c.loop-made.walk) (level_of c.loop-made.walk)) c.entry_at.ensures;
    }

pub loop-made-preserved : goal.loop-made-preserved
loop-made-preserved g c =
    let m = g.B.Bytes.frames_of c.args.memory.now in
    record {
      stands =
          stands_next m c.loop-made._made (rest_of (length m) c.args.begun) (rest_of (length m) c.loop-made.walk) (rest_of (length m) c.in-GoesOn.next)
          c.loop-made.invariant.stands c.in-GoesOn.ensures;
      bounded = table_within m c.loop-made.walk (GoesOn c.in-GoesOn.next) c.loop-made._made c.loop-made-test.true c.in-GoesOn.ensures c.loop-made.invariant.bounded;
    }

pub unreachable-requires : goal.unreachable-requires
unreachable-requires g c =
    table_left (g.B.Bytes.frames_of c.args.memory.now) c.loop-made.walk c.loop-made._made c.loop-made-test.false c.loop-made.invariant.bounded
