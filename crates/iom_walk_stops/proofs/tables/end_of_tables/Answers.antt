-- A walk that has made no load yet makes 24 at most.
use Rattle.std.proofs.Common.{length, sym, subst}
use Rattle.iom_walk_loads.specs.Loads.{EndsWithin}
use Rattle.iom_walk_stops.proofs.FewLemmas.{stages_end}
use Rattle.iom_walk_stops.proofs.tables.end_of_tables.Goals as goal

pub end_from-requires : goal.end_from-requires
end_from-requires g c =
    let m = g.B.Bytes.frames_of c.args.memory.now in
    subst (EndsWithin 24) (sym (c.in-GoesOn.ensures (length m))) (stages_end (length m) c.args.stages c.args.address c.args.kind)
