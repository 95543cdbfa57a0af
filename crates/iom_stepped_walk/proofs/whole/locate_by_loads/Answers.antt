-- All loads of one memory are the whole walk.
use Rattle.std.proofs.Common.{◌∙◌, sym, ap, subst}
use Rattle.iom_walk_loads.proofs.BoundLemmas.{locating_ends}
use Rattle.iom_walk_loads.proofs.WholeLemmas.{locating_is_whole}
use Rattle.iom_walk_loads.specs.Loads.{EndsWithin, made_from}
use Rattle.iom_stepped_walk.proofs.whole.locate_by_loads.Goals as goal

pub finish_locating-requires : goal.finish_locating-requires
finish_locating-requires g c = subst (EndsWithin 3) (sym c.begin.ensures) (locating_ends c.args.ddtp c.args.id)

pub returns : goal.returns
returns g c =
    let m = g.B.Bytes.frames_of c.args.memory.now in
    c.finish_locating.ensures ∙ ap (made_from m) c.begin.ensures ∙ locating_is_whole m c.args.ddtp c.args.id
