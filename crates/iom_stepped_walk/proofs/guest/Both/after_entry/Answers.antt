-- What the entry of a guest's table makes of the walk.
use Rattle.std.proofs.Common.{◌∙◌, sym, ap, ◌++◌, ◌∷◌, ◌/◌, []}
use Rattle.iom_walk_loads.specs.Tables.{at_guest_entry}
use Rattle.iom_stepped_walk.proofs.PositionLemmas.{below_is, down_from}
use Rattle.iom_stepped_walk.proofs.StepLemmas.{leaf_walk_is}
use Rattle.iom_stepped_walk.specs.Positions.{in_both, entries_below}
use Rattle.iom_stepped_walk.specs.Filled.{filled_places}
use Rattle.iom_stepped_walk.proofs.guest.Both.after_entry.Goals as goal

pub returns-in-Some-judge : goal.returns-in-Some-judge
returns-in-Some-judge c = λ frames.
    let w = in_both frames c.args.self in
    let entry = c.args.entry in
    c.to_page.ensures frames
    ∙ leaf_walk_is w (filled_places entry.loaded.frames ++ c.args.frame ∷ []) (filled_places c.with.result.frames) (down_from w entry c.args.frame) c.args.given c.in-Leaf.base c.in-Leaf.rights entry.level
    (c.args.self.asked.address / 4096) c.in-Some-judge.number c.in-Leaf.is c.with.ensures c.in-Some-judge.ensures.value

pub returns-in-Some : goal.returns-in-Some
returns-in-Some c = λ frames.
    c.to_entry.ensures frames ∙ below_is (in_both frames c.args.self) c.args.entry c.in-Some.entry c.args.frame c.in-Pointer.next c.in-Some.ensures
    ∙ ap (at_guest_entry (in_both frames c.args.self) (filled_places c.args.entry.loaded.frames ++ c.args.frame ∷ []) (entries_below c.args.entry c.args.self.asked.address)
    (down_from (in_both frames c.args.self) c.args.entry c.args.frame)) (sym c.in-Pointer.is)
