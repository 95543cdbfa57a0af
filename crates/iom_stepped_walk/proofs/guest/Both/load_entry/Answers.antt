-- One load of an entry of a guest's table.
use Rattle.std.proofs.Common.{◌∙◌, ap, length}
use Rattle.iom_stage_walk.specs.Entries.{entries, slot}
use Rattle.iom_stepped_walk.proofs.PositionLemmas.{entry_load_is}
use Rattle.iom_stepped_walk.specs.Positions.{in_both}
use Rattle.iom_stepped_walk.proofs.guest.Both.load_entry.Goals as goal

pub returns : goal.returns
returns g c =
    let m = g.B.Bytes.frames_of c.args.memory.now in
    let frame = c.args.frame in
    c.after_entry.ensures (length m)
    ∙ entry_load_is m (in_both (length m) c.args.self) c.args.entry frame c.entry_at-given.result
    (c.entry_at-given.ensures.value ∙ ap (λ f. entries m (slot f c.index.result)) c.from.ensures ∙ ap (λ i. entries m (slot frame i)) c.index.ensures.value)
