-- One load makes the step that the entry makes.
use Rattle.std.proofs.Common.{◌∙◌, ap}
use Rattle.iom_stage_walk.specs.Entries.{entries, slot}
use Rattle.iom_stepped_walk.proofs.StepLemmas.{step_is}
use Rattle.iom_stepped_walk.proofs.place.Place.step.Goals as goal

pub returns : goal.returns
returns g c =
    let m = g.B.Bytes.frames_of c.args.memory.now in
    let place = c.args.self in
    step_is m c.args.kind place c.args.page c.entry_at-entry.result c.frames.result c.after.result c.frames.ensures
    (c.entry_at-entry.ensures.value ∙ ap (λ t. entries m (slot t c.index_at-index.result)) c.number.ensures.value ∙ ap (λ i. entries m (slot place.table.number i)) c.index_at-index.ensures.value)
    c.after.ensures
