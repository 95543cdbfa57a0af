use Rattle.std.proofs.Common.{◌≡◌, ◌∙◌, subst, arith, true}
use Rattle.std.proofs.lemmas.List.{length-set}
use Rattle.iom_table_survey.specs.Rows.{row_has, GrowsBy}
use Rattle.iom_table_survey.proofs.RowLemmas.{union_of, union_next}
use Rattle.iom_table_survey.proofs.frame_row.FrameRow.union.Goals as goal

pub loop-index-preserved : goal.loop-index-preserved
loop-index-preserved c =
    let i = c.loop-index.invariant in
    let now = c.loop-index.self-inside.words in
    let more = union_next c.self.inside.words c.other.inside.words now c.loop-index.index i.long c.loop-index-test.true i.done i.left in
    record { long = length-set now c.loop-index.index _ ∙ i.long; done = more.0; left = more.1 }

pub returns : goal.returns
returns c =
    let i = c.loop-index.invariant in
    subst (λ o. GrowsBy c.args.self.now c.loop-index.self-inside.words (λ f. row_has o f ≡ true)) c.other.view_is
    (union_of c.args.self.now c.self.inside.words c.other.inside.words c.loop-index.self-inside.words c.self.view_is (λ k within. i.done k (omega arith)))
