use Rattle.iom_table_survey.proofs.RowLemmas.{inserts}
use Rattle.iom_table_survey.proofs.frame_row.FrameRow.insert.Goals as goal

pub returns : goal.returns
returns c =
    inserts c.args.self.now c.self.inside.words c.args.frame c.place_of-place.result c.with_bit.result c.self.view_is c.place_of-place.ensures c.self.invariant
    c.with_bit.ensures.set c.with_bit.ensures.others
