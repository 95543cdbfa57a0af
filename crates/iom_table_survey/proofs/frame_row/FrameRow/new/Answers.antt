use Rattle.iom_table_survey.proofs.RowLemmas.{empty_has}
use Rattle.iom_table_survey.proofs.frame_row.FrameRow.new.Goals as goal

pub returns : goal.returns
returns c f = empty_has f
