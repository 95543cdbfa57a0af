use Rattle.iom_table_survey.proofs.RowLemmas.{full_has}
use Rattle.iom_table_survey.proofs.frame_row.FrameRow.full.Goals as goal

pub returns : goal.returns
returns c f = full_has f
