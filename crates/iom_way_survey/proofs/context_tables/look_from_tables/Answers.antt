use Rattle.std.proofs.Common.{true}
use Rattle.iom_board.specs.BoardParts.{board_parts}
use Rattle.iom_table_survey.proofs.AddLemmas.{of_none}
use Rattle.iom_table_survey.specs.Reaches.{frames_by}
use Rattle.iom_way_survey.specs.Along.{SharesSpace}
use Rattle.iom_way_survey.specs.Found.{HaveLeafIn}
use Rattle.iom_way_survey.proofs.GrowLemmas.{grew_by_all}
use Rattle.iom_way_survey.proofs.context_tables.look_from_tables.Goals as goal

pub returns-clause-rows : goal.returns-clause-rows
returns-clause-rows c =
    grew_by_all c.args.rows.now c.widen_rows.new.rows c.survey_stages.new.reach (HaveLeafIn true c.args.hardware.now.memory c.args.context.now.first_stage c.args.context.now.second_stage)
    (SharesSpace (board_parts c.args.hardware.now) c.args.space) c.widen_rows.ensures
    (λ kind. of_none (frames_by c.new-reach.result kind) (frames_by c.survey_stages.new.reach kind)
    (HaveLeafIn true c.args.hardware.now.memory c.args.context.now.first_stage c.args.context.now.second_stage kind)
    (c.new-reach.ensures kind) (c.survey_stages.ensures.leaves kind))
