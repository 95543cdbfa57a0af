use Rattle.iom_board.specs.BoardParts.{board_parts}
use Rattle.iom_table_survey.proofs.AddLemmas.{of_none}
use Rattle.iom_table_survey.specs.Reaches.{frames_by}
use Rattle.iom_way_survey.specs.Along.{IsMappedAlong, SharesSpace}
use Rattle.iom_way_survey.proofs.GrowLemmas.{grew_by_all}
use Rattle.iom_way_survey.proofs.along.look_along_one.Goals as goal

pub returns-clause-rows : goal.returns-clause-rows
returns-clause-rows c =
    grew_by_all c.args.rows.now c.widen_rows.new.rows c.survey_along.new.reach (IsMappedAlong c.args.napot c.args.hardware.now.memory c.args.pointer)
    (SharesSpace (board_parts c.args.hardware.now) c.args.pointer.space) c.widen_rows.ensures
    (λ kind. of_none (frames_by c.new-reach.result kind) (frames_by c.survey_along.new.reach kind) (IsMappedAlong c.args.napot c.args.hardware.now.memory c.args.pointer kind)
    (c.new-reach.ensures kind) (c.survey_along.ensures.leaves kind))
