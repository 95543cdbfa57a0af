use Rattle.std.proofs.Common.{refl, option_map}
use Rattle.iom_base.specs.declared.access.AccessKind.{AccessKind}
use Rattle.iom_board.specs.BoardParts.{board_parts}
use Rattle.iom_table_survey.specs.Reaches.{frames_by}
use Rattle.iom_table_survey.proofs.AddLemmas.{of_none}
use Rattle.iom_way_survey.specs.Found.{WayOf}
use Rattle.iom_way_survey.specs.Surveys.{rows_in}
use Rattle.iom_way_survey.proofs.survey.survey_one.Goals as goal

pub returns : goal.returns
returns c = record {
  row = record {
    id = refl;
    is_trusted = c.is_among.ensures;
    reach = λ (kind : AccessKind). of_none (frames_by c.new-reach.result kind) (frames_by c.survey_device.new.reach kind) (WayOf (board_parts c.args.hardware.now) (rows_in (option_map (λ w. w.now) c.args.walks)) c.args.device.now kind)
        (c.new-reach.ensures kind) (c.survey_device.ensures.reached kind);
  };
  tables = c.survey_device.ensures.tables;
}
