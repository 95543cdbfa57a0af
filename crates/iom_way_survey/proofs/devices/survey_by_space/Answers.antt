use Rattle.std.proofs.Common.{Option, subst, sym, option_map}
use Rattle.iom_board.specs.BoardParts.{board_parts}
use Rattle.iom_table_survey.specs.Reaches.{AddsReach}
use Rattle.iom_table_survey.specs.Rows.{GrowsBy}
use Rattle.iom_tlb.specs.declared.space.Space.{Space}
use Rattle.iom_way_survey.specs.Found.{ThroughSpace, TablesThrough}
use Rattle.iom_way_survey.specs.Surveys.{rows_in}
use Rattle.iom_way_survey.proofs.devices.survey_by_space.Goals as goal

pub returns-in-Some : goal.returns-in-Some
returns-in-Some c =
    let parts = board_parts c.args.hardware.now in
    record {
      tables = subst (λ (o : Option Space). GrowsBy c.args.tables.now c.survey_space.new.tables (TablesThrough parts (rows_in (option_map (λ w. w.now) c.args.walks)) o)) (sym c.in-Some.is) c.survey_space.ensures.tables;
      reached = subst (λ (o : Option Space). AddsReach c.args.reach.now c.survey_space.new.reach (ThroughSpace parts (rows_in (option_map (λ w. w.now) c.args.walks)) o)) (sym c.in-Some.is) c.survey_space.ensures.reached;
    }
