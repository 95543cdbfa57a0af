use Rattle.std.proofs.Common.{sym, subst, option_map}
use Rattle.iom_board.specs.BoardParts.{board_parts}
use Rattle.iom_table_survey.specs.Reaches.{AddsReach}
use Rattle.iom_table_survey.specs.Rows.{GrowsBy}
use Rattle.iom_table_survey.proofs.AddLemmas.{reach_then}
use Rattle.iom_way_survey.specs.Found.{space_of_context, ByAts, ThroughSpace, TablesThrough, ThroughFound, TablesFound}
use Rattle.iom_way_survey.specs.Surveys.{rows_in}
use Rattle.iom_way_survey.proofs.devices.survey_through.Goals as goal

pub returns-in-Some : goal.returns-in-Some
returns-in-Some c =
    let parts = board_parts c.args.hardware.now in
    let own = c.in-Some.context in
    record {
      tables = subst (λ o. GrowsBy c.args.tables.now c.survey_by_space.new.tables (TablesFound parts (rows_in (option_map (λ w. w.now) c.args.walks)) o)) (sym c.in-Some.is)
          (subst (λ s. GrowsBy c.args.tables.now c.survey_by_space.new.tables (TablesThrough parts (rows_in (option_map (λ w. w.now) c.args.walks)) s)) c.space_of.ensures c.survey_by_space.ensures.tables);
      reached = subst (λ o. AddsReach c.args.reach.now c.survey_by_space.new.reach (ThroughFound parts (rows_in (option_map (λ w. w.now) c.args.walks)) c.args.device.now o)) (sym c.in-Some.is)
          (reach_then c.args.reach.now c.survey_by_ats.new.reach c.survey_by_space.new.reach (ByAts parts.fabric c.args.device.now own.en_ats) (ThroughSpace parts (rows_in (option_map (λ w. w.now) c.args.walks)) (space_of_context own)) c.survey_by_ats.ensures
          (subst (λ s. AddsReach c.survey_by_ats.new.reach c.survey_by_space.new.reach (ThroughSpace parts (rows_in (option_map (λ w. w.now) c.args.walks)) s)) c.space_of.ensures c.survey_by_space.ensures.reached));
    }
