use Rattle.std.proofs.Common.{Option, inr, subst, option_map}
use Rattle.iom_board.specs.BoardParts.{board_parts}
use Rattle.iom_stepped_requests.specs.declared.walk.Serving.{Serving}
use Rattle.iom_table_survey.specs.Reaches.{AddsReach}
use Rattle.iom_table_survey.specs.Rows.{GrowsBy}
use Rattle.iom_way_survey.specs.Found.{IsBeside, LookedUpWay, TablesFound, TablesLookedUp, ThroughFound, stored_found}
use Rattle.iom_way_survey.specs.Walking.{serving_of, sought_by, RequestReads, RequestLeads}
use Rattle.iom_way_survey.proofs.StepLemmas.{adds_third, beside_adds, beside_reaches, reach_third}
use Rattle.iom_way_survey.specs.Surveys.{rows_in}
use Rattle.iom_way_survey.proofs.devices.survey_device.Goals as goal

pub returns : goal.returns
returns c =
    let parts = board_parts c.args.hardware.now in
    let memory = c.args.hardware.now.memory in
    let walks = rows_in (option_map (λ w. w.now) c.args.walks) in
    let device = c.args.device.now in
    let serving = serving_of walks device.id in
    let stored = stored_found parts device.id in
    let sought = sought_by memory serving in
    let beside = c.sought_beside-sought.result in
    let is : IsBeside stored sought beside = subst (λ (o : Option Serving). IsBeside stored (sought_by memory o) beside) c.serving_beside-serving.ensures c.sought_beside-sought.ensures in
    record {
      tables = adds_third c.args.tables.now c.survey_through.new.tables c.survey_request.new.tables (TablesLookedUp parts walks device.id) (TablesFound parts walks sought) (RequestReads memory serving)
          (beside_adds (TablesFound parts walks) (TablesLookedUp parts walks device.id) stored sought beside c.args.tables.now c.survey_looked_up.new.tables c.survey_through.new.tables
          (λ f never. never) (λ f it. inr it) is c.survey_looked_up.ensures.tables c.survey_through.ensures.tables)
          (subst (λ (o : Option Serving). GrowsBy c.survey_through.new.tables c.survey_request.new.tables (RequestReads memory o)) c.serving_beside-serving.ensures c.survey_request.ensures.tables);
      reached = reach_third c.args.reach.now c.survey_through.new.reach c.survey_request.new.reach (LookedUpWay parts walks device) (ThroughFound parts walks device sought) (RequestLeads memory serving)
          (beside_reaches (ThroughFound parts walks device) (LookedUpWay parts walks device) stored sought beside c.args.reach.now c.survey_looked_up.new.reach c.survey_through.new.reach
          (λ kind f never. never) (λ kind f it. inr it) is c.survey_looked_up.ensures.reached c.survey_through.ensures.reached)
          (subst (λ (o : Option Serving). AddsReach c.survey_through.new.reach c.survey_request.new.reach (RequestLeads memory o)) c.serving_beside-serving.ensures c.survey_request.ensures.leaves);
    }
