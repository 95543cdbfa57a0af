use Rattle.std.proofs.Common.{Option, inr, subst, option_map}
use Rattle.iom_board.specs.BoardParts.{board_parts}
use Rattle.iom_stepped_requests.specs.declared.walk.Serving.{Serving}
use Rattle.iom_table_survey.specs.Reaches.{AddsReach}
use Rattle.iom_table_survey.specs.Rows.{GrowsBy}
use Rattle.iom_way_survey.specs.Found.{FoundTable, FoundLeaf, IsBeside, LookedUpTable, LookedUpLeaf, stored_found}
use Rattle.iom_way_survey.specs.Walking.{serving_of, sought_by, SpaceReads, SpaceLeads}
use Rattle.iom_way_survey.proofs.StepLemmas.{adds_third, beside_adds, beside_reaches, reach_third}
use Rattle.iom_way_survey.specs.Surveys.{rows_in}
use Rattle.iom_way_survey.proofs.spaces.survey_device_tables.Goals as goal

pub returns : goal.returns
returns c =
    let parts = board_parts c.args.hardware.now in
    let memory = c.args.hardware.now.memory in
    let space = c.args.space in
    let id = c.args.id in
    let serving = serving_of (rows_in (option_map (λ w. w.now) c.args.walks)) id in
    let stored = stored_found parts id in
    let sought = sought_by memory serving in
    let beside = c.sought_beside-sought.result in
    let is : IsBeside stored sought beside = subst (λ (o : Option Serving). IsBeside stored (sought_by memory o) beside) c.serving_beside-serving.ensures c.sought_beside-sought.ensures in
    record {
      tables = adds_third c.args.tables.now c.survey_found.new.tables c.survey_kept.new.tables (LookedUpTable parts space id) (FoundTable memory space sought) (SpaceReads memory space serving)
          (beside_adds (FoundTable memory space) (LookedUpTable parts space id) stored sought beside c.args.tables.now c.survey_contexts.new.tables c.survey_found.new.tables
          (λ f never. never) (λ f it. inr it) is c.survey_contexts.ensures.tables c.survey_found.ensures.tables)
          (subst (λ (o : Option Serving). GrowsBy c.survey_found.new.tables c.survey_kept.new.tables (SpaceReads memory space o)) c.serving_beside-serving.ensures c.survey_kept.ensures.tables);
      leaves = reach_third c.args.reach.now c.survey_found.new.reach c.survey_kept.new.reach (LookedUpLeaf parts space id) (FoundLeaf memory space sought) (SpaceLeads memory space serving)
          (beside_reaches (FoundLeaf memory space) (LookedUpLeaf parts space id) stored sought beside c.args.reach.now c.survey_contexts.new.reach c.survey_found.new.reach
          (λ kind f never. never) (λ kind f it. inr it) is c.survey_contexts.ensures.leaves c.survey_found.ensures.leaves)
          (subst (λ (o : Option Serving). AddsReach c.survey_found.new.reach c.survey_kept.new.reach (SpaceLeads memory space o)) c.serving_beside-serving.ensures c.survey_kept.ensures.leaves);
    }
