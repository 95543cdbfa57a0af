use Rattle.std.proofs.Common.{Option, subst}
use Rattle.iom_device_dir.specs.declared.context.Context.{Context as DeviceContext}
use Rattle.iom_board.specs.BoardParts.{board_parts}
use Rattle.iom_table_survey.specs.Reaches.{AddsReach}
use Rattle.iom_table_survey.specs.Rows.{GrowsBy}
use Rattle.iom_way_survey.specs.Found.{FoundTable, FoundLeaf, IsBeside, cached_found, stored_found}
use Rattle.iom_way_survey.proofs.StepLemmas.{beside_adds, beside_reaches}
use Rattle.iom_way_survey.proofs.spaces.survey_contexts.Goals as goal

pub returns : goal.returns
returns c =
    let parts = board_parts c.args.hardware.now in
    let memory = c.args.hardware.now.memory in
    let cached : Option DeviceContext = cached_found parts c.args.id in
    let stored : Option DeviceContext = stored_found parts c.args.id in
    let beside : Option DeviceContext = c.stored_beside-beside.result in
    let is : IsBeside cached stored beside = subst (λ o. IsBeside o stored beside) c.cached_in-cached.ensures c.stored_beside-beside.ensures in
    record {
      tables = beside_adds (FoundTable memory c.args.space) (FoundTable memory c.args.space cached) cached stored beside c.args.tables.now c.survey_found.new.tables c.survey_found-2.new.tables
          (λ f never. never) (λ f it. it) is
          (subst (λ o. GrowsBy c.args.tables.now c.survey_found.new.tables (FoundTable memory c.args.space o)) c.cached_in-cached.ensures c.survey_found.ensures.tables) c.survey_found-2.ensures.tables;
      leaves = beside_reaches (FoundLeaf memory c.args.space) (FoundLeaf memory c.args.space cached) cached stored beside c.args.reach.now c.survey_found.new.reach c.survey_found-2.new.reach
          (λ kind f never. never) (λ kind f it. it) is
          (subst (λ o. AddsReach c.args.reach.now c.survey_found.new.reach (FoundLeaf memory c.args.space o)) c.cached_in-cached.ensures c.survey_found.ensures.leaves) c.survey_found-2.ensures.leaves;
    }
