use Rattle.std.proofs.Common.{◌≡◌, ◌⊎◌, ◌∙◌, inr, Option, subst, ap, option_map}
use Rattle.iom_device_dir.specs.declared.context.Context.{Context as DeviceContext}
use Rattle.iom_board.specs.BoardParts.{board_parts}
use Rattle.iom_registers.specs.Queues.{directory_mode}
use Rattle.iom_registers.specs.declared.directory.DirectoryMode.{DirectoryMode}
use Rattle.iom_registers.specs.declared.directory.DirectoryMode.TheVariants.{Bare}
use Rattle.iom_table_survey.specs.Reaches.{AddsReach}
use Rattle.iom_table_survey.specs.Rows.{GrowsBy}
use Rattle.iom_table_survey.proofs.AddLemmas.{reach_then}
use Rattle.iom_way_survey.specs.Found.{cached_found, stored_found, ThroughFound, TablesFound, IsAccepted, IsModeBare, IsBeside}
use Rattle.iom_way_survey.proofs.StepLemmas.{beside_adds, beside_reaches}
use Rattle.iom_way_survey.specs.Surveys.{rows_in}
use Rattle.iom_way_survey.proofs.devices.survey_looked_up.Goals as goal

pub returns : goal.returns
returns c =
    let parts = board_parts c.args.hardware.now in
    let walks = rows_in (option_map (λ w. w.now) c.args.walks) in
    let device = c.args.device.now in
    let start = c.args.reach.now in
    let one = c.survey_accepted.new.reach in
    let two = c.survey_bare.new.reach in
    let three = c.survey_through.new.reach in
    let four = c.survey_through-2.new.reach in
    let cached : Option DeviceContext = cached_found parts device.id in
    let stored : Option DeviceContext = stored_found parts device.id in
    let beside : Option DeviceContext = c.stored_beside-beside.result in
    let is : IsBeside cached stored beside = subst (λ o. IsBeside o stored beside) c.cached_in-cached.ensures c.stored_beside-beside.ensures in
    record {
      tables = beside_adds (TablesFound parts walks) (TablesFound parts walks cached) cached stored beside c.args.tables.now c.survey_through.new.tables c.survey_through-2.new.tables (λ f never. never)
          (λ f it. it) is (subst (λ o. GrowsBy c.args.tables.now c.survey_through.new.tables (TablesFound parts walks o)) c.cached_in-cached.ensures c.survey_through.ensures.tables)
          c.survey_through-2.ensures.tables;
      reached = beside_reaches (ThroughFound parts walks device) (λ kind f. (IsAccepted parts walks device.id kind f ⊎ IsModeBare parts) ⊎ ThroughFound parts walks device cached kind f) cached stored beside start three four
          (λ kind f never. never) (λ kind f it. inr it) is
          (reach_then start two three (λ kind f. IsAccepted parts walks device.id kind f ⊎ IsModeBare parts) (ThroughFound parts walks device cached)
          (reach_then start one two (IsAccepted parts walks device.id) (λ kind f. IsModeBare parts) c.survey_accepted.ensures
          (subst (λ (m : DirectoryMode). AddsReach one two (λ kind f. m ≡ Bare)) (c.directory_mode.ensures ∙ ap directory_mode c.registers.ensures) c.survey_bare.ensures))
          (subst (λ o. AddsReach two three (ThroughFound parts walks device o)) c.cached_in-cached.ensures c.survey_through.ensures.reached))
          c.survey_through-2.ensures.reached;
    }
