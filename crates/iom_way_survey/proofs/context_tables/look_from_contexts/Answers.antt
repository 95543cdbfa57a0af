use Rattle.std.proofs.Common.{Option, subst}
use Rattle.iom_board.specs.BoardParts.{board_parts}
use Rattle.iom_device_dir.specs.declared.context.Context.{Context as DeviceContext}
use Rattle.iom_table_survey.specs.Rows.{GrowsBy}
use Rattle.iom_way_survey.specs.Along.{IsReachedFound, IsTableFound, RowsGrow}
use Rattle.iom_way_survey.specs.Found.{IsBeside, cached_found, stored_found}
use Rattle.iom_way_survey.proofs.GrowLemmas.{beside_grew}
use Rattle.iom_way_survey.proofs.StepLemmas.{beside_adds}
use Rattle.iom_way_survey.proofs.context_tables.look_from_contexts.Goals as goal

pub returns : goal.returns
returns c =
    let parts = board_parts c.args.hardware.now in
    let id = c.args.device.now.id in
    let cached : Option DeviceContext = cached_found parts id in
    let stored : Option DeviceContext = stored_found parts id in
    let beside : Option DeviceContext = c.stored_beside-beside.result in
    let is : IsBeside cached stored beside = subst (λ o. IsBeside o stored beside) c.cached_in-cached.ensures c.stored_beside-beside.ensures in
    record {
      rows = beside_grew (IsReachedFound parts) cached stored beside c.args.rows.now c.look_from_found.new.rows c.look_from_found-2.new.rows (λ id kind f (own, never, shares). never) is
          (subst (λ o. RowsGrow c.args.rows.now c.look_from_found.new.rows (IsReachedFound parts o)) c.cached_in-cached.ensures c.look_from_found.ensures.rows)
          c.look_from_found-2.ensures.rows;
      tables = beside_adds (IsTableFound parts.memory) (IsTableFound parts.memory cached) cached stored beside c.args.read.now c.look_from_found.new.read c.look_from_found-2.new.read
          (λ f (own, never). never) (λ f it. it) is
          (subst (λ o. GrowsBy c.args.read.now c.look_from_found.new.read (IsTableFound parts.memory o)) c.cached_in-cached.ensures c.look_from_found.ensures.tables)
          c.look_from_found-2.ensures.tables;
    }
