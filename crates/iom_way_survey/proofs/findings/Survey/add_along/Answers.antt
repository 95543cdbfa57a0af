use Rattle.std.proofs.Common.{◌∙◌, List, refl, subst, sym}
use Rattle.std.proofs.lemmas.List.{with_items_is}
use Rattle.iom_board.specs.BoardParts.{board_parts}
use Rattle.iom_way_survey.specs.Along.{IsReachedBeside, RowsGrow}
use Rattle.iom_way_survey.specs.declared.findings.DeviceReach.{DeviceReach}
use Rattle.iom_way_survey.proofs.AlongLemmas.{invented_along, missed_along, rows_kept}
use Rattle.iom_way_survey.proofs.findings.Survey.add_along.Goals as goal

pub returns-clause-looks : goal.returns-clause-looks
returns-clause-looks c =
    let rows = c.look_beside.new.rows in
    let grows = c.look_beside.ensures.rows in
    let written = with_items_is c.args.self.now.devices rows (grows.long ∙ c.deref_mut.ensures.len) in
    record {
      devices = subst (λ (new : List DeviceReach). RowsGrow c.args.self.now.devices.items new (IsReachedBeside c.args.napot (board_parts c.args.hardware.now) c.args.pointers.now)) (sym written)
          (subst (λ (old : List DeviceReach). RowsGrow old rows (IsReachedBeside c.args.napot (board_parts c.args.hardware.now) c.args.pointers.now)) c.deref_mut.ensures.value grows);
      read = c.look_beside.ensures.tables;
      stored = refl;
    }

pub returns-clause-rows : goal.returns-clause-rows
returns-clause-rows c = λ trusted.
    rows_kept c.args.napot trusted (board_parts c.args.hardware.now) c.args.pointers.now c.pointer_law.ensures.ways c.pointer_law.ensures.tables c.args.self.now _ (returns-clause-looks c)

pub returns-clause-missed : goal.returns-clause-missed
returns-clause-missed c = λ trusted.
    missed_along c.args.napot trusted (board_parts c.args.hardware.now) c.args.pointers.now c.pointer_law.ensures.ways c.pointer_law.ensures.tables c.args.self.now _ (returns-clause-looks c)

pub returns-clause-invented : goal.returns-clause-invented
returns-clause-invented c = λ trusted.
    invented_along c.args.napot trusted (board_parts c.args.hardware.now) c.args.pointers.now c.pointer_law.ensures.ways c.pointer_law.ensures.tables c.args.self.now _ (returns-clause-looks c)
