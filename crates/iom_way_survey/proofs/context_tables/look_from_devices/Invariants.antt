use Rattle.std.proofs.Common.{◌≡◌, ◌<◌, ℕ, slice_get, Some}
use Rattle.iom_board.specs.BoardParts.{board_parts}
use Rattle.iom_device.specs.declared.device.Device.{Device}
use Rattle.iom_table_survey.specs.Rows.{GrowsBy}
use Rattle.iom_way_survey.specs.Along.{IsReachedOf, IsTableOf, RowsGrow}
use Rattle.iom_way_survey.proofs.context_tables.look_from_devices.Given as goal

-- the contexts of the devices before this one are looked at
abbrev pub invariant-loop-place : goal.invariant-loop-place
invariant-loop-place l = record {
  rows : RowsGrow l.fn.rows l.rows (λ id kind f. (k : ℕ) × (k < l.place) × ((finder : Device) × (slice_get l.hardware.devices.items k ≡ Some finder) × IsReachedOf (board_parts l.hardware) finder id kind f));
  tables : GrowsBy l.fn.read l.read (λ f. (k : ℕ) × (k < l.place) × ((finder : Device) × (slice_get l.hardware.devices.items k ≡ Some finder) × IsTableOf (board_parts l.hardware) finder f));
}
