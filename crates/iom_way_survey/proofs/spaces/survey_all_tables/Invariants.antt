use Rattle.std.proofs.Common.{◌≡◌, ◌<◌, ℕ, slice_get, Some, option_map}
use Rattle.iom_device.specs.declared.device.Device.{Device}
use Rattle.iom_board.specs.BoardParts.{board_parts}
use Rattle.iom_table_survey.specs.Reaches.{AddsReach}
use Rattle.iom_table_survey.specs.Rows.{GrowsBy}
use Rattle.iom_way_survey.specs.Found.{DeviceTable, DeviceLeaf}
use Rattle.iom_way_survey.specs.Surveys.{rows_in}
use Rattle.iom_way_survey.proofs.spaces.survey_all_tables.Given as goal

-- the devices before this one are looked at
abbrev pub invariant-loop-place : goal.invariant-loop-place
invariant-loop-place l = record {
  tables : GrowsBy l.fn.tables l.tables (λ f. (k : ℕ) × (k < l.place) × ((device : Device) × (slice_get l.hardware.devices.items k ≡ Some device) × DeviceTable (board_parts l.hardware) (rows_in (option_map (λ w. w.now) l.walks)) l.space device.id f));
  leaves : AddsReach l.fn.reach l.reach (λ kind f. (k : ℕ) × (k < l.place) × ((device : Device) × (slice_get l.hardware.devices.items k ≡ Some device) × DeviceLeaf (board_parts l.hardware) (rows_in (option_map (λ w. w.now) l.walks)) l.space device.id kind f));
}
