use Rattle.std.proofs.Common.{◌≡◌, ◌<◌, ◌≤◌, ℕ, slice_get, Some, option_map}
use Rattle.std.specs.Prelude.{vec_capacity}
use Rattle.iom_device.specs.declared.device.Device.{Device}
use Rattle.iom_board.specs.BoardParts.{board_parts}
use Rattle.iom_table_survey.specs.Rows.{GrowsBy}
use Rattle.iom_way_survey.specs.Found.{TablesOfDevice}
use Rattle.iom_way_survey.specs.Surveys.{rows_in, HaveRows}
use Rattle.iom_way_survey.proofs.survey.survey_devices.Given as goal

-- the devices before this one have their rows
abbrev pub invariant-loop-place : goal.invariant-loop-place
invariant-loop-place l = record {
  rows : HaveRows (board_parts l.hardware) (rows_in (option_map (λ w. w.now) l.walks)) l.trusted l.rows.items l.place;
  tables : GrowsBy l.fn.read l.read (λ f. (k : ℕ) × (k < l.place) × ((device : Device) × (slice_get l.hardware.devices.items k ≡ Some device) × TablesOfDevice (board_parts l.hardware) (rows_in (option_map (λ w. w.now) l.walks)) device.id f));
  room : 16 ≤ vec_capacity l.rows;
}
