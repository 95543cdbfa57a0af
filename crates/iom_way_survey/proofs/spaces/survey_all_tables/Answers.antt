use Rattle.std.proofs.Common.{◌≡◌, ◌<◌, ℕ, length, slice_get, Some, subst, arith, option_map}
use Rattle.iom_device.specs.declared.device.Device.{Device}
use Rattle.iom_board.specs.BoardParts.{board_parts}
use Rattle.iom_table_survey.specs.Reaches.{AddsReach}
use Rattle.iom_table_survey.specs.Rows.{GrowsBy}
use Rattle.iom_table_survey.proofs.AddLemmas.{adds_none_yet, adds_next, reach_none_yet, reach_next}
use Rattle.iom_way_survey.specs.Found.{DeviceTable, DeviceLeaf}
use Rattle.iom_way_survey.proofs.StepLemmas.{adds_there, reach_there}
use Rattle.iom_way_survey.specs.Surveys.{rows_in}
use Rattle.iom_way_survey.proofs.spaces.survey_all_tables.Goals as goal

pub loop-place-init : goal.loop-place-init
loop-place-init c = record {
  tables = adds_none_yet c.args.tables.now (λ k f. (device : Device) × (slice_get c.args.hardware.now.devices.items k ≡ Some device) × DeviceTable (board_parts c.args.hardware.now) (rows_in (option_map (λ w. w.now) c.args.walks)) c.args.space device.id f);
  leaves = reach_none_yet c.args.reach.now (λ k kind f. (device : Device) × (slice_get c.args.hardware.now.devices.items k ≡ Some device) × DeviceLeaf (board_parts c.args.hardware.now) (rows_in (option_map (λ w. w.now) c.args.walks)) c.args.space device.id kind f);
}

pub loop-place-preserved : goal.loop-place-preserved
loop-place-preserved c =
    let devices = c.args.hardware.now.devices.items in
    let here = c.device_at-device.ensures in
    let own = c.device_at-device.result.now in
    record {
      tables = adds_next c.args.tables.now c.loop-place.tables c.survey_device_tables.new.tables (λ k f. (device : Device) × (slice_get devices k ≡ Some device) × DeviceTable (board_parts c.args.hardware.now) (rows_in (option_map (λ w. w.now) c.args.walks)) c.args.space device.id f)
          c.loop-place.place c.loop-place.invariant.tables
          (adds_there devices c.loop-place.place own here c.loop-place.tables c.survey_device_tables.new.tables (λ device. DeviceTable (board_parts c.args.hardware.now) (rows_in (option_map (λ w. w.now) c.args.walks)) c.args.space device.id) c.survey_device_tables.ensures.tables);
      leaves = reach_next c.args.reach.now c.loop-place.reach c.survey_device_tables.new.reach (λ k kind f. (device : Device) × (slice_get devices k ≡ Some device) × DeviceLeaf (board_parts c.args.hardware.now) (rows_in (option_map (λ w. w.now) c.args.walks)) c.args.space device.id kind f)
          c.loop-place.place c.loop-place.invariant.leaves
          (reach_there devices c.loop-place.place own here c.loop-place.reach c.survey_device_tables.new.reach (λ device. DeviceLeaf (board_parts c.args.hardware.now) (rows_in (option_map (λ w. w.now) c.args.walks)) c.args.space device.id) c.survey_device_tables.ensures.leaves);
    }

pub returns : goal.returns
returns c =
    let devices = c.args.hardware.now.devices.items in
    let last : c.loop-place.place ≡ length devices = omega arith in
    record {
      tables = subst (λ (n : ℕ). GrowsBy c.args.tables.now c.loop-place.tables (λ f. (k : ℕ) × (k < n) × ((device : Device) × (slice_get devices k ≡ Some device) × DeviceTable (board_parts c.args.hardware.now) (rows_in (option_map (λ w. w.now) c.args.walks)) c.args.space device.id f)))
          last c.loop-place.invariant.tables;
      leaves = subst (λ (n : ℕ). AddsReach c.args.reach.now c.loop-place.reach (λ kind f. (k : ℕ) × (k < n) × ((device : Device) × (slice_get devices k ≡ Some device) × DeviceLeaf (board_parts c.args.hardware.now) (rows_in (option_map (λ w. w.now) c.args.walks)) c.args.space device.id kind f)))
          last c.loop-place.invariant.leaves;
    }
