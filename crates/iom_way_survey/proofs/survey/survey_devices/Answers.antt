use Rattle.std.proofs.Common.{◌≡◌, ◌<◌, ℕ, length, slice_get, Some, subst, arith, option_map}
use Rattle.iom_device.specs.declared.device.Device.{Device}
use Rattle.iom_board.specs.BoardParts.{board_parts}
use Rattle.iom_table_survey.specs.Rows.{GrowsBy}
use Rattle.iom_table_survey.proofs.AddLemmas.{adds_none_yet, adds_next}
use Rattle.iom_way_survey.specs.Found.{TablesOfDevice}
use Rattle.iom_way_survey.specs.Surveys.{rows_in, HaveRows}
use Rattle.iom_way_survey.proofs.StepLemmas.{adds_there}
use Rattle.iom_way_survey.proofs.RowLemmas.{pushed_items, no_rows, one_more_row}
use Rattle.iom_way_survey.proofs.survey.survey_devices.Goals as goal

pub loop-place-init : goal.loop-place-init
loop-place-init c = record {
  rows = no_rows (board_parts c.args.hardware.now) (rows_in (option_map (λ w. w.now) c.args.walks)) c.args.trusted.now c.args.rows.now.items c.requires.empty;
  tables = adds_none_yet c.args.read.now (λ k f. (device : Device) × (slice_get c.args.hardware.now.devices.items k ≡ Some device) × TablesOfDevice (board_parts c.args.hardware.now) (rows_in (option_map (λ w. w.now) c.args.walks)) device.id f);
  room = c.requires.room;
}

pub loop-place-preserved : goal.loop-place-preserved
loop-place-preserved c =
    let parts = board_parts c.args.hardware.now in
    let devices = c.args.hardware.now.devices.items in
    let here = c.device_at-device.ensures in
    let items = pushed_items _ _ _ c.push.result c.unwrap.result c.unwrap.ensures c.push.ensures.items in
    record {
      rows = one_more_row parts (rows_in (option_map (λ w. w.now) c.args.walks)) c.args.trusted.now c.loop-place.rows.items c.push.new.self.items c.loop-place.place c.survey_one-row.result c.device_at-device.result.now c.loop-place.invariant.rows
          here c.survey_one-row.ensures.row items;
      tables = adds_next c.args.read.now c.loop-place.read c.survey_one-row.new.read (λ k f. (device : Device) × (slice_get devices k ≡ Some device) × TablesOfDevice parts (rows_in (option_map (λ w. w.now) c.args.walks)) device.id f) c.loop-place.place c.loop-place.invariant.tables
          (adds_there devices c.loop-place.place c.device_at-device.result.now here c.loop-place.read c.survey_one-row.new.read (λ device. TablesOfDevice parts (rows_in (option_map (λ w. w.now) c.args.walks)) device.id) c.survey_one-row.ensures.tables);
      room = omega (arith, c.loop-place.invariant.room, c.push.ensures.capacity);
    }

pub returns : goal.returns
returns c =
    let parts = board_parts c.args.hardware.now in
    let devices = c.args.hardware.now.devices.items in
    let last : c.loop-place.place ≡ length devices = omega arith in
    record {
      rows = subst (λ (n : ℕ). HaveRows parts (rows_in (option_map (λ w. w.now) c.args.walks)) c.args.trusted.now c.loop-place.rows.items n) last c.loop-place.invariant.rows;
      tables = subst (λ (n : ℕ). GrowsBy c.args.read.now c.loop-place.read (λ f. (k : ℕ) × (k < n) × ((device : Device) × (slice_get devices k ≡ Some device) × TablesOfDevice parts (rows_in (option_map (λ w. w.now) c.args.walks)) device.id f))) last c.loop-place.invariant.tables;
      room = c.loop-place.invariant.room;
    }
