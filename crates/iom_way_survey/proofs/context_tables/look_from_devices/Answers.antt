use Rattle.std.proofs.Common.{◌≡◌, ◌<◌, ℕ, length, slice_get, Some, subst, arith}
use Rattle.iom_board.specs.BoardParts.{board_parts}
use Rattle.iom_device.specs.declared.device.Device.{Device}
use Rattle.iom_table_survey.specs.Rows.{GrowsBy}
use Rattle.iom_table_survey.proofs.AddLemmas.{adds_none_yet, adds_next}
use Rattle.iom_way_survey.specs.Along.{IsReachedOf, IsTableOf, RowsGrow}
use Rattle.iom_way_survey.proofs.GrowLemmas.{grew_none_yet, grew_next, grew_there}
use Rattle.iom_way_survey.proofs.StepLemmas.{adds_there}
use Rattle.iom_way_survey.proofs.context_tables.look_from_devices.Goals as goal

pub loop-place-init : goal.loop-place-init
loop-place-init c =
    let parts = board_parts c.args.hardware.now in
    let devices = c.args.hardware.now.devices.items in
    record {
      rows = grew_none_yet c.args.rows.now (λ k id kind f. (finder : Device) × (slice_get devices k ≡ Some finder) × IsReachedOf parts finder id kind f);
      tables = adds_none_yet c.args.read.now (λ k f. (finder : Device) × (slice_get devices k ≡ Some finder) × IsTableOf parts finder f);
    }

pub loop-place-preserved : goal.loop-place-preserved
loop-place-preserved c =
    let parts = board_parts c.args.hardware.now in
    let devices = c.args.hardware.now.devices.items in
    let place = c.loop-place.place in
    let own = c.device_at-device.result.now in
    let here = c.device_at-device.ensures in
    record {
      rows = grew_next c.args.rows.now c.loop-place.rows c.look_from_contexts.new.rows
          (λ k id kind f. (finder : Device) × (slice_get devices k ≡ Some finder) × IsReachedOf parts finder id kind f) place c.loop-place.invariant.rows
          (grew_there devices place own c.loop-place.rows c.look_from_contexts.new.rows (IsReachedOf parts) here c.look_from_contexts.ensures.rows);
      tables = adds_next c.args.read.now c.loop-place.read c.look_from_contexts.new.read
          (λ k f. (finder : Device) × (slice_get devices k ≡ Some finder) × IsTableOf parts finder f) place c.loop-place.invariant.tables
          (adds_there devices place own here c.loop-place.read c.look_from_contexts.new.read (IsTableOf parts) c.look_from_contexts.ensures.tables);
    }

pub returns : goal.returns
returns c =
    let parts = board_parts c.args.hardware.now in
    let devices = c.args.hardware.now.devices.items in
    let last : c.loop-place.place ≡ length devices = omega arith in
    record {
      rows = subst (λ (n : ℕ). RowsGrow c.args.rows.now c.loop-place.rows (λ id kind f. (k : ℕ) × (k < n) × ((finder : Device) × (slice_get devices k ≡ Some finder)
          × IsReachedOf parts finder id kind f))) last c.loop-place.invariant.rows;
      tables = subst (λ (n : ℕ). GrowsBy c.args.read.now c.loop-place.read (λ f. (k : ℕ) × (k < n) × ((finder : Device) × (slice_get devices k ≡ Some finder)
          × IsTableOf parts finder f))) last c.loop-place.invariant.tables;
    }
