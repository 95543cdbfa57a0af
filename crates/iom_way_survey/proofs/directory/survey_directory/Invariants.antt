use Rattle.std.proofs.Common.{◌≡◌, ◌<◌, ℕ, slice_get, Some, option_map}
use Rattle.iom_device.specs.declared.device.Device.{Device}
use Rattle.iom_table_survey.specs.Rows.{GrowsBy}
use Rattle.iom_way_survey.specs.Directories.{PathsRead}
use Rattle.iom_way_survey.specs.Surveys.{rows_in}
use Rattle.iom_way_survey.proofs.directory.survey_directory.Given as goal

-- the paths of the devices before this one are in
abbrev pub invariant-loop-place : goal.invariant-loop-place
invariant-loop-place l =
    GrowsBy l.fn.read l.read (λ f. (k : ℕ) × (k < l.place) × ((device : Device) × (slice_get l.hardware.devices.items k ≡ Some device) × PathsRead l.hardware.memory l.mode l.root.number (rows_in (option_map (λ w. w.now) l.walks)) device.id f))
