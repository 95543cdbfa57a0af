use Rattle.std.proofs.Common.{◌≡◌, ◌∙◌, length, slice_get, Some, ap, arith, option_map}
use Rattle.iom_device.specs.declared.device.Device.{Device}
use Rattle.iom_iommu.specs.Parts.{registers_of}
use Rattle.iom_registers.specs.Queues.{directory_mode, directory_root}
use Rattle.iom_table_survey.proofs.AddLemmas.{adds_none_yet, adds_next}
use Rattle.iom_way_survey.specs.Directories.{PathsRead}
use Rattle.iom_way_survey.proofs.PathLemmas.{all_paths}
use Rattle.iom_way_survey.proofs.StepLemmas.{adds_there}
use Rattle.iom_way_survey.specs.Surveys.{rows_in}
use Rattle.iom_way_survey.proofs.directory.survey_directory.Goals as goal

pub loop-place-init : goal.loop-place-init
loop-place-init c =
    adds_none_yet c.args.read.now (λ k f. (device : Device) × (slice_get c.args.hardware.now.devices.items k ≡ Some device) × PathsRead c.args.hardware.now.memory c.directory_mode-mode.result c.root_of-root.result.number (rows_in (option_map (λ w. w.now) c.args.walks)) device.id f)

pub loop-place-preserved : goal.loop-place-preserved
loop-place-preserved c =
    let hardware = c.args.hardware.now in
    let mode = c.directory_mode-mode.result in
    let root = c.root_of-root.result.number in
    adds_next c.args.read.now c.loop-place.read c.survey_paths.new.read
    (λ k f. (device : Device) × (slice_get hardware.devices.items k ≡ Some device) × PathsRead hardware.memory mode root (rows_in (option_map (λ w. w.now) c.args.walks)) device.id f) c.loop-place.place c.loop-place.invariant
    (adds_there hardware.devices.items c.loop-place.place c.device_at-device.result.now c.device_at-device.ensures c.loop-place.read c.survey_paths.new.read
    (λ device. PathsRead hardware.memory mode root (rows_in (option_map (λ w. w.now) c.args.walks)) device.id) c.survey_paths.ensures)

pub returns : goal.returns
returns c =
    let hardware = c.args.hardware.now in
    let registers = registers_of hardware.iommu in
    let last : c.loop-place.place ≡ length hardware.devices.items = omega arith in
    let mode : c.directory_mode-mode.result ≡ directory_mode registers = c.directory_mode-mode.ensures ∙ ap directory_mode c.registers-registers.ensures in
    let root : c.root_of-root.result.number ≡ directory_root registers = c.root_of-root.ensures ∙ ap directory_root c.registers-registers.ensures in
    all_paths c.args.read.now c.loop-place.read hardware.memory (rows_in (option_map (λ w. w.now) c.args.walks)) hardware.devices.items c.loop-place.place (length hardware.devices.items) c.directory_mode-mode.result (directory_mode registers)
    c.root_of-root.result.number (directory_root registers) last mode root c.loop-place.invariant
