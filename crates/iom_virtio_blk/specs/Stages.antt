-- The device status field (virtio 1.2, section 2.1).
use Rattle.std.specs.Prelude.{ℕ, ◌+◌}
use Rattle.iom_virtio_blk.specs.declared.stage.Stage.{Stage}
use Rattle.iom_virtio_blk.specs.declared.stage.Stage.TheVariants.{Reset, FeaturesOk, DriverOk, NeedsReset}

-- ACKNOWLEDGE 1, DRIVER 2, DRIVER_OK 4, FEATURES_OK 8, DEVICE_NEEDS_RESET 64
abbrev pub device_status : Stage → ℕ
device_status Reset = 0
device_status FeaturesOk = 1 + 2 + 8
device_status DriverOk = 1 + 2 + 8 + 4
device_status NeedsReset = 1 + 2 + 8 + 4 + 64
