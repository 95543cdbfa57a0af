-- Who asks for an access: a device at an event of its own, or a block device at a step.
use Rattle.std.specs.Prelude.{Bool}
use Rattle.iom_base.specs.declared.device_kind.DeviceKind.{DeviceKind}
use Rattle.iom_base.specs.DeviceKinds.{is_block_device, sends_untranslated, sends_through_cache}
use Rattle.iom_board.specs.declared.sender.Sender.{Sender}
use Rattle.iom_board.specs.declared.sender.Sender.TheVariants.{Own, Step}

-- the kinds of devices that send requests which the IOMMU translates
abbrev pub untranslated_by : Sender → DeviceKind → Bool
untranslated_by Own = sends_untranslated
untranslated_by Step = is_block_device

-- the kinds that send them through a cache of their own
abbrev pub cached_by : Sender → DeviceKind → Bool
cached_by Own = sends_through_cache
cached_by Step = is_block_device
