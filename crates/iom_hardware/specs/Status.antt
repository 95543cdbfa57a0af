-- A call of a block device where there is none with the id, and the status of one (virtio 1.2, section 2.1).
use Rattle.std.specs.Prelude.{◌≡◌, ◌⊎◌, ℕ, Option, None, Some, Result, Ok}
use Rattle.iom_base.specs.DeviceKinds.{is_block_device}
use Rattle.iom_base.specs.declared.refusal.Refusal.{Refusal}
use Rattle.iom_block_devices.specs.Shown.{ShownBlock}
use Rattle.iom_board.specs.BoardParts.{BoardParts}
use Rattle.iom_board.specs.ByDevice.{FindsNoDevice, FindsWrongKind}
use Rattle.iom_device.specs.Caches.{IsAble}
use Rattle.iom_virtio_blk.specs.Stages.{device_status}

-- no device has the id, or one of another kind
abbrev pub FindsNoBlock : {A : Type 0} → BoardParts → ℕ → Result A Refusal → BoardParts → Type 0
FindsNoBlock old id answer new = FindsNoDevice old id answer new ⊎ FindsWrongKind is_block_device old id answer new

-- THE STATUS of the block device, if there is one
abbrev pub TellsStatus : Option ShownBlock → BoardParts → ℕ → Result ℕ Refusal → Type 0
TellsStatus None parts id answer = FindsNoBlock parts id answer parts
TellsStatus (Some block) parts id answer = IsAble is_block_device parts.devices id × (answer ≡ Ok (device_status block.device.front.stage))
