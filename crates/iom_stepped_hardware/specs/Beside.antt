-- What stays true of the requests that are under way beside hardware (virtio 1.2, section 2.7: a block device waits for one access at a time).
use Rattle.std.specs.Prelude.{◌≡◌, ℕ, List, Option, Some}
use Rattle.iom_base.specs.declared.device_kind.DeviceKind.{DeviceKind}
use Rattle.iom_base.specs.declared.device_kind.DeviceKind.TheVariants.{Block}
use Rattle.iom_block_devices.specs.Changes.{block_with}
use Rattle.iom_block_devices.specs.Shown.{ShownBlock}
use Rattle.iom_block_devices.specs.Wanted.{wanted_access}
use Rattle.iom_board.specs.BoardParts.{BoardParts}
use Rattle.iom_device.specs.Caches.{kind_in}
use Rattle.iom_device.specs.declared.device.Device.{Device}
use Rattle.iom_iommu.specs.Requests.{access_of}
use Rattle.iom_stepped_board.specs.Beside.{AreBeside}
use Rattle.iom_virtio_blk.specs.Blocks.{IsAsking, wanted_by}
use Rattle.iom_virtio_blk.specs.declared.front.Front.{Front}
use Rattle.iom_walks.specs.Walks.{UnderWay, WalkRow, row_of}

-- a block device whose request is under way is one without a cache; it hasn't begun another access, and that is the access which it wants
pub record AsksStill (known : Option DeviceKind) (front : Front) (row : WalkRow) (under_way : UnderWay) : Type 0 where
  pub kind : known ≡ Some Block
  pub asking : IsAsking front
  pub wants : wanted_access (wanted_by front) ≡ Some (access_of under_way.request.asked.address under_way.len under_way.request.asked.kind row.bytes)

-- so does each
abbrev pub AskStill : List Device → List ShownBlock → List WalkRow → Type 0
AskStill devices blocks rows =
    (id : ℕ) (block : ShownBlock) (row : WalkRow) (under_way : UnderWay) → block_with blocks id ≡ Some block → row_of rows id ≡ Some row → row.under_way ≡ Some under_way
    → AsksStill (kind_in devices id) block.device.front row under_way

-- they are beside the board, and block devices ask for them
pub record AreBesideHardware (parts : BoardParts) (blocks : List ShownBlock) (rows : List WalkRow) : Type 0 where
  pub board : AreBeside parts rows
  pub asking : AskStill parts.devices blocks rows
