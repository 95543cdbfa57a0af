-- What a block device does with a request (virtio 1.2, section 5.2.6).
use Rattle.std.specs.Prelude.{ℕ, ◌+◌, ◌/◌, ◌%◌, Bool, false, ◌==◌, ◌&&◌, nat_le, Option, Some, None, if◌then◌else◌}
use Rattle.iom_virtio_blk.specs.declared.request.RequestStatus.{RequestStatus}
use Rattle.iom_virtio_blk.specs.declared.request.RequestStatus.TheVariants as status
use Rattle.iom_virtio_blk.specs.declared.request.Plan.{Plan}
use Rattle.iom_virtio_blk.specs.declared.request.Plan.TheVariants.{ReadDisk, WriteDisk, FlushDisk, End}

-- VIRTIO_BLK_S_OK, VIRTIO_BLK_S_IOERR, VIRTIO_BLK_S_UNSUPP
abbrev pub status_byte : RequestStatus → ℕ
status_byte status.Ok = 0
status_byte status.IoError = 1
status_byte status.Unsupported = 2

-- the data is whole sectors, none of which lies past the end of the disk; without a disk nothing fits
abbrev pub fits : ℕ → ℕ → Option ℕ → Bool
fits sector bytes None = false
fits sector bytes (Some sectors) = bytes % 512 == 0 && nat_le (sector + bytes / 512) sectors

-- what is done with a request of a type (VIRTIO_BLK_T_IN 0, VIRTIO_BLK_T_OUT 1, VIRTIO_BLK_T_FLUSH 4) from a sector on, by the bytes after the
-- header and before the status, the sectors of the disk, and whether the driver took FLUSH
abbrev pub plan_of : ℕ → ℕ → ℕ → ℕ → Option ℕ → Bool → Plan
plan_of kind sector readable writable sectors flush =
    if kind == 0 then (if fits sector writable sectors then ReadDisk else End status.IoError)
    else (if kind == 1 then (if fits sector readable sectors then WriteDisk else End status.IoError)
    else (if kind == 4 && flush then FlushDisk else End status.Unsupported))
