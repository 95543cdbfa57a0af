-- Hardware as a session shows it.
use Rattle.std.specs.Prelude.{Bool, false, List, Option, None, Some}
use Rattle.iom_block_devices.specs.Shown.{ShownBlocks}
use Rattle.iom_board.specs.declared.board.Board.{Board}
use Rattle.iom_hardware.specs.Inside.{inside}
use Rattle.iom_hardware.specs.declared.hardware.Hardware.{Hardware}
use Rattle.iom_hardware_session.specs.declared.beside.Beside.{Beside}
use Rattle.iom_hardware_session.specs.declared.beside.Beside.TheVariants.{Nothing, UnderWay, Pointers}
use Rattle.iom_hardware_session.specs.declared.state.Session.{Session}
use Rattle.iom_pointers.specs.declared.features.Features.{Features}
use Rattle.iom_pointers.specs.declared.pointer.Pointer.{Pointer}
use Rattle.iom_virtio_blk.specs.MemoryDisks.{disk_state}
use Rattle.iom_virtio_blk.specs.declared.disk.Disk.{Ghosts}
use Rattle.iom_virtio_blk.specs.declared.memory_disk.MemoryDisk.{MemoryDisk}
use Rattle.iom_walks.specs.Walks.{WalkRow}

-- the board, what is inside its block devices, and what hardware keeps beside them
pub record ShownHardware : Type 0 where
  pub board : Board
  pub inside : ShownBlocks
  pub beside : Beside

-- hardware, with this beside it
abbrev pub shown_beside : {d : Ghosts MemoryDisk} → Beside → Hardware MemoryDisk d → ShownHardware
shown_beside beside hardware = record { board = hardware.board; inside = inside disk_state hardware; beside = beside }

abbrev pub shown_in : Session → ShownHardware
shown_in session = shown_beside session.beside session.hardware

-- the requests that are under way, where a walk takes several events
abbrev pub walks_in : Beside → Option (List WalkRow)
walks_in Nothing = None
walks_in (UnderWay rows) = Some rows
walks_in (Pointers features pointers) = None

-- the pointers to tables that are cached, where hardware caches any
abbrev pub pointers_in : Beside → Option (List Pointer)
pointers_in Nothing = None
pointers_in (UnderWay rows) = None
pointers_in (Pointers features pointers) = Some pointers

-- what its walks do beside those of the model's own IOMMU, where requests are walked ahead
abbrev pub features_in : Beside → Option Features
features_in Nothing = None
features_in (UnderWay rows) = None
features_in (Pointers features pointers) = Some features

-- whether walks know leaves of 64 KiB
abbrev pub knows_napot : Beside → Bool
knows_napot Nothing = false
knows_napot (UnderWay rows) = false
knows_napot (Pointers features pointers) = features.napot
