-- A session's hardware is sound with what is under way beside it; and so hardware is where its board does something and knows the same block devices.
use Rattle.std.proofs.Common.{◌≡◌, ℕ, List, refl}
use Rattle.iom_block_devices.specs.Shown.{ShownBlock}
use Rattle.iom_block_ways.specs.Calls.{AreAllThere}
use Rattle.iom_board.specs.BoardParts.{BoardParts, board_parts}
use Rattle.iom_board.specs.Invariant.{BoardInvariant}
use Rattle.iom_board.specs.declared.board.Board.{Board}
use Rattle.iom_hardware.proofs.AgreementLemmas.{sound_after}
use Rattle.iom_hardware.proofs.BlockThere.{there_able}
use Rattle.iom_hardware.proofs.KeptBlocks.{KeepsKnown}
use Rattle.iom_hardware.specs.Inside.{inside}
use Rattle.iom_hardware.specs.Invariant.{HardwareInvariant}
use Rattle.iom_hardware.specs.declared.hardware.Hardware.{Hardware}
use Rattle.iom_hardware_session.proofs.BesideTurnLemmas.{InvariantBy}
use Rattle.iom_hardware_session.specs.Beside.{AreSoundBeside, WalksAreSound}
use Rattle.iom_hardware_session.specs.declared.beside.Beside.{Beside}
use Rattle.iom_hardware_session.specs.declared.beside.Beside.TheVariants.{Nothing, UnderWay, Pointers}
use Rattle.iom_hardware_session.specs.declared.state.Session.{Session}
use Rattle.iom_stepped_ways.specs.Calls.{SteppedInvariant}
use Rattle.iom_virtio_blk.specs.MemoryDisks.{disk_state}
use Rattle.iom_virtio_blk.specs.declared.disk.Disk.{Ghosts}
use Rattle.iom_virtio_blk.specs.declared.memory_disk.MemoryDisk.{MemoryDisk}
use Rattle.iom_walks.specs.Walks.{WalkRow}

pub hardware_invariant : (session : Session) → HardwareInvariant session.hardware
hardware_invariant session = record { board = session.invariants; agrees = session.agrees; room = session.room }

-- where the board does something, and knows the same block devices
pub sound_now : {d : Ghosts MemoryDisk} (hardware : Hardware MemoryDisk d) (board : Board) → HardwareInvariant hardware → BoardInvariant (board_parts board) board.events
    → KeepsKnown (board_parts hardware.board) (board_parts board) → board.disks.items ≡ hardware.board.disks.items → HardwareInvariant (record hardware { board = board })
sound_now hardware board invariants sound known disks = sound_after hardware (record hardware { board = board }) invariants sound known disks refl refl refl

-- each block device of the board is there
pub all_there : {d : Ghosts MemoryDisk} (hardware : Hardware MemoryDisk d) → HardwareInvariant hardware → AreAllThere (board_parts hardware.board) (inside disk_state hardware)
all_there hardware invariants = λ id able none. there_able disk_state hardware invariants id able none

-- so a session's calls find what they ask for
sound_by : (parts : BoardParts) (blocks : List ShownBlock) (beside : Beside) (events : ℕ) → BoardInvariant parts events → WalksAreSound parts blocks beside → InvariantBy parts beside events
sound_by parts blocks Nothing events board sound = board
sound_by parts blocks (Pointers features pointers) events board sound = board
sound_by parts blocks (UnderWay rows) events board sound = record { board = board; beside = sound.beside.board; walks = sound.walks }

pub invariant_by : (session : Session) → InvariantBy (board_parts session.hardware.board) session.beside session.hardware.board.events
invariant_by session =
    sound_by (board_parts session.hardware.board) (inside disk_state session.hardware).blocks session.beside session.hardware.board.events session.invariants session.sound

-- the same of hardware with these under way beside it
pub invariant_beside : {d : Ghosts MemoryDisk} (hardware : Hardware MemoryDisk d) (rows : List WalkRow) → HardwareInvariant hardware
    → AreSoundBeside (board_parts hardware.board) (inside disk_state hardware).blocks rows → SteppedInvariant (board_parts hardware.board) rows hardware.board.events
invariant_beside hardware rows invariants sound = record { board = invariants.board; beside = sound.beside.board; walks = sound.walks }
