-- The block devices agree with their board still.
use Rattle.std.proofs.Common.{◌≡◌, ◌≤◌, ◌∙◌, ℕ, List, vec_capacity, subst, sym}
use Rattle.iom_base.specs.Sizes.{device_limit}
use Rattle.iom_block_devices.specs.declared.block.Block.{Block}
use Rattle.iom_block_devices.specs.declared.block.DiskAtHand.{DiskAtHand}
use Rattle.iom_block_devices.specs.Entries.{disk_entries_of, numbers_of}
use Rattle.iom_board.specs.BoardParts.{board_parts}
use Rattle.iom_board.specs.Invariant.{BoardInvariant}
use Rattle.iom_device.specs.declared.device.Device.{Device}
use Rattle.iom_virtio_blk.specs.declared.disk.Disk.{Ghosts}
use Rattle.iom_hardware.specs.declared.hardware.Hardware.{Hardware}
use Rattle.iom_hardware.specs.Agreement.{AgreesWith, known_blocks}
use Rattle.iom_hardware.specs.Invariant.{HardwareInvariant}

-- where the same block devices are known, and none of them got a disk or lost one
pub agrees_still : {D : Type 0} {d : Ghosts D} (devices after : List Device) (disks left : List ℕ) (blocks blocks' : List (Block D d)) (at_hand : List (DiskAtHand D))
    → known_blocks after ≡ known_blocks devices → left ≡ disks → disk_entries_of blocks' ≡ disk_entries_of blocks → AgreesWith devices disks blocks at_hand
    → AgreesWith after left blocks' at_hand
agrees_still devices after disks left blocks blocks' at_hand same kept entries agrees = record {
  known = entries ∙ agrees.known ∙ sym same;
  numbers = agrees.numbers ∙ sym kept;
}

-- so hardware is sound still, where its board is
pub sound_after : {D : Type 0} {d : Ghosts D} (old new : Hardware D d) → HardwareInvariant old → BoardInvariant (board_parts new.board) new.board.events
    → known_blocks new.board.devices.items ≡ known_blocks old.board.devices.items → new.board.disks.items ≡ old.board.disks.items
    → disk_entries_of new.blocks.items ≡ disk_entries_of old.blocks.items → numbers_of new.at_hand.items ≡ numbers_of old.at_hand.items
    → vec_capacity new.blocks ≡ vec_capacity old.blocks → HardwareInvariant new
sound_after old new invariants board known kept entries numbers room = record {
  board = board;
  agrees = record { known = entries ∙ invariants.agrees.known ∙ sym known; numbers = numbers ∙ invariants.agrees.numbers ∙ sym kept };
  room = subst (λ (n : ℕ). device_limit ≤ n) (sym room) invariants.room;
}
