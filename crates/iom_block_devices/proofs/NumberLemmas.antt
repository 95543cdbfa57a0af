-- The numbers of disks are those that are seen.
use Rattle.std.proofs.Common.{◌≡◌, ℕ, List, [], ◌∷◌, map, refl, ap}
use Rattle.iom_virtio_blk.specs.DiskStates.{DiskState}
use Rattle.iom_block_devices.specs.declared.block.DiskAtHand.{DiskAtHand}
use Rattle.iom_block_devices.specs.Entries.{numbers_of}
use Rattle.iom_block_devices.specs.Numbered.{disk_number_of}
use Rattle.iom_block_devices.specs.Shown.{shown_disks}

pub numbers_seen : {D : Type 0} (shown : D → DiskState) (at_hand : List (DiskAtHand D)) → numbers_of at_hand ≡ map disk_number_of (shown_disks shown at_hand)
numbers_seen shown [] = refl
numbers_seen shown (first ∷ others) = ap (λ (numbers : List ℕ). first.number ∷ numbers) (numbers_seen shown others)
