use Rattle.std.proofs.Common.{ap, refl}
use Rattle.iom_block_devices.specs.Shown.{shown_blocks}
use Rattle.iom_board.specs.BoardParts.{BoardParts, board_parts}
use Rattle.iom_board.specs.Invariant.{device_ids}
use Rattle.iom_hardware.specs.Agreement.{known_blocks}
use Rattle.iom_hardware.proofs.AgreementLemmas.{sound_after}
use Rattle.iom_iommu.specs.Parts.{flights_of}
use Rattle.iom_virtio_blk.specs.MemoryDisks.{disk_state}
use Rattle.iom_block_tests.proofs.stepped.Machine.stores.Goals as goal

pub invariant_of-self : goal.invariant_of-self
invariant_of-self g c =
    let old = c.args.self.now in
    let hardware = old.hardware in
    let board = c.store-stored.new.self in
    let rest = c.store-stored.ensures.rest in
    record {
      invariants = sound_after hardware (record { board = board; blocks = hardware.blocks; at_hand = hardware.at_hand }) old.invariants c.store-stored.ensures.invariants
          (ap (λ (parts : BoardParts). known_blocks parts.devices) rest) c.store-stored.ensures.counted.disks refl refl refl;
      beside = c.events_stay_beside.ensures.board (board_parts hardware.board) (board_parts board) (shown_blocks disk_state hardware.blocks.items) old.walks old.beside
          (ap (λ (parts : BoardParts). parts.devices) rest)
          (c.stays_beside.ensures.board (board_parts hardware.board) (board_parts board) old.walks old.beside.board (ap (λ (parts : BoardParts). device_ids parts.devices) rest)
          (ap (λ (parts : BoardParts). flights_of parts.iommu) rest));
    }
