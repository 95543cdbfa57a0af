use Rattle.std.proofs.Common.{ap}
use Rattle.iom_board.specs.BoardParts.{BoardParts, board_parts}
use Rattle.iom_board.specs.Invariant.{device_ids}
use Rattle.iom_iommu.specs.Parts.{flights_of}
use Rattle.iom_hardware_alone_tests.proofs.stepped.Machine.stores.Goals as goal

pub invariant_of-self : goal.invariant_of-self
invariant_of-self g c =
    let old = c.args.self.now in
    record {
      invariants = c.store-stored.ensures.invariants;
      beside = c.stays_beside.ensures.board (board_parts old.board) (board_parts c.store-stored.new.self) old.walks old.beside
          (ap (λ (parts : BoardParts). device_ids parts.devices) c.store-stored.ensures.rest) (ap (λ (parts : BoardParts). flights_of parts.iommu) c.store-stored.ensures.rest);
    }
