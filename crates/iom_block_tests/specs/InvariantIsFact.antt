-- That hardware is sound is a fact: it has one proof at most, so a struct that has hardware can carry it.
use Rattle.std.proofs.Props.{props}
use Rattle.iom_board.specs.BoardParts.{board_parts}
use Rattle.iom_board.specs.InvariantIsFact.{board_invariant_prop}
use Rattle.iom_hardware.specs.AgreementIsFact.{agrees_prop}
use Rattle.iom_hardware.specs.Invariant.{HardwareInvariant}
use Rattle.iom_hardware.specs.declared.hardware.Hardware.{Hardware}
use Rattle.iom_virtio_blk.specs.declared.disk.Disk.{Ghosts}

pub hardware_invariant_prop : {D : Type 0} {d : Ghosts D} (hardware : Hardware D d) → IsProp (HardwareInvariant hardware)
hardware_invariant_prop hardware = hlevel (props, board_invariant_prop, agrees_prop)
