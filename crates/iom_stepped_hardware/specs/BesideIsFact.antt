-- That requests stand beside hardware is a fact: it has one proof at most, so a struct that has both can carry it.
-- For such structs alone; no public contract cites these.
use Rattle.std.specs.Prelude.{List}
use Rattle.std.proofs.Props.{props}
use Rattle.iom_block_devices.specs.Shown.{ShownBlock}
use Rattle.iom_board.specs.BoardParts.{BoardParts}
use Rattle.iom_walks.specs.Walks.{WalkRow}
use Rattle.iom_stepped_hardware.specs.Beside.{AreBesideHardware}

pub are_beside_hardware_prop : (parts : BoardParts) (blocks : List ShownBlock) (rows : List WalkRow) → IsProp (AreBesideHardware parts blocks rows)
are_beside_hardware_prop parts blocks rows = hlevel props
