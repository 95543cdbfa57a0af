-- That requests stand beside a board is a fact: it has one proof at most, so a struct that has both can carry it.
-- For such structs alone; no public contract cites these.
use Rattle.std.specs.Prelude.{List}
use Rattle.std.proofs.Props.{props}
use Rattle.iom_board.specs.BoardParts.{BoardParts}
use Rattle.iom_walks.specs.Walks.{WalkRow}
use Rattle.iom_stepped_board.specs.Beside.{AreBeside}

pub are_beside_prop : (parts : BoardParts) (rows : List WalkRow) → IsProp (AreBeside parts rows)
are_beside_prop parts rows = hlevel props
