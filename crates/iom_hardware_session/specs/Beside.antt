-- What stays true of the requests that are under way beside a session's hardware.
use Rattle.std.specs.Prelude.{List, ⊤}
use Rattle.iom_block_devices.specs.Shown.{ShownBlock}
use Rattle.iom_board.specs.BoardParts.{BoardParts}
use Rattle.iom_hardware_session.specs.declared.beside.Beside.{Beside}
use Rattle.iom_hardware_session.specs.declared.beside.Beside.TheVariants.{Nothing, UnderWay, Pointers}
use Rattle.iom_stepped_hardware.specs.Beside.{AreBesideHardware}
use Rattle.iom_stepped_ways.specs.Scenes.{AreForKinds}
use Rattle.iom_walks.specs.Invariant.{AreWalks}
use Rattle.iom_walks.specs.Walks.{WalkRow}

-- they are what may be under way, they stand beside this hardware, and each walk is for the kind of access that its request asks for
pub record AreSoundBeside (parts : BoardParts) (blocks : List ShownBlock) (rows : List WalkRow) : Type 0 where
  pub walks : AreWalks rows
  pub beside : AreBesideHardware parts blocks rows
  pub kinds : AreForKinds rows

-- where a walk takes several events; else there are none
abbrev pub WalksAreSound : BoardParts → List ShownBlock → Beside → Type 0
WalksAreSound parts blocks Nothing = ⊤
WalksAreSound parts blocks (UnderWay rows) = AreSoundBeside parts blocks rows
WalksAreSound parts blocks (Pointers features pointers) = ⊤
