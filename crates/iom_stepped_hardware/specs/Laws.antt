-- The events of hardware in which what is under way has no part: each leaves it beside the hardware.
use Rattle.std.specs.Prelude.{◌≡◌, ℕ, List, [], Result, slice_get}
use Rattle.iom_base.specs.declared.refusal.Refusal.{Refusal}
use Rattle.iom_block_devices.specs.Shown.{ShownBlock, ShownBlocks}
use Rattle.iom_board.specs.BoardParts.{BoardParts}
use Rattle.iom_board.specs.Deliveries.{DeliversAtPlace}
use Rattle.iom_board.specs.Invariant.{BoardInvariant}
use Rattle.iom_board.specs.Plugging.{PutsDiskIntoDevice}
use Rattle.iom_board.specs.Software.{ChangesAsSoftware}
use Rattle.iom_board.specs.declared.answers.Delivered.{Delivered}
use Rattle.iom_hardware.specs.Blocks.{DeliversInside, PutsDiskInside}
use Rattle.iom_stepped_board.specs.Beside.{AreBeside}
use Rattle.iom_walks.specs.Walks.{WalkRow}
use Rattle.iom_stepped_hardware.specs.Beside.{AreBesideHardware}

-- nothing is under way
abbrev pub NoneIsBeside : Type 0
NoneIsBeside = (parts : BoardParts) (blocks : List ShownBlock) → parts.devices ≡ [] → AreBesideHardware parts blocks []

-- an event of the board alone, which leaves devices and block devices
abbrev pub BoardStaysBeside : Type 0
BoardStaysBeside =
    (old new : BoardParts) (blocks : List ShownBlock) (rows : List WalkRow) → AreBesideHardware old blocks rows → new.devices ≡ old.devices → AreBeside new rows
    → AreBesideHardware new blocks rows

-- whatever software does to memory and registers
abbrev pub SoftwareStaysBeside : Type 0
SoftwareStaysBeside =
    (old new : BoardParts) (blocks : List ShownBlock) (rows : List WalkRow) → AreBesideHardware old blocks rows → ChangesAsSoftware old new → AreBesideHardware new blocks rows

-- a disk is put into a block device
abbrev pub MediumStaysBeside : Type 0
MediumStaysBeside =
    (disks left : List ℕ) (old new : BoardParts) (before after : ShownBlocks) (rows : List WalkRow) (id disk : ℕ) (answer : Result (Unit {0}) Refusal)
    → AreBesideHardware old before.blocks rows → PutsDiskIntoDevice disks old id disk answer new left → PutsDiskInside disk before id answer after
    → AreBesideHardware new after.blocks rows

-- a message arrives, and a block device hears of an answer without a translation
abbrev pub DeliveryStaysBeside : Type 0
DeliveryStaysBeside =
    (old new : BoardParts) (before after : ShownBlocks) (rows : List WalkRow) (events place : ℕ) (delivered : Delivered) → BoardInvariant old events
    → AreBesideHardware old before.blocks rows → DeliversAtPlace old place delivered new → DeliversInside (slice_get old.fabric place) delivered before after
    → AreBesideHardware new after.blocks rows
