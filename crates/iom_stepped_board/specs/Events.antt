-- The events of a board in which what is under way has no part: each leaves it beside the board.
use Rattle.std.specs.Prelude.{ℕ, Bool, List, Option, Result}
use Rattle.iom_base.specs.declared.refusal.Refusal.{Refusal}
use Rattle.iom_board.specs.BoardParts.{BoardParts}
use Rattle.iom_board.specs.Commits.{CommitsOldestAccess, GivesUpFence}
use Rattle.iom_board.specs.Deliveries.{DeliversAtPlace}
use Rattle.iom_board.specs.Messages.{AsksTranslation, ClaimsCompletion, CopiesMessage, LosesMessage}
use Rattle.iom_board.specs.Plugging.{PutsDiskIntoDevice}
use Rattle.iom_board.specs.declared.answers.Delivered.{Delivered}
use Rattle.iom_fabric.specs.declared.fabric.Repeat.{Repeat}
use Rattle.iom_inflight.specs.declared.made.MadeAt.{MadeAt}
use Rattle.iom_walks.specs.Walks.{WalkRow}
use Rattle.iom_stepped_board.specs.Beside.{AreBeside}

-- an access is made
abbrev pub CommitStaysBeside : Type 0
CommitStaysBeside = (old new : BoardParts) (rows : List WalkRow) (id : ℕ) (answer : Result (Option MadeAt) Refusal) → AreBeside old rows → CommitsOldestAccess old id answer new → AreBeside new rows

-- a disk is put into a device
abbrev pub MediumStaysBeside : Type 0
MediumStaysBeside = (disks : List ℕ) (old new : BoardParts) (rows : List WalkRow) (id disk : ℕ) (answer : Result (Unit {0}) Refusal) (left : List ℕ) → AreBeside old rows
    → PutsDiskIntoDevice disks old id disk answer new left → AreBeside new rows

-- a fence is given up
abbrev pub TimeoutStaysBeside : Type 0
TimeoutStaysBeside = (old new : BoardParts) (rows : List WalkRow) (has_effect : Bool) → AreBeside old rows → GivesUpFence old has_effect new → AreBeside new rows

-- a device asks for a translation
abbrev pub AskStaysBeside : Type 0
AskStaysBeside = (old new : BoardParts) (rows : List WalkRow) (id page : ℕ) (answer : Result Bool Refusal) → AreBeside old rows → AsksTranslation old id page answer new → AreBeside new rows

-- a raw device says that a request is completed
abbrev pub ClaimStaysBeside : Type 0
ClaimStaysBeside = (old new : BoardParts) (rows : List WalkRow) (id serial : ℕ) (answer : Result Bool Refusal) → AreBeside old rows → ClaimsCompletion old id serial answer new → AreBeside new rows

-- a message is lost
abbrev pub LossStaysBeside : Type 0
LossStaysBeside = (old new : BoardParts) (rows : List WalkRow) (place : ℕ) (found : Bool) → AreBeside old rows → LosesMessage old place found new → AreBeside new rows

-- a message is repeated
abbrev pub CopyStaysBeside : Type 0
CopyStaysBeside = (old new : BoardParts) (rows : List WalkRow) (place : ℕ) (repeat : Repeat) → AreBeside old rows → CopiesMessage old place repeat new → AreBeside new rows

-- a message arrives
abbrev pub DeliveryStaysBeside : Type 0
DeliveryStaysBeside = (old new : BoardParts) (rows : List WalkRow) (place : ℕ) (delivered : Delivered) → AreBeside old rows → DeliversAtPlace old place delivered new → AreBeside new rows
