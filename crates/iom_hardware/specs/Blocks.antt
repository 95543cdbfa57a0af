-- What a call does to the block devices themselves, and to the disks that were never in one (virtio 1.2, sections 2.1, 2.4, 3.1 and 5.2).
use Rattle.std.specs.Prelude.{◌≡◌, ℕ, ◌-◌, Bool, true, false, List, [], ◌∷◌, length, Option, None, Some, Result, Ok, Err, if◌then◌else◌}
use Rattle.iom_ats_cache.specs.declared.taken.Taken.TheVariants as taken
use Rattle.iom_base.specs.declared.access.AccessKind.{AccessKind}
use Rattle.iom_base.specs.declared.access.AccessKind.TheVariants.{Read, Write}
use Rattle.iom_base.specs.declared.refusal.Refusal.{Refusal}
use Rattle.iom_block_devices.specs.Changes.{Changes, IsPluggedIn, IsPutIn, IsGivenUp, IsReset, SetsUp, HearsMade, HearsRefusal}
use Rattle.iom_block_devices.specs.Shown.{ShownBlocks}
use Rattle.iom_board.specs.Commits.{StandWhereMade}
use Rattle.iom_board.specs.declared.answers.Delivered.{Delivered}
use Rattle.iom_board.specs.declared.answers.Delivered.TheVariants.{Taken}
use Rattle.iom_fabric.specs.declared.fabric.OnLink.{OnLink}
use Rattle.iom_fabric.specs.declared.message.Message.{Message}
use Rattle.iom_fabric.specs.declared.message.Message.TheVariants.{Answer}
use Rattle.iom_fabric.specs.declared.message.Translation.{Translation}
use Rattle.iom_fabric.specs.declared.message.Translation.TheVariants.{Page, Refused}
use Rattle.iom_inflight.specs.declared.made.MadeAt.{MadeAt}
use Rattle.iom_inflight.specs.Flights.{NumberedAccess, FlightRow}
use Rattle.iom_virtqueue.specs.declared.layout.Layout.{Layout}

-- all block devices stay, and so do the disks at hand
abbrev pub BlocksUnchanged : ShownBlocks → ShownBlocks → Type 0
BlocksUnchanged old new = new ≡ old

-- where the call is refused, they stay
abbrev pub UnlessRefused : Result (Unit {0}) Refusal → Type 0 → ShownBlocks → ShownBlocks → Type 0
UnlessRefused (Ok done) Happens old new = Happens
UnlessRefused (Err why) Happens old new = BlocksUnchanged old new

-- A BLOCK DEVICE IS PLUGGED IN with the disk of this number, if one is named
abbrev pub PlugsInside : Option ℕ → ShownBlocks → ℕ → Result (Unit {0}) Refusal → ShownBlocks → Type 0
PlugsInside None old id answer new = BlocksUnchanged old new
PlugsInside (Some number) old id answer new = UnlessRefused answer (IsPluggedIn number id old.blocks old.at_hand new.blocks new.at_hand) old new

-- A DISK IS PUT INTO A BLOCK DEVICE
abbrev pub PutsDiskInside : ℕ → ShownBlocks → ℕ → Result (Unit {0}) Refusal → ShownBlocks → Type 0
PutsDiskInside number old id answer new = UnlessRefused answer (IsPutIn number id old.blocks old.at_hand new.blocks new.at_hand) old new

-- THE DISK OF A BLOCK DEVICE GOES, and the device is reset
abbrev pub GivesUpInside : ShownBlocks → ℕ → Result (Unit {0}) Refusal → ShownBlocks → Type 0
GivesUpInside old id answer new = UnlessRefused answer (Changes IsGivenUp old id new) old new

-- A BLOCK DEVICE IS RESET (section 2.4)
abbrev pub ResetsInside : ShownBlocks → ℕ → Result (Unit {0}) Refusal → ShownBlocks → Type 0
ResetsInside old id answer new = UnlessRefused answer (Changes IsReset old id new) old new

-- THE QUEUE OF A BLOCK DEVICE IS SET
abbrev pub SetsQueueInside : Layout → ShownBlocks → ℕ → Result (Unit {0}) Refusal → ShownBlocks → Type 0
SetsQueueInside layout old id answer new = UnlessRefused answer (Changes (SetsUp layout) old id new) old new

-- THE OLDEST ACCESS OF A DEVICE IS MADE

-- where so many were ever accepted, the number of the oldest of those in flight: the later ones are the last of the accepted
abbrev pub first_number : ℕ → List NumberedAccess → Option ℕ
first_number accepted [] = None
first_number accepted (oldest ∷ later) = Some (accepted - length later)

-- the number, among the device's accepted accesses, of its oldest in flight; none where nothing is in flight, or the device isn't there
abbrev pub oldest_number : Option FlightRow → Option ℕ
oldest_number None = None
oldest_number (Some row) = first_number row.accepted row.waiting

-- a read that was made gave the bytes that stand there, and a write none
abbrev pub GaveBytes : AccessKind → List (List ℕ) → MadeAt → List ℕ → Type 0
GaveBytes Read memory made bytes = StandWhereMade memory made bytes
GaveBytes Write memory made bytes = bytes ≡ []

-- the device hears that its access of this number was made, and gave these bytes; where nothing was in flight, nothing was made
abbrev pub HearsOldest : Option ℕ → List ℕ → ShownBlocks → ℕ → ShownBlocks → Type 0
HearsOldest None bytes old id new = BlocksUnchanged old new
HearsOldest (Some number) bytes old id new = Changes (HearsMade number bytes) old id new

-- it hears so where an access was made, with the bytes that this one gave
abbrev pub HearsIfMade : Result (Option MadeAt) Refusal → Option ℕ → (memory : List (List ℕ)) → ShownBlocks → ℕ → ShownBlocks → Type 0
HearsIfMade (Ok (Some made)) number memory old id new = (bytes : List ℕ) → GaveBytes made.kind memory made bytes → HearsOldest number bytes old id new
HearsIfMade (Ok None) number memory old id new = BlocksUnchanged old new
HearsIfMade (Err why) number memory old id new = BlocksUnchanged old new

-- A MESSAGE ARRIVES

-- a question that is answered with no translation
abbrev pub is_refused : Translation → Bool
is_refused (Page frame rights) = false
is_refused (Refused cause) = true

-- the page of such an answer
abbrev pub refused_page : Message → Option ℕ
refused_page (Answer epoch page answer) = if is_refused answer then Some page else None
refused_page message = None

-- the device hears of that page, if the message is such an answer
abbrev pub HearsAnswer : Option ℕ → ShownBlocks → ℕ → ShownBlocks → Type 0
HearsAnswer None old id new = BlocksUnchanged old new
HearsAnswer (Some page) old id new = Changes (HearsRefusal page) old id new

-- the message, if there is one, comes to its device
abbrev pub BringsRefusal : Option OnLink → ShownBlocks → ShownBlocks → Type 0
BringsRefusal None old new = BlocksUnchanged old new
BringsRefusal (Some on) old new = HearsAnswer (refused_page on.message) old on.device new

-- one that has no translation counts where the device's cache is in the epoch of the question still; a stale one does nothing, nor does one to a device
-- without a cache
abbrev pub counts : Delivered → Bool
counts (Taken taken.Refused) = true
counts delivered = false

abbrev pub DeliversWhere : Bool → Option OnLink → ShownBlocks → ShownBlocks → Type 0
DeliversWhere true on old new = BringsRefusal on old new
DeliversWhere false on old new = BlocksUnchanged old new

abbrev pub DeliversInside : Option OnLink → Delivered → ShownBlocks → ShownBlocks → Type 0
DeliversInside on delivered old new = DeliversWhere (counts delivered) on old new
