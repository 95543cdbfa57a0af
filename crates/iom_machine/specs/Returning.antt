-- Tables that a poll gives back of a device that stays attached: which may be given back, and what is left.
use Rattle.std.specs.Prelude.{◌≡◌, ℕ, true, false, List, [], ◌∷◌, Option, None, Some, slice_get, All, Contains}
use Rattle.std.specs.Option.{option_and_then}
use Rattle.iom_base.specs.declared.owner.Owner.{Owner}
use Rattle.iom_base.specs.declared.owner.Owner.TheVariants.{System, OneDevice}
use Rattle.iom_ledger.specs.History.{NoneMayReach}
use Rattle.iom_machine.specs.declared.state.Frame.{Frame}
use Rattle.iom_machine.specs.declared.state.State.{State}
use Rattle.iom_machine.specs.Frames.{with_frame, IsFree}
use Rattle.iom_machine.specs.PowerOn.{empty_frame}
use Rattle.iom_machine.specs.Refusals.{attachment_of, is_attached, is_lingering}

-- whose the frame is, if there is such a frame and it is somebody's
abbrev pub owner_of : List Frame → ℕ → Option Owner
owner_of frames number = option_and_then (λ frame. frame.owner) (slice_get frames number)

-- nothing lingers for the device, at any page: all that it released is confirmed
abbrev pub NothingLingers : State → ℕ → Type 0
NothingLingers state id = (page : ℕ) → is_lingering state id page ≡ false

-- What belongs to this owner may be given back: the owner is a device that is attached, and nothing lingers for it. A walk of that device
-- began before its last release was confirmed, and has ended; or it began after. So, as far as the machine knows, no walk is in a table
-- that was taken out of the tree before the fence of that release. Which of a device's tables are still in its tree the machine doesn't
-- know. A device that is leaving gives its tables back once its own ticket is confirmed (`with_left`), and one that was quarantined keeps them
-- until it is attached again.
abbrev pub MayGiveBackOf : State → Option Owner → Type 0
MayGiveBackOf state None = ⊥
MayGiveBackOf state (Some System) = ⊥
MayGiveBackOf state (Some (OneDevice id)) = (is_attached (attachment_of state id) ≡ true) × NothingLingers state id

-- the frame may be given back: the limits don't ask for order, and it is a table of a device that may give it back
abbrev pub MayGiveBack : State → ℕ → Type 0
MayGiveBack state number = (state.limits.in_order ≡ false) × MayGiveBackOf state (owner_of state.frames number)

-- the frames, where those of the list are given back: each is one of zeros that belongs to nobody
abbrev pub frames_returned : List ℕ → List Frame → List Frame
frames_returned [] frames = frames
frames_returned (number ∷ numbers) frames = frames_returned numbers (with_frame frames number (λ frame. empty_frame))

-- the state, where those frames are given back
abbrev pub with_returned : List ℕ → State → State
with_returned returned state = record state { frames = frames_returned returned state.frames }

-- Tables that may be given back are free then, where no device may reach them.
abbrev pub ReturnedTablesAreFree : Type 0
ReturnedTablesAreFree =
    (state : State) (returned : List ℕ) (number : ℕ)
    → All (MayGiveBack state) returned → Contains returned number → NoneMayReach state.history number → IsFree (with_returned returned state) number
