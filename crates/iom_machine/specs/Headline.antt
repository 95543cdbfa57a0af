-- At one step: what a made access touched, what was accepted and on which frame, which frame was granted, and which was touched.
use Rattle.std.specs.Prelude.{◌≡◌, ◌≢◌, ℕ, ◌+◌, ◌<◌, ◌≤◌, ◌⊎◌, Bool, List, length, Option, Some, slice_get}
use Rattle.iom_base.specs.declared.access.AccessKind.TheVariants as kinds
use Rattle.iom_base.specs.declared.grant_rights.GrantRights.{GrantRights}
use Rattle.iom_ledger.specs.History.{May}
use Rattle.iom_machine.specs.declared.event.Event.{Event}
use Rattle.iom_machine.specs.declared.event.Event.TheVariants as events
use Rattle.iom_machine.specs.declared.outcome.Outcome.{Outcome}
use Rattle.iom_machine.specs.declared.outcome.Outcome.TheVariants.{Done, Refused, Accepted, Read, Wrote, NothingInFlight}
use Rattle.iom_base.specs.declared.access.Access.{Access}
use Rattle.iom_machine.specs.declared.state.Attachment.TheVariants.{Attached}
use Rattle.iom_machine.specs.declared.state.Device.{Device}
use Rattle.iom_base.specs.declared.device_kind.DeviceKind.TheVariants.{Raw}
use Rattle.iom_machine.specs.declared.state.Frame.{Frame}
use Rattle.iom_base.specs.declared.access.AcceptedAccess.{AcceptedAccess}
use Rattle.iom_base.specs.declared.mode.Mode.TheVariants.{First, Second}
use Rattle.iom_base.specs.declared.size.Size.{Size}
use Rattle.iom_machine.specs.declared.state.State.{State}
use Rattle.iom_machine.specs.Frames.{bytes_of}
use Rattle.iom_machine.specs.Devices.{IsPlugged}
use Rattle.iom_base.specs.Accesses.{read_of, write_of, offset_of, IsWithinPage}
use Rattle.iom_machine.specs.Requests.{IsBusy, HoldsFor, with_accepted}

-- the byte of a frame at an offset
abbrev pub byte_in : List Frame → ℕ → ℕ → Option ℕ
byte_in frames frame offset = slice_get (bytes_of frames frame) offset

-- the access is the device's oldest in flight, which a commit makes
abbrev pub IsOldest : State → ℕ → AcceptedAccess → Type 0
IsOldest state id flight =
    (device : Device) × IsPlugged state id device × (slice_get device.in_flight 0 ≡ Some flight)

-- the place is none of those that the access names
abbrev pub IsOutside : AcceptedAccess → ℕ → ℕ → Type 0
IsOutside made frame offset =
    (frame ≢ made.frame) ⊎ (offset < offset_of made.access) ⊎ (offset_of made.access + made.access.len ≤ offset)

-- the bytes are those that the access names
abbrev pub AreNamedBytes : List Frame → AcceptedAccess → List ℕ → Type 0
AreNamedBytes frames made bytes =
    (length bytes ≡ made.access.len)
    × ((k : ℕ) → k < made.access.len → slice_get bytes k ≡ byte_in frames made.frame (offset_of made.access + k))

-- A read that is made gives exactly its named bytes, and changes none; a write changes exactly its named bytes, to its own. Both of a frame that the
-- device may reach then.
abbrev pub TouchesItsOwn : State → ℕ → Outcome → State → Type 0
TouchesItsOwn old id (Read bytes) new =
    (made : AcceptedAccess) × IsOldest old id made × May old.history id made.frame kinds.Read
    × AreNamedBytes old.frames made bytes.items × (new.frames ≡ old.frames)
TouchesItsOwn old id (Wrote len) new =
    (made : AcceptedAccess) × IsOldest old id made × May old.history id made.frame kinds.Write
    × (len ≡ made.access.len) × AreNamedBytes new.frames made made.access.bytes
    × ((frame offset : ℕ) → IsOutside made frame offset → byte_in new.frames frame offset ≡ byte_in old.frames frame offset)
TouchesItsOwn old id NothingInFlight new = new.frames ≡ old.frames
TouchesItsOwn old id (Refused why) new = new.frames ≡ old.frames
-- no other outcome comes of a commit
TouchesItsOwn old id _ new = ⊥

-- the event asks for this access of this device, at an address that the IOMMU translates
abbrev pub AsksFor : Event → ℕ → Access → Type 0
AsksFor event id access =
    ((address len : ℕ) × (event ≡ events.Read id address len) × (access ≡ read_of address len))
    ⊎ ((address : ℕ) × (bytes : List ℕ) × (event ≡ events.Write id address bytes) × (access ≡ write_of address bytes))

-- attached in one stage, with tables of either size, with ATS or without
abbrev pub IsOneStage : Device → Type 0
IsOneStage device = (size : Size) × (ats : Bool) × ((device.attachment ≡ Attached (First size) ats) ⊎ (device.attachment ≡ Attached (Second size) ats))

-- the event grants the frame to this device
abbrev pub GrantsFrameTo : Event → Outcome → ℕ → ℕ → Type 0
GrantsFrameTo event outcome id frame =
    (page : ℕ) × (rights : GrantRights) × (event ≡ events.Grant id page frame rights) × (outcome ≡ Done)

-- the event grants the frame to a device
abbrev pub GrantsFrame : Event → Outcome → ℕ → Type 0
GrantsFrame event outcome frame = (id : ℕ) × GrantsFrameTo event outcome id frame

-- the outcome says that an access was made
abbrev pub SaysMade : Outcome → Type 0
SaysMade outcome = ((bytes : _) × (outcome ≡ Read bytes)) ⊎ ((len : ℕ) × (outcome ≡ Wrote len))

-- the event makes an access of this device
abbrev pub MakesAccessOf : Event → Outcome → ℕ → Type 0
MakesAccessOf event outcome id = (event ≡ events.Commit id) × SaysMade outcome

-- the event makes an access of this device to the frame
abbrev pub TouchesFrameBy : State → Event → Outcome → ℕ → ℕ → Type 0
TouchesFrameBy old event outcome id frame =
    MakesAccessOf event outcome id × (made : AcceptedAccess) × IsOldest old id made × (made.frame ≡ frame)

-- The event makes an access of a device to the frame. What the processor reads and writes is none.
abbrev pub TouchesFrame : State → Event → Outcome → ℕ → Type 0
TouchesFrame old event outcome frame = (id : ℕ) × TouchesFrameBy old event outcome id frame

-- An access that is made touches exactly its named bytes, in a frame that the history then shows held by that device with that right,
-- or released by it so and unconfirmed.
abbrev pub MadeAccessTouchesItsOwn : State → Event → Outcome → State → Type 0
MadeAccessTouchesItsOwn old event outcome new = (id : ℕ) → event ≡ events.Commit id → TouchesItsOwn old id outcome new

-- A raw device that is attached in one stage has an access to a page that it so holds accepted, on that very frame.
abbrev pub HeldPageIsAccepted : State → Event → Outcome → State → Type 0
HeldPageIsAccepted old event outcome new =
    (id frame : ℕ) (device : Device) (access : Access)
    → AsksFor event id access → IsPlugged old id device → device.kind ≡ Raw → IsOneStage device
    → IsWithinPage access → ¬ IsBusy old.limits.in_flight device.in_flight → HoldsFor old.history id access frame
    → (outcome ≡ Accepted (device.accepted + 1)) × (new ≡ with_accepted old device access frame)
