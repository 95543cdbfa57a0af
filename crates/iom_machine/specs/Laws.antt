-- What is true after any list of events from power-on: the clauses of the reclaim theorem. And one law of every state.
use Rattle.std.specs.Prelude.{◌≡◌, ◌↔◌, ℕ, ◌+◌, ◌⊎◌, Bool, true, false, List, [], ◌∷◌, ◌++◌, length, All, if◌then◌else◌, ⊤}
use Rattle.iom_machine.specs.declared.event.Event.{Event}
use Rattle.iom_machine.specs.declared.event.Event.TheVariants as events
use Rattle.iom_machine.specs.declared.outcome.Outcome.{Outcome}
use Rattle.iom_machine.specs.declared.outcome.Outcome.TheVariants.{Accepted}
use Rattle.iom_base.specs.declared.access.Access.{Access}
use Rattle.iom_base.specs.declared.access.AcceptedAccess.{AcceptedAccess}
use Rattle.iom_machine.specs.declared.state.Device.{Device}
use Rattle.iom_machine.specs.declared.state.Limits.{Limits}
use Rattle.iom_machine.specs.declared.state.State.{State}
use Rattle.iom_base.specs.Accesses.{read_of, write_of, at_frame}
use Rattle.iom_machine.specs.Frames.{IsFree}
use Rattle.iom_machine.specs.Devices.{EachInFlightMay}
use Rattle.iom_machine.specs.Refusals.{is_held, is_lingering, has_grants}
use Rattle.iom_machine.specs.Machine.{Step, Run}
use Rattle.iom_machine.specs.PowerOn.{opening}
use Rattle.iom_machine.specs.Headline.{AsksFor, GrantsFrameTo, GrantsFrame, MakesAccessOf, TouchesFrameBy, TouchesFrame, MadeAccessTouchesItsOwn, HeldPageIsAccepted}

-- these events from power-on, with some limits, may have had these outcomes, and left the state
abbrev pub IsReachedBy : List Event → List Outcome → State → Type 0
IsReachedBy events outcomes state =
    (limits : Limits) × (frames levels : ℕ) × (disks : List ℕ) × Run (opening limits frames levels disks) events outcomes state

-- some list of events from power-on leaves the state
abbrev pub IsReached : State → Type 0
IsReached state = (events : List Event) × (outcomes : List Outcome) × IsReachedBy events outcomes state

-- no event was such a grant
abbrev pub NoneGrants : (IsGrant : Event → Outcome → Type 0) → List Event → List Outcome → Type 0
NoneGrants IsGrant (event ∷ events) (outcome ∷ outcomes) = (¬ IsGrant event outcome) × NoneGrants IsGrant events outcomes
NoneGrants IsGrant _ _ = ⊤

-- No frame is touched that was free at the earlier state, and wasn't granted since.
abbrev pub FreeFrameIsNotTouched : State → List Event → List Outcome → State → Event → Outcome → Type 0
FreeFrameIsNotTouched free since reply old event outcome =
    (frame : ℕ) → IsFree free frame → Run free since reply old
    → NoneGrants (λ its what. GrantsFrame its what frame) since reply → ¬ TouchesFrame old event outcome frame

-- No device touches a frame that was free at the earlier state, and wasn't granted to that very device since, whoever else it was granted to.
abbrev pub OnlyGranteeTouches : State → List Event → List Outcome → State → Event → Outcome → Type 0
OnlyGranteeTouches free since reply old event outcome =
    (id frame : ℕ) → IsFree free frame → Run free since reply old
    → NoneGrants (λ its what. GrantsFrameTo its what id frame) since reply → ¬ TouchesFrameBy old event outcome id frame

-- What is asked for: an access that the event names, through the device's own cache or not; or one of a block device, which its step chose.
pub data Asked : Type 0 where
  Named : (access : Access) → (through_cache : Bool) → Asked
  Chosen : Asked

-- the event asks for this access of this device, through its own cache
abbrev pub AsksThroughCache : Event → ℕ → Access → Type 0
AsksThroughCache event id access =
    ((address len : ℕ) × (event ≡ events.ReadThroughCache id address len) × (access ≡ read_of address len))
    ⊎ ((address : ℕ) × (bytes : List ℕ) × (event ≡ events.WriteThroughCache id address bytes) × (access ≡ write_of address bytes))

-- The event asks for this, of this device. A request that says it is translated already is never accepted, and so asks for nothing.
abbrev pub IsAskedBy : Event → ℕ → Asked → Type 0
IsAskedBy event id (Asked.Named access false) = AsksFor event id access
IsAskedBy event id (Asked.Named access true) = AsksThroughCache event id access
IsAskedBy event id Asked.Chosen = event ≡ events.Step id

-- the event asks for this, of this device, and is answered that it is accepted
abbrev pub IsAcceptedAt : Event → Outcome → ℕ → Asked → Type 0
IsAcceptedAt event outcome id asked = IsAskedBy event id asked × ((number : ℕ) × (outcome ≡ Accepted number))

-- these accesses of the device, and no others, are accepted at the events, in order
abbrev pub AreAccepted : List Event → List Outcome → ℕ → List Asked → Type 0
AreAccepted (event ∷ events) (outcome ∷ outcomes) id all =
    (later : List Asked) × AreAccepted events outcomes id later
    × (((asked : Asked) × IsAcceptedAt event outcome id asked × (all ≡ asked ∷ later))
    ⊎ (((asked : Asked) → ¬ IsAcceptedAt event outcome id asked) × (all ≡ later)))
AreAccepted _ _ id all = all ≡ []

-- so many accesses of the device are made at the events
abbrev pub AreMade : List Event → List Outcome → ℕ → ℕ → Type 0
AreMade (event ∷ events) (outcome ∷ outcomes) id count =
    (later : ℕ) × AreMade events outcomes id later
    × ((MakesAccessOf event outcome id × (count ≡ later + 1)) ⊎ ((¬ MakesAccessOf event outcome id) × (count ≡ later)))
AreMade _ _ id count = count ≡ 0

-- the access that goes to memory, of one that was named: through the device's own cache it is at its physical address
abbrev pub access_sent : ℕ → Access → Bool → Access
access_sent frame access through_cache = if through_cache then at_frame frame access else access

-- the access in flight is what was sent of what was asked for; of one that a step chose it is any
abbrev pub IsSentOf : Asked → AcceptedAccess → Type 0
IsSentOf (Asked.Named access through_cache) flight = flight.access ≡ access_sent flight.frame access through_cache
IsSentOf Asked.Chosen flight = ⊤

-- these accesses in flight are what was sent of those that were asked for, one by one
abbrev pub AreSent : List Asked → List AcceptedAccess → Type 0
AreSent [] [] = ⊤
AreSent (asked ∷ others) (flight ∷ flights) = IsSentOf asked flight × AreSent others flights
AreSent _ _ = ⊥

-- The accesses of the device that were accepted at these events are, in order, those that were made, and then those that are in flight; and the device
-- counts them.
pub record WereAccepted (events : List Event) (outcomes : List Outcome) (device : Device) : Type 0 where
  pub made : List Asked
  pub waiting : List Asked
  pub in_order : AreAccepted events outcomes device.id (made ++ waiting)
  pub as_many : AreMade events outcomes device.id (length made)
  pub in_flight : AreSent waiting device.in_flight
  pub counted : device.accepted ≡ length (made ++ waiting)

-- After any events from power-on an access that is made touches its own.
abbrev pub MadeAccessesTouchTheirOwn : Type 0
MadeAccessesTouchTheirOwn =
    (old new : State) (event : Event) (outcome : Outcome)
    → IsReached old → Step old event outcome new → MadeAccessTouchesItsOwn old event outcome new

-- After any events from power-on an access to a page that is so held is accepted.
abbrev pub HeldPagesAreAccepted : Type 0
HeldPagesAreAccepted =
    (old new : State) (event : Event) (outcome : Outcome)
    → IsReached old → Step old event outcome new → HeldPageIsAccepted old event outcome new

-- A frame that is free is touched by no device until it is granted again.
abbrev pub FreeFramesAreNotTouched : Type 0
FreeFramesAreNotTouched =
    (free old new : State) (since : List Event) (reply : List Outcome) (event : Event) (outcome : Outcome)
    → IsReached free → Step old event outcome new → FreeFrameIsNotTouched free since reply old event outcome

-- A frame that is free is touched by each device only after it is granted to that very device again. So, once device 1 has released frame 5 and that is
-- confirmed, and device 2 was granted the frame: device 1 still leaves it alone, whatever it has cached, while device 2 reads and writes it.
abbrev pub OnlyGranteesTouch : Type 0
OnlyGranteesTouch =
    (free old new : State) (since : List Event) (reply : List Outcome) (event : Event) (outcome : Outcome)
    → IsReached free → Step old event outcome new → OnlyGranteeTouches free since reply old event outcome

-- Every access in flight may still reach its frame.
abbrev pub AccessesInFlightMay : Type 0
AccessesInFlightMay = (state : State) → IsReached state → EachInFlightMay state

-- Every access in flight was asked for by an earlier event of its own, of its device, with that address, length and bytes, and accepted; where it goes
-- through the device's own cache, at the physical address of that one. That of a block device was asked for by a step of its own, which names none.
abbrev pub AccessesInFlightWereAccepted : Type 0
AccessesInFlightWereAccepted =
    (state : State) (events : List Event) (outcomes : List Outcome) → IsReachedBy events outcomes state
    → All (WereAccepted events outcomes) state.devices

-- A commit is always answered: what is in flight is made, and nothing is kept back.
abbrev pub CommitsAreAnswered : Type 0
CommitsAreAnswered =
    (state : State) (id : ℕ) → IsReached state → (outcome : Outcome) × (new : State) × Step state (events.Commit id) outcome new

-- No event changes the limits.
abbrev pub LimitsUnchanged : Type 0
LimitsUnchanged = (old new : State) (event : Event) (outcome : Outcome) → Step old event outcome new → new.limits ≡ old.limits

-- A device has grants exactly where there is a page at which it holds something, or something lingers.
abbrev pub GrantsAreAtPages : Type 0
GrantsAreAtPages =
    (state : State) (id : ℕ)
    → (has_grants state id ≡ true) ↔ ((page : ℕ) × ((is_held state id page ≡ true) ⊎ (is_lingering state id page ≡ true)))
