-- What may come of each event where a walk takes several events, and the state after it.
use Rattle.std.specs.Prelude.{◌≡◌, ℕ, ◌+◌, ◌<◌, ◌≤◌, ◌&&◌, Bool, true, false, not, List, [], ◌∷◌, length, Option, None, Some, is_some, IsSomeAnd, if◌then◌else◌}
use Rattle.iom_base.specs.declared.access.Access.{Access}
use Rattle.iom_base.specs.declared.device_kind.DeviceKind.{DeviceKind}
use Rattle.iom_base.specs.declared.refusal.Refusal.TheVariants.{NoSuchDevice}
use Rattle.iom_base.specs.Accesses.{read_of, write_of, IsWithinPage, MayWant}
use Rattle.iom_base.specs.DeviceKinds.{forges, has_cache, is_block_device, sends_through_cache, sends_untranslated}
use Rattle.iom_machine.specs.declared.choice.Choice.{Choice}
use Rattle.iom_machine.specs.declared.event.Event.{Event}
use Rattle.iom_machine.specs.declared.event.Event.TheVariants as events
use Rattle.iom_machine.specs.declared.outcome.BlockStep.TheVariants.{Waiting}
use Rattle.iom_machine.specs.declared.outcome.Fetched.TheVariants.{Did}
use Rattle.iom_machine.specs.declared.outcome.Outcome.{Outcome}
use Rattle.iom_machine.specs.declared.outcome.Outcome.TheVariants.{Accepted, BadSpan, Busy, Done, Fault, Fetched, Refused, Stepped, Ticket}
use Rattle.iom_machine.specs.declared.state.Device.{Device}
use Rattle.iom_machine.specs.declared.state.State.{State}
use Rattle.iom_machine.specs.Devices.{device_of}
use Rattle.iom_machine.specs.Machine.{ChosenStep, Step}
use Rattle.iom_stepped_machine.specs.Walks.{Asking, Reads, Writes, Begins, Walk, Walks, event_of, access_of, begins_anew, begun_anew, most_loads, with_walk}

-- what happens: an event of the ledger machine, or one load of a device's walk
pub data SteppedEvent : Type 0 where
  Whole : (event : Event) → SteppedEvent
  Load : (id : ℕ) → SteppedEvent

pub data SteppedOutcome : Type 0 where
  -- what the ledger machine has a word for
  Answer : (outcome : Outcome) → SteppedOutcome
  -- the request's walk is under way
  Walking : SteppedOutcome
  -- the device has a walk under way: the request is refused, and nothing of it is kept
  Occupied : SteppedOutcome
  -- one load was made, and the walk goes on
  Loaded : SteppedOutcome
  -- the device has no walk
  NoWalk : SteppedOutcome

-- the ledger machine's state, and the requests in walk
pub record SteppedState : Type 0 where
  pub ledger : State
  pub walks : Walks

-- the device whose access the event asks for, of whatever kind
abbrev pub asker_of : Event → Option ℕ
asker_of (events.Read id address len) = Some id
asker_of (events.Write id address bytes) = Some id
asker_of (events.ReadTranslated id address len) = Some id
asker_of (events.WriteTranslated id address bytes) = Some id
asker_of (events.ReadThroughCache id address len) = Some id
asker_of (events.WriteThroughCache id address bytes) = Some id
asker_of (events.Step id) = Some id
asker_of event = None

-- the walk of that device
abbrev pub walk_at : Walks → Option ℕ → Option Walk
walk_at walks None = None
walk_at walks (Some id) = walks id

-- a device whose walk is under way may have no more accesses in flight: the walk counts as one
abbrev pub IsFullBesides : State → ℕ → Type 0
IsFullBesides state id = IsSomeAnd (device_of state id) (λ device. state.limits.in_flight ≤ length device.in_flight + 1)

-- the device is there, and of a kind that can
abbrev pub IsAbleAt : (DeviceKind → Bool) → State → ℕ → Type 0
IsAbleAt can state id = IsSomeAnd (device_of state id) (λ device. can device.kind ≡ true)

-- it can ask so, but for how many it has in flight
abbrev pub IsBusyBesides : (DeviceKind → Bool) → State → ℕ → Access → State → Type 0
IsBusyBesides can old id access new = IsAbleAt can old id × IsWithinPage access × IsFullBesides old id × (new ≡ old)

-- Beside a walk of its device a request is refused: as ever one that no such device can ask, or of a bad span; then one where too many are in flight
abbrev pub RefusesBesides : (DeviceKind → Bool) → State → ℕ → Access → Event → Outcome → State → Type 0
RefusesBesides can old id access event (Refused why) new = Step old event (Refused why) new
RefusesBesides can old id access event BadSpan new = Step old event BadSpan new
RefusesBesides can old id access event Busy new = IsBusyBesides can old id access new
RefusesBesides can old id access event outcome new = ⊥

-- an access that says it is translated already, or that goes through the device's own cache, needs no walk, but finds one place fewer
abbrev pub PassesBesides : (DeviceKind → Bool) → State → ℕ → Access → Event → Outcome → State → Type 0
PassesBesides can old id access event (Refused why) new = Step old event (Refused why) new
PassesBesides can old id access event BadSpan new = Step old event BadSpan new
PassesBesides can old id access event Busy new = IsBusyBesides can old id access new
PassesBesides can old id access event outcome new = (¬ IsFullBesides old id) × Step old event outcome new

-- a block device waits for its access
abbrev pub WaitsBesides : State → ℕ → Outcome → State → Type 0
WaitsBesides old id (Refused why) new = Step old (events.Step id) (Refused why) new
WaitsBesides old id (Stepped Waiting) new = Step old (events.Step id) (Stepped Waiting) new
WaitsBesides old id outcome new = ⊥

-- what is answered to an event beside a walk of the device that asks
abbrev pub AnswersBesides : State → Event → Outcome → State → Type 0
AnswersBesides old (events.Read id address len) outcome new =
    RefusesBesides sends_untranslated old id (read_of address len) (events.Read id address len) outcome new
AnswersBesides old (events.Write id address bytes) outcome new =
    RefusesBesides sends_untranslated old id (write_of address bytes) (events.Write id address bytes) outcome new
AnswersBesides old (events.ReadTranslated id address len) outcome new =
    PassesBesides forges old id (read_of address len) (events.ReadTranslated id address len) outcome new
AnswersBesides old (events.WriteTranslated id address bytes) outcome new =
    PassesBesides forges old id (write_of address bytes) (events.WriteTranslated id address bytes) outcome new
AnswersBesides old (events.ReadThroughCache id address len) outcome new =
    PassesBesides sends_through_cache old id (read_of address len) (events.ReadThroughCache id address len) outcome new
AnswersBesides old (events.WriteThroughCache id address bytes) outcome new =
    PassesBesides sends_through_cache old id (write_of address bytes) (events.WriteThroughCache id address bytes) outcome new
AnswersBesides old (events.Step id) outcome new = WaitsBesides old id outcome new
AnswersBesides old event outcome new = Step old event outcome new

-- and without one: as ever
abbrev pub AnswersWhole : Option Walk → State → Event → Outcome → State → Type 0
AnswersWhole None old event outcome new = Step old event outcome new
AnswersWhole (Some walk) old event outcome new = AnswersBesides old event outcome new

-- A block device that is reset, also where its queue is set and where it is detached, or a device that is reset or revived, gives its walk up. Detached otherwise it
-- keeps its walk: what its walk then finds lingers.
abbrev pub gives_up_at_detach : Option Device → Bool
gives_up_at_detach None = false
gives_up_at_detach (Some device) = is_block_device device.kind

-- the walks, after an event of the ledger machine
abbrev pub walks_after : State → Event → Outcome → Walks → Walks
walks_after old events.Fetch (Fetched (Did name)) walks = if begins_anew name then begun_anew walks else walks
walks_after old (events.Reset id) Done walks = with_walk walks id None
walks_after old (events.Revive id) Done walks = with_walk walks id None
walks_after old (events.Queue id size descriptors available used) Done walks = with_walk walks id None
walks_after old (events.Detach id) (Ticket ticket) walks = if gives_up_at_detach (device_of old id) then with_walk walks id None else walks
walks_after old event outcome walks = walks

-- a block device without a cache of its own: its accesses are translated by the IOMMU
abbrev pub walks_at_steps : DeviceKind → Bool
walks_at_steps kind = is_block_device kind && not (has_cache kind)

-- A REQUEST'S WALK BEGINS: the device can ask so, the access lies within its page, the device isn't busy, and has no walk yet
pub record BeginsWalk (can : DeviceKind → Bool) (old : SteppedState) (id : ℕ) (asking : Asking) (new : SteppedState) : Type 0 where
  pub device : Device
  pub plugged : device_of old.ledger id ≡ Some device
  pub able : can device.kind ≡ true
  pub within : IsWithinPage (access_of asking)
  pub room : length device.in_flight < old.ledger.limits.in_flight
  pub none : old.walks id ≡ None
  pub begun : new ≡ record old { walks = with_walk old.walks id (Some (record { asking = asking; loads = 0 })) }

abbrev pub BeginsAt : SteppedState → Event → SteppedState → Type 0
BeginsAt old (events.Read id address len) new = BeginsWalk sends_untranslated old id (Reads address len) new
BeginsAt old (events.Write id address bytes) new = BeginsWalk sends_untranslated old id (Writes address bytes) new
BeginsAt old (events.Step id) new = (access : Access) × MayWant access × BeginsWalk walks_at_steps old id (Begins access) new
BeginsAt old event new = ⊥

-- A REQUEST FINDS A WALK of its device, which can ask so: it lies within its page, and the device isn't busy
abbrev pub FindsWalk : SteppedState → ℕ → Access → Type 0
FindsWalk old id access = (is_some (old.walks id) ≡ true) × IsAbleAt sends_untranslated old.ledger id × IsWithinPage access × (¬ IsFullBesides old.ledger id)

abbrev pub IsOccupied : SteppedState → Event → Type 0
IsOccupied old (events.Read id address len) = FindsWalk old id (read_of address len)
IsOccupied old (events.Write id address bytes) = FindsWalk old id (write_of address bytes)
IsOccupied old event = ⊥

-- THE LOAD THAT ENDS A WALK answers its request, which the ledger judges as it is then
abbrev pub EndsWalk : SteppedState → ℕ → Walk → Outcome → SteppedState → Type 0
EndsWalk old id walk outcome new =
    ((choice : Choice) × (choice.access ≡ access_of walk.asking) × ChosenStep choice old.ledger (event_of id walk.asking) outcome new.ledger)
    × (new.walks ≡ with_walk old.walks id None)

abbrev pub AnswersLoad : SteppedState → ℕ → Outcome → SteppedState → Type 0
AnswersLoad old id (Accepted number) new = IsSomeAnd (old.walks id) (λ walk. EndsWalk old id walk (Accepted number) new)
AnswersLoad old id (Fault cause) new = IsSomeAnd (old.walks id) (λ walk. EndsWalk old id walk (Fault cause) new)
AnswersLoad old id (Refused why) new = (why ≡ NoSuchDevice) × (device_of old.ledger id ≡ None) × (new ≡ old)
AnswersLoad old id outcome new = ⊥

-- the walk goes on
abbrev pub GoesOn : SteppedState → ℕ → Walk → SteppedState → Type 0
GoesOn old id walk new = (walk.loads < most_loads) × (new ≡ record old { walks = with_walk old.walks id (Some (record walk { loads = walk.loads + 1 })) })

-- THE STEP
abbrev pub SteppedStep : SteppedState → SteppedEvent → SteppedOutcome → SteppedState → Type 0
SteppedStep old (Whole event) (Answer outcome) new =
    AnswersWhole (walk_at old.walks (asker_of event)) old.ledger event outcome new.ledger × (new.walks ≡ walks_after old.ledger event outcome old.walks)
SteppedStep old (Whole event) Walking new = BeginsAt old event new
SteppedStep old (Whole event) Occupied new = IsOccupied old event × (new ≡ old)
SteppedStep old (Load id) (Answer outcome) new = AnswersLoad old id outcome new
SteppedStep old (Load id) Loaded new = IsSomeAnd (old.walks id) (λ walk. GoesOn old id walk new)
SteppedStep old (Load id) NoWalk new = (is_some (device_of old.ledger id) ≡ true) × (old.walks id ≡ None) × (new ≡ old)
SteppedStep old event outcome new = ⊥

-- These events may have these outcomes, one after another, and leave this state.
abbrev pub SteppedRun : SteppedState → List SteppedEvent → List SteppedOutcome → SteppedState → Type 0
SteppedRun old [] [] new = new ≡ old
SteppedRun old (event ∷ events) (outcome ∷ outcomes) new = (mid : SteppedState) × SteppedStep old event outcome mid × SteppedRun mid events outcomes new
SteppedRun old _ _ new = ⊥
