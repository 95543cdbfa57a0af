-- All that hardware and driver do to a scene. Where something is refused, or finds nothing to do, nothing occurs.
use Rattle.std.specs.Prelude.{◌≡◌, ℕ, Bool, List, [], ◌∷◌}
use Rattle.iom_base.specs.declared.access.AccessKind.{AccessKind}
use Rattle.iom_base.specs.declared.rights.Rights.{Rights}
use Rattle.iom_base.specs.declared.device_kind.DeviceKind.{DeviceKind}
use Rattle.iom_base.specs.declared.mode.Mode.{Mode}
use Rattle.iom_coherence.specs.Queue.{Extent}
use Rattle.iom_coherence.specs.Scene.{Copy, Invalidation, Scene}
use Rattle.iom_coherence.specs.DriverCalls.{DeviceIsPlugged, DeviceIsAttached, PageIsGranted, PageIsReleased, DeviceIsDetached, DeviceIsQuarantined, DeviceIsRevived, QueueIsRestarted, TicketIsConfirmed}
use Rattle.iom_coherence.specs.Requests.{ContextIsKept, TranslationIsKept, AccessIsAccepted, AccessIsMade}
use Rattle.iom_coherence.specs.Fetches.{TranslationsAreDropped, ContextIsDropped, SlotIsOpened, FenceTakesSnapshot, FenceIsDone, FenceTimesOut}
use Rattle.iom_coherence.specs.Deliveries.{MessagesAreCarried, EntryIsKept, EntriesAreInvalidated, SlotIsClosed, DeviceIsReset}

pub data Transition : Type 0 where
  -- calls of the driver
  Plug : (device : ℕ) (kind : DeviceKind) → Transition
  Attach : (device : ℕ) (mode : Mode) (ats : Bool) → Transition
  Grant : (device page frame : ℕ) (rights : Rights) → Transition
  Release : (device page : ℕ) → Transition
  Detach : (device : ℕ) → Transition
  Quarantine : (device : ℕ) → Transition
  Revive : (device : ℕ) → Transition
  Restart : (devices : List ℕ) → Transition
  Confirm : (ticket : ℕ) → Transition
  -- requests of devices
  KeepContext : (device : ℕ) → Transition
  KeepTranslation : (copy : Copy) → Transition
  Accept : (copy : Copy) (kind : AccessKind) → Transition
  Make : Transition
  -- fetches of commands
  FetchIotinval : (device : ℕ) (extent : Extent) → Transition
  FetchIodir : (device : ℕ) → Transition
  FetchAtsInval : (device : ℕ) (extent : Extent) → Transition
  TakeSnapshot : (fence : ℕ) → Transition
  CompleteFence : (fence : ℕ) → Transition
  TimeOut : Transition
  -- messages, and caches of devices
  CarryMessages : Transition
  DeliverAnswer : (copy : Copy) → Transition
  DeliverRequest : (invalidation : Invalidation) (extent : Extent) → Transition
  DeliverCompletion : (invalidation : Invalidation) → Transition
  Reset : (device : ℕ) → Transition

-- it may occur in the one scene, and leaves the other
abbrev pub Occurs : Transition → Scene → Scene → Type 0
Occurs (Plug device kind) old new = DeviceIsPlugged old device kind new
Occurs (Attach device mode ats) old new = DeviceIsAttached old device mode ats new
Occurs (Grant device page frame rights) old new = PageIsGranted old device page frame rights new
Occurs (Release device page) old new = PageIsReleased old device page new
Occurs (Detach device) old new = DeviceIsDetached old device new
Occurs (Quarantine device) old new = DeviceIsQuarantined old device new
Occurs (Revive device) old new = DeviceIsRevived old device new
Occurs (Restart devices) old new = QueueIsRestarted old devices new
Occurs (Confirm ticket) old new = TicketIsConfirmed old ticket new
Occurs (KeepContext device) old new = ContextIsKept old device new
Occurs (KeepTranslation copy) old new = TranslationIsKept old copy new
Occurs (Accept copy kind) old new = AccessIsAccepted old copy kind new
Occurs Make old new = AccessIsMade old new
Occurs (FetchIotinval device extent) old new = TranslationsAreDropped old device extent new
Occurs (FetchIodir device) old new = ContextIsDropped old device new
Occurs (FetchAtsInval device extent) old new = SlotIsOpened old device extent new
Occurs (TakeSnapshot fence) old new = FenceTakesSnapshot old fence new
Occurs (CompleteFence fence) old new = FenceIsDone old fence new
Occurs TimeOut old new = FenceTimesOut old new
Occurs CarryMessages old new = MessagesAreCarried old new
Occurs (DeliverAnswer copy) old new = EntryIsKept old copy new
Occurs (DeliverRequest invalidation extent) old new = EntriesAreInvalidated old invalidation extent new
Occurs (DeliverCompletion invalidation) old new = SlotIsClosed old invalidation new
Occurs (Reset device) old new = DeviceIsReset old device new

-- these may occur one after another, and leave the scene
abbrev pub OccurInTurn : Scene → List Transition → Scene → Type 0
OccurInTurn old [] new = new ≡ old
OccurInTurn old (first ∷ others) new = (between : Scene) × Occurs first old between × OccurInTurn between others new
