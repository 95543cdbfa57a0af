-- All that hardware and devices do to a scene by themselves: whatever is fetched, asked, delivered, lost, repeated, refused or forgotten.
use Rattle.std.specs.Prelude.{◌≡◌, ◌⊎◌, ℕ, ◌+◌, ◌≤◌, ◌==◌, true, List, [], ◌∷◌, Contains, Option, None, Some, ⊤, if◌then◌else◌}
use Rattle.iom_base.specs.declared.access.AccessKind.{AccessKind}
use Rattle.iom_base.specs.declared.access.AccessKind.TheVariants.{Read, Write}
use Rattle.iom_base.specs.Rights.{allows}
use Rattle.iom_reach.specs.Memory.{Memory, Tables, WalkStep, Passes, DiffersAt}
use Rattle.iom_reach.specs.Scene.{Mapping, AddressSpace, SpacePage, NoStage, Context, Bare, At, Forges, Caches, AtsEntry, PendingAccess, Message, Question, Answer, Other, PartialWalk, DirectoryWalk, Place, HardwareScene, HasDevice}
use Rattle.iom_reach.specs.Ways.{ServesKind, space_of, LeadsToMapping, IsStored, IsSought, MayFind, WalkBegins}
use Rattle.iom_reach.specs.Safe.{IsRead}

-- each element is one of the others, or this one
abbrev pub AreSomeOfOr : {X : Type 0} → List X → X → List X → Type 0
AreSomeOfOr {X} some new all = (x : X) → Contains some x → (x ≡ new) ⊎ Contains all x

-- of each device, each element is one of the others
abbrev pub AreSomeOf : {X : Type 0} → (ℕ → List X) → (ℕ → List X) → Type 0
AreSomeOf {X} some all = (device : ℕ) (x : X) → Contains (some device) x → Contains (all device) x

-- of each device, each element is one of the others, or is this one of this device
abbrev pub AreAmongWithOf : {X : Type 0} → (ℕ → List X) → ℕ → X → (ℕ → List X) → Type 0
AreAmongWithOf {X} some owner new all = (device : ℕ) (x : X) → Contains (some device) x → ((device ≡ owner) × (x ≡ new)) ⊎ Contains (all device) x

-- what a cache has it had
abbrev pub IsPartOf : {K V : Type 0} → (K → Option V) → (K → Option V) → Type 0
IsPartOf {K} {V} some all = (key : K) (value : V) → some key ≡ Some value → all key ≡ Some value

-- what a cache has it had, or it is this
abbrev pub IsPartWith : {K V : Type 0} → (K → Option V) → K → V → (K → Option V) → Type 0
IsPartWith {K} {V} some new_key new_value all =
    (key : K) (value : V) → some key ≡ Some value → ((key ≡ new_key) × (value ≡ new_value)) ⊎ (all key ≡ Some value)

-- the caches forget: by invalidations, or by themselves
abbrev pub CachesForget : HardwareScene → HardwareScene → Type 0
CachesForget old new =
    (contexts : ℕ → Option Context) × (translations : SpacePage → Option Mapping)
    × IsPartOf contexts old.contexts × IsPartOf translations old.translations
    × (new ≡ record old { contexts = contexts; translations = translations })

-- the context of a device that the directory has, or at which a walk ends that is under way, is cached; others may go, also the device's older one
abbrev pub CachesContext : HardwareScene → ℕ → HardwareScene → Type 0
CachesContext old device new =
    (context : Context) × (kept : ℕ → Option Context)
    × HasDevice old device × (IsStored old device context ⊎ IsSought old device context)
    × IsPartWith kept device context old.contexts
    × (new ≡ record old { contexts = kept })

-- A walk from the table gives this mapping: in one stage the very leaf. In both the guest's tables, whatever stands in them, lead to a page of the second
-- stage, and allow no more than its leaf.
abbrev pub WalkGives : HardwareScene → ℕ → (ℕ → List WalkStep) → Mapping → Type 0
WalkGives scene table steps_to mapping =
    (leaf : Mapping) × LeadsToMapping scene.formats scene.memory table steps_to leaf × (mapping.frame ≡ leaf.frame)
    × ((kind : AccessKind) → allows mapping.rights kind ≡ true → allows leaf.rights kind ≡ true)

-- a walk gives a mapping, which is cached in its address space; others may go
abbrev pub CachesTranslation : HardwareScene → HardwareScene → Type 0
CachesTranslation old new =
    (space : AddressSpace) × (table : ℕ) × (steps_to : ℕ → List WalkStep) × (page : ℕ) × (mapping : Mapping) × (kept : SpacePage → Option Mapping)
    × WalkBegins old space table steps_to × WalkGives old table steps_to mapping
    × IsPartWith kept (record { space = space; page = page }) mapping old.translations
    × (new ≡ record old { translations = kept })

-- the device walks in the space, from this table: by a context of its own, or it is under way there
abbrev pub IsOwned : HardwareScene → ℕ → AddressSpace → ℕ → (ℕ → List WalkStep) → Type 0
IsOwned scene device space table steps_to =
    ((context : Context) × MayFind scene device context × (space_of context.stages ≡ Some space))
    ⊎ Contains scene.partial_walks (record { device = Some device; space = space; table = table; steps_to = steps_to })

-- Where a walk may begin, it passes there: the table that it has then, or a pointer to it that is cached.
abbrev pub IsContinued : HardwareScene → PartialWalk → Type 0
IsContinued scene walk =
    (table : ℕ) × (steps_to : ℕ → List WalkStep) × WalkBegins scene walk.space table steps_to
    × ((device : ℕ) → walk.device ≡ Some device → IsOwned scene device walk.space table steps_to)
    × ((page : ℕ) → (to : ℕ) × Passes scene.formats.entry scene.memory table (steps_to to) walk.table (walk.steps_to page))

-- the same of a walk of the directory: it begins at the root, if its device is plugged in, or where one of that device is under way
abbrev pub IsSoughtOn : HardwareScene → DirectoryWalk → Type 0
IsSoughtOn scene walk =
    (HasDevice scene walk.device
    × ((tables : Tables) × (scene.directory ≡ At tables)
    × Passes scene.formats.context scene.memory tables.root (scene.formats.steps_of tables.levels walk.device) walk.table walk.steps))
    ⊎ ((table : ℕ) × (steps : List WalkStep) × Contains scene.directory_walks (record { device = walk.device; table = table; steps = steps })
    × Passes scene.formats.context scene.memory table steps walk.table walk.steps)

-- walks begin, go on and end, and pointers are cached and forgotten; and what was let through may be given up before it is made
abbrev pub WalksGoOn : HardwareScene → HardwareScene → Type 0
WalksGoOn old new =
    (kept : List PartialWalk) × (sought : List DirectoryWalk) × (left : ℕ → List PendingAccess)
    × ((walk : PartialWalk) → Contains kept walk → IsContinued old walk ⊎ Contains old.partial_walks walk)
    × ((walk : DirectoryWalk) → Contains sought walk → IsSoughtOn old walk ⊎ Contains old.directory_walks walk)
    × AreSomeOf left old.in_flight
    × (new ≡ record old { partial_walks = kept; directory_walks = sought; in_flight = left })

-- what a context translates a page to: anything, where both stages are Bare; a cached translation of its space; or what a walk gives
pub data TranslatesTo (scene : HardwareScene) (context : Context) (page : ℕ) (mapping : Mapping) : Type 0 where
  ToItself : context.stages ≡ NoStage → TranslatesTo scene context page mapping
  ByCache : (space : AddressSpace) → space_of context.stages ≡ Some space
      → scene.translations (record { space = space; page = page }) ≡ Some mapping → TranslatesTo scene context page mapping
  ByWalk : (space : AddressSpace) (table : ℕ) (steps_to : ℕ → List WalkStep) → space_of context.stages ≡ Some space → WalkBegins scene space table steps_to
      → WalkGives scene table steps_to mapping → TranslatesTo scene context page mapping

-- why an access of the device on the frame is accepted
pub data IsAdmitted (scene : HardwareScene) (device frame : ℕ) (kind : AccessKind) : Type 0 where
  -- a request in mode Bare
  InModeBare : HasDevice scene device → scene.directory ≡ Bare → IsAdmitted scene device frame kind
  -- a request that the device's context translates
  Requested : (context : Context) (page : ℕ) (mapping : Mapping) → MayFind scene device context
      → TranslatesTo scene context page mapping → ServesKind mapping frame kind → IsAdmitted scene device frame kind
  -- a translated request by an entry of the device's cache
  FromEntry : (context : Context) (page : ℕ) (mapping : Mapping) → MayFind scene device context → context.lets_ats ≡ true → scene.kind_of device ≡ Some Caches
      → Contains (scene.ats_entries device) (record { page = page; mapping = mapping }) → ServesKind mapping frame kind → IsAdmitted scene device frame kind
  -- a translated request that the device forged
  Forged : (context : Context) → MayFind scene device context → context.lets_ats ≡ true → scene.kind_of device ≡ Some Forges → IsAdmitted scene device frame kind
  -- a request whose walk was under way
  Walked : (space : AddressSpace) (table : ℕ) (steps_to : ℕ → List WalkStep) (mapping : Mapping)
      → Contains scene.partial_walks (record { device = Some device; space = space; table = table; steps_to = steps_to })
      → WalkGives scene table steps_to mapping → ServesKind mapping frame kind → IsAdmitted scene device frame kind

-- an access of the device is accepted, and in flight beside the others
abbrev pub AdmitsAccess : HardwareScene → ℕ → PendingAccess → HardwareScene → Type 0
AdmitsAccess old device access new =
    (in_flight : ℕ → List PendingAccess) × IsAdmitted old device access.frame access.kind
    × AreAmongWithOf in_flight device access old.in_flight × (new ≡ record old { in_flight = in_flight })

-- memory after an access: a write changes its frame alone
abbrev pub IsMemoryAfter : AccessKind → ℕ → Memory → Memory → Type 0
IsMemoryAfter Read frame old new = new ≡ old
IsMemoryAfter Write frame old new = DiffersAt frame old new

-- where the device is trusted, it doesn't write what hardware reads: that would count as a store of software
abbrev pub IsHarmless : HardwareScene → ℕ → PendingAccess → Type 0
IsHarmless scene device access = scene.is_trusted device ≡ true → access.kind ≡ Write → ¬ IsRead scene access.frame

-- it is made, and in flight no more
abbrev pub AccessGoesThrough : HardwareScene → ℕ → PendingAccess → HardwareScene → Type 0
AccessGoesThrough old device access new =
    (left : ℕ → List PendingAccess) × (memory : Memory) × Contains (old.in_flight device) access × AreSomeOf left old.in_flight × IsHarmless old device access
    × IsMemoryAfter access.kind access.frame old.memory memory
    × (new ≡ record old { in_flight = left; memory = memory })

-- a refused request leaves a record in the fault queue
abbrev pub FaultIsRecorded : HardwareScene → HardwareScene → Type 0
FaultIsRecorded old new =
    (frame : ℕ) × (memory : Memory) × Contains old.fault_frames frame × DiffersAt frame old.memory memory
    × (new ≡ record old { memory = memory })

-- memory after a command: a fence may change the frame of its word
abbrev pub IsMemoryBy : Option ℕ → Memory → Memory → Type 0
IsMemoryBy None old new = new ≡ old
IsMemoryBy (Some frame) old new = DiffersAt frame old new

-- Whatever command stands at the head is done, as memory has it: caches may lose any part, and requests to invalidate are sent.
abbrev pub CommandIsDone : HardwareScene → HardwareScene → Type 0
CommandIsDone old new =
    (place : Place) × (later : List Place) × (memory : Memory) × (contexts : ℕ → Option Context) × (translations : SpacePage → Option Mapping) × (messages : List Message)
    × (old.waiting ≡ place ∷ later)
    × IsMemoryBy (old.formats.word (old.memory place.frame) place.offset) old.memory memory
    × IsPartOf contexts old.contexts × IsPartOf translations old.translations × AreSomeOfOr messages Other old.messages
    × (new ≡ record old { waiting = later; memory = memory; contexts = contexts; translations = translations; messages = messages })

-- What may be sent. A device asks in an epoch that its cache has come to, unless it forges. A question is answered, in its own epoch, by a context with EN_ATS.
abbrev pub IsSendable : HardwareScene → Message → Type 0
IsSendable scene (Question device epoch page) = scene.kind_of device ≡ Some Caches → epoch ≤ scene.epoch_of device
IsSendable scene (Answer device epoch page mapping) =
    Contains scene.messages (Question device epoch page)
    × ((context : Context) × MayFind scene device context × (context.lets_ats ≡ true) × TranslatesTo scene context page mapping)
IsSendable scene Other = ⊤

-- messages are sent, lost, repeated and reordered
abbrev pub CarriesMessages : HardwareScene → HardwareScene → Type 0
CarriesMessages old new = (messages : List Message)
    × ((message : Message) → Contains messages message → IsSendable old message ⊎ Contains old.messages message)
    × (new ≡ record old { messages = messages })

-- an answer of its device's epoch is delivered: its page is kept, and others may go
abbrev pub KeepsAtsEntry : HardwareScene → HardwareScene → Type 0
KeepsAtsEntry old new = (device : ℕ) × (epoch : ℕ) × (page : ℕ) × (mapping : Mapping) × (kept : ℕ → List AtsEntry)
    × Contains old.messages (Answer device epoch page mapping) × (epoch ≡ old.epoch_of device)
    × AreAmongWithOf kept device (record { page = page; mapping = mapping }) old.ats_entries × (new ≡ record old { ats_entries = kept })

-- the epochs, where this device's is raised
abbrev pub with_raised_epoch : (ℕ → ℕ) → ℕ → ℕ → ℕ
with_raised_epoch epoch_of device d = if device == d then epoch_of d + 1 else epoch_of d

-- a device is reset, or obeys a request to invalidate: its cache loses any part, and its epoch is raised
abbrev pub EntriesAreDropped : HardwareScene → ℕ → HardwareScene → Type 0
EntriesAreDropped old device new = (left : ℕ → List AtsEntry)
    × AreSomeOf left old.ats_entries × (new ≡ record old { ats_entries = left; epoch_of = with_raised_epoch old.epoch_of device })

pub data Transition : Type 0 where
  Forget : Transition
  KeepContext : (device : ℕ) → Transition
  GoOn : Transition
  KeepTranslation : Transition
  Accept : (device : ℕ) (access : PendingAccess) → Transition
  Make : (device : ℕ) (access : PendingAccess) → Transition
  RecordFault : Transition
  DoCommand : Transition
  CarryMessages : Transition
  DeliverAnswer : Transition
  DropEntries : (device : ℕ) → Transition

-- it may occur in the one scene, and leaves the other
abbrev pub ComesAbout : Transition → HardwareScene → HardwareScene → Type 0
ComesAbout Forget old new = CachesForget old new
ComesAbout (KeepContext device) old new = CachesContext old device new
ComesAbout GoOn old new = WalksGoOn old new
ComesAbout KeepTranslation old new = CachesTranslation old new
ComesAbout (Accept device access) old new = AdmitsAccess old device access new
ComesAbout (Make device access) old new = AccessGoesThrough old device access new
ComesAbout RecordFault old new = FaultIsRecorded old new
ComesAbout DoCommand old new = CommandIsDone old new
ComesAbout CarryMessages old new = CarriesMessages old new
ComesAbout DeliverAnswer old new = KeepsAtsEntry old new
ComesAbout (DropEntries device) old new = EntriesAreDropped old device new

-- these may occur one after another, and leave the scene
abbrev pub ComeInTurn : HardwareScene → List Transition → HardwareScene → Type 0
ComeInTurn old [] new = new ≡ old
ComeInTurn old (first ∷ others) new = (between : HardwareScene) × ComesAbout first old between × ComeInTurn between others new
