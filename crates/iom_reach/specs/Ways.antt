-- The ways by which a device can reach a frame.
use Rattle.std.specs.Prelude.{◌≡◌, ◌⊎◌, ℕ, true, List, Contains, Option, None, Some}
use Rattle.iom_base.specs.declared.access.AccessKind.{AccessKind}
use Rattle.iom_base.specs.Rights.{allows}
use Rattle.iom_reach.specs.Memory.{Memory, Tables, WalkStep, Ends}
use Rattle.iom_reach.specs.Scene.{Mapping, AddressSpace, First, Second, Both, Stages, NoStage, FirstStage, SecondStage, BothStages, Context, Formats, Bare, At, Forges, Caches, Answer, HardwareScene, HasDevice}

-- the frame is this, and the right allows the kind
abbrev pub ServesKind : Mapping → ℕ → AccessKind → Type 0
ServesKind mapping frame kind = (mapping.frame ≡ frame) × (allows mapping.rights kind ≡ true)

-- the address space in which what these stages translate is cached
abbrev pub space_of : Stages → Option AddressSpace
space_of NoStage = None
space_of (FirstStage pscid tables) = Some (First pscid)
space_of (SecondStage gscid tables) = Some (Second gscid)
space_of (BothStages gscid pscid guest tables) = Some (Both gscid pscid)

-- The tables that decide what is reached: in both stages those of the second. The guest's own stand in frames that the guest may write, and lead at most
-- where the second stage leads.
abbrev pub tables_of : Stages → Option Tables
tables_of NoStage = None
tables_of (FirstStage pscid tables) = Some tables
tables_of (SecondStage gscid tables) = Some tables
tables_of (BothStages gscid pscid guest tables) = Some tables

-- a walk from the table ends at a leaf that maps some page so
abbrev pub LeadsToMapping : Formats → Memory → ℕ → (ℕ → List WalkStep) → Mapping → Type 0
LeadsToMapping formats memory table steps_to mapping = (page : ℕ) × Ends formats.entry memory table (steps_to page) mapping

-- the directory has this context for the device
abbrev pub IsStored : HardwareScene → ℕ → Context → Type 0
IsStored scene device context =
    (tables : Tables) × (scene.directory ≡ At tables)
    × Ends scene.formats.context scene.memory tables.root (scene.formats.steps_of tables.levels device) context

-- a walk of the directory that is under way for the device ends at this context: also where the directory has another for it now, or is off
abbrev pub IsSought : HardwareScene → ℕ → Context → Type 0
IsSought scene device context =
    (table : ℕ) × (steps : List WalkStep) × Contains scene.directory_walks (record { device = device; table = table; steps = steps })
    × Ends scene.formats.context scene.memory table steps context

-- the cached context, or the one in memory, since a cache may forget at any time. Neither is looked for in the modes Off and Bare
abbrev pub IsLookedUp : HardwareScene → ℕ → Context → Type 0
IsLookedUp scene device context =
    ((tables : Tables) × (scene.directory ≡ At tables))
    × ((scene.contexts device ≡ Some context) ⊎ IsStored scene device context)

-- A request of the device may find this context: by a look now, or by a walk that is under way.
abbrev pub MayFind : HardwareScene → ℕ → Context → Type 0
MayFind scene device context = HasDevice scene device × (IsLookedUp scene device context ⊎ IsSought scene device context)

-- the device has this in its cache, or would take it from an answer under way
abbrev pub IsKept : HardwareScene → (device page : ℕ) → Mapping → Type 0
IsKept scene device page mapping =
    Contains (scene.ats_entries device) (record { page = page; mapping = mapping })
    ⊎ ((epoch : ℕ) × Contains scene.messages (Answer device epoch page mapping) × (epoch ≡ scene.epoch_of device))

-- what a context with EN_ATS lets through: all of a device that forges, and what is in the cache of one that has one
abbrev pub LetsThrough : HardwareScene → ℕ → ℕ → AccessKind → Type 0
LetsThrough scene device frame kind =
    (scene.kind_of device ≡ Some Forges)
    ⊎ ((scene.kind_of device ≡ Some Caches)
    × ((page : ℕ) × (mapping : Mapping) × IsKept scene device page mapping × ServesKind mapping frame kind))

-- A walk of which what is found is kept in this address space may begin or go on here: at the root of the tables that decide, by any device's context in
-- that space; or where a part of it is done.
pub data WalkBegins (scene : HardwareScene) (space : AddressSpace) (table : ℕ) (steps_to : ℕ → List WalkStep) : Type 0 where
  AtRoot : (device : ℕ) (context : Context) (tables : Tables) → MayFind scene device context → space_of context.stages ≡ Some space
      → tables_of context.stages ≡ Some tables → tables.root ≡ table
      → steps_to ≡ scene.formats.steps_to context.stages → WalkBegins scene space table steps_to
  PartWay : (device : Option ℕ) → Contains scene.partial_walks (record { device = device; space = space; table = table; steps_to = steps_to })
      → WalkBegins scene space table steps_to

-- A cached translation in the space; or a leaf to which a walk leads that may begin in it, whoever's: what it finds is cached for all devices of the space.
abbrev pub IsInSpace : HardwareScene → AddressSpace → ℕ → AccessKind → Type 0
IsInSpace scene space frame kind =
    ((page : ℕ) × (mapping : Mapping) × (scene.translations (record { space = space; page = page }) ≡ Some mapping) × ServesKind mapping frame kind)
    ⊎ ((table : ℕ) × (steps_to : ℕ → List WalkStep) × (mapping : Mapping) × WalkBegins scene space table steps_to
    × LeadsToMapping scene.formats scene.memory table steps_to mapping × ServesKind mapping frame kind)

-- the ways through a context
pub data Through (scene : HardwareScene) (device : ℕ) (context : Context) (frame : ℕ) (kind : AccessKind) : Type 0 where
  -- EN_ATS
  ByAts : context.lets_ats ≡ true → LetsThrough scene device frame kind → Through scene device context frame kind
  -- both stages are Bare
  Untranslated : context.stages ≡ NoStage → Through scene device context frame kind
  -- a cached translation, or an entry
  Translated : (space : AddressSpace) → space_of context.stages ≡ Some space → IsInSpace scene space frame kind → Through scene device context frame kind

-- THE WAYS
pub data Way (scene : HardwareScene) (device frame : ℕ) (kind : AccessKind) : Type 0 where
  -- an access in flight
  Accepted : Contains (scene.in_flight device) (record { frame = frame; kind = kind }) → Way scene device frame kind
  -- ddtp in mode Bare
  AnyFrame : HasDevice scene device → scene.directory ≡ Bare → Way scene device frame kind
  -- through a context that a request may find
  ByContext : (context : Context) → MayFind scene device context → Through scene device context frame kind → Way scene device frame kind
  -- a walk of the device that is under way
  OnTheWalk : (space : AddressSpace) (table : ℕ) (steps_to : ℕ → List WalkStep) (mapping : Mapping)
      → Contains scene.partial_walks (record { device = Some device; space = space; table = table; steps_to = steps_to })
      → LeadsToMapping scene.formats scene.memory table steps_to mapping → ServesKind mapping frame kind → Way scene device frame kind
