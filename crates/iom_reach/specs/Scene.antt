-- What lies between a device and memory, as plain values: what is cached where, what is under way, and the memory that walks read.
use Rattle.std.specs.Prelude.{◌≡◌, ℕ, Bool, List, Option, Some}
use Rattle.iom_base.specs.declared.access.AccessKind.{AccessKind}
use Rattle.iom_base.specs.declared.rights.Rights.{Rights}
use Rattle.iom_reach.specs.Memory.{Memory, Tables, Frame, Format, WalkStep}

-- where a page is mapped: a frame, and the right to it
pub record Mapping : Type 0 where
  pub frame : ℕ
  pub rights : Rights

-- an address space: translations are cached by a page of one
pub data AddressSpace : Type 0 where
  First : (pscid : ℕ) → AddressSpace
  Second : (gscid : ℕ) → AddressSpace
  Both : (gscid pscid : ℕ) → AddressSpace

-- which stages of a context translate, and by which tables
pub data Stages : Type 0 where
  NoStage : Stages
  FirstStage : (pscid : ℕ) (tables : Tables) → Stages
  SecondStage : (gscid : ℕ) (tables : Tables) → Stages
  -- the guest's own tables stand in front of those of the second stage
  BothStages : (gscid pscid : ℕ) (guest tables : Tables) → Stages

-- a device context
pub record Context : Type 0 where
  -- EN_ATS: it lets questions and translated requests through
  pub lets_ats : Bool
  pub stages : Stages

-- how memory is read: by any formats
pub record Formats : Type 0 where
  -- an entry of a page table; a leaf says where the page is mapped
  pub entry : Format Mapping
  -- an entry of the directory; a leaf is a context
  pub context : Format Context
  -- the frame into which the command at an offset of a frame stores its word, if it is a fence that stores one
  pub word : Frame → ℕ → Option ℕ
  -- the steps of a walk to a page, by the stages that are walked
  pub steps_to : Stages → ℕ → List WalkStep
  -- the steps to the context of a device, in a directory of so many levels
  pub steps_of : ℕ → ℕ → List WalkStep

-- ddtp
pub data Directory : Type 0 where
  -- no device is let through
  Off : Directory
  -- no address is translated
  Bare : Directory
  -- contexts stand in this tree
  At : (tables : Tables) → Directory

-- what a device does with translated requests
pub data AtsKind : Type 0 where
  -- it sends them to any address
  Forges : AtsKind
  -- it has a cache of its own, and sends them by what it has there
  Caches : AtsKind
  -- it sends none: a context's EN_ATS changes nothing for it
  Plain : AtsKind

-- a page of an address space
pub record SpacePage : Type 0 where
  pub space : AddressSpace
  pub page : ℕ

-- what a device's own cache has of a page
pub record AtsEntry : Type 0 where
  pub page : ℕ
  pub mapping : Mapping

-- an access that was accepted and isn't made yet
pub record PendingAccess : Type 0 where
  pub frame : ℕ
  pub kind : AccessKind

pub data Message : Type 0 where
  -- a device's question for the translation of a page, in its epoch
  Question : (device epoch page : ℕ) → Message
  -- the answer to a question of that epoch
  Answer : (device epoch page : ℕ) (mapping : Mapping) → Message
  -- an answer that there is no translation, requests to invalidate, and their completions: no way leads through them
  Other : Message

-- A walk of which a part is done: one that is under way, or any that finds a cached pointer to a table. A walk in both stages that is under way is several
-- of these: the table of the second stage that it has in hand, and the root from which its later walks of that stage begin.
pub record PartialWalk : Type 0 where
  -- whose walk it is, if it is under way
  pub device : Option ℕ
  -- the address space in which it is kept what is found
  pub space : AddressSpace
  -- the table in hand
  pub table : ℕ
  -- the steps that are left, by the page
  pub steps_to : ℕ → List WalkStep

-- A walk of the directory that is under way: where it ends, the context of its device is found.
pub record DirectoryWalk : Type 0 where
  -- whose walk it is
  pub device : ℕ
  -- the page of the directory in hand
  pub table : ℕ
  -- the steps that are left
  pub steps : List WalkStep

-- where a command stands: the frame, and the offset there
pub record Place : Type 0 where
  pub frame : ℕ
  pub offset : ℕ

-- All of it, between two events.
pub record HardwareScene : Type 0 where
  pub formats : Formats
  pub memory : Memory
  pub directory : Directory
  -- where the commands between head and tail stand, the oldest first; none where the queue is off
  pub waiting : List Place
  -- the frames of the fault queue; none where it is off
  pub fault_frames : List ℕ
  -- what the device is, if one is plugged in with this id
  pub kind_of : ℕ → Option AtsKind
  -- software entrusts it with all memory, as where no address of it is translated: what it stores counts as stored by software
  pub is_trusted : ℕ → Bool
  -- the context cache, by device
  pub contexts : ℕ → Option Context
  -- the cache of translations
  pub translations : SpacePage → Option Mapping
  -- walks under way, and cached pointers to tables
  pub partial_walks : List PartialWalk
  -- walks of the directory that are under way
  pub directory_walks : List DirectoryWalk
  -- the caches of the devices, by device
  pub ats_entries : ℕ → List AtsEntry
  -- the epochs of these caches
  pub epoch_of : ℕ → ℕ
  pub messages : List Message
  -- the accesses in flight, by device
  pub in_flight : ℕ → List PendingAccess

-- something is plugged in with this id
abbrev pub HasDevice : HardwareScene → ℕ → Type 0
HasDevice scene device = (kind : AtsKind) × (scene.kind_of device ≡ Some kind)

-- the same, where entries of page tables are read by this format
abbrev pub reading : Format Mapping → HardwareScene → HardwareScene
reading entry scene = record scene { formats = record scene.formats { entry = entry } }
