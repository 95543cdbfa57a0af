-- What must hold beside the ways: hardware and devices can't write what hardware reads.
use Rattle.std.specs.Prelude.{◌≡◌, ◌⊎◌, ℕ, false, ◌≤◌, Contains, List, Some}
use Rattle.iom_base.specs.declared.access.AccessKind.TheVariants.{Write}
use Rattle.iom_reach.specs.Memory.{Tables, WalkStep, ReadsFrame}
use Rattle.iom_reach.specs.Scene.{AddressSpace, Mapping, Place, At, Caches, Question, Answer, DirectoryWalk, HardwareScene, HasDevice}
use Rattle.iom_reach.specs.Ways.{WalkBegins, Way}

-- a walk that may begin somewhere reads the frame: of both stages that of the second, and not of the guest's own tables
abbrev pub IsOfTables : HardwareScene → ℕ → Type 0
IsOfTables scene frame =
    (space : AddressSpace) × (table : ℕ) × (steps_to : ℕ → List WalkStep) × (page : ℕ) × WalkBegins scene space table steps_to
    × ReadsFrame scene.formats.entry scene.memory table (steps_to page) frame

-- the walk to the context of a device that is plugged in reads the frame, from the root of the directory; or from where it is under way
abbrev pub IsOfDirectory : HardwareScene → ℕ → Type 0
IsOfDirectory scene frame =
    ((device : ℕ) × (tables : Tables) × HasDevice scene device × (scene.directory ≡ At tables)
    × ReadsFrame scene.formats.context scene.memory tables.root (scene.formats.steps_of tables.levels device) frame)
    ⊎ ((walk : DirectoryWalk) × Contains scene.directory_walks walk × ReadsFrame scene.formats.context scene.memory walk.table walk.steps frame)

-- a command that waits stands in the frame
abbrev pub IsOfQueue : HardwareScene → ℕ → Type 0
IsOfQueue scene frame = (offset : ℕ) × Contains scene.waiting (record { frame = frame; offset = offset })

-- hardware reads the frame, and what it may do depends on what it finds there
abbrev pub IsRead : HardwareScene → ℕ → Type 0
IsRead scene frame = IsOfTables scene frame ⊎ (IsOfDirectory scene frame ⊎ IsOfQueue scene frame)

-- a fence that waits stores its word there
abbrev pub HasWord : HardwareScene → ℕ → Type 0
HasWord scene frame =
    (place : Place) × Contains scene.waiting place × (scene.formats.word (scene.memory place.frame) place.offset ≡ Some frame)

-- hardware or a device may write the frame: some device that isn't trusted by any of its ways, the IOMMU a fault record or the word of a fence
abbrev pub IsWritable : HardwareScene → ℕ → Type 0
IsWritable scene frame =
    ((device : ℕ) × (scene.is_trusted device ≡ false) × Way scene device frame Write) ⊎ (Contains scene.fault_frames frame ⊎ HasWord scene frame)

-- what hardware reads nobody but software writes
abbrev pub IsSafe : HardwareScene → Type 0
IsSafe scene = (frame : ℕ) → IsRead scene frame → ¬ IsWritable scene frame

-- no question of a device with a cache, and no answer to one, is of an epoch to come
pub record AreTimely (scene : HardwareScene) : Type 0 where
  pub asked : (device epoch page : ℕ) → scene.kind_of device ≡ Some Caches → Contains scene.messages (Question device epoch page) → epoch ≤ scene.epoch_of device
  pub answered : (device epoch page : ℕ) (mapping : Mapping) → scene.kind_of device ≡ Some Caches
      → Contains scene.messages (Answer device epoch page mapping) → epoch ≤ scene.epoch_of device
