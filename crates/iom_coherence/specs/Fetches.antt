-- What the IOMMU does with the command at the head of the queue (RISC-V IOMMU Architecture Specification, section 3.1).
use Rattle.std.specs.Prelude.{◌≡◌, ℕ, ◌+◌, ◌<◌, false, ◌==◌, ◌&&◌, true, List, [], ◌∷◌, ◌++◌, Contains, None, Some}
use Rattle.iom_coherence.specs.Queue.{Extent, extent_covers, QueuedCommand, DropTranslations, DropContext, Invalidate, Fence}
use Rattle.iom_coherence.specs.Scene.{Copy, AccessInFlight, Invalidation, AtsMessage, InvalidateRequest, Scene}
use Rattle.iom_coherence.specs.Among.{AreAmongWith}

-- each of these is one of the others, and of no page of the device in the extent
abbrev pub AreOutside : List Copy → ℕ → Extent → List Copy → Type 0
AreOutside left device extent copies =
    (copy : Copy) → Contains left copy → Contains copies copy × (((device == copy.device) && extent_covers extent copy.page) ≡ false)

-- IOTINVAL drops the cached translations that it covers, and perhaps others
abbrev pub TranslationsAreDropped : Scene → ℕ → Extent → Scene → Type 0
TranslationsAreDropped old device extent new = (later : List QueuedCommand) × (left : List Copy)
    × (old.waiting ≡ DropTranslations device extent ∷ later)
    × AreOutside left device extent old.translations
    × (new ≡ record old { waiting = later; translations = left })

-- IODIR.INVAL_DDT drops the device's cached context, and perhaps others
abbrev pub ContextIsDropped : Scene → ℕ → Scene → Type 0
ContextIsDropped old device new = (later : List QueuedCommand) × (left : List ℕ)
    × (old.waiting ≡ DropContext device ∷ later)
    × ((d : ℕ) → Contains left d → Contains old.contexts d × ((device == d) ≡ false))
    × (new ≡ record old { waiting = later; contexts = left })

-- the invalidation that the next ATS.INVAL begins
abbrev pub next_invalidation : Scene → ℕ → Invalidation
next_invalidation scene device = record { serial = scene.last_serial + 1; device = device }

-- ATS.INVAL opens a slot; its request is sent, or lost where the fabric is full
abbrev pub SlotIsOpened : Scene → ℕ → Extent → Scene → Type 0
SlotIsOpened old device extent new = (later : List QueuedCommand) × (messages : List AtsMessage)
    × (old.waiting ≡ Invalidate device extent ∷ later)
    × AreAmongWith messages (InvalidateRequest (next_invalidation old device) extent) old.messages
    × (new ≡ record old {
      waiting = later;
      slots = old.slots ++ next_invalidation old device ∷ [];
      last_serial = old.last_serial + 1;
      messages = messages;
    })

-- a fence takes a snapshot of the accesses, where no slot is open and commands are fetched
abbrev pub FenceTakesSnapshot : Scene → ℕ → Scene → Type 0
FenceTakesSnapshot old fence new = (later : List QueuedCommand) × (old.waiting ≡ Fence fence ∷ later)
    × ((slot : Invalidation) → ¬ Contains old.slots slot) × (old.is_stopped ≡ false)
    × (new ≡ record old { fence_snapshot = Some (record { fence = fence; accepted = old.accepted }) })

-- a fence that has taken its snapshot is done, and its number stored, once every access of the snapshot is made
abbrev pub FenceIsDone : Scene → ℕ → Scene → Type 0
FenceIsDone old fence new = (later : List QueuedCommand) × (accepted : ℕ)
    × (old.waiting ≡ Fence fence ∷ later) × (old.fence_snapshot ≡ Some (record { fence = fence; accepted = accepted }))
    × ((access : AccessInFlight) → Contains old.in_flight access → accepted < access.number)
    × (new ≡ record old { waiting = later; completed = fence; fence_snapshot = None })

-- a fence that waits for slots times out: they are closed, and nothing is fetched until a restart
abbrev pub FenceTimesOut : Scene → Scene → Type 0
FenceTimesOut old new = new ≡ record old { slots = []; fence_snapshot = None; is_stopped = true }
