-- What lies between the grants and memory, as values that are read off the parts of a world; and the scene of which the facts on copies speak.
-- For the facts that a world carries alone; no public contract cites these.
use Rattle.std.specs.Prelude.{◌≡◌, ℕ, ◌-◌, Bool, true, List, [], Contains, Option, None, Some, ⊤}
use Rattle.iom_command_queue.specs.declared.entry.QueueEntry.{QueueEntry}
use Rattle.iom_coherence.specs.Faithful.{IsFaithful}
use Rattle.iom_coherence.specs.Queue.{QueuedCommand}
use Rattle.iom_coherence.specs.Scene.{AccessInFlight, Copy, Scene, FenceSnapshot}
use Rattle.iom_ledger.specs.declared.ledger.Ledger.{Ledger}
use Rattle.iom_ledger.specs.Shown.{Agrees}
use Rattle.iom_machine.specs.declared.state.Attachment.{Attachment}
use Rattle.iom_machine.specs.declared.state.Attachment.TheVariants.{Detached, Attached, Quarantined, Leaving}
use Rattle.iom_base.specs.declared.device_kind.DeviceKind.{DeviceKind}
use Rattle.iom_walk_coherence.specs.Walks.{Walk}
use Rattle.iom_walk_coherence.specs.Faithful.{AreFaithfulWalks}
use Rattle.iom_tlb.specs.declared.space.Space.{Space}
use Rattle.iom_tlb.specs.declared.trans_cache.Translation.{Translation}
use Rattle.iom_tlb.specs.Content.{Key, Translations}
use Rattle.iom_world_effects.specs.Queued.{AreQueuedAs, ComeBefore, pending_after}
use Rattle.iom_world_effects.specs.Traffic.{Traffic, under_way}

pub record Values : Type 0 where
  -- what is held and what lingers
  pub ledger : Ledger
  -- where fences store their numbers
  pub address : ℕ
  -- the commands between head and tail of the ring
  pub waiting : List QueueEntry
  -- the number that the last fence that was done stored
  pub completed : ℕ
  -- the number of the last fence that was queued, and that of the fence which a ticket waits for
  pub last_fence : ℕ
  pub fence_of : ℕ → ℕ
  -- the last ticket that was given, and that was confirmed
  pub given : ℕ
  pub confirmed : ℕ
  -- how many accesses were accepted, and those that aren't made yet
  pub so_far : ℕ
  pub in_flight : List AccessInFlight
  -- what the device with this id is, if one is plugged in, how it is attached, and whether its context is cached
  pub kind_of : ℕ → Option DeviceKind
  pub attachment_of : ℕ → Attachment
  pub is_cached : ℕ → Bool
  -- the address space of a device that has one
  pub space_of : ℕ → Option Space
  -- the translations that are cached
  pub translations : Translations
  -- how many accesses were accepted when the fence at the head was first fetched, if it was
  pub fence_snapshot : Option ℕ
  -- whether a fence was given up, and the driver didn't restart since
  pub is_stopped : Bool
  -- what is under way between the IOMMU and the devices' caches
  pub traffic : Traffic

-- what is remembered of a device's page by a cached translation
abbrev pub copy_of : ℕ → ℕ → Translation → Copy
copy_of device page translation = record { device = device; page = page; pair = (translation.frame, translation.rights) }

-- a cached translation is of the address space of a device, and among what the scene has of cached translations
pub record IsSomebodys (space_of : ℕ → Option Space) (translations : List Copy) (key : Key) (translation : Translation) : Type 0 where
  pub device : ℕ
  pub own : space_of device ≡ Some key.0
  pub there : Contains translations (copy_of device key.1 translation)

-- the fence at the head has taken its snapshot, if it was fetched
abbrev pub IsSnapshotOf : Option ℕ → Option FenceSnapshot → Type 0
IsSnapshotOf None None = ⊤
IsSnapshotOf None (Some taken) = ⊥
IsSnapshotOf (Some counted) None = ⊥
IsSnapshotOf (Some counted) (Some taken) = taken.accepted ≡ counted

-- a leaving device's invalidations are queued in front of the fence of its ticket
abbrev pub GoesInOrder : (ℕ → ℕ) → ℕ → Attachment → List QueuedCommand → Type 0
GoesInOrder fence_of device Detached waiting = ⊤
GoesInOrder fence_of device (Attached mode ats) waiting = ⊤
GoesInOrder fence_of device (Quarantined ticket mode ats) waiting = ⊤
GoesInOrder fence_of device (Leaving ticket mode ats) waiting = ComeBefore device (fence_of ticket) waiting

-- the scene is made of these values: of what is cached it may have more
pub record IsSceneOf (values : Values) (scene : Scene) : Type 0 where
  pub ledger : Agrees values.ledger scene.history
  pub waiting : AreQueuedAs values.address values.space_of values.waiting scene.waiting
  pub completed : scene.completed ≡ values.completed
  pub last_fence : scene.last_fence ≡ values.last_fence
  pub pending : scene.pending ≡ pending_after values.fence_of values.confirmed (values.given - values.confirmed)
  pub given : scene.given ≡ values.given
  pub confirmed : scene.confirmed ≡ values.confirmed
  pub accepted : scene.accepted ≡ values.so_far
  pub in_flight : scene.in_flight ≡ values.in_flight
  pub kinds : (id : ℕ) → scene.kind_of id ≡ values.kind_of id
  pub attachments : (id : ℕ) → scene.attachment_of id ≡ values.attachment_of id
  pub contexts : (id : ℕ) → values.is_cached id ≡ true → Contains scene.contexts id
  pub translations : (key : Key) (translation : Translation) → values.translations key ≡ Some translation
      → IsSomebodys values.space_of scene.translations key translation
  pub fence_snapshot : IsSnapshotOf values.fence_snapshot scene.fence_snapshot
  pub leaving : (id : ℕ) → GoesInOrder values.fence_of id (values.attachment_of id) scene.waiting
  pub traffic : under_way scene ≡ values.traffic
  pub stopped : scene.is_stopped ≡ values.is_stopped

-- the facts on copies hold of the scene, and each of these walks stands where it may
pub record FactsHold (scene : Scene) (walks : List Walk) : Type 0 where
  pub copies : IsFaithful scene
  pub standing : AreFaithfulWalks scene walks

-- there is such a scene, of which the facts hold, with these walks under way
abbrev pub HasSceneWith : Values → List Walk → Type 0
HasSceneWith values walks = (scene : Scene) × IsSceneOf values scene × FactsHold scene walks

-- the same, where none is under way: each walk makes all its loads in one event
abbrev pub HasFaithfulScene : Values → Type 0
HasFaithfulScene values = HasSceneWith values []
