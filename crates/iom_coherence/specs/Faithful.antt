-- The facts that hold between any two events: no copy outlives what it copies.
use Rattle.std.specs.Prelude.{◌≡◌, ℕ, ◌≤◌, Bool, true, false, List, ◌∷◌, Contains, Some, Option, ⊤}
use Rattle.iom_ledger.specs.History.{History, confirms}
use Rattle.iom_machine.specs.declared.state.Attachment.{Attachment}
use Rattle.iom_machine.specs.declared.state.Attachment.TheVariants.{Detached, Attached, Quarantined, Leaving}
use Rattle.iom_base.specs.declared.device_kind.DeviceKind.{DeviceKind}
use Rattle.iom_coherence.specs.Queue.{Extent, QueuedCommand, Fence}
use Rattle.iom_coherence.specs.Scene.{Copy, AccessInFlight, Invalidation, AtsMessage, Question, Answer, InvalidateRequest, InvalidateCompletion, Scene}
use Rattle.iom_coherence.specs.Attachments.{has_ats, caches_translations, may_forge}
use Rattle.iom_coherence.specs.Holdings.{HoldsNoPage, LingersOnNothing, LingersUpTo, AreApart}
use Rattle.iom_coherence.specs.ToCome.{FencesRise, TicketsRise}
use Rattle.iom_coherence.specs.Copies.{IsFaithfulTranslation, IsFaithfulAccess, IsFaithfulContext, IsFaithfulEntry}

-- what a device that is attached so may hold and linger on
abbrev pub GrantsFit : History → ℕ → Attachment → Type 0
GrantsFit history device Detached = HoldsNoPage history device × LingersOnNothing history device
GrantsFit history device (Attached mode ats) = ⊤
GrantsFit history device (Quarantined ticket mode ats) = HoldsNoPage history device × LingersUpTo history device ticket
GrantsFit history device (Leaving ticket mode ats) = HoldsNoPage history device × LingersOnNothing history device

-- the fence may have taken its snapshot: it is at the head, no slot is open, and commands are fetched
pub record HasSnapshot (waiting : List QueuedCommand) (slots : List Invalidation) (is_stopped : Bool) (fence : ℕ) : Type 0 where
  -- the fence is what the next fetch finds
  pub head : (later : List QueuedCommand) × (waiting ≡ Fence fence ∷ later)
  -- no slot is open
  pub closed : (slot : Invalidation) → ¬ Contains slots slot
  -- no fence has timed out since the last restart
  pub goes_on : is_stopped ≡ false

-- fences, tickets, grants and attachments
pub record IsOrdered (scene : Scene) : Type 0 where
  -- the fences in the queue rise from above the last that is done: so no done fence stands in the queue
  pub fences : FencesRise scene.completed scene.waiting scene.last_fence
  -- the pending tickets rise from above the last that was confirmed
  pub tickets : TicketsRise scene.confirmed scene.pending scene.given
  -- no ticket above that is confirmed
  pub confirmed : (ticket : ℕ) → confirms scene.history ticket ≡ true → ticket ≤ scene.confirmed
  -- whatever lingers does so under a ticket that was given
  pub lingering : (device : ℕ) → LingersUpTo scene.history device scene.given
  -- nothing lingers where something is held
  pub apart : AreApart scene.history
  -- the accesses in flight have numbers up to the last
  pub counted : (access : AccessInFlight) → Contains scene.in_flight access → access.number ≤ scene.accepted
  -- a snapshot is that of the fence at the head, and was taken while no slot was open
  pub snapshot_taken : (fence accepted : ℕ) → scene.fence_snapshot ≡ Some (record { fence = fence; accepted = accepted })
      → HasSnapshot scene.waiting scene.slots scene.is_stopped fence
  -- a device holds and lingers on no more than its attachment lets it
  pub grants : (device : ℕ) → GrantsFit scene.history device (scene.attachment_of device)
  -- a device that is attached with ATS has a cache of its own
  pub cached : (device : ℕ) → has_ats (scene.attachment_of device) ≡ true → caches_translations (scene.kind_of device) ≡ true

-- the epochs and serials of messages and slots were given
pub record HaveGivenNumbers (messages : List AtsMessage) (slots : List Invalidation) (kind_of : ℕ → Option DeviceKind) (epoch_of : ℕ → ℕ) (last_serial : ℕ) : Type 0 where
  -- no question has a later epoch than its device, unless the device forges it
  pub asked : (device epoch page : ℕ) → Contains messages (Question device epoch page) → may_forge (kind_of device) ≡ false → epoch ≤ epoch_of device
  -- nor has an answer, and its device has a cache of its own
  pub answered : (epoch : ℕ) (copy : Copy) → Contains messages (Answer epoch copy)
      → (epoch ≤ epoch_of copy.device) × (caches_translations (kind_of copy.device) ≡ true)
  -- no slot has a later serial than the last
  pub opened : (slot : Invalidation) → Contains slots slot → slot.serial ≤ last_serial
  -- nor has a request
  pub requested : (slot : Invalidation) (extent : Extent) → Contains messages (InvalidateRequest slot extent) → slot.serial ≤ last_serial
  -- nor has a completion, unless the device forges it
  pub done : (slot : Invalidation) → Contains messages (InvalidateCompletion slot) → may_forge (kind_of slot.device) ≡ false → slot.serial ≤ last_serial

-- No copy outlives what it copies: one fact for each kind of copy, and those of which they need to be kept.
pub record IsFaithful (scene : Scene) : Type 0 where
  -- fences, tickets, grants and attachments
  pub order : IsOrdered scene
  -- epochs and serials
  pub numbers : HaveGivenNumbers scene.messages scene.slots scene.kind_of scene.epoch_of scene.last_serial
  -- cached contexts
  pub contexts : (device : ℕ) → Contains scene.contexts device → IsFaithfulContext scene device
  -- cached translations
  pub translations : (copy : Copy) → Contains scene.translations copy → IsFaithfulTranslation scene copy
  -- entries of devices' caches
  pub entries : (copy : Copy) → Contains scene.entries copy → IsFaithfulEntry scene copy
  -- answers under way, of the epoch of their device
  pub answers : (epoch : ℕ) (copy : Copy) → Contains scene.messages (Answer epoch copy) → epoch ≡ scene.epoch_of copy.device → IsFaithfulEntry scene copy
  -- accesses in flight
  pub accesses : (access : AccessInFlight) → Contains scene.in_flight access → IsFaithfulAccess scene access
