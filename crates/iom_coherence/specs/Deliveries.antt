-- What becomes of messages, and of the caches of devices.
use Rattle.std.specs.Prelude.{◌≡◌, ℕ, ◌+◌, ◌≤◌, ◌⊎◌, true, false, ◌==◌, ◌&&◌, List, Contains, Option, if◌then◌else◌}
use Rattle.iom_base.specs.declared.device_kind.DeviceKind.{DeviceKind}
use Rattle.iom_coherence.specs.Queue.{Extent}
use Rattle.iom_coherence.specs.Scene.{Copy, Invalidation, AtsMessage, Question, Answer, InvalidateRequest, InvalidateCompletion, Scene}
use Rattle.iom_coherence.specs.Attachments.{has_ats, caches_translations, may_forge}
use Rattle.iom_coherence.specs.Among.{AreAmong, AreAmongWith}
use Rattle.iom_coherence.specs.Requests.{IsWalked}
use Rattle.iom_coherence.specs.Fetches.{AreOutside}

-- What may be sent. A device asks in an epoch that its cache has come to, unless it forges. The IOMMU answers a question of a device with ATS, in the
-- question's epoch, from a walk or a cached translation. A device that forges sends any completion as its own; of others the next definitions speak.
abbrev pub MayBeSent : Scene → AtsMessage → Type 0
MayBeSent scene (Question device epoch page) = may_forge (scene.kind_of device) ≡ false → epoch ≤ scene.epoch_of device
MayBeSent scene (Answer epoch copy) =
    Contains scene.messages (Question copy.device epoch copy.page) × (has_ats (scene.attachment_of copy.device) ≡ true)
    × (IsWalked scene copy ⊎ Contains scene.translations copy)
MayBeSent scene (InvalidateRequest invalidation extent) = ⊥
MayBeSent scene (InvalidateCompletion invalidation) = may_forge (scene.kind_of invalidation.device) ≡ true

-- messages are sent, lost, repeated and reordered
abbrev pub MessagesAreCarried : Scene → Scene → Type 0
MessagesAreCarried old new = (messages : List AtsMessage)
    × ((message : AtsMessage) → Contains messages message → MayBeSent old message ⊎ Contains old.messages message)
    × (new ≡ record old { messages = messages })

-- the epochs, where this device's is raised, if it has a cache
abbrev pub raised : (ℕ → Option DeviceKind) → (ℕ → ℕ) → ℕ → ℕ → ℕ
raised kind_of epoch_of device d = if (device == d) && caches_translations (kind_of d) then epoch_of d + 1 else epoch_of d

-- each of these is one of the entries, and none is this device's
abbrev pub AreOthers : List Copy → ℕ → List Copy → Type 0
AreOthers left device entries = (copy : Copy) → Contains left copy → Contains entries copy × ((device == copy.device) ≡ false)

-- a device is reset: its cache is emptied, and its epoch raised
abbrev pub DeviceIsReset : Scene → ℕ → Scene → Type 0
DeviceIsReset old device new = (left : List Copy) × AreOthers left device old.entries
    × (new ≡ record old { entries = left; epoch_of = raised old.kind_of old.epoch_of device })

-- an answer of its device's epoch is delivered: its page is kept, and others may go
abbrev pub EntryIsKept : Scene → Copy → Scene → Type 0
EntryIsKept old copy new = (epoch : ℕ) × (kept : List Copy)
    × Contains old.messages (Answer epoch copy) × (epoch ≡ old.epoch_of copy.device)
    × AreAmongWith kept copy old.entries × (new ≡ record old { entries = kept })

-- a request to invalidate is delivered and obeyed: the device drops what it covers, raises its epoch and says that it is done
abbrev pub EntriesAreInvalidated : Scene → Invalidation → Extent → Scene → Type 0
EntriesAreInvalidated old invalidation extent new = (left : List Copy) × (messages : List AtsMessage)
    × Contains old.messages (InvalidateRequest invalidation extent)
    × AreOutside left invalidation.device extent old.entries
    × AreAmongWith messages (InvalidateCompletion invalidation) old.messages
    × (new ≡ record old {
      entries = left;
      epoch_of = raised old.kind_of old.epoch_of invalidation.device;
      messages = messages;
    })

-- a completion is delivered: the slot of that serial and that sender is closed, if it is open, and no other
abbrev pub SlotIsClosed : Scene → Invalidation → Scene → Type 0
SlotIsClosed old invalidation new = (slots : List Invalidation) × (messages : List AtsMessage)
    × Contains old.messages (InvalidateCompletion invalidation)
    × AreAmong slots old.slots × ((slot : Invalidation) → Contains old.slots slot → (slot ≡ invalidation) ⊎ Contains slots slot)
    × AreAmong messages old.messages
    × (new ≡ record old { slots = slots; messages = messages })
