-- What is true of each kind of copy: it names what is held, or what lingers under a ticket before whose fence a step against that kind is still to come.
use Rattle.std.specs.Prelude.{◌≡◌, ℕ, ◌≤◌, ◌⊎◌, true, [], ◌∷◌, Contains, Some, ⊤}
use Rattle.iom_base.specs.declared.rights.Rights.{Rights}
use Rattle.iom_base.specs.Rights.{allows}
use Rattle.iom_machine.specs.declared.state.Attachment.{Attachment}
use Rattle.iom_machine.specs.declared.state.Attachment.TheVariants.{Detached, Attached, Quarantined, Leaving}
use Rattle.iom_coherence.specs.Queue.{Extent, extent_covers}
use Rattle.iom_coherence.specs.Scene.{Copy, AccessInFlight, InvalidateRequest, InvalidateCompletion, Scene}
use Rattle.iom_coherence.specs.Attachments.{has_ats, in_both_stages, IsQuarantined}
use Rattle.iom_coherence.specs.ToCome.{InOrder, is_fence, WaitsForFence, AreToCome, drops_translation, drops_context, invalidates}
use Rattle.iom_coherence.specs.Holdings.{HoldsOrLingers}
use Rattle.iom_coherence.specs.Backing.{IsBacked}

-- the copy names what its device holds, or what lingers under a ticket of which this is true
abbrev pub NamesGrant : Scene → (ℕ → Type 0) → Copy → Type 0
NamesGrant scene Still copy = IsBacked (in_both_stages (scene.attachment_of copy.device)) scene.history Still copy

-- The context cache.

-- the cached context of a device that is attached so: where the device is quarantined or leaves, it is dropped before the ticket is confirmed
abbrev pub ContextFits : Scene → ℕ → Attachment → Type 0
ContextFits scene device Detached = ⊥
ContextFits scene device (Attached mode ats) = ⊤
ContextFits scene device (Quarantined ticket mode ats) = AreToCome scene ticket (drops_context device ∷ [])
ContextFits scene device (Leaving ticket mode ats) = AreToCome scene ticket (drops_context device ∷ [])

-- a cached context
abbrev pub IsFaithfulContext : Scene → ℕ → Type 0
IsFaithfulContext scene device = ContextFits scene device (scene.attachment_of device)

-- The translation cache.

-- the device is quarantined, and if its context is still cached, that is dropped before the ticket is confirmed
abbrev pub IsQuarantinedBefore : Scene → ℕ → ℕ → Type 0
IsQuarantinedBefore scene device ticket =
    IsQuarantined (scene.attachment_of device)
    × (Contains scene.contexts device → AreToCome scene ticket (drops_context device ∷ []))

-- Before the ticket is confirmed the cached translation is dropped. With ATS the device is asked to drop its entry only after that, or it is quarantined: a
-- question may still be answered from the cached translation.
abbrev pub TranslationGoes : Scene → ℕ → ℕ → ℕ → Type 0
TranslationGoes scene device page ticket =
    AreToCome scene ticket (drops_translation device page ∷ [])
    × (has_ats (scene.attachment_of device) ≡ true
    → AreToCome scene ticket (drops_translation device page ∷ invalidates device page ∷ []) ⊎ IsQuarantinedBefore scene device ticket)

-- a cached translation
abbrev pub IsFaithfulTranslation : Scene → Copy → Type 0
IsFaithfulTranslation scene copy = NamesGrant scene (TranslationGoes scene copy.device copy.page) copy

-- The devices' caches, and answers on their way to them.

-- a slot is open for the device, whose request, wherever it still is, covers the page, and which the device hasn't completed
abbrev pub IsUnderway : Scene → ℕ → ℕ → Type 0
IsUnderway scene device page = (serial : ℕ)
    × Contains scene.slots (record { serial = serial; device = device })
    × (¬ Contains scene.messages (InvalidateCompletion (record { serial = serial; device = device })))
    × ((extent : Extent) → Contains scene.messages (InvalidateRequest (record { serial = serial; device = device }) extent) → extent_covers extent page ≡ true)

-- Before the ticket is confirmed the device drops its entry of the page, or can't use it any more: the invalidation is still queued; or it is under way; or a
-- fence timed out, and a restart queues it again; or the device is quarantined, and its context is dropped.
abbrev pub EntryGoes : Scene → ℕ → ℕ → ℕ → Type 0
EntryGoes scene device page ticket =
    AreToCome scene ticket (invalidates device page ∷ [])
    ⊎ (AreToCome scene ticket [] × IsUnderway scene device page)
    ⊎ (AreToCome scene ticket [] × (scene.is_stopped ≡ true))
    ⊎ (AreToCome scene ticket (drops_context device ∷ []) × IsQuarantined (scene.attachment_of device))

-- what the device's cache has may be used: the device isn't quarantined, or its context is still cached
abbrev pub IsInUse : Scene → ℕ → Type 0
IsInUse scene device = IsQuarantined (scene.attachment_of device) → Contains scene.contexts device

-- an entry of a device's cache, or an answer that the device would take; nothing is said of one that can't be used
abbrev pub IsFaithfulEntry : Scene → Copy → Type 0
IsFaithfulEntry scene copy =
    IsInUse scene copy.device
    → (has_ats (scene.attachment_of copy.device) ≡ true)
    × NamesGrant scene (EntryGoes scene copy.device copy.page) copy

-- Accesses in flight.

-- The access of this number is made before the ticket is confirmed: the ticket's fence is still to come, and if that has taken its snapshot, it waits for the access.
abbrev pub AccessGoes : Scene → ℕ → ℕ → Type 0
AccessGoes scene number ticket =
    (fence : ℕ) × WaitsForFence scene ticket fence × InOrder (is_fence fence ∷ []) scene.waiting
    × ((accepted : ℕ) → scene.fence_snapshot ≡ Some (record { fence = fence; accepted = accepted }) → number ≤ accepted)

-- an access in flight: some page of the device has that frame, with a right that allows the kind
abbrev pub IsFaithfulAccess : Scene → AccessInFlight → Type 0
IsFaithfulAccess scene access =
    (page : ℕ) × (rights : Rights)
    × HoldsOrLingers scene.history (AccessGoes scene access.number) access.device page (access.frame, rights)
    × (allows rights access.kind ≡ true)
