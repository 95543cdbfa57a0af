-- What is true of each walk: it stands in tables that are its device's, or that it leaves, by beginning anew, before the ticket is confirmed under which they are
-- given up.
use Rattle.std.specs.Prelude.{◌≡◌, ℕ, true, false, List, [], ◌∷◌, Contains, ⊤}
use Rattle.iom_base.specs.declared.access.AccessKind.TheVariants.{Read}
use Rattle.iom_base.specs.declared.rights.Rights.{Rights}
use Rattle.iom_base.specs.Rights.{allows}
use Rattle.iom_machine.specs.declared.state.Attachment.{Attachment}
use Rattle.iom_machine.specs.declared.state.Attachment.TheVariants.{Detached, Attached, Quarantined, Leaving}
use Rattle.iom_coherence.specs.Queue.{DropTranslations, DropContext, Invalidate, Fence}
use Rattle.iom_coherence.specs.Scene.{Scene}
use Rattle.iom_coherence.specs.ToCome.{QueuedStep, AreToCome}
use Rattle.iom_coherence.specs.Holdings.{HoldsOrLingers}
use Rattle.iom_walk_coherence.specs.Walks.{Walk, Standing, InDirectory, InTables, InGuestTable}

-- every walk that is under way begins anew, whatever the command covers
abbrev pub begins_anew : QueuedStep
begins_anew (DropTranslations d extent) = true
begins_anew (DropContext d) = true
begins_anew (Invalidate d extent) = false
begins_anew (Fence number) = false

-- before the ticket is confirmed every walk begins anew
abbrev pub WalksBeginAnew : Scene → ℕ → Type 0
WalksBeginAnew scene ticket = AreToCome scene ticket (begins_anew ∷ [])

-- The tables of a device that is attached so are its own while a walk stands in them: where the device is quarantined or leaves, the walk begins anew before the
-- ticket is confirmed.
abbrev pub TablesStay : Scene → Attachment → Type 0
TablesStay scene Detached = ⊥
TablesStay scene (Attached mode ats) = ⊤
TablesStay scene (Quarantined ticket mode ats) = WalksBeginAnew scene ticket
TablesStay scene (Leaving ticket mode ats) = WalksBeginAnew scene ticket

-- at some page the device holds the frame, with a right to read, or it lingers there until the walk begins anew
abbrev pub GuestTableStays : Scene → ℕ → ℕ → Type 0
GuestTableStays scene device frame =
    (page : ℕ) × (rights : Rights)
    × HoldsOrLingers scene.history (WalksBeginAnew scene) device page (frame, rights)
    × (allows rights Read ≡ true)

-- a walk of the device may stand there
abbrev pub MayStand : Scene → ℕ → Standing → Type 0
MayStand scene device InDirectory = ⊤
MayStand scene device InTables = TablesStay scene (scene.attachment_of device)
MayStand scene device (InGuestTable frame) = TablesStay scene (scene.attachment_of device) × GuestTableStays scene device frame

-- a walk that is under way
abbrev pub IsFaithfulWalk : Scene → Walk → Type 0
IsFaithfulWalk scene walk = MayStand scene walk.device walk.standing

-- the same of each walk
abbrev pub AreFaithfulWalks : Scene → List Walk → Type 0
AreFaithfulWalks scene walks = (walk : Walk) → Contains walks walk → IsFaithfulWalk scene walk
