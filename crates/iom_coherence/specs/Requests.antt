-- What a device's request does in the IOMMU, where it isn't refused: what is kept in its caches, and the access that is accepted and later made.
use Rattle.std.specs.Prelude.{◌≡◌, ℕ, ◌+◌, ◌⊎◌, true, List, Contains}
use Rattle.iom_base.specs.declared.access.AccessKind.{AccessKind}
use Rattle.iom_base.specs.declared.rights.Rights.{Rights}
use Rattle.iom_base.specs.Rights.{allows}
use Rattle.iom_ledger.specs.History.{Holds}
use Rattle.iom_coherence.specs.Scene.{Copy, AccessInFlight, Scene}
use Rattle.iom_coherence.specs.Attachments.{in_both_stages, IsAttached}
use Rattle.iom_coherence.specs.Backing.{ComesFrom}
use Rattle.iom_coherence.specs.Copies.{IsInUse}
use Rattle.iom_coherence.specs.Among.{AreAmong, AreAmongWith}

-- a walk gives the copy: it comes from what the device holds
abbrev pub IsWalked : Scene → Copy → Type 0
IsWalked scene copy = (granted : ℕ) × (rights : Rights)
    × ComesFrom (in_both_stages (scene.attachment_of copy.device)) granted rights copy.page copy.pair.1
    × Holds scene.history copy.device granted (copy.pair.0, rights)

-- the context of an attached device is found in the directory and kept; others may go
abbrev pub ContextIsKept : Scene → ℕ → Scene → Type 0
ContextIsKept old device new = (kept : List ℕ) × IsAttached (old.attachment_of device)
    × AreAmongWith kept device old.contexts × (new ≡ record old { contexts = kept })

-- a translation that a walk gave is kept; others may go
abbrev pub TranslationIsKept : Scene → Copy → Scene → Type 0
TranslationIsKept old copy new = (kept : List Copy) × IsWalked old copy
    × AreAmongWith kept copy old.translations × (new ≡ record old { translations = kept })

-- the copy is what a walk gives, or is a cached translation, or is an entry of its device's cache that may be used
abbrev pub IsSource : Scene → Copy → Type 0
IsSource scene copy =
    IsWalked scene copy
    ⊎ Contains scene.translations copy
    ⊎ (Contains scene.entries copy × IsInUse scene copy.device)

-- the access that a copy serves next
abbrev pub next_access : Scene → Copy → AccessKind → AccessInFlight
next_access scene copy kind = record { device = copy.device; frame = copy.pair.0; kind = kind; number = scene.accepted + 1 }

-- an access is accepted on the frame of a copy whose right allows it, and is in flight beside the others
abbrev pub AccessIsAccepted : Scene → Copy → AccessKind → Scene → Type 0
AccessIsAccepted old copy kind new = (in_flight : List AccessInFlight) × IsSource old copy × (allows copy.pair.1 kind ≡ true)
    × AreAmongWith in_flight (next_access old copy kind) old.in_flight
    × (new ≡ record old { accepted = old.accepted + 1; in_flight = in_flight })

-- an access is made: it is in flight no more
abbrev pub AccessIsMade : Scene → Scene → Type 0
AccessIsMade old new = (left : List AccessInFlight) × AreAmong left old.in_flight × (new ≡ record old { in_flight = left })
