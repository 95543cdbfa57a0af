-- Two worked lists of transitions. They show that these definitions let happen what they are about.
use Rattle.std.specs.Prelude.{◌≡◌, true, List, [], ◌∷◌, Contains, None, false}
use Rattle.iom_base.specs.declared.access.AccessKind.TheVariants.{Write}
use Rattle.iom_base.specs.declared.grant_rights.GrantRights.TheVariants.{ReadWrite}
use Rattle.iom_base.specs.declared.rights.Rights.{Rights}
use Rattle.iom_base.specs.GrantRights.{rights_of}
use Rattle.iom_ledger.specs.History.{held_at, confirms}
use Rattle.iom_machine.specs.declared.state.Attachment.TheVariants.{Detached, Attached, Quarantined}
use Rattle.iom_base.specs.declared.device_kind.DeviceKind.TheVariants.{Ats}
use Rattle.iom_base.specs.declared.mode.Mode.TheVariants.{First, Second, Both}
use Rattle.iom_base.specs.declared.size.Size.TheVariants.{Sv39, Sv48}
use Rattle.iom_coherence.specs.Queue.{OnePage, WholeSpace}
use Rattle.iom_coherence.specs.Scene.{Copy, AccessInFlight, Invalidation, Scene}
use Rattle.iom_coherence.specs.Transitions.{Transition, Plug, Attach, Grant, Release, Confirm, KeepContext, KeepTranslation, Accept, Make, FetchIotinval, FetchAtsInval, TakeSnapshot, CompleteFence, CarryMessages, DeliverAnswer, DeliverRequest, DeliverCompletion, OccurInTurn, Detach, FetchIodir, Quarantine, TimeOut, Restart, Revive, Reset}
use Rattle.iom_coherence.specs.Laws.{scene_at_power_on}

-- A device with a cache of its own writes to a page that was released, and the ticket is confirmed once that write is made and all caches have forgotten the
-- page.

-- the right that the device is granted
abbrev pub both_rights : Rights
both_rights = rights_of ReadWrite

-- what is remembered of page 3 of device 2: it is in frame 5
abbrev pub remembered : Copy
remembered = record { device = 2; page = 3; pair = (5, both_rights) }

-- what the first ATS.INVAL to the device begins
abbrev pub first_invalidation : Invalidation
first_invalidation = record { serial = 1; device = 2 }

-- the first access, a write to the frame
abbrev pub first_write : AccessInFlight
first_write = record { device = 2; frame = 5; kind = Write; number = 1 }

-- The device is attached with ATS and granted the page. It asks, is answered by a walk, and keeps the answer. The page is released, and then the device writes
-- through its cache.
abbrev pub stale_write : List Transition
stale_write =
    Plug 2 Ats ∷ Attach 2 (First Sv39) true ∷ Grant 2 3 5 both_rights
    ∷ CarryMessages ∷ KeepContext 2 ∷ KeepTranslation remembered ∷ CarryMessages ∷ DeliverAnswer remembered ∷ CarryMessages
    ∷ Release 2 3 ∷ Accept remembered Write ∷ []

-- The commands of the release are fetched, the device drops its entry and says so, the fence waits until the write is made, and a poll sees that it is done.
abbrev pub its_end : List Transition
its_end =
    FetchIotinval 2 (OnePage 3) ∷ FetchAtsInval 2 (OnePage 3) ∷ DeliverRequest first_invalidation (OnePage 3) ∷ DeliverCompletion first_invalidation
    ∷ TakeSnapshot 1 ∷ Make ∷ CompleteFence 1 ∷ Confirm 1 ∷ []

-- the device holds nothing at the page, and its write is in flight
abbrev pub IsStale : Scene → Type 0
IsStale scene = (held_at scene.history 2 3 ≡ None) × Contains scene.in_flight first_write

-- a stale write can occur, and then its end
abbrev pub StaleWritesOccur : Type 0
StaleWritesOccur = (between after : Scene)
    × OccurInTurn scene_at_power_on stale_write between × IsStale between
    × OccurInTurn between its_end after × (confirms after.history 1 ≡ true)

-- A device is detached and attached again, an invalidation is lost, and the device is quarantined while the fence waits for it; a timeout, a restart, and a revival.

-- The device is attached, detached and reset, and the detach is confirmed.
abbrev pub attach_and_detach : List Transition
attach_and_detach =
    Plug 2 Ats ∷ Attach 2 (Second Sv39) false ∷ Detach 2 ∷ Reset 2 ∷ FetchIodir 2 ∷ FetchIotinval 2 WholeSpace ∷ TakeSnapshot 1 ∷ CompleteFence 1 ∷ Confirm 1 ∷ []

-- It is attached in both stages with ATS, and granted a guest page, which is released; the invalidation is sent, or lost. The device is quarantined.
abbrev pub quarantine : List Transition
quarantine =
    Attach 2 (Both Sv48) true ∷ Grant 2 3 5 both_rights ∷ Release 2 3 ∷ FetchIotinval 2 WholeSpace ∷ FetchAtsInval 2 WholeSpace ∷ Quarantine 2 ∷ []

-- The fence of the release times out. After a restart one fence ends both tickets, and the device is revived.
abbrev pub revival : List Transition
revival =
    TimeOut ∷ Restart (2 ∷ []) ∷ FetchIodir 2 ∷ FetchIotinval 2 WholeSpace ∷ TakeSnapshot 4 ∷ CompleteFence 4 ∷ Confirm 2 ∷ Confirm 3 ∷ Revive 2 ∷ []

-- this can occur, each in its turn, and leaves the device attached
abbrev pub RevivalsOccur : Type 0
RevivalsOccur = (detached quarantined after : Scene)
    × OccurInTurn scene_at_power_on attach_and_detach detached × (detached.attachment_of 2 ≡ Detached)
    × OccurInTurn detached quarantine quarantined × (quarantined.attachment_of 2 ≡ Quarantined 3 (Both Sv48) true)
    × OccurInTurn quarantined revival after × (after.attachment_of 2 ≡ Attached (Both Sv48) true)
