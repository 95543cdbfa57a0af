-- What the driver does, where it doesn't refuse: what becomes of tickets, grants and attachments, and which commands are queued.
use Rattle.std.specs.Prelude.{◌≡◌, ℕ, ◌+◌, ◌≤◌, Bool, true, false, ◌==◌, List, [], ◌∷◌, ◌++◌, map, Contains, Option, None, Some, if◌then◌else◌}
use Rattle.iom_base.specs.declared.rights.Rights.{Rights}
use Rattle.iom_ledger.specs.declared.entry.HistoryEntry.TheVariants.{Granted, Released, AllReleased, Confirmed}
use Rattle.iom_ledger.specs.History.{Pair, held_at, lingering_at}
use Rattle.iom_machine.specs.declared.state.Attachment.{Attachment}
use Rattle.iom_machine.specs.declared.state.Attachment.TheVariants.{Detached, Attached, Quarantined, Leaving}
use Rattle.iom_base.specs.declared.device_kind.DeviceKind.{DeviceKind}
use Rattle.iom_base.specs.declared.mode.Mode.{Mode}
use Rattle.iom_coherence.specs.Queue.{Extent, OnePage, WholeSpace, QueuedCommand, DropTranslations, DropContext, Invalidate, Fence}
use Rattle.iom_coherence.specs.Scene.{Copy, PendingTicket, Scene}
use Rattle.iom_base.specs.Modes.{is_both}
use Rattle.iom_coherence.specs.Attachments.{IsKnown, IsAttached, caches_translations}
use Rattle.iom_coherence.specs.Holdings.{HoldsNoPage, LingersOnNothing}
use Rattle.iom_coherence.specs.Deliveries.{AreOthers, raised}

-- the kinds of the plugged devices, with this one
abbrev pub with_kind : (ℕ → Option DeviceKind) → ℕ → DeviceKind → ℕ → Option DeviceKind
with_kind kind_of device kind d = if device == d then Some kind else kind_of d

-- a device is plugged in, with an id that no other has
abbrev pub DeviceIsPlugged : Scene → ℕ → DeviceKind → Scene → Type 0
DeviceIsPlugged old device kind new = (old.kind_of device ≡ None)
    × (new ≡ record old { kind_of = with_kind old.kind_of device kind })

-- the attachments, where this device is attached so now
abbrev pub attachments_with : (ℕ → Attachment) → ℕ → Attachment → ℕ → Attachment
attachments_with attachment_of device now d = if device == d then now else attachment_of d

-- a device that is detached is attached; with ATS only one with a cache of its own
abbrev pub DeviceIsAttached : Scene → ℕ → Mode → Bool → Scene → Type 0
DeviceIsAttached old device mode ats new = (old.attachment_of device ≡ Detached)
    × (ats ≡ true → caches_translations (old.kind_of device) ≡ true)
    × (new ≡ record old { attachment_of = attachments_with old.attachment_of device (Attached mode ats) })

-- a frame is granted to an attached device, at a page where nothing is held and nothing lingers; no command is queued
abbrev pub PageIsGranted : Scene → ℕ → ℕ → ℕ → Rights → Scene → Type 0
PageIsGranted old device page frame rights new = IsAttached (old.attachment_of device)
    × (held_at old.history device page ≡ None)
    × ((released : ℕ × Pair) → ¬ Contains (lingering_at old.history device page) released)
    × (new ≡ record old { history = Granted device page frame rights ∷ old.history })

-- the commands are queued, and then the next fence, for which the next ticket waits
abbrev pub with_ticket : Scene → List QueuedCommand → Scene
with_ticket scene commands = record scene {
  waiting = scene.waiting ++ (commands ++ Fence (scene.last_fence + 1) ∷ []);
  last_fence = scene.last_fence + 1;
  pending = scene.pending ++ record { ticket = scene.given + 1; fence = scene.last_fence + 1 } ∷ [];
  given = scene.given + 1;
}

-- what is to be dropped when a page is released: in both stages everything, since the page is a guest page
abbrev pub released_extent : Mode → ℕ → Extent
released_extent mode page = if is_both mode then WholeSpace else OnePage page

-- the commands of a release; with ATS the device is asked once the cached translation is dropped, so that it can't ask for that again
abbrev pub queued_by_release : ℕ → Extent → Bool → List QueuedCommand
queued_by_release device extent false = DropTranslations device extent ∷ []
queued_by_release device extent true = DropTranslations device extent ∷ Invalidate device extent ∷ []

-- a page of an attached device is released
abbrev pub PageIsReleased : Scene → ℕ → ℕ → Scene → Type 0
PageIsReleased old device page new = (mode : Mode) × (ats : Bool) × (old.attachment_of device ≡ Attached mode ats)
    × (new ≡ record (with_ticket old (queued_by_release device (released_extent mode page) ats)) {
      history = Released device page (old.given + 1) ∷ old.history;
    })

-- the commands of a detach and of a quarantine
abbrev pub leave_commands : ℕ → List QueuedCommand
leave_commands device = DropContext device ∷ DropTranslations device WholeSpace ∷ []

-- an attached device that holds nothing, and for which nothing lingers, is detached: it leaves until the ticket is confirmed
abbrev pub DeviceIsDetached : Scene → ℕ → Scene → Type 0
DeviceIsDetached old device new = (mode : Mode) × (ats : Bool) × (old.attachment_of device ≡ Attached mode ats)
    × HoldsNoPage old.history device × LingersOnNothing old.history device
    × (new ≡ record (with_ticket old (leave_commands device)) {
      attachment_of = attachments_with old.attachment_of device (Leaving (old.given + 1) mode ats);
    })

-- an attached device is quarantined, and all that it holds is released
abbrev pub DeviceIsQuarantined : Scene → ℕ → Scene → Type 0
DeviceIsQuarantined old device new = (mode : Mode) × (ats : Bool) × (old.attachment_of device ≡ Attached mode ats)
    × (new ≡ record (with_ticket old (leave_commands device)) {
      history = AllReleased device (old.given + 1) ∷ old.history;
      attachment_of = attachments_with old.attachment_of device (Quarantined (old.given + 1) mode ats);
    })

-- a device whose quarantine's ticket is confirmed is reset, and attached as before
abbrev pub DeviceIsRevived : Scene → ℕ → Scene → Type 0
DeviceIsRevived old device new = (ticket : ℕ) × (mode : Mode) × (ats : Bool) × (left : List Copy)
    × (old.attachment_of device ≡ Quarantined ticket mode ats) × (ticket ≤ old.confirmed)
    × AreOthers left device old.entries
    × (new ≡ record old {
      entries = left;
      epoch_of = raised old.kind_of old.epoch_of device;
      attachment_of = attachments_with old.attachment_of device (Attached mode ats);
    })

-- the commands of a restart for a device that is attached so
abbrev pub queued_again : ℕ → Attachment → List QueuedCommand
queued_again device Detached = []
queued_again device (Attached mode false) = DropContext device ∷ DropTranslations device WholeSpace ∷ []
queued_again device (Attached mode true) = DropContext device ∷ DropTranslations device WholeSpace ∷ Invalidate device WholeSpace ∷ []
queued_again device (Quarantined ticket mode ats) = DropContext device ∷ DropTranslations device WholeSpace ∷ []
queued_again device (Leaving ticket mode ats) = DropContext device ∷ DropTranslations device WholeSpace ∷ []

-- and for each of these
abbrev pub all_queued_again : (ℕ → Attachment) → List ℕ → List QueuedCommand
all_queued_again attachment_of [] = []
all_queued_again attachment_of (device ∷ others) = queued_again device (attachment_of device) ++ all_queued_again attachment_of others

-- the tickets, all waiting for one fence
abbrev pub waiting_for : ℕ → List PendingTicket → List PendingTicket
waiting_for fence pending = map (λ (p : PendingTicket). record { ticket = p.ticket; fence = fence }) pending

-- the queue is emptied and the slots are closed, everything is queued again, and all pending tickets wait for one new fence
abbrev pub restarted : Scene → List ℕ → Scene
restarted scene devices = record scene {
  waiting = all_queued_again scene.attachment_of devices ++ Fence (scene.last_fence + 1) ∷ [];
  last_fence = scene.last_fence + 1;
  pending = waiting_for (scene.last_fence + 1) scene.pending;
  fence_snapshot = None;
  is_stopped = false;
  slots = [];
}

-- a restart, which leaves out no device that is attached, quarantined or leaving
abbrev pub QueueIsRestarted : Scene → List ℕ → Scene → Type 0
QueueIsRestarted old devices new = ((device : ℕ) → IsKnown (old.attachment_of device) → Contains devices device) × (new ≡ restarted old devices)

-- a leaving device is detached once its ticket is confirmed
abbrev pub attachment_once_confirmed : ℕ → Attachment → Attachment
attachment_once_confirmed confirmed Detached = Detached
attachment_once_confirmed confirmed (Attached mode ats) = Attached mode ats
attachment_once_confirmed confirmed (Quarantined ticket mode ats) = Quarantined ticket mode ats
attachment_once_confirmed confirmed (Leaving ticket mode ats) = if confirmed == ticket then Detached else Leaving ticket mode ats

-- a poll confirms the oldest pending ticket, whose fence is done; where it confirms several, it does so for one after another
abbrev pub TicketIsConfirmed : Scene → ℕ → Scene → Type 0
TicketIsConfirmed old ticket new = (fence : ℕ) × (later : List PendingTicket)
    × (old.pending ≡ record { ticket = ticket; fence = fence } ∷ later) × (fence ≤ old.completed)
    × (new ≡ record old {
      history = Confirmed ticket ∷ old.history;
      pending = later;
      confirmed = ticket;
      attachment_of = λ d. attachment_once_confirmed ticket (old.attachment_of d);
    })
