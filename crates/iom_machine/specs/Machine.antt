-- The ledger machine: what may come of each event, and the state after it.
use Rattle.std.specs.Prelude.{◌≡◌, ◌↔◌, ℕ, ◌+◌, ◌/◌, ◌%◌, Bool, true, false, List, [], ◌∷◌, ◌++◌, All, Some, MatchOption, is_some, IsTrue, length, IsSomeAnd, slice_get, slice_range, drop}
use Rattle.iom_base.specs.declared.access.AccessKind.TheVariants as kinds
use Rattle.iom_base.specs.declared.grant_rights.GrantRights.{GrantRights}
use Rattle.iom_ledger.specs.declared.entry.HistoryEntry.TheVariants as entry
use Rattle.iom_base.specs.declared.refusal.Refusal.TheVariants.{NoSuchDevice, WrongKind}
use Rattle.iom_ledger.specs.History.{May}
use Rattle.iom_base.specs.GrantRights.{rights_of}
use Rattle.iom_base.specs.Sizes.{page_size}
use Rattle.iom_base.specs.Spans.{FitsInPage}
use Rattle.iom_machine.specs.declared.choice.Choice.{Choice}
use Rattle.iom_machine.specs.declared.event.Event.{Event}
use Rattle.iom_machine.specs.declared.event.Event.TheVariants as events
use Rattle.iom_machine.specs.declared.outcome.Outcome.{Outcome}
use Rattle.iom_machine.specs.declared.outcome.Outcome.TheVariants.{Done, Refused, Ticket, Confirmed, NoneConfirmed, Record, NoRecord, Fetched, TimedOut, NoEffect, Read, Wrote, BadSpan, NothingInFlight, Bytes, Free}
use Rattle.iom_base.specs.declared.access.Access.{Access}
use Rattle.iom_machine.specs.declared.state.Attachment.TheVariants.{Detached, Attached}
use Rattle.iom_machine.specs.declared.state.Device.{Device}
use Rattle.iom_base.specs.declared.device_kind.DeviceKind.{DeviceKind}
use Rattle.iom_base.specs.declared.device_kind.NewDevice.{NewDevice}
use Rattle.iom_base.specs.declared.access.AcceptedAccess.{AcceptedAccess}
use Rattle.iom_base.specs.declared.mode.Mode.{Mode}
use Rattle.iom_base.specs.declared.owner.Owner.TheVariants.{System, OneDevice}
use Rattle.iom_machine.specs.declared.state.State.{State}
use Rattle.iom_machine.specs.Frames.{is_reserved, IsFree, IsFreeBesides, reserved_for, bytes_of, stored}
use Rattle.iom_machine.specs.Devices.{device_of, with_device, EachInFlightMay}
use Rattle.iom_machine.specs.Tickets.{with_confirmed, MayConfirm, MayTakeTicket}
use Rattle.iom_base.specs.Refusals.{NoneApplies, IsRefusedBy}
use Rattle.iom_machine.specs.Refusals.{MayRefusePlug, MayRefuseAttach, MayRefuseGrant, MayRefuseRestart, MayFindNoPlace, NeverElse, plug_reasons, attach_reasons, detach_reasons, grant_reasons, release_reasons, quarantine_reasons, revive_reasons, frame_reasons, poke_reasons}
use Rattle.iom_base.specs.Accesses.{read_of, write_of, offset_of}
use Rattle.iom_base.specs.Disks.{without_disk}
use Rattle.iom_base.specs.DeviceKinds.{kind_of, disk_of, is_block_device, sends_untranslated, forges, sends_through_cache, asks_questions, is_any_kind}
use Rattle.iom_machine.specs.Requests.{MayAnswer, state_after}
use Rattle.iom_machine.specs.Translated.{MayAnswerTranslated}
use Rattle.iom_machine.specs.ThroughCache.{MayAnswerThroughCache, state_after_cached}
use Rattle.iom_machine.specs.Messages.{Sends, Delivers, Drops, Repeats}
use Rattle.iom_machine.specs.BlockDevices.{Inserts, MaySet, IsStatus, TakesStep}
use Rattle.iom_virtqueue.specs.declared.layout.Layout.{Layout}
use Rattle.iom_virtqueue.specs.Layouts.{layout_of}
use Rattle.iom_machine.specs.Leaving.{leaving_under, with_left}
use Rattle.iom_machine.specs.Quarantining.{quarantined_under, attached_again}
use Rattle.iom_machine.specs.Returning.{MayGiveBack, with_returned}

-- a device as it is plugged in: detached, with nothing in flight, and with its disk, if it is a block device
abbrev pub plugged_device : ℕ → NewDevice → Device
plugged_device id what =
    record { id = id; kind = kind_of what; has_disk = is_some (disk_of what); attachment = Detached; accepted = 0; in_flight = [] }

-- A device is plugged in. Its disk is in no other device, ever.
abbrev pub Plugs : State → ℕ → NewDevice → Outcome → State → Type 0
Plugs old id what Done new =
    NoneApplies (plug_reasons old id what)
    × (new ≡ record old { devices = old.devices ++ plugged_device id what ∷ []; disks = without_disk (disk_of what) old.disks })
Plugs old id what (Refused why) new = IsRefusedBy (plug_reasons old id what) MayRefusePlug why × (new ≡ old)
Plugs old id what _ new = ⊥

-- A device is attached. Some free frames become pages of the device directory, which are the system's, and some become the device's tables.
abbrev pub Attaches : (pages taken : List ℕ) → State → ℕ → Mode → Bool → Outcome → State → Type 0
Attaches pages taken old id mode ats Done new =
    NoneApplies (attach_reasons old id ats) × All (IsFree old) (pages ++ taken)
    × IsSomeAnd (device_of old id) (λ device.
    new ≡ record (with_device old (record device { attachment = Attached mode ats })) {
      frames = reserved_for (OneDevice id) taken (reserved_for System pages old.frames);
    })
Attaches pages taken old id mode ats (Refused why) new =
    IsRefusedBy (attach_reasons old id ats) (MayRefuseAttach old mode) why × (new ≡ old)
Attaches pages taken old id mode ats _ new = ⊥

-- A device that holds nothing, and for which nothing lingers, is detached: it leaves under the next ticket, and keeps its frames until that is confirmed.
-- It has no disk any more.
abbrev pub Detaches : State → ℕ → Outcome → State → Type 0
Detaches old id (Ticket ticket) new =
    NoneApplies (detach_reasons old id) × (ticket ≡ old.last_ticket + 1)
    × IsSomeAnd (device_of old id) (λ device.
    new ≡ record (with_device old (record device { has_disk = false; attachment = leaving_under ticket device.attachment })) { last_ticket = ticket })
Detaches old id (Refused why) new = IsRefusedBy (detach_reasons old id) MayFindNoPlace why × (new ≡ old)
Detaches old id _ new = ⊥

-- A device gets a frame at a page. Some other free frames become its tables.
abbrev pub Grants : List ℕ → State → ℕ → ℕ → ℕ → GrantRights → Outcome → State → Type 0
Grants taken old id page frame rights Done new =
    NoneApplies (grant_reasons old id page frame) × All (IsFreeBesides old (Some frame)) taken
    × (new ≡ record old {
      history = entry.Granted id page frame (rights_of rights) ∷ old.history;
      frames = reserved_for (OneDevice id) taken old.frames;
    })
Grants taken old id page frame rights (Refused why) new =
    IsRefusedBy (grant_reasons old id page frame) (MayRefuseGrant old id frame) why × (new ≡ old)
Grants taken old id page frame rights _ new = ⊥

-- What the device holds at a page is released, under the next ticket, or one that it may share.
abbrev pub Releases : State → ℕ → ℕ → Outcome → State → Type 0
Releases old id page (Ticket ticket) new =
    NoneApplies (release_reasons old id page) × MayTakeTicket old ticket
    × (new ≡ record old { history = entry.Released id page ticket ∷ old.history; last_ticket = ticket })
Releases old id page (Refused why) new =
    IsRefusedBy (release_reasons old id page) MayFindNoPlace why × (new ≡ old)
Releases old id page _ new = ⊥

-- A device is quarantined under the next ticket: all that it holds is released, and lingers until that is confirmed.
abbrev pub Quarantines : State → ℕ → Outcome → State → Type 0
Quarantines old id (Ticket ticket) new =
    NoneApplies (quarantine_reasons old id) × (ticket ≡ old.last_ticket + 1)
    × IsSomeAnd (device_of old id) (λ device.
    new ≡ record (with_device old (record device { attachment = quarantined_under ticket device.attachment })) {
      history = entry.AllReleased id ticket ∷ old.history;
      last_ticket = ticket;
    })
Quarantines old id (Refused why) new = IsRefusedBy (quarantine_reasons old id) MayFindNoPlace why × (new ≡ old)
Quarantines old id _ new = ⊥

-- A device whose quarantine's ticket is confirmed is attached as before. It holds nothing.
abbrev pub Revives : State → ℕ → Outcome → State → Type 0
Revives old id Done new =
    NoneApplies (revive_reasons old id)
    × IsSomeAnd (device_of old id) (λ device.
    new ≡ with_device old (record device { attachment = attached_again device.attachment }))
Revives old id (Refused why) new = IsRefusedBy (revive_reasons old id) NeverElse why × (new ≡ old)
Revives old id _ new = ⊥

-- The driver empties the command queue, and queues what is needed anew. Nothing changes that the machine knows: each ticket stays as it is.
abbrev pub Restarts : State → Outcome → State → Type 0
Restarts old Done new = new ≡ old
Restarts old (Refused why) new = IsRefusedBy [] MayRefuseRestart why × (new ≡ old)
Restarts old _ new = ⊥

-- The IOMMU takes a command, or none. Nothing changes that the machine knows.
abbrev pub Fetches : State → Outcome → State → Type 0
Fetches old (Fetched result) new = new ≡ old
Fetches old _ new = ⊥

-- The IOMMU gives up a fence that waits for devices, if one does. Nothing changes that the machine knows.
abbrev pub TimesOut : State → Outcome → State → Type 0
TimesOut old TimedOut new = new ≡ old
TimesOut old NoEffect new = new ≡ old
TimesOut old _ new = ⊥

-- Some of the oldest pending tickets are confirmed, or, where no order is asked for, of any that are pending, such that each access in
-- flight may still reach its frame, and devices that were leaving under them are detached, with their frames given back. Or none is
-- confirmed; then tables of devices that stay attached may be given back, where no order is asked for. Which may be is said of the state
-- before, so a table that is named twice is given back once.
abbrev pub Polls : List ℕ → State → Outcome → State → Type 0
Polls returned old (Confirmed first last timed_out) new =
    MayConfirm old first last × (new ≡ with_left (with_confirmed old first last)) × EachInFlightMay new
Polls returned old (NoneConfirmed timed_out) new = All (MayGiveBack old) returned × (new ≡ with_returned returned old)
Polls returned old _ new = ⊥

-- The driver takes a fault record, or finds none. Nothing changes that the machine knows.
abbrev pub TakesRecord : State → Outcome → State → Type 0
TakesRecord old (Record taken) new = new ≡ old
TakesRecord old NoRecord new = new ≡ old
TakesRecord old _ new = ⊥

-- what comes of an act where the device's kind can do that; where it can't, it is refused
abbrev pub IfItCan : Bool → Type 0 → State → Outcome → State → Type 0
IfItCan true IfAble old outcome new = IfAble
IfItCan false IfAble old outcome new = (outcome ≡ Refused WrongKind) × (new ≡ old)

-- A device acts. One that isn't plugged in is refused, and then one of a kind that can't do that.
abbrev pub Acts : (DeviceKind → Bool) → (Device → Type 0) → State → ℕ → Outcome → State → Type 0
Acts can IfAble old id outcome new =
    MatchOption (device_of old id) ((outcome ≡ Refused NoSuchDevice) × (new ≡ old))
    (λ device. IfItCan (can device.kind) (IfAble device) old outcome new)

-- A device asks for an access. Where it is accepted, that is on the frame.
abbrev pub Requests : ℕ → State → ℕ → Access → Outcome → State → Type 0
Requests frame old id access outcome new = Acts sends_untranslated (λ device.
    MayAnswer old device access frame outcome × (new ≡ state_after old device access frame outcome)) old id outcome new

-- A device asks for an access at a physical address: its request says that it is translated already.
abbrev pub RequestsTranslated : State → ℕ → Access → Outcome → State → Type 0
RequestsTranslated old id access outcome new = Acts forges (λ device.
    MayAnswerTranslated old device access outcome × (new ≡ old)) old id outcome new

-- A device has an access through its own cache. Where it is accepted, that is on the frame.
abbrev pub RequestsThroughCache : ℕ → State → ℕ → Access → Outcome → State → Type 0
RequestsThroughCache frame old id access outcome new = Acts sends_through_cache (λ device.
    MayAnswerThroughCache old device access frame outcome × (new ≡ state_after_cached old device access frame outcome)) old id outcome new

-- A device asks for the translation of a page.
abbrev pub Asks : State → ℕ → Outcome → State → Type 0
Asks old id outcome new = Acts asks_questions (λ device. Sends old outcome new) old id outcome new

-- A device says that an invalidation is done.
abbrev pub Forges : State → ℕ → Outcome → State → Type 0
Forges old id outcome new = Acts forges (λ device. Sends old outcome new) old id outcome new

-- A device of any kind is reset. Its accesses in flight stay, and nothing changes that the machine knows.
abbrev pub Resets : State → ℕ → Outcome → State → Type 0
Resets old id outcome new = Acts is_any_kind (λ device. (outcome ≡ Done) × (new ≡ old)) old id outcome new

-- A disk is put into a block device.
abbrev pub InsertsDisk : ℕ → State → ℕ → Outcome → State → Type 0
InsertsDisk disk old id outcome new = Acts is_block_device (λ device. Inserts disk old device outcome new) old id outcome new

-- The queue of a block device is set. Nothing changes that the machine knows.
abbrev pub SetsQueue : Layout → State → ℕ → Outcome → State → Type 0
SetsQueue layout old id outcome new = Acts is_block_device (λ device. MaySet layout outcome × (new ≡ old)) old id outcome new

-- A block device takes a step. Where that begins an access which is accepted, that is on the frame.
abbrev pub Steps : Access → ℕ → State → ℕ → Outcome → State → Type 0
Steps access frame old id outcome new = Acts is_block_device (λ device. TakesStep old device access frame outcome new) old id outcome new

-- The status of a block device is read. Nothing changes that the machine knows.
abbrev pub TellsStatus : State → ℕ → Outcome → State → Type 0
TellsStatus old id outcome new = Acts is_block_device (λ device. IsStatus outcome × (new ≡ old)) old id outcome new

-- the state, where the oldest access of the device is in flight no more
abbrev pub with_oldest_made : State → Device → State
with_oldest_made state device = with_device state (record device { in_flight = drop 1 device.in_flight })

-- the access is a read that its device may make, and gives these bytes
abbrev pub GivesBytes : State → ℕ → AcceptedAccess → List ℕ → Type 0
GivesBytes state id made bytes =
    (made.access.kind ≡ kinds.Read) × May state.history id made.frame kinds.Read
    × (bytes ≡ slice_range (bytes_of state.frames made.frame) (offset_of made.access) (offset_of made.access + made.access.len))

-- the access is a write of so many bytes that its device may make
abbrev pub MakesWrite : State → ℕ → AcceptedAccess → ℕ → Type 0
MakesWrite state id made len =
    (made.access.kind ≡ kinds.Write) × May state.history id made.frame kinds.Write × (len ≡ made.access.len)

-- The oldest access of a plugged device in flight is made, on its frame, which the device may still reach.
abbrev pub Makes : State → Device → Outcome → State → Type 0
Makes old device (Read bytes) new = IsSomeAnd (slice_get device.in_flight 0) (λ made.
    GivesBytes old device.id made bytes.items × (new ≡ with_oldest_made old device))
Makes old device (Wrote len) new = IsSomeAnd (slice_get device.in_flight 0) (λ made.
    MakesWrite old device.id made len × (new ≡ record (with_oldest_made old device) {
      frames = stored old.frames made.frame (offset_of made.access) made.access.bytes;
    }))
Makes old device NothingInFlight new = (device.in_flight ≡ []) × (new ≡ old)
Makes old device _ new = ⊥

-- The oldest accepted access of a device is made.
abbrev pub Commits : State → ℕ → Outcome → State → Type 0
Commits old id outcome new = Acts is_any_kind (λ device. Makes old device outcome new) old id outcome new

-- The processor writes bytes, within one frame that isn't reserved.
abbrev pub Pokes : State → ℕ → List ℕ → Outcome → State → Type 0
Pokes old address bytes BadSpan new = (¬ FitsInPage address (length bytes)) × (new ≡ old)
Pokes old address bytes (Refused why) new =
    FitsInPage address (length bytes) × IsRefusedBy (poke_reasons old (address / page_size)) NeverElse why × (new ≡ old)
Pokes old address bytes Done new =
    FitsInPage address (length bytes) × NoneApplies (poke_reasons old (address / page_size))
    × (new ≡ record old { frames = stored old.frames (address / page_size) (address % page_size) bytes })
Pokes old address bytes _ new = ⊥

-- so many bytes stand at the address; those of a reserved frame may be any
abbrev pub ShowsBytes : State → ℕ → ℕ → List ℕ → Type 0
ShowsBytes state address len bytes =
    (length bytes ≡ len)
    × (is_reserved state.frames (address / page_size) ≡ false
    → bytes ≡ slice_range (bytes_of state.frames (address / page_size)) (address % page_size) (address % page_size + len))

-- The processor reads bytes, within one frame.
abbrev pub Peeks : State → ℕ → ℕ → Outcome → State → Type 0
Peeks old address len BadSpan new = (¬ FitsInPage address len) × (new ≡ old)
Peeks old address len (Refused why) new =
    FitsInPage address len × IsRefusedBy (frame_reasons old (address / page_size)) NeverElse why × (new ≡ old)
Peeks old address len (Bytes bytes) new =
    FitsInPage address len × NoneApplies (frame_reasons old (address / page_size)) × ShowsBytes old address len bytes.items × (new ≡ old)
Peeks old address len _ new = ⊥

-- The driver says whether a frame is free.
abbrev pub TellsFree : State → ℕ → Outcome → State → Type 0
TellsFree old frame (Refused why) new = IsRefusedBy (frame_reasons old frame) NeverElse why × (new ≡ old)
TellsFree old frame (Free is_free) new = NoneApplies (frame_reasons old frame) × (IsTrue is_free ↔ IsFree old frame) × (new ≡ old)
TellsFree old frame _ new = ⊥

-- The event may have this outcome, and leave this state, where what the outcome doesn't show is chosen so.
abbrev pub ChosenStep : Choice → State → Event → Outcome → State → Type 0
ChosenStep choice old (events.Plug id what) outcome new = Plugs old id what outcome new
ChosenStep choice old (events.Medium id disk) outcome new = InsertsDisk disk old id outcome new
ChosenStep choice old (events.Attach id mode ats) outcome new = Attaches choice.directory choice.taken old id mode ats outcome new
ChosenStep choice old (events.Detach id) outcome new = Detaches old id outcome new
ChosenStep choice old (events.Grant id page frame rights) outcome new = Grants choice.taken old id page frame rights outcome new
ChosenStep choice old (events.Release id page) outcome new = Releases old id page outcome new
ChosenStep choice old (events.Quarantine id) outcome new = Quarantines old id outcome new
ChosenStep choice old (events.Revive id) outcome new = Revives old id outcome new
ChosenStep choice old events.Restart outcome new = Restarts old outcome new
ChosenStep choice old events.Fetch outcome new = Fetches old outcome new
ChosenStep choice old events.Timeout outcome new = TimesOut old outcome new
ChosenStep choice old events.Poll outcome new = Polls choice.returned old outcome new
ChosenStep choice old events.Faults outcome new = TakesRecord old outcome new
ChosenStep choice old (events.Read id address len) outcome new = Requests choice.frame old id (read_of address len) outcome new
ChosenStep choice old (events.Write id address bytes) outcome new = Requests choice.frame old id (write_of address bytes) outcome new
ChosenStep choice old (events.ReadTranslated id address len) outcome new = RequestsTranslated old id (read_of address len) outcome new
ChosenStep choice old (events.WriteTranslated id address bytes) outcome new = RequestsTranslated old id (write_of address bytes) outcome new
ChosenStep choice old (events.ReadThroughCache id address len) outcome new = RequestsThroughCache choice.frame old id (read_of address len) outcome new
ChosenStep choice old (events.WriteThroughCache id address bytes) outcome new = RequestsThroughCache choice.frame old id (write_of address bytes) outcome new
ChosenStep choice old (events.Ask id page) outcome new = Asks old id outcome new
ChosenStep choice old (events.Forge id serial) outcome new = Forges old id outcome new
ChosenStep choice old (events.Deliver place) outcome new = Delivers choice.device choice.page old outcome new
ChosenStep choice old (events.Drop place) outcome new = Drops old outcome new
ChosenStep choice old (events.Repeat place) outcome new = Repeats old outcome new
ChosenStep choice old (events.Reset id) outcome new = Resets old id outcome new
ChosenStep choice old (events.Queue id size descriptors available used) outcome new =
    SetsQueue (layout_of size descriptors available used) old id outcome new
ChosenStep choice old (events.Step id) outcome new = Steps choice.access choice.frame old id outcome new
ChosenStep choice old (events.Status id) outcome new = TellsStatus old id outcome new
ChosenStep choice old (events.Commit id) outcome new = Commits old id outcome new
ChosenStep choice old (events.Poke address bytes) outcome new = Pokes old address bytes outcome new
ChosenStep choice old (events.Peek address len) outcome new = Peeks old address len outcome new
ChosenStep choice old (events.Free frame) outcome new = TellsFree old frame outcome new

-- The event may have this outcome, and leave this state.
abbrev pub Step : State → Event → Outcome → State → Type 0
Step old event outcome new = (choice : Choice) × ChosenStep choice old event outcome new

-- These events may have these outcomes, one after another, and leave this state.
abbrev pub Run : State → List Event → List Outcome → State → Type 0
Run old [] [] new = new ≡ old
Run old (event ∷ events) (outcome ∷ outcomes) new = (mid : State) × Step old event outcome mid × Run mid events outcomes new
Run old _ _ new = ⊥
