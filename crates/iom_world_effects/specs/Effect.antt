-- What each event does to the parts of a world: the relation of the call behind it, and what stays.
use Rattle.std.specs.Prelude.{◌≡◌, ◌⊎◌, ℕ, ◌+◌, ◌-◌, ◌==◌, Bool, true, false, List, [], ◌∷◌, ◌++◌, Option, None, Some, Result, Ok, Err, is_some, if◌then◌else◌}
use Rattle.iom_base.specs.declared.grant_rights.GrantRights.{GrantRights}
use Rattle.iom_base.specs.declared.mode.Mode.{Mode}
use Rattle.iom_base.specs.Accesses.{read_of, write_of}
use Rattle.iom_command_queue.specs.declared.command.Command.{Command}
use Rattle.iom_command_queue.specs.declared.command.Command.TheVariants.{IotinvalVma, IotinvalGvma, IofenceC, IodirInvalDdt, AtsInval}
use Rattle.iom_driver.specs.declared.answers.Polled.{Polled}
use Rattle.iom_driver.specs.declared.answers.Ticket as driver
use Rattle.iom_driver.specs.Attaching.{AnswersAttach}
use Rattle.iom_driver.specs.Calls.{AnswersPlug, AnswersGrant, AnswersRelease}
use Rattle.iom_driver.specs.Reasons.{why_not_plug}
use Rattle.iom_driver.specs.Leaving.{AnswersDetach}
use Rattle.iom_driver.specs.Polling.{AnswersPoll}
use Rattle.iom_driver.specs.Reports.{AnswersFaults}
use Rattle.iom_fault_queue.specs.Fields.{Fields}
use Rattle.iom_fault_queue.specs.Grammar.{words}
use Rattle.iom_iommu.specs.declared.fetched.Fetched.{Fetched}
use Rattle.iom_iommu.specs.declared.fetched.Fetched.TheVariants.{Did, Waiting, Empty, Stopped}
use Rattle.iom_iommu.specs.OwnIommu.{Iommu}
use Rattle.iom_iommu.specs.Fetches.{FetchesCommand}
use Rattle.iom_iommu.specs.Parts.{mmio, registers_of, slots_of, AddsDevice}
use Rattle.iom_base.specs.declared.refusal.Refusal.{Refusal}
use Rattle.iom_base.specs.declared.refusal.Refusal.TheVariants.{BadMedium}
use Rattle.iom_base.specs.Refusals.{NoneApplies}
use Rattle.iom_machine.specs.declared.event.Event.{Event}
use Rattle.iom_machine.specs.declared.event.Event.TheVariants as events
use Rattle.iom_machine.specs.declared.outcome.CommandName.{CommandName}
use Rattle.iom_machine.specs.declared.outcome.CommandName.TheVariants as names
use Rattle.iom_machine.specs.declared.outcome.Fetched as machine
use Rattle.iom_machine.specs.declared.outcome.Fetched.TheVariants as tells
use Rattle.iom_machine.specs.declared.outcome.Outcome.{Outcome}
use Rattle.iom_machine.specs.declared.outcome.Outcome.TheVariants as outcome
use Rattle.iom_base.specs.declared.device_kind.NewDevice.{NewDevice}
use Rattle.iom_base.specs.Disks.{is_missing}
use Rattle.iom_base.specs.DeviceKinds.{kind_of, disk_of, sends_untranslated, sends_through_cache, has_cache}
use Rattle.iom_device.specs.Calls.{new_cache}
use Rattle.iom_device.specs.declared.device.Device.{Device}
use Rattle.iom_virtqueue.specs.Layouts.{layout_of}
use Rattle.iom_world_effects.specs.Answers.{outcome_of_done, outcome_of_ticket}
use Rattle.iom_world_effects.specs.BlockDevices.{InsertsMedium, SetsBlockQueue, TakesBlockStep, TellsBlockStatus, devices_left}
use Rattle.iom_world_effects.specs.Commits.{CommitsAccess}
use Rattle.iom_world_effects.specs.Deliveries.{DeliversMessage}
use Rattle.iom_world_effects.specs.Messages.{with_fetched, AsksQuestion, ForgesCompletion, DropsMessage, RepeatsMessage}
use Rattle.iom_world_effects.specs.Parts.{Parts}
use Rattle.iom_world_effects.specs.Processor.{PokesBytes, PeeksBytes, AsksFree}
use Rattle.iom_world_effects.specs.Recovery.{QuarantinesDevice, RevivesDevice, RestartsQueue, TimesOutFence, ResetsDevice}
use Rattle.iom_world_effects.specs.Requests.{AsksAccess, AsksTranslated}
use Rattle.iom_world_effects.specs.ThroughCache.{DeviceAsksThroughCache}

-- what a poll is told as
abbrev pub outcome_of_poll : Result Polled Refusal → Outcome
outcome_of_poll (Ok polled) =
    if polled.count == 0 then outcome.NoneConfirmed polled.timed_out
    else outcome.Confirmed polled.first (polled.first + polled.count - 1) polled.timed_out
outcome_of_poll (Err why) = outcome.Refused why

abbrev pub outcome_of_report : Result (Option Fields) Refusal → Outcome
outcome_of_report (Ok (Some fields)) = outcome.Record (record { words = words fields })
outcome_of_report (Ok None) = outcome.NoRecord
outcome_of_report (Err why) = outcome.Refused why

-- what an answer of the IOMMU is told as
abbrev pub name_of_command : Command → CommandName
name_of_command (IotinvalVma gscid pscid page) = names.IotinvalVma
name_of_command (IotinvalGvma gscid page) = names.IotinvalGvma
name_of_command (IofenceC store wsi pr pw) = names.IofenceC
name_of_command (IodirInvalDdt device) = names.IodirInvalDdt
name_of_command (AtsInval device range) = names.AtsInval

abbrev pub fetch_named : Fetched → machine.Fetched
fetch_named (Did command) = tells.Did (name_of_command command)
fetch_named Waiting = tells.Waiting
fetch_named Empty = tells.Empty
fetch_named Stopped = tells.Stopped

-- a device as the world keeps it, with its disk, if it is a block device
abbrev pub new_device : ℕ → NewDevice → Device
new_device id what = record { id = id; kind = kind_of what; has_disk = is_some (disk_of what); cache = new_cache (kind_of what) }

-- it stands behind the others, unless it was refused
abbrev pub devices_after : Result (Unit {0}) Refusal → List Device → ℕ → NewDevice → List Device
devices_after (Ok done) devices id what = devices ++ new_device id what ∷ []
devices_after (Err why) devices id what = devices

-- the IOMMU makes a row for its accesses, unless it was refused
abbrev pub AddsRow : Result (Unit {0}) Refusal → Iommu → ℕ → Iommu → Type 0
AddsRow (Ok done) old id new = AddsDevice old id true new
AddsRow (Err why) old id new = new ≡ old

-- the driver has no reason against it, but it names a disk that isn't among these
pub record LacksDisk (disks : List ℕ) (old : Parts) (id : ℕ) (what : NewDevice) (reply : Outcome) (new : Parts) : Type 0 where
  pub admitted : NoneApplies (why_not_plug old.driver id)
  pub missing : is_missing disks (disk_of what) ≡ true
  pub reply_is : reply ≡ outcome.Refused BadMedium
  pub same : new ≡ old

-- the driver is told of it, unless the driver refuses it
pub record PlugsIn (disks : List ℕ) (old : Parts) (id : ℕ) (what : NewDevice) (reply : Outcome) (new : Parts) : Type 0 where
  pub answer : Result (Unit {0}) Refusal
  pub reply_is : reply ≡ outcome_of_done answer
  pub call : AnswersPlug old.driver id (has_cache (kind_of what)) answer new.driver
  pub disk : NoneApplies (why_not_plug old.driver id) → is_missing disks (disk_of what) ≡ false
  pub row : AddsRow answer old.iommu id new.iommu
  pub devices : new.devices ≡ devices_after answer old.devices id what
  pub fabric : new.fabric ≡ old.fabric
  pub memory : new.memory ≡ old.memory

-- a device is plugged in, where these disks were never in a device
abbrev pub PlugsDevice : List ℕ → Parts → ℕ → NewDevice → Outcome → Parts → Type 0
PlugsDevice disks old id what reply new = LacksDisk disks old id what reply new ⊎ PlugsIn disks old id what reply new

-- a device is attached, with ATS or without
pub record AttachesDevice (old : Parts) (id : ℕ) (mode : Mode) (ats : Bool) (reply : Outcome) (new : Parts) : Type 0 where
  pub answer : Result (Unit {0}) Refusal
  pub reply_is : reply ≡ outcome_of_done answer
  pub call : AnswersAttach old.driver old.memory id mode ats answer new.driver new.memory
  pub iommu : new.iommu ≡ old.iommu
  pub devices : new.devices ≡ old.devices
  pub fabric : new.fabric ≡ old.fabric

-- a device gets a frame at a page
pub record GrantsPage (old : Parts) (id page frame : ℕ) (rights : GrantRights) (reply : Outcome) (new : Parts) : Type 0 where
  pub answer : Result (Unit {0}) Refusal
  pub reply_is : reply ≡ outcome_of_done answer
  pub call : AnswersGrant old.driver old.memory id page frame rights answer new.driver new.memory
  pub iommu : new.iommu ≡ old.iommu
  pub devices : new.devices ≡ old.devices
  pub fabric : new.fabric ≡ old.fabric

-- what it holds at a page is released
pub record ReleasesPage (old : Parts) (id page : ℕ) (reply : Outcome) (new : Parts) : Type 0 where
  pub answer : Result driver.Ticket Refusal
  pub reply_is : reply ≡ outcome_of_ticket answer
  pub call : AnswersRelease mmio old.driver old.memory old.iommu id page answer new.driver new.memory new.iommu
  pub devices : new.devices ≡ old.devices
  pub fabric : new.fabric ≡ old.fabric

-- a device is detached, once a ticket is confirmed; it has no disk any more
pub record DetachesDevice (old : Parts) (id : ℕ) (reply : Outcome) (new : Parts) : Type 0 where
  pub answer : Result driver.Ticket Refusal
  pub reply_is : reply ≡ outcome_of_ticket answer
  pub call : AnswersDetach mmio old.driver old.memory old.iommu id answer new.driver new.memory new.iommu
  pub devices : new.devices ≡ devices_left answer old.devices id
  pub fabric : new.fabric ≡ old.fabric

-- the IOMMU takes a command; where that opened a request to invalidate, it is sent to its device
pub record FetchesNext (old : Parts) (reply : Outcome) (new : Parts) : Type 0 where
  pub answer : Fetched
  pub reply_is : reply ≡ outcome.Fetched (fetch_named answer)
  pub call : FetchesCommand old.memory old.iommu answer new.memory new.iommu
  pub driver : new.driver ≡ old.driver
  pub devices : new.devices ≡ old.devices
  pub fabric : new.fabric ≡ with_fetched answer (slots_of new.iommu).last old.fabric

-- the driver reads the completion word
pub record PollsTickets (old : Parts) (reply : Outcome) (new : Parts) : Type 0 where
  pub answer : Result Polled Refusal
  pub reply_is : reply ≡ outcome_of_poll answer
  pub call : AnswersPoll (registers_of old.iommu) old.driver old.memory answer new.driver new.memory
  pub iommu : new.iommu ≡ old.iommu
  pub devices : new.devices ≡ old.devices
  pub fabric : new.fabric ≡ old.fabric

-- the driver takes a fault record
pub record TakesReport (old : Parts) (reply : Outcome) (new : Parts) : Type 0 where
  pub answer : Result (Option Fields) Refusal
  pub reply_is : reply ≡ outcome_of_report answer
  pub call : AnswersFaults mmio old.driver old.memory old.iommu answer new.iommu
  pub driver : new.driver ≡ old.driver
  pub memory : new.memory ≡ old.memory
  pub devices : new.devices ≡ old.devices
  pub fabric : new.fabric ≡ old.fabric

-- THE RELATION of an event, where these disks were never in a device
abbrev pub Effect : (disks : List ℕ) → Parts → Event → Outcome → Parts → Type 0
Effect disks old (events.Plug id what) reply new = PlugsDevice disks old id what reply new
Effect disks old (events.Medium id disk) reply new = InsertsMedium disks old id disk reply new
Effect disks old (events.Attach id mode ats) reply new = AttachesDevice old id mode ats reply new
Effect disks old (events.Grant id page frame rights) reply new = GrantsPage old id page frame rights reply new
Effect disks old (events.Release id page) reply new = ReleasesPage old id page reply new
Effect disks old (events.Detach id) reply new = DetachesDevice old id reply new
Effect disks old (events.Quarantine id) reply new = QuarantinesDevice old id reply new
Effect disks old (events.Revive id) reply new = RevivesDevice old id reply new
Effect disks old events.Restart reply new = RestartsQueue old reply new
Effect disks old events.Fetch reply new = FetchesNext old reply new
Effect disks old events.Timeout reply new = TimesOutFence old reply new
Effect disks old events.Poll reply new = PollsTickets old reply new
Effect disks old events.Faults reply new = TakesReport old reply new
Effect disks old (events.Read id address len) reply new = AsksAccess sends_untranslated old id (read_of address len) reply new
Effect disks old (events.Write id address bytes) reply new = AsksAccess sends_untranslated old id (write_of address bytes) reply new
Effect disks old (events.Commit id) reply new = CommitsAccess old id reply new
Effect disks old (events.ReadTranslated id address len) reply new = AsksTranslated old id (read_of address len) reply new
Effect disks old (events.WriteTranslated id address bytes) reply new = AsksTranslated old id (write_of address bytes) reply new
Effect disks old (events.ReadThroughCache id address len) reply new = DeviceAsksThroughCache sends_through_cache old id (read_of address len) reply new
Effect disks old (events.WriteThroughCache id address bytes) reply new = DeviceAsksThroughCache sends_through_cache old id (write_of address bytes) reply new
Effect disks old (events.Ask id page) reply new = AsksQuestion old id page reply new
Effect disks old (events.Forge id serial) reply new = ForgesCompletion old id serial reply new
Effect disks old (events.Deliver place) reply new = DeliversMessage old place reply new
Effect disks old (events.Drop place) reply new = DropsMessage old place reply new
Effect disks old (events.Repeat place) reply new = RepeatsMessage old place reply new
Effect disks old (events.Reset id) reply new = ResetsDevice old id reply new
Effect disks old (events.Queue id size descriptors available used) reply new = SetsBlockQueue old id (layout_of size descriptors available used) reply new
Effect disks old (events.Step id) reply new = TakesBlockStep old id reply new
Effect disks old (events.Status id) reply new = (status : ℕ) × TellsBlockStatus old id status reply new
Effect disks old (events.Poke address bytes) reply new = PokesBytes old address bytes reply new
Effect disks old (events.Peek address len) reply new = PeeksBytes old address len reply × (new ≡ old)
Effect disks old (events.Free frame) reply new = AsksFree old frame reply × (new ≡ old)
