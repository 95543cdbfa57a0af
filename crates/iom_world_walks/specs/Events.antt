-- What the events of a world leave of the requests that are under way.
use Rattle.std.specs.Prelude.{◌≡◌, ◌≢◌, ℕ, ◌^◌, ◌<◌, true, false, List, Some, Contains, ⊤}
use Rattle.std.specs.Option.{option_map_or}
use Rattle.iom_base.specs.DeviceKinds.{is_block_device}
use Rattle.iom_device.specs.Caches.{epoch_in, kind_in}
use Rattle.iom_iommu.specs.Parts.{flights_of, slots_of}
use Rattle.iom_machine.specs.declared.event.Event.{Event}
use Rattle.iom_machine.specs.declared.event.Event.TheVariants as events
use Rattle.iom_machine.specs.declared.outcome.Outcome.{Outcome}
use Rattle.iom_machine.specs.declared.outcome.Outcome.TheVariants as outcome
use Rattle.iom_walks.specs.Walks.{UnderWay, WalkRow}
use Rattle.iom_world_effects.specs.Parts.{Parts}

-- THE EVENT GIVES UP what is under way of this device: a reset, a revival, a queue that is set, and the detach of a block device
abbrev pub GivesUp : Parts → Event → Outcome → ℕ → Type 0
GivesUp old (events.Reset id) answered device = (device ≡ id) × (answered ≡ outcome.Done)
GivesUp old (events.Revive id) answered device = (device ≡ id) × (answered ≡ outcome.Done)
GivesUp old (events.Queue id size descriptors available used) answered device = (device ≡ id) × (answered ≡ outcome.Done)
GivesUp old (events.Detach id) answered device =
    (device ≡ id) × ((ticket : ℕ) × (answered ≡ outcome.Ticket ticket)) × (option_map_or is_block_device (kind_in old.devices id) false ≡ true)
GivesUp old event answered device = ⊥

-- all that is under way was so before, and as far
abbrev pub AreStill : List WalkRow → List WalkRow → Type 0
AreStill rows new_rows = (row : WalkRow) (own : UnderWay) → Contains new_rows row → row.under_way ≡ Some own
    → (before : WalkRow) × Contains rows before × (before.under_way ≡ Some own)

-- none of it is the device's
abbrev pub NoneIsOf : List WalkRow → ℕ → Type 0
NoneIsOf rows id = (row : WalkRow) (own : UnderWay) → Contains rows row → row.under_way ≡ Some own → own.request.device ≢ id

-- WHAT IS LEFT of what is under way
pub record LeavesRequests (old : Parts) (event : Event) (answered : Outcome) (rows new_rows : List WalkRow) : Type 0 where
  pub still : AreStill rows new_rows
  pub gone : (id : ℕ) → GivesUp old event answered id → NoneIsOf new_rows id

-- what an event names is a page or an address of the 64-bit address space
abbrev pub NamesFit : Event → Type 0
NamesFit (events.Read id address len) = address < 2 ^ 64
NamesFit (events.Write id address bytes) = address < 2 ^ 64
NamesFit (events.Ask id page) = page < 2 ^ 52
NamesFit event = ⊤

-- fewer accesses were accepted, serials given and epochs begun than events came
pub record IsCounted (old : Parts) (count : ℕ) : Type 0 where
  pub accepted : (flights_of old.iommu).so_far < count
  pub serials : (slots_of old.iommu).last < count
  pub epochs : (id : ℕ) → epoch_in old.devices id < count
