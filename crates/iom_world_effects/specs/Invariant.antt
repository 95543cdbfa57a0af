-- What stays true between the parts of a world, whatever happens.
-- For the facts that a world carries alone; no public contract cites these.
use Rattle.std.specs.Prelude.{◌≡◌, ℕ, ◌^◌, ◌≤◌, ◌<◌, Bool, true, false, List, [], length, map, Some, slice_get, is_some, ⊤}
use Rattle.std.specs.List.{All}
use Rattle.std.specs.Option.{option_map}
use Rattle.iom_device_dir.specs.declared.context.Context.{Context}
use Rattle.iom_driver.specs.declared.device.Device as driver
use Rattle.iom_driver.specs.declared.driver.Driver.{Driver}
use Rattle.iom_driver.specs.Devices.{owned_stages_of, has_trusted_cache}
use Rattle.iom_driver.specs.Directory.{context_for}
use Rattle.iom_driver.specs.Ready.{IsReady}
use Rattle.iom_driver.specs.StateOf.{state_of}
use Rattle.iom_fabric.specs.declared.fabric.OnLink.{OnLink}
use Rattle.iom_fabric.specs.declared.message.Message.{Message}
use Rattle.iom_fabric.specs.declared.message.Message.TheVariants as sent
use Rattle.iom_inflight.specs.Flights.{FlightRow}
use Rattle.iom_iommu.specs.OwnIommu.{Iommu}
use Rattle.iom_coherence.specs.Attachments.{caches_translations}
use Rattle.iom_iommu.specs.Parts.{registers_of, contexts_of, flights_of, slots_of, frames_of}
use Rattle.iom_registers.specs.declared.registers.Registers.{Registers}
use Rattle.iom_registers.specs.Queues.{command_status}
use Rattle.iom_device.specs.declared.device.Device.{Device}
use Rattle.iom_device.specs.Caches.{device_with, kind_in, epoch_in, HaveTheirCaches}
use Rattle.iom_walk_coherence.specs.Walks.{Walk}
use Rattle.iom_world_effects.specs.Parts.{Parts}
use Rattle.iom_world_effects.specs.Read.{values_of}
use Rattle.iom_world_effects.specs.Scenes.{HasSceneWith}

-- the ids of the plugged devices, in the order of plugging: of the world's, of the driver's, and of the IOMMU's rows
abbrev pub plugged_ids : List Device → List ℕ
plugged_ids devices = map (λ (device : Device). device.id) devices

abbrev pub known_ids : List driver.Device → List ℕ
known_ids devices = map (λ (device : driver.Device). device.id) devices

abbrev pub row_ids : List FlightRow → List ℕ
row_ids rows = map (λ (row : FlightRow). row.device) rows

-- who asks is plugged in, and asks of a page of the 64-bit address space
abbrev pub IsAsked : Bool → Message → Type 0
IsAsked is_plugged (sent.Ask epoch page) = (is_plugged ≡ true) × (page < 2 ^ 52)
IsAsked is_plugged (sent.Answer epoch page translation) = ⊤
IsAsked is_plugged (sent.InvReq serial range) = ⊤
IsAsked is_plugged (sent.InvDone serial) = ⊤

-- no two devices have the same id
abbrev pub HaveDistinctIds : List Device → Type 0
HaveDistinctIds devices =
    (j k : ℕ) (one other : Device) → slice_get devices j ≡ Some one → slice_get devices k ≡ Some other → one.id ≡ other.id → j ≡ k

-- a question is one of a device that is plugged in
abbrev pub HasAsker : List Device → OnLink → Type 0
HasAsker devices on = IsAsked (is_some (device_with devices on.device)) on.message

-- driver and IOMMU have exactly the devices that are there, in their order; the driver trusts those with a cache of their own; and questions are theirs
pub record AreKnown (parts : Parts) : Type 0 where
  pub own_ids : HaveDistinctIds parts.devices
  pub driver : known_ids parts.driver.devices ≡ plugged_ids parts.devices
  pub iommu : row_ids (flights_of parts.iommu).rows ≡ plugged_ids parts.devices
  pub caches : HaveTheirCaches parts.devices
  pub trusted : (id : ℕ) → has_trusted_cache parts.driver.devices id ≡ caches_translations (kind_in parts.devices id)
  pub askers : All (HasAsker parts.devices) parts.fabric

-- a context that is cached is that of an attached device, or of one that is quarantined or leaving, with its root and its number
abbrev pub ContextsAreTrue : Parts → Type 0
ContextsAreTrue parts = (id : ℕ) (context : Context) → contexts_of parts.iommu id ≡ Some context
    → option_map context_for (owned_stages_of parts.driver.devices id) ≡ Some context

-- no command of the driver's was illegal, or couldn't be loaded or done: so the IOMMU takes commands, unless a fence timed out
pub record IsUnmarked (r : Registers) : Type 0 where
  pub loaded : (command_status r).cqmf ≡ false
  pub legal : (command_status r).cmd_ill ≡ false

-- The driver is started and ready; the IOMMU finds nothing wrong with its commands, and was built for this memory; they know the devices; no more accesses
-- were accepted, serials given and epochs begun than events came; cached contexts are true; no copy outlives what it copies; and each of these walks stands where it
-- may.
pub record InvariantWith (walks : List Walk) (parts : Parts) (events : ℕ) : Type 0 where
  pub ready : IsReady parts.driver parts.memory (registers_of parts.iommu)
  pub started : parts.driver.started ≡ true
  pub unmarked : IsUnmarked (registers_of parts.iommu)
  pub size : frames_of parts.iommu ≡ length parts.memory
  pub known : AreKnown parts
  pub small : parts.driver.given < 2 ^ 32
  pub counted : (flights_of parts.iommu).so_far ≤ events
  pub serials : (slots_of parts.iommu).last ≤ events
  pub epochs : (id : ℕ) → epoch_in parts.devices id ≤ events
  pub contexts : ContextsAreTrue parts
  pub copies : ∥ HasSceneWith (values_of parts) walks ∥₁

-- the same, where no walk is under way: each makes all its loads in one event
abbrev pub PartsInvariant : Parts → ℕ → Type 0
PartsInvariant = InvariantWith []

-- a world of these parts is so
abbrev pub WorldInvariant : List (List ℕ) → Iommu → Driver → List Device → List OnLink → ℕ → Type 0
WorldInvariant memory iommu driver devices fabric events =
    PartsInvariant (record { memory = memory; iommu = iommu; driver = state_of driver; devices = devices; fabric = fabric }) events
