-- What is under way between the IOMMU and the devices' own caches, as values that are read off the parts of a world.
-- For the facts that a world carries alone; no public contract cites these.
use Rattle.std.specs.Prelude.{ℕ, List, [], ◌∷◌, map, Option, None, Some}
use Rattle.std.specs.List.{flat_map}
use Rattle.iom_ats_cache.specs.Cache.{Cache}
use Rattle.iom_ats_cache.specs.declared.entry.Entry.{Entry}
use Rattle.iom_command_queue.specs.declared.slot.Slot.{Slot}
use Rattle.iom_command_queue.specs.OpenSlots.{OpenSlots}
use Rattle.iom_coherence.specs.Queue.{Extent, OnePage, WholeSpace}
use Rattle.iom_coherence.specs.Scene.{AtsMessage, Question, Answer, InvalidateRequest, InvalidateCompletion, Copy, Invalidation, Scene}
use Rattle.iom_fabric.specs.declared.fabric.OnLink.{OnLink}
use Rattle.iom_fabric.specs.declared.message.Message.{Message}
use Rattle.iom_fabric.specs.declared.message.Message.TheVariants as sent
use Rattle.iom_fabric.specs.declared.message.Range.{Range}
use Rattle.iom_fabric.specs.declared.message.Range.TheVariants as ranges
use Rattle.iom_fabric.specs.declared.message.Translation.TheVariants.{Page, Refused}
use Rattle.iom_device.specs.declared.device.Device.{Device}
use Rattle.iom_device.specs.Caches.{epoch_in}

pub record Traffic : Type 0 where
  -- what is in the devices' caches
  pub entries : List Copy
  -- the epoch of a device's cache; 0 where it has none
  pub epoch_of : ℕ → ℕ
  -- the messages under way; an answer that refuses is no copy, and is left out
  pub messages : List AtsMessage
  -- the requests to invalidate that devices have still to complete, and the last serial that was given
  pub slots : List Invalidation
  pub last_serial : ℕ

-- that of a scene
abbrev pub under_way : Scene → Traffic
under_way scene = record {
  entries = scene.entries;
  epoch_of = scene.epoch_of;
  messages = scene.messages;
  slots = scene.slots;
  last_serial = scene.last_serial;
}

-- which pages a request to invalidate is about
abbrev pub extent_of_range : Range → Extent
extent_of_range (ranges.Page page) = OnePage page
extent_of_range ranges.Everything = WholeSpace

-- a request to invalidate, by its serial and its device
abbrev pub invalidation_by : ℕ → ℕ → Invalidation
invalidation_by serial device = record { serial = serial; device = device }

-- what is remembered of a device's page by an entry, or an answer
abbrev pub entry_copy : ℕ → Entry → Copy
entry_copy device entry = record { device = device; page = entry.page; pair = (entry.frame, entry.rights) }

-- a message on a device's link, as far as copies go
abbrev pub message_on : ℕ → Message → List AtsMessage
message_on device (sent.Ask epoch page) = Question device epoch page ∷ []
message_on device (sent.Answer epoch page (Page frame rights)) = Answer epoch (record { device = device; page = page; pair = (frame, rights) }) ∷ []
message_on device (sent.Answer epoch page (Refused cause)) = []
message_on device (sent.InvReq serial range) = InvalidateRequest (invalidation_by serial device) (extent_of_range range) ∷ []
message_on device (sent.InvDone serial) = InvalidateCompletion (invalidation_by serial device) ∷ []

-- those of all links
abbrev pub messages_in : List OnLink → List AtsMessage
messages_in fabric = flat_map (λ (on : OnLink). message_on on.device on.message) fabric

-- the entries of a device's cache, if it has one
abbrev pub entries_by : ℕ → Option Cache → List Copy
entries_by device None = []
entries_by device (Some cache) = map (entry_copy device) cache.entries

-- those of all devices
abbrev pub entries_in : List Device → List Copy
entries_in devices = flat_map (λ (device : Device). entries_by device.id device.cache) devices

-- a slot, as far as copies go
abbrev pub invalidation_in_slot : Slot → Invalidation
invalidation_in_slot slot = invalidation_by slot.serial slot.device

abbrev pub traffic_of : List Device → List OnLink → OpenSlots → Traffic
traffic_of devices fabric slots = record {
  entries = entries_in devices;
  epoch_of = epoch_in devices;
  messages = messages_in fabric;
  slots = map invalidation_in_slot slots.open_slots;
  last_serial = slots.last;
}
