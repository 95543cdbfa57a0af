-- The scene of hardware: what its parts are to the facts on ways.
use Rattle.std.specs.Prelude.{ℕ, zero, suc, ◌+◌, ◌*◌, ◌/◌, ◌%◌, Bool, List, [], ◌∷◌, map, slice_get, Option, None, Some, option_map, if◌then◌else◌}
use Rattle.std.specs.List.{range_with_len}
use Rattle.iom_base.specs.Sizes.{page_size}
use Rattle.iom_base.specs.declared.rights.Rights.{Rights}
use Rattle.iom_base.specs.declared.device_kind.DeviceKind.{DeviceKind}
use Rattle.iom_base.specs.declared.device_kind.DeviceKind.TheVariants as kind
use Rattle.iom_ats_cache.specs.Cache.{Cache}
use Rattle.iom_ats_cache.specs.declared.entry.Entry.{Entry as KeptEntry}
use Rattle.iom_command_queue.specs.Waiting.{how_many}
use Rattle.iom_device.specs.Caches.{kind_in, cache_of, epoch_in}
use Rattle.iom_device_dir.specs.declared.context.Context.{Context as DeviceContext}
use Rattle.iom_device_dir.specs.Contents.{Content}
use Rattle.iom_device_dir.specs.Paths.{fits_directory}
use Rattle.iom_fabric.specs.declared.fabric.OnLink.{OnLink}
use Rattle.iom_fabric.specs.declared.message.Message.{Message as Sent}
use Rattle.iom_fabric.specs.declared.message.Message.TheVariants as sent
use Rattle.iom_fabric.specs.declared.message.Translation.TheVariants as reply
use Rattle.iom_fault_queue.specs.Ring.{record_place}
use Rattle.iom_board.specs.BoardParts.{BoardParts}
use Rattle.iom_inflight.specs.Flights.{NumberedAccess, FlightRow, row_of}
use Rattle.iom_iommu.specs.Parts.{registers_of, contexts_of, translations_of, flights_of}
use Rattle.iom_registers.specs.declared.directory.DirectoryMode.{DirectoryMode}
use Rattle.iom_registers.specs.declared.directory.DirectoryMode.TheVariants as mode
use Rattle.iom_registers.specs.declared.registers.Registers.{Registers}
use Rattle.iom_registers.specs.Queues.{command_base, command_entries, command_head, next_index, is_command_queue_on, fault_entries, is_fault_queue_on, directory_mode, directory_root}
use Rattle.iom_tlb.specs.declared.space.Space.{Space}
use Rattle.iom_tlb.specs.declared.space.Space.TheVariants as space
use Rattle.iom_tlb.specs.declared.trans_cache.Translation.{Translation}
use Rattle.iom_tlb.specs.Content.{Key, Translations}
use Rattle.iom_reach.specs.Scene.{Mapping, AddressSpace, First, Second, Both, Context, Directory, Off, Bare, At, AtsKind, Forges, Caches, Plain, SpacePage, AtsEntry, PendingAccess, Message, Question, Answer, Other, Place, HardwareScene}
use Rattle.iom_hardware_ways.specs.Formats.{context_of, formats}

-- ddtp
abbrev pub directory_by : DirectoryMode → ℕ → Directory
directory_by mode.Off root = Off
directory_by mode.Bare root = Bare
directory_by mode.OneLevel root = At (record { root = root; levels = 1 })
directory_by mode.TwoLevels root = At (record { root = root; levels = 2 })
directory_by mode.ThreeLevels root = At (record { root = root; levels = 3 })

-- where the byte at an address is
abbrev pub place_at : ℕ → Place
place_at address = record { frame = address / page_size; offset = address % page_size }

-- where so many commands stand, from this index on, in a ring of this size at this address
abbrev pub places_from : ℕ → ℕ → ℕ → ℕ → List Place
places_from base size index zero = []
places_from base size index (suc more) = place_at (base + 16 * index) ∷ places_from base size (next_index size index) more

-- where those between head and tail stand; none where the queue is off
abbrev pub waiting_places : Registers → List Place
waiting_places r = if is_command_queue_on r then places_from (command_base r) (command_entries r) (command_head r) (how_many r) else []

-- the frames of the fault queue, one for each of its places; none where it is off
abbrev pub fault_frames_of : Registers → List ℕ
fault_frames_of r = if is_fault_queue_on r then map (λ index. record_place r index / page_size) (range_with_len 0 (fault_entries r)) else []

-- what a device of each kind does with translated requests: a raw one forges, and a block device without a cache sends none
abbrev pub ats_kind : DeviceKind → AtsKind
ats_kind kind.Raw = Forges
ats_kind kind.Ats = Caches
ats_kind kind.Block = Plain
ats_kind kind.CachedBlock = Caches

-- the key by which a translation is cached
abbrev pub cached_space : AddressSpace → Space
cached_space (First pscid) = space.First pscid
cached_space (Second gscid) = space.Second gscid
cached_space (Both gscid pscid) = space.Both gscid pscid

abbrev pub cached_key : SpacePage → Key
cached_key at = (cached_space at.space, at.page)

abbrev pub mapping_from : ℕ → Rights → Mapping
mapping_from frame rights = record { frame = frame; rights = rights }

abbrev pub mapping_of : Translation → Mapping
mapping_of translation = mapping_from translation.frame translation.rights

-- what a device's own cache has
abbrev pub kept_entry : KeptEntry → AtsEntry
kept_entry kept = record { page = kept.page; mapping = mapping_from kept.frame kept.rights }

abbrev pub kept_entries : Option Cache → List AtsEntry
kept_entries None = []
kept_entries (Some cache) = map kept_entry cache.entries

-- a message on a device's link
abbrev pub said_on : ℕ → Sent → Message
said_on device (sent.Ask epoch page) = Question device epoch page
said_on device (sent.Answer epoch page (reply.Page frame rights)) = Answer device epoch page (mapping_from frame rights)
said_on device (sent.Answer epoch page (reply.Refused cause)) = Other
said_on device (sent.InvReq serial range) = Other
said_on device (sent.InvDone serial) = Other

abbrev pub message_of : OnLink → Message
message_of on = said_on on.device on.message

-- the accesses in flight of a device's row
abbrev pub flight_of : NumberedAccess → PendingAccess
flight_of numbered = record { frame = numbered.accepted.frame; kind = numbered.accepted.access.kind }

abbrev pub flights_in : Option FlightRow → List PendingAccess
flights_in None = []
flights_in (Some row) = map flight_of row.waiting

-- the contexts that are cached, of devices whose id isn't too wide for the directory: the others aren't found
abbrev pub contexts_in : DirectoryMode → Content ℕ DeviceContext → ℕ → Option Context
contexts_in mode content device = if fits_directory mode device then option_map context_of (content device) else None

-- the translations that are cached
abbrev pub mappings_in : Translations → SpacePage → Option Mapping
mappings_in content at = option_map mapping_of (content (cached_key at))

-- THE SCENE of hardware, where software entrusts these devices with all memory. Walks are whole, so no part of one is under way; and no pointer is cached
abbrev pub scene_of : (ℕ → Bool) → BoardParts → HardwareScene
scene_of trusted parts = record {
  formats = formats;
  memory = slice_get parts.memory;
  directory = directory_by (directory_mode (registers_of parts.iommu)) (directory_root (registers_of parts.iommu));
  waiting = waiting_places (registers_of parts.iommu);
  fault_frames = fault_frames_of (registers_of parts.iommu);
  kind_of = λ device. option_map ats_kind (kind_in parts.devices device);
  is_trusted = trusted;
  contexts = contexts_in (directory_mode (registers_of parts.iommu)) (contexts_of parts.iommu);
  translations = mappings_in (translations_of parts.iommu);
  partial_walks = [];
  directory_walks = [];
  ats_entries = λ device. kept_entries (cache_of parts.devices device);
  epoch_of = epoch_in parts.devices;
  messages = map message_of parts.fabric;
  in_flight = λ device. flights_in (row_of (flights_of parts.iommu).rows device);
}
