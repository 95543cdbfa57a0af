-- The scene of hardware by what it is read off.
use Rattle.std.proofs.Common.{◌≡◌, ◌∙◌, ℕ, Bool, List, [], map, slice_get, option_map, ap}
use Rattle.iom_device.specs.Caches.{kind_in, cache_of, epoch_in}
use Rattle.iom_device.specs.declared.device.Device.{Device}
use Rattle.iom_device_dir.specs.declared.context.Context.{Context as DeviceContext}
use Rattle.iom_device_dir.specs.Contents.{Content}
use Rattle.iom_fabric.specs.declared.fabric.OnLink.{OnLink}
use Rattle.iom_board.specs.BoardParts.{BoardParts}
use Rattle.iom_inflight.specs.Flights.{FlightRow, row_of}
use Rattle.iom_iommu.specs.Parts.{registers_of, contexts_of, translations_of, flights_of}
use Rattle.iom_registers.specs.declared.registers.Registers.{Registers}
use Rattle.iom_registers.specs.Queues.{directory_mode, directory_root}
use Rattle.iom_tlb.specs.Content.{Translations}
use Rattle.iom_reach.specs.Scene.{HardwareScene}
use Rattle.iom_hardware_ways.specs.Formats.{formats}
use Rattle.iom_hardware_ways.specs.Scenes.{directory_by, waiting_places, fault_frames_of, ats_kind, contexts_in, mappings_in, kept_entries, message_of, flights_in, scene_of}

abbrev pub scene_by : (ℕ → Bool) → List (List ℕ) → Registers → Content ℕ DeviceContext → Translations → List FlightRow → List Device → List OnLink → HardwareScene
scene_by trusted memory r contexts translations rows devices fabric = record {
  formats = formats;
  memory = slice_get memory;
  directory = directory_by (directory_mode r) (directory_root r);
  waiting = waiting_places r;
  fault_frames = fault_frames_of r;
  kind_of = λ device. option_map ats_kind (kind_in devices device);
  is_trusted = trusted;
  contexts = contexts_in (directory_mode r) contexts;
  translations = mappings_in translations;
  partial_walks = [];
  directory_walks = [];
  ats_entries = λ device. kept_entries (cache_of devices device);
  epoch_of = epoch_in devices;
  messages = map message_of fabric;
  in_flight = λ device. flights_in (row_of rows device);
}

pub scene_is : (trusted : ℕ → Bool) (parts : BoardParts) (memory : List (List ℕ)) (r : Registers) (contexts : Content ℕ DeviceContext) (translations : Translations)
    (rows : List FlightRow) (devices : List Device) (fabric : List OnLink)
    → parts.memory ≡ memory → registers_of parts.iommu ≡ r → contexts_of parts.iommu ≡ contexts → translations_of parts.iommu ≡ translations
    → (flights_of parts.iommu).rows ≡ rows → parts.devices ≡ devices → parts.fabric ≡ fabric
    → scene_of trusted parts ≡ scene_by trusted memory r contexts translations rows devices fabric
scene_is trusted parts memory r contexts translations rows devices fabric em er ec et ef ed el =
    ap (λ m. scene_by trusted m (registers_of parts.iommu) (contexts_of parts.iommu) (translations_of parts.iommu) (flights_of parts.iommu).rows parts.devices parts.fabric) em
    ∙ ap (λ s. scene_by trusted memory s (contexts_of parts.iommu) (translations_of parts.iommu) (flights_of parts.iommu).rows parts.devices parts.fabric) er
    ∙ ap (λ c. scene_by trusted memory r c (translations_of parts.iommu) (flights_of parts.iommu).rows parts.devices parts.fabric) ec
    ∙ ap (λ t. scene_by trusted memory r contexts t (flights_of parts.iommu).rows parts.devices parts.fabric) et
    ∙ ap (λ f. scene_by trusted memory r contexts translations f parts.devices parts.fabric) ef
    ∙ ap (λ d. scene_by trusted memory r contexts translations rows d parts.fabric) ed
    ∙ ap (λ l. scene_by trusted memory r contexts translations rows devices l) el
