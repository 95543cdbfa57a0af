-- What is cached of translations, and who has which address space, where little changes.
use Rattle.std.proofs.Common.{◌≡◌, ◌∙◌, ℕ, List, Option, None, Some, sym, ap, option_map}
use Rattle.iom_driver.specs.declared.device.Device as driver
use Rattle.iom_driver.specs.declared.device.Stages.{Stages}
use Rattle.iom_driver.specs.Devices.{owned_stages_of}
use Rattle.iom_iommu.specs.Parts.{registers_of, translations_of, fence_snapshot_of, slots_of}
use Rattle.iom_tlb.specs.declared.space.Space.{Space}
use Rattle.iom_driver.specs.Fences.{fence_of}
use Rattle.iom_registers.specs.Queues.{command_status}
use Rattle.iom_world_effects.specs.Parts.{Parts}
use Rattle.iom_world_effects.specs.Read.{space_in, space_at, values_of}
use Rattle.iom_world_effects.proofs.SceneCalls.{KeepsCached}
use Rattle.iom_world_effects.proofs.InvariantLemmas.{traffic_kept}

-- the IOMMU is the same, and so are devices and messages; and who has an address space keeps it
pub same_cached : (old new : Parts) → new.iommu ≡ old.iommu → new.devices ≡ old.devices → new.fabric ≡ old.fabric
    → fence_of new.driver ≡ fence_of old.driver
    → ((id : ℕ) (space : Space) → space_at old.driver.devices id ≡ Some space → space_at new.driver.devices id ≡ Some space) → KeepsCached (values_of old) (values_of new)
same_cached old new iommu devices fabric fences spaces = record {
  spaces = spaces;
  translations = λ key translation at. ap (λ i. translations_of i key) (sym iommu) ∙ at;
  fence_snapshot = ap fence_snapshot_of iommu;
  fences = fences;
  stopped = ap (λ i. (command_status (registers_of i)).cmd_to) iommu;
  traffic = traffic_kept old new devices fabric (ap slots_of iommu);
}

-- the devices are attached as they were
pub spaces_same : (old new : List driver.Device) → new ≡ old → (id : ℕ) (space : Space) → space_at old id ≡ Some space → space_at new id ≡ Some space
spaces_same old new same id space at = ap (λ ds. space_at ds id) same ∙ at

-- each has the stages that it had
pub spaces_owned : (old new : List driver.Device) → ((id : ℕ) → owned_stages_of new id ≡ owned_stages_of old id) → (id : ℕ) (space : Space) → space_at old id ≡ Some space
    → space_at new id ≡ Some space
spaces_owned old new same id space at = ap (option_map (λ (stage : Stages). space_in stage.mode stage.number)) (same id) ∙ at

-- a device without stages has no address space
pub none_spaced : (devices : List driver.Device) (id : ℕ) (space : Space) → owned_stages_of devices id ≡ None → space_at devices id ≡ Some space → ⊥
none_spaced devices id space none at = none_some (sym (ap (option_map (λ (stage : Stages). space_in stage.mode stage.number)) none) ∙ at)
  where
    none_some : ◌≡◌ {A = Option Space} None (Some space) → ⊥
    none_some same = cc
