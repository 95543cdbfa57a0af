-- What a device's word that it completed an invalidation request leaves (IOMMU specification, section 3.1.4, "IOMMU Address-translation services
-- (ATS) commands").
use Rattle.std.specs.Prelude.{◌≡◌, ◌↔◌, ℕ, Bool, IsTrue, Any}
use Rattle.iom_command_queue.specs.OpenSlots.{is_request, without_request}
use Rattle.iom_tlb.specs.declared.trans_cache.TransCache.{Ghosts as Cache}
use Rattle.iom_iommu.specs.declared.iommu.Iommu.{Iommu}
use Rattle.iom_iommu.specs.Parts.{slots_of}

-- THE REQUEST with this number to this device is no more open, and all else is as it was. The answer says whether it was open
pub record CompletesRequest {C : Type 0} {c : Cache C} (old : Iommu C c) (id serial : ℕ) (closed : Bool) (new : Iommu C c) : Type 0 where
  pub was_open : IsTrue closed ↔ Any (λ slot. IsTrue (is_request serial id slot)) (slots_of old).open_slots
  pub left : new ≡ record old { slots = without_request (slots_of old) serial id }
