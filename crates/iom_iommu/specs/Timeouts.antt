-- What a timeout leaves of a fence that waits for devices (IOMMU specification, section 3.1.4, "IOMMU Address-translation services (ATS) commands", and
-- chapter 5, cmd_to of cqcsr).
use Rattle.std.specs.Prelude.{◌≡◌, ◌==◌, ◌&&◌, Bool, true, false, not, length, [], None}
use Rattle.iom_registers.specs.Queues.{with_cmd_to}
use Rattle.iom_tlb.specs.declared.trans_cache.TransCache.{Ghosts as Cache}
use Rattle.iom_iommu.specs.declared.iommu.Iommu.{Iommu}
use Rattle.iom_iommu.specs.Parts.{registers_of, waits_of, slots_of}

-- whether the fence at the head was fetched and told to wait for invalidation requests, and one of these is still open
abbrev pub can_time_out : {C : Type 0} {c : Cache C} → Iommu C c → Bool
can_time_out iommu = waits_of iommu && not (length (slots_of iommu).open_slots == 0)

-- the IOMMU once it gave the fence up: cmd_to is set, with the interrupt that follows, and no request is open. The head stays, and nothing is stored
abbrev pub timed_out : {C : Type 0} {c : Cache C} → Iommu C c → Iommu C c
timed_out iommu = record iommu {
  registers = with_cmd_to (registers_of iommu);
  fence_snapshot = None;
  fence_waits = false;
  slots = record (slots_of iommu) { open_slots = [] };
}

-- A TIMEOUT has its effect exactly where a fence waits so, and changes nothing else
abbrev pub TimesFenceOut : {C : Type 0} {c : Cache C} → Iommu C c → Bool → Iommu C c → Type 0
TimesFenceOut old true new = (can_time_out old ≡ true) × (new ≡ timed_out old)
TimesFenceOut old false new = (can_time_out old ≡ false) × (new ≡ old)
