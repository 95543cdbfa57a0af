-- The slots of invalidation requests that devices have still to complete (IOMMU specification, section 3.1.4, "IOMMU Address-translation services
-- (ATS) commands"; PCI Express, "Invalidate Completion").
use Rattle.std.specs.Prelude.{ℕ, ◌+◌, ◌<◌, ◌≤◌, ◌==◌, ◌&&◌, Bool, not, List, [], ◌∷◌, ◌++◌, filter, length}
use Rattle.iom_command_queue.specs.declared.slot.Slot.{Slot}

-- the open requests, the oldest first, and the last number that was given
pub record OpenSlots : Type 0 where
  pub open_slots : List Slot
  pub last : ℕ

-- nothing is open, and no number was given
abbrev pub no_slots : OpenSlots
no_slots = record { open_slots = []; last = 0 }

-- the request with the next number is open
abbrev pub with_next : OpenSlots → ℕ → OpenSlots
with_next slots device = record {
  open_slots = slots.open_slots ++ (record { serial = slots.last + 1; device = device }) ∷ [];
  last = slots.last + 1;
}

-- whether a request has this number and was sent to this device
abbrev pub is_request : ℕ → ℕ → Slot → Bool
is_request serial device slot = (slot.serial == serial) && (slot.device == device)

-- the request with this number and device is no more open
abbrev pub without_request : OpenSlots → ℕ → ℕ → OpenSlots
without_request slots serial device = record slots { open_slots = filter (λ slot. not (is_request serial device slot)) slots.open_slots }

-- the numbers rise from this one on, up to the last
abbrev pub RiseFrom : ℕ → List Slot → ℕ → Type 0
RiseFrom from [] last = from ≤ last
RiseFrom from (slot ∷ slots) last = (from < slot.serial) × RiseFrom slot.serial slots last

-- at most 32 are open, and their numbers rise, none of them above the last that was given: so no two are the same
abbrev pub AreSlots : OpenSlots → Type 0
AreSlots slots = (length slots.open_slots ≤ 32) × RiseFrom 0 slots.open_slots slots.last
