-- Where a device stands among those that have rows: for the calls inside this crate alone.
use Rattle.std.specs.Prelude.{◌≡◌, ℕ, ◌==◌, List, Some, slice_get, slice_set, if◌then◌else◌}
use Rattle.iom_ledger.specs.declared.device_list.DevicePages.{DevicePages}
use Rattle.iom_ledger.specs.Rows.{Pages, pages_in}

-- the device stands there, and pages that are put there are its pages, while those of each other device stay
abbrev pub IsPlaceOf : List DevicePages → ℕ → ℕ → Type 0
IsPlaceOf devices device place =
    (own : DevicePages) × (slice_get devices place ≡ Some own) × (pages_in devices device ≡ Some own.pages)
    × ((pages : Pages) (d : ℕ) → pages_in (slice_set devices place (record own { pages = pages })) d
    ≡ (if device == d then Some pages else pages_in devices d))
