-- An access of a device through its own cache of translations: what the cache has goes to the IOMMU as a translated request (PCI Express Base
-- Specification, section 10.2).
use Rattle.std.specs.Prelude.{◌≡◌, ◌⊎◌, ℕ, Bool, Option, None, Some}
use Rattle.std.specs.Option.{option_and_then}
use Rattle.iom_ats_cache.specs.Cache.{Cache, frame_for}
use Rattle.iom_base.specs.declared.access.Access.{Access}
use Rattle.iom_base.specs.Accesses.{page_of, IsWithinPage, at_frame}
use Rattle.iom_inflight.specs.Calls.{HasRoom, IsFull}
use Rattle.iom_iommu.specs.Parts.{flights_of}
use Rattle.iom_iommu.specs.Translated.{AnswersTranslated}
use Rattle.iom_machine.specs.declared.outcome.Outcome.{Outcome}
use Rattle.iom_machine.specs.declared.outcome.Outcome.TheVariants as outcome
use Rattle.iom_base.specs.declared.device_kind.DeviceKind.{DeviceKind}
use Rattle.iom_device.specs.Caches.{IsAble, cache_of}
use Rattle.iom_world_effects.specs.Parts.{Parts}
use Rattle.iom_world_effects.specs.Requests.{IsReplied}
use Rattle.iom_world_effects.specs.Unable.{IsUnknown, IsUnable}

-- the frame that the device's cache has for the access
abbrev pub cached_frame : Parts → ℕ → Access → Option ℕ
cached_frame parts id access = option_and_then (λ (cache : Cache). frame_for cache (page_of access) access.kind) (cache_of parts.devices id)

-- it misses exactly where the cache has none; else the device makes a translated request of it
abbrev pub FindsFrame : Option ℕ → Parts → ℕ → Access → Outcome → Parts → Type 0
FindsFrame None old id access reply new = (reply ≡ outcome.Miss) × (new ≡ old)
FindsFrame (Some frame) old id access reply new = IsReplied (AnswersTranslated old.memory old.iommu id (at_frame frame access)) old reply new

-- the first that applies: the bytes are none or too many or leave their page, eight accesses are in flight, or the cache is asked
abbrev pub TriesCache : Parts → ℕ → Access → Outcome → Parts → Type 0
TriesCache old id access reply new =
    ((¬ IsWithinPage access) × (reply ≡ outcome.BadSpan) × (new ≡ old))
    ⊎ (IsWithinPage access × IsFull (flights_of old.iommu) id × (reply ≡ outcome.Busy) × (new ≡ old))
    ⊎ (IsWithinPage access × HasRoom (flights_of old.iommu) id × FindsFrame (cached_frame old id access) old id access reply new)

-- A DEVICE ASKS for an access through its cache, if it is of a kind that can
abbrev pub DeviceAsksThroughCache : (DeviceKind → Bool) → Parts → ℕ → Access → Outcome → Parts → Type 0
DeviceAsksThroughCache can old id access reply new =
    IsUnknown old id reply new ⊎ IsUnable can old id reply new
    ⊎ (IsAble can old.devices id × TriesCache old id access reply new)
