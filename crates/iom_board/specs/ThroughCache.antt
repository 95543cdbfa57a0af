-- What comes of an access through the device's own cache of translations (PCI Express Base Specification, section 10.2).
use Rattle.std.specs.Prelude.{◌≡◌, ◌⊎◌, ℕ, Bool, Option, None, Some, Result}
use Rattle.std.specs.Option.{option_and_then}
use Rattle.iom_ats_cache.specs.Cache.{Cache, frame_for}
use Rattle.iom_base.specs.Accesses.{page_of, IsWithinPage, at_frame}
use Rattle.iom_base.specs.declared.access.Access.{Access}
use Rattle.iom_base.specs.declared.device_kind.DeviceKind.{DeviceKind}
use Rattle.iom_base.specs.declared.refusal.Refusal.{Refusal}
use Rattle.iom_device.specs.Caches.{cache_of}
use Rattle.iom_inflight.specs.Calls.{HasRoom, IsFull}
use Rattle.iom_iommu.specs.declared.reply.Reply.TheVariants.{Busy, BadSpan}
use Rattle.iom_iommu.specs.Parts.{flights_of}
use Rattle.iom_iommu.specs.Translated.{AnswersTranslated}
use Rattle.iom_board.specs.declared.answers.CacheReply.{CacheReply}
use Rattle.iom_board.specs.declared.answers.CacheReply.TheVariants.{Miss, Replied}
use Rattle.iom_board.specs.ByDevice.{ByDevice}
use Rattle.iom_board.specs.BoardParts.{BoardParts}
use Rattle.iom_board.specs.Requests.{Replies}

-- the frame that the device's cache has for the access
abbrev pub frame_in_cache : BoardParts → ℕ → Access → Option ℕ
frame_in_cache parts id access = option_and_then (λ (cache : Cache). frame_for cache (page_of access) access.kind) (cache_of parts.devices id)

-- it misses exactly where the cache has none; else the device makes a translated request of it
abbrev pub GoesByCachedFrame : Option ℕ → ℕ → Access → BoardParts → CacheReply → BoardParts → Type 0
GoesByCachedFrame None id access old Miss new = new ≡ old
GoesByCachedFrame None id access old (Replied reply) new = ⊥
GoesByCachedFrame (Some frame) id access old Miss new = ⊥
GoesByCachedFrame (Some frame) id access old (Replied reply) new = Replies (AnswersTranslated old.memory old.iommu id (at_frame frame access)) old reply new

-- the first that applies: the bytes are none or too many or leave their page, eight accesses are in flight, or the cache is asked
abbrev pub GoesByCache : ℕ → Access → BoardParts → CacheReply → BoardParts → Type 0
GoesByCache id access old reply new =
    ((¬ IsWithinPage access) × (reply ≡ Replied BadSpan) × (new ≡ old))
    ⊎ (IsWithinPage access × IsFull (flights_of old.iommu) id × (reply ≡ Replied Busy) × (new ≡ old))
    ⊎ (IsWithinPage access × HasRoom (flights_of old.iommu) id × GoesByCachedFrame (frame_in_cache old id access) id access old reply new)

-- A DEVICE ASKS for an access through its own cache, if it is of a kind that can
abbrev pub RequestsAccessThroughCache : (DeviceKind → Bool) → BoardParts → ℕ → Access → Result CacheReply Refusal → BoardParts → Type 0
RequestsAccessThroughCache can old id access answer new = ByDevice can (GoesByCache id access) old id answer new
