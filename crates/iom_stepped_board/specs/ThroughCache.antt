-- What comes of an access through the device's own cache of translations beside requests that are under way (PCI Express Base Specification, section 10.2).
use Rattle.std.specs.Prelude.{◌≡◌, ◌⊎◌, ◌<◌, ◌≤◌, ℕ, Bool, List, Option, None, Some, Result}
use Rattle.iom_base.specs.Accesses.{IsWithinPage, at_frame}
use Rattle.iom_base.specs.Sizes.{in_flight_limit}
use Rattle.iom_base.specs.declared.access.Access.{Access}
use Rattle.iom_base.specs.declared.device_kind.DeviceKind.{DeviceKind}
use Rattle.iom_base.specs.declared.refusal.Refusal.{Refusal}
use Rattle.iom_board.specs.BoardParts.{BoardParts}
use Rattle.iom_board.specs.ByDevice.{ByDevice}
use Rattle.iom_board.specs.Requests.{Replies}
use Rattle.iom_board.specs.ThroughCache.{frame_in_cache}
use Rattle.iom_board.specs.declared.answers.CacheReply.{CacheReply}
use Rattle.iom_board.specs.declared.answers.CacheReply.TheVariants.{Miss, Replied}
use Rattle.iom_iommu.specs.Parts.{flights_of}
use Rattle.iom_iommu.specs.Stepped.{AnswersTranslatedBeside, places_taken}
use Rattle.iom_iommu.specs.declared.reply.Reply.TheVariants.{Busy, BadSpan}
use Rattle.iom_walks.specs.Walks.{WalkRow}

-- it misses exactly where the cache has no frame; else the device makes a translated request of it
abbrev pub GoesByFrameBeside : Option ℕ → List WalkRow → ℕ → Access → BoardParts → CacheReply → BoardParts → Type 0
GoesByFrameBeside None rows id access old Miss new = new ≡ old
GoesByFrameBeside None rows id access old (Replied reply) new = ⊥
GoesByFrameBeside (Some frame) rows id access old Miss new = ⊥
GoesByFrameBeside (Some frame) rows id access old (Replied reply) new =
    Replies (AnswersTranslatedBeside old.memory old.iommu rows id (at_frame frame access)) old reply new

-- the first that applies: the bytes are none or too many or leave their page, the eight places are taken, or the cache is asked
abbrev pub GoesByCacheBeside : List WalkRow → ℕ → Access → BoardParts → CacheReply → BoardParts → Type 0
GoesByCacheBeside rows id access old reply new =
    ((¬ IsWithinPage access) × (reply ≡ Replied BadSpan) × (new ≡ old))
    ⊎ (IsWithinPage access × (in_flight_limit ≤ places_taken (flights_of old.iommu) rows id) × (reply ≡ Replied Busy) × (new ≡ old))
    ⊎ (IsWithinPage access × (places_taken (flights_of old.iommu) rows id < in_flight_limit)
    × GoesByFrameBeside (frame_in_cache old id access) rows id access old reply new)

-- A DEVICE ASKS for an access through its own cache, if it is of a kind that can
abbrev pub RequestsThroughCacheBeside : (DeviceKind → Bool) → BoardParts → List WalkRow → ℕ → Access → Result CacheReply Refusal → BoardParts → Type 0
RequestsThroughCacheBeside can old rows id access answer new = ByDevice can (GoesByCacheBeside rows id access) old id answer new
