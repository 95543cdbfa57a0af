-- What is left of the two caches of an IOMMU by a request that begins, and by a load (RISC-V IOMMU specification, section 2.8, "Caching in-memory data structures").
use Rattle.std.specs.Prelude.{◌≡◌, ℕ, Bool, true, false, ◌&&◌, List, length, Option, None, Some}
use Rattle.iom_device_dir.specs.Cached.{cached_contexts, contexts_in_order}
use Rattle.iom_device_dir.specs.Contents.{KeepsOne, IsSameContent}
use Rattle.iom_device_dir.specs.Orders.{KeepsInOrder, after_look}
use Rattle.iom_device_dir.specs.Paths.{fits_directory}
use Rattle.iom_device_dir.specs.declared.cache.DirCache.{DirCache}
use Rattle.iom_device_dir.specs.declared.context.Context.{Context}
use Rattle.iom_registers.specs.declared.directory.DirectoryMode.{DirectoryMode}
use Rattle.iom_registers.specs.declared.directory.DirectoryMode.TheVariants as mode
use Rattle.iom_stepped_requests.specs.Serving.{kept}
use Rattle.iom_stepped_requests.specs.Standing.{may_look, still_serving}
use Rattle.iom_stepped_requests.specs.declared.request.Kept.{Kept}
use Rattle.iom_stepped_requests.specs.declared.request.Kept.TheVariants as kept_as
use Rattle.iom_stepped_requests.specs.declared.walk.Serving.{Serving}
use Rattle.iom_stepped_requests.specs.declared.walk.Serving.TheVariants.{GoesOn, Served}
use Rattle.iom_tlb.specs.Content.{Translations, TranslationsUnchanged, Keeps}
use Rattle.iom_walks.specs.Walks.{UnderWay}

-- whether there is a directory
abbrev pub has_directory : DirectoryMode → Bool
has_directory mode.Off = false
has_directory mode.Bare = false
has_directory mode.OneLevel = true
has_directory mode.TwoLevels = true
has_directory mode.ThreeLevels = true

-- whether the cached context of a device is looked for: where there is a directory for which its id isn't too wide (section 2.3.1)
abbrev pub looks_for_context : DirectoryMode → ℕ → Bool
looks_for_context mode id = has_directory mode && fits_directory mode id

-- a look at the context of a device: the same contexts stay cached, and that of the device, if there is one, is the one that was used last
pub record LooksForContext (id : ℕ) (old new : DirCache) : Type 0 where
  pub unchanged : IsSameContent (cached_contexts old) (cached_contexts new)
  pub order : contexts_in_order new ≡ after_look id (contexts_in_order old)

-- THE CACHE OF CONTEXTS after a request began: one look, or none
abbrev pub LooksAtBegin : Bool → ℕ → DirCache → DirCache → Type 0
LooksAtBegin true id old new = LooksForContext id old new
LooksAtBegin false id old new = new ≡ old

-- what the next load of what is under way finds that is to be kept
abbrev pub to_keep : List (List ℕ) → Option UnderWay → Kept
to_keep memory None = kept_as.Nothing
to_keep memory (Some under_way) = kept memory (still_serving (length memory) under_way.serving)

-- a context is kept as the cache of contexts keeps one
pub record KeepsContext (id : ℕ) (old : DirCache) (context : Context) (new : DirCache) : Type 0 where
  pub kept : KeepsOne (cached_contexts old) id context (cached_contexts new)
  pub order : KeepsInOrder (contexts_in_order old) id context (contexts_in_order new)

-- THE CACHE OF CONTEXTS after a load which found this to be kept
abbrev pub OffersContext : Kept → DirCache → DirCache → Type 0
OffersContext kept_as.Nothing old new = new ≡ old
OffersContext (kept_as.Context id context) old new = KeepsContext id old context new
OffersContext (kept_as.Translation space page translation) old new = new ≡ old

-- THE CACHE OF TRANSLATIONS after it. Whether the cache is sure says whether a keep may be refused
abbrev pub OffersTranslation : Bool → Kept → Translations → Translations → Type 0
OffersTranslation sure kept_as.Nothing old new = TranslationsUnchanged old new
OffersTranslation sure (kept_as.Context id context) old new = TranslationsUnchanged old new
OffersTranslation sure (kept_as.Translation space page translation) old new = Keeps sure old (space, page) translation new

-- whether a load may look in the cache of translations, or offers it one: by a look that which was used last may change, though nothing else does
abbrev pub may_look_in : Serving → Bool
may_look_in (GoesOn walk) = may_look walk
may_look_in (Served answer) = false

abbrev pub offers_translation : Kept → Bool
offers_translation kept_as.Nothing = false
offers_translation (kept_as.Context id context) = false
offers_translation (kept_as.Translation space page translation) = true

-- a load that does neither leaves the cache of translations itself as it is
abbrev pub LeavesTranslations : {C : Type 0} → List (List ℕ) → Option UnderWay → C → C → Type 0
LeavesTranslations memory None old new = new ≡ old
LeavesTranslations memory (Some under_way) old new =
    may_look_in under_way.serving ≡ false → offers_translation (to_keep memory (Some under_way)) ≡ false → new ≡ old

-- the cached context that a request begins with
abbrev pub found_for : Bool → Option Context → Option Context
found_for true cached = cached
found_for false cached = None
