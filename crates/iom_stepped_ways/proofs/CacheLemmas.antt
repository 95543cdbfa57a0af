-- What a request that begins, and a load, leave of the two caches.
use Rattle.std.proofs.Common.{◌≡◌, ◌⊎◌, inl, inr, ℕ, Bool, true, false, List, refl, sym, ap, ◌∙◌, subst}
use Rattle.iom_board.specs.BoardParts.{BoardParts}
use Rattle.iom_device_dir.specs.Cached.{cached_contexts}
use Rattle.iom_device_dir.specs.Contents.{SetsOne}
use Rattle.iom_device_dir.specs.declared.cache.DirCache.{DirCache}
use Rattle.iom_iommu.specs.Parts.{registers_of, contexts_of, translations_of}
use Rattle.iom_registers.specs.Queues.{directory_mode}
use Rattle.iom_registers.specs.declared.directory.DirectoryMode.{DirectoryMode}
use Rattle.iom_stepped_requests.specs.declared.request.Kept.{Kept}
use Rattle.iom_stepped_requests.specs.declared.request.Kept.TheVariants as kept_as
use Rattle.iom_tlb.specs.Content.{Translations, Keeps}
use Rattle.iom_tlb.specs.declared.space.Space.{Space}
use Rattle.iom_tlb.specs.declared.space.Space.TheVariants as space
use Rattle.iom_walks.specs.Caches.{LooksAtBegin, OffersContext, OffersTranslation}
use Rattle.iom_reach.specs.Scene.{HardwareScene, HasDevice}
use Rattle.iom_reach.specs.Memory.{WalkStep}
use Rattle.iom_reach.specs.Transitions.{IsPartOf, WalkGives}
use Rattle.iom_reach.specs.Ways.{IsStored, IsSought, WalkBegins}
use Rattle.iom_hardware_ways.specs.Formats.{context_of}
use Rattle.iom_hardware_ways.specs.Scenes.{cached_space, contexts_in, mapping_of, mappings_in, scene_of}
use Rattle.iom_hardware_ways.proofs.Changes.{ContextsChange, TranslationsChange}
use Rattle.iom_hardware_ways.proofs.ContextLemmas.{same_shown, sets_shown}
use Rattle.iom_hardware_ways.proofs.TranslationLemmas.{stays_shown, sets_shown as translation_shown}
use Rattle.iom_stepped_ways.specs.Scenes.{Added, address_space, with_added}

-- CONTEXTS

-- by a look nothing is lost that is shown, and nothing new is
pub looked : (is_looked_for : Bool) (m : DirectoryMode) (id : ℕ) (old new : DirCache) → LooksAtBegin is_looked_for id old new
    → IsPartOf (contexts_in m (cached_contexts new)) (contexts_in m (cached_contexts old))
looked true m id old new looks = same_shown m (cached_contexts old) (cached_contexts new) looks.unchanged
looked false m id old new same = same_shown m (cached_contexts old) (cached_contexts new) (λ key. ap (λ c. cached_contexts c key) same)

-- what a load finds, and keeps, of a context is one that may be found
abbrev pub IsFoundToKeep : HardwareScene → Kept → Type 0
IsFoundToKeep scene kept_as.Nothing = Unit {0}
IsFoundToKeep scene (kept_as.Context id context) = HasDevice scene id × (IsStored scene id (context_of context) ⊎ IsSought scene id (context_of context))
IsFoundToKeep scene (kept_as.Translation space page translation) =
    (table : ℕ) × (steps_to : ℕ → List WalkStep) × WalkBegins scene (address_space space) table steps_to × WalkGives scene table steps_to (mapping_of translation)

-- the device of a context that is kept
abbrev pub kept_device : Kept → ℕ
kept_device kept_as.Nothing = 0
kept_device (kept_as.Context id context) = id
kept_device (kept_as.Translation space page translation) = 0

module _ (trusted : ℕ → Bool) (parts : BoardParts) (a : Added) where
  abbrev S : HardwareScene
  S = with_added (scene_of trusted parts) a

  -- THE CONTEXTS that a load leaves
  pub contexts_offered : (found : Kept) (old new : DirCache) → contexts_of parts.iommu ≡ cached_contexts old → IsFoundToKeep S found → OffersContext found old new
      → ContextsChange S (kept_device found) (contexts_in (directory_mode (registers_of parts.iommu)) (cached_contexts new))
  contexts_offered kept_as.Nothing old new is found same =
      inl (same_shown (directory_mode (registers_of parts.iommu)) (contexts_of parts.iommu) (cached_contexts new) (λ key. ap (λ c. cached_contexts c key) same ∙ ap (λ c. c key) (sym is)))
  contexts_offered (kept_as.Translation space page translation) old new is found same =
      inl (same_shown (directory_mode (registers_of parts.iommu)) (contexts_of parts.iommu) (cached_contexts new) (λ key. ap (λ c. cached_contexts c key) same ∙ ap (λ c. c key) (sym is)))
  contexts_offered (kept_as.Context id context) old new is (plugged, found) keeps = elim keeps.kept [
    | inl sets ↦ inr (
      context_of context,
      plugged,
      found,
      sets_shown (directory_mode (registers_of parts.iommu)) id context (contexts_of parts.iommu) (cached_contexts new)
          (subst (λ c. SetsOne c id context (cached_contexts new)) (sym is) sets),
    )
    | inr (none, same) ↦ inl (same_shown (directory_mode (registers_of parts.iommu)) (contexts_of parts.iommu) (cached_contexts new) (λ key. same key ∙ ap (λ c. c key) (sym is)))
  ]

  pub space_named : (s : Space) → cached_space (address_space s) ≡ s
  space_named (space.First pscid) = refl
  space_named (space.Second gscid) = refl
  space_named (space.Both gscid pscid) = refl

  -- THE TRANSLATIONS
  pub translations_offered : (sure : Bool) (found : Kept) (new : Translations) → IsFoundToKeep S found → OffersTranslation sure found (translations_of parts.iommu) new
      → TranslationsChange S (mappings_in new)
  translations_offered sure kept_as.Nothing new found unchanged = inl (stays_shown (translations_of parts.iommu) new unchanged)
  translations_offered sure (kept_as.Context id context) new found unchanged = inl (stays_shown (translations_of parts.iommu) new unchanged)
  translations_offered sure (kept_as.Translation s page translation) new (table, steps_to, begins, gives) keeps =
      by (subst (λ (k : Space). Keeps sure (translations_of parts.iommu) (k, page) translation new) (sym (space_named s)) keeps)
    where
      by : Keeps sure (translations_of parts.iommu) (cached_space (address_space s), page) translation new → TranslationsChange S (mappings_in new)
      by (inl sets) = inr (
        address_space s,
        table,
        steps_to,
        page,
        mapping_of translation,
        begins,
        gives,
        translation_shown (translations_of parts.iommu) (record { space = address_space s; page = page }) translation new sets,
      )
      by (inr (unsure, none, unchanged)) = inl (stays_shown (translations_of parts.iommu) new unchanged)
