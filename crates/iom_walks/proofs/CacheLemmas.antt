-- What a look and then a keep leave of a cache of translations.
use Rattle.std.proofs.Common.{◌≡◌, ◌∙◌, ℕ, Bool, true, false, List, Option, None, Some, refl, sym, ap, subst}
use Rattle.iom_device_dir.specs.Paths.{fits_directory}
use Rattle.iom_device_dir.specs.declared.context.Context.{Context}
use Rattle.iom_registers.specs.declared.directory.DirectoryMode.{DirectoryMode}
use Rattle.iom_registers.specs.declared.directory.DirectoryMode.TheVariants as mode
use Rattle.iom_registers.specs.declared.directory.DirectoryPointer.{DirectoryPointer}
use Rattle.iom_stepped_requests.specs.Serving.{begin, in_directory, served_or, way_to_context, without_directory}
use Rattle.iom_stepped_requests.specs.declared.request.Kept.{Kept}
use Rattle.iom_stepped_requests.specs.declared.request.Request.{Request}
use Rattle.iom_tlb.specs.Content.{Translations, TranslationsUnchanged}
use Rattle.iom_walks.specs.Caches.{LeavesTranslations, OffersTranslation, found_for, looks_for_context, offers_translation, to_keep}
use Rattle.iom_walks.specs.Walks.{UnderWay}

-- a cache that has the same has the same content
pub same_content : (old new : Translations) → TranslationsUnchanged old new → new ≡ old
same_content old new same = λ i key. same key i

-- what is kept after a look is kept of what was there before it
pub offers_after : (sure : Bool) (kept : Kept) (old middle new : Translations) → TranslationsUnchanged old middle → OffersTranslation sure kept middle new
    → OffersTranslation sure kept old new
offers_after sure kept old middle new same offers = subst (λ (content : Translations). OffersTranslation sure kept content new) (same_content old middle same) offers

-- neither a look nor a keep
pub leaves_after : {C : Type 0} (memory : List (List ℕ)) (under_way : Option UnderWay) (found : Kept) (old middle new : C) → found ≡ to_keep memory under_way
    → LeavesTranslations memory under_way old middle → (offers_translation found ≡ false → new ≡ middle) → LeavesTranslations memory under_way old new
leaves_after memory None found old middle new is leaves keeps = keeps (ap offers_translation is) ∙ leaves
leaves_after memory (Some under_way) found old middle new is leaves keeps = λ looks offers. keeps (ap offers_translation is ∙ offers) ∙ leaves looks offers

-- where no context is looked for, it doesn't matter which one is cached: an id that is too wide makes its way through the directory, and stops there
way_alike : (ddtp : DirectoryPointer) (context : Option Context) (id : ℕ) (b : Bool) → fits_directory ddtp.mode id ≡ b
    → way_to_context ddtp (found_for b context) id ≡ way_to_context ddtp context id
way_alike ddtp context id true fits = refl
way_alike ddtp None id false fits = refl
way_alike ddtp (Some context) id false fits = rw fits refl

pub begins_alike : (frames : ℕ) (ddtp : DirectoryPointer) (context : Option Context) (cached : Translations) (request : Request)
    → begin frames ddtp (found_for (looks_for_context ddtp.mode request.device) context) cached request ≡ begin frames ddtp context cached request
begins_alike frames ddtp context cached request = by ddtp.mode refl
  where
    ways : (m : DirectoryMode) → m ≡ ddtp.mode
        → in_directory frames false cached request (way_to_context ddtp (found_for (fits_directory m request.device) context) request.device)
        ≡ in_directory frames false cached request (way_to_context ddtp context request.device)
    ways m is =
        ap (in_directory frames false cached request)
        (way_alike ddtp context request.device (fits_directory m request.device) (ap (λ it. fits_directory it request.device) (sym is)))

    by : (m : DirectoryMode) → m ≡ ddtp.mode
        → served_or (without_directory m)
        (in_directory frames false cached request (way_to_context ddtp (found_for (looks_for_context m request.device) context) request.device))
        ≡ served_or (without_directory m) (in_directory frames false cached request (way_to_context ddtp context request.device))
    by mode.Off is = refl
    by mode.Bare is = refl
    by mode.OneLevel is = ways mode.OneLevel is
    by mode.TwoLevels is = ways mode.TwoLevels is
    by mode.ThreeLevels is = ways mode.ThreeLevels is
