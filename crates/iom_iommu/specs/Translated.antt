-- What a translated request of a device is answered and leaves (IOMMU specification, section 2.3, "Process to translate an IOVA"; PCI Express,
-- "Address Translation Services"): its address is that of memory, and no translation is looked for.
use Rattle.std.specs.Prelude.{◌≡◌, ℕ, List, Result, Ok, Err}
use Rattle.iom_base.specs.declared.access.Access.{Access}
use Rattle.iom_base.specs.declared.access.AccessKind.{AccessKind}
use Rattle.iom_base.specs.declared.cause.Cause.{Cause}
use Rattle.iom_device_dir.specs.declared.context.Context.{Context}
use Rattle.iom_fault_queue.specs.Fields.{translated_of}
use Rattle.iom_iommu.specs.declared.iommu.Iommu.{Iommu}
use Rattle.iom_iommu.specs.declared.reply.Reply.{Reply}
use Rattle.iom_stage_walk.specs.declared.walked.WalkFault.{WalkFault}
use Rattle.iom_stage_walk.specs.Both.{plain}
use Rattle.iom_tlb.specs.declared.trans_cache.TransCache.{Ghosts as Cache}
use Rattle.iom_tlb.specs.declared.trans_cache.Translation.{Translation}
use Rattle.iom_tlb.specs.Content.{Translations, TranslationsUnchanged}
use Rattle.iom_iommu.specs.Parts.{registers_of, contexts_of, translations_of}
use Rattle.iom_iommu.specs.Service.{ats_context_for, own_page}
use Rattle.iom_iommu.specs.Requests.{IommuAccepts, Refuses, Answers}

-- the frame of the address, where there is a context that lets the request through
abbrev pub physical_page : Result Context Cause → List (List ℕ) → ℕ → AccessKind → Result Translation WalkFault
physical_page (Ok context) memory address kind = own_page memory address kind
physical_page (Err cause) memory address kind = Err (plain cause)

-- the access is served by it, and what is cached of translations stays
abbrev pub ServesTranslated : {C : Type 0} {c : Cache C} → List (List ℕ) → Iommu C c → ℕ → Access → Result Translation WalkFault → Translations → Type 0
ServesTranslated memory old id access answer new =
    (answer ≡ physical_page (ats_context_for memory (registers_of old) (contexts_of old) id) memory access.address access.kind)
    × TranslationsUnchanged (translations_of old) new

abbrev pub AcceptsTranslated : {C : Type 0} {c : Cache C} → List (List ℕ) → Iommu C c → ℕ → Access → ℕ → Iommu C c → Type 0
AcceptsTranslated memory old id access number new = IommuAccepts (ServesTranslated memory old id access) memory old id access number new

abbrev pub RefusesTranslated : {C : Type 0} {c : Cache C} → List (List ℕ) → Iommu C c → ℕ → Access → Cause → List (List ℕ) → Iommu C c → Type 0
RefusesTranslated memory old id access cause new_memory new =
    Refuses (ServesTranslated memory old id access) (translated_of access.kind) memory old id access cause new_memory new

-- A DEVICE ASKS for an access by a translated request: the first that applies is its answer
abbrev pub AnswersTranslated : {C : Type 0} {c : Cache C} → List (List ℕ) → Iommu C c → ℕ → Access → Reply → List (List ℕ) → Iommu C c → Type 0
AnswersTranslated memory old id access reply new_memory new =
    Answers (ServesTranslated memory old id access) (translated_of access.kind) memory old id access reply new_memory new
