-- A reason is that of the fault with which the IOMMU answers.
use Rattle.std.specs.Prelude.{◌≡◌, ℕ, Bool, List, Some, Err}
use Rattle.iom_base.specs.declared.access.AccessKind.{AccessKind}
use Rattle.iom_device_dir.specs.Contents.{Content}
use Rattle.iom_device_dir.specs.declared.context.Context.{Context}
use Rattle.iom_iommu.specs.Service.{ats_context_for, Serves}
use Rattle.iom_iommu.specs.Translated.{physical_page}
use Rattle.iom_registers.specs.declared.registers.Registers.{Registers}
use Rattle.iom_stage_walk.specs.declared.walked.WalkFault.{WalkFault}
use Rattle.iom_tlb.specs.Content.{Translations}
use Rattle.iom_fault_reasons.specs.Reasons.{IsWhy, fault_by}
use Rattle.iom_fault_reasons.specs.Translated.{IsWhyTranslated, translated_fault_by}
use Rattle.iom_fault_reasons.specs.declared.found.WhyFault.{WhyFault}
use Rattle.iom_fault_reasons.specs.declared.translated.WhyTranslated.{WhyTranslated}

-- whatever is cached of translations: where the IOMMU answers an untranslated request with a fault, the reason that is found in the same state is that fault's
abbrev pub ReasonsAreOfFaults : Type 0
ReasonsAreOfFaults = (memory : List (List ℕ)) (r : Registers) (contexts : Content ℕ Context) (id address : ℕ) (kind : AccessKind) (why : WhyFault)
    (sure : Bool) (old new : Translations) (fault : WalkFault)
    → IsWhy memory r.ddtp (contexts id) id address kind why → Serves sure memory r contexts id address kind old (Err fault) new → fault_by kind why ≡ Some fault

-- the same of a request that says that it is translated
abbrev pub TranslatedReasonsAreOfFaults : Type 0
TranslatedReasonsAreOfFaults = (memory : List (List ℕ)) (r : Registers) (contexts : Content ℕ Context) (id address : ℕ) (kind : AccessKind) (why : WhyTranslated)
    (fault : WalkFault)
    → IsWhyTranslated memory r.ddtp (contexts id) id address why → Err fault ≡ physical_page (ats_context_for memory r contexts id) memory address kind
    → translated_fault_by kind why ≡ Some fault
