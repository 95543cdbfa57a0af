-- A reason is that of the fault with which the IOMMU answers a request that says that it is translated.
use Rattle.std.proofs.Common.{◌≡◌, ℕ, ◌/◌, nat_lt, Bool, true, false, List, length, Option, None, Some, Result, Ok, Err, if◌then◌else◌, ap, ◌∙◌, subst}
use Rattle.iom_base.specs.Rights.{rw}
use Rattle.iom_base.specs.Sizes.{page_size}
use Rattle.iom_base.specs.Tables.{access_fault_of}
use Rattle.iom_base.specs.declared.access.AccessKind.{AccessKind}
use Rattle.iom_base.specs.declared.cause.Cause.{Cause}
use Rattle.iom_base.specs.declared.cause.Cause.TheVariants.{TransactionTypeDisallowed}
use Rattle.iom_device_dir.specs.Located.{located_context}
use Rattle.iom_device_dir.specs.Paths.{fits_directory}
use Rattle.iom_device_dir.specs.declared.context.Context.{Context}
use Rattle.iom_iommu.specs.Service.{ats_context_in, found_context, letting_ats}
use Rattle.iom_iommu.specs.Translated.{physical_page}
use Rattle.iom_registers.specs.declared.directory.DirectoryMode.{DirectoryMode}
use Rattle.iom_registers.specs.declared.directory.DirectoryMode.TheVariants.{Off, Bare, OneLevel, TwoLevels, ThreeLevels}
use Rattle.iom_registers.specs.declared.directory.DirectoryPointer.{DirectoryPointer}
use Rattle.iom_stage_walk.specs.Both.{plain}
use Rattle.iom_stage_walk.specs.declared.walked.WalkFault.{WalkFault}
use Rattle.iom_tlb.specs.declared.trans_cache.Translation.{Translation}
use Rattle.iom_walk_stops.specs.declared.directory.DirectoryEnd.TheVariants as directory
use Rattle.iom_fault_reasons.proofs.Facts.{directory_end, directory_finds}
use Rattle.iom_fault_reasons.specs.Laws.{TranslatedReasonsAreOfFaults}
use Rattle.iom_fault_reasons.specs.Translated.{IsTranslatedByDirectory, IsTranslatedFound, IsTranslatedIn, IsTranslatedWithin, reason_of_context, translated_fault_by}
use Rattle.iom_fault_reasons.specs.declared.found.ContextSource.{ContextSource}
use Rattle.iom_fault_reasons.specs.declared.found.ContextSource.TheVariants.{Cache, Directory}
use Rattle.iom_fault_reasons.specs.declared.translated.WhyTranslated.{WhyTranslated}
use Rattle.iom_fault_reasons.specs.declared.translated.WhyTranslated.TheVariants.{LacksAts, OutsideMemory, Passes}

module _ (memory : List (List ℕ)) (id address : ℕ) (kind : AccessKind) (why : WhyTranslated) (fault : WalkFault) where
  abbrev IsItsReason : Type 0
  IsItsReason = translated_fault_by kind why ≡ Some fault

  abbrev IsAnswer : Result Context Cause → Type 0
  IsAnswer found = Err fault ≡ physical_page (letting_ats found) memory address kind

  -- by a context
  by_context : (context : Context) (source : ContextSource) → why ≡ reason_of_context memory context source address → IsAnswer (Ok context) → IsItsReason
  by_context context source is answers =
      ap (translated_fault_by kind) is ∙ by context.en_ats (nat_lt (address / page_size) (length memory)) answers
    where
      by : (ats inside : Bool)
          → ◌≡◌ {A = Result Translation WalkFault} (Err fault)
          (physical_page (if ats then Ok context else Err TransactionTypeDisallowed) memory address kind)
          → translated_fault_by kind
          (if ats then (if nat_lt (address / page_size) (length memory) then Passes (address / page_size) else OutsideMemory) else LacksAts source)
          ≡ Some fault
      by false inside is = cc
      by true inside is = own (nat_lt (address / page_size) (length memory)) is
        where
          own : (b : Bool)
              → ◌≡◌ {A = Result Translation WalkFault} (Err fault)
              (if b then Ok (record { frame = address / page_size; rights = rw; order = 0 }) else Err (plain (access_fault_of kind)))
              → translated_fault_by kind (if b then Passes (address / page_size) else OutsideMemory) ≡ Some fault
          own true is = absurd cc
          own false is = cc

  -- by the cause for which there is none
  by_cause : (cause : Cause) → IsAnswer (Err cause) → Some (plain cause) ≡ Some fault
  by_cause cause answers = let e : ◌≡◌ {A = Result Translation WalkFault} (Err fault) (Err (plain cause)) = answers in cc

  by_directory : (ddtp : DirectoryPointer) → IsTranslatedByDirectory memory ddtp id address why → IsAnswer (located_context memory ddtp id) → IsItsReason
  by_directory ddtp (directory.Finds context, ends, is) answers =
      by_context context Directory is (subst IsAnswer (directory_finds memory ddtp id context ends) answers)
  by_directory ddtp (directory.StopsUnread cause, ends, is) answers = absurd is
  by_directory ddtp (directory.StopsAt load cause, ends, is) answers =
      ap (translated_fault_by kind) is ∙ by_cause cause (subst IsAnswer (directory_end memory ddtp id load cause ends) answers)

  by_found : (ddtp : DirectoryPointer) (cached : Option Context) → IsTranslatedFound memory ddtp cached id address why
      → IsAnswer (found_context cached (located_context memory ddtp id)) → IsItsReason
  by_found ddtp None is answers = by_directory ddtp is answers
  by_found ddtp (Some cached) is answers = by_context cached Cache is answers

  by_width : (ddtp : DirectoryPointer) (cached : Option Context) (fits : Bool) → IsTranslatedWithin fits memory ddtp cached id address why
      → IsAnswer (if fits then found_context cached (located_context memory ddtp id) else Err TransactionTypeDisallowed) → IsItsReason
  by_width ddtp cached false is answers = ap (translated_fault_by kind) is ∙ by_cause TransactionTypeDisallowed answers
  by_width ddtp cached true is answers = by_found ddtp cached is answers

  pub by_mode : (ddtp : DirectoryPointer) (cached : Option Context) (mode : DirectoryMode) → IsTranslatedIn mode memory ddtp cached id address why
      → Err fault
      ≡ physical_page
      (ats_context_in mode (if fits_directory mode id then found_context cached (located_context memory ddtp id) else Err TransactionTypeDisallowed)) memory address kind
      → IsItsReason
  by_mode ddtp cached Off is answers = ap (translated_fault_by kind) is ∙ cc
  by_mode ddtp cached Bare is answers = ap (translated_fault_by kind) is ∙ cc
  by_mode ddtp cached OneLevel is answers = by_width ddtp cached (fits_directory OneLevel id) is answers
  by_mode ddtp cached TwoLevels is answers = by_width ddtp cached (fits_directory TwoLevels id) is answers
  by_mode ddtp cached ThreeLevels is answers = by_width ddtp cached (fits_directory ThreeLevels id) is answers

pub translated_reasons_are_of_faults : TranslatedReasonsAreOfFaults
translated_reasons_are_of_faults memory r contexts id address kind why fault is answers =
    by_mode memory id address kind why fault r.ddtp (contexts id) r.ddtp.mode is answers
