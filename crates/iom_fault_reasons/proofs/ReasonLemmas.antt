-- A reason is that of the fault with which the IOMMU answers an untranslated request.
use Rattle.std.proofs.Common.{◌≡◌, ℕ, Bool, true, false, List, Option, None, Some, Result, Ok, Err, if◌then◌else◌, refl, ap, ◌∙◌, subst}
use Rattle.iom_base.specs.declared.access.AccessKind.{AccessKind}
use Rattle.iom_base.specs.declared.cause.Cause.{Cause}
use Rattle.iom_base.specs.declared.cause.Cause.TheVariants.{AllInboundDisallowed, TransactionTypeDisallowed}
use Rattle.iom_device_dir.specs.Located.{located_context}
use Rattle.iom_device_dir.specs.Paths.{fits_directory}
use Rattle.iom_device_dir.specs.declared.context.Context.{Context}
use Rattle.iom_iommu.specs.Service.{ServesBy, ServesIn, found_context}
use Rattle.iom_registers.specs.declared.directory.DirectoryMode.{DirectoryMode}
use Rattle.iom_registers.specs.declared.directory.DirectoryMode.TheVariants.{Off, Bare, OneLevel, TwoLevels, ThreeLevels}
use Rattle.iom_registers.specs.declared.directory.DirectoryPointer.{DirectoryPointer}
use Rattle.iom_stage_walk.specs.Both.{plain}
use Rattle.iom_stage_walk.specs.declared.walked.WalkFault.{WalkFault}
use Rattle.iom_tlb.specs.Content.{Translations}
use Rattle.iom_tlb.specs.declared.trans_cache.Translation.{Translation}
use Rattle.iom_walk_stops.specs.Stages.{stages_of}
use Rattle.iom_walk_stops.specs.declared.directory.DirectoryEnd.TheVariants as directory
use Rattle.iom_walk_stops.specs.declared.stages.Stages.{Stages}
use Rattle.iom_fault_reasons.proofs.Facts.{directory_end, directory_finds, end_fault, own_fault, own_stops, stages_stop}
use Rattle.iom_fault_reasons.specs.Laws.{ReasonsAreOfFaults}
use Rattle.iom_fault_reasons.specs.Reasons.{IsByContext, IsByDirectory, IsByFound, IsFound, IsWhyIn, IsWithin, fault_by}
use Rattle.iom_fault_reasons.specs.declared.found.ContextSource.{ContextSource}
use Rattle.iom_fault_reasons.specs.declared.found.ContextSource.TheVariants.{Cache, Directory}
use Rattle.iom_fault_reasons.specs.declared.found.WhyFault.{WhyFault}

module _ (memory : List (List ℕ)) (id address : ℕ) (kind : AccessKind) (why : WhyFault) (sure : Bool) (old new : Translations) (fault : WalkFault) where
  abbrev IsItsReason : Type 0
  IsItsReason = fault_by kind why ≡ Some fault

  -- by a context
  by_context : (context : Context) (source : ContextSource) → IsByContext memory context source address kind why
      → ServesBy sure (Ok context) memory address kind old (Err fault) new → IsItsReason
  by_context context source is serves = by (stages_of context.first_stage context.second_stage) refl is
    where
      by : (found : Option Stages) → stages_of context.first_stage context.second_stage ≡ found → IsByFound memory found source address kind why → IsItsReason
      by None none is =
          ap (fault_by kind) is
          ∙ own_fault memory address kind fault (own_stops sure context.first_stage context.second_stage context memory address kind old new fault serves none)
      by (Some stages) some (end, ends, is) =
          ap (fault_by kind) is
          ∙ end_fault memory stages source address kind end fault ends
          (stages_stop sure context.first_stage context.second_stage context memory address kind old new fault serves stages some)

  -- by the cause for which there is none
  by_cause : (cause : Cause) → ServesBy sure (Err cause) memory address kind old (Err fault) new → Some (plain cause) ≡ Some fault
  by_cause cause serves = let e : ◌≡◌ {A = Result Translation WalkFault} (Err fault) (Err (plain cause)) = serves.0 in cc

  -- by the directory
  by_directory : (ddtp : DirectoryPointer) → IsByDirectory memory ddtp id address kind why
      → ServesBy sure (located_context memory ddtp id) memory address kind old (Err fault) new → IsItsReason
  by_directory ddtp (directory.Finds context, ends, is) serves =
      by_context context Directory is
      (subst (λ found. ServesBy sure found memory address kind old (Err fault) new) (directory_finds memory ddtp id context ends) serves)
  by_directory ddtp (directory.StopsUnread cause, ends, is) serves = absurd is
  by_directory ddtp (directory.StopsAt load cause, ends, is) serves =
      ap (fault_by kind) is
      ∙ by_cause cause (subst (λ found. ServesBy sure found memory address kind old (Err fault) new) (directory_end memory ddtp id load cause ends) serves)

  -- by the context that is cached, or the directory
  by_found : (ddtp : DirectoryPointer) (cached : Option Context) → IsFound memory ddtp cached id address kind why
      → ServesBy sure (found_context cached (located_context memory ddtp id)) memory address kind old (Err fault) new → IsItsReason
  by_found ddtp None is serves = by_directory ddtp is serves
  by_found ddtp (Some cached) is serves = by_context cached Cache is serves

  -- by the width of the id
  by_width : (ddtp : DirectoryPointer) (cached : Option Context) (fits : Bool) → IsWithin fits memory ddtp cached id address kind why
      → ServesBy sure (if fits then found_context cached (located_context memory ddtp id) else Err TransactionTypeDisallowed) memory address kind old (Err fault) new
      → IsItsReason
  by_width ddtp cached false is serves = ap (fault_by kind) is ∙ by_cause TransactionTypeDisallowed serves
  by_width ddtp cached true is serves = by_found ddtp cached is serves

  -- by the mode of ddtp
  pub by_mode : (ddtp : DirectoryPointer) (cached : Option Context) (mode : DirectoryMode) → IsWhyIn mode memory ddtp cached id address kind why
      → ServesIn sure mode (if fits_directory mode id then found_context cached (located_context memory ddtp id) else Err TransactionTypeDisallowed) memory address kind
      old (Err fault) new
      → IsItsReason
  by_mode ddtp cached Off is serves =
      ap (fault_by kind) is ∙ (let e : ◌≡◌ {A = Result Translation WalkFault} (Err fault) (Err (plain AllInboundDisallowed)) = serves.0 in cc)
  by_mode ddtp cached Bare is serves = ap (fault_by kind) is ∙ own_fault memory address kind fault (serves.0)
  by_mode ddtp cached OneLevel is serves = by_width ddtp cached (fits_directory OneLevel id) is serves
  by_mode ddtp cached TwoLevels is serves = by_width ddtp cached (fits_directory TwoLevels id) is serves
  by_mode ddtp cached ThreeLevels is serves = by_width ddtp cached (fits_directory ThreeLevels id) is serves

pub reasons_are_of_faults : ReasonsAreOfFaults
reasons_are_of_faults memory r contexts id address kind why sure old new fault is serves =
    by_mode memory id address kind why sure old new fault r.ddtp (contexts id) r.ddtp.mode is serves
