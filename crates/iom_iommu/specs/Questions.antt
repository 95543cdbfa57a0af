-- What a device's question for the translation of a page is answered and leaves (IOMMU specification, section 2.3, "Process to translate an IOVA"; PCI
-- Express, "Address Translation Services").
use Rattle.std.specs.Prelude.{◌≡◌, ℕ, ◌*◌, ◌<◌, Bool, true, false, List, Result, Ok, Err}
use Rattle.iom_base.specs.Sizes.{page_size}
use Rattle.iom_base.specs.declared.access.AccessKind.TheVariants.{Read}
use Rattle.iom_base.specs.declared.cause.Cause.{Cause}
use Rattle.iom_base.specs.declared.cause.Cause.TheVariants.{ReadAccessFault, WriteAccessFault, ReadPageFault, WritePageFault, ReadGuestPageFault, WriteGuestPageFault, AllInboundDisallowed, DirectoryLoadFault, DirectoryEntryNotValid, DirectoryEntryMisconfigured, TransactionTypeDisallowed}
use Rattle.iom_base.specs.declared.rights.Rights.{Rights}
use Rattle.iom_fabric.specs.declared.message.Translation.{Translation as Answer}
use Rattle.iom_fabric.specs.declared.message.Translation.TheVariants.{Page, Refused}
use Rattle.iom_fault_queue.specs.declared.ring.Put.{Put}
use Rattle.iom_fault_queue.specs.declared.transaction.Transaction.TheVariants.{AtsRequest}
use Rattle.iom_fault_queue.specs.Calls.{PutsRecord}
use Rattle.iom_fault_queue.specs.Fields.{Fields}
use Rattle.iom_fault_queue.specs.Records.{record_of}
use Rattle.iom_iommu.specs.declared.iommu.Iommu.{Iommu}
use Rattle.iom_registers.specs.declared.registers.Registers.{Registers}
use Rattle.iom_stage_walk.specs.declared.walked.WalkFault.{WalkFault}
use Rattle.iom_tlb.specs.declared.trans_cache.TransCache.{Ghosts as Cache}
use Rattle.iom_tlb.specs.declared.trans_cache.Translation.{Translation}
use Rattle.iom_tlb.specs.Content.{Translations}
use Rattle.iom_iommu.specs.Parts.{iommu_parts, registers_of, contexts_of, translations_of, frames_of}
use Rattle.iom_iommu.specs.Requests.{faulted_of, fault_of}
use Rattle.iom_iommu.specs.Service.{ServesBy, KeepsContext, ats_context_for}

-- the question is served by the translation of the page for a read, where there is a context that lets it through
abbrev pub ServesQuestion : {C : Type 0} {c : Cache C} → List (List ℕ) → Iommu C c → ℕ → ℕ → Result Translation WalkFault → Translations → Type 0
ServesQuestion {c = c} memory old id page answer new =
    ServesBy c.SURE (ats_context_for memory (registers_of old) (contexts_of old) id) memory (page * page_size) Read (translations_of old) answer new

-- the page has this frame, with all rights of the translation
pub record TellsPage {C : Type 0} {c : Cache C} (memory : List (List ℕ)) (old : Iommu C c) (id page frame : ℕ) (rights : Rights)
    (new : Iommu C c) : Type 0 where
  pub order : ℕ
  pub served : ServesQuestion memory old id page (Ok (record { frame = frame; rights = rights; order = order })) (translations_of new)
  pub inside : frame < frames_of old
  pub contexts : KeepsContext memory (registers_of old) (contexts_of old) id (contexts_of new)
  pub rest : iommu_parts new ≡ record (iommu_parts old) { contexts = new.contexts; translations = new.translations }

-- there is no lawful path to the page, in the first stage or in the second: of that the device alone is told (profile)
abbrev pub is_page_fault : Cause → Bool
is_page_fault ReadAccessFault = false
is_page_fault WriteAccessFault = false
is_page_fault ReadPageFault = true
is_page_fault WritePageFault = true
is_page_fault ReadGuestPageFault = true
is_page_fault WriteGuestPageFault = true
is_page_fault AllInboundDisallowed = false
is_page_fault DirectoryLoadFault = false
is_page_fault DirectoryEntryNotValid = false
is_page_fault DirectoryEntryMisconfigured = false
is_page_fault TransactionTypeDisallowed = false

-- nothing is recorded, or the record is put into the fault queue (section 3.2, "Fault/Event-Queue (FQ)")
abbrev pub RecordsUnless : Bool → List (List ℕ) → Registers → Fields → List (List ℕ) → Registers → Type 0
RecordsUnless true memory r fields new_memory new = (new_memory ≡ memory) × (new ≡ r)
RecordsUnless false memory r fields new_memory new = (answer : Put) × PutsRecord memory r fields answer new_memory new

-- there is no answer, for this cause
pub record RefusesQuestion {C : Type 0} {c : Cache C} (memory : List (List ℕ)) (old : Iommu C c) (id page : ℕ) (cause : Cause)
    (new_memory : List (List ℕ)) (new : Iommu C c) : Type 0 where
  pub fault : WalkFault
  pub reply : cause ≡ fault.cause
  pub served : ServesQuestion memory old id page (Err fault) (translations_of new)
  pub contexts : KeepsContext memory (registers_of old) (contexts_of old) id (contexts_of new)
  pub recorded : RecordsUnless (is_page_fault fault.cause) memory (registers_of old)
      (record_of (faulted_of id AtsRequest (page * page_size)) (fault_of fault)) new_memory (registers_of new)
  pub rest : iommu_parts new ≡ record (iommu_parts old) { registers = new.registers; contexts = new.contexts; translations = new.translations }

-- A DEVICE ASKS for the translation of a page
abbrev pub AnswersQuestion : {C : Type 0} {c : Cache C} → List (List ℕ) → Iommu C c → ℕ → ℕ → Answer → List (List ℕ) → Iommu C c → Type 0
AnswersQuestion memory old id page (Page frame rights) new_memory new = TellsPage memory old id page frame rights new × (new_memory ≡ memory)
AnswersQuestion memory old id page (Refused cause) new_memory new = RefusesQuestion memory old id page cause new_memory new
