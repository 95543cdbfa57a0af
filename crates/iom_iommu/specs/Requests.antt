-- What a request of a device is answered and leaves, and what becomes of an access in flight.
use Rattle.std.specs.Prelude.{◌≡◌, ℕ, ◌+◌, ◌%◌, ◌^◌, ◌<◌, ◌≤◌, List, Option, Result, Ok, Err}
use Rattle.iom_base.specs.Sizes.{page_size}
use Rattle.iom_base.specs.Accesses.{IsWithinPage}
use Rattle.iom_base.specs.declared.access.Access.{Access}
use Rattle.iom_base.specs.declared.access.AccessKind.{AccessKind}
use Rattle.iom_base.specs.declared.cause.Cause.{Cause}
use Rattle.iom_base.specs.declared.rights.Rights.{Rights}
use Rattle.iom_fault_queue.specs.declared.record.Fault.{Fault as FaultToRecord}
use Rattle.iom_fault_queue.specs.declared.record.FaultedRequest.{FaultedRequest}
use Rattle.iom_fault_queue.specs.declared.ring.Put.{Put}
use Rattle.iom_fault_queue.specs.declared.transaction.Transaction.{Transaction}
use Rattle.iom_fault_queue.specs.Calls.{PutsRecord}
use Rattle.iom_fault_queue.specs.Fields.{untranslated_of}
use Rattle.iom_fault_queue.specs.Records.{record_of}
use Rattle.iom_inflight.specs.declared.made.MadeAt.{MadeAt}
use Rattle.iom_inflight.specs.Calls.{IsAccepted, IsFull, HasRoom, MakesOldestInFlight}
use Rattle.iom_iommu.specs.declared.iommu.Iommu.{Iommu}
use Rattle.iom_iommu.specs.declared.reply.Reply.{Reply}
use Rattle.iom_iommu.specs.declared.reply.Reply.TheVariants.{Accepted, Busy, Fault, BadSpan}
use Rattle.iom_stage_walk.specs.declared.walked.WalkFault.{WalkFault}
use Rattle.iom_tlb.specs.declared.trans_cache.TransCache.{Ghosts as Cache}
use Rattle.iom_tlb.specs.declared.trans_cache.Translation.{Translation}
use Rattle.iom_tlb.specs.Content.{Translations}
use Rattle.iom_iommu.specs.Parts.{iommu_parts, registers_of, contexts_of, translations_of, flights_of, frames_of}
use Rattle.iom_iommu.specs.Service.{Serves, KeepsContext}

-- the access of so many bytes from an address on, with the bytes of a write
abbrev pub access_of : ℕ → ℕ → AccessKind → List ℕ → Access
access_of address len kind bytes = record { address = address; len = len; kind = kind; bytes = bytes }

-- WHAT BECOMES OF AN ACCESS, of an untranslated request or of a translated one, that is served so: with this translation or this fault, and
-- these translations cached then

-- it goes last in the device's row with this number, on the frame of its translation
pub record IommuAccepts {C : Type 0} {c : Cache C} (Served : Result Translation WalkFault → Translations → Type 0) (memory : List (List ℕ)) (old : Iommu C c)
    (id : ℕ) (access : Access) (number : ℕ) (new : Iommu C c) : Type 0 where
  pub within : IsWithinPage access
  pub frame : ℕ
  pub rights : Rights
  pub order : ℕ
  pub served : Served (Ok (record { frame = frame; rights = rights; order = order })) (translations_of new)
  pub inside : frame < frames_of old
  pub accepted : IsAccepted (flights_of old) id (record { access = access; frame = frame }) number (flights_of new)
  pub contexts : KeepsContext memory (registers_of old) (contexts_of old) id (contexts_of new)
  pub rest : iommu_parts new ≡ record (iommu_parts old) { flights = new.in_flight; contexts = new.contexts; translations = new.translations }

-- what is recorded of a transaction that faults (section 3.2, "Fault/Event-Queue (FQ)"): of its device's number the 24 bits that DID has
abbrev pub faulted_of : ℕ → Transaction → ℕ → FaultedRequest
faulted_of id transaction address = record { device = id % 2 ^ 24; transaction = transaction; address = address }

abbrev pub fault_of : WalkFault → FaultToRecord
fault_of fault = record { cause = fault.cause; guest_address = fault.gpa; implicit = fault.implicit }

-- it isn't translated, for this cause, and the record of its fault is put into the fault queue
pub record Refuses {C : Type 0} {c : Cache C} (Served : Result Translation WalkFault → Translations → Type 0) (transaction : Transaction)
    (memory : List (List ℕ)) (old : Iommu C c) (id : ℕ) (access : Access) (cause : Cause) (new_memory : List (List ℕ)) (new : Iommu C c) : Type 0 where
  pub within : IsWithinPage access
  pub room : HasRoom (flights_of old) id
  pub fault : WalkFault
  pub reply : cause ≡ fault.cause
  pub served : Served (Err fault) (translations_of new)
  pub contexts : KeepsContext memory (registers_of old) (contexts_of old) id (contexts_of new)
  pub answer : Put
  pub recorded : PutsRecord memory (registers_of old) (record_of (faulted_of id transaction access.address) (fault_of fault)) answer new_memory
      (registers_of new)
  pub rest : iommu_parts new ≡ record (iommu_parts old) { registers = new.registers; contexts = new.contexts; translations = new.translations }

-- the first that applies is its answer
abbrev pub Answers : {C : Type 0} {c : Cache C} → (Result Translation WalkFault → Translations → Type 0) → Transaction → List (List ℕ) → Iommu C c → ℕ
    → Access → Reply → List (List ℕ) → Iommu C c → Type 0
Answers Served transaction memory old id access BadSpan new_memory new = (¬ IsWithinPage access) × (new ≡ old) × (new_memory ≡ memory)
Answers Served transaction memory old id access Busy new_memory new =
    IsWithinPage access × IsFull (flights_of old) id × (new ≡ old) × (new_memory ≡ memory)
Answers Served transaction memory old id access (Accepted number) new_memory new =
    IommuAccepts Served memory old id access number new × (new_memory ≡ memory)
Answers Served transaction memory old id access (Fault cause) new_memory new = Refuses Served transaction memory old id access cause new_memory new

-- A DEVICE ASKS for an access by an untranslated request: it is served by the translation of its address
abbrev pub ServesRequest : {C : Type 0} {c : Cache C} → List (List ℕ) → Iommu C c → ℕ → Access → Result Translation WalkFault → Translations → Type 0
ServesRequest {c = c} memory old id access answer new =
    Serves c.SURE memory (registers_of old) (contexts_of old) id access.address access.kind (translations_of old) answer new

abbrev pub AcceptsRequest : {C : Type 0} {c : Cache C} → List (List ℕ) → Iommu C c → ℕ → Access → ℕ → Iommu C c → Type 0
AcceptsRequest memory old id access number new = IommuAccepts (ServesRequest memory old id access) memory old id access number new

abbrev pub RefusesRequest : {C : Type 0} {c : Cache C} → List (List ℕ) → Iommu C c → ℕ → Access → Cause → List (List ℕ) → Iommu C c → Type 0
RefusesRequest memory old id access cause new_memory new =
    Refuses (ServesRequest memory old id access) (untranslated_of access.kind) memory old id access cause new_memory new

abbrev pub AnswersRequest : {C : Type 0} {c : Cache C} → List (List ℕ) → Iommu C c → ℕ → Access → Reply → List (List ℕ) → Iommu C c → Type 0
AnswersRequest memory old id access reply new_memory new =
    Answers (ServesRequest memory old id access) (untranslated_of access.kind) memory old id access reply new_memory new

-- the bytes of an access that is made lie in one of so many frames
pub record IsWithinFrame (frames : ℕ) (made : MadeAt) : Type 0 where
  pub inside : made.frame < frames
  pub within : made.offset + made.len ≤ page_size

-- THE OLDEST ACCESS of a device is made, if there is one
pub record CommitsOldest {C : Type 0} {c : Cache C} (memory : List (List ℕ)) (old : Iommu C c) (id : ℕ) (made : Option MadeAt) (new_memory : List (List ℕ)) (new : Iommu C c) : Type 0 where
  pub makes : MakesOldestInFlight memory (flights_of old) id made new_memory (flights_of new)
  pub rest : iommu_parts new ≡ record (iommu_parts old) { flights = new.in_flight }
