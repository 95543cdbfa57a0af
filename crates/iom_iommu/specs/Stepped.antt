-- A request whose walk makes one load an event, beside an IOMMU: what it is answered when it begins and at its loads, and all that is left (IOMMU specification,
-- section 2.3, "Process to translate an IOVA", and section 2.8, "Caching in-memory data structures"). What is under way is kept beside the IOMMU, in rows by
-- device.
use Rattle.std.specs.Prelude.{◌≡◌, ℕ, ◌+◌, ◌<◌, ◌≤◌, Bool, true, false, List, length, Option, None, Some, Result, Ok, Err, is_some, IsSome, if◌then◌else◌}
use Rattle.iom_base.specs.Accesses.{IsWithinPage}
use Rattle.iom_base.specs.Sizes.{in_flight_limit}
use Rattle.iom_base.specs.declared.access.Access.{Access}
use Rattle.iom_base.specs.declared.access.AccessKind.{AccessKind}
use Rattle.iom_base.specs.declared.cause.Cause.{Cause}
use Rattle.iom_command_queue.specs.declared.command.Command.TheVariants.{IotinvalVma, IotinvalGvma, IofenceC, IodirInvalDdt, AtsInval}
use Rattle.iom_fault_queue.specs.Calls.{PutsRecord}
use Rattle.iom_fault_queue.specs.Fields.{untranslated_of}
use Rattle.iom_fault_queue.specs.Records.{record_of}
use Rattle.iom_fault_queue.specs.declared.ring.Put.{Put}
use Rattle.iom_inflight.specs.Calls.{IsAccepted}
use Rattle.iom_inflight.specs.Flights.{Flights, count_in, row_of, IsAddedTo}
use Rattle.iom_iommu.specs.Parts.{iommu_parts, registers_of, contexts_of, translations_of, flights_of, frames_of}
use Rattle.iom_iommu.specs.Requests.{access_of, fault_of, faulted_of}
use Rattle.iom_iommu.specs.Service.{own_page, translation_of}
use Rattle.iom_iommu.specs.Translated.{AnswersTranslated}
use Rattle.iom_iommu.specs.declared.begun.Begun.{Begun}
use Rattle.iom_iommu.specs.declared.begun.Begun.TheVariants.{Answered, Walking, Occupied}
use Rattle.iom_iommu.specs.declared.begun.Load.{Load}
use Rattle.iom_iommu.specs.declared.begun.Load.TheVariants.{Nothing, Loaded, Ended}
use Rattle.iom_iommu.specs.declared.fetched.Fetched.{Fetched}
use Rattle.iom_iommu.specs.declared.fetched.Fetched.TheVariants.{Did, Waiting, Empty, Stopped}
use Rattle.iom_iommu.specs.declared.iommu.Iommu.{Iommu}
use Rattle.iom_iommu.specs.declared.reply.Reply.{Reply}
use Rattle.iom_iommu.specs.declared.reply.Reply.TheVariants.{Accepted, Busy, Fault, BadSpan}
use Rattle.iom_registers.specs.declared.directory.DirectoryPointer.{DirectoryPointer}
use Rattle.iom_stage_walk.specs.declared.walked.WalkFault.{WalkFault}
use Rattle.iom_stepped_requests.specs.Serving.{Remaining, begin}
use Rattle.iom_stepped_requests.specs.declared.request.Answer.{Answer}
use Rattle.iom_stepped_requests.specs.declared.request.Answer.TheVariants.{AsItIs, Cached, Reaches, Faults}
use Rattle.iom_stepped_requests.specs.declared.request.Request.{Request}
use Rattle.iom_tlb.specs.Content.{TranslationsUnchanged}
use Rattle.iom_tlb.specs.declared.trans_cache.TransCache.{Ghosts as Cache}
use Rattle.iom_tlb.specs.declared.trans_cache.Translation.{Translation}
use Rattle.iom_walks.specs.Caches.{LeavesTranslations, LooksAtBegin, OffersContext, OffersTranslation, looks_for_context, to_keep}
use Rattle.iom_walks.specs.Calls.{AllBeginAnew, Begins, LoadEnds, LoadGoesOn}
use Rattle.iom_walks.specs.Walks.{WalkRow, under_way_of}
use Rattle.iom_walks.specs.declared.outcome.Answered.{Answered as EndedRequest}
use Rattle.iom_walks.specs.declared.outcome.Began.TheVariants as began

-- how many of the eight places of a device are taken: by its accesses in flight, and by a request of it that is under way
abbrev pub places_taken : Flights → List WalkRow → ℕ → ℕ
places_taken flights rows id = count_in (row_of flights.rows id) + (if is_some (under_way_of rows id) then 1 else 0)

-- a request that is under way has its place when it ends
abbrev pub HasRoomAtEnd : Flights → List WalkRow → ℕ → Type 0
HasRoomAtEnd flights rows id = IsSome (under_way_of rows id) → IsAddedTo flights id × (count_in (row_of flights.rows id) < in_flight_limit)

-- the translation that an answer gives, or the fault for which it has none
abbrev pub translation_by : List (List ℕ) → ℕ → AccessKind → Answer → Result Translation WalkFault
translation_by memory address kind AsItIs = own_page memory address kind
translation_by memory address kind (Cached translation) = Ok translation
translation_by memory address kind (Reaches walked) = Ok (translation_of walked)
translation_by memory address kind (Faults fault) = Err fault

-- WHAT BECOMES OF AN ACCESS that has its translation: it goes last in the device's row with this number, on that frame. Of the caches it is said elsewhere
pub record AcceptsTranslation {C : Type 0} {c : Cache C} (memory : List (List ℕ)) (old : Iommu C c) (id : ℕ) (access : Access)
    (translated : Result Translation WalkFault) (number : ℕ) (new_memory : List (List ℕ)) (new : Iommu C c) : Type 0 where
  pub translation : Translation
  pub is : translated ≡ Ok translation
  pub inside : translation.frame < frames_of old
  pub accepted : IsAccepted (flights_of old) id (record { access = access; frame = translation.frame }) number (flights_of new)
  pub memory_stays : new_memory ≡ memory
  pub rest : iommu_parts new ≡ record (iommu_parts old) { flights = new.in_flight; contexts = new.contexts; translations = new.translations }

-- of one that has none: the record of its fault is put into the fault queue (section 3.2, "Fault/Event-Queue (FQ)")
pub record RecordsFault {C : Type 0} {c : Cache C} (memory : List (List ℕ)) (old : Iommu C c) (id : ℕ) (access : Access)
    (translated : Result Translation WalkFault) (cause : Cause) (new_memory : List (List ℕ)) (new : Iommu C c) : Type 0 where
  pub fault : WalkFault
  pub is : translated ≡ Err fault
  pub reply : cause ≡ fault.cause
  pub answer : Put
  pub recorded : PutsRecord memory (registers_of old) (record_of (faulted_of id (untranslated_of access.kind) access.address) (fault_of fault)) answer new_memory
      (registers_of new)
  pub rest : iommu_parts new ≡ record (iommu_parts old) { registers = new.registers; contexts = new.contexts; translations = new.translations }

abbrev pub Replies : {C : Type 0} {c : Cache C} → List (List ℕ) → Iommu C c → ℕ → Access → Result Translation WalkFault → Reply → List (List ℕ) → Iommu C c → Type 0
Replies memory old id access translated (Accepted number) new_memory new = AcceptsTranslation memory old id access translated number new_memory new
Replies memory old id access translated (Fault cause) new_memory new = RecordsFault memory old id access translated cause new_memory new
Replies memory old id access translated Busy new_memory new = ⊥
Replies memory old id access translated BadSpan new_memory new = ⊥

-- WHAT A REQUEST LOOKS UP when it begins: the context of its device, and once there is one a translation. Both caches keep what they have
pub record LooksUp {C : Type 0} {c : Cache C} (old : Iommu C c) (id : ℕ) (new : Iommu C c) : Type 0 where
  pub contexts : LooksAtBegin (looks_for_context (registers_of old).ddtp.mode id) id old.contexts new.contexts
  pub translations : TranslationsUnchanged (translations_of old) (translations_of new)

-- the request for an access
abbrev pub request_for : ℕ → Access → Request
request_for id access = record { device = id; asked = record { address = access.address; kind = access.kind } }

-- how far it has come when it begins, in a memory of so many frames
abbrev pub beginning : {C : Type 0} {c : Cache C} → Iommu C c → ℕ → Access → ℕ → Remaining
beginning old id access frames = begin frames (registers_of old).ddtp (contexts_of old id) (translations_of old) (request_for id access)

-- it may begin: none of its device is under way, and it has a place among the eight
pub record MayBegin {C : Type 0} {c : Cache C} (old : Iommu C c) (rows : List WalkRow) (id : ℕ) (access : Access) : Type 0 where
  pub within : IsWithinPage access
  pub idle : under_way_of rows id ≡ None
  pub room : places_taken (flights_of old) rows id < in_flight_limit

-- it needs loads: it is under way
pub record BeginsWalk {C : Type 0} {c : Cache C} (old : Iommu C c) (rows : List WalkRow) (id : ℕ) (access : Access) (new : Iommu C c) (new_rows : List WalkRow)
    : Type 0 where
  pub may : MayBegin old rows id access
  pub begun : Begins rows (request_for id access) access.len access.bytes (beginning old id access) began.Walking new_rows
  pub looks : LooksUp old id new
  pub rest : iommu_parts new ≡ record (iommu_parts old) { contexts = new.contexts; translations = new.translations }

-- it needs none: it has its answer
pub record AnswersAtOnce {C : Type 0} {c : Cache C} (memory : List (List ℕ)) (old : Iommu C c) (rows : List WalkRow) (id : ℕ) (access : Access) (reply : Reply)
    (new_memory : List (List ℕ)) (new : Iommu C c) (new_rows : List WalkRow) : Type 0 where
  pub may : MayBegin old rows id access
  pub answer : Answer
  pub begun : Begins rows (request_for id access) access.len access.bytes (beginning old id access) (began.Served answer) new_rows
  pub looks : LooksUp old id new
  pub replied : Replies memory old id access (translation_by memory access.address access.kind answer) reply new_memory new

-- nothing changes
abbrev pub NothingChanges : {C : Type 0} {c : Cache C} → List (List ℕ) → Iommu C c → List WalkRow → List (List ℕ) → Iommu C c → List WalkRow → Type 0
NothingChanges memory old rows new_memory new new_rows = (new_memory ≡ memory) × (new ≡ old) × (new_rows ≡ rows)

-- A DEVICE ASKS FOR AN ACCESS: the first that applies
abbrev pub BeginsRequest : {C : Type 0} {c : Cache C} → List (List ℕ) → Iommu C c → List WalkRow → ℕ → Access → Begun → List (List ℕ) → Iommu C c → List WalkRow → Type 0
BeginsRequest memory old rows id access (Answered BadSpan) new_memory new new_rows = (¬ IsWithinPage access) × NothingChanges memory old rows new_memory new new_rows
BeginsRequest memory old rows id access (Answered Busy) new_memory new new_rows =
    IsWithinPage access × (in_flight_limit ≤ places_taken (flights_of old) rows id) × NothingChanges memory old rows new_memory new new_rows
BeginsRequest memory old rows id access Occupied new_memory new new_rows =
    IsWithinPage access × (places_taken (flights_of old) rows id < in_flight_limit) × IsSome (under_way_of rows id) × NothingChanges memory old rows new_memory new new_rows
BeginsRequest memory old rows id access Walking new_memory new new_rows = (new_memory ≡ memory) × BeginsWalk old rows id access new new_rows
BeginsRequest memory old rows id access (Answered (Accepted number)) new_memory new new_rows =
    AnswersAtOnce memory old rows id access (Accepted number) new_memory new new_rows
BeginsRequest memory old rows id access (Answered (Fault cause)) new_memory new new_rows = AnswersAtOnce memory old rows id access (Fault cause) new_memory new new_rows

-- WHAT A LOAD LEAVES OF THE CACHES: a context that it finds is kept, and a translation that it reaches
pub record OffersFound {C : Type 0} {c : Cache C} (memory : List (List ℕ)) (old : Iommu C c) (rows : List WalkRow) (id : ℕ) (new : Iommu C c) : Type 0 where
  pub contexts : OffersContext (to_keep memory (under_way_of rows id)) old.contexts new.contexts
  pub translations : OffersTranslation c.SURE (to_keep memory (under_way_of rows id)) (translations_of old) (translations_of new)
  pub untouched : LeavesTranslations memory (under_way_of rows id) old.translations new.translations

-- the request goes on
pub record LoadsMore {C : Type 0} {c : Cache C} (memory : List (List ℕ)) (old : Iommu C c) (rows : List WalkRow) (id : ℕ) (new : Iommu C c) (new_rows : List WalkRow)
    : Type 0 where
  pub loads : LoadGoesOn memory (translations_of old) rows id new_rows
  pub offers : OffersFound memory old rows id new
  pub rest : iommu_parts new ≡ record (iommu_parts old) { contexts = new.contexts; translations = new.translations }

-- it has its answer
pub record EndsAtLoad {C : Type 0} {c : Cache C} (memory : List (List ℕ)) (old : Iommu C c) (rows : List WalkRow) (id : ℕ) (reply : Reply)
    (new_memory : List (List ℕ)) (new : Iommu C c) (new_rows : List WalkRow) : Type 0 where
  pub ended : EndedRequest
  pub loads : LoadEnds memory (translations_of old) rows id ended new_rows
  pub offers : OffersFound memory old rows id new
  pub replied : Replies memory old id (access_of ended.request.asked.address ended.len ended.request.asked.kind loads.row.bytes)
      (translation_by memory ended.request.asked.address ended.request.asked.kind ended.answer) reply new_memory new

-- THE NEXT LOAD of a device's request, if one is under way
abbrev pub LoadsNext : {C : Type 0} {c : Cache C} → List (List ℕ) → Iommu C c → List WalkRow → ℕ → Load → List (List ℕ) → Iommu C c → List WalkRow → Type 0
LoadsNext memory old rows id Nothing new_memory new new_rows = (under_way_of rows id ≡ None) × NothingChanges memory old rows new_memory new new_rows
LoadsNext memory old rows id Loaded new_memory new new_rows = (new_memory ≡ memory) × LoadsMore memory old rows id new new_rows
LoadsNext memory old rows id (Ended reply) new_memory new new_rows = EndsAtLoad memory old rows id reply new_memory new new_rows

-- whether a fetch ended what is cached of contexts or translations, whatever it covered
abbrev pub begins_anew : Fetched → Bool
begins_anew (Did (IotinvalVma gscid pscid page)) = true
begins_anew (Did (IotinvalGvma gscid page)) = true
begins_anew (Did (IofenceC store wsi pr pw)) = false
begins_anew (Did (IodirInvalDdt device)) = true
begins_anew (Did (AtsInval device range)) = false
begins_anew Waiting = false
begins_anew Empty = false
begins_anew Stopped = false

-- then all requests that are under way begin anew
abbrev pub BeginsAnewAfter : Bool → DirectoryPointer → List WalkRow → List WalkRow → Type 0
BeginsAnewAfter true ddtp rows new_rows = AllBeginAnew ddtp rows new_rows
BeginsAnewAfter false ddtp rows new_rows = new_rows ≡ rows

-- A TRANSLATED REQUEST beside what is under way, which counts among the eight: the first that applies
abbrev pub AnswersTranslatedBeside : {C : Type 0} {c : Cache C} → List (List ℕ) → Iommu C c → List WalkRow → ℕ → Access → Reply → List (List ℕ) → Iommu C c → Type 0
AnswersTranslatedBeside memory old rows id access BadSpan new_memory new = (¬ IsWithinPage access) × (new ≡ old) × (new_memory ≡ memory)
AnswersTranslatedBeside memory old rows id access Busy new_memory new =
    IsWithinPage access × (in_flight_limit ≤ places_taken (flights_of old) rows id) × (new ≡ old) × (new_memory ≡ memory)
AnswersTranslatedBeside memory old rows id access (Accepted number) new_memory new =
    (places_taken (flights_of old) rows id < in_flight_limit) × AnswersTranslated memory old id access (Accepted number) new_memory new
AnswersTranslatedBeside memory old rows id access (Fault cause) new_memory new =
    (places_taken (flights_of old) rows id < in_flight_limit) × AnswersTranslated memory old id access (Fault cause) new_memory new
