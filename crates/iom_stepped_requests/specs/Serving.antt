-- How a request of a device is served, one load an event (RISC-V IOMMU specification, section 2.3, "Process to translate an IOVA", and section 2.8, "Caching
-- in-memory data structures"). What the caches have is handed in: the context that is cached for the device, and what is cached for each page.
use Rattle.std.specs.Prelude.{ℕ, ◌*◌, ◌/◌, Bool, true, false, List, length, Option, None, Some, Result, Ok, Err, if◌then◌else◌}
use Rattle.iom_base.specs.Rights.{allows}
use Rattle.iom_base.specs.Sizes.{page_size}
use Rattle.iom_base.specs.declared.access.AccessKind.{AccessKind}
use Rattle.iom_base.specs.declared.cause.Cause.{Cause}
use Rattle.iom_base.specs.declared.cause.Cause.TheVariants.{AllInboundDisallowed}
use Rattle.iom_device_dir.specs.Paths.{fits_directory}
use Rattle.iom_device_dir.specs.declared.context.Context.{Context}
use Rattle.iom_registers.specs.declared.directory.DirectoryMode.{DirectoryMode}
use Rattle.iom_registers.specs.declared.directory.DirectoryMode.TheVariants as mode
use Rattle.iom_registers.specs.declared.directory.DirectoryPointer.{DirectoryPointer}
use Rattle.iom_stage_walk.specs.Both.{plain}
use Rattle.iom_stage_walk.specs.declared.walked.Walked.{Walked}
use Rattle.iom_stepped_walk.specs.Steps.{TableAnswer}
use Rattle.iom_tlb.specs.Content.{Key, Translations}
use Rattle.iom_tlb.specs.declared.space.Space.{Space}
use Rattle.iom_tlb.specs.declared.space.Space.TheVariants as space
use Rattle.iom_tlb.specs.declared.trans_cache.Translation.{Translation}
use Rattle.iom_walk_loads.specs.Directory.{locating}
use Rattle.iom_walk_loads.specs.Loads.{Walk, Ends, ReadsEntry, ReadsContext, after_load}
use Rattle.iom_walk_stops.specs.Stages.{stages_of, walk_of}
use Rattle.iom_walk_stops.specs.declared.stages.Stages.{Stages}
use Rattle.iom_walk_stops.specs.declared.stages.Stages.TheVariants.{First, Second, Both}
use Rattle.iom_stepped_requests.specs.declared.request.Request.{Request}
use Rattle.iom_stepped_requests.specs.declared.request.Answer.{Answer}
use Rattle.iom_stepped_requests.specs.declared.request.Answer.TheVariants.{AsItIs, Cached, Reaches, Faults}
use Rattle.iom_stepped_requests.specs.declared.request.Kept.{Kept}
use Rattle.iom_stepped_requests.specs.declared.request.Kept.TheVariants as kept_as

-- how far a request has come
pub data Remaining : Type 0 where
  -- it is served, and this is its answer
  Serves : (answer : Answer) → Remaining
  -- this remains of the way to its context; whether it was begun anew says whether it looks in a cache
  Locates : (request : Request) (anew : Bool) (rest : Walk (Result Context Cause)) → Remaining
  -- this remains of the walk of the tables of the context, which translate this address space
  Translates : (request : Request) (context : Context) (translated : Space) (rest : Walk TableAnswer) → Remaining

-- the address space that these stages of a context translate (section 2.1.3): a first stage's is named by PSCID, a second's by GSCID, that of both by both
abbrev pub space_of : Context → Stages → Space
space_of context (First size root) = space.First context.pscid.number
space_of context (Second size root) = space.Second context.gscid
space_of context (Both first_size first second_size second) = space.Both context.gscid context.pscid.number

-- the page of a request in an address space
abbrev pub key_of : Request → Space → Key
key_of request translated = (translated, request.asked.address / page_size)

-- a cached translation, where its right allows the access: one with too small a right isn't used
abbrev pub allowed_for : AccessKind → Option Translation → Option Translation
allowed_for kind None = None
allowed_for kind (Some translation) = if allows translation.rights kind then Some translation else None

-- what is cached for the page of a request in the address space of these stages
abbrev pub cached_through : Translations → Request → Context → Option Stages → Option Translation
cached_through cached request context None = None
cached_through cached request context (Some stages) = allowed_for request.asked.kind (cached (key_of request (space_of context stages)))

-- what a request looks up once it has its context; nothing where it was begun anew
abbrev pub looked_up : Bool → Translations → Request → Context → Option Translation
looked_up true cached request context = None
looked_up false cached request context = cached_through cached request context (stages_of context.first_stage context.second_stage)

-- how a walk of tables answers a request
abbrev pub answer_of : TableAnswer → Answer
answer_of (Ok walked) = Reaches walked
answer_of (Err fault) = Faults fault

-- where this remains of the walk of tables
abbrev pub in_tables : Request → Context → Space → Walk TableAnswer → Remaining
in_tables request context translated (Ends answer) = Serves (answer_of answer)
in_tables request context translated (ReadsEntry address rest) = Translates request context translated (ReadsEntry address rest)
in_tables request context translated (ReadsContext address rest) = Translates request context translated (ReadsContext address rest)

-- by the stages of its context, in a memory of so many frames: where there are none, its address is one of memory; else by a cached translation, if one was
-- looked up, or by the walk of the tables
abbrev pub by_stages : ℕ → Option Translation → Request → Context → Option Stages → Remaining
by_stages frames cached request context None = Serves AsItIs
by_stages frames (Some translation) request context (Some stages) = Serves (Cached translation)
by_stages frames None request context (Some stages) =
    in_tables request context (space_of context stages) (walk_of frames stages request.asked.address request.asked.kind)

abbrev pub by_context : ℕ → Option Translation → Request → Context → Remaining
by_context frames cached request context = by_stages frames cached request context (stages_of context.first_stage context.second_stage)

-- by the context to which the way led, or the cause with which it stopped
abbrev pub by_located : ℕ → Bool → Translations → Request → Result Context Cause → Remaining
by_located frames anew cached request (Ok context) = by_context frames (looked_up anew cached request context) request context
by_located frames anew cached request (Err cause) = Serves (Faults (plain cause))

-- where this remains of the way to its context
abbrev pub in_directory : ℕ → Bool → Translations → Request → Walk (Result Context Cause) → Remaining
in_directory frames anew cached request (Ends found) = by_located frames anew cached request found
in_directory frames anew cached request (ReadsEntry address rest) = Locates request anew (ReadsEntry address rest)
in_directory frames anew cached request (ReadsContext address rest) = Locates request anew (ReadsContext address rest)

-- the way to the context of a device: a cached one is there without a load, unless the id is too wide for the directory, which is asked first (section 2.3.1)
abbrev pub way_to_context : DirectoryPointer → Option Context → ℕ → Walk (Result Context Cause)
way_to_context ddtp None id = locating ddtp id
way_to_context ddtp (Some context) id = if fits_directory ddtp.mode id then Ends (Ok context) else locating ddtp id

-- how any request is answered where there is no directory (section 2.3: ddtp.iommu_mode Off and Bare); None where there is one
abbrev pub without_directory : DirectoryMode → Option Answer
without_directory mode.Off = Some (Faults (plain AllInboundDisallowed))
without_directory mode.Bare = Some AsItIs
without_directory mode.OneLevel = None
without_directory mode.TwoLevels = None
without_directory mode.ThreeLevels = None

abbrev pub served_or : Option Answer → Remaining → Remaining
served_or (Some answer) remaining = Serves answer
served_or None remaining = remaining

-- A REQUEST BEGINS: it is served at once where it needs no load
abbrev pub begin : ℕ → DirectoryPointer → Option Context → Translations → Request → Remaining
begin frames ddtp context cached request =
    served_or (without_directory ddtp.mode) (in_directory frames false cached request (way_to_context ddtp context request.device))

-- IT BEGINS ANEW, and looks in no cache
abbrev pub begun_anew : ℕ → DirectoryPointer → Request → Remaining
begun_anew frames ddtp request =
    served_or (without_directory ddtp.mode) (in_directory frames true (λ key. None) request (locating ddtp request.device))

-- ONE LOAD from this memory. Where the context is found, what is cached then is looked up. Of a request that is served nothing changes
abbrev pub load : List (List ℕ) → Translations → Remaining → Remaining
load memory cached (Serves answer) = Serves answer
load memory cached (Locates request anew rest) = in_directory (length memory) anew cached request (after_load memory rest)
load memory cached (Translates request context translated rest) = in_tables request context translated (after_load memory rest)

-- A CONTEXT IS KEPT at the load that finds it, also where the translation then faults;
abbrev pub kept_in_directory : Request → Walk (Result Context Cause) → Kept
kept_in_directory request (Ends (Ok context)) = kept_as.Context request.device context
kept_in_directory request (Ends (Err cause)) = kept_as.Nothing
kept_in_directory request (ReadsEntry address rest) = kept_as.Nothing
kept_in_directory request (ReadsContext address rest) = kept_as.Nothing

-- what is kept of a walk: also the order of the leaf, by which an invalidation of another page of the leaf takes it out; each level has 512 times as many pages
abbrev pub translation_of : Walked → Translation
translation_of walked = record { frame = walked.frame; rights = walked.rights; order = 9 * walked.level }

-- A TRANSLATION at the load that ends the walk, where that reaches a page
abbrev pub kept_in_tables : Request → Space → Walk TableAnswer → Kept
kept_in_tables request translated (Ends (Ok walked)) = kept_as.Translation translated (request.asked.address / page_size) (translation_of walked)
kept_in_tables request translated (Ends (Err fault)) = kept_as.Nothing
kept_in_tables request translated (ReadsEntry address rest) = kept_as.Nothing
kept_in_tables request translated (ReadsContext address rest) = kept_as.Nothing

-- WHAT IS KEPT of the next load, from this memory
abbrev pub kept : List (List ℕ) → Remaining → Kept
kept memory (Serves answer) = kept_as.Nothing
kept memory (Locates request anew rest) = kept_in_directory request (after_load memory rest)
kept memory (Translates request context translated rest) = kept_in_tables request translated (after_load memory rest)
