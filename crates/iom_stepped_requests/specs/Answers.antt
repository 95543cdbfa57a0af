-- How a request is answered all of whose loads are made from one memory (RISC-V IOMMU specification, section 2.3, "Process to translate an IOVA"), in the
-- words of whole walks.
use Rattle.std.specs.Prelude.{◌≡◌, ℕ, false, List, Option, None, Some, Result, Ok, Err, if◌then◌else◌}
use Rattle.iom_base.specs.Sizes.{levels_of}
use Rattle.iom_base.specs.declared.access.AccessKind.{AccessKind}
use Rattle.iom_base.specs.declared.cause.Cause.{Cause}
use Rattle.iom_base.specs.declared.cause.Cause.TheVariants.{TransactionTypeDisallowed}
use Rattle.iom_device_dir.specs.Located.{located_context}
use Rattle.iom_device_dir.specs.Paths.{fits_directory}
use Rattle.iom_device_dir.specs.declared.context.Context.{Context}
use Rattle.iom_registers.specs.declared.directory.DirectoryPointer.{DirectoryPointer}
use Rattle.iom_stage_walk.specs.Both.{plain, ReachesBoth, StopsBoth}
use Rattle.iom_stage_walk.specs.Paths.{ReachesFirst, StopsFirst}
use Rattle.iom_stage_walk.specs.Second.{ReachesSecond, StopsSecond}
use Rattle.iom_stage_walk.specs.declared.walked.Walked.{Walked}
use Rattle.iom_stage_walk.specs.declared.walked.WalkFault.{WalkFault}
use Rattle.iom_tlb.specs.Content.{Translations}
use Rattle.iom_tlb.specs.declared.trans_cache.Translation.{Translation}
use Rattle.iom_walk_stops.specs.Stages.{stages_of}
use Rattle.iom_walk_stops.specs.declared.stages.Stages.{Stages}
use Rattle.iom_walk_stops.specs.declared.stages.Stages.TheVariants.{First, Second, Both}
use Rattle.iom_stepped_requests.specs.Serving.{looked_up, without_directory}
use Rattle.iom_stepped_requests.specs.declared.request.Answer.{Answer}
use Rattle.iom_stepped_requests.specs.declared.request.Answer.TheVariants.{AsItIs, Cached, Reaches, Faults}
use Rattle.iom_stepped_requests.specs.declared.request.Request.{Request}

-- the whole walk of these stages reaches this
abbrev pub ReachesIn : Stages → List (List ℕ) → ℕ → AccessKind → Walked → Type 0
ReachesIn (First size root) memory address kind walked = ReachesFirst (levels_of size) memory root.number address kind walked
ReachesIn (Second size root) memory address kind walked = ReachesSecond (levels_of size) memory root.number address kind walked
ReachesIn (Both first_size first second_size second) memory address kind walked =
    ReachesBoth (levels_of first_size) (levels_of second_size) memory first.number second.number address kind walked

-- it stops with this fault
abbrev pub StopsIn : Stages → List (List ℕ) → ℕ → AccessKind → WalkFault → Type 0
StopsIn (First size root) memory address kind fault = StopsFirst (levels_of size) memory root.number address kind fault
StopsIn (Second size root) memory address kind fault = StopsSecond (levels_of size) memory root.number address kind fault
StopsIn (Both first_size first second_size second) memory address kind fault =
    StopsBoth (levels_of first_size) (levels_of second_size) memory first.number second.number address kind fault

-- where no translation is looked up, the walk of the stages answers
abbrev pub AnswersByWalk : List (List ℕ) → Request → Stages → Answer → Type 0
AnswersByWalk memory request stages AsItIs = ⊥
AnswersByWalk memory request stages (Cached translation) = ⊥
AnswersByWalk memory request stages (Reaches walked) = ReachesIn stages memory request.asked.address request.asked.kind walked
AnswersByWalk memory request stages (Faults fault) = StopsIn stages memory request.asked.address request.asked.kind fault

-- by the stages of a context: where there are none, the address is one of memory; else a cached translation answers, if one was looked up, or the walk
abbrev pub AnswersByStages : List (List ℕ) → Request → Option Translation → Option Stages → Answer → Type 0
AnswersByStages memory request cached None answer = answer ≡ AsItIs
AnswersByStages memory request (Some translation) (Some stages) answer = answer ≡ Cached translation
AnswersByStages memory request None (Some stages) answer = AnswersByWalk memory request stages answer

-- by the context of the device, or the cause for which it has none
abbrev pub AnswersByContext : List (List ℕ) → Translations → Request → Result Context Cause → Answer → Type 0
AnswersByContext memory cached request (Ok context) answer =
    AnswersByStages memory request (looked_up false cached request context) (stages_of context.first_stage context.second_stage) answer
AnswersByContext memory cached request (Err cause) answer = answer ≡ Faults (plain cause)

-- the cached context; where there is none, the one that the directory has
abbrev pub cached_or : Option Context → Result Context Cause → Result Context Cause
cached_or None located = located
cached_or (Some context) located = Ok context

-- the context of a device: an id that is too wide for the directory has none, also where one is cached for it (section 2.3.1)
abbrev pub context_of : List (List ℕ) → DirectoryPointer → Option Context → ℕ → Result Context Cause
context_of memory ddtp cached id =
    if fits_directory ddtp.mode id then cached_or cached (located_context memory ddtp id) else Err TransactionTypeDisallowed

-- without a directory, or by the context
abbrev pub AnswersUnless : Option Answer → List (List ℕ) → Translations → Request → Result Context Cause → Answer → Type 0
AnswersUnless (Some without) memory cached request found answer = answer ≡ without
AnswersUnless None memory cached request found answer = AnswersByContext memory cached request found answer

-- THE ANSWER to a request by this ddtp, where this context is cached for its device, and these translations, and all its loads are made from one memory
abbrev pub Answers : List (List ℕ) → DirectoryPointer → Option Context → Translations → Request → Answer → Type 0
Answers memory ddtp context cached request answer =
    AnswersUnless (without_directory ddtp.mode) memory cached request (context_of memory ddtp context request.device) answer
