-- What a request keeps in the caches by all its loads, where they are made from one memory (RISC-V IOMMU specification, section 2.8, "Caching in-memory data
-- structures").
use Rattle.std.specs.Prelude.{ℕ, Bool, List, length, Option, None, Some, Result, Ok, Err}
use Rattle.iom_base.specs.declared.cause.Cause.{Cause}
use Rattle.iom_device_dir.specs.declared.context.Context.{Context}
use Rattle.iom_stepped_walk.specs.Steps.{TableAnswer}
use Rattle.iom_tlb.specs.Content.{Key, Translations}
use Rattle.iom_tlb.specs.declared.space.Space.{Space}
use Rattle.iom_tlb.specs.declared.trans_cache.Translation.{Translation}
use Rattle.iom_walk_loads.specs.Loads.{made_from}
use Rattle.iom_walk_stops.specs.Stages.{stages_of, walk_of}
use Rattle.iom_walk_stops.specs.declared.stages.Stages.{Stages}
use Rattle.iom_stepped_requests.specs.Serving.{Remaining, Serves, Locates, Translates, key_of, looked_up, space_of, translation_of}
use Rattle.iom_stepped_requests.specs.declared.request.Answer.{Answer}
use Rattle.iom_stepped_requests.specs.declared.request.Answer.TheVariants.{AsItIs, Cached, Reaches, Faults}
use Rattle.iom_stepped_requests.specs.declared.request.Kept.{Kept}
use Rattle.iom_stepped_requests.specs.declared.request.Kept.TheVariants as kept_as
use Rattle.iom_stepped_requests.specs.declared.request.Request.{Request}

-- what is kept in each of the two caches: the context of which device, and the translation of which page
pub record Keeping : Type 0 where
  pub context : Option (ℕ × Context)
  pub translation : Option (Key × Translation)

-- what one load keeps, and then this
abbrev pub with_kept : Kept → Keeping → Keeping
with_kept kept_as.Nothing keeping = keeping
with_kept (kept_as.Context device context) keeping = record { context = Some (device, context); translation = keeping.translation }
with_kept (kept_as.Translation translated page translation) keeping =
    record { context = keeping.context; translation = Some ((translated, page), translation) }

-- of the way to the context
abbrev pub context_found : Request → Result Context Cause → Option (ℕ × Context)
context_found request (Ok context) = Some (request.device, context)
context_found request (Err cause) = None

-- of the walk of the tables
abbrev pub page_reached : Request → Space → TableAnswer → Option (Key × Translation)
page_reached request translated (Ok walked) = Some (key_of request translated, translation_of walked)
page_reached request translated (Err fault) = None

-- by the stages of a context: where no translation is looked up they are walked
abbrev pub kept_by_stages : List (List ℕ) → Request → Context → Option Translation → Option Stages → Option (Key × Translation)
kept_by_stages memory request context cached None = None
kept_by_stages memory request context (Some translation) (Some stages) = None
kept_by_stages memory request context None (Some stages) =
    page_reached request (space_of context stages) (made_from memory (walk_of (length memory) stages request.asked.address request.asked.kind))

-- by the context to which the way leads
abbrev pub kept_by_context : List (List ℕ) → Bool → Translations → Request → Result Context Cause → Option (Key × Translation)
kept_by_context memory anew cached request (Ok context) =
    kept_by_stages memory request context (looked_up anew cached request context) (stages_of context.first_stage context.second_stage)
kept_by_context memory anew cached request (Err cause) = None

-- WHAT IS STILL TO BE KEPT of a request, all of whose loads are made from this memory
abbrev pub keeping : List (List ℕ) → Translations → Remaining → Keeping
keeping memory cached (Serves answer) = record { context = None; translation = None }
keeping memory cached (Locates request anew rest) =
    record { context = context_found request (made_from memory rest); translation = kept_by_context memory anew cached request (made_from memory rest) }
keeping memory cached (Translates request context translated rest) =
    record { context = None; translation = page_reached request translated (made_from memory rest) }

-- the context that the directory has is kept where there is a directory, and none is cached
abbrev pub context_to_keep : Option Answer → Request → Option Context → Result Context Cause → Option (ℕ × Context)
context_to_keep (Some answer) request cached located = None
context_to_keep None request (Some cached) located = None
context_to_keep None request None located = context_found request located

-- a translation is kept where the answer is that a walk of tables reached a page, and for the page in the address space of the stages
abbrev pub told_by_stages : Request → Context → Option Stages → Answer → Option (Key × Translation)
told_by_stages request context None answer = None
told_by_stages request context (Some stages) AsItIs = None
told_by_stages request context (Some stages) (Cached translation) = None
told_by_stages request context (Some stages) (Reaches walked) = Some (key_of request (space_of context stages), translation_of walked)
told_by_stages request context (Some stages) (Faults fault) = None

abbrev pub translation_to_keep : Request → Result Context Cause → Answer → Option (Key × Translation)
translation_to_keep request (Ok context) answer = told_by_stages request context (stages_of context.first_stage context.second_stage) answer
translation_to_keep request (Err cause) answer = None
