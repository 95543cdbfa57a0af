-- What remains of a request as one walk of the directory and of tables, whose answer is that of the request.
use Rattle.std.specs.Prelude.{ℕ, Bool, Option, None, Some, Result, Ok, Err}
use Rattle.iom_base.specs.declared.cause.Cause.{Cause}
use Rattle.iom_device_dir.specs.declared.context.Context.{Context}
use Rattle.iom_stage_walk.specs.Both.{plain}
use Rattle.iom_stepped_walk.specs.Steps.{TableAnswer}
use Rattle.iom_tlb.specs.Content.{Translations}
use Rattle.iom_tlb.specs.declared.trans_cache.Translation.{Translation}
use Rattle.iom_walk_loads.specs.Loads.{Walk, Ends, ReadsEntry, ReadsContext, EndsWithin}
use Rattle.iom_walk_stops.specs.Stages.{stages_of, walk_of}
use Rattle.iom_walk_stops.specs.declared.stages.Stages.{Stages}
use Rattle.iom_stepped_requests.specs.Serving.{Remaining, Serves, Locates, Translates, answer_of, looked_up}
use Rattle.iom_stepped_requests.specs.declared.request.Answer.{Answer}
use Rattle.iom_stepped_requests.specs.declared.request.Answer.TheVariants.{AsItIs, Cached, Faults}
use Rattle.iom_stepped_requests.specs.declared.request.Request.{Request}

-- one walk and then another, which the answer of the first says
abbrev pub followed : {A B : Type 0} → Walk A → (A → Walk B) → Walk B
followed (Ends answer) next = next answer
followed (ReadsEntry address rest) next = ReadsEntry address (λ given. followed (rest given) next)
followed (ReadsContext address rest) next = ReadsContext address (λ given. followed (rest given) next)

-- through tables
abbrev pub tables_walk : Walk TableAnswer → Walk Answer
tables_walk rest = followed rest (λ ended. Ends (answer_of ended))

-- by the stages of a context, with what is looked up for the page
abbrev pub stages_walk : ℕ → Request → Option Translation → Option Stages → Walk Answer
stages_walk frames request cached None = Ends AsItIs
stages_walk frames request (Some translation) (Some stages) = Ends (Cached translation)
stages_walk frames request None (Some stages) = tables_walk (walk_of frames stages request.asked.address request.asked.kind)

-- by the context to which the way through the directory leads
abbrev pub context_walk : ℕ → Bool → Translations → Request → Result Context Cause → Walk Answer
context_walk frames anew cached request (Ok context) =
    stages_walk frames request (looked_up anew cached request context) (stages_of context.first_stage context.second_stage)
context_walk frames anew cached request (Err cause) = Ends (Faults (plain cause))

-- WHAT REMAINS of a request as one walk, in a memory of so many frames, where these translations are cached when its context is found
abbrev pub walk_on : ℕ → Translations → Remaining → Walk Answer
walk_on frames cached (Serves answer) = Ends answer
walk_on frames cached (Locates request anew rest) = followed rest (context_walk frames anew cached request)
walk_on frames cached (Translates request context translated rest) = tables_walk rest

-- whatever is cached, and whatever its loads give, it makes so many more at most
abbrev pub ServedWithin : ℕ → ℕ → Remaining → Type 0
ServedWithin n frames remaining = (cached : Translations) → EndsWithin n (walk_on frames cached remaining)
