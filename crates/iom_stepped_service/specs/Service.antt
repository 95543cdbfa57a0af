-- A request by single loads beside one that is served at once (RISC-V IOMMU specification, section 2.3, "Process to translate an IOVA", and section 2.8,
-- "Caching in-memory data structures").
use Rattle.std.specs.Prelude.{ℕ, Bool, List, length, Option, None, Some}
use Rattle.iom_device_dir.specs.Contents.{Content, IsSameContent, KeepsOne}
use Rattle.iom_device_dir.specs.declared.context.Context.{Context}
use Rattle.iom_iommu.specs.Service.{KeepsContext, Serves}
use Rattle.iom_iommu.specs.Stepped.{translation_by}
use Rattle.iom_registers.specs.declared.registers.Registers.{Registers}
use Rattle.iom_stepped_requests.specs.Keeping.{keeping}
use Rattle.iom_stepped_requests.specs.Serving.{Remaining, begin}
use Rattle.iom_stepped_requests.specs.Whole.{walk_on}
use Rattle.iom_stepped_requests.specs.declared.request.Answer.{Answer}
use Rattle.iom_stepped_requests.specs.declared.request.Request.{Request}
use Rattle.iom_tlb.specs.Content.{Key, Keeps, Translations, TranslationsUnchanged}
use Rattle.iom_tlb.specs.declared.trans_cache.Translation.{Translation}
use Rattle.iom_walk_loads.specs.Loads.{made_from}

-- the cache of translations, where this is kept in it, or nothing
abbrev pub KeepsIfAny : Bool → Translations → Option (Key × Translation) → Translations → Type 0
KeepsIfAny sure old None new = TranslationsUnchanged old new
KeepsIfAny sure old (Some kept) new = Keeps sure old kept.0 kept.1 new

-- the cache of contexts
abbrev pub KeepsContextIfAny : Content ℕ Context → Option (ℕ × Context) → Content ℕ Context → Type 0
KeepsContextIfAny old None new = IsSameContent old new
KeepsContextIfAny old (Some kept) new = KeepsOne old kept.0 kept.1 new

-- a request as it begins, by these registers and caches
abbrev pub begun : List (List ℕ) → Registers → Content ℕ Context → Translations → Request → Remaining
begun memory r contexts cached request = begin (length memory) r.ddtp (contexts request.device) cached request

-- all its loads, made from this memory
abbrev pub answer_of_run : List (List ℕ) → Registers → Content ℕ Context → Translations → Request → Answer
answer_of_run memory r contexts cached request = made_from memory (walk_on (length memory) cached (begun memory r contexts cached request))

-- A REQUEST ALL OF WHOSE LOADS ARE MADE FROM ONE MEMORY IS ONE THAT IS SERVED AT ONCE: the same answer, and the same in both caches
abbrev pub RunsServe : Type 0
RunsServe = (sure : Bool) (memory : List (List ℕ)) (r : Registers) (request : Request) (contexts new_contexts : Content ℕ Context) (cached new_cached : Translations)
    → KeepsContextIfAny contexts (keeping memory cached (begun memory r contexts cached request)).context new_contexts
    → KeepsIfAny sure cached (keeping memory cached (begun memory r contexts cached request)).translation new_cached
    → KeepsContext memory r contexts request.device new_contexts
    × Serves sure memory r contexts request.device request.asked.address request.asked.kind cached
    (translation_by memory request.asked.address request.asked.kind (answer_of_run memory r contexts cached request)) new_cached
