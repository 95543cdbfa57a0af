-- What a request by single loads has in common with a whole one.
use Rattle.std.specs.Prelude.{◌≡◌, ◌↔◌, ℕ, suc, List, length, Option}
use Rattle.iom_device_dir.specs.Located.{located_context}
use Rattle.iom_device_dir.specs.declared.context.Context.{Context}
use Rattle.iom_registers.specs.declared.directory.DirectoryPointer.{DirectoryPointer}
use Rattle.iom_tlb.specs.Content.{Translations}
use Rattle.iom_walk_loads.specs.Loads.{after_load, made_from}
use Rattle.iom_stepped_requests.specs.Answers.{Answers, context_of}
use Rattle.iom_stepped_requests.specs.Keeping.{context_to_keep, keeping, translation_to_keep, with_kept}
use Rattle.iom_stepped_requests.specs.Serving.{begin, begun_anew, kept, load, without_directory}
use Rattle.iom_stepped_requests.specs.Standing.{stands}
use Rattle.iom_stepped_requests.specs.Whole.{walk_on, ServedWithin}
use Rattle.iom_stepped_requests.specs.declared.request.Answer.{Answer}
use Rattle.iom_stepped_requests.specs.declared.request.Request.{Request}
use Rattle.iom_stepped_requests.specs.declared.walk.RequestWalk.{RequestWalk}

-- a load of a request is a load of the one walk that remains of it
abbrev pub LoadsAreOfTheWalk : Type 0
LoadsAreOfTheWalk = (memory : List (List ℕ)) (cached : Translations) (walk : RequestWalk)
    → walk_on (length memory) cached (load memory cached (stands (length memory) walk))
    ≡ after_load memory (walk_on (length memory) cached (stands (length memory) walk))

-- all its loads, made from one memory, answer exactly what a whole request is answered
abbrev pub RequestsAreWhole : Type 0
RequestsAreWhole = (memory : List (List ℕ)) (ddtp : DirectoryPointer) (context : Option Context) (cached : Translations) (request : Request) (answer : Answer)
    → (made_from memory (walk_on (length memory) cached (begin (length memory) ddtp context cached request)) ≡ answer)
    ↔ Answers memory ddtp context cached request answer

-- it makes 27 loads at most, 3 of the directory and 24 of tables: so at most 26 of them go on
abbrev pub RequestsEnd : Type 0
RequestsEnd = (frames : ℕ) (ddtp : DirectoryPointer) (context : Option Context) (cached : Translations) (request : Request)
    → ServedWithin 27 frames (begin frames ddtp context cached request) × ServedWithin 27 frames (begun_anew frames ddtp request)

-- each load takes one away, whatever is cached and whatever memory has at that moment
abbrev pub LoadsTakeAway : Type 0
LoadsTakeAway = (memory : List (List ℕ)) (cached : Translations) (walk : RequestWalk) (n : ℕ)
    → ServedWithin (suc n) (length memory) (stands (length memory) walk) → ServedWithin n (length memory) (load memory cached (stands (length memory) walk))

-- what a load keeps, and what is to be kept after it, is what was to be kept before
abbrev pub LoadsKeepOfTheRun : Type 0
LoadsKeepOfTheRun = (memory : List (List ℕ)) (cached : Translations) (walk : RequestWalk)
    → with_kept (kept memory (stands (length memory) walk)) (keeping memory cached (load memory cached (stands (length memory) walk)))
    ≡ keeping memory cached (stands (length memory) walk)

-- all its loads, made from one memory, keep the context that the directory has, where none is cached; and a translation exactly where the answer is the page
-- that a walk of tables reaches
abbrev pub RunsKeep : Type 0
RunsKeep = (memory : List (List ℕ)) (ddtp : DirectoryPointer) (context : Option Context) (cached : Translations) (request : Request)
    → keeping memory cached (begin (length memory) ddtp context cached request)
    ≡ record {
      context = context_to_keep (without_directory ddtp.mode) request context (located_context memory ddtp request.device);
      translation =
          translation_to_keep request (context_of memory ddtp context request.device)
          (made_from memory (walk_on (length memory) cached (begin (length memory) ddtp context cached request)));
    }
