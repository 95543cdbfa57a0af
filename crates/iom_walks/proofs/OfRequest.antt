-- A request stays the one that was asked for, however many loads are made of it.
use Rattle.std.proofs.Common.{◌≡◌, ℕ, Bool, true, false, List, length, Option, None, Some, Result, Ok, Err, refl, sym, subst}
use Rattle.iom_base.specs.declared.cause.Cause.{Cause}
use Rattle.iom_device_dir.specs.declared.context.Context.{Context}
use Rattle.iom_registers.specs.declared.directory.DirectoryPointer.{DirectoryPointer}
use Rattle.iom_stepped_walk.specs.Steps.{TableAnswer}
use Rattle.iom_tlb.specs.Content.{Translations}
use Rattle.iom_tlb.specs.declared.space.Space.{Space}
use Rattle.iom_tlb.specs.declared.trans_cache.Translation.{Translation}
use Rattle.iom_walk_loads.specs.Directory.{locating}
use Rattle.iom_walk_loads.specs.Loads.{Walk, Ends, ReadsEntry, ReadsContext, after_load}
use Rattle.iom_walk_stops.specs.Stages.{stages_of, walk_of}
use Rattle.iom_walk_stops.specs.declared.stages.Stages.{Stages}
use Rattle.iom_stepped_requests.specs.Serving.{Remaining, Serves, Locates, Translates, begin, begun_anew, by_located, by_stages, in_directory, in_tables, load, looked_up, served_or, space_of, way_to_context, without_directory}
use Rattle.iom_stepped_requests.specs.Standing.{still_serving}
use Rattle.iom_stepped_requests.specs.declared.request.Answer.{Answer}
use Rattle.iom_stepped_requests.specs.declared.request.Request.{Request}
use Rattle.iom_stepped_requests.specs.declared.walk.RequestWalk.TheVariants.{InDirectory, InTables}
use Rattle.iom_stepped_requests.specs.declared.walk.Serving.{Serving}
use Rattle.iom_stepped_requests.specs.declared.walk.Serving.TheVariants.{GoesOn, Served}
use Rattle.iom_walks.specs.Invariant.{IsOfRequest}

-- what remains of a request is of this one
abbrev IsOf : Request → Remaining → Type 0
IsOf request (Serves answer) = Unit {0}
IsOf request (Locates own anew rest) = own ≡ request
IsOf request (Translates own context translated rest) = own ≡ request

tables_of : (request : Request) (context : Context) (translated : Space) (rest : Walk TableAnswer) → IsOf request (in_tables request context translated rest)
tables_of request context translated (Ends answer) = tt
tables_of request context translated (ReadsEntry address rest) = refl
tables_of request context translated (ReadsContext address rest) = refl

stages_of_request : (frames : ℕ) (cached : Option Translation) (request : Request) (context : Context) (stages : Option Stages)
    → IsOf request (by_stages frames cached request context stages)
stages_of_request frames cached request context None = tt
stages_of_request frames (Some translation) request context (Some stages) = tt
stages_of_request frames None request context (Some stages) =
    tables_of request context (space_of context stages) (walk_of frames stages request.asked.address request.asked.kind)

located_of : (frames : ℕ) (anew : Bool) (cached : Translations) (request : Request) (found : Result Context Cause)
    → IsOf request (by_located frames anew cached request found)
located_of frames anew cached request (Ok context) =
    stages_of_request frames (looked_up anew cached request context) request context (stages_of context.first_stage context.second_stage)
located_of frames anew cached request (Err cause) = tt

directory_of : (frames : ℕ) (anew : Bool) (cached : Translations) (request : Request) (rest : Walk (Result Context Cause))
    → IsOf request (in_directory frames anew cached request rest)
directory_of frames anew cached request (Ends found) = located_of frames anew cached request found
directory_of frames anew cached request (ReadsEntry address rest) = refl
directory_of frames anew cached request (ReadsContext address rest) = refl

unless_of : (request : Request) (without : Option Answer) (rest : Remaining) → IsOf request rest → IsOf request (served_or without rest)
unless_of request (Some answer) rest is = tt
unless_of request None rest is = is

begin_of : (frames : ℕ) (ddtp : DirectoryPointer) (context : Option Context) (cached : Translations) (request : Request)
    → IsOf request (begin frames ddtp context cached request)
begin_of frames ddtp context cached request =
    let way = way_to_context ddtp context request.device in
    unless_of request (without_directory ddtp.mode) (in_directory frames false cached request way) (directory_of frames false cached request way)

anew_of : (frames : ℕ) (ddtp : DirectoryPointer) (request : Request) → IsOf request (begun_anew frames ddtp request)
anew_of frames ddtp request =
    unless_of request (without_directory ddtp.mode) (in_directory frames true (λ key. None) request (locating ddtp request.device))
    (directory_of frames true (λ key. None) request (locating ddtp request.device))

load_of : (memory : List (List ℕ)) (cached : Translations) (request : Request) (remaining : Remaining) → IsOf request remaining
    → IsOf request (load memory cached remaining)
load_of memory cached request (Serves answer) is = tt
load_of memory cached request (Locates own anew rest) is =
    subst (λ (r : Request). IsOf request (in_directory (length memory) anew cached r (after_load memory rest))) (sym is)
    (directory_of (length memory) anew cached request (after_load memory rest))
load_of memory cached request (Translates own context translated rest) is =
    subst (λ (r : Request). IsOf request (in_tables r context translated (after_load memory rest))) (sym is)
    (tables_of request context translated (after_load memory rest))

-- of one that stands there
standing_of : (frames : ℕ) (request : Request) (serving : Serving) → IsOf request (still_serving frames serving) → IsOfRequest request serving
standing_of frames request (GoesOn (InDirectory own anew walk)) is = is
standing_of frames request (GoesOn (InTables own context translated walk)) is = is
standing_of frames request (Served answer) is = tt

stands_for : (frames : ℕ) (request : Request) (serving : Serving) → IsOfRequest request serving → IsOf request (still_serving frames serving)
stands_for frames request (GoesOn (InDirectory own anew walk)) is = is
stands_for frames request (GoesOn (InTables own context translated walk)) is = is
stands_for frames request (Served answer) is = tt

-- ONE THAT BEGINS
pub begun_is_of : (ddtp : DirectoryPointer) (context : Option Context) (cached : Translations) (request : Request) (serving : Serving)
    → ((frames : ℕ) → still_serving frames serving ≡ begin frames ddtp context cached request) → IsOfRequest request serving
begun_is_of ddtp context cached request serving begun =
    standing_of 0 request serving (subst (IsOf request) (sym (begun 0)) (begin_of 0 ddtp context cached request))

-- ONE THAT BEGINS ANEW
pub anew_is_of : (ddtp : DirectoryPointer) (request : Request) (serving : Serving)
    → ((frames : ℕ) → still_serving frames serving ≡ begun_anew frames ddtp request) → IsOfRequest request serving
anew_is_of ddtp request serving begun = standing_of 0 request serving (subst (IsOf request) (sym (begun 0)) (anew_of 0 ddtp request))

-- ONE LOAD
pub load_is_of : (memory : List (List ℕ)) (cached : Translations) (request : Request) (old new : Serving)
    → still_serving (length memory) new ≡ load memory cached (still_serving (length memory) old) → IsOfRequest request old → IsOfRequest request new
load_is_of memory cached request old new made is =
    standing_of (length memory) request new
    (subst (IsOf request) (sym made) (load_of memory cached request (still_serving (length memory) old) (stands_for (length memory) request old is)))
