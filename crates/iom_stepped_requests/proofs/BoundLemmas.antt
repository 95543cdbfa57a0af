-- How many loads a request makes at most.
use Rattle.std.proofs.Common.{ℕ, zero, suc, ◌+◌, ◌≤◌, Bool, true, false, length, Option, None, Some, Result, Ok, Err, if◌then◌else◌, sym, subst, arith}
use Rattle.iom_base.specs.declared.cause.Cause.{Cause}
use Rattle.iom_device_dir.specs.Paths.{fits_directory}
use Rattle.iom_device_dir.specs.declared.context.Context.{Context}
use Rattle.iom_registers.specs.declared.directory.DirectoryPointer.{DirectoryPointer}
use Rattle.iom_stepped_walk.specs.Directories.{directory_rest}
use Rattle.iom_stepped_walk.specs.Positions.{rest_of}
use Rattle.iom_stepped_walk.specs.Steps.{TableAnswer}
use Rattle.iom_tlb.specs.Content.{Translations}
use Rattle.iom_tlb.specs.declared.trans_cache.Translation.{Translation}
use Rattle.iom_walk_loads.proofs.BoundLemmas.{locating_ends}
use Rattle.iom_walk_loads.proofs.LoadLemmas.{after_within, within_le}
use Rattle.iom_walk_loads.specs.Directory.{locating}
use Rattle.iom_walk_loads.specs.Loads.{Ends, EndsWithin, ReadsContext, ReadsEntry, Walk, after_load}
use Rattle.iom_walk_stops.proofs.FewLemmas.{stages_end}
use Rattle.iom_walk_stops.specs.Stages.{stages_of, walk_of}
use Rattle.iom_walk_stops.specs.declared.stages.Stages.{Stages}
use Rattle.iom_stepped_requests.proofs.WholeLemmas.{directory_after, located_on, tables_load}
use Rattle.iom_stepped_requests.specs.Laws.{LoadsTakeAway, RequestsEnd}
use Rattle.iom_stepped_requests.specs.Serving.{Remaining, answer_of, in_directory, looked_up, served_or, way_to_context, without_directory}
use Rattle.iom_stepped_requests.specs.Whole.{ServedWithin, context_walk, stages_walk, tables_walk, followed}
use Rattle.iom_stepped_requests.specs.declared.request.Answer.{Answer}
use Rattle.iom_stepped_requests.specs.declared.request.Request.{Request}
use Rattle.iom_stepped_requests.specs.declared.walk.RequestWalk.TheVariants.{InDirectory, InTables}

-- one walk and then another
then_within : {A B : Type 0} (m n k : ℕ) (walk : Walk A) (next : A → Walk B) → n + k ≤ m → EndsWithin n walk → ((answer : A) → EndsWithin k (next answer))
    → EndsWithin m (followed walk next)
then_within m n k (Ends answer) next le within each = within_le k m (next answer) (omega (arith, le)) (each answer)
then_within m zero k (ReadsEntry address rest) next le within each = absurd within
then_within m zero k (ReadsContext address rest) next le within each = absurd within
then_within zero (suc n) k (ReadsEntry address rest) next le within each = absurd (omega (arith, le))
then_within zero (suc n) k (ReadsContext address rest) next le within each = absurd (omega (arith, le))
then_within (suc m) (suc n) k (ReadsEntry address rest) next le within each = λ given. then_within m n k (rest given) next (omega (arith, le)) (within given) each
then_within (suc m) (suc n) k (ReadsContext address rest) next le within each = λ given. then_within m n k (rest given) next (omega (arith, le)) (within given) each

tables_within : (walk : Walk TableAnswer) → EndsWithin 24 walk → EndsWithin 24 (tables_walk walk)
tables_within walk within = then_within 24 24 0 walk (λ ended. Ends (answer_of ended)) (omega arith) within (λ ended. tt)

stages_within : (frames : ℕ) (request : Request) (looked : Option Translation) (stages : Option Stages) → EndsWithin 24 (stages_walk frames request looked stages)
stages_within frames request looked None = tt
stages_within frames request (Some translation) (Some stages) = tt
stages_within frames request None (Some stages) =
    tables_within (walk_of frames stages request.asked.address request.asked.kind) (stages_end frames stages request.asked.address request.asked.kind)

context_within : (frames : ℕ) (anew : Bool) (cached : Translations) (request : Request) (found : Result Context Cause)
    → EndsWithin 24 (context_walk frames anew cached request found)
context_within frames anew cached request (Ok context) =
    stages_within frames request (looked_up anew cached request context) (stages_of context.first_stage context.second_stage)
context_within frames anew cached request (Err cause) = tt

directory_within : (m n frames : ℕ) (anew : Bool) (cached : Translations) (request : Request) (walk : Walk (Result Context Cause)) → n + 24 ≤ m → EndsWithin n walk
    → ServedWithin m frames (in_directory frames anew cached request walk)
directory_within m n frames anew cached request (Ends found) le within later =
    subst (EndsWithin m) (sym (located_on frames anew cached later request found))
    (within_le 24 m (context_walk frames anew cached request found) (omega (arith, le)) (context_within frames anew cached request found))
directory_within m n frames anew cached request (ReadsEntry address rest) le within later =
    then_within m n 24 (ReadsEntry address rest) (context_walk frames anew later request) le within (context_within frames anew later request)
directory_within m n frames anew cached request (ReadsContext address rest) le within later =
    then_within m n 24 (ReadsContext address rest) (context_walk frames anew later request) le within (context_within frames anew later request)

way_within : (ddtp : DirectoryPointer) (context : Option Context) (id : ℕ) → EndsWithin 3 (way_to_context ddtp context id)
way_within ddtp None id = locating_ends ddtp id
way_within ddtp (Some context) id = by (fits_directory ddtp.mode id)
  where
    by : (b : Bool) → EndsWithin 3 (if b then Ends (Ok context) else locating ddtp id)
    by true = tt
    by false = locating_ends ddtp id

unless_within : (n frames : ℕ) (without : Option Answer) (rest : Remaining) → ServedWithin n frames rest → ServedWithin n frames (served_or without rest)
unless_within n frames (Some answer) rest within = λ cached. tt
unless_within n frames None rest within = within

pub requests_end : RequestsEnd
requests_end frames ddtp context cached request =
    let way = way_to_context ddtp context request.device in
    let anew = locating ddtp request.device in (
      unless_within 27 frames (without_directory ddtp.mode) (in_directory frames false cached request way)
          (directory_within 27 3 frames false cached request way (omega arith) (way_within ddtp context request.device)),
      unless_within 27 frames (without_directory ddtp.mode) (in_directory frames true (λ key. None) request anew)
          (directory_within 27 3 frames true (λ key. None) request anew (omega arith) (locating_ends ddtp request.device)),
    )

-- what a load leaves of the way to the context
one_less : (n frames : ℕ) (anew : Bool) (cached : Translations) (request : Request) (walk : Walk (Result Context Cause))
    → ((later : Translations) → EndsWithin n (followed walk (context_walk frames anew later request))) → ServedWithin n frames (in_directory frames anew cached request walk)
one_less n frames anew cached request (Ends found) within later = subst (EndsWithin n) (sym (located_on frames anew cached later request found)) (within cached)
one_less n frames anew cached request (ReadsEntry address rest) within later = within later
one_less n frames anew cached request (ReadsContext address rest) within later = within later

pub loads_take_away : LoadsTakeAway
loads_take_away m cached (InDirectory request anew walk) n within =
    let rest = directory_rest walk in
    one_less n (length m) anew cached request (after_load m rest)
    (λ later. subst (EndsWithin n) (sym (directory_after m walk.level walk.page.number walk.id (context_walk (length m) anew later request)))
    (after_within n m (followed rest (context_walk (length m) anew later request)) (within later)))
loads_take_away m cached (InTables request context translated walk) n within =
    λ later. subst (EndsWithin n) (sym (tables_load m later request context translated walk))
    (after_within n m (tables_walk (rest_of (length m) walk)) (within later))
