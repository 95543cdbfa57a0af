-- What remains of a request is one walk, and made from one memory that answers what a whole request is answered.
use Rattle.std.proofs.Common.{◌≡◌, ◌↔◌, ℕ, zero, suc, Bool, true, false, List, length, Option, None, Some, Result, Ok, Err, if◌then◌else◌, refl, sym, ap, ◌∙◌, subst}
use Rattle.iom_base.specs.Sizes.{levels_of}
use Rattle.iom_base.specs.Tables.{entry_size}
use Rattle.iom_base.specs.declared.access.AccessKind.{AccessKind}
use Rattle.iom_base.specs.declared.cause.Cause.{Cause}
use Rattle.iom_base.specs.declared.cause.Cause.TheVariants.{TransactionTypeDisallowed}
use Rattle.iom_device_dir.proofs.Ends.{located-too_wide}
use Rattle.iom_device_dir.specs.Located.{loaded_context, located_context}
use Rattle.iom_device_dir.specs.Paths.{context_words_at, fits_directory}
use Rattle.iom_device_dir.specs.declared.context.Context.{Context}
use Rattle.iom_phys_mem.specs.Words.{word_at}
use Rattle.iom_registers.specs.declared.directory.DirectoryPointer.{DirectoryPointer}
use Rattle.iom_stage_walk.specs.declared.walked.Walked.{Walked}
use Rattle.iom_stage_walk.specs.declared.walked.WalkFault.{WalkFault}
use Rattle.iom_stepped_walk.specs.Directories.{directory_rest}
use Rattle.iom_stepped_walk.specs.Positions.{rest_of}
use Rattle.iom_stepped_walk.specs.Steps.{TableAnswer}
use Rattle.iom_stepped_walk.specs.declared.tables.TableWalk.{TableWalk}
use Rattle.iom_stepped_walk.specs.declared.tables.TableWalk.TheVariants.{InFirstStage, InSecondStage, InGuestTable, ToGuestEntry, ToGuestPage}
use Rattle.iom_tlb.specs.Content.{Translations}
use Rattle.iom_tlb.specs.declared.space.Space.{Space}
use Rattle.iom_tlb.specs.declared.trans_cache.Translation.{Translation}
use Rattle.iom_walk_loads.proofs.WholeLemmas.{both_is_whole, first_is_whole, locating_is_whole, second_is_whole}
use Rattle.iom_walk_loads.specs.Directory.{directory_walk, locating}
use Rattle.iom_walk_loads.specs.Laws.{IsWhole}
use Rattle.iom_walk_loads.specs.Loads.{Ends, ReadsContext, ReadsEntry, Walk, after_load, made_from}
use Rattle.iom_walk_stops.specs.Stages.{stages_of, walk_of}
use Rattle.iom_walk_stops.specs.declared.stages.Stages.{Stages}
use Rattle.iom_walk_stops.specs.declared.stages.Stages.TheVariants.{Both, First, Second}
use Rattle.iom_stepped_requests.specs.Answers.{AnswersByContext, AnswersByStages, AnswersByWalk, AnswersUnless, ReachesIn, StopsIn, context_of}
use Rattle.iom_stepped_requests.specs.Laws.{LoadsAreOfTheWalk, RequestsAreWhole}
use Rattle.iom_stepped_requests.specs.Serving.{Remaining, answer_of, by_located, by_stages, in_directory, in_tables, looked_up, served_or, way_to_context, without_directory}
use Rattle.iom_stepped_requests.specs.Whole.{context_walk, stages_walk, tables_walk, followed, walk_on}
use Rattle.iom_stepped_requests.specs.declared.request.Answer.{Answer}
use Rattle.iom_stepped_requests.specs.declared.request.Answer.TheVariants.{AsItIs, Cached, Faults, Reaches}
use Rattle.iom_stepped_requests.specs.declared.request.Request.{Request}
use Rattle.iom_stepped_requests.specs.declared.walk.RequestWalk.TheVariants.{InDirectory, InTables}

-- What remains, as one walk.

tables_on : (frames : ℕ) (cached : Translations) (request : Request) (context : Context) (translated : Space) (walk : Walk TableAnswer)
    → walk_on frames cached (in_tables request context translated walk) ≡ tables_walk walk
tables_on frames cached request context translated (Ends answer) = refl
tables_on frames cached request context translated (ReadsEntry address rest) = refl
tables_on frames cached request context translated (ReadsContext address rest) = refl

stages_on : (frames : ℕ) (cached : Translations) (looked : Option Translation) (request : Request) (context : Context) (stages : Option Stages)
    → walk_on frames cached (by_stages frames looked request context stages) ≡ stages_walk frames request looked stages
stages_on frames cached looked request context None = refl
stages_on frames cached (Some translation) request context (Some stages) = refl
stages_on frames cached None request context (Some stages) = tables_on frames cached request context _ (walk_of frames stages request.asked.address request.asked.kind)

-- once the context is found it is the same whatever is cached later
pub located_on : (frames : ℕ) (anew : Bool) (cached later : Translations) (request : Request) (found : Result Context Cause)
    → walk_on frames later (by_located frames anew cached request found) ≡ context_walk frames anew cached request found
located_on frames anew cached later request (Ok context) =
    stages_on frames later (looked_up anew cached request context) request context (stages_of context.first_stage context.second_stage)
located_on frames anew cached later request (Err cause) = refl

directory_on : (frames : ℕ) (anew : Bool) (cached : Translations) (request : Request) (walk : Walk (Result Context Cause))
    → walk_on frames cached (in_directory frames anew cached request walk) ≡ followed walk (context_walk frames anew cached request)
directory_on frames anew cached request (Ends found) = located_on frames anew cached cached request found
directory_on frames anew cached request (ReadsEntry address rest) = refl
directory_on frames anew cached request (ReadsContext address rest) = refl

-- One load.

pub directory_after : {A : Type 0} (m : List (List ℕ)) (level page id : ℕ) (next : Result Context Cause → Walk A)
    → followed (after_load m (directory_walk level page id)) next ≡ after_load m (followed (directory_walk level page id) next)
directory_after m zero page id next = refl
directory_after m (suc level) page id next = refl

tables_after : (m : List (List ℕ)) (walk : TableWalk) → tables_walk (after_load m (rest_of (length m) walk)) ≡ after_load m (tables_walk (rest_of (length m) walk))
tables_after m (InFirstStage asked place) = refl
tables_after m (InSecondStage asked place) = refl
tables_after m (ToGuestEntry both entry place) = refl
tables_after m (InGuestTable both entry frame) = refl
tables_after m (ToGuestPage both page place) = refl

pub tables_load : (m : List (List ℕ)) (cached : Translations) (request : Request) (context : Context) (translated : Space) (walk : TableWalk)
    → walk_on (length m) cached (in_tables request context translated (after_load m (rest_of (length m) walk))) ≡ after_load m (tables_walk (rest_of (length m) walk))
tables_load m cached request context translated walk =
    tables_on (length m) cached request context translated (after_load m (rest_of (length m) walk)) ∙ tables_after m walk

pub loads_are_of_the_walk : LoadsAreOfTheWalk
loads_are_of_the_walk m cached (InDirectory request anew walk) =
    directory_on (length m) anew cached request (after_load m (directory_rest walk))
    ∙ directory_after m walk.level walk.page.number walk.id (context_walk (length m) anew cached request)
loads_are_of_the_walk m cached (InTables request context translated walk) = tables_load m cached request context translated walk

-- All loads from one memory.

pub made_then : {A B : Type 0} (m : List (List ℕ)) (walk : Walk A) (next : A → Walk B) → made_from m (followed walk next) ≡ made_from m (next (made_from m walk))
made_then m (Ends answer) next = refl
made_then m (ReadsEntry address rest) next = made_then m (rest (word_at entry_size m address)) next
made_then m (ReadsContext address rest) next = made_then m (rest (loaded_context (context_words_at m address))) next

stages_are_whole : (m : List (List ℕ)) (stages : Stages) (address : ℕ) (kind : AccessKind)
    → IsWhole (walk_of (length m) stages address kind) m (ReachesIn stages m address kind) (StopsIn stages m address kind)
stages_are_whole m (First size root) address kind = first_is_whole m (levels_of size) root.number address kind
stages_are_whole m (Second size root) address kind = second_is_whole m (levels_of size) root.number address kind
stages_are_whole m (Both first_size first second_size second) address kind =
    both_is_whole m (levels_of first_size) (levels_of second_size) first.number second.number address kind

flip : {A : Type 0} (x y : A) → (x ≡ y) ↔ (y ≡ x)
flip x y = (λ e. sym e, λ e. sym e)

-- the answer tells the end of the walk
page_of : (end : TableAnswer) (walked : Walked) → answer_of end ≡ Reaches walked → end ≡ Ok walked
page_of (Ok other) walked same = let is : other ≡ walked = cc in ap Ok is
page_of (Err fault) walked same = absurd (cc)

fault_of : (end : TableAnswer) (fault : WalkFault) → answer_of end ≡ Faults fault → end ≡ Err fault
fault_of (Ok walked) fault same = absurd (cc)
fault_of (Err other) fault same = let is : other ≡ fault = cc in ap Err is

not_as_it_is : (end : TableAnswer) → answer_of end ≡ AsItIs → ⊥
not_as_it_is (Ok walked) same = cc
not_as_it_is (Err fault) same = cc

not_cached : (end : TableAnswer) (translation : Translation) → answer_of end ≡ Cached translation → ⊥
not_cached (Ok walked) translation same = cc
not_cached (Err fault) translation same = cc

ended : (m : List (List ℕ)) (request : Request) (stages : Stages) (end : TableAnswer)
    → ((walked : Walked) → (end ≡ Ok walked) ↔ ReachesIn stages m request.asked.address request.asked.kind walked)
    → ((fault : WalkFault) → (end ≡ Err fault) ↔ StopsIn stages m request.asked.address request.asked.kind fault)
    → (answer : Answer) → (answer_of end ≡ answer) ↔ AnswersByWalk m request stages answer
ended m request stages end reaches stops AsItIs = (not_as_it_is end, λ no_answer. absurd no_answer)
ended m request stages end reaches stops (Cached translation) = (not_cached end translation, λ no_answer. absurd no_answer)
ended m request stages end reaches stops (Reaches walked) = (λ same. (reaches walked).0 (page_of end walked same), λ reached. ap answer_of ((reaches walked).1 reached))
ended m request stages end reaches stops (Faults fault) = (λ same. (stops fault).0 (fault_of end fault same), λ stopped. ap answer_of ((stops fault).1 stopped))

by_walk : (m : List (List ℕ)) (request : Request) (stages : Stages) (answer : Answer)
    → (made_from m (tables_walk (walk_of (length m) stages request.asked.address request.asked.kind)) ≡ answer) ↔ AnswersByWalk m request stages answer
by_walk m request stages answer =
    let walk = walk_of (length m) stages request.asked.address request.asked.kind in
    let whole = stages_are_whole m stages request.asked.address request.asked.kind in
    subst (λ r. (r ≡ answer) ↔ AnswersByWalk m request stages answer) (sym (made_then m walk (λ end. Ends (answer_of end))))
    (ended m request stages (made_from m walk) whole.0 whole.1 answer)

by_stages_whole : (m : List (List ℕ)) (request : Request) (looked : Option Translation) (stages : Option Stages) (answer : Answer)
    → (made_from m (stages_walk (length m) request looked stages) ≡ answer) ↔ AnswersByStages m request looked stages answer
by_stages_whole m request looked None answer = flip AsItIs answer
by_stages_whole m request (Some translation) (Some stages) answer = flip (Cached translation) answer
by_stages_whole m request None (Some stages) answer = by_walk m request stages answer

by_context_whole : (m : List (List ℕ)) (cached : Translations) (request : Request) (found : Result Context Cause) (answer : Answer)
    → (made_from m (context_walk (length m) false cached request found) ≡ answer) ↔ AnswersByContext m cached request found answer
by_context_whole m cached request (Ok context) answer =
    by_stages_whole m request (looked_up false cached request context) (stages_of context.first_stage context.second_stage) answer
by_context_whole m cached request (Err cause) answer = flip _ answer

-- the way to the context ends at it, all its loads from one memory
way_is : (m : List (List ℕ)) (ddtp : DirectoryPointer) (context : Option Context) (id : ℕ) → made_from m (way_to_context ddtp context id) ≡ context_of m ddtp context id
way_is m ddtp None id = locating_is_whole m ddtp id ∙ by (fits_directory ddtp.mode id) refl
  where
    by : (b : Bool) → fits_directory ddtp.mode id ≡ b → located_context m ddtp id ≡ (if b then located_context m ddtp id else Err TransactionTypeDisallowed)
    by true is = refl
    by false is = located-too_wide ddtp.mode m ddtp.ppn id is
way_is m ddtp (Some context) id = by (fits_directory ddtp.mode id) refl
  where
    by : (b : Bool) → fits_directory ddtp.mode id ≡ b
        → made_from m (if b then Ends (Ok context) else locating ddtp id) ≡ (if b then Ok context else Err TransactionTypeDisallowed)
    by true is = refl
    by false is = locating_is_whole m ddtp id ∙ located-too_wide ddtp.mode m ddtp.ppn id is

unless : (m : List (List ℕ)) (cached : Translations) (request : Request) (without : Option Answer) (rest : Remaining) (found : Result Context Cause) (answer : Answer)
    → (made_from m (walk_on (length m) cached rest) ≡ answer) ↔ AnswersByContext m cached request found answer
    → (made_from m (walk_on (length m) cached (served_or without rest)) ≡ answer) ↔ AnswersUnless without m cached request found answer
unless m cached request (Some other) rest found answer whole = flip other answer
unless m cached request None rest found answer whole = whole

pub begun_made : (m : List (List ℕ)) (ddtp : DirectoryPointer) (context : Option Context) (cached : Translations) (request : Request)
    → made_from m (walk_on (length m) cached (in_directory (length m) false cached request (way_to_context ddtp context request.device)))
    ≡ made_from m (context_walk (length m) false cached request (context_of m ddtp context request.device))
begun_made m ddtp context cached request =
    let way = way_to_context ddtp context request.device in
    let next = context_walk (length m) false cached request in
    ap (made_from m) (directory_on (length m) false cached request way) ∙ made_then m way next ∙ ap (λ f. made_from m (next f)) (way_is m ddtp context request.device)

pub requests_are_whole : RequestsAreWhole
requests_are_whole m ddtp context cached request answer =
    let found = context_of m ddtp context request.device in
    unless m cached request (without_directory ddtp.mode) (in_directory (length m) false cached request (way_to_context ddtp context request.device)) found answer
    (subst (λ r. (r ≡ answer) ↔ AnswersByContext m cached request found answer) (sym (begun_made m ddtp context cached request))
    (by_context_whole m cached request found answer))
