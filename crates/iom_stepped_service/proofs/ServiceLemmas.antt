-- A request by single loads beside one that is served at once.
use Rattle.std.proofs.Common.{◌≡◌, ◌∙◌, ◌/◌, ℕ, Bool, true, false, List, length, Option, None, Some, Result, Ok, Err, refl, sym, ap, subst, if◌then◌else◌}
use Rattle.iom_base.specs.Rights.{allows}
use Rattle.iom_base.specs.Sizes.{page_size}
use Rattle.iom_base.specs.declared.access.AccessKind.{AccessKind}
use Rattle.iom_base.specs.declared.cause.Cause.{Cause}
use Rattle.iom_base.specs.declared.cause.Cause.TheVariants.{AllInboundDisallowed, TransactionTypeDisallowed}
use Rattle.iom_device_dir.specs.Contents.{Content}
use Rattle.iom_device_dir.specs.Located.{located_context}
use Rattle.iom_device_dir.specs.Paths.{fits_directory}
use Rattle.iom_device_dir.specs.declared.context.Context.{Context}
use Rattle.iom_device_dir.specs.declared.stages.FirstStage.{FirstStage}
use Rattle.iom_device_dir.specs.declared.stages.FirstStage.TheVariants.{Bare, Tables}
use Rattle.iom_device_dir.specs.declared.stages.SecondStage.{SecondStage}
use Rattle.iom_device_dir.specs.declared.stages.SecondStage.TheVariants as second
use Rattle.iom_iommu.specs.Service.{KeepsIn, KeepsLocated, LooksOrWalks, Serves, ServesBy, ServesIn, Translates, cached_for, context_or_cause, found_context}
use Rattle.iom_registers.specs.declared.directory.DirectoryMode.{DirectoryMode}
use Rattle.iom_registers.specs.declared.directory.DirectoryMode.TheVariants as mode
use Rattle.iom_registers.specs.declared.registers.Registers.{Registers}
use Rattle.iom_stage_walk.specs.Both.{plain}
use Rattle.iom_stage_walk.specs.declared.walked.WalkFault.{WalkFault}
use Rattle.iom_stepped_requests.specs.Answers.{Answers, AnswersByContext, AnswersByStages, AnswersByWalk, AnswersUnless, ReachesIn, StopsIn, cached_or, context_of}
use Rattle.iom_stepped_requests.specs.Keeping.{context_to_keep, told_by_stages, translation_to_keep}
use Rattle.iom_stepped_requests.specs.Serving.{allowed_for, cached_through, key_of, space_of, without_directory}
use Rattle.iom_stepped_requests.specs.declared.request.Answer.{Answer}
use Rattle.iom_stepped_requests.specs.declared.request.Answer.TheVariants.{AsItIs, Cached, Reaches, Faults}
use Rattle.iom_stepped_requests.specs.declared.request.Request.{Request}
use Rattle.iom_tlb.specs.Content.{Translations}
use Rattle.iom_tlb.specs.declared.trans_cache.Translation.{Translation}
use Rattle.iom_walk_stops.specs.Stages.{page_of, stages_of}
use Rattle.iom_walk_stops.specs.declared.stages.Stages.{Stages}
use Rattle.iom_walk_stops.specs.declared.stages.Stages.TheVariants.{First, Second, Both}
use Rattle.iom_iommu.specs.Stepped.{translation_by}
use Rattle.iom_stepped_service.specs.Service.{KeepsContextIfAny, KeepsIfAny}

-- both choose the cached context
same_context : (cached : Option Context) (located : Result Context Cause) → cached_or cached located ≡ found_context cached located
same_context None located = refl
same_context (Some context) located = refl

pub same_found : (fits : Bool) (cached : Option Context) (located : Result Context Cause)
    → (if fits then cached_or cached located else Err TransactionTypeDisallowed) ≡ (if fits then found_context cached located else Err TransactionTypeDisallowed)
same_found true cached located = same_context cached located
same_found false cached located = refl

-- and look up the same
same_look : (kind : AccessKind) (found : Option Translation) → allowed_for kind found ≡ cached_for found kind
same_look kind None = refl
same_look kind (Some translation) = refl

-- nothing is kept of a fault, nor of an address that no stage translates
nothing_of_fault : (request : Request) (found : Result Context Cause) (fault : WalkFault) → translation_to_keep request found (Faults fault) ≡ None
nothing_of_fault request (Err cause) fault = refl
nothing_of_fault request (Ok context) fault = by (stages_of context.first_stage context.second_stage)
  where
    by : (stages : Option Stages) → told_by_stages request context stages (Faults fault) ≡ None
    by None = refl
    by (Some stages) = refl

nothing_as_it_is : (request : Request) (found : Result Context Cause) → translation_to_keep request found AsItIs ≡ None
nothing_as_it_is request (Err cause) = refl
nothing_as_it_is request (Ok context) = by (stages_of context.first_stage context.second_stage)
  where
    by : (stages : Option Stages) → told_by_stages request context stages AsItIs ≡ None
    by None = refl
    by (Some stages) = refl

-- by a cached translation, or by the walk of these stages
looks_or_walks : (sure : Bool) (memory : List (List ℕ)) (request : Request) (context : Context) (stages : Stages) (cached new : Translations) (looked : Option Translation) (answer : Answer)
    → AnswersByStages memory request looked (Some stages) answer → KeepsIfAny sure cached (told_by_stages request context (Some stages) answer) new
    → LooksOrWalks sure looked (ReachesIn stages memory request.asked.address request.asked.kind) (StopsIn stages memory request.asked.address request.asked.kind)
    (key_of request (space_of context stages)) cached (translation_by memory request.asked.address request.asked.kind answer) new
looks_or_walks sure memory request context stages cached new (Some translation) answer is keeps =
    (ap (translation_by memory request.asked.address request.asked.kind) is, subst (λ a. KeepsIfAny sure cached (told_by_stages request context (Some stages) a) new) is keeps)
looks_or_walks sure memory request context stages cached new None AsItIs none keeps = absurd none
looks_or_walks sure memory request context stages cached new None (Cached translation) none keeps = absurd none
looks_or_walks sure memory request context stages cached new None (Reaches walked) reaches keeps = (walked, reaches, refl, keeps)
looks_or_walks sure memory request context stages cached new None (Faults fault) stops keeps = (stops, keeps)

looked_up : (sure : Bool) (memory : List (List ℕ)) (request : Request) (context : Context) (stages : Stages) (cached new : Translations) (answer : Answer)
    → AnswersByStages memory request (cached_through cached request context (Some stages)) (Some stages) answer
    → KeepsIfAny sure cached (told_by_stages request context (Some stages) answer) new
    → LooksOrWalks sure (cached_for (cached (key_of request (space_of context stages))) request.asked.kind)
    (ReachesIn stages memory request.asked.address request.asked.kind) (StopsIn stages memory request.asked.address request.asked.kind)
    (key_of request (space_of context stages)) cached (translation_by memory request.asked.address request.asked.kind answer) new
looked_up sure memory request context stages cached new answer is keeps =
    let found = cached (key_of request (space_of context stages)) in
    looks_or_walks sure memory request context stages cached new (cached_for found request.asked.kind) answer
    (subst (λ looked. AnswersByStages memory request looked (Some stages) answer) (same_look request.asked.kind found) is) keeps

-- by the stages of a context
by_stages : (sure : Bool) (memory : List (List ℕ)) (request : Request) (context : Context) (first : FirstStage) (second : SecondStage) (cached new : Translations) (answer : Answer)
    → AnswersByStages memory request (cached_through cached request context (stages_of first second)) (stages_of first second) answer
    → KeepsIfAny sure cached (told_by_stages request context (stages_of first second) answer) new
    → Translates sure first second context memory request.asked.address request.asked.kind cached (translation_by memory request.asked.address request.asked.kind answer) new
by_stages sure memory request context Bare second.Bare cached new answer is keeps = (ap (translation_by memory request.asked.address request.asked.kind) is, keeps)
by_stages sure memory request context (Tables size root) second.Bare cached new answer is keeps =
    looked_up sure memory request context (First size root) cached new answer is keeps
by_stages sure memory request context Bare (second.Tables size root) cached new answer is keeps =
    looked_up sure memory request context (Second size (page_of root)) cached new answer is keeps
by_stages sure memory request context (Tables first_size first) (second.Tables second_size root) cached new answer is keeps =
    looked_up sure memory request context (Both first_size first second_size (page_of root)) cached new answer is keeps

-- by the context that was found
by_context : (sure : Bool) (memory : List (List ℕ)) (request : Request) (found : Result Context Cause) (cached new : Translations) (answer : Answer)
    → AnswersByContext memory cached request found answer → KeepsIfAny sure cached (translation_to_keep request found answer) new
    → ServesBy sure found memory request.asked.address request.asked.kind cached (translation_by memory request.asked.address request.asked.kind answer) new
by_context sure memory request (Ok context) cached new answer is keeps =
    by_stages sure memory request context context.first_stage context.second_stage cached new answer is keeps
by_context sure memory request (Err cause) cached new answer is keeps = (ap (translation_by memory request.asked.address request.asked.kind) is, keeps)

-- by ddtp's mode
by_mode : (sure : Bool) (memory : List (List ℕ)) (request : Request) (directory : DirectoryMode) (found : Result Context Cause) (cached new : Translations) (answer : Answer)
    → AnswersUnless (without_directory directory) memory cached request found answer → KeepsIfAny sure cached (translation_to_keep request found answer) new
    → ServesIn sure directory found memory request.asked.address request.asked.kind cached (translation_by memory request.asked.address request.asked.kind answer) new
by_mode sure memory request mode.Off found cached new answer is keeps = (
  ap (translation_by memory request.asked.address request.asked.kind) is,
  subst (λ kept. KeepsIfAny sure cached kept new) (ap (translation_to_keep request found) is ∙ nothing_of_fault request found (plain AllInboundDisallowed)) keeps,
)
by_mode sure memory request mode.Bare found cached new answer is keeps = (
  ap (translation_by memory request.asked.address request.asked.kind) is,
  subst (λ kept. KeepsIfAny sure cached kept new) (ap (translation_to_keep request found) is ∙ nothing_as_it_is request found) keeps,
)
by_mode sure memory request mode.OneLevel found cached new answer is keeps = by_context sure memory request found cached new answer is keeps
by_mode sure memory request mode.TwoLevels found cached new answer is keeps = by_context sure memory request found cached new answer is keeps
by_mode sure memory request mode.ThreeLevels found cached new answer is keeps = by_context sure memory request found cached new answer is keeps

pub answers_serve : (sure : Bool) (memory : List (List ℕ)) (r : Registers) (request : Request) (contexts : Content ℕ Context) (cached new : Translations) (answer : Answer)
    → Answers memory r.ddtp (contexts request.device) cached request answer
    → KeepsIfAny sure cached (translation_to_keep request (context_of memory r.ddtp (contexts request.device) request.device) answer) new
    → Serves sure memory r contexts request.device request.asked.address request.asked.kind cached (translation_by memory request.asked.address request.asked.kind answer) new
answers_serve sure memory r request contexts cached new answer is keeps =
    let found = context_of memory r.ddtp (contexts request.device) request.device in
    subst (λ f. ServesIn sure r.ddtp.mode f memory request.asked.address request.asked.kind cached (translation_by memory request.asked.address request.asked.kind answer) new)
    (same_found (fits_directory r.ddtp.mode request.device) (contexts request.device) (located_context memory r.ddtp request.device))
    (by_mode sure memory request r.ddtp.mode found cached new answer is keeps)

-- the cache of contexts
located_kept : (request : Request) (cached : Option Context) (located : Result Context Cause) (old new : Content ℕ Context)
    → KeepsContextIfAny old (context_to_keep None request cached located) new → KeepsLocated cached located old request.device new
located_kept request (Some cached) located old new keeps = keeps
located_kept request None (Ok context) old new keeps = keeps
located_kept request None (Err cause) old new keeps = keeps

pub contexts_kept : (request : Request) (directory : DirectoryMode) (cached : Option Context) (located : Result Context Cause) (old new : Content ℕ Context)
    → KeepsContextIfAny old (context_to_keep (without_directory directory) request cached located) new → KeepsIn directory cached located old request.device new
contexts_kept request mode.Off cached located old new keeps = keeps
contexts_kept request mode.Bare cached located old new keeps = keeps
contexts_kept request mode.OneLevel cached located old new keeps = located_kept request cached located old new keeps
contexts_kept request mode.TwoLevels cached located old new keeps = located_kept request cached located old new keeps
contexts_kept request mode.ThreeLevels cached located old new keeps = located_kept request cached located old new keeps
