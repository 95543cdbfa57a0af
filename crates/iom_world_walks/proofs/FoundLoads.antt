-- A request whose context is found, one that the driver wrote: a cached translation serves it, or its walk of tables begins, or faults at once.
use Rattle.std.proofs.Common.{◌≡◌, ℕ, ◌/◌, ◌%◌, ◌^◌, ◌<◌, ◌⊎◌, ◌∙◌, Bool, true, false, List, length, Option, Some, None, Ok, Err, refl, sym, ap, subst, if◌then◌else◌}
use Rattle.iom_base.specs.Modes.{size_in}
use Rattle.iom_base.specs.Rights.{allows}
use Rattle.iom_base.specs.Sizes.{page_size}
use Rattle.iom_base.specs.declared.mode.Mode.{Mode}
use Rattle.iom_base.specs.declared.mode.Mode.TheVariants.{First, Second, Both}
use Rattle.iom_base.specs.declared.owner.Owner.{Owner}
use Rattle.iom_base.specs.declared.rights.Rights.{Rights}
use Rattle.iom_device_dir.specs.declared.context.Context.{Context}
use Rattle.iom_driver.specs.Directory.{context_in}
use Rattle.iom_driver.specs.Tables.{AreTablesOf}
use Rattle.iom_ledger.specs.Shown.{held_in}
use Rattle.iom_stepped_requests.specs.Serving.{Remaining, Serves, Locates, Translates, space_of, key_of, allowed_for, looked_up, cached_through, in_tables, by_stages, by_context}
use Rattle.iom_stepped_requests.specs.declared.request.Answer.TheVariants.{AsItIs, Cached, Reaches, Faults}
use Rattle.iom_stepped_requests.specs.declared.request.Request.{Request}
use Rattle.iom_stepped_walk.specs.Steps.{TableAnswer}
use Rattle.iom_tlb.specs.Content.{Translations}
use Rattle.iom_tlb.specs.declared.trans_cache.Translation.{Translation}
use Rattle.iom_walk_coherence.specs.Walks.{InTables}
use Rattle.iom_walk_loads.specs.Loads.{Walk, Ends, ReadsEntry, ReadsContext}
use Rattle.iom_walk_stops.specs.Stages as walk
use Rattle.iom_walk_stops.specs.declared.stages.Stages as walk_stages
use Rattle.iom_world_effects.specs.Read.{space_in}
use Rattle.iom_world_effects.specs.Scenes.{Values}
use Rattle.iom_world_effects.proofs.WalkLemmas.{WalkLaws, FaultsBy}
use Rattle.iom_world_walks.specs.Standing.{StandsInMode}
use Rattle.iom_world_walks.proofs.RootLoads.{named_in, walk_in, walk_named, space_named, HasBegun, begun}
use Rattle.iom_world_walks.proofs.TableLoads.{LoadLaws}

-- the stages that the context asks for
stages_named : (mode : Mode) (root number : ℕ) (ats : Bool)
    → walk.stages_of (context_in mode root number ats).first_stage (context_in mode root number ats).second_stage ≡ Some (named_in mode root)
stages_named (First size) root number ats = refl
stages_named (Second size) root number ats = refl
stages_named (Both size) root number ats = refl

-- HOW THE REQUEST IS then
abbrev pub HasFound : Values → List (List ℕ) → Translations → Mode → (root number : ℕ) → Bool → Request → Remaining → Type 0
HasFound values memory cached mode root number ats request (Serves AsItIs) = ⊥
HasFound values memory cached mode root number ats request (Serves (Cached translation)) =
    (cached (space_in mode number, request.asked.address / page_size) ≡ Some translation) × (allows translation.rights request.asked.kind ≡ true)
HasFound values memory cached mode root number ats request (Serves (Reaches walked)) = ⊥
HasFound values memory cached mode root number ats request (Serves (Faults fault)) =
    FaultsBy mode values.ledger request.device (request.asked.address / page_size) request.asked.kind fault.cause
HasFound values memory cached mode root number ats request (Locates own anew rest) = ⊥
HasFound values memory cached mode root number ats request (Translates own context translated rest) =
    (own ≡ request) × (context ≡ context_in mode root number ats) × (translated ≡ space_in mode number) × StandsInMode mode memory root request.asked rest InTables

module _ (laws : LoadLaws) (walk_laws : WalkLaws) (values : Values) (memory : List (List ℕ)) (owners : List (Option Owner)) (cached : Translations) (request : Request)
    (low : request.asked.address / page_size < 2 ^ 52)
    (within : (page frame : ℕ) (rights : Rights) → held_in values.ledger request.device page ≡ Some (frame, rights) → frame < length memory)
    (mode : Mode) (root number : ℕ) (ats : Bool) (small : root < 2 ^ 44) (few : number < 2 ^ 20) (aligned : (mode ≡ First (size_in mode)) ⊎ (root % 4 ≡ 0))
    (tables : AreTablesOf memory owners values.ledger request.device mode root) where
  abbrev context : Context
  context = context_in mode root number ats

  abbrev Found : Remaining → Type 0
  Found = HasFound values memory cached mode root number ats request

  -- no translation is looked up, or none is cached
  walks : (after : Walk TableAnswer) → walk_in mode (length memory) root request.asked.address request.asked.kind ≡ after → Found (in_tables request context (space_in mode number) after)
  walks after is = by after (begun laws walk_laws values memory owners request.device root request.asked low within mode tables after is)
    where
      by : (after : Walk TableAnswer) → HasBegun values mode memory request.device root request.asked after → Found (in_tables request context (space_in mode number) after)
      by (Ends (Ok walked)) never = never
      by (Ends (Err fault)) faults = faults
      by (ReadsEntry address rest) stands = (refl, refl, refl, stands)
      by (ReadsContext address rest) stands = (refl, refl, refl, stands)

  walks_named : Found (in_tables request context (space_of context (named_in mode root)) (walk.walk_of (length memory) (named_in mode root) request.asked.address request.asked.kind))
  walks_named =
      subst (λ s. Found (in_tables request context s (walk.walk_of (length memory) (named_in mode root) request.asked.address request.asked.kind))) (sym (space_named mode root number ats few))
      (subst (λ w. Found (in_tables request context (space_in mode number) w)) (sym (walk_named mode (length memory) root request.asked.address request.asked.kind small aligned)) (walks _ refl))

  -- one that is looked up
  by_looked : (looked : Option Translation) → ((translation : Translation) → looked ≡ Some translation
      → (cached (space_in mode number, request.asked.address / page_size) ≡ Some translation) × (allows translation.rights request.asked.kind ≡ true))
      → Found (by_stages (length memory) looked request context (Some (named_in mode root)))
  by_looked None there = walks_named
  by_looked (Some translation) there = there translation refl

  allowed : (o : Option Translation) (translation : Translation) → allowed_for request.asked.kind o ≡ Some translation → (o ≡ Some translation) × (allows translation.rights request.asked.kind ≡ true)
  allowed None translation is = cc
  allowed (Some found) translation is = by (allows found.rights request.asked.kind) refl is
    where
      by : (b : Bool) → allows found.rights request.asked.kind ≡ b → (if b then Some found else None) ≡ Some translation
          → (◌≡◌ {A = Option Translation} (Some found) (Some translation)) × (allows translation.rights request.asked.kind ≡ true)
      by true may same = let one : found ≡ translation = cc in (same, ap (λ (t : Translation). allows t.rights request.asked.kind) (sym one) ∙ may)
      by false may same = cc

  looked : (anew : Bool) (translation : Translation) → looked_up anew cached request context ≡ Some translation
      → (cached (space_in mode number, request.asked.address / page_size) ≡ Some translation) × (allows translation.rights request.asked.kind ≡ true)
  looked true translation is = cc
  looked false translation is =
      allowed (cached (space_in mode number, request.asked.address / page_size)) translation
      (sym (ap (λ s. allowed_for request.asked.kind (cached (s, request.asked.address / page_size))) (space_named mode root number ats few))
      ∙ sym (by_named (walk.stages_of context.first_stage context.second_stage) (stages_named mode root number ats)) ∙ is)
    where
      by_named : (o : Option walk_stages.Stages) → o ≡ Some (named_in mode root)
          → cached_through cached request context o ≡ allowed_for request.asked.kind (cached (key_of request (space_of context (named_in mode root))))
      by_named o same = ap (cached_through cached request context) same

  -- THE CONTEXT IS FOUND
  pub found : (anew : Bool) → Found (by_context (length memory) (looked_up anew cached request context) request context)
  found anew =
      subst (λ o. Found (by_stages (length memory) (looked_up anew cached request context) request context o)) (sym (stages_named mode root number ats))
      (by_looked (looked_up anew cached request context) (looked anew))
