-- What becomes of a request once its context is found: it is served, or its walk begins in the tables of the context.
use Rattle.std.proofs.Common.{◌≡◌, ◌⊎◌, ◌/◌, ◌∙◌, inl, inr, ℕ, Bool, true, false, List, [], ◌∷◌, map, length, Contains, Option, None, Some, option_map, Ok, Err, if◌then◌else◌, refl, sym, ap, subst}
use Rattle.std.proofs.lemmas.List.Elements.{Contains-append_right}
use Rattle.iom_base.specs.Causes.{page_fault_of}
use Rattle.iom_base.specs.Rights.{allows}
use Rattle.iom_base.specs.Sizes.{levels_of}
use Rattle.iom_base.specs.declared.access.AccessKind.{AccessKind}
use Rattle.iom_base.specs.declared.access.AccessKind.TheVariants.{Read}
use Rattle.iom_base.specs.declared.cause.Cause.{Cause}
use Rattle.iom_base.specs.declared.rights.Rights.{Rights}
use Rattle.iom_base.specs.declared.size.Size.{Size}
use Rattle.iom_base.specs.declared.size.Size.TheVariants as size
use Rattle.iom_board.specs.BoardParts.{BoardParts}
use Rattle.iom_device_dir.specs.declared.context.Context.{Context as DeviceContext}
use Rattle.iom_device_dir.specs.declared.stages.FirstStage.{FirstStage as FirstPart}
use Rattle.iom_device_dir.specs.declared.stages.FirstStage.TheVariants as first
use Rattle.iom_device_dir.specs.declared.stages.SecondStage.{SecondStage as SecondPart}
use Rattle.iom_device_dir.specs.declared.stages.SecondStage.TheVariants as second
use Rattle.iom_iommu.specs.Parts.{translations_of}
use Rattle.iom_iommu.specs.Stepped.{translation_by}
use Rattle.iom_stage_walk.specs.Both.{plain, entry_address}
use Rattle.iom_stage_walk.specs.Entries.{slot}
use Rattle.iom_stage_walk.specs.Paths.{first_path}
use Rattle.iom_stage_walk.specs.Second.{second_path, reported}
use Rattle.iom_stage_walk.specs.declared.walked.WalkFault.{WalkFault}
use Rattle.iom_stepped_requests.specs.Serving.{Serves, Translates, allowed_for, by_context, by_stages, cached_through, in_tables, key_of, looked_up, space_of as named_space}
use Rattle.iom_stepped_requests.specs.Standing.{stands}
use Rattle.iom_stepped_requests.specs.declared.request.Answer.{Answer}
use Rattle.iom_stepped_requests.specs.declared.request.Answer.TheVariants.{AsItIs, Cached, Faults}
use Rattle.iom_stepped_requests.specs.declared.request.Request.{Request}
use Rattle.iom_stepped_requests.specs.declared.walk.RequestWalk.{RequestWalk}
use Rattle.iom_stepped_requests.specs.declared.walk.RequestWalk.TheVariants.{InDirectory, InTables}
use Rattle.iom_tlb.specs.Content.{Translations}
use Rattle.iom_tlb.specs.declared.trans_cache.Translation.{Translation}
use Rattle.iom_walk_loads.specs.Loads.{Ends, ReadsEntry}
use Rattle.iom_walk_loads.specs.Tables.{InBoth, first_rest, lead_rest, is_canonical, guest_down, guest_load, unread}
use Rattle.iom_walk_stops.specs.Stages.{stages_of, walk_of, page_of}
use Rattle.iom_walk_stops.specs.declared.stages.Stages.{Stages}
use Rattle.iom_walk_stops.specs.declared.stages.Stages.TheVariants.{First, Second, Both}
use Rattle.iom_reach.specs.Scene.{NoStage, PartialWalk, HardwareScene}
use Rattle.iom_reach.specs.Transitions.{IsAdmitted, IsContinued, Requested, ToItself, ByCache}
use Rattle.iom_reach.specs.Ways.{MayFind, AtRoot, space_of}
use Rattle.iom_hardware_ways.specs.Formats.{context_of, stages_in, steps_in}
use Rattle.iom_hardware_ways.specs.Scenes.{mapping_of, scene_of}
use Rattle.iom_hardware_ways.proofs.ListLemmas.{contains_map, in_none, map_cases}
use Rattle.iom_hardware_ways.proofs.TranslationLemmas.{own_frame}
use Rattle.iom_stepped_ways.proofs.CacheLemmas.{space_named}
use Rattle.iom_stepped_ways.proofs.TableLemmas.{found_alone, guest_begins, lead_begins, tables_begin}
use Rattle.iom_stepped_ways.specs.Parts.{Rest, IsWalkOf}
use Rattle.iom_stepped_ways.specs.Scenes.{Added, HasAdded, added_and, address_space, walk_of_part, with_added}

-- HOW A WALK OF TABLES BEGINS: with the load of an entry, or it ends with a fault at once
abbrev LoadsOrFaults : Rest → Type 0
LoadsOrFaults walk = ((first : ℕ) × (next : Option ℕ → Rest) × (walk ≡ ReadsEntry first next)) ⊎ ((fault : WalkFault) × (walk ≡ Ends (Err fault)))

faults_at_once : (fault : WalkFault) → LoadsOrFaults (Ends (Err fault))
faults_at_once fault = inr (fault, refl)

first_loads : (frames root address : ℕ) (kind : AccessKind) (own : Size) → LoadsOrFaults (first_rest frames kind root (first_path (levels_of own) address))
first_loads frames root address kind size.Sv39 = inl (_, _, refl)
first_loads frames root address kind size.Sv48 = inl (_, _, refl)

second_loads : (frames : ℕ) (kind original : AccessKind) (found : ℕ → Rights → ℕ → Rest) (stopped : Cause → Rest) (root address : ℕ) (own : Size)
    → LoadsOrFaults (lead_rest frames kind original found stopped root (second_path (levels_of own) address))
second_loads frames kind original found stopped root address size.Sv39 = inl (_, _, refl)
second_loads frames kind original found stopped root address size.Sv48 = inl (_, _, refl)

guest_loads : (w : InBoth) (own : Size) → w.levels' ≡ levels_of own → (guest : ℕ) (is : List ℕ) → LoadsOrFaults (guest_down w [] guest is)
guest_loads w own same guest is =
    guest_begins LoadsOrFaults [] faults_at_once w [] guest is
    (λ i below. subst (λ n. LoadsOrFaults (lead_rest w.frames Read w.kind (λ frame rights level. guest_load w [] guest i below (λ next. guest_down w (frame ∷ []) next below) frame)
    (unread w guest i) w.second (second_path n (entry_address (slot guest i))))) (sym same)
    (second_loads w.frames Read w.kind (λ frame rights level. guest_load w [] guest i below (λ next. guest_down w (frame ∷ []) next below) frame) (unread w guest i) w.second
    (entry_address (slot guest i)) own))

if_canonical : (b : Bool) (walk : Rest) (kind : AccessKind) → LoadsOrFaults walk → LoadsOrFaults (if b then walk else Ends (Err (plain (page_fault_of kind))))
if_canonical true walk kind loads = loads
if_canonical false walk kind loads = faults_at_once (plain (page_fault_of kind))

abbrev alone : ℕ → Rights → ℕ → Rest
alone frame rights level = Ends (Ok (found_alone frame rights level))

walk_begins : (frames : ℕ) (stages : Stages) (address : ℕ) (kind : AccessKind) → LoadsOrFaults (walk_of frames stages address kind)
walk_begins frames (First own root) address kind =
    if_canonical (is_canonical (levels_of own) address) (first_rest frames kind root.number (first_path (levels_of own) address)) kind (first_loads frames root.number address kind own)
walk_begins frames (Second own root) address kind =
    lead_begins LoadsOrFaults [] faults_at_once frames (levels_of own) root.number kind kind alone (λ cause. reported cause address false) address
    (second_loads frames kind kind alone (λ cause. Ends (Err (reported cause address false))) root.number address own)
walk_begins frames (Both first_size guest second_size root) address kind =
    let w : InBoth = record { frames = frames; levels' = levels_of second_size; second = root.number; address = address; kind = kind } in
    if_canonical (is_canonical (levels_of first_size) address) (guest_down w [] guest.number (first_path (levels_of first_size) address)) kind
    (guest_loads w second_size refl guest.number (first_path (levels_of first_size) address))

-- STAGES AND ADDRESS SPACES

-- the address space of the stages of a context
named : (context : DeviceContext) (one : FirstPart) (two : SecondPart) (stages : Stages) → stages_of one two ≡ Some stages
    → space_of (stages_in one two context.gscid context.pscid.number) ≡ Some (address_space (named_space context stages))
named context first.Bare second.Bare stages is = let no : ⊥ = cc in absurd no
named context (first.Tables own root) second.Bare stages is = ap (λ s. Some (address_space (named_space context s))) (let same : First own root ≡ stages = cc in same)
named context first.Bare (second.Tables own root) stages is = ap (λ s. Some (address_space (named_space context s))) (let same : Second own (page_of root) ≡ stages = cc in same)
named context (first.Tables own guest) (second.Tables other root) stages is =
    ap (λ s. Some (address_space (named_space context s))) (let same : Both own guest other (page_of root) ≡ stages = cc in same)

bare : (one : FirstPart) (two : SecondPart) (gscid pscid : ℕ) → stages_of one two ≡ None → stages_in one two gscid pscid ≡ NoStage
bare first.Bare second.Bare gscid pscid is = refl
bare (first.Tables own root) second.Bare gscid pscid is = let no : ⊥ = cc in absurd no
bare first.Bare (second.Tables own root) gscid pscid is = let no : ⊥ = cc in absurd no
bare (first.Tables own guest) (second.Tables other root) gscid pscid is = let no : ⊥ = cc in absurd no

-- a translation that is looked up is cached, and allows the access
allowed : (kind : AccessKind) (cached : Option Translation) (own : Translation) → allowed_for kind cached ≡ Some own → (cached ≡ Some own) × (allows own.rights kind ≡ true)
allowed kind None own is = let no : ⊥ = cc in absurd no
allowed kind (Some found) own is = by (allows found.rights kind) refl is
  where
    by : (b : Bool) → allows found.rights kind ≡ b → (if b then Some found else None) ≡ Some own → (◌≡◌ {A = Option Translation} (Some found) (Some own)) × (allows own.rights kind ≡ true)
    by true e reply = let same : found ≡ own = cc in (reply, ap (λ (t : Translation). allows t.rights kind) (sym same) ∙ e)
    by false e reply = let no : ⊥ = cc in absurd no

looked_is : (anew : Bool) (cached : Translations) (request : Request) (context : DeviceContext) (stages : Stages) (own : Translation)
    → stages_of context.first_stage context.second_stage ≡ Some stages → looked_up anew cached request context ≡ Some own
    → (cached (key_of request (named_space context stages)) ≡ Some own) × (allows own.rights request.asked.kind ≡ true)
looked_is true cached request context stages own is found = let no : ⊥ = cc in absurd no
looked_is false cached request context stages own is found =
    allowed request.asked.kind (cached (key_of request (named_space context stages))) own (sym (ap (cached_through cached request context) is) ∙ found)

-- A CONTEXT IS FOUND
module _ (trusted : ℕ → Bool) (parts : BoardParts) (a : Added) (request : Request) (context : DeviceContext)
    (find : MayFind (with_added (scene_of trusted parts) a) request.device (context_of context)) where
  abbrev S : HardwareScene
  S = with_added (scene_of trusted parts) a

  abbrev IsLetInBy : Answer → Type 0
  IsLetInBy answer = (t : Translation) → translation_by parts.memory request.asked.address request.asked.kind answer ≡ Ok t → IsAdmitted S request.device t.frame request.asked.kind

  serves_by : (anew : Bool) (answer : Answer) (stages : Option Stages) (found : Option Translation) → stages_of context.first_stage context.second_stage ≡ stages
      → looked_up anew (translations_of parts.iommu) request context ≡ found → Serves answer ≡ by_stages (length parts.memory) found request context stages → IsLetInBy answer
  serves_by anew answer None found none looked serves t is =
      let same : answer ≡ AsItIs = cc in
      let own = subst (λ x. translation_by parts.memory request.asked.address request.asked.kind x ≡ Ok t) same is in
      let (frame, right) = own_frame parts.memory request.asked.address request.asked.kind t (sym own) in
      Requested (context_of context) (request.asked.address / 4096) (mapping_of t) find
      (ToItself (bare context.first_stage context.second_stage context.gscid context.pscid.number none)) (refl, right)
  serves_by anew answer (Some stages) (Some cached) some looked serves t is =
      let same : answer ≡ Cached cached = cc in
      let reply = subst (λ x. translation_by parts.memory request.asked.address request.asked.kind x ≡ Ok t) same is in
      let own : cached ≡ t = cc in
      let (there, right) = looked_is anew (translations_of parts.iommu) request context stages cached some looked in
      Requested (context_of context) (request.asked.address / 4096) (mapping_of t) find
      (ByCache (address_space (named_space context stages)) (named context context.first_stage context.second_stage stages some)
      (ap (λ k. option_map mapping_of (translations_of parts.iommu (k, request.asked.address / 4096))) (space_named trusted parts a (named_space context stages))
      ∙ ap (option_map mapping_of) there ∙ ap (λ x. Some (mapping_of x)) own))
      (refl, subst (λ (x : Translation). allows x.rights request.asked.kind ≡ true) own right)
  serves_by anew answer (Some stages) None some looked serves t is = elim (walk_begins (length parts.memory) stages request.asked.address request.asked.kind) [
    | inl (first, next, loads) ↦
        let on = serves ∙ ap (in_tables request context (named_space context stages)) loads in
        let no : ⊥ = cc in absurd no
    | inr (fault, ends) ↦
        let over = serves ∙ ap (in_tables request context (named_space context stages)) ends in
        let same : answer ≡ Faults fault = cc in
        let reply = subst (λ x. translation_by parts.memory request.asked.address request.asked.kind x ≡ Ok t) same is in
        let no : ⊥ = cc in absurd no
  ]

  -- it is served, and let in where it has a translation
  pub found_serves : (anew : Bool) (answer : Answer)
      → Serves answer ≡ by_context (length parts.memory) (looked_up anew (translations_of parts.iommu) request context) request context → IsLetInBy answer
  found_serves anew answer serves =
      serves_by anew answer (stages_of context.first_stage context.second_stage) (looked_up anew (translations_of parts.iommu) request context) refl refl serves

  -- it stands in tables: the parts of its walk begin at the root of the context's
  abbrev pub WalkIsAdded : RequestWalk → Type 0
  WalkIsAdded walk = (more : List PartialWalk) × ((part : PartialWalk) → Contains more part → IsContinued S part)
      × HasAdded (length parts.memory) (added_and a (record { partial_walks = more; directory_walks = []; let_through = λ device. [] })) request (stands (length parts.memory) walk)

  no_answer : (walk : RequestWalk) (answer : Answer) → stands (length parts.memory) walk ≡ Serves answer → ⊥
  no_answer (InDirectory own anew walk) answer is = cc
  no_answer (InTables own context translated walk) answer is = cc

  some_same : (device : ℕ) → Some request.device ≡ Some device → request.device ≡ device
  some_same device is = cc

  begun : (walk : RequestWalk) (stages : Stages) (first : ℕ) (next : Option ℕ → Rest) → stages_of context.first_stage context.second_stage ≡ Some stages
      → walk_of (length parts.memory) stages request.asked.address request.asked.kind ≡ ReadsEntry first next
      → stands (length parts.memory) walk ≡ Translates request context (named_space context stages) (ReadsEntry first next) → WalkIsAdded walk
  begun walk stages first next some loads is =
      let (list, tables, walks, space, decide, passes) = tables_begin parts.memory (length parts.memory) context stages request.asked.address request.asked.kind first next some loads in
      let kept_in = address_space (named_space context stages) in
      let more = map (walk_of_part request.device kept_in) list in (
        more,
        (λ part there.
            let (own, among, same) = map_cases (walk_of_part request.device kept_in) list part there in
            subst (IsContinued S) same (
              tables.root,
              steps_in (context_of context).stages,
              AtRoot request.device (context_of context) tables find space decide refl refl,
              (λ device mine. inl (context_of context, subst (λ d. MayFind S d (context_of context)) (some_same device mine) find, space)),
              passes own among,
            )),
        subst (HasAdded (length parts.memory) (added_and a (record { partial_walks = more; directory_walks = []; let_through = λ device. [] })) request) (sym is) (
          refl,
          (
            list,
            [],
            subst (λ rest. IsWalkOf (length parts.memory) request.asked.kind rest list []) loads walks,
            (λ own among. Contains-append_right a.partial_walks more (walk_of_part request.device kept_in own) (contains_map (walk_of_part request.device kept_in) list own among)),
            (λ frame none. absurd (in_none frame none)),
          ),
        ),
      )

  walks_by : (walk : RequestWalk) (stages : Option Stages) (found : Option Translation) → stages_of context.first_stage context.second_stage ≡ stages
      → stands (length parts.memory) walk ≡ by_stages (length parts.memory) found request context stages → WalkIsAdded walk
  walks_by walk None found none is = absurd (no_answer walk AsItIs is)
  walks_by walk (Some stages) (Some cached) some is = absurd (no_answer walk (Cached cached) is)
  walks_by walk (Some stages) None some is = elim (walk_begins (length parts.memory) stages request.asked.address request.asked.kind) [
    | inl (first, next, loads) ↦ begun walk stages first next some loads (is ∙ ap (in_tables request context (named_space context stages)) loads)
    | inr (fault, ends) ↦ absurd (no_answer walk (Faults fault) (is ∙ ap (in_tables request context (named_space context stages)) ends))
  ]

  pub found_walks : (walk : RequestWalk) (found : Option Translation) → stands (length parts.memory) walk ≡ by_context (length parts.memory) found request context → WalkIsAdded walk
  found_walks walk found is = walks_by walk (stages_of context.first_stage context.second_stage) found refl is
