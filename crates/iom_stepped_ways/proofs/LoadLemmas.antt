-- One load of a request that is under way, by what remains of it: what is added, what is kept, and whether its access is let in.
use Rattle.std.proofs.Common.{◌≡◌, ◌∙◌, inl, inr, ℕ, zero, suc, Bool, List, [], ◌∷◌, map, length, Contains, Some, Result, Ok, Err, refl, sym, ap, subst}
use Rattle.std.proofs.lemmas.List.Elements.{Contains-append_left, Contains-append_right}
use Rattle.iom_base.specs.declared.access.AccessKind.TheVariants.{Read}
use Rattle.iom_base.specs.declared.cause.Cause.{Cause}
use Rattle.iom_board.specs.BoardParts.{BoardParts}
use Rattle.iom_device_dir.specs.declared.context.Context.{Context as DeviceContext}
use Rattle.iom_iommu.specs.Parts.{translations_of}
use Rattle.iom_iommu.specs.Stepped.{translation_by}
use Rattle.iom_stage_walk.specs.Both.{plain}
use Rattle.iom_stage_walk.specs.declared.walked.Walked.{Walked}
use Rattle.iom_stage_walk.specs.declared.walked.WalkFault.{WalkFault}
use Rattle.iom_stepped_requests.specs.Serving.{Remaining, Serves, Locates, Translates, answer_of, in_directory, in_tables, kept, kept_in_directory, kept_in_tables, load, looked_up, translation_of}
use Rattle.iom_stepped_requests.specs.Standing.{stands}
use Rattle.iom_stepped_requests.specs.declared.request.Answer.{Answer}
use Rattle.iom_stepped_requests.specs.declared.request.Answer.TheVariants.{AsItIs, Cached, Reaches, Faults}
use Rattle.iom_stepped_requests.specs.declared.request.Kept.TheVariants as kept_as
use Rattle.iom_stepped_requests.specs.declared.request.Request.{Request}
use Rattle.iom_stepped_requests.specs.declared.walk.RequestWalk.{RequestWalk}
use Rattle.iom_stepped_requests.specs.declared.walk.RequestWalk.TheVariants.{InDirectory, InTables}
use Rattle.iom_stepped_walk.proofs.LawLemmas.{table_walks_load}
use Rattle.iom_tlb.specs.Content.{Translations}
use Rattle.iom_tlb.specs.declared.space.Space.{Space}
use Rattle.iom_tlb.specs.declared.trans_cache.Translation.{Translation}
use Rattle.iom_walk_loads.specs.Directory.{directory_walk}
use Rattle.iom_walk_loads.specs.Loads.{Walk, Ends, ReadsEntry, ReadsContext, after_load}
use Rattle.iom_reach.specs.Scene.{PartialWalk, DirectoryWalk, HardwareScene, HasDevice}
use Rattle.iom_reach.specs.Transitions.{IsContinued, IsSoughtOn, Walked as InWalk}
use Rattle.iom_reach.specs.Ways.{MayFind, PartWay}
use Rattle.iom_hardware_ways.specs.Formats.{context_of, indices_from}
use Rattle.iom_hardware_ways.specs.Scenes.{scene_of}
use Rattle.iom_hardware_ways.proofs.ListLemmas.{contains_map, cons_cases, in_none, map_cases}
use Rattle.iom_hardware_ways.proofs.TranslationLemmas.{own_frame}
use Rattle.iom_hardware_ways.proofs.Turns.{Comes}
use Rattle.iom_reach.proofs.TransitionLemmas.{contains_head}
use Rattle.iom_stepped_ways.proofs.CacheLemmas.{IsFoundToKeep}
use Rattle.iom_stepped_ways.proofs.DirectoryLemmas.{GoesOnInDirectory, FindsInDirectory, StopsInDirectory, directory_load}
use Rattle.iom_stepped_ways.proofs.EntryLemmas.{are_read, entries_let_in, walks_with}
use Rattle.iom_stepped_ways.proofs.GrowLemmas.{walks_grow}
use Rattle.iom_stepped_ways.proofs.ReplyLemmas.{IsLetIn}
use Rattle.iom_stepped_ways.proofs.StageLemmas.{found_serves, found_walks}
use Rattle.iom_stepped_ways.proofs.TableLemmas.{table_ends, table_goes_on}
use Rattle.iom_stepped_ways.specs.Parts.{Rest, Part, IsWalkOf}
use Rattle.iom_stepped_ways.specs.Scenes.{Added, HasAdded, access_on, added_and, address_space, walk_in_page, walk_of_part, with_added}

-- a walk that stands in a page of the directory goes on, and nothing of it is kept
pub in_page : (frames : ℕ) (anew : Bool) (cached : Translations) (request : Request) (level page id : ℕ)
    → in_directory frames anew cached request (directory_walk level page id) ≡ Locates request anew (directory_walk level page id)
in_page frames anew cached request zero page id = refl
in_page frames anew cached request (suc level) page id = refl

keeps_none : (request : Request) (level page id : ℕ) → kept_in_directory request (directory_walk level page id) ≡ kept_as.Nothing
keeps_none request zero page id = refl
keeps_none request (suc level) page id = refl

pub no_answer : (frames : ℕ) (walk : RequestWalk) (answer : Answer) → stands frames walk ≡ Serves answer → ⊥
no_answer frames (InDirectory own anew walk) answer is = cc
no_answer frames (InTables own context translated walk) answer is = cc

-- what remains of a walk of tables begins with the load of an entry
no_context : (frames : ℕ) (walk : RequestWalk) (request : Request) (context : DeviceContext) (translated : Space) (address : ℕ) (next : Result DeviceContext Cause → Rest)
    → stands frames walk ≡ Translates request context translated (ReadsContext address next) → ⊥
no_context frames (InDirectory own anew walk) request context translated address next is = cc
no_context frames (InTables own found within walk) request context translated address next is =
    let (first, rest, loads) = table_walks_load frames walk in
    cc

module _ (trusted : ℕ → Bool) (parts : BoardParts) (a : Added) (own : Request) (plugged : HasDevice (with_added (scene_of trusted parts) a) own.device) where
  abbrev S : HardwareScene
  S = with_added (scene_of trusted parts) a

  abbrev frames : ℕ
  frames = length parts.memory

  abbrev cached : Translations
  cached = translations_of parts.iommu

  abbrev grown : Added → HardwareScene
  grown b = with_added (scene_of trusted parts) (added_and a b)

  abbrev walks_alone : List PartialWalk → Added
  walks_alone more = record { partial_walks = more; directory_walks = []; let_through = λ device. [] }

  abbrev search_alone : DirectoryWalk → Added
  search_alone walk = record { partial_walks = []; directory_walks = walk ∷ []; let_through = λ device. [] }

  -- THE REQUEST GOES ON: this is added to the scene, and this may be kept
  abbrev pub GoesOn : Remaining → RequestWalk → Type 0
  GoesOn remaining walk = (b : Added) × Comes S (grown b) × HasAdded frames (added_and a b) own (stands frames walk) × IsFoundToKeep (grown b) (kept parts.memory remaining)

  -- in the directory
  on_in_directory : (request : Request) (anew : Bool) (rest : Walk (Result DeviceContext Cause)) (id level page : ℕ) (walk : RequestWalk) → request ≡ own
      → rest ≡ directory_walk level page id → Contains a.directory_walks (walk_in_page request.device id level page)
      → GoesOnInDirectory parts.memory level page id → stands frames walk ≡ load parts.memory cached (Locates request anew rest)
      → GoesOn (Locates request anew rest) walk
  on_in_directory request anew rest id level page walk same is there (lower, next, loads, passes) stand =
      let on = ap (after_load parts.memory) is ∙ loads in
      let at = walk_in_page request.device id lower next in (
        search_alone at,
        walks_grow trusted parts a [] (at ∷ []) (λ part none. absurd (in_none part none))
            (λ other one. elim (cons_cases at [] other one) [
              | inl e ↦ subst (IsSoughtOn S) e (inr (page, indices_from level id, there, passes))
              | inr none ↦ absurd (in_none other none)
            ]),
        subst (HasAdded frames (added_and a (search_alone at)) own) (sym (stand ∙ ap (in_directory frames anew cached request) on ∙ in_page frames anew cached request lower next id))
            (same, (id, lower, next, refl, Contains-append_right a.directory_walks (at ∷ []) at (contains_head at []))),
        subst (IsFoundToKeep (grown (search_alone at))) (sym (ap (kept_in_directory request) on ∙ keeps_none request lower next id)) tt,
      )

  -- with its context
  on_in_tables : (request : Request) (anew : Bool) (rest : Walk (Result DeviceContext Cause)) (id level page : ℕ) (walk : RequestWalk) → request ≡ own
      → rest ≡ directory_walk level page id → Contains a.directory_walks (walk_in_page request.device id level page)
      → FindsInDirectory parts.memory level page id → stands frames walk ≡ load parts.memory cached (Locates request anew rest)
      → GoesOn (Locates request anew rest) walk
  on_in_tables request anew rest id level page walk same is there (context, finds, ends) stand =
      let on = ap (after_load parts.memory) is ∙ finds in
      let mine = subst (λ (r : Request). HasDevice S r.device) (sym same) plugged in
      let find : MayFind S request.device (context_of context) = (mine, inr (page, indices_from level id, there, ends)) in
      let (more, continues, has) = found_walks trusted parts a request context find walk (looked_up anew cached request context)
      (stand ∙ ap (in_directory frames anew cached request) on) in (
        walks_alone more,
        walks_grow trusted parts a more [] continues (λ other none. absurd (in_none other none)),
        subst (λ r. HasAdded frames (added_and a (walks_alone more)) r (stands frames walk)) same has,
        subst (IsFoundToKeep (grown (walks_alone more))) (sym (ap (kept_in_directory request) on))
            (mine, inr (page, indices_from level id, Contains-append_left a.directory_walks [] (walk_in_page request.device id level page) there, ends)),
      )

  -- in tables
  through_tables : (request : Request) (context : DeviceContext) (translated : Space) (rest : Rest) (list : List Part) (entries : List ℕ)
      (walk : RequestWalk) (now : Rest) → request ≡ own → IsWalkOf frames request.asked.kind rest list entries
      → ((part : Part) → Contains list part → Contains a.partial_walks (walk_of_part request.device (address_space translated) part))
      → after_load parts.memory rest ≡ now → stands frames walk ≡ in_tables request context translated now → GoesOn (Translates request context translated rest) walk
  through_tables request context translated rest list entries walk (Ends answer) same walks there loads stand =
      absurd (no_answer frames walk (answer_of answer) stand)
  through_tables request context translated rest list entries walk (ReadsContext address next) same walks there loads stand =
      absurd (no_context frames walk request context translated address next stand)
  through_tables request context translated rest list entries walk (ReadsEntry address next) same walks there loads stand =
      let (on, entries_then, still, passes, leads) = table_goes_on parts.memory frames request.asked.kind rest list entries address next walks loads in
      let kept_in = address_space translated in
      let more = map (walk_of_part request.device kept_in) on in
      let b = walks_with more request.device entries_then in (
        b,
        entries_let_in trusted parts a more request.device entries_then
            (λ part among.
            let (new, new_there, is) = map_cases (walk_of_part request.device kept_in) on part among in
            let (from, from_there, pass) = passes new new_there in
            subst (IsContinued S) is (
              from.table,
              from.steps_to,
              PartWay (Some request.device) (there from from_there),
              (λ device mine. inr (subst (λ d. Contains a.partial_walks (walk_of_part d kept_in from)) (some_same request.device device mine) (there from from_there))),
              pass,
            ))
            (λ frame within.
            let (part, leaf, among, leads_there, is, allowed) = leads frame within in
            (kept_in, part.table, part.steps_to, leaf, there part among, leads_there, is, allowed)),
        subst (HasAdded frames (added_and a b) own) (sym stand) (
          same,
          (
            on,
            entries_then,
            subst (λ r. IsWalkOf frames request.asked.kind r on entries_then) loads still,
            (λ part among. Contains-append_right a.partial_walks more (walk_of_part request.device kept_in part) (contains_map (walk_of_part request.device kept_in) on part among)),
            (λ frame within.
                Contains-append_right (a.let_through request.device) (b.let_through request.device) (access_on frame Read)
                (are_read request.device entries_then frame within)),
          ),
        ),
        subst (IsFoundToKeep (grown b)) (sym (ap (kept_in_tables request translated) loads)) tt,
      )
    where
      some_same : (one other : ℕ) → Some one ≡ Some other → one ≡ other
      some_same one other e = cc

  pub load_goes_on : (remaining : Remaining) (walk : RequestWalk) → HasAdded frames a own remaining → stands frames walk ≡ load parts.memory cached remaining → GoesOn remaining walk
  load_goes_on (Serves answer) walk has stand = absurd (no_answer frames walk answer stand)
  load_goes_on (Locates request anew rest) walk (same, (id, level, page, is, there)) stand = elim (directory_load parts.memory level page id) [
    | inl on ↦ on_in_directory request anew rest id level page walk same is there on stand
    | inr (inl finds) ↦ on_in_tables request anew rest id level page walk same is there finds stand
    | inr (inr (cause, stops)) ↦
        absurd (no_answer frames walk (Faults (plain cause)) (stand ∙ ap (in_directory frames anew cached request) (ap (after_load parts.memory) is ∙ stops)))
  ]
  load_goes_on (Translates request context translated rest) walk (same, (list, entries, walks, there, reads)) stand =
      through_tables request context translated rest list entries walk (after_load parts.memory rest) same walks there refl stand

  -- THE REQUEST HAS ITS ANSWER: it is let in where it has a translation, and this may be kept
  abbrev pub IsLetInBy : Answer → Type 0
  IsLetInBy answer = (t : Translation) → translation_by parts.memory own.asked.address own.asked.kind answer ≡ Ok t → IsLetIn (scene_of trusted parts) a own.device t.frame own.asked.kind

  abbrev pub EndsSo : Remaining → Answer → Type 0
  EndsSo remaining answer = IsFoundToKeep S (kept parts.memory remaining) × IsLetInBy answer

  -- it was served before
  let_through : (answer : Answer) → HasAdded frames a own (Serves answer) → IsLetInBy answer
  let_through AsItIs there t is =
      let (frame, right) = own_frame parts.memory own.asked.address own.asked.kind t (sym is) in
      inr (subst (λ n. Contains (a.let_through own.device) (access_on n own.asked.kind)) (sym frame) there)
  let_through (Cached translation) there t is =
      let same : translation ≡ t = cc in inr (subst (λ (x : Translation). Contains (a.let_through own.device) (access_on x.frame own.asked.kind)) same there)
  let_through (Reaches walked) there t is =
      let same : translation_of walked ≡ t = cc in inr (subst (λ (x : Translation). Contains (a.let_through own.device) (access_on x.frame own.asked.kind)) same there)
  let_through (Faults fault) there t is = let no : ⊥ = cc in absurd no

  serves_same : (one other : Answer) → Serves one ≡ Serves other → other ≡ one
  serves_same one other e = cc

  -- its way through the directory ends
  ends_at_context : (request : Request) (anew : Bool) (rest : Walk (Result DeviceContext Cause)) (id level page : ℕ) (answer : Answer) → request ≡ own
      → rest ≡ directory_walk level page id → Contains a.directory_walks (walk_in_page request.device id level page)
      → FindsInDirectory parts.memory level page id → Serves answer ≡ load parts.memory cached (Locates request anew rest)
      → EndsSo (Locates request anew rest) answer
  ends_at_context request anew rest id level page answer same is there (context, finds, ends) serves =
      let on = ap (after_load parts.memory) is ∙ finds in
      let mine = subst (λ (r : Request). HasDevice S r.device) (sym same) plugged in
      let find : MayFind S request.device (context_of context) = (mine, inr (page, indices_from level id, there, ends)) in (
        subst (IsFoundToKeep S) (sym (ap (kept_in_directory request) on)) (mine, inr (page, indices_from level id, there, ends)),
        subst (λ (r : Request). (t : Translation) → translation_by parts.memory r.asked.address r.asked.kind answer ≡ Ok t → IsLetIn (scene_of trusted parts) a r.device t.frame r.asked.kind) same
            (λ t reply. inl (found_serves trusted parts a request context find anew answer (serves ∙ ap (in_directory frames anew cached request) on) t reply)),
      )

  ends_in_directory : (request : Request) (anew : Bool) (rest : Walk (Result DeviceContext Cause)) (id level page : ℕ) (answer : Answer)
      → rest ≡ directory_walk level page id → StopsInDirectory parts.memory level page id
      → Serves answer ≡ load parts.memory cached (Locates request anew rest) → EndsSo (Locates request anew rest) answer
  ends_in_directory request anew rest id level page answer is (cause, stops) serves =
      let on = ap (after_load parts.memory) is ∙ stops in
      let same = serves_same (Faults (plain cause)) answer (sym (serves ∙ ap (in_directory frames anew cached request) on)) in (
        subst (IsFoundToKeep S) (sym (ap (kept_in_directory request) on)) tt,
        subst IsLetInBy (sym same) (λ t reply. let no : ⊥ = cc in absurd no),
      )

  same_page : (walked : Walked) (t : Translation) → ◌≡◌ {A = Result Translation WalkFault} (Ok (translation_of walked)) (Ok t) → translation_of walked ≡ t
  same_page walked t is = cc

  -- its walk of tables ends
  ends_in_tables : (request : Request) (context : DeviceContext) (translated : Space) (rest : Rest) (list : List Part) (entries : List ℕ)
      (answer : Answer) (now : Rest) → request ≡ own → IsWalkOf frames request.asked.kind rest list entries
      → ((part : Part) → Contains list part → Contains a.partial_walks (walk_of_part request.device (address_space translated) part))
      → after_load parts.memory rest ≡ now → Serves answer ≡ in_tables request context translated now → EndsSo (Translates request context translated rest) answer
  ends_in_tables request context translated rest list entries answer (ReadsContext address next) same walks there loads serves = let no : ⊥ = cc in absurd no
  ends_in_tables request context translated rest list entries answer (ReadsEntry address next) same walks there loads serves = let no : ⊥ = cc in absurd no
  ends_in_tables request context translated rest list entries answer (Ends (Err fault)) same walks there loads serves = (
    subst (IsFoundToKeep S) (sym (ap (kept_in_tables request translated) loads)) tt,
    subst IsLetInBy (sym (serves_same (Faults fault) answer (sym serves))) (λ t reply. let no : ⊥ = cc in absurd no),
  )
  ends_in_tables request context translated rest list entries answer (Ends (Ok walked)) same walks there loads serves =
      let (part, leaf, among, leads, frame, rights, right) = table_ends parts.memory frames request.asked.kind rest list entries walked walks loads in
      let kept_in = address_space translated in (
        subst (IsFoundToKeep S) (sym (ap (kept_in_tables request translated) loads))
            (part.table, part.steps_to, PartWay (Some request.device) (there part among), (leaf, leads, frame, rights)),
        subst IsLetInBy (sym (serves_same (Reaches walked) answer (sym serves)))
            (subst (λ (r : Request). (t : Translation) → ◌≡◌ {A = Result Translation WalkFault} (Ok (translation_of walked)) (Ok t) → IsLetIn (scene_of trusted parts) a r.device t.frame r.asked.kind) same
            (λ t reply. inl (InWalk kept_in part.table part.steps_to leaf (there part among) (leaf, leads, refl, (λ k allowed. allowed))
            (sym frame ∙ ap (λ (x : Translation). x.frame) (same_page walked t reply), right)))),
      )

  pub load_ends : (remaining : Remaining) (answer : Answer) → HasAdded frames a own remaining → Serves answer ≡ load parts.memory cached remaining → EndsSo remaining answer
  load_ends (Serves before) answer has serves = (tt, subst IsLetInBy (sym (serves_same before answer (sym serves))) (let_through before has))
  load_ends (Locates request anew rest) answer (same, (id, level, page, is, there)) serves = elim (directory_load parts.memory level page id) [
    | inl (lower, next, loads, passes) ↦
        let on = serves ∙ ap (in_directory frames anew cached request) (ap (after_load parts.memory) is ∙ loads) ∙ in_page frames anew cached request lower next id in
        let no : ⊥ = cc in absurd no
    | inr (inl finds) ↦ ends_at_context request anew rest id level page answer same is there finds serves
    | inr (inr stops) ↦ ends_in_directory request anew rest id level page answer is stops serves
  ]
  load_ends (Translates request context translated rest) answer (same, (list, entries, walks, there, reads)) serves =
      ends_in_tables request context translated rest list entries answer (after_load parts.memory rest) same walks there refl serves
