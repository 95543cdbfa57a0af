-- A request that begins, or begins anew: it is served at once, or what remains of it is added.
use Rattle.std.proofs.Common.{◌≡◌, ◌∙◌, inl, inr, ℕ, Bool, true, false, [], ◌∷◌, length, Option, None, Some, option_map, Ok, if◌then◌else◌, refl, sym, ap, subst}
use Rattle.std.proofs.lemmas.List.Elements.{Contains-append_right}
use Rattle.iom_base.specs.declared.cause.Cause.TheVariants.{AllInboundDisallowed}
use Rattle.iom_board.specs.BoardParts.{BoardParts}
use Rattle.iom_device_dir.specs.Paths.{fits_directory}
use Rattle.iom_device_dir.specs.declared.context.Context.{Context as DeviceContext}
use Rattle.iom_iommu.specs.Parts.{registers_of, contexts_of, translations_of}
use Rattle.iom_iommu.specs.Stepped.{translation_by}
use Rattle.iom_registers.specs.declared.directory.DirectoryMode.{DirectoryMode}
use Rattle.iom_registers.specs.declared.directory.DirectoryMode.TheVariants as mode
use Rattle.iom_registers.specs.declared.directory.DirectoryPointer.{DirectoryPointer}
use Rattle.iom_stage_walk.specs.Both.{plain}
use Rattle.iom_stage_walk.specs.declared.walked.WalkFault.{WalkFault}
use Rattle.iom_stepped_requests.specs.Serving.{Remaining, Serves, begin, in_directory, looked_up, served_or, way_to_context, without_directory}
use Rattle.iom_stepped_requests.specs.Standing.{stands}
use Rattle.iom_stepped_requests.specs.declared.request.Answer.{Answer}
use Rattle.iom_stepped_requests.specs.declared.request.Answer.TheVariants.{Faults}
use Rattle.iom_stepped_requests.specs.declared.request.Request.{Request}
use Rattle.iom_stepped_requests.specs.declared.walk.RequestWalk.{RequestWalk}
use Rattle.iom_tlb.specs.Content.{Translations}
use Rattle.iom_tlb.specs.declared.trans_cache.Translation.{Translation}
use Rattle.iom_walk_loads.specs.Directory.{locating}
use Rattle.iom_walk_loads.specs.Loads.{Ends}
use Rattle.iom_reach.proofs.TransitionLemmas.{contains_head}
use Rattle.iom_reach.proofs.WalkLemmas.{passes_here}
use Rattle.iom_reach.specs.Memory.{Tables, Passes}
use Rattle.iom_reach.specs.Scene.{At, DirectoryWalk, HardwareScene, HasDevice}
use Rattle.iom_reach.specs.Transitions.{IsAdmitted, IsSoughtOn, InModeBare}
use Rattle.iom_reach.specs.Ways.{MayFind}
use Rattle.iom_hardware_ways.specs.Formats.{context_of, context_format, indices_from}
use Rattle.iom_hardware_ways.specs.Scenes.{directory_by, scene_of}
use Rattle.iom_hardware_ways.proofs.ListLemmas.{cons_cases, in_none}
use Rattle.iom_hardware_ways.proofs.Turns.{Comes}
use Rattle.iom_stepped_ways.proofs.DirectoryLemmas.{BeginsInDirectory, directory_begins}
use Rattle.iom_stepped_ways.proofs.GrowLemmas.{walks_grow}
use Rattle.iom_stepped_ways.proofs.LoadLemmas.{in_page, no_answer}
use Rattle.iom_stepped_ways.proofs.StageLemmas.{found_serves, found_walks}
use Rattle.iom_stepped_ways.specs.Scenes.{Added, HasAdded, added_and, walk_in_page, with_added}

-- where there is a directory, its root is there
pub directory_there : (m : DirectoryMode) (root : ℕ) → without_directory m ≡ None → (tables : Tables) × (directory_by m root ≡ At tables)
directory_there mode.Off root is = let no : ⊥ = cc in absurd no
directory_there mode.Bare root is = let no : ⊥ = cc in absurd no
directory_there mode.OneLevel root is = (record { root = root; levels = 1 }, refl)
directory_there mode.TwoLevels root is = (record { root = root; levels = 2 }, refl)
directory_there mode.ThreeLevels root is = (record { root = root; levels = 3 }, refl)

module _ (trusted : ℕ → Bool) (parts : BoardParts) (a : Added) (request : Request) (plugged : HasDevice (with_added (scene_of trusted parts) a) request.device) where
  abbrev S : HardwareScene
  S = with_added (scene_of trusted parts) a

  abbrev frames : ℕ
  frames = length parts.memory

  abbrev ddtp : DirectoryPointer
  ddtp = (registers_of parts.iommu).ddtp

  abbrev search_alone : DirectoryWalk → Added
  search_alone walk = record { partial_walks = []; directory_walks = walk ∷ []; let_through = λ device. [] }

  -- the scene comes to have what remains of it
  abbrev pub IsAdded : Remaining → Type 0
  IsAdded remaining = (b : Added) × Comes S (with_added (scene_of trusted parts) (added_and a b)) × HasAdded frames (added_and a b) request remaining

  -- IN THE DIRECTORY
  pub search_begins : (anew : Bool) (remaining : Remaining) (cached : Translations) → BeginsInDirectory ddtp.mode ddtp.ppn request.device
      → remaining ≡ in_directory frames anew cached request (locating ddtp request.device) → IsAdded remaining
  search_begins anew remaining cached (level, tables, is, at, root, steps) begun =
      let walk = walk_in_page request.device request.device level ddtp.ppn in
      let here : Passes context_format S.memory tables.root (S.formats.steps_of tables.levels request.device) ddtp.ppn (indices_from level request.device) =
      subst (λ list. Passes context_format S.memory tables.root list ddtp.ppn (indices_from level request.device)) (sym steps)
      (subst (λ r. Passes context_format S.memory r (indices_from level request.device) ddtp.ppn (indices_from level request.device)) (sym root)
      (passes_here context_format S.memory ddtp.ppn (indices_from level request.device))) in (
        search_alone walk,
        walks_grow trusted parts a [] (walk ∷ []) (λ part none. absurd (in_none part none))
            (λ other one. elim (cons_cases walk [] other one) [
              | inl e ↦ subst (IsSoughtOn S) e (inl (plugged, (tables, at, here)))
              | inr none ↦ absurd (in_none other none)
            ]),
        subst (HasAdded frames (added_and a (search_alone walk)) request) (sym (begun ∙ ap (in_directory frames anew cached request) is ∙ in_page frames anew cached request level ddtp.ppn request.device))
            (refl, (request.device, level, ddtp.ppn, refl, Contains-append_right a.directory_walks (walk ∷ []) walk (contains_head walk []))),
      )

  -- WITH A CACHED CONTEXT
  cached_found : (context : DeviceContext) → without_directory ddtp.mode ≡ None → fits_directory ddtp.mode request.device ≡ true → contexts_of parts.iommu request.device ≡ Some context
      → MayFind S request.device (context_of context)
  cached_found context directory fits there = (
    plugged,
    inl (
      directory_there ddtp.mode ddtp.ppn directory,
      inl (ap (λ (b : Bool). if b then option_map context_of (contexts_of parts.iommu request.device) else None) fits ∙ ap (option_map context_of) there),
    ),
  )

  -- A REQUEST THAT BEGINS is under way
  walks_by : (walk : RequestWalk) (context : Option DeviceContext) (fits : Bool) → contexts_of parts.iommu request.device ≡ context → fits_directory ddtp.mode request.device ≡ fits
      → without_directory ddtp.mode ≡ None
      → stands frames walk ≡ in_directory frames false (translations_of parts.iommu) request (way_to_context ddtp context request.device) → IsAdded (stands frames walk)
  walks_by walk (Some context) true there fits directory stand =
      let on = stand ∙ ap (λ (b : Bool). in_directory frames false (translations_of parts.iommu) request (if b then Ends (Ok context) else locating ddtp request.device)) fits in
      let (more, continues, has) = found_walks trusted parts a request context (cached_found context directory fits there) walk (looked_up false (translations_of parts.iommu) request context) on in
      (record { partial_walks = more; directory_walks = []; let_through = λ device. [] }, walks_grow trusted parts a more [] continues (λ other none. absurd (in_none other none)), has)
  walks_by walk (Some context) false there fits directory stand =
      searches walk (stand ∙ ap (λ (b : Bool). in_directory frames false (translations_of parts.iommu) request (if b then Ends (Ok context) else locating ddtp request.device)) fits)
    where
      searches : (w : RequestWalk) → stands frames w ≡ in_directory frames false (translations_of parts.iommu) request (locating ddtp request.device) → IsAdded (stands frames w)
      searches w begun = elim (directory_begins ddtp.mode ddtp.ppn request.device) [
        | inl begins ↦ search_begins false (stands frames w) (translations_of parts.iommu) begins begun
        | inr (cause, stops) ↦ absurd (no_answer frames w (Faults (plain cause)) (begun ∙ ap (in_directory frames false (translations_of parts.iommu) request) stops))
      ]
  walks_by walk None fits there fit directory stand = elim (directory_begins ddtp.mode ddtp.ppn request.device) [
    | inl begins ↦ search_begins false (stands frames walk) (translations_of parts.iommu) begins stand
    | inr (cause, stops) ↦ absurd (no_answer frames walk (Faults (plain cause)) (stand ∙ ap (in_directory frames false (translations_of parts.iommu) request) stops))
  ]

  pub begins_walk : (walk : RequestWalk) → stands frames walk ≡ begin frames ddtp (contexts_of parts.iommu request.device) (translations_of parts.iommu) request → IsAdded (stands frames walk)
  begins_walk walk stand = by (without_directory ddtp.mode) refl
    where
      on : Remaining
      on = in_directory frames false (translations_of parts.iommu) request (way_to_context ddtp (contexts_of parts.iommu request.device) request.device)

      by : (without : Option Answer) → without_directory ddtp.mode ≡ without → IsAdded (stands frames walk)
      by (Some answer) is = absurd (no_answer frames walk answer (stand ∙ ap (λ o. served_or o on) is))
      by None is =
          walks_by walk (contexts_of parts.iommu request.device) (fits_directory ddtp.mode request.device) refl refl is (stand ∙ ap (λ o. served_or o on) is)

  -- IT IS SERVED AT ONCE
  abbrev pub IsAdmittedBy : Answer → Type 0
  IsAdmittedBy answer = (t : Translation) → translation_by parts.memory request.asked.address request.asked.kind answer ≡ Ok t → IsAdmitted S request.device t.frame request.asked.kind

  faults_by : (fault : WalkFault) (answer : Answer) → Serves answer ≡ Serves (Faults fault) → IsAdmittedBy answer
  faults_by fault answer serves t reply =
      let same : answer ≡ Faults fault = cc in
      let own = subst (λ x. translation_by parts.memory request.asked.address request.asked.kind x ≡ Ok t) same reply in
      let no : ⊥ = cc in absurd no

  without : (m : DirectoryMode) (answer other : Answer) → ddtp.mode ≡ m → without_directory m ≡ Some other → Serves answer ≡ Serves other → IsAdmittedBy answer
  without mode.Off answer other is some serves =
      let same : Faults (plain AllInboundDisallowed) ≡ other = cc in faults_by (plain AllInboundDisallowed) answer (serves ∙ ap Serves (sym same))
  without mode.Bare answer other is some serves =
      λ t reply. InModeBare plugged (ap (λ m. directory_by m ddtp.ppn) is)
  without mode.OneLevel answer other is some serves = let no : ⊥ = cc in absurd no
  without mode.TwoLevels answer other is some serves = let no : ⊥ = cc in absurd no
  without mode.ThreeLevels answer other is some serves = let no : ⊥ = cc in absurd no

  not_found : (answer : Answer) → Serves answer ≡ in_directory frames false (translations_of parts.iommu) request (locating ddtp request.device) → IsAdmittedBy answer
  not_found answer serves = elim (directory_begins ddtp.mode ddtp.ppn request.device) [
    | inl (level, tables, is, at, root, steps) ↦
        let on = serves ∙ ap (in_directory frames false (translations_of parts.iommu) request) is ∙ in_page frames false (translations_of parts.iommu) request level ddtp.ppn request.device in
        let no : ⊥ = cc in absurd no
    | inr (cause, stops) ↦ faults_by (plain cause) answer (serves ∙ ap (in_directory frames false (translations_of parts.iommu) request) stops)
  ]

  serves_by : (answer : Answer) (context : Option DeviceContext) (fits : Bool) → contexts_of parts.iommu request.device ≡ context → fits_directory ddtp.mode request.device ≡ fits
      → without_directory ddtp.mode ≡ None
      → Serves answer ≡ in_directory frames false (translations_of parts.iommu) request (way_to_context ddtp context request.device) → IsAdmittedBy answer
  serves_by answer (Some context) true there fits directory serves =
      found_serves trusted parts a request context (cached_found context directory fits there) false answer
      (serves ∙ ap (λ (b : Bool). in_directory frames false (translations_of parts.iommu) request (if b then Ends (Ok context) else locating ddtp request.device)) fits)
  serves_by answer (Some context) false there fits directory serves =
      not_found answer (serves ∙ ap (λ (b : Bool). in_directory frames false (translations_of parts.iommu) request (if b then Ends (Ok context) else locating ddtp request.device)) fits)
  serves_by answer None fits there fit directory serves = not_found answer serves

  pub served_at_once : (answer : Answer) → Serves answer ≡ begin frames ddtp (contexts_of parts.iommu request.device) (translations_of parts.iommu) request → IsAdmittedBy answer
  served_at_once answer serves = by (without_directory ddtp.mode) refl
    where
      on : Remaining
      on = in_directory frames false (translations_of parts.iommu) request (way_to_context ddtp (contexts_of parts.iommu request.device) request.device)

      by : (o : Option Answer) → without_directory ddtp.mode ≡ o → IsAdmittedBy answer
      by (Some other) is = without ddtp.mode answer other refl is (serves ∙ ap (λ o. served_or o on) is)
      by None is = serves_by answer (contexts_of parts.iommu request.device) (fits_directory ddtp.mode request.device) refl refl is (serves ∙ ap (λ o. served_or o on) is)
