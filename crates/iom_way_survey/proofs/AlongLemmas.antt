-- A look along pointers to tables misses none of the ways by them, and none of the tables that they lead to, and invents none.
use Rattle.std.proofs.Common.{◌≡◌, ◌⊎◌, ◌∙◌, inl, inr, ℕ, zero, suc, ◌*◌, ◌/◌, ◌%◌, ◌+◌, ◌<◌, ◌==◌, Bool, true, false, ◌&&◌, List, [], ◌∷◌, slice_get, Option, None, Some, option_map, Result, Ok, Err, if◌then◌else◌, subst, refl, sym, ap, arith}
use Rattle.std.specs.List.{find}
use Rattle.std.proofs.lemmas.Bool.{false≢true}
use Rattle.std.proofs.lemmas.Bool.Decides.{eqb_tells}
use Rattle.iom_base.specs.declared.access.AccessKind.{AccessKind}
use Rattle.iom_base.specs.declared.cause.Cause.{Cause}
use Rattle.iom_base.specs.declared.device_kind.DeviceKind.{DeviceKind}
use Rattle.iom_base.specs.declared.size.Size.TheVariants.{Sv39}
use Rattle.iom_board.specs.BoardParts.{BoardParts}
use Rattle.iom_device.specs.Caches.{kind_in}
use Rattle.iom_device.specs.declared.device.Device.{Device}
use Rattle.iom_device_dir.specs.Located.{located_by_mode}
use Rattle.iom_device_dir.specs.Paths.{fits_directory}
use Rattle.iom_device_dir.specs.declared.context.Context.{Context as DeviceContext}
use Rattle.iom_hardware_ways.proofs.FormatLemmas.{located_in}
use Rattle.iom_hardware_ways.proofs.ListLemmas.{get_contains, in_none}
use Rattle.iom_hardware_ways.proofs.PageIndices.{sizes_have_indices}
use Rattle.iom_hardware_ways.proofs.NapotLemmas.{reads_more}
use Rattle.iom_hardware_ways.specs.Formats.{context_of, entry_format, format_of, steps_in}
use Rattle.iom_hardware_ways.specs.Laws.{AreIndices, PagesAreIndices}
use Rattle.iom_hardware_ways.specs.Scenes.{ats_kind, cached_space, directory_by, scene_of}
use Rattle.iom_iommu.specs.Parts.{registers_of, contexts_of}
use Rattle.iom_pointer_ways.specs.Laws.{LeadsByPointer, PointersAddTheirTables, PointersAddTheirWays, ReadsByPointer}
use Rattle.iom_pointer_ways.specs.Scenes.{pointed_scene, widths_below}
use Rattle.iom_pointers.specs.declared.pointer.Pointer.{Pointer}
use Rattle.iom_reach.proofs.WiderLemmas.{begins_narrower, begins_wider, ends_wider, reads_no_more, reads_wider}
use Rattle.iom_reach.specs.Memory.{Tables, WalkStep}
use Rattle.iom_reach.specs.Safe.{IsOfTables, IsRead}
use Rattle.iom_reach.specs.Scene.{AddressSpace, First as InFirst, Second as InSecond, Both as InBoth, At, AtsKind, Context, HardwareScene, HasDevice, Mapping, reading}
use Rattle.iom_reach.specs.Ways.{Accepted, AnyFrame, AtRoot, ByAts, ByContext, LeadsToMapping, MayFind, OnTheWalk, PartWay, ServesKind, Through, Translated, Untranslated, Way, space_of, tables_of}
use Rattle.iom_registers.specs.Queues.{directory_root}
use Rattle.iom_registers.specs.declared.directory.DirectoryMode.{DirectoryMode}
use Rattle.iom_registers.specs.declared.directory.DirectoryMode.TheVariants as mode
use Rattle.iom_stage_walk.specs.Paths.{path_of}
use Rattle.iom_stepped_ways.specs.Scenes.{address_space, stepped_scene}
use Rattle.iom_table_survey.specs.Reaches.{frames_by}
use Rattle.iom_table_survey.specs.Rows.{frame_place, row_has}
use Rattle.iom_tlb.specs.declared.space.Space.{Space}
use Rattle.iom_walks.specs.Invariant.{AreWalks}
use Rattle.iom_walks.specs.Walks.{WalkRow}
use Rattle.iom_way_survey.specs.Along.{HasRowOfEach, HasSpace, IsMappedAlong, IsPlugged, IsReachedAlongSome, IsReachedBeside, IsReachedFound, IsReachedOfSome, IsTableAlong, IsTableAlongSome, IsTableBeside, IsTableFound, IsTableOfSome, LooksAlong, RowGrows, RowsGrow, SharesSpace}
use Rattle.iom_way_survey.specs.Found.{Finds, FoundLeafIn, FoundTableIn, HaveLeafIn, HaveTableIn, cached_found, has_directory, mode_in, space_of_context, stored_found}
use Rattle.iom_way_survey.specs.Laws.{IsLedTo, IsReadBelow, ArePlugged, formats_of}
use Rattle.iom_way_survey.specs.Surveys.{AreRowsOf, InventsNone, IsReachedAs, IsReadAs, Surveys, TellsTrust, reach_in, reaches_in_rows}
use Rattle.iom_way_survey.specs.Walking.{found_of}
use Rattle.iom_way_survey.specs.declared.findings.DeviceReach.{DeviceReach}
use Rattle.iom_way_survey.specs.declared.findings.Survey.{Survey}
use Rattle.iom_way_survey.proofs.BackLemmas.{found_with, has, leaf_leads, may_find, table_reads}
use Rattle.iom_way_survey.proofs.BesideLemmas.{no_walks}
use Rattle.iom_way_survey.proofs.LookLemmas.{same_place}
use Rattle.iom_way_survey.proofs.TreeLemmas.{levels_are_walks}
use Rattle.iom_way_survey.proofs.UnderWayLemmas.{space_named_back}
use Rattle.iom_way_survey.proofs.WayLemmas.{contains_get, device_place, found_in, leads_leaf, none_is_some, plugged, space_named, spaces_by}

-- TABLES OF ONE FRAME EACH: the pages of a table of level 0, 1 or 2 are its indices

in_one : (is : List ℕ) → AreIndices (512 ∷ []) is → (page : ℕ) × (path_of (512 ∷ []) page ≡ is)
in_one [] never = absurd never
in_one (a ∷ []) (la, done) = (a, ap (λ i. i ∷ []) (omega (arith, la)))
in_one (a ∷ more ∷ rest) (la, never) = absurd never

two : (a b c d : ℕ) → a ≡ c → b ≡ d → a ∷ b ∷ [] ≡ c ∷ d ∷ []
two a b c d i j = rw (i, j) refl

in_two : (is : List ℕ) → AreIndices (512 ∷ 512 ∷ []) is → (page : ℕ) × (path_of (512 ∷ 512 ∷ []) page ≡ is)
in_two [] never = absurd never
in_two (a ∷ []) (la, never) = absurd never
in_two (a ∷ b ∷ []) (la, (lb, done)) =
    (a * 512 + b, two ((a * 512 + b) / 512 % 512) ((a * 512 + b) / 1 % 512) a b (omega (arith, la, lb)) (omega (arith, la, lb)))
in_two (a ∷ b ∷ more ∷ rest) (la, (lb, never)) = absurd never

tables_have_indices : (level : ℕ) → level < 3 → PagesAreIndices (widths_below level)
tables_have_indices zero low = (λ page. (omega arith, tt), in_one)
tables_have_indices (suc zero) low = (λ page. (omega arith, (omega arith, tt)), in_two)
tables_have_indices (suc (suc zero)) low = (sizes_have_indices Sv39).0
tables_have_indices (suc (suc (suc more))) low = absurd (omega (arith, low))

-- so what is looked at along a pointer is what walks from there read, and lead to
module _ (napot : Bool) (memory : List (List ℕ)) (pointer : Pointer) where
  abbrev widths : List ℕ
  widths = widths_below pointer.level

  led_along : (kind : AccessKind) (frame : ℕ) → IsMappedAlong napot memory pointer kind frame → IsLedTo napot memory pointer.table.number widths kind frame
  led_along kind frame mapped = ((levels_are_walks napot memory pointer.table.number 1 pointer.level (tables_have_indices pointer.level pointer.in_range)).1 kind frame).0 mapped

  mapped_along : (kind : AccessKind) (frame : ℕ) → IsLedTo napot memory pointer.table.number widths kind frame → IsMappedAlong napot memory pointer kind frame
  mapped_along kind frame led = ((levels_are_walks napot memory pointer.table.number 1 pointer.level (tables_have_indices pointer.level pointer.in_range)).1 kind frame).1 led

  read_along : (frame : ℕ) → IsTableAlong napot memory pointer frame → IsReadBelow napot memory pointer.table.number widths frame
  read_along frame table = ((levels_are_walks napot memory pointer.table.number 1 pointer.level (tables_have_indices pointer.level pointer.in_range)).0 frame).0 table

  table_along : (frame : ℕ) → IsReadBelow napot memory pointer.table.number widths frame → IsTableAlong napot memory pointer frame
  table_along frame reads = ((levels_are_walks napot memory pointer.table.number 1 pointer.level (tables_have_indices pointer.level pointer.in_range)).0 frame).1 reads

-- WHO FINDS A CONTEXT OF THE SPACE

-- an address space is known by the key under which it is cached
name_known : (known : AddressSpace) (own : Space) → cached_space known ≡ own → known ≡ address_space own
name_known (InFirst pscid) own is = ap address_space is
name_known (InSecond gscid) own is = ap address_space is
name_known (InBoth gscid pscid) own is = ap address_space is

known_space : (found : Option AddressSpace) (own : Space) → option_map cached_space found ≡ Some own → found ≡ Some (address_space own)
known_space None own is = absurd (none_is_some own is)
known_space (Some known) own is = let same : cached_space known ≡ own = cc in ap (λ s. Some s) (name_known known own same)

none_plugged : (parts : BoardParts) → ArePlugged parts []
none_plugged parts id own is = absurd (none_is_some own is)

has_space_by : (found : Option DeviceContext) (context : DeviceContext) (own : Space) → found ≡ Some context → space_of_context context ≡ Some own → HasSpace found own
has_space_by found context own is has = subst (λ (o : Option DeviceContext). HasSpace o own) (sym is) has

context_with : (found : Option DeviceContext) (own : Space) → HasSpace found own → (context : DeviceContext) × (found ≡ Some context) × (space_of_context context ≡ Some own)
context_with None own never = absurd never
context_with (Some context) own has = (context, refl, has)

kind_there : (found : Option DeviceKind) (kind : AtsKind) → option_map ats_kind found ≡ Some kind → (own : DeviceKind) × (found ≡ Some own)
kind_there None kind is = absurd (none_is_some kind is)
kind_there (Some own) kind is = (own, refl)

located_ok : (result : Result DeviceContext Cause) (context : DeviceContext) → found_of result ≡ Some context → result ≡ Ok context
located_ok (Ok own) context is = let same : own ≡ context = cc in ap (λ c. Ok c) same
located_ok (Err cause) context is = absurd (none_is_some context is)

-- a context that is cached: there is a directory, and the id isn't too wide for it
found_where : (some fits : Bool) (cached : Option DeviceContext) (context : DeviceContext) → (if some && fits then cached else None) ≡ Some context
    → (some ≡ true) × ((fits ≡ true) × (cached ≡ Some context))
found_where true true cached context is = (refl, (refl, is))
found_where true false cached context is = absurd (none_is_some context is)
found_where false fits cached context is = absurd (none_is_some context is)

names_tables : (m : DirectoryMode) (root : ℕ) → has_directory m ≡ true → (tables : Tables) × (directory_by m root ≡ At tables)
names_tables mode.Off root is = absurd (false≢true is)
names_tables mode.Bare root is = absurd (false≢true is)
names_tables mode.OneLevel root is = (record { root = root; levels = 1 }, refl)
names_tables mode.TwoLevels root is = (record { root = root; levels = 2 }, refl)
names_tables mode.ThreeLevels root is = (record { root = root; levels = 3 }, refl)

module _ (trusted : ℕ → Bool) (parts : BoardParts) where
  abbrev S : HardwareScene
  S = scene_of trusted parts

  shares_by : (id : ℕ) (context : Context) (own : Space) → MayFind S id context → space_of context.stages ≡ Some (address_space own) → SharesSpace parts own id
  shares_by id context own may is =
      let (found, finds, same) = found_in trusted parts [] no_walks (none_plugged parts) id context may in
      let has : space_of_context found ≡ Some own = space_named found (address_space own) (ap (λ (c : Context). space_of c.stages) same ∙ is) ∙ ap (λ s. Some s) (space_named_back own) in
      (kind_there (kind_in parts.devices id) may.0.0 may.0.1, by found has finds)
    where
      by : (found : DeviceContext) → space_of_context found ≡ Some own → Finds parts [] id found → HasSpace (cached_found parts id) own ⊎ HasSpace (stored_found parts id) own
      by found has (inl (inl cached)) = inl (has_space_by (cached_found parts id) found own cached has)
      by found has (inl (inr stored)) = inr (has_space_by (stored_found parts id) found own stored has)
      by found has (inr sought) = absurd (none_is_some found sought)

  plugged_in : (id : ℕ) → IsPlugged parts id → HasDevice S id
  plugged_in id (kind, is) = (ats_kind kind, ap (option_map ats_kind) is)

  -- such a context, as the scene has it
  abbrev FindsSpace : Space → ℕ → Type 0
  FindsSpace own id = (context : Context) × MayFind S id context × (space_of context.stages ≡ Some (address_space own))

  space_known : (context : DeviceContext) (own : Space) → space_of_context context ≡ Some own → space_of (context_of context).stages ≡ Some (address_space own)
  space_known context own has = known_space (space_of (context_of context).stages) own (spaces_by context.first_stage context.second_stage context ∙ has)

  finds_by_space : (id : ℕ) (own : Space) → SharesSpace parts own id → FindsSpace own id
  finds_by_space id own (plug, inl cached) =
      let (context, is, has) = context_with (cached_found parts id) own cached in
      let (some, (fits, kept)) = found_where (has_directory (mode_in parts)) (fits_directory (mode_in parts) id) (contexts_of parts.iommu id) context is in (
        context_of context,
        (
          plugged_in id plug,
          inl (
            names_tables (mode_in parts) (directory_root (registers_of parts.iommu)) some,
            inl (ap (λ (b : Bool). if b then option_map context_of (contexts_of parts.iommu id) else None) fits ∙ ap (option_map context_of) kept),
          ),
        ),
        space_known context own has,
      )
  finds_by_space id own (plug, inr stored) =
      let (context, is, has) = context_with (stored_found parts id) own stored in
      let (tables, at, ends) = located_in (mode_in parts) parts.memory (directory_root (registers_of parts.iommu)) id context
      (located_ok (located_by_mode (mode_in parts) parts.memory (directory_root (registers_of parts.iommu)) id) context is) in
      (context_of context, (plugged_in id plug, inl ((tables, at), inr (tables, at, ends))), space_known context own has)

  -- the same hardware, of which walks know leaves of 64 KiB, or don't
  abbrev Read : Bool → HardwareScene
  Read napot = reading (format_of napot) S

  -- WAYS AND TABLES FROM CONTEXTS

  abbrev Leads : ℕ → (ℕ → List WalkStep) → Mapping → Type 0
  Leads table steps_to mapping = LeadsToMapping (formats_of true) (slice_get parts.memory) table steps_to mapping

  -- a context's tables map a frame to which a walk from their root leads
  leaf_of_context : (found : DeviceContext) (tables : Tables) (table frame : ℕ) (kind : AccessKind) (steps_to : ℕ → List WalkStep) (mapping : Mapping)
      → tables_of (context_of found).stages ≡ Some tables → tables.root ≡ table → steps_to ≡ steps_in (context_of found).stages
      → Leads table steps_to mapping → ServesKind mapping frame kind → HaveLeafIn true parts.memory found.first_stage found.second_stage kind frame
  leaf_of_context found tables table frame kind steps_to mapping decide root all leads serves =
      leads_leaf true parts.memory found.first_stage found.second_stage found.gscid found.pscid.number kind frame (
        tables,
        mapping,
        decide,
        (
          subst (λ (to : ℕ → List WalkStep). Leads tables.root to mapping) all (subst (λ (r : ℕ). Leads r steps_to mapping) (sym root) leads),
          serves,
        ),
      )

  reached_found : (found : Option DeviceContext) (context : DeviceContext) (own : Space) (id frame : ℕ) (kind : AccessKind) → found ≡ Some context → space_of_context context ≡ Some own
      → HaveLeafIn true parts.memory context.first_stage context.second_stage kind frame → SharesSpace parts own id → IsReachedFound parts found id kind frame
  reached_found found context own id frame kind is has leaf shares =
      (own, subst (λ (o : Option DeviceContext). FoundLeafIn true parts.memory own o kind frame) (sym is) (has, leaf), shares)

  -- so does a context that some device may find, where the device shares its address space
  reached_from : (id frame other : ℕ) (kind : AccessKind) (context : Context) (tables : Tables) (space : AddressSpace) (table : ℕ) (steps_to : ℕ → List WalkStep) (mapping : Mapping)
      → MayFind S other context → space_of context.stages ≡ Some space → tables_of context.stages ≡ Some tables → tables.root ≡ table → steps_to ≡ steps_in context.stages
      → Leads table steps_to mapping → ServesKind mapping frame kind → SharesSpace parts (cached_space space) id → IsReachedOfSome parts id kind frame
  reached_from id frame other kind context tables space table steps_to mapping may is decide root all leads serves shares =
      let (found, finds, same) = found_in trusted parts [] no_walks (none_plugged parts) other context may in
      let (plug, found_plug) = plugged trusted parts [] no_walks (none_plugged parts) other may.0 in
      let (k, low, (at, own)) = device_place parts.devices other plug found_plug in
      let leaf = leaf_of_context found tables table frame kind steps_to mapping (ap (λ (c : Context). tables_of c.stages) same ∙ decide) root
      (all ∙ ap (λ (c : Context). steps_in c.stages) (sym same)) leads serves in
      let has = space_named found space (ap (λ (c : Context). space_of c.stages) same ∙ is) in
      (k, low, (plug, at, subst (λ (n : ℕ). Reached n) (sym own) (by found finds has leaf)))
    where
      Reached : ℕ → Type 0
      Reached n = IsReachedFound parts (cached_found parts n) id kind frame ⊎ IsReachedFound parts (stored_found parts n) id kind frame

      by : (found : DeviceContext) → Finds parts [] other found → space_of_context found ≡ Some (cached_space space)
          → HaveLeafIn true parts.memory found.first_stage found.second_stage kind frame → Reached other
      by found (inl (inl cached)) has leaf = inl (reached_found (cached_found parts other) found (cached_space space) id frame kind cached has leaf shares)
      by found (inl (inr stored)) has leaf = inr (reached_found (stored_found parts other) found (cached_space space) id frame kind stored has leaf shares)
      by found (inr sought) has leaf = absurd (none_is_some found sought)

  -- and the other way round
  leaf_found_in : (found : Option DeviceContext) (own : Space) (kind : AccessKind) (frame : ℕ) → FoundLeafIn true parts.memory own found kind frame
      → (context : DeviceContext) × (found ≡ Some context) × ((space_of_context context ≡ Some own) × HaveLeafIn true parts.memory context.first_stage context.second_stage kind frame)
  leaf_found_in None own kind frame never = absurd never
  leaf_found_in (Some context) own kind frame (has, leaf) = (context, refl, (has, leaf))

  table_found_in : (found : Option DeviceContext) (own : Space) (frame : ℕ) → FoundTableIn true parts.memory own found frame
      → (context : DeviceContext) × (found ≡ Some context) × ((space_of_context context ≡ Some own) × HaveTableIn true parts.memory context.first_stage context.second_stage frame)
  table_found_in None own frame never = absurd never
  table_found_in (Some context) own frame (has, table) = (context, refl, (has, table))

  -- where a device stands, one with its id may find what it finds
  finder_finds : (k : ℕ) (finder : Device) (context : DeviceContext) → slice_get parts.devices k ≡ Some finder → Finds parts [] finder.id context → MayFind S finder.id (context_of context)
  finder_finds k finder context at finds =
      let (plug, is) = found_with parts.devices k finder at in
      may_find trusted parts [] no_walks finder.id context (has trusted parts [] no_walks finder.id plug is) finds

  way_from : (id frame other : ℕ) (kind : AccessKind) (context : DeviceContext) (own : Space) → MayFind S other (context_of context) → space_of_context context ≡ Some own
      → HaveLeafIn true parts.memory context.first_stage context.second_stage kind frame → SharesSpace parts own id → Way (Read true) id frame kind
  way_from id frame other kind context own may has leaf shares =
      let (tables, mapping, decide, (leads, serves)) = leaf_leads true parts.memory context.first_stage context.second_stage context.gscid context.pscid.number kind frame leaf in
      let (found, finds, is) = finds_by_space id own shares in
      ByContext found finds (Translated (address_space own) is (inr (
        tables.root,
        steps_in (context_of context).stages,
        mapping,
        AtRoot other (context_of context) tables may (space_known context own has) decide refl refl,
        leads,
        serves,
      )))

  way_found : (id frame k : ℕ) (kind : AccessKind) (finder : Device) (found : Option DeviceContext) → slice_get parts.devices k ≡ Some finder
      → ((context : DeviceContext) → found ≡ Some context → Finds parts [] finder.id context) → IsReachedFound parts found id kind frame → Way (Read true) id frame kind
  way_found id frame k kind finder found at finds (own, leaf, shares) =
      let (context, is, (has, leads)) = leaf_found_in found own kind frame leaf in
      way_from id frame finder.id kind context own (finder_finds k finder context at (finds context is)) has leads shares

  reached_way : (id frame : ℕ) (kind : AccessKind) → IsReachedOfSome parts id kind frame → Way (Read true) id frame kind
  reached_way id frame kind (k, low, (finder, at, inl cached)) = way_found id frame k kind finder (cached_found parts finder.id) at (λ context is. inl (inl is)) cached
  reached_way id frame kind (k, low, (finder, at, inr stored)) = way_found id frame k kind finder (stored_found parts finder.id) at (λ context is. inl (inr is)) stored

  table_of_found : (frame k : ℕ) (finder : Device) (found : Option DeviceContext) → slice_get parts.devices k ≡ Some finder
      → ((context : DeviceContext) → found ≡ Some context → Finds parts [] finder.id context) → IsTableFound parts.memory found frame → IsOfTables (Read true) frame
  table_of_found frame k finder found at finds (own, table) =
      let (context, is, (has, there)) = table_found_in found own frame table in
      let (tables, page, decide, reads) = table_reads true parts.memory context.first_stage context.second_stage context.gscid context.pscid.number frame there in (
        address_space own,
        tables.root,
        steps_in (context_of context).stages,
        page,
        AtRoot finder.id (context_of context) tables (finder_finds k finder context at (finds context is)) (space_known context own has) decide refl refl,
        reads,
      )

  table_of_some : (frame : ℕ) → IsTableOfSome parts frame → IsOfTables (Read true) frame
  table_of_some frame (k, low, (finder, at, inl cached)) = table_of_found frame k finder (cached_found parts finder.id) at (λ context is. inl (inl is)) cached
  table_of_some frame (k, low, (finder, at, inr stored)) = table_of_found frame k finder (stored_found parts finder.id) at (λ context is. inl (inr is)) stored

  -- WHERE WALKS KNOW LEAVES OF 64 KiB each way is one without them, or leads by these from some context
  abbrev IsNarrow : Bool → (id frame : ℕ) → AccessKind → Type 0
  IsNarrow napot id frame kind = Way S id frame kind ⊎ ((napot ≡ true) × IsReachedOfSome parts id kind frame)

  through_narrow : (id frame : ℕ) (kind : AccessKind) (context : Context) → MayFind S id context → Through (Read true) id context frame kind → IsNarrow true id frame kind
  through_narrow id frame kind context find (ByAts lets through) = inl (ByContext context find (ByAts lets through))
  through_narrow id frame kind context find (Untranslated none) = inl (ByContext context find (Untranslated none))
  through_narrow id frame kind context find (Translated space is (inl cached)) = inl (ByContext context find (Translated space is (inl cached)))
  through_narrow id frame kind context find (Translated space is (inr (table, steps_to, mapping, AtRoot other known tables may same decide root all, leads, serves))) =
      inr (
        refl,
        reached_from id frame other kind known tables space table steps_to mapping may same decide root all leads serves
            (shares_by id context (cached_space space) find (is ∙ ap (λ s. Some s) (name_known space (cached_space space) refl))),
      )
  through_narrow id frame kind context find (Translated space is (inr (table, steps_to, mapping, PartWay device there, leads, serves))) = absurd (in_none (record {
    device = device;
    space = space;
    table = table;
    steps_to = steps_to;
  }) there)

  narrow : (napot : Bool) (id frame : ℕ) (kind : AccessKind) → Way (Read napot) id frame kind → IsNarrow napot id frame kind
  narrow false id frame kind way = inl way
  narrow true id frame kind (Accepted there) = inl (Accepted there)
  narrow true id frame kind (AnyFrame device bare) = inl (AnyFrame device bare)
  narrow true id frame kind (ByContext context find through) = through_narrow id frame kind context find through
  narrow true id frame kind (OnTheWalk space table steps_to mapping there leads serves) = absurd (in_none (record {
    device = Some id;
    space = space;
    table = table;
    steps_to = steps_to;
  }) there)

  -- and each of these is a way
  module _ (napot : Bool) where
    leads_wide : (table : ℕ) (steps_to : ℕ → List WalkStep) (mapping : Mapping) → LeadsToMapping S.formats S.memory table steps_to mapping
        → LeadsToMapping (Read napot).formats S.memory table steps_to mapping
    leads_wide table steps_to mapping (page, ends) = (page, ends_wider entry_format (format_of napot) (reads_more napot) (slice_get parts.memory) table (steps_to page) mapping ends)

    through_wide : (id frame : ℕ) (kind : AccessKind) (context : Context) → Through S id context frame kind → Through (Read napot) id context frame kind
    through_wide id frame kind context (ByAts lets through) = ByAts lets through
    through_wide id frame kind context (Untranslated none) = Untranslated none
    through_wide id frame kind context (Translated space is (inl cached)) = Translated space is (inl cached)
    through_wide id frame kind context (Translated space is (inr (table, steps_to, mapping, begins, leads, serves))) =
        Translated space is (inr (
          table,
          steps_to,
          mapping,
          begins_wider (format_of napot) S (reads_more napot) space table steps_to begins,
          leads_wide table steps_to mapping leads,
          serves,
        ))

    way_wide : (id frame : ℕ) (kind : AccessKind) → Way S id frame kind → Way (Read napot) id frame kind
    way_wide id frame kind (Accepted there) = Accepted there
    way_wide id frame kind (AnyFrame device bare) = AnyFrame device bare
    way_wide id frame kind (ByContext context find through) = ByContext context find (through_wide id frame kind context through)
    way_wide id frame kind (OnTheWalk space table steps_to mapping there leads serves) =
        OnTheWalk space table steps_to mapping there (leads_wide table steps_to mapping leads) serves

    -- the same tables are read
    table_narrow : (frame : ℕ) → IsOfTables (Read napot) frame → IsOfTables S frame
    table_narrow frame (space, table, steps_to, page, begins, reads) = (
      space,
      table,
      steps_to,
      page,
      begins_narrower (format_of napot) S (reads_more napot) space table steps_to begins,
      reads_no_more entry_format (format_of napot) (reads_more napot) (slice_get parts.memory) table (steps_to page) frame reads,
    )

    table_wide : (frame : ℕ) → IsOfTables S frame → IsOfTables (Read napot) frame
    table_wide frame (space, table, steps_to, page, begins, reads) = (
      space,
      table,
      steps_to,
      page,
      begins_wider (format_of napot) S (reads_more napot) space table steps_to begins,
      reads_wider entry_format (format_of napot) (reads_more napot) (slice_get parts.memory) table (steps_to page) frame reads,
    )

  way_back : (napot : Bool) (id frame : ℕ) (kind : AccessKind) → IsNarrow napot id frame kind → Way (Read napot) id frame kind
  way_back napot id frame kind (inl way) = way_wide napot id frame kind way
  way_back napot id frame kind (inr (is, reached)) = subst (λ (b : Bool). Way (Read b) id frame kind) (sym is) (reached_way id frame kind reached)

  table_back : (napot : Bool) (frame : ℕ) → napot ≡ true → IsTableOfSome parts frame → IsOfTables (Read napot) frame
  table_back napot frame is table = subst (λ (b : Bool). IsOfTables (Read b) frame) (sym is) (table_of_some frame table)

  -- WAYS AND TABLES BY POINTERS
  module _ (napot : Bool) (pointers : List Pointer) where
    leads_reached : (id frame : ℕ) (kind : AccessKind) → LeadsByPointer (Read napot) pointers id frame kind → IsReachedAlongSome napot parts pointers id kind frame
    leads_reached id frame kind (context, may, (pointer, among, is, (mapping, leads, serves))) =
        let (k, low, at) = contains_get pointers pointer among in
        (k, low, (pointer, at, (mapped_along napot parts.memory pointer kind frame (mapping, leads, serves), shares_by id context pointer.space may is)))

    reached_leads : (id frame : ℕ) (kind : AccessKind) → IsReachedAlongSome napot parts pointers id kind frame → LeadsByPointer (Read napot) pointers id frame kind
    reached_leads id frame kind (k, low, (pointer, at, (mapped, shares))) =
        let (context, may, is) = finds_by_space id pointer.space shares in
        (context, may, (pointer, get_contains pointers k pointer at, is, led_along napot parts.memory pointer kind frame mapped))

    reads_tables : (frame : ℕ) → ReadsByPointer (Read napot) pointers frame → IsTableAlongSome napot parts.memory pointers frame
    reads_tables frame (pointer, among, reads) =
        let (k, low, at) = contains_get pointers pointer among in (k, low, (pointer, at, table_along napot parts.memory pointer frame reads))

    tables_read : (frame : ℕ) → IsTableAlongSome napot parts.memory pointers frame → ReadsByPointer (Read napot) pointers frame
    tables_read frame (k, low, (pointer, at, table)) = (pointer, get_contains pointers k pointer at, read_along napot parts.memory pointer frame table)

-- ROWS

-- the row of a device that is found, and what it becomes
row_grown : (old new : List DeviceReach) (id : ℕ) (row : DeviceReach) (IsNew : ℕ → AccessKind → ℕ → Type 0) → RowsGrow old new IsNew → find (λ (own : DeviceReach). own.id == id) old ≡ Some row
    → (after : DeviceReach) × (find (λ (own : DeviceReach). own.id == id) new ≡ Some after) × ((row.id ≡ id) × RowGrows row after (IsNew row.id))
row_grown [] new id row IsNew grows is = absurd (none_is_some row is)
row_grown (a ∷ old) [] id row IsNew grows is = absurd (omega (arith, grows.long))
row_grown (a ∷ old) (b ∷ new) id row IsNew grows is =
    let grown : RowGrows a b (IsNew a.id) = grows.each 0 a b refl refl in
    elim (eqb_tells a.id id) [
      | inl e ↦
          let here : Some a ≡ Some row = rw e.0 at is in
          let same : a ≡ row = cc in
          let own : (b.id == id) ≡ true = ap (λ n. n == id) grown.id ∙ e.0 in (
            b,
            ap (λ (yes : Bool). if yes then Some b else find (λ (o : DeviceReach). o.id == id) new) own,
            (ap (λ (r : DeviceReach). r.id) (sym same) ∙ e.1, subst (λ (r : DeviceReach). RowGrows r b (IsNew r.id)) same grown),
          )
      | inr ne ↦
          let other : (b.id == id) ≡ false = ap (λ n. n == id) grown.id ∙ ne.0 in
          let (after, at, so) = row_grown old new id row IsNew (record { long = omega (arith, grows.long); each = λ k before later. grows.each (suc k) before later }) (rw ne.0 at is) in
          (after, ap (λ (yes : Bool). if yes then Some b else find (λ (o : DeviceReach). o.id == id) new) other ∙ at, so)
    ]

-- what a row has, or is new of its device, is reached
reached_grown : (old new : List DeviceReach) (id frame : ℕ) (kind : AccessKind) (row : DeviceReach) (IsNew : ℕ → AccessKind → ℕ → Type 0) → RowsGrow old new IsNew
    → find (λ (own : DeviceReach). own.id == id) old ≡ Some row → (row_has (frames_by row.reach kind) frame ≡ true) ⊎ IsNew id kind frame → reaches_in_rows new id kind frame ≡ true
reached_grown old new id frame kind row IsNew grows is why =
    let (after, at, (same, grown)) = row_grown old new id row IsNew grows is in
    ap (λ (o : Option DeviceReach). reach_in o kind frame) at ∙ by after same grown why
  where
    by : (after : DeviceReach) → row.id ≡ id → RowGrows row after (IsNew row.id) → (row_has (frames_by row.reach kind) frame ≡ true) ⊎ IsNew id kind frame → row_has (frames_by after.reach kind) frame ≡ true
    by after same grown (inl had) = (grown.reach kind).unchanged frame had
    by after same grown (inr so) = (grown.reach kind).added frame (subst (λ (n : ℕ). IsNew n kind frame) (sym same) so)

-- each device that is plugged in has its row behind a look at all of them
row_there : (rows : List DeviceReach) (k id : ℕ) (row : DeviceReach) → slice_get rows k ≡ Some row → row.id ≡ id → (own : DeviceReach) × (find (λ (r : DeviceReach). r.id == id) rows ≡ Some own)
row_there [] k id row at same = absurd (none_is_some row at)
row_there (first ∷ others) zero id row at same =
    let here : first ≡ row = cc in
    elim (eqb_tells first.id id) [
      | inl e ↦ (first, rw e.0 refl)
      | inr ne ↦ absurd (ne.1 (ap (λ (r : DeviceReach). r.id) here ∙ same))
    ]
row_there (first ∷ others) (suc k) id row at same = elim (eqb_tells first.id id) [
  | inl e ↦ (first, rw e.0 refl)
  | inr ne ↦ let (own, is) = row_there others k id row at same in (own, rw ne.0 is)
]

pub rows_of_each : (trusted : ℕ → Bool) (parts : BoardParts) (under_way : List WalkRow) (ids : List ℕ) (rows : List DeviceReach) → AreWalks under_way → ArePlugged parts under_way
    → AreRowsOf parts under_way ids rows → HasRowOfEach (stepped_scene trusted parts under_way) rows
rows_of_each trusted parts under_way ids rows walks plugs are id device =
    let (plug, found) = plugged trusted parts under_way walks plugs id device in
    let (k, low, (here, same)) = device_place parts.devices id plug found in
    let (row, at) = same_place parts.devices rows k plug (sym are.long) here in
    row_there rows k id row at ((are.each k row plug at here).id ∙ same)

row_reaching : (found : Option DeviceReach) (kind : AccessKind) (frame : ℕ) → reach_in found kind frame ≡ true → (row : DeviceReach) × (found ≡ Some row) × (row_has (frames_by row.reach kind) frame ≡ true)
row_reaching None kind frame is = absurd (false≢true is)
row_reaching (Some row) kind frame is = (row, refl, is)

-- THE SURVEY
module _ (napot : Bool) (trusted : ℕ → Bool) (parts : BoardParts) (pointers : List Pointer) (ways : PointersAddTheirWays) (tables : PointersAddTheirTables) (old new : Survey) (looks : LooksAlong napot parts pointers old new) where
  abbrev Before : HardwareScene
  Before = scene_of trusted parts

  -- with leaves of 64 KiB, or without
  abbrev Between : HardwareScene
  Between = Read trusted parts napot

  abbrev After : HardwareScene
  After = pointed_scene napot trusted parts pointers

  -- nothing is missed
  way_had : HasRowOfEach Before old.devices.items → Surveys old Before → (id frame : ℕ) (kind : AccessKind) → Way Before id frame kind → reaches_in_rows new.devices.items id kind frame ≡ true
  way_had rows surveys id frame kind way =
      let (row, at, has) = row_reaching (find (λ (own : DeviceReach). own.id == id) old.devices.items) kind frame (surveys.reached id frame kind way) in
      reached_grown old.devices.items new.devices.items id frame kind row (IsReachedBeside napot parts pointers) looks.devices at (inl has)

  way_added : HasRowOfEach Before old.devices.items → (id frame : ℕ) (kind : AccessKind) → HasDevice Before id → IsReachedBeside napot parts pointers id kind frame
      → reaches_in_rows new.devices.items id kind frame ≡ true
  way_added rows id frame kind device beside =
      let (row, at) = rows id device in
      reached_grown old.devices.items new.devices.items id frame kind row (IsReachedBeside napot parts pointers) looks.devices at (inr beside)

  -- who reaches a frame from some context is plugged in
  who_reaches : (id frame : ℕ) (kind : AccessKind) → IsReachedOfSome parts id kind frame → HasDevice Before id
  who_reaches id frame kind (k, low, (finder, at, inl (own, leaf, shares))) = plugged_in trusted parts id shares.0
  who_reaches id frame kind (k, low, (finder, at, inr (own, leaf, shares))) = plugged_in trusted parts id shares.0

  way_reached : HasRowOfEach Before old.devices.items → Surveys old Before → (id frame : ℕ) (kind : AccessKind) → Way Between id frame kind ⊎ LeadsByPointer Between pointers id frame kind
      → reaches_in_rows new.devices.items id kind frame ≡ true
  way_reached rows surveys id frame kind (inl way) = elim (narrow trusted parts napot id frame kind way) [
    | inl plain ↦ way_had rows surveys id frame kind plain
    | inr wide ↦ way_added rows id frame kind (who_reaches id frame kind wide.1) (inl wide)
  ]
  way_reached rows surveys id frame kind (inr leads) = way_added rows id frame kind leads.1.0 (inr (leads_reached trusted parts napot pointers id frame kind leads))

  pub rows_kept : HasRowOfEach Before old.devices.items → HasRowOfEach After new.devices.items
  rows_kept rows id device =
      let (row, at) = rows id device in
      let (after, there, (same, grown)) = row_grown old.devices.items new.devices.items id row (IsReachedBeside napot parts pointers) looks.devices at in (after, there)

  table_had : Surveys old Before → (frame : ℕ) → IsOfTables Between frame ⊎ ReadsByPointer Between pointers frame → row_has new.read frame ≡ true
  table_had surveys frame (inl table) = looks.read.unchanged frame (surveys.read frame (inl (table_narrow trusted parts napot frame table)))
  table_had surveys frame (inr reads) = looks.read.added frame (inr (reads_tables trusted parts napot pointers frame reads))

  read_had : Surveys old Before → (frame : ℕ) → IsRead After frame → row_has new.read frame ≡ true
  read_had surveys frame (inl table) = table_had surveys frame ((tables Between pointers frame).0 table)
  read_had surveys frame (inr other) = looks.read.unchanged frame (surveys.read frame (inr other))

  trust_told : Surveys old Before → TellsTrust After new.devices.items
  trust_told surveys k row at =
      let (before, here) = same_place new.devices.items old.devices.items k row looks.devices.long at in
      let grown = looks.devices.each k before row here at in
      grown.is_trusted ∙ surveys.trusted k before here ∙ ap trusted (sym grown.id)

  pub missed_along : HasRowOfEach Before old.devices.items → Surveys old Before → Surveys new After
  missed_along rows surveys = record {
    reached = λ id frame kind way. way_reached rows surveys id frame kind ((ways Between pointers id frame kind).0 way);
    read = read_had surveys;
    stored = λ frame is. ap (λ (row : List ℕ). row_has row frame) looks.stored ∙ surveys.stored frame is;
    trusted = trust_told surveys;
    rows = rows_kept rows;
  }

  -- nothing is invented
  way_beside : (id frame : ℕ) (kind : AccessKind) → IsReachedBeside napot parts pointers id kind frame → Way After id frame kind
  way_beside id frame kind (inl wide) = (ways Between pointers id frame kind).1 (inl (way_back trusted parts napot id frame kind (inr wide)))
  way_beside id frame kind (inr along) = (ways Between pointers id frame kind).1 (inr (reached_leads trusted parts napot pointers id frame kind along))

  row_way : InventsNone old Before → (k : ℕ) (before row : DeviceReach) (frame : ℕ) (kind : AccessKind) → slice_get old.devices.items k ≡ Some before
      → (row_has (frames_by before.reach kind) frame ≡ true) ⊎ ((other : ℕ) × IsReachedBeside napot parts pointers before.id kind other × (frame_place other ≡ frame_place frame))
      → IsReachedAs After before.id frame kind
  row_way invents k before row frame kind here (inl had) =
      let (other, way, same) = invents.reached k before frame kind here had in
      (other, (ways Between pointers before.id other kind).1 (inl (way_back trusted parts napot before.id other kind (inl way))), same)
  row_way invents k before row frame kind here (inr (other, beside, same)) = (other, way_beside before.id other kind beside, same)

  still_read : (frame : ℕ) → IsRead Before frame → IsRead After frame
  still_read frame (inl table) = inl ((tables Between pointers frame).1 (inl (table_wide trusted parts napot frame table)))
  still_read frame (inr other) = inr other

  table_beside : (frame : ℕ) → IsTableBeside napot parts pointers frame → IsOfTables After frame
  table_beside frame (inl (is, table)) = (tables Between pointers frame).1 (inl (table_back trusted parts napot frame is table))
  table_beside frame (inr along) = (tables Between pointers frame).1 (inr (tables_read trusted parts napot pointers frame along))

  frame_read : InventsNone old Before → (frame : ℕ) → (row_has old.read frame ≡ true) ⊎ ((other : ℕ) × IsTableBeside napot parts pointers other × (frame_place other ≡ frame_place frame))
      → IsReadAs After frame
  frame_read invents frame (inl had) = let (other, is, same) = invents.read frame had in (other, still_read other is, same)
  frame_read invents frame (inr (other, beside, same)) = (other, inl (table_beside other beside), same)

  pub invented_along : InventsNone old Before → InventsNone new After
  invented_along invents = record {
    reached = λ k row frame kind at has.
        let (before, here) = same_place new.devices.items old.devices.items k row looks.devices.long at in
        let grown = looks.devices.each k before row here at in
        subst (λ (n : ℕ). IsReachedAs After n frame kind) (sym grown.id) (row_way invents k before row frame kind here ((grown.reach kind).sole frame has));
    read = λ frame has. frame_read invents frame (looks.read.sole frame has);
    stored = λ frame has. invents.stored frame (ap (λ (row : List ℕ). row_has row frame) (sym looks.stored) ∙ has);
  }
