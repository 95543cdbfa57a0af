-- Each way of a scene of hardware is one that is looked for.
use Rattle.std.proofs.Common.{◌≡◌, ◌⊎◌, ◌∙◌, inl, inr, ℕ, suc, ◌<◌, ◌≤◌, Bool, true, false, ◌&&◌, List, [], ◌∷◌, map, length, slice_get, Contains, Option, None, Some, option_map, if◌then◌else◌, subst, refl, sym, ap, arith}
use Rattle.std.proofs.lemmas.Bool.Decides.{eqb_tells}
use Rattle.iom_ats_cache.specs.Cache.{Cache}
use Rattle.iom_ats_cache.specs.declared.entry.Entry.{Entry}
use Rattle.iom_base.specs.Rights.{allows}
use Rattle.iom_base.specs.declared.access.AccessKind.{AccessKind}
use Rattle.iom_base.specs.declared.device_kind.DeviceKind.{DeviceKind}
use Rattle.iom_base.specs.declared.device_kind.DeviceKind.TheVariants as kinds
use Rattle.iom_base.specs.declared.size.Size.TheVariants.{Sv39, Sv48}
use Rattle.iom_device.specs.Caches.{device_with, cache_in, epoch_of}
use Rattle.iom_device.specs.declared.device.Device.{Device}
use Rattle.iom_device_dir.proofs.Ends.{finds_by}
use Rattle.iom_device_dir.specs.Paths.{fits_directory}
use Rattle.iom_device_dir.specs.declared.context.Context.{Context as DeviceContext}
use Rattle.iom_device_dir.specs.declared.stages.FirstStage.{FirstStage as First}
use Rattle.iom_device_dir.specs.declared.stages.FirstStage.TheVariants as first
use Rattle.iom_device_dir.specs.declared.stages.SecondStage.{SecondStage as Second}
use Rattle.iom_device_dir.specs.declared.stages.SecondStage.TheVariants as second
use Rattle.iom_fabric.specs.declared.message.Message.{Message as Sent}
use Rattle.iom_fabric.specs.declared.message.Message.TheVariants as sent
use Rattle.iom_fabric.specs.declared.message.Translation.TheVariants as reply
use Rattle.iom_board.specs.BoardParts.{BoardParts}
use Rattle.iom_inflight.specs.Flights.{NumberedAccess, FlightRow, row_of, waiting_at, made_at}
use Rattle.iom_iommu.specs.Parts.{registers_of, contexts_of, translation_cache_of, translations_of, flights_of}
use Rattle.iom_iommu.specs.Stages.{space_through}
use Rattle.iom_reach.specs.Memory.{Tables, ReadsFrame, WalkStep}
use Rattle.iom_reach.specs.Safe.{IsOfTables}
use Rattle.iom_reach.specs.Scene.{Mapping, AddressSpace, Stages, NoStage, Context, Bare, At, AtsKind, Forges, Caches, AtsEntry, Message, Answer, PendingAccess, PartialWalk, DirectoryWalk, HardwareScene, HasDevice}
use Rattle.iom_reach.specs.Ways.{LeadsToMapping, ServesKind, space_of, tables_of, MayFind, IsKept, LetsThrough, WalkBegins, AtRoot, PartWay, IsInSpace, Through, ByAts as ThroughAts, Untranslated, Translated, Way, Accepted, AnyFrame, ByContext, OnTheWalk}
use Rattle.iom_registers.specs.declared.directory.DirectoryMode.{DirectoryMode}
use Rattle.iom_registers.specs.declared.directory.DirectoryMode.TheVariants as mode
use Rattle.iom_registers.specs.Queues.{directory_root}
use Rattle.iom_hardware_ways.specs.Formats.{formats, entry_format, format_of, steps_in, stages_in, context_of}
use Rattle.iom_hardware_ways.specs.Scenes.{directory_by, ats_kind, cached_space, mapping_of, kept_entry, kept_entries, said_on, message_of, flight_of, flights_in}
use Rattle.iom_hardware_ways.proofs.DirectoryBack.{directories_are_found}
use Rattle.iom_hardware_ways.proofs.ListLemmas.{in_none, cons_cases, map_cases}
use Rattle.iom_hardware_ways.proofs.PageIndices.{sizes_have_indices}
use Rattle.iom_tlb.specs.declared.space.Space.{Space}
use Rattle.iom_tlb.specs.declared.trans_cache.Translation.{Translation}
use Rattle.iom_way_survey.specs.Found.{has_directory, mode_in, cached_found, stored_found, sought_found, Finds, space_of_context, HaveTable, HaveTableIn, HaveLeaf, HaveLeafIn, FoundTable, FoundLeaf, DeviceTable, DeviceLeaf, SpaceTable, SpaceLeaf, IsCachedIn, InSpace, IsKeptAmong, AnswersSo, IsAnsweredAmong, IsInCache, LetsKind, ByAts, ThroughSpace, ThroughFound, IsAccepted, IsThatAccess, WayOf}
use Rattle.std.proofs.lemmas.List.Elements.{Contains-append_cases}
use Rattle.iom_hardware_ways.specs.Formats.{context_format}
use Rattle.iom_reach.specs.Memory.{Ends}
use Rattle.iom_way_survey.specs.Laws.{ArePlugged, formats_of}
use Rattle.iom_stepped_requests.specs.declared.request.Request.{Request}
use Rattle.iom_stepped_requests.specs.declared.walk.RequestWalk.TheVariants.{InDirectory, InTables}
use Rattle.iom_stepped_requests.specs.declared.walk.Serving.{Serving}
use Rattle.iom_stepped_requests.specs.declared.walk.Serving.TheVariants.{GoesOn, Served}
use Rattle.iom_stepped_walk.specs.declared.tables.TableWalk.{TableWalk}
use Rattle.iom_stepped_ways.specs.Parts.{Part}
use Rattle.iom_stepped_ways.specs.Scenes.{access_on, added_of, parts_of, stepped_scene}
use Rattle.iom_walks.specs.Invariant.{AreWalks}
use Rattle.iom_walks.specs.Walks.{WalkRow}
use Rattle.iom_way_survey.proofs.SoughtLemmas.{made_found}
use Rattle.iom_way_survey.proofs.TreeLemmas.{levels_are_walks}
use Rattle.iom_way_survey.proofs.UnderWayLemmas.{lets_through, locating_under_way, part_leads, part_reads, part_under_way, space_named_back, walking}
use Rattle.iom_way_survey.specs.Walking.{found_of, serving_of, sought_by, RequestLeads, SpaceLeads, SpaceReads, WalkLeads, WalkReads, WalksSo}

-- LISTS

pub contains_get : {X : Type 0} (xs : List X) (x : X) → Contains xs x → (k : ℕ) × (k < length xs) × (slice_get xs k ≡ Some x)
contains_get [] x c = absurd (in_none x c)
contains_get (a ∷ xs) x c = elim (cons_cases a xs x c) [
  | inl same ↦ (0, omega arith, ap (λ y. Some y) same)
  | inr later ↦ let (k, low, at) = contains_get xs x later in (suc k, omega (arith, low), at)
]

-- A CONTEXT'S TABLES

-- some walk through these stages leads to the frame, and some reads it
abbrev pub StagesLead : Bool → List (List ℕ) → Stages → AccessKind → ℕ → Type 0
StagesLead napot memory stages kind frame =
    (tables : Tables) × (mapping : Mapping) × (tables_of stages ≡ Some tables) × (LeadsToMapping (formats_of napot) (slice_get memory) tables.root (steps_in stages) mapping × ServesKind mapping frame kind)

abbrev pub StagesRead : Bool → List (List ℕ) → Stages → ℕ → Type 0
StagesRead napot memory stages frame =
    (tables : Tables) × (page : ℕ) × (tables_of stages ≡ Some tables) × ReadsFrame (format_of napot) (slice_get memory) tables.root (steps_in stages page) frame

root_same : (one other : Tables) → Some one ≡ Some other → other.root ≡ one.root
root_same one other same = let is : one ≡ other = cc in ap (λ (t : Tables). t.root) (sym is)

pub none_is_some : {X : Type 0} (x : X) → None ≡ Some x → ⊥
none_is_some x same = cc

pub leads_leaf : (napot : Bool) (memory : List (List ℕ)) (f : First) (s : Second) (g p : ℕ) (kind : AccessKind) (frame : ℕ) → StagesLead napot memory (stages_in f s g p) kind frame → HaveLeafIn napot memory f s kind frame
leads_leaf napot memory first.Bare second.Bare g p kind frame (tables, mapping, is, leads) = absurd (none_is_some tables is)
leads_leaf napot memory (first.Tables Sv39 root) second.Bare g p kind frame (tables, mapping, is, (leads, serves)) =
    ((levels_are_walks napot memory root.number 1 2 (sizes_have_indices Sv39).0).1 kind frame).1
    (mapping, subst (λ (r : ℕ). LeadsToMapping (formats_of napot) (slice_get memory) r (steps_in (stages_in (first.Tables Sv39 root) second.Bare g p)) mapping) (root_same _ tables is) leads, serves)
leads_leaf napot memory (first.Tables Sv48 root) second.Bare g p kind frame (tables, mapping, is, (leads, serves)) =
    ((levels_are_walks napot memory root.number 1 3 (sizes_have_indices Sv48).0).1 kind frame).1
    (mapping, subst (λ (r : ℕ). LeadsToMapping (formats_of napot) (slice_get memory) r (steps_in (stages_in (first.Tables Sv48 root) second.Bare g p)) mapping) (root_same _ tables is) leads, serves)
leads_leaf napot memory first.Bare (second.Tables Sv39 root) g p kind frame (tables, mapping, is, (leads, serves)) =
    ((levels_are_walks napot memory root.number 4 2 (sizes_have_indices Sv39).1).1 kind frame).1
    (mapping, subst (λ (r : ℕ). LeadsToMapping (formats_of napot) (slice_get memory) r (steps_in (stages_in first.Bare (second.Tables Sv39 root) g p)) mapping) (root_same _ tables is) leads, serves)
leads_leaf napot memory first.Bare (second.Tables Sv48 root) g p kind frame (tables, mapping, is, (leads, serves)) =
    ((levels_are_walks napot memory root.number 4 3 (sizes_have_indices Sv48).1).1 kind frame).1
    (mapping, subst (λ (r : ℕ). LeadsToMapping (formats_of napot) (slice_get memory) r (steps_in (stages_in first.Bare (second.Tables Sv48 root) g p)) mapping) (root_same _ tables is) leads, serves)
leads_leaf napot memory (first.Tables size own) (second.Tables Sv39 root) g p kind frame (tables, mapping, is, (leads, serves)) =
    ((levels_are_walks napot memory root.number 4 2 (sizes_have_indices Sv39).1).1 kind frame).1
    (mapping, subst (λ (r : ℕ). LeadsToMapping (formats_of napot) (slice_get memory) r (steps_in (stages_in (first.Tables size own) (second.Tables Sv39 root) g p)) mapping) (root_same _ tables is) leads, serves)
leads_leaf napot memory (first.Tables size own) (second.Tables Sv48 root) g p kind frame (tables, mapping, is, (leads, serves)) =
    ((levels_are_walks napot memory root.number 4 3 (sizes_have_indices Sv48).1).1 kind frame).1
    (mapping, subst (λ (r : ℕ). LeadsToMapping (formats_of napot) (slice_get memory) r (steps_in (stages_in (first.Tables size own) (second.Tables Sv48 root) g p)) mapping) (root_same _ tables is) leads, serves)

pub reads_table_of : (napot : Bool) (memory : List (List ℕ)) (f : First) (s : Second) (g p : ℕ) (frame : ℕ) → StagesRead napot memory (stages_in f s g p) frame → HaveTableIn napot memory f s frame
reads_table_of napot memory first.Bare second.Bare g p frame (tables, page, is, reads) = absurd (none_is_some tables is)
reads_table_of napot memory (first.Tables Sv39 root) second.Bare g p frame (tables, page, is, reads) =
    ((levels_are_walks napot memory root.number 1 2 (sizes_have_indices Sv39).0).0 frame).1
    (page, subst (λ (r : ℕ). ReadsFrame (format_of napot) (slice_get memory) r (steps_in (stages_in (first.Tables Sv39 root) second.Bare g p) page) frame) (root_same _ tables is) reads)
reads_table_of napot memory (first.Tables Sv48 root) second.Bare g p frame (tables, page, is, reads) =
    ((levels_are_walks napot memory root.number 1 3 (sizes_have_indices Sv48).0).0 frame).1
    (page, subst (λ (r : ℕ). ReadsFrame (format_of napot) (slice_get memory) r (steps_in (stages_in (first.Tables Sv48 root) second.Bare g p) page) frame) (root_same _ tables is) reads)
reads_table_of napot memory first.Bare (second.Tables Sv39 root) g p frame (tables, page, is, reads) =
    ((levels_are_walks napot memory root.number 4 2 (sizes_have_indices Sv39).1).0 frame).1
    (page, subst (λ (r : ℕ). ReadsFrame (format_of napot) (slice_get memory) r (steps_in (stages_in first.Bare (second.Tables Sv39 root) g p) page) frame) (root_same _ tables is) reads)
reads_table_of napot memory first.Bare (second.Tables Sv48 root) g p frame (tables, page, is, reads) =
    ((levels_are_walks napot memory root.number 4 3 (sizes_have_indices Sv48).1).0 frame).1
    (page, subst (λ (r : ℕ). ReadsFrame (format_of napot) (slice_get memory) r (steps_in (stages_in first.Bare (second.Tables Sv48 root) g p) page) frame) (root_same _ tables is) reads)
reads_table_of napot memory (first.Tables size own) (second.Tables Sv39 root) g p frame (tables, page, is, reads) =
    ((levels_are_walks napot memory root.number 4 2 (sizes_have_indices Sv39).1).0 frame).1
    (page, subst (λ (r : ℕ). ReadsFrame (format_of napot) (slice_get memory) r (steps_in (stages_in (first.Tables size own) (second.Tables Sv39 root) g p) page) frame) (root_same _ tables is) reads)
reads_table_of napot memory (first.Tables size own) (second.Tables Sv48 root) g p frame (tables, page, is, reads) =
    ((levels_are_walks napot memory root.number 4 3 (sizes_have_indices Sv48).1).0 frame).1
    (page, subst (λ (r : ℕ). ReadsFrame (format_of napot) (slice_get memory) r (steps_in (stages_in (first.Tables size own) (second.Tables Sv48 root) g p) page) frame) (root_same _ tables is) reads)

-- the address space by its two names
pub spaces_by : (f : First) (s : Second) (context : DeviceContext) → option_map cached_space (space_of (stages_in f s context.gscid context.pscid.number)) ≡ space_through f s context
spaces_by first.Bare second.Bare context = refl
spaces_by (first.Tables size root) second.Bare context = refl
spaces_by first.Bare (second.Tables size root) context = refl
spaces_by (first.Tables size root) (second.Tables size' root') context = refl

pub space_named : (context : DeviceContext) (s : AddressSpace) → space_of (context_of context).stages ≡ Some s → space_of_context context ≡ Some (cached_space s)
space_named context s is = sym (spaces_by context.first_stage context.second_stage context) ∙ ap (option_map cached_space) is

no_space_by : (f : First) (s : Second) (context : DeviceContext) → stages_in f s context.gscid context.pscid.number ≡ NoStage → space_through f s context ≡ None
no_space_by first.Bare second.Bare context is = refl
no_space_by (first.Tables size root) second.Bare context is = absurd (cc)
no_space_by first.Bare (second.Tables size root) context is = absurd (cc)
no_space_by (first.Tables size root) (second.Tables size' root') context is = absurd (cc)

-- DEVICES

-- the device with an id stands somewhere, and has it
pub device_place : (devices : List Device) (id : ℕ) (device : Device) → device_with devices id ≡ Some device
    → (k : ℕ) × (k < length devices) × ((slice_get devices k ≡ Some device) × (device.id ≡ id))
device_place [] id device is = absurd (none_is_some device is)
device_place (first ∷ others) id device is = elim (eqb_tells first.id id) [
  | inl e ↦
      let here : Some first ≡ Some device = rw e.0 at is in
      let same : first ≡ device = cc in
      (0, omega arith, (here, ap (λ (d : Device). d.id) (sym same) ∙ e.1))
  | inr ne ↦
      let (k, low, (at, own)) = device_place others id device (rw ne.0 at is) in
      (suc k, omega (arith, low), (at, own))
]

there : (found : Option Device) (kind : AtsKind) → option_map ats_kind (option_map (λ (device : Device). device.kind) found) ≡ Some kind
    → (device : Device) × (found ≡ Some device) × (kind ≡ ats_kind device.kind)
there None kind is = absurd (none_is_some kind is)
there (Some device) kind is = (device, refl, (let same : Some (ats_kind device.kind) ≡ Some kind = is in cc))

-- what is so of a walk is weaker
pub walks_still : (serving : Option Serving) (Is So : Space → TableWalk → Type 0) → ((kept_in : Space) (walk : TableWalk) → Is kept_in walk → So kept_in walk) → WalksSo serving Is → WalksSo serving So
walks_still None Is So to never = absurd never
walks_still (Some (GoesOn (InDirectory request anew walk))) Is So to never = absurd never
walks_still (Some (GoesOn (InTables request context kept_in walk))) Is So to is = to kept_in walk is
walks_still (Some (Served answer)) Is So to never = absurd never

module _ (trusted : ℕ → Bool) (parts : BoardParts) (rows : List WalkRow) (walks : AreWalks rows) (plugs : ArePlugged parts rows) where
  abbrev S : HardwareScene
  S = stepped_scene trusted parts rows

  pub plugged : (id : ℕ) → HasDevice S id → (device : Device) × (device_with parts.devices id ≡ Some device)
  plugged id (kind, is) = let (device, at, same) = there (device_with parts.devices id) kind is in (device, at)

  -- CONTEXTS

  shown_from : (b : Bool) (cached : Option DeviceContext) (context : Context) → (if b then option_map context_of cached else None) ≡ Some context
      → (own : DeviceContext) × (b ≡ true) × ((cached ≡ Some own) × (context_of own ≡ context))
  shown_from true None context is = absurd (none_is_some context is)
  shown_from true (Some own) context is = (own, refl, (refl, (let same : Some (context_of own) ≡ Some context = is in cc)))
  shown_from false cached context is = absurd (none_is_some context is)

  is_at : (m : DirectoryMode) (root : ℕ) (tables : Tables) → directory_by m root ≡ At tables → has_directory m ≡ true
  is_at mode.Off root tables is = absurd (cc)
  is_at mode.Bare root tables is = absurd (cc)
  is_at mode.OneLevel root tables is = refl
  is_at mode.TwoLevels root tables is = refl
  is_at mode.ThreeLevels root tables is = refl

  pub found_in : (id : ℕ) (context : Context) → MayFind S id context → (own : DeviceContext) × Finds parts rows id own × (context_of own ≡ context)
  found_in id context (device, inl ((tables, at), inl cached)) =
      let (own, fits, (here, same)) = shown_from (fits_directory (mode_in parts) id) (contexts_of parts.iommu id) context cached in
      let some = is_at (mode_in parts) (directory_root (registers_of parts.iommu)) tables at in (
        own,
        inl (inl (ap (λ (b : Bool). if b && fits_directory (mode_in parts) id then contexts_of parts.iommu id else None) some
            ∙ ap (λ (b : Bool). if true && b then contexts_of parts.iommu id else None) fits ∙ here)),
        same,
      )
  found_in id context (device, inl (at, inr (tables, is, ends))) =
      let (own, finds, same) = directories_are_found parts.memory (registers_of parts.iommu).ddtp id tables context is ends in
      (own, inl (inr (ap found_of (finds_by (mode_in parts) parts.memory (directory_root (registers_of parts.iommu)) id own finds))), same)
  found_in id context (device, inr (table, steps, there, ends)) =
      let (other, under_way, is, (request, anew, stands, (same, serves))) = locating_under_way rows walks (record { device = id; table = table; steps = steps }) there in
      let ends' = subst (λ (w : DirectoryWalk). Ends context_format (slice_get parts.memory) w.table w.steps context) same ends in
      let (own, finds, is_it) = made_found parts.memory stands.level stands.page.number stands.id context ends' in
      let serving = ap (serving_of rows) (ap (λ (w : DirectoryWalk). w.device) same) ∙ serves in
      (own, inr (ap (sought_by parts.memory) serving ∙ ap found_of finds), is_it)

  -- ADDRESS SPACES

  leaf_found : (own : Space) (found : Option DeviceContext) (context : DeviceContext) (kind : AccessKind) (frame : ℕ) → found ≡ Some context → space_of_context context ≡ Some own
      → HaveLeaf parts.memory context.first_stage context.second_stage kind frame → FoundLeaf parts.memory own found kind frame
  leaf_found own found context kind frame is has leaf = subst (λ (o : Option DeviceContext). FoundLeaf parts.memory own o kind frame) (sym is) (has, leaf)

  table_found : (own : Space) (found : Option DeviceContext) (context : DeviceContext) (frame : ℕ) → found ≡ Some context → space_of_context context ≡ Some own
      → HaveTable parts.memory context.first_stage context.second_stage frame → FoundTable parts.memory own found frame
  table_found own found context frame is has table = subst (λ (o : Option DeviceContext). FoundTable parts.memory own o frame) (sym is) (has, table)

  leaf_of_device : (own : Space) (id : ℕ) (context : DeviceContext) (kind : AccessKind) (frame : ℕ) → Finds parts rows id context → space_of_context context ≡ Some own
      → HaveLeaf parts.memory context.first_stage context.second_stage kind frame → DeviceLeaf parts rows own id kind frame
  leaf_of_device own id context kind frame (inl (inl is)) has leaf = inl (inl (leaf_found own (cached_found parts id) context kind frame is has leaf))
  leaf_of_device own id context kind frame (inl (inr is)) has leaf = inl (inr (leaf_found own (stored_found parts id) context kind frame is has leaf))
  leaf_of_device own id context kind frame (inr is) has leaf = inr (inl (leaf_found own (sought_found parts rows id) context kind frame is has leaf))

  table_of_device : (own : Space) (id : ℕ) (context : DeviceContext) (frame : ℕ) → Finds parts rows id context → space_of_context context ≡ Some own
      → HaveTable parts.memory context.first_stage context.second_stage frame → DeviceTable parts rows own id frame
  table_of_device own id context frame (inl (inl is)) has table = inl (inl (table_found own (cached_found parts id) context frame is has table))
  table_of_device own id context frame (inl (inr is)) has table = inl (inr (table_found own (stored_found parts id) context frame is has table))
  table_of_device own id context frame (inr is) has table = inr (inl (table_found own (sought_found parts rows id) context frame is has table))

  -- a walk that begins, begins at the root of a context of some device
  abbrev AtSomeRoot : AddressSpace → ℕ → (ℕ → List WalkStep) → Type 0
  AtSomeRoot s table steps_to =
      (id : ℕ) × (own : DeviceContext) × (tables : Tables) × (HasDevice S id × Finds parts rows id own)
      × ((space_of_context own ≡ Some (cached_space s)) × ((tables_of (context_of own).stages ≡ Some tables) × ((tables.root ≡ table) × (steps_to ≡ steps_in (context_of own).stages))))

  -- or it is a part of one that is under way
  abbrev IsUnderWay : AddressSpace → ℕ → (ℕ → List WalkStep) → Type 0
  IsUnderWay s table steps_to =
      (id : ℕ) × (plug : Device) × (device_with parts.devices id ≡ Some plug)
      × ((request : Request) × (context : DeviceContext) × (kept_in : Space) × (stands : TableWalk) × (part : Part) × Contains (parts_of stands) part
      × ((table ≡ part.table) × ((steps_to ≡ part.steps_to) × ((kept_in ≡ cached_space s) × (serving_of rows id ≡ Some (GoesOn (InTables request context kept_in stands)))))))

  part_way : (device : Option ℕ) (s : AddressSpace) (table : ℕ) (steps_to : ℕ → List WalkStep)
      → Contains S.partial_walks (record { device = device; space = s; table = table; steps_to = steps_to }) → IsUnderWay s table steps_to
  part_way device s table steps_to there =
      let (id, own, is, (request, context, kept_in, stands, part, among, (same, serves))) = part_under_way rows walks (record { device = device; space = s; table = table; steps_to = steps_to }) there in
      let (plug, at) = plugs id own is in
      let named : kept_in ≡ cached_space s = sym (ap (λ (w : PartialWalk). cached_space w.space) same ∙ space_named_back kept_in) in
      (id, plug, at, (request, context, kept_in, stands, part, among, (ap (λ (w : PartialWalk). w.table) same, (ap (λ (w : PartialWalk). w.steps_to) same, (named, serves)))))

  begins_at : (s : AddressSpace) (table : ℕ) (steps_to : ℕ → List WalkStep) → WalkBegins S s table steps_to → AtSomeRoot s table steps_to ⊎ IsUnderWay s table steps_to
  begins_at s table steps_to (AtRoot id context tables may is decide root all) =
      let (own, finds, same) = found_in id context may in inl (
        id,
        own,
        tables,
        (may.0, finds),
        (
          space_named own s (ap (λ (c : Context). space_of c.stages) same ∙ is),
          (ap (λ (c : Context). tables_of c.stages) same ∙ decide, (root, all ∙ ap (λ (c : Context). steps_in c.stages) (sym same))),
        ),
      )
  begins_at s table steps_to (PartWay device there) = inr (part_way device s table steps_to there)

  leaf_in : (s : AddressSpace) (kind : AccessKind) (frame table : ℕ) (steps_to : ℕ → List WalkStep) (mapping : Mapping) → AtSomeRoot s table steps_to ⊎ IsUnderWay s table steps_to
      → LeadsToMapping formats (slice_get parts.memory) table steps_to mapping → ServesKind mapping frame kind → SpaceLeaf parts rows (cached_space s) kind frame
  leaf_in s kind frame table steps_to mapping (inr (id, plug, at, (request, context, kept_in, stands, part, among, (is_table, (is_steps, (named, under_way)))))) leads serves =
      let (k, low, (here, same)) = device_place parts.devices id plug at in
      let leads' = subst (λ (t : ℕ → List WalkStep). LeadsToMapping formats (slice_get parts.memory) part.table t mapping) is_steps
      (subst (λ (t : ℕ). LeadsToMapping formats (slice_get parts.memory) t steps_to mapping) is_table leads) in
      let led = part_leads parts.memory stands part kind frame among (mapping, leads', serves) in
      (k, low, (plug, here, inr (inr (subst (λ i. SpaceLeads parts.memory (cached_space s) (serving_of rows i) kind frame) (sym same) (walking (serving_of rows id) request context kept_in stands (λ kept walk. (kept ≡ cached_space s) × WalkLeads parts.memory walk kind frame) under_way (named, led))))))
  leaf_in s kind frame table steps_to mapping (inl (id, own, tables, (device, finds), (named, (decide, (root, all))))) leads serves =
      let (plug, at) = plugged id device in
      let (k, low, (here, same)) = device_place parts.devices id plug at in
      let leads' = subst (λ (t : ℕ → List WalkStep). LeadsToMapping formats (slice_get parts.memory) tables.root t mapping) all
      (subst (λ (r : ℕ). LeadsToMapping formats (slice_get parts.memory) r steps_to mapping) (sym root) leads) in (
        k,
        low,
        (
          plug,
          here,
          leaf_of_device (cached_space s) plug.id own kind frame (subst (λ i. Finds parts rows i own) (sym same) finds) named
              (leads_leaf false parts.memory own.first_stage own.second_stage own.gscid own.pscid.number kind frame (tables, mapping, decide, (leads', serves))),
        ),
      )

  cached_in_space : (s : AddressSpace) (page : ℕ) (mapping : Mapping) (kind : AccessKind) (frame : ℕ) (cached : Option Translation) → translations_of parts.iommu (cached_space s, page) ≡ cached
      → option_map mapping_of cached ≡ Some mapping → ServesKind mapping frame kind → IsCachedIn (translation_cache_of parts.iommu) (cached_space s) kind frame
  cached_in_space s page mapping kind frame None at is serves = absurd (none_is_some mapping is)
  cached_in_space s page mapping kind frame (Some own) at is (same, allowed) =
      let e : Some (mapping_of own) ≡ Some mapping = is in
      let f : mapping_of own ≡ mapping = cc in
      let g : own.frame ≡ mapping.frame = ap (λ (m : Mapping). m.frame) f in
      let h : own.rights ≡ mapping.rights = ap (λ (m : Mapping). m.rights) f in
      (record { space = cached_space s; page = page; translation = own }, at, (refl, (g ∙ same, ap (λ r. allows r kind) h ∙ allowed)))

  pub in_space : (s : AddressSpace) (kind : AccessKind) (frame : ℕ) → IsInSpace S s frame kind → InSpace parts rows (cached_space s) kind frame
  in_space s kind frame (inl (page, mapping, at, serves)) = inl (cached_in_space s page mapping kind frame (translations_of parts.iommu (cached_space s, page)) refl at serves)
  in_space s kind frame (inr (table, steps_to, mapping, begins, leads, serves)) = inr (leaf_in s kind frame table steps_to mapping (begins_at s table steps_to begins) leads serves)

  -- EN_ATS

  entry_kept : (entries : List Entry) (page : ℕ) (mapping : Mapping) (kind : AccessKind) (frame : ℕ) → Contains (map kept_entry entries) (record { page = page; mapping = mapping })
      → ServesKind mapping frame kind → IsKeptAmong entries kind frame
  entry_kept entries page mapping kind frame there (same, allowed) =
      let (entry, own, is) = map_cases kept_entry entries (record { page = page; mapping = mapping }) there in
      let (k, low, at) = contains_get entries entry own in
      let e : entry.frame ≡ mapping.frame = ap (λ (x : AtsEntry). x.mapping.frame) is in
      let f : entry.rights ≡ mapping.rights = ap (λ (x : AtsEntry). x.mapping.rights) is in
      (k, low, (entry, at, (e ∙ same, ap (λ r. allows r kind) f ∙ allowed)))

  in_cache : (cache : Option Cache) (page : ℕ) (mapping : Mapping) (kind : AccessKind) (frame : ℕ) → Contains (kept_entries cache) (record { page = page; mapping = mapping })
      → ServesKind mapping frame kind → IsInCache cache kind frame
  in_cache None page mapping kind frame there serves = absurd (in_none {X = AtsEntry} (record { page = page; mapping = mapping }) there)
  in_cache (Some cache) page mapping kind frame there serves = entry_kept cache.entries page mapping kind frame there serves

  abbrev IsTold : ℕ → ℕ → Mapping → Message → Type 0
  IsTold id epoch mapping (Answer own asked page given) = (own ≡ id) × ((asked ≡ epoch) × (given ≡ mapping))
  IsTold id epoch mapping _ = ⊥

  answers : (device id epoch : ℕ) (message : Sent) (mapping : Mapping) (kind : AccessKind) (frame : ℕ) → IsTold id epoch mapping (said_on device message)
      → ServesKind mapping frame kind → (device ≡ id) × AnswersSo epoch message kind frame
  answers device id epoch (sent.Ask asked page) mapping kind frame never serves = absurd never
  answers device id epoch (sent.Answer asked page (reply.Page own rights)) mapping kind frame (link, (same, is)) (place, allowed) =
      (link, (same, (ap (λ (m : Mapping). m.frame) is ∙ place, ap (λ (m : Mapping). allows m.rights kind) is ∙ allowed)))
  answers device id epoch (sent.Answer asked page (reply.Refused cause)) mapping kind frame never serves = absurd never
  answers device id epoch (sent.InvReq serial range) mapping kind frame never serves = absurd never
  answers device id epoch (sent.InvDone serial) mapping kind frame never serves = absurd never

  answered : (id epoch page : ℕ) (mapping : Mapping) (kind : AccessKind) (frame : ℕ) → Contains (map message_of parts.fabric) (Answer id epoch page mapping)
      → ServesKind mapping frame kind → IsAnsweredAmong id epoch parts.fabric kind frame
  answered id epoch page mapping kind frame there serves =
      let (on, own, is) = map_cases message_of parts.fabric (Answer id epoch page mapping) there in
      let (k, low, at) = contains_get parts.fabric on own in
      (k, low, (on, at, answers on.device id epoch on.message mapping kind frame (subst (λ (m : Message). IsTold id epoch mapping m) (sym is) (refl, (refl, refl))) serves))

  kept : (device : Device) (id page : ℕ) (mapping : Mapping) (kind : AccessKind) (frame : ℕ) → device_with parts.devices id ≡ Some device → device.id ≡ id → IsKept S id page mapping
      → ServesKind mapping frame kind → IsInCache device.cache kind frame ⊎ IsAnsweredAmong device.id (epoch_of device.cache) parts.fabric kind frame
  kept device id page mapping kind frame at own (inl there) serves =
      inl (in_cache device.cache page mapping kind frame (subst (λ (found : Option Device). Contains (kept_entries (cache_in found)) (record { page = page; mapping = mapping })) at there) serves)
  kept device id page mapping kind frame at own (inr (epoch, there, same)) serves =
      let now : epoch ≡ epoch_of device.cache = same ∙ ap (λ (found : Option Device). epoch_of (cache_in found)) at in
      inr (subst (λ e. IsAnsweredAmong device.id e parts.fabric kind frame) now
      (subst (λ i. IsAnsweredAmong i epoch parts.fabric kind frame) (sym own) (answered id epoch page mapping kind frame there serves)))

  lets : (own : DeviceKind) (device : Device) (id : ℕ) (kind : AccessKind) (frame : ℕ) → device.kind ≡ own → device_with parts.devices id ≡ Some device → device.id ≡ id
      → LetsThrough S id frame kind → LetsKind own parts.fabric device kind frame
  lets kinds.Raw device id kind frame is at same through = tt
  lets kinds.Ats device id kind frame is at same (inl forges) = absurd (let e : Some (ats_kind kinds.Ats) ≡ Some Forges = sym (ap (λ (found : Option Device). option_map ats_kind (option_map (λ (d : Device). d.kind) found)) at ∙ ap (λ k. Some (ats_kind k)) is) ∙ forges in cc)
  lets kinds.Ats device id kind frame is at same (inr (caches, (page, mapping, keeps, serves))) = kept device id page mapping kind frame at same keeps serves
  lets kinds.CachedBlock device id kind frame is at same (inl forges) = absurd (let e : Some (ats_kind kinds.CachedBlock) ≡ Some Forges = sym (ap (λ (found : Option Device). option_map ats_kind (option_map (λ (d : Device). d.kind) found)) at ∙ ap (λ k. Some (ats_kind k)) is) ∙ forges in cc)
  lets kinds.CachedBlock device id kind frame is at same (inr (caches, (page, mapping, keeps, serves))) = kept device id page mapping kind frame at same keeps serves
  lets kinds.Block device id kind frame is at same (inl forges) = absurd (let e : Some (ats_kind kinds.Block) ≡ Some Forges = sym (ap (λ (found : Option Device). option_map ats_kind (option_map (λ (d : Device). d.kind) found)) at ∙ ap (λ k. Some (ats_kind k)) is) ∙ forges in cc)
  lets kinds.Block device id kind frame is at same (inr (caches, kept)) = absurd (let e : Some (ats_kind kinds.Block) ≡ Some Caches = sym (ap (λ (found : Option Device). option_map ats_kind (option_map (λ (d : Device). d.kind) found)) at ∙ ap (λ k. Some (ats_kind k)) is) ∙ caches in cc)

  -- CONTEXTS, AND ALL WAYS

  through_own : (device : Device) (own : DeviceContext) (kind : AccessKind) (frame : ℕ) → device_with parts.devices device.id ≡ Some device → (context : Context) → context_of own ≡ context
      → Through S device.id context frame kind → ByAts parts.fabric device own.en_ats kind frame ⊎ ThroughSpace parts rows (space_of_context own) kind frame
  through_own device own kind frame at context same (ThroughAts let_ats through) =
      inl (lets device.kind device device.id kind frame refl at refl through, ap (λ (c : Context). c.lets_ats) same ∙ let_ats)
  through_own device own kind frame at context same (Untranslated none) =
      inr (subst (λ (o : Option Space). ThroughSpace parts rows o kind frame) (sym (no_space_by own.first_stage own.second_stage own (ap (λ (c : Context). c.stages) same ∙ none))) tt)
  through_own device own kind frame at context same (Translated s is reached) =
      inr (subst (λ (o : Option Space). ThroughSpace parts rows o kind frame) (sym (space_named own s (ap (λ (c : Context). space_of c.stages) same ∙ is))) (in_space s kind frame reached))

  through_found : (device : Device) (found : Option DeviceContext) (own : DeviceContext) (kind : AccessKind) (frame : ℕ) → found ≡ Some own
      → ByAts parts.fabric device own.en_ats kind frame ⊎ ThroughSpace parts rows (space_of_context own) kind frame → ThroughFound parts rows device found kind frame
  through_found device found own kind frame is through = subst (λ (o : Option DeviceContext). ThroughFound parts rows device o kind frame) (sym is) through

  flight_made : (row : Option FlightRow) (frame : ℕ) (kind : AccessKind) → Contains (flights_in row) (record { frame = frame; kind = kind })
      → ((own : FlightRow) → row ≡ Some own → length own.waiting ≤ 8) → (k : ℕ) × (k < 8) × IsThatAccess (waiting_at row k) kind frame
  flight_made None frame kind there few = absurd (in_none {X = PendingAccess} (record { frame = frame; kind = kind }) there)
  flight_made (Some row) frame kind there few =
      let (access, own, is) = map_cases flight_of row.waiting (record { frame = frame; kind = kind }) there in
      let (k, low, at) = contains_get row.waiting access own in
      let short = few row refl in
      let e : access.accepted.frame ≡ frame = ap (λ (p : PendingAccess). p.frame) is in
      let f : access.accepted.access.kind ≡ kind = ap (λ (p : PendingAccess). p.kind) is in
      (k, omega (arith, low, short), subst (λ (found : Option NumberedAccess). IsThatAccess (option_map (λ (a : NumberedAccess). made_at row.device a.accepted) found) kind frame) (sym at) (sym e, sym f))

  bare_mode : (m : DirectoryMode) (root : ℕ) → directory_by m root ≡ Bare → m ≡ mode.Bare
  bare_mode mode.Off root is = absurd (cc)
  bare_mode mode.Bare root is = refl
  bare_mode mode.OneLevel root is = absurd (cc)
  bare_mode mode.TwoLevels root is = absurd (cc)
  bare_mode mode.ThreeLevels root is = absurd (cc)

  accepted : (device : Device) (frame : ℕ) (kind : AccessKind) → ((own : FlightRow) → row_of (flights_of parts.iommu).rows device.id ≡ Some own → length own.waiting ≤ 8)
      → Contains (S.in_flight device.id) (record { frame = frame; kind = kind }) → IsAccepted parts rows device.id kind frame
  accepted device frame kind few there =
      elim (Contains-append_cases (flights_in (row_of (flights_of parts.iommu).rows device.id)) ((added_of rows).let_through device.id) (access_on frame kind) there) [
        | inl flies ↦ inl (flight_made (row_of (flights_of parts.iommu).rows device.id) frame kind flies few)
        | inr lets ↦ inr (lets_through rows walks device.id frame kind lets)
      ]

  -- a walk of the device that is under way
  led_there : (id frame : ℕ) (kind : AccessKind) (s : AddressSpace) (table : ℕ) (steps_to : ℕ → List WalkStep) (mapping : Mapping)
      → Contains S.partial_walks (record { device = Some id; space = s; table = table; steps_to = steps_to }) → LeadsToMapping formats (slice_get parts.memory) table steps_to mapping
      → ServesKind mapping frame kind → RequestLeads parts.memory (serving_of rows id) kind frame
  led_there id frame kind s table steps_to mapping there leads serves =
      let (other, own, is, (request, context, kept_in, stands, part, among, (same, under_way))) = part_under_way rows walks (record { device = Some id; space = s; table = table; steps_to = steps_to }) there in
      let leads' = subst (λ (w : PartialWalk). LeadsToMapping formats (slice_get parts.memory) w.table w.steps_to mapping) same leads in
      let led = part_leads parts.memory stands part kind frame among (mapping, leads', serves) in
      let some : Some id ≡ Some other = ap (λ (w : PartialWalk). w.device) same in
      let named : id ≡ other = cc in
      subst (λ i. RequestLeads parts.memory (serving_of rows i) kind frame) (sym named) (walking (serving_of rows other) request context kept_in stands (λ kept walk. WalkLeads parts.memory walk kind frame) under_way led)

  -- NO WAY IS MISSED
  pub way_of : (device : Device) (frame : ℕ) (kind : AccessKind) → device_with parts.devices device.id ≡ Some device
      → ((own : FlightRow) → row_of (flights_of parts.iommu).rows device.id ≡ Some own → length own.waiting ≤ 8) → Way S device.id frame kind → WayOf parts rows device kind frame
  way_of device frame kind at few (Accepted there) = inl (inl (inl (inl (accepted device frame kind few there))))
  way_of device frame kind at few (AnyFrame has bare) = inl (inl (inl (inr (bare_mode (mode_in parts) (directory_root (registers_of parts.iommu)) bare))))
  way_of device frame kind at few (ByContext context may through) =
      let (own, finds, same) = found_in device.id context may in by own finds (through_own device own kind frame at context same through)
    where
      by : (own : DeviceContext) → Finds parts rows device.id own → ByAts parts.fabric device own.en_ats kind frame ⊎ ThroughSpace parts rows (space_of_context own) kind frame → WayOf parts rows device kind frame
      by own (inl (inl is)) through' = inl (inl (inr (through_found device (cached_found parts device.id) own kind frame is through')))
      by own (inl (inr is)) through' = inl (inr (through_found device (stored_found parts device.id) own kind frame is through'))
      by own (inr is) through' = inr (inl (through_found device (sought_found parts rows device.id) own kind frame is through'))
  way_of device frame kind at few (OnTheWalk s table steps_to mapping there leads serves) = inr (inr (led_there device.id frame kind s table steps_to mapping there leads serves))

  -- nor a table that walks read
  pub table_of : (frame : ℕ) → IsOfTables S frame → (s : Space) × SpaceTable parts rows s frame
  table_of frame (s, table, steps_to, page, begins, reads) = (cached_space s, by (begins_at s table steps_to begins))
    where
      by : AtSomeRoot s table steps_to ⊎ IsUnderWay s table steps_to → SpaceTable parts rows (cached_space s) frame
      by (inl (id, own, tables, (device, finds), (named, (decide, (root, all))))) =
          let (plug, at) = plugged id device in
          let (k, low, (here, same)) = device_place parts.devices id plug at in
          let reads' = subst (λ (t : ℕ → List WalkStep). ReadsFrame entry_format (slice_get parts.memory) tables.root (t page) frame) all
          (subst (λ (r : ℕ). ReadsFrame entry_format (slice_get parts.memory) r (steps_to page) frame) (sym root) reads) in (
            k,
            low,
            (
              plug,
              here,
              table_of_device (cached_space s) plug.id own frame (subst (λ i. Finds parts rows i own) (sym same) finds) named
                  (reads_table_of false parts.memory own.first_stage own.second_stage own.gscid own.pscid.number frame (tables, page, decide, reads')),
            ),
          )
      by (inr (id, plug, at, (request, context, kept_in, stands, part, among, (is_table, (is_steps, (named, under_way)))))) =
          let (k, low, (here, same)) = device_place parts.devices id plug at in
          let reads' = subst (λ (t : ℕ → List WalkStep). ReadsFrame entry_format (slice_get parts.memory) part.table (t page) frame) is_steps
          (subst (λ (t : ℕ). ReadsFrame entry_format (slice_get parts.memory) t (steps_to page) frame) is_table reads) in
          let read = part_reads parts.memory stands part frame among (page, reads') in
          (k, low, (plug, here, inr (inr (subst (λ i. SpaceReads parts.memory (cached_space s) (serving_of rows i) frame) (sym same) (walking (serving_of rows id) request context kept_in stands (λ kept walk. (kept ≡ cached_space s) × WalkReads parts.memory walk frame) under_way (named, read))))))
