-- What is added to a scene by requests that are under way is what is looked for of each.
use Rattle.std.proofs.Common.{◌≡◌, ◌⊎◌, ◌∙◌, ◌==◌, inl, inr, ℕ, Bool, false, List, [], ◌∷◌, slice_get, Contains, Option, None, Some, option_map, if◌then◌else◌, subst, refl, sym, ap}
use Rattle.std.proofs.lemmas.Bool.Decides.{eqb_tells}
use Rattle.std.proofs.lemmas.List.Elements.{Contains-append_left, Contains-append_right, Contains-append_cases}
use Rattle.iom_base.specs.Sizes.{levels_of}
use Rattle.iom_base.specs.declared.access.AccessKind.{AccessKind}
use Rattle.iom_base.specs.declared.size.Size.{Size}
use Rattle.iom_base.specs.declared.size.Size.TheVariants.{Sv39, Sv48}
use Rattle.iom_board.specs.Invariant.{device_ids}
use Rattle.iom_device.specs.Caches.{device_with}
use Rattle.iom_device.specs.declared.device.Device.{Device}
use Rattle.iom_device_dir.specs.declared.context.Context.{Context as DeviceContext}
use Rattle.iom_hardware_ways.proofs.ListLemmas.{in_none, cons_cases, map_cases, contains_map}
use Rattle.iom_hardware_ways.proofs.PageIndices.{sizes_have_indices}
use Rattle.iom_hardware_ways.specs.Formats.{entry_format, formats, steps_along}
use Rattle.iom_hardware_ways.specs.Scenes.{cached_space}
use Rattle.iom_reach.proofs.TransitionLemmas.{contains_head, contains_tail}
use Rattle.iom_reach.specs.Memory.{ReadsFrame}
use Rattle.iom_reach.specs.Scene.{Mapping, PartialWalk, DirectoryWalk as DirectoryPart, PendingAccess}
use Rattle.iom_reach.specs.Ways.{LeadsToMapping, ServesKind}
use Rattle.iom_stage_walk.specs.Entries.{entries}
use Rattle.iom_stage_walk.specs.Second.{second_widths}
use Rattle.iom_stepped_board.proofs.BesideLemmas.{first_same}
use Rattle.iom_stepped_board.specs.Beside.{walk_ids}
use Rattle.iom_stepped_requests.specs.declared.request.Answer.{Answer}
use Rattle.iom_stepped_requests.specs.declared.request.Answer.TheVariants.{AsItIs, Cached, Reaches, Faults}
use Rattle.iom_stepped_requests.specs.declared.request.Request.{Request}
use Rattle.iom_stepped_requests.specs.declared.walk.RequestWalk.TheVariants.{InDirectory, InTables}
use Rattle.iom_stepped_requests.specs.declared.walk.Serving.{Serving}
use Rattle.iom_stepped_requests.specs.declared.walk.Serving.TheVariants.{GoesOn, Served}
use Rattle.iom_stepped_walk.specs.Positions.{in_both}
use Rattle.iom_stepped_walk.specs.declared.directory.DirectoryWalk.{DirectoryWalk}
use Rattle.iom_stepped_walk.specs.declared.tables.TableWalk.{TableWalk}
use Rattle.iom_stepped_walk.specs.declared.tables.TableWalk.TheVariants.{InFirstStage, InSecondStage, ToGuestEntry, InGuestTable, ToGuestPage}
use Rattle.iom_stepped_ways.proofs.AnewLemmas.{is_own}
use Rattle.iom_stepped_ways.specs.Parts.{Part, part_from_root}
use Rattle.iom_stepped_ways.specs.Scenes.{Added, access_on, added_and, added_by, added_by_answer, added_if_any, added_of, address_space, nothing_added, parts_of, walk_in_page, walk_of_part, with_one}
use Rattle.iom_table_survey.specs.Levels.{IsTable, IsMapped}
use Rattle.iom_table_survey.specs.Reaches.{AddsReach}
use Rattle.iom_table_survey.specs.Rows.{GrowsBy, IsInRun}
use Rattle.iom_table_survey.specs.declared.reach.Reach.{Reach}
use Rattle.iom_table_survey.proofs.AddLemmas.{adds_same, reach_same}
use Rattle.iom_tlb.specs.declared.space.Space.{Space}
use Rattle.iom_tlb.specs.declared.space.Space.TheVariants as space
use Rattle.iom_walks.specs.Invariant.{AreDistinct, AreWalks, IsOfRequest, RowInvariant, RowsInvariant}
use Rattle.iom_walks.specs.Walks.{UnderWay, WalkRow, row_of, under_way_in, under_way_of}
use Rattle.iom_way_survey.proofs.GuestLemmas.{entries_let, entry_let, let_added}
use Rattle.iom_way_survey.proofs.TreeLemmas.{levels_are_walks}
use Rattle.iom_way_survey.specs.Walking.{serving_of, WalkReads, WalkLeads, WalksSo, SpaceReads, SpaceLeads, LetsOn, IsLetThrough}

none_is_some : {X : Type 0} (x : X) → None ≡ Some x → ⊥
none_is_some x same = cc

-- an address space by its other name, and back
pub space_named_back : (own : Space) → cached_space (address_space own) ≡ own
space_named_back (space.First pscid) = refl
space_named_back (space.Second gscid) = refl
space_named_back (space.Both gscid pscid) = refl

-- ROWS

-- what is under way of a row is under way of its device
row_under_way : (row : WalkRow) (rows : List WalkRow) → under_way_of (row ∷ rows) row.device ≡ row.under_way
row_under_way row rows = elim (eqb_tells row.device row.device) [
  | inl e ↦ ap (λ (b : Bool). under_way_in (if b then Some row else row_of rows row.device)) e.0
  | inr ne ↦ absurd (ne.1 refl)
]

-- what is under way of a later row is so too, since its device has no earlier one
later_under_way : (row : WalkRow) (rows : List WalkRow) (id : ℕ) (own : UnderWay) → row_of rows row.device ≡ None → under_way_of rows id ≡ Some own → under_way_of (row ∷ rows) id ≡ Some own
later_under_way row rows id own alone is = elim (eqb_tells row.device id) [
  | inl e ↦
      let none = ap under_way_in (ap (row_of rows) (sym e.1) ∙ alone) in
      absurd (none_is_some own (sym none ∙ is))
  | inr ne ↦ ap (λ (b : Bool). under_way_in (if b then Some row else row_of rows id)) ne.0 ∙ is
]

-- what holds of a request that is under way
row_holds : (rows : List WalkRow) (id : ℕ) (own : UnderWay) → RowsInvariant rows → under_way_of rows id ≡ Some own → (own.request.device ≡ id) × IsOfRequest own.request own.serving
row_holds [] id own holds is = absurd (none_is_some own is)
row_holds (row ∷ rows) id own (first, later) is = elim (eqb_tells row.device id) [
  | inl e ↦ by row.under_way first (sym (ap (λ (b : Bool). under_way_in (if b then Some row else row_of rows id)) e.0) ∙ is) e.1
  | inr ne ↦ row_holds rows id own later (sym (ap (λ (b : Bool). under_way_in (if b then Some row else row_of rows id)) ne.0) ∙ is)
]
  where
    by : (found : Option UnderWay) → RowInvariant row.device row.bytes found → found ≡ Some own → row.device ≡ id → (own.request.device ≡ id) × IsOfRequest own.request own.serving
    by None holds same here = absurd (none_is_some own same)
    by (Some other) holds same here =
        let e : other ≡ own = cc in
        (ap (λ (u : UnderWay). u.request.device) (sym e) ∙ holds.own ∙ here, subst (λ (u : UnderWay). IsOfRequest u.request u.serving) e holds.of_request)

pub own_request : (rows : List WalkRow) (id : ℕ) (own : UnderWay) → AreWalks rows → under_way_of rows id ≡ Some own → (own.request.device ≡ id) × IsOfRequest own.request own.serving
own_request rows id own walks is = row_holds rows id own walks.rows_are is

-- who has a row is plugged in
pub under_way_plugged : (rows : List WalkRow) (devices : List Device) (id : ℕ) (own : UnderWay) → walk_ids rows ≡ device_ids devices → under_way_of rows id ≡ Some own
    → (plug : Device) × (device_with devices id ≡ Some plug)
under_way_plugged [] devices id own same is = absurd (none_is_some own is)
under_way_plugged (row ∷ rows) [] id own same is = let no : ⊥ = cc in absurd no
under_way_plugged (row ∷ rows) (device ∷ devices) id own same is =
    let (one, rest) = first_same row.device device.id (walk_ids rows) (device_ids devices) same in
    elim (eqb_tells device.id id) [
      | inl e ↦ (device, ap (λ (b : Bool). if b then Some device else device_with devices id) e.0)
      | inr ne ↦
          let other : (row.device == id) ≡ false = ap (λ n. n == id) one ∙ ne.0 in
          let (plug, found) = under_way_plugged rows devices id own rest (sym (ap (λ (b : Bool). under_way_in (if b then Some row else row_of rows id)) other) ∙ is) in
          (plug, ap (λ (b : Bool). if b then Some device else device_with devices id) ne.0 ∙ found)
    ]

-- what has no part in nothing, and in both where it has one in either, is added by a request
module _ (Has : Added → Type 0) (none : Has nothing_added → ⊥) (cases : (a b : Added) → Has (added_and a b) → Has a ⊎ Has b) where
  pub added_by_one : (rows : List WalkRow) → AreDistinct rows → Has (added_of rows) → (id : ℕ) × (own : UnderWay) × (under_way_of rows id ≡ Some own) × Has (added_by own.request own.serving)
  added_by_one [] distinct has = absurd (none has)
  added_by_one (row ∷ rows) (alone, distinct) has = elim (cases (added_if_any row.under_way) (added_of rows) has) [
    | inl here ↦ by row.under_way refl here
    | inr later ↦ let (id, own, is, so) = added_by_one rows distinct later in (id, own, later_under_way row rows id own alone is, so)
  ]
    where
      by : (found : Option UnderWay) → row.under_way ≡ found → Has (added_if_any found) → (id : ℕ) × (own : UnderWay) × (under_way_of (row ∷ rows) id ≡ Some own) × Has (added_by own.request own.serving)
      by None is here = absurd (none here)
      by (Some own) is here = (row.device, own, row_under_way row rows ∙ is, here)

module _ (Has : Added → Type 0) (left : (a b : Added) → Has a → Has (added_and a b)) (right : (a b : Added) → Has b → Has (added_and a b)) where
  pub adds_to_all : (rows : List WalkRow) (id : ℕ) (own : UnderWay) → under_way_of rows id ≡ Some own → Has (added_by own.request own.serving) → Has (added_of rows)
  adds_to_all [] id own is has = absurd (none_is_some own is)
  adds_to_all (row ∷ rows) id own is has = elim (eqb_tells row.device id) [
    | inl e ↦ left (added_if_any row.under_way) (added_of rows)
        (subst (λ (found : Option UnderWay). Has (added_if_any found)) (sym (sym (ap (λ (b : Bool). under_way_in (if b then Some row else row_of rows id)) e.0) ∙ is)) has)
    | inr ne ↦ right (added_if_any row.under_way) (added_of rows)
        (adds_to_all rows id own (sym (ap (λ (b : Bool). under_way_in (if b then Some row else row_of rows id)) ne.0) ∙ is) has)
  ]

-- WALKS OF TABLES

-- the parts of a walk are the table in hand, and the second stage to come
second_reads_from : (memory : List (List ℕ)) (size : Size) (root page frame : ℕ) → ReadsFrame entry_format (slice_get memory) root (steps_along (second_widths (levels_of size)) page) frame
    → IsTable (entries memory) (IsInRun root 4) (levels_of size) frame
second_reads_from memory Sv39 root page frame reads = ((levels_are_walks false memory root 4 2 (sizes_have_indices Sv39).1).0 frame).1 (page, reads)
second_reads_from memory Sv48 root page frame reads = ((levels_are_walks false memory root 4 3 (sizes_have_indices Sv48).1).0 frame).1 (page, reads)

second_read_back : (memory : List (List ℕ)) (size : Size) (root frame : ℕ) → IsTable (entries memory) (IsInRun root 4) (levels_of size) frame
    → (page : ℕ) × ReadsFrame entry_format (slice_get memory) root (steps_along (second_widths (levels_of size)) page) frame
second_read_back memory Sv39 root frame table = ((levels_are_walks false memory root 4 2 (sizes_have_indices Sv39).1).0 frame).0 table
second_read_back memory Sv48 root frame table = ((levels_are_walks false memory root 4 3 (sizes_have_indices Sv48).1).0 frame).0 table

second_leads_to : (memory : List (List ℕ)) (size : Size) (root : ℕ) (mapping : Mapping) (kind : AccessKind) (frame : ℕ)
    → LeadsToMapping formats (slice_get memory) root (steps_along (second_widths (levels_of size))) mapping → ServesKind mapping frame kind
    → IsMapped (entries memory) (IsInRun root 4) (levels_of size) kind frame
second_leads_to memory Sv39 root mapping kind frame leads serves = ((levels_are_walks false memory root 4 2 (sizes_have_indices Sv39).1).1 kind frame).1 (mapping, leads, serves)
second_leads_to memory Sv48 root mapping kind frame leads serves = ((levels_are_walks false memory root 4 3 (sizes_have_indices Sv48).1).1 kind frame).1 (mapping, leads, serves)

second_lead_back : (memory : List (List ℕ)) (size : Size) (root : ℕ) (kind : AccessKind) (frame : ℕ) → IsMapped (entries memory) (IsInRun root 4) (levels_of size) kind frame
    → (mapping : Mapping) × LeadsToMapping formats (slice_get memory) root (steps_along (second_widths (levels_of size))) mapping × ServesKind mapping frame kind
second_lead_back memory Sv39 root kind frame leaf = ((levels_are_walks false memory root 4 2 (sizes_have_indices Sv39).1).1 kind frame).0 leaf
second_lead_back memory Sv48 root kind frame leaf = ((levels_are_walks false memory root 4 3 (sizes_have_indices Sv48).1).1 kind frame).0 leaf

module _ (memory : List (List ℕ)) where
  abbrev PartReads : Part → ℕ → Type 0
  PartReads part frame = (page : ℕ) × ReadsFrame entry_format (slice_get memory) part.table (part.steps_to page) frame

  abbrev PartLeads : Part → AccessKind → ℕ → Type 0
  PartLeads part kind frame = (mapping : Mapping) × LeadsToMapping formats (slice_get memory) part.table part.steps_to mapping × ServesKind mapping frame kind

  one_part : {X : Type 0} (first part : Part) (Is : Part → Type 0) → (Is first → X) → Contains (first ∷ []) part → Is part → X
  one_part first part Is here there is = elim (cons_cases first [] part there) [
    | inl same ↦ here (subst Is (sym same) is)
    | inr none ↦ absurd (in_none part none)
  ]

  two_parts : {X : Type 0} (first second part : Part) (Is : Part → Type 0) → (Is first → X) → (Is second → X) → Contains (first ∷ second ∷ []) part → Is part → X
  two_parts first second part Is here after there is = elim (cons_cases first (second ∷ []) part there) [
    | inl same ↦ here (subst Is (sym same) is)
    | inr later ↦ one_part second part Is after later is
  ]

  pub part_reads : (walk : TableWalk) (part : Part) (frame : ℕ) → Contains (parts_of walk) part → PartReads part frame → WalkReads memory walk frame
  part_reads (InFirstStage asked place) part frame there reads = one_part _ part (λ p. PartReads p frame) (λ (page, is). inl is) there reads
  part_reads (InSecondStage asked place) part frame there reads = one_part _ part (λ p. PartReads p frame) (λ (page, is). inl is) there reads
  part_reads (ToGuestEntry both entry place) part frame there reads =
      two_parts _ _ part (λ p. PartReads p frame) (λ (page, is). inl is) (λ (page, is). inr (second_reads_from memory both.size both.second.number page frame is)) there reads
  part_reads (InGuestTable both entry at) part frame there reads =
      one_part _ part (λ p. PartReads p frame) (λ (page, is). inr (second_reads_from memory both.size both.second.number page frame is)) there reads
  part_reads (ToGuestPage both page place) part frame there reads = one_part _ part (λ p. PartReads p frame) (λ (to, is). inl is) there reads

  pub part_leads : (walk : TableWalk) (part : Part) (kind : AccessKind) (frame : ℕ) → Contains (parts_of walk) part → PartLeads part kind frame → WalkLeads memory walk kind frame
  part_leads (InFirstStage asked place) part kind frame there leads = one_part _ part (λ p. PartLeads p kind frame) (λ (mapping, (page, is), serves). inl (mapping, is, serves)) there leads
  part_leads (InSecondStage asked place) part kind frame there leads = one_part _ part (λ p. PartLeads p kind frame) (λ (mapping, (page, is), serves). inl (mapping, is, serves)) there leads
  part_leads (ToGuestEntry both entry place) part kind frame there leads =
      two_parts _ _ part (λ p. PartLeads p kind frame) (λ (mapping, (page, is), serves). inl (mapping, is, serves))
      (λ (mapping, is, serves). inr (second_leads_to memory both.size both.second.number mapping kind frame is serves)) there leads
  part_leads (InGuestTable both entry at) part kind frame there leads =
      one_part _ part (λ p. PartLeads p kind frame) (λ (mapping, is, serves). inr (second_leads_to memory both.size both.second.number mapping kind frame is serves)) there leads
  part_leads (ToGuestPage both page place) part kind frame there leads = one_part _ part (λ p. PartLeads p kind frame) (λ (mapping, (to, is), serves). inl (mapping, is, serves)) there leads

  -- and each of these is a part
  pub reads_part : (walk : TableWalk) (frame : ℕ) → WalkReads memory walk frame → (part : Part) × Contains (parts_of walk) part × PartReads part frame
  reads_part (InFirstStage asked place) frame (inl reads) = (_, contains_head _ [], (0, reads))
  reads_part (InFirstStage asked place) frame (inr never) = absurd never
  reads_part (InSecondStage asked place) frame (inl reads) = (_, contains_head _ [], (0, reads))
  reads_part (InSecondStage asked place) frame (inr never) = absurd never
  reads_part (ToGuestEntry both entry place) frame (inl reads) = (_, contains_head _ (part_from_root (in_both 0 both) ∷ []), (0, reads))
  reads_part (ToGuestEntry both entry place) frame (inr table) =
      (part_from_root (in_both 0 both), contains_tail _ (part_from_root (in_both 0 both) ∷ []) (part_from_root (in_both 0 both)) (contains_head (part_from_root (in_both 0 both)) []), second_read_back memory both.size both.second.number frame table)
  reads_part (InGuestTable both entry at) frame (inl never) = absurd never
  reads_part (InGuestTable both entry at) frame (inr table) = (part_from_root (in_both 0 both), contains_head (part_from_root (in_both 0 both)) [], second_read_back memory both.size both.second.number frame table)
  reads_part (ToGuestPage both page place) frame (inl reads) = (_, contains_head _ [], (0, reads))
  reads_part (ToGuestPage both page place) frame (inr never) = absurd never

  pub leads_part : (walk : TableWalk) (kind : AccessKind) (frame : ℕ) → WalkLeads memory walk kind frame → (part : Part) × Contains (parts_of walk) part × PartLeads part kind frame
  leads_part (InFirstStage asked place) kind frame (inl (mapping, is, serves)) = (_, contains_head _ [], (mapping, (0, is), serves))
  leads_part (InFirstStage asked place) kind frame (inr never) = absurd never
  leads_part (InSecondStage asked place) kind frame (inl (mapping, is, serves)) = (_, contains_head _ [], (mapping, (0, is), serves))
  leads_part (InSecondStage asked place) kind frame (inr never) = absurd never
  leads_part (ToGuestEntry both entry place) kind frame (inl (mapping, is, serves)) = (_, contains_head _ (part_from_root (in_both 0 both) ∷ []), (mapping, (0, is), serves))
  leads_part (ToGuestEntry both entry place) kind frame (inr leaf) =
      (part_from_root (in_both 0 both), contains_tail _ (part_from_root (in_both 0 both) ∷ []) (part_from_root (in_both 0 both)) (contains_head (part_from_root (in_both 0 both)) []), second_lead_back memory both.size both.second.number kind frame leaf)
  leads_part (InGuestTable both entry at) kind frame (inl never) = absurd never
  leads_part (InGuestTable both entry at) kind frame (inr leaf) = (part_from_root (in_both 0 both), contains_head (part_from_root (in_both 0 both)) [], second_lead_back memory both.size both.second.number kind frame leaf)
  leads_part (ToGuestPage both page place) kind frame (inl (mapping, is, serves)) = (_, contains_head _ [], (mapping, (0, is), serves))
  leads_part (ToGuestPage both page place) kind frame (inr never) = absurd never

-- A REQUEST

-- what is kept in this space
pub keeps_reads : (memory : List (List ℕ)) (serving : Option Serving) (request : Request) (context : DeviceContext) (kept_in own : Space) (walk : TableWalk) (old new : List ℕ)
    → serving ≡ Some (GoesOn (InTables request context kept_in walk)) → kept_in ≡ own → GrowsBy old new (WalkReads memory walk) → GrowsBy old new (SpaceReads memory own serving)
keeps_reads memory serving request context kept_in own walk old new is same adds =
    subst (λ (o : Option Serving). GrowsBy old new (SpaceReads memory own o)) (sym is)
    (adds_same old new (WalkReads memory walk) (λ f. (kept_in ≡ own) × WalkReads memory walk f) adds (λ f (so, reads). reads) (λ f reads. (same, reads)))

pub keeps_leads : (memory : List (List ℕ)) (serving : Option Serving) (request : Request) (context : DeviceContext) (kept_in own : Space) (walk : TableWalk) (old new : Reach)
    → serving ≡ Some (GoesOn (InTables request context kept_in walk)) → kept_in ≡ own → AddsReach old new (WalkLeads memory walk) → AddsReach old new (SpaceLeads memory own serving)
keeps_leads memory serving request context kept_in own walk old new is same adds =
    subst (λ (o : Option Serving). AddsReach old new (SpaceLeads memory own o)) (sym is)
    (reach_same old new (WalkLeads memory walk) (λ kind f. (kept_in ≡ own) × WalkLeads memory walk kind f) adds (λ kind f (so, leads). leads) (λ kind f leads. (same, leads)))

-- of one that walks tables
pub walking : (serving : Option Serving) (request : Request) (context : DeviceContext) (kept_in : Space) (stands : TableWalk) (Is : Space → TableWalk → Type 0)
    → serving ≡ Some (GoesOn (InTables request context kept_in stands)) → Is kept_in stands → WalksSo serving Is
walking serving request context kept_in stands Is same so = subst (λ (o : Option Serving). WalksSo o Is) (sym same) so

module _ (rows : List WalkRow) (walks : AreWalks rows) where
  -- a walk of a part is that of a request in tables
  abbrev IsPartUnderWay : PartialWalk → Type 0
  IsPartUnderWay walk = (id : ℕ) × (own : UnderWay) × (under_way_of rows id ≡ Some own)
      × ((request : Request) × (context : DeviceContext) × (kept_in : Space) × (stands : TableWalk) × (part : Part) × Contains (parts_of stands) part
      × ((walk ≡ walk_of_part id (address_space kept_in) part) × (serving_of rows id ≡ Some (GoesOn (InTables request context kept_in stands)))))

  serving_is : (id : ℕ) (own : UnderWay) (serving : Serving) → under_way_of rows id ≡ Some own → own.serving ≡ serving → serving_of rows id ≡ Some serving
  serving_is id own serving is same = ap (option_map (λ (u : UnderWay). u.serving)) is ∙ ap (λ s. Some s) same

  pub part_under_way : (walk : PartialWalk) → Contains (added_of rows).partial_walks walk → IsPartUnderWay walk
  part_under_way walk there =
      let (id, own, is, has) = added_by_one (λ a. Contains a.partial_walks walk) (λ none. in_none walk none)
      (λ a b both. Contains-append_cases a.partial_walks b.partial_walks walk both) rows walks.distinct there in
      by id own is own.serving refl has
    where
      by_answer : (request : Request) (answer : Answer) → Contains (added_by_answer request answer).partial_walks walk → ⊥
      by_answer request AsItIs none = in_none walk none
      by_answer request (Cached translation) none = in_none walk none
      by_answer request (Reaches walked) none = in_none walk none
      by_answer request (Faults fault) none = in_none walk none

      by : (id : ℕ) (own : UnderWay) → under_way_of rows id ≡ Some own → (serving : Serving) → own.serving ≡ serving → Contains (added_by own.request serving).partial_walks walk → IsPartUnderWay walk
      by id own is (GoesOn (InDirectory request anew stands)) same none = absurd (in_none walk none)
      by id own is (Served answer) same none = absurd (by_answer own.request answer none)
      by id own is (GoesOn (InTables request context kept_in stands)) same there' =
          let (part, among, made) = map_cases (walk_of_part request.device (address_space kept_in)) (parts_of stands) walk there' in
          let (device, of) = own_request rows id own walks is in
          let here : request ≡ own.request = subst (λ (s : Serving). IsOfRequest own.request s) same of in
          let named : request.device ≡ id = ap (λ (r : Request). r.device) here ∙ device in (
            id,
            own,
            is,
            (
              request,
              context,
              kept_in,
              stands,
              part,
              among,
              (
                sym (ap (λ d. walk_of_part d (address_space kept_in) part) (sym named) ∙ made),
                serving_is id own (GoesOn (InTables request context kept_in stands)) is same,
              ),
            ),
          )

  -- a walk of the directory is that of a request on its way
  abbrev IsLocatingUnderWay : DirectoryPart → Type 0
  IsLocatingUnderWay walk = (id : ℕ) × (own : UnderWay) × (under_way_of rows id ≡ Some own) × ((request : Request) × (anew : Bool) × (stands : DirectoryWalk)
      × ((walk ≡ walk_in_page id stands.id stands.level stands.page.number) × (serving_of rows id ≡ Some (GoesOn (InDirectory request anew stands)))))

  pub locating_under_way : (walk : DirectoryPart) → Contains (added_of rows).directory_walks walk → IsLocatingUnderWay walk
  locating_under_way walk there =
      let (id, own, is, has) = added_by_one (λ a. Contains a.directory_walks walk) (λ none. in_none walk none)
      (λ a b both. Contains-append_cases a.directory_walks b.directory_walks walk both) rows walks.distinct there in
      by id own is own.serving refl has
    where
      by_answer : (request : Request) (answer : Answer) → Contains (added_by_answer request answer).directory_walks walk → ⊥
      by_answer request AsItIs none = in_none walk none
      by_answer request (Cached translation) none = in_none walk none
      by_answer request (Reaches walked) none = in_none walk none
      by_answer request (Faults fault) none = in_none walk none

      by : (id : ℕ) (own : UnderWay) → under_way_of rows id ≡ Some own → (serving : Serving) → own.serving ≡ serving → Contains (added_by own.request serving).directory_walks walk → IsLocatingUnderWay walk
      by id own is (GoesOn (InTables request context kept_in stands)) same none = absurd (in_none walk none)
      by id own is (Served answer) same none = absurd (by_answer own.request answer none)
      by id own is (GoesOn (InDirectory request anew stands)) same there' = elim (cons_cases (walk_in_page request.device stands.id stands.level stands.page.number) [] walk there') [
        | inl made ↦
            let (device, of) = own_request rows id own walks is in
            let here : request ≡ own.request = subst (λ (s : Serving). IsOfRequest own.request s) same of in
            let named : request.device ≡ id = ap (λ (r : Request). r.device) here ∙ device in (
              id,
              own,
              is,
              (
                request,
                anew,
                stands,
                (
                  sym (ap (λ d. walk_in_page d stands.id stands.level stands.page.number) (sym named) ∙ made),
                  serving_is id own (GoesOn (InDirectory request anew stands)) is same,
                ),
              ),
            )
        | inr none ↦ absurd (in_none walk none)
      ]

  -- an access of the device that is let through is that of its request
  only_one : (owner : ℕ) (access : PendingAccess) (id : ℕ) (x : PendingAccess) → Contains ((with_one owner access).let_through id) x → (id ≡ owner) × (x ≡ access)
  only_one owner access id x there = elim (eqb_tells owner id) [
    | inl e ↦ elim (cons_cases access [] x (subst (λ (b : Bool). Contains (if b then access ∷ [] else []) x) e.0 there)) [
      | inl same ↦ (sym e.1, sym same)
      | inr none ↦ absurd (in_none x none)
    ]
    | inr ne ↦ absurd (in_none x (subst (λ (b : Bool). Contains (if b then access ∷ [] else []) x) ne.0 there))
  ]

  pub lets_through : (id frame : ℕ) (kind : AccessKind) → Contains ((added_of rows).let_through id) (access_on frame kind) → IsLetThrough (under_way_of rows id) kind frame
  lets_through id frame kind there =
      let (other, own, is, has) = added_by_one (λ a. Contains (a.let_through id) (access_on frame kind)) (λ none. in_none (access_on frame kind) none)
      (λ a b both. Contains-append_cases (a.let_through id) (b.let_through id) (access_on frame kind) both) rows walks.distinct there in
      let (device, of) = own_request rows other own walks is in
      let (named, lets) = by own.request own.serving of has in
      let same : other ≡ id = sym device ∙ sym named in
      subst (λ (found : Option UnderWay). IsLetThrough found kind frame) (sym (ap (under_way_of rows) (sym same) ∙ is)) lets
    where
      one : (request : Request) (at : ℕ) → Contains ((with_one request.device (access_on at request.asked.kind)).let_through id) (access_on frame kind)
          → (id ≡ request.device) × ((Some at ≡ Some frame) × (kind ≡ request.asked.kind))
      one request at there' =
          let (device, same) = only_one request.device (access_on at request.asked.kind) id (access_on frame kind) there' in
          (device, (ap (λ (a : PendingAccess). Some a.frame) (sym same), ap (λ (a : PendingAccess). a.kind) same))

      by : (request : Request) (serving : Serving) → IsOfRequest request serving → Contains ((added_by request serving).let_through id) (access_on frame kind)
          → (id ≡ request.device) × LetsOn request serving kind frame
      by request (GoesOn (InDirectory own anew stands)) of none = absurd (in_none (access_on frame kind) none)
      by request (GoesOn (InTables own context kept_in stands)) of there' =
          let (device, lets) = entry_let own.device id frame kind stands there' in
          (device ∙ ap (λ (r : Request). r.device) of, lets)
      by request (Served AsItIs) of there' = one request _ there'
      by request (Served (Cached translation)) of there' = one request _ there'
      by request (Served (Reaches walked)) of there' = one request _ there'
      by request (Served (Faults fault)) of none = absurd (in_none (access_on frame kind) none)

  -- AND BACK

  -- what is so of the walk that a request makes is so of one that is added
  pub part_added : (id : ℕ) (Is : Space → TableWalk → Type 0) → WalksSo (serving_of rows id) Is
      → (kept_in : Space) × (stands : TableWalk) × Is kept_in stands × ((part : Part) → Contains (parts_of stands) part → Contains (added_of rows).partial_walks (walk_of_part id (address_space kept_in) part))
  part_added id Is so = by (under_way_of rows id) refl so
    where
      all : (own : UnderWay) (walk : PartialWalk) → under_way_of rows id ≡ Some own → Contains (added_by own.request own.serving).partial_walks walk → Contains (added_of rows).partial_walks walk
      all own walk is has = adds_to_all (λ a. Contains a.partial_walks walk) (λ a b one. Contains-append_left a.partial_walks b.partial_walks walk one)
          (λ a b other. Contains-append_right a.partial_walks b.partial_walks walk other) rows id own is has

      of_serving : (own : UnderWay) → under_way_of rows id ≡ Some own → (serving : Serving) → own.serving ≡ serving → WalksSo (Some serving) Is
          → (kept_in : Space) × (stands : TableWalk) × Is kept_in stands × ((part : Part) → Contains (parts_of stands) part → Contains (added_of rows).partial_walks (walk_of_part id (address_space kept_in) part))
      of_serving own is (GoesOn (InDirectory request anew stands)) same never = absurd never
      of_serving own is (Served answer) same never = absurd never
      of_serving own is (GoesOn (InTables request context kept_in stands)) same so' =
          let (device, of) = own_request rows id own walks is in
          let here : request ≡ own.request = subst (λ (s : Serving). IsOfRequest own.request s) same of in
          let named : request.device ≡ id = ap (λ (r : Request). r.device) here ∙ device in (
            kept_in,
            stands,
            so',
            λ part among. subst (λ d. Contains (added_of rows).partial_walks (walk_of_part d (address_space kept_in) part)) named
                (all own (walk_of_part request.device (address_space kept_in) part) is
                (subst (λ (s : Serving). Contains (added_by own.request s).partial_walks (walk_of_part request.device (address_space kept_in) part)) (sym same)
                (contains_map (walk_of_part request.device (address_space kept_in)) (parts_of stands) part among))),
          )

      by : (found : Option UnderWay) → under_way_of rows id ≡ found → WalksSo (option_map (λ (u : UnderWay). u.serving) found) Is
          → (kept_in : Space) × (stands : TableWalk) × Is kept_in stands × ((part : Part) → Contains (parts_of stands) part → Contains (added_of rows).partial_walks (walk_of_part id (address_space kept_in) part))
      by None is never = absurd never
      by (Some own) is so' = of_serving own is own.serving refl so'

  pub locating_added : (id : ℕ) (request : Request) (anew : Bool) (stands : DirectoryWalk) → serving_of rows id ≡ Some (GoesOn (InDirectory request anew stands))
      → Contains (added_of rows).directory_walks (walk_in_page id stands.id stands.level stands.page.number)
  locating_added id request anew stands serves = by (under_way_of rows id) refl serves
    where
      by : (found : Option UnderWay) → under_way_of rows id ≡ found → option_map (λ (u : UnderWay). u.serving) found ≡ Some (GoesOn (InDirectory request anew stands))
          → Contains (added_of rows).directory_walks (walk_in_page id stands.id stands.level stands.page.number)
      by None is none = absurd (none_is_some (GoesOn (InDirectory request anew stands)) none)
      by (Some own) is some =
          let same : own.serving ≡ GoesOn (InDirectory request anew stands) = cc in
          let (device, of) = own_request rows id own walks is in
          let here : request ≡ own.request = subst (λ (s : Serving). IsOfRequest own.request s) same of in
          let named : request.device ≡ id = ap (λ (r : Request). r.device) here ∙ device in
          let walk = walk_in_page request.device stands.id stands.level stands.page.number in
          subst (λ d. Contains (added_of rows).directory_walks (walk_in_page d stands.id stands.level stands.page.number)) named
          (adds_to_all (λ a. Contains a.directory_walks walk) (λ a b one. Contains-append_left a.directory_walks b.directory_walks walk one)
          (λ a b other. Contains-append_right a.directory_walks b.directory_walks walk other) rows id own is
          (subst (λ (s : Serving). Contains (added_by own.request s).directory_walks walk) (sym same) (contains_head walk [])))

  pub access_added : (id frame : ℕ) (kind : AccessKind) → IsLetThrough (under_way_of rows id) kind frame → Contains ((added_of rows).let_through id) (access_on frame kind)
  access_added id frame kind lets = by (under_way_of rows id) refl lets
    where
      one : (request : Request) (at : ℕ) → Some at ≡ Some frame → kind ≡ request.asked.kind → Contains ((with_one request.device (access_on at request.asked.kind)).let_through request.device) (access_on frame kind)
      one request at same asked =
          let e : at ≡ frame = cc in
          subst (λ (a : PendingAccess). Contains ((with_one request.device (access_on at request.asked.kind)).let_through request.device) a)
          (ap (λ f. access_on f request.asked.kind) e ∙ ap (access_on frame) (sym asked)) (is_own request.device (access_on at request.asked.kind))

      answered : (request : Request) (serving : Serving) → IsOfRequest request serving → LetsOn request serving kind frame
          → Contains ((added_by request serving).let_through request.device) (access_on frame kind)
      answered request (GoesOn (InDirectory own anew stands)) of never = absurd never
      answered request (GoesOn (InTables own context kept_in stands)) of lets' =
          subst (λ (r : Request). Contains (entries_let own.device r.device stands) (access_on frame kind)) of (let_added own.device frame kind stands lets')
      answered request (Served AsItIs) of (same, asked) = one request _ same asked
      answered request (Served (Cached translation)) of (same, asked) = one request _ same asked
      answered request (Served (Reaches walked)) of (same, asked) = one request _ same asked
      answered request (Served (Faults fault)) of (same, asked) = absurd (none_is_some frame same)

      by : (found : Option UnderWay) → under_way_of rows id ≡ found → IsLetThrough found kind frame → Contains ((added_of rows).let_through id) (access_on frame kind)
      by None is never = absurd never
      by (Some own) is lets' =
          let (device, of) = own_request rows id own walks is in
          adds_to_all (λ a. Contains (a.let_through id) (access_on frame kind)) (λ a b has. Contains-append_left (a.let_through id) (b.let_through id) (access_on frame kind) has)
          (λ a b has. Contains-append_right (a.let_through id) (b.let_through id) (access_on frame kind) has) rows id own is
          (subst (λ d. Contains ((added_by own.request own.serving).let_through d) (access_on frame kind)) device (answered own.request own.serving of lets'))
