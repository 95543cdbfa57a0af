-- What is looked for of the directory, the command queue and the fault queue is there: no frame is invented.
use Rattle.std.proofs.Common.{◌≡◌, ◌⊎◌, ◌∙◌, inl, inr, ℕ, zero, suc, ◌+◌, ◌*◌, ◌/◌, ◌-◌, ◌<◌, ◌≤◌, Bool, true, false, nat_lt, List, [], ◌∷◌, map, slice_get, Contains, Option, None, Some, Result, Ok, Err, if◌then◌else◌, subst, refl, sym, ap, arith}
use Rattle.std.specs.List.{range_with_len}
use Rattle.std.proofs.lemmas.Bool.Decides.{eqb_tells, leb_tells}
use Rattle.std.proofs.lemmas.Nat.{pow_pos}
use Rattle.std.proofs.lemmas.Bool.{false≢true}
use Rattle.iom_base.specs.declared.access.AccessKind.{AccessKind}
use Rattle.iom_base.specs.declared.cause.Cause.{Cause}
use Rattle.iom_device.specs.Caches.{device_with}
use Rattle.iom_device.specs.declared.device.Device.{Device}
use Rattle.iom_device_dir.specs.Located.{loaded_entry}
use Rattle.iom_device_dir.specs.Paths.{ddi, ids_below}
use Rattle.iom_device_dir.specs.declared.entry.NonLeafEntry.{NonLeafEntry}
use Rattle.iom_board.specs.BoardParts.{BoardParts}
use Rattle.iom_board.specs.Invariant.{AreOfOneId}
use Rattle.iom_iommu.specs.Parts.{registers_of}
use Rattle.iom_reach.specs.Memory.{Tables, WalkStep, Goes, ReadsFrame}
use Rattle.iom_reach.specs.Safe.{IsOfDirectory, IsOfQueue, HasWord, IsRead}
use Rattle.iom_reach.specs.Scene.{At}
use Rattle.iom_reach.specs.Ways.{Way}
use Rattle.iom_reach.proofs.TransitionLemmas.{contains_head, contains_tail}
use Rattle.iom_registers.specs.Fields.{entry_count}
use Rattle.iom_registers.specs.declared.queue_base.QueueBase.{QueueBase}
use Rattle.iom_registers.specs.declared.directory.DirectoryMode.{DirectoryMode}
use Rattle.iom_registers.specs.declared.directory.DirectoryMode.TheVariants as mode
use Rattle.iom_registers.specs.declared.registers.Registers.{Registers}
use Rattle.iom_registers.specs.Queues.{directory_mode, directory_root, fault_base, fault_entries}
use Rattle.iom_hardware_ways.specs.Formats.{word_in, found_non_leaf, context_format, indices_from, steps_of}
use Rattle.iom_hardware_ways.specs.Scenes.{directory_by, waiting_places, fault_frames_of}
use Rattle.iom_hardware_ways.proofs.FormatLemmas.{non_leaf_there, ddi_low, some_indices}
use Rattle.iom_hardware_ways.proofs.ListLemmas.{contains_map}
use Rattle.iom_table_survey.specs.Reaches.{frames_by}
use Rattle.iom_table_survey.specs.Rows.{row_has, frame_place, GrowsBy}
use Rattle.iom_stepped_requests.specs.declared.request.Request.{Request}
use Rattle.iom_stepped_requests.specs.declared.walk.RequestWalk.TheVariants.{InDirectory, InTables}
use Rattle.iom_stepped_requests.specs.declared.walk.Serving.{Serving}
use Rattle.iom_stepped_requests.specs.declared.walk.Serving.TheVariants.{GoesOn, Served}
use Rattle.iom_stepped_walk.specs.declared.directory.DirectoryWalk.{DirectoryWalk}
use Rattle.iom_stepped_ways.specs.Scenes.{stepped_scene, walk_in_page}
use Rattle.iom_walks.specs.Invariant.{AreWalks}
use Rattle.iom_walks.specs.Walks.{WalkRow}
use Rattle.iom_way_survey.specs.Walking.{serving_of}
use Rattle.iom_way_survey.proofs.UnderWayLemmas.{locating_added}
use Rattle.iom_way_survey.specs.Directories.{next_page_of, IsOnWay, IsOnPath, PathReads, RequestLocates, DirectoryReads}
use Rattle.iom_way_survey.specs.Queues.{IsFrameAmong, IsWordAmong, IsOfFaults}
use Rattle.iom_way_survey.specs.Found.{SomeTable}
use Rattle.iom_way_survey.specs.Surveys.{is_id_among, AreRowsOf}
use Rattle.iom_way_survey.specs.declared.findings.DeviceReach.{DeviceReach}
use Rattle.iom_way_survey.proofs.BackLemmas.{found_with, has, way_back, tables_back}
use Rattle.iom_way_survey.proofs.LookLemmas.{same_place}
use Rattle.iom_way_survey.proofs.WayLemmas.{device_place}

-- PATHS

off_way : (loaded : Result NonLeafEntry Cause) (IsOn Reads : ℕ → Type 0) → ((next : ℕ) → IsOn next → Reads next) → IsOnWay (next_page_of loaded) IsOn → Goes (found_non_leaf loaded) Reads (λ said. ⊥)
off_way (Ok entry) IsOn Reads later is = later entry.next.number is
off_way (Err cause) IsOn Reads later never = never

-- above the last level a non-leaf entry is read
goes_below : (memory : List (List ℕ)) (level page id frame : ℕ) (rest : List WalkStep) (first : WalkStep) (others : List WalkStep) → rest ≡ first ∷ others
    → Goes (found_non_leaf (loaded_entry (word_in (slice_get memory (page + 0)) (8 * ddi (suc level) id)))) (λ next. ReadsFrame context_format (slice_get memory) next rest frame) (λ said. ⊥)
    → ReadsFrame context_format (slice_get memory) page (record { frame = 0; place = ddi (suc level) id } ∷ rest) frame
goes_below memory level page id frame rest first others is goes =
    inr (subst (λ steps. Goes (context_format (slice_get memory (page + 0)) (ddi (suc level) id) steps) (λ next. ReadsFrame context_format (slice_get memory) next steps frame) (λ said. ⊥))
    (sym is)
    (subst (λ steps. Goes (found_non_leaf (loaded_entry (word_in (slice_get memory (page + 0)) (8 * ddi (suc level) id)))) (λ next. ReadsFrame context_format (slice_get memory) next steps frame) (λ said. ⊥)) is goes))

path_back : (memory : List (List ℕ)) (level page id frame : ℕ) → IsOnPath memory level page id frame → ReadsFrame context_format (slice_get memory) page (indices_from level id) frame
path_back memory zero page id frame is = inl (omega (arith, is))
path_back memory (suc level) page id frame (inl here) = inl (omega (arith, here))
path_back memory (suc level) page id frame (inr way) =
    let (first, others, all) = some_indices level id in
    goes_below memory level page id frame (indices_from level id) first others all
    (off_way (loaded_entry (word_in (slice_get memory (page + 0)) (8 * ddi (suc level) id))) (λ next. IsOnPath memory level next id frame)
    (λ next. ReadsFrame context_format (slice_get memory) next (indices_from level id) frame) (λ next on. path_back memory level next id frame on)
    (subst (λ w. IsOnWay (next_page_of (loaded_entry w)) (λ next. IsOnPath memory level next id frame)) (non_leaf_there memory page (ddi (suc level) id) (ddi_low level id)) way))

levels_back : (memory : List (List ℕ)) (level root id frame : ℕ) → IsOnPath memory level root id frame → nat_lt id (ids_below level) ≡ true
    → ReadsFrame context_format (slice_get memory) root (steps_of (suc level) id) frame
levels_back memory level root id frame on fits =
    subst (λ (b : Bool). ReadsFrame context_format (slice_get memory) root (if b then indices_from level id else []) frame) (sym fits) (path_back memory level root id frame on)

path_read : (m : DirectoryMode) (memory : List (List ℕ)) (root id frame : ℕ) → PathReads memory m root id frame
    → (tables : Tables) × ((directory_by m root ≡ At tables) × ReadsFrame context_format (slice_get memory) tables.root (steps_of tables.levels id) frame)
path_read mode.Off memory root id frame (never, fits) = absurd never
path_read mode.Bare memory root id frame (never, fits) = absurd never
path_read mode.OneLevel memory root id frame (on, fits) = (record { root = root; levels = 1 }, (refl, levels_back memory 0 root id frame on fits))
path_read mode.TwoLevels memory root id frame (on, fits) = (record { root = root; levels = 2 }, (refl, levels_back memory 1 root id frame on fits))
path_read mode.ThreeLevels memory root id frame (on, fits) = (record { root = root; levels = 3 }, (refl, levels_back memory 2 root id frame on fits))

-- FAULT RECORDS

range_has : (n from i : ℕ) → from ≤ i → i < from + n → Contains (range_with_len from n) i
range_has zero from i least low = absurd (omega (arith, least, low))
range_has (suc n) from i least low = elim (eqb_tells from i) [
  | inl is ↦ subst (λ (j : ℕ). Contains (range_with_len from (suc n)) j) is.1 (contains_head from (range_with_len (from + 1) n))
  | inr ne ↦ contains_tail from (range_with_len (from + 1) n) i (range_has n (from + 1) i (further from i least ne.1) (omega (arith, low)))
]
  where
    further : (a b : ℕ) → a ≤ b → (a ≡ b → ⊥) → a + 1 ≤ b
    further a b less differ = elim (cases a b) [ inl lower ↦ omega (arith, lower) | inr higher ↦ absurd (differ (omega (arith, less, higher))) ]
      where
        cases : (a b : ℕ) → (a < b) ⊎ (b ≤ a)
        cases a b = elim (leb_tells b a) [ inl is ↦ inr is.1 | inr is ↦ inl is.1 ]

record_there : (ppn entries frame : ℕ) → (ppn * 4096) / 4096 ≤ frame → frame ≤ (ppn * 4096 + 32 * (entries - 1)) / 4096 → 0 < entries
    → (index : ℕ) × ((index < entries) × ((ppn * 4096 + 32 * index) / 4096 ≡ frame))
record_there ppn entries frame least most some = (128 * (frame - ppn), (omega (arith, least, most, some), omega (arith, least, most, some)))

entries_some : (base : QueueBase) → 0 < entry_count base
unfolding entry_count
entries_some base = pow_pos (base.log2sz_less_1 + 1)

pub fault_back : (r : Registers) (frame : ℕ) → IsOfFaults r frame → Contains (fault_frames_of r) frame
fault_back r frame (on, (least, most)) =
    let (index, (low, is)) = record_there r.fqb.ppn (fault_entries r) frame least most (entries_some r.fqb) in
    subst (λ (b : Bool). Contains (if b then map (λ i. (fault_base r + 32 * i) / 4096) (range_with_len 0 (fault_entries r)) else []) frame) (sym on)
    (subst (λ (f : ℕ). Contains (map (λ i. (fault_base r + 32 * i) / 4096) (range_with_len 0 (fault_entries r))) f) is
    (contains_map (λ (i : ℕ). (fault_base r + 32 * i) / 4096) (range_with_len 0 (fault_entries r)) index (range_has (fault_entries r) 0 index (omega arith) (omega (arith, low)))))

-- a request on its way reads the pages on its path
still_locates : (memory : List (List ℕ)) (serving : Option Serving) (frame : ℕ) → RequestLocates memory serving frame
    → (request : Request) × (anew : Bool) × (stands : DirectoryWalk) × ((serving ≡ Some (GoesOn (InDirectory request anew stands))) × IsOnPath memory stands.level stands.page.number stands.id frame)
still_locates memory None frame never = absurd never
still_locates memory (Some (GoesOn (InDirectory request anew stands))) frame is = (request, anew, stands, (refl, is))
still_locates memory (Some (GoesOn (InTables request context kept_in walk))) frame never = absurd never
still_locates memory (Some (Served answer)) frame never = absurd never

module _ (trusted : ℕ → Bool) (parts : BoardParts) (rows : List WalkRow) (walks : AreWalks rows) where
  pub directory_back : (frame : ℕ) → DirectoryReads parts rows frame → IsOfDirectory (stepped_scene trusted parts rows) frame
  directory_back frame (k, low, (device, at, inr locates)) =
      let (request, anew, stands, (serves, on)) = still_locates parts.memory (serving_of rows device.id) frame locates in
      inr (walk_in_page device.id stands.id stands.level stands.page.number, locating_added rows walks device.id request anew stands serves, path_back parts.memory stands.level stands.page.number stands.id frame on)
  directory_back frame (k, low, (device, at, inl reads)) =
      let (own, found) = found_with parts.devices k device at in
      let (tables, (is, read)) = path_read (directory_mode (registers_of parts.iommu)) parts.memory (directory_root (registers_of parts.iommu)) device.id frame reads in
      inl (device.id, tables, has trusted parts rows walks device.id own found, is, read)

  pub queue_back : (frame : ℕ) → IsFrameAmong (waiting_places (registers_of parts.iommu)) frame → IsOfQueue (stepped_scene trusted parts rows) frame
  queue_back frame (place, there, is) = (
    place.offset,
    subst (λ (f : ℕ). Contains (waiting_places (registers_of parts.iommu)) (record { frame = f; offset = place.offset })) (sym is) there,
  )

  pub word_back : (frame : ℕ) → IsWordAmong parts.memory (waiting_places (registers_of parts.iommu)) frame → HasWord (stepped_scene trusted parts rows) frame
  word_back frame word = word

-- ALL THAT IS READ, AND ALL THAT IS STORED

none_of : (row : List ℕ) (frame : ℕ) → ((f : ℕ) → row_has row f ≡ false) → row_has row frame ≡ true → ⊥
none_of row frame clear is = false≢true (sym (clear frame) ∙ is)

pub read_back : (trusted : ℕ → Bool) (parts : BoardParts) (rows : List WalkRow) → AreWalks rows → (none tables directory all : List ℕ) → ((f : ℕ) → row_has none f ≡ false) → GrowsBy none tables (SomeTable parts rows)
    → GrowsBy tables directory (DirectoryReads parts rows) → GrowsBy directory all (IsFrameAmong (waiting_places (registers_of parts.iommu))) → (frame : ℕ) → row_has all frame ≡ true
    → (other : ℕ) × IsRead (stepped_scene trusted parts rows) other × (frame_place other ≡ frame_place frame)
read_back trusted parts rows walks none tables directory all clear one two three frame is = elim (three.sole frame is) [
  | inr (other, queue, same) ↦ (other, inr (inr (queue_back trusted parts rows walks other queue)), same)
  | inl before ↦ elim (two.sole frame before) [
    | inr (other, path, same) ↦ (other, inr (inl (directory_back trusted parts rows walks other path)), same)
    | inl first ↦ elim (one.sole frame first) [
      | inr (other, table, same) ↦ (other, inl (tables_back trusted parts rows walks other table), same)
      | inl nothing ↦ absurd (none_of none frame clear nothing)
    ]
  ]
]

pub stored_back : (trusted : ℕ → Bool) (parts : BoardParts) (rows : List WalkRow) (none words all : List ℕ) → ((f : ℕ) → row_has none f ≡ false)
    → GrowsBy none words (IsWordAmong parts.memory (waiting_places (registers_of parts.iommu))) → GrowsBy words all (IsOfFaults (registers_of parts.iommu)) → (frame : ℕ) → row_has all frame ≡ true
    → (other : ℕ) × (Contains (stepped_scene trusted parts rows).fault_frames other ⊎ HasWord (stepped_scene trusted parts rows) other) × (frame_place other ≡ frame_place frame)
stored_back trusted parts rows none words all clear one two frame is = elim (two.sole frame is) [
  | inr (other, fault, same) ↦ (other, inl (fault_back (registers_of parts.iommu) other fault), same)
  | inl before ↦ elim (one.sole frame before) [
    | inr (other, word, same) ↦ (other, inr word, same)
    | inl nothing ↦ absurd (none_of none frame clear nothing)
  ]
]

-- WAYS

-- a row at a place is that of the device at the place, and no other device has its id
device_at : (devices : List Device) (k : ℕ) (device : Device) → AreOfOneId devices → slice_get devices k ≡ Some device → device_with devices device.id ≡ Some device
device_at devices k device single at =
    let (own, found) = found_with devices k device at in
    let (j, low, (here, same)) = device_place devices device.id own found in
    let place : j ≡ k = single j k own device here at same in
    let both : Some own ≡ Some device = sym here ∙ ap (slice_get devices) place ∙ at in
    found ∙ both

pub rows_back : (parts : BoardParts) (under_way : List WalkRow) → AreWalks under_way → (trusted : List ℕ) (rows : List DeviceReach) → AreOfOneId parts.devices → AreRowsOf parts under_way trusted rows
    → (k : ℕ) (row : DeviceReach) (frame : ℕ) (kind : AccessKind) → slice_get rows k ≡ Some row → row_has (frames_by row.reach kind) frame ≡ true
    → (other : ℕ) × Way (stepped_scene (is_id_among trusted) parts under_way) row.id other kind × (frame_place other ≡ frame_place frame)
rows_back parts under_way walks trusted rows single are k row frame kind at is =
    let (device, here) = same_place rows parts.devices k row are.long at in
    let own = are.each k row device at here in
    let (other, way, place) = (own.reach kind).sole frame is in (
      other,
      subst (λ (n : ℕ). Way (stepped_scene (is_id_among trusted) parts under_way) n other kind) (sym own.id)
          (way_back (is_id_among trusted) parts under_way walks device other kind (device_at parts.devices k device single here) way),
      place,
    )
