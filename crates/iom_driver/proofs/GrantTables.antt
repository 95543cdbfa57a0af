-- The tables of a device that gets a page: what it may be mapped with, and what they are then.
use Rattle.std.proofs.Common.{◌≡◌, ◌≢◌, ◌/◌, ◌<◌, ◌≤◌, ◌==◌, ◌&&◌, ◌⊎◌, inl, inr, ◌∙◌, ℕ, true, false, List, [], ◌∷◌, length, Option, Some, None, option_map, is_some, slice_get, get_or, refl, sym, ap, subst, arith, All, Contains, if◌then◌else◌}
use Rattle.std.specs.Prelude.{◌↔◌}
use Rattle.std.specs.Option.{option_map_or}
use Rattle.std.proofs.lemmas.Bool.{eq-eqb}
use Rattle.std.proofs.lemmas.Bool.Decides.{eqb_tells}
use Rattle.iom_base.specs.declared.rights.Rights.{Rights}
use Rattle.iom_ledger.specs.declared.ledger.Ledger.{Ledger}
use Rattle.iom_ledger.specs.Changes as changes
use Rattle.iom_ledger.specs.Shown.{held_in}
use Rattle.iom_stage_walk.specs.Entries.{Entries, entries, slot}
use Rattle.iom_stage_walk.specs.Paths.{path_of}
use Rattle.iom_stage_walk.specs.declared.entry.Entry.{Entry}
use Rattle.iom_stage_walk.specs.declared.entry.Entry.TheVariants.{Outside, Invalid, Pointer, Leaf}
use Rattle.iom_stage_walk.proofs.Alike.{Alike, same_entry}
use Rattle.iom_page_table.specs.declared.leaf.PageLeaf.{PageLeaf}
use Rattle.iom_page_table.specs.Leaves.{leaf_of}
use Rattle.iom_page_table.specs.FirstTables.{IsRoot, HasTable, ChangesLeaf, KeepsOutside, KeepsTables, missing_for, mapped}
use Rattle.iom_page_table.specs.Trees.{shape_of, IsFrameOf, AreFresh, missing_under, missing_here}
use Rattle.iom_page_table.proofs.Pages.{path_shaped}
use Rattle.iom_page_table.proofs.Unchanged.{unchanged}
use Rattle.iom_page_table.proofs.Trees.{AlikeOn, alike_in}
use Rattle.iom_base.specs.declared.mode.Mode.{Mode}
use Rattle.iom_base.specs.Modes.{size_in}
use Rattle.iom_base.specs.declared.size.Size.{Size}
use Rattle.iom_base.specs.declared.size.Size.TheVariants.{Sv39, Sv48}
use Rattle.iom_base.specs.Sizes.{levels_of, page_limit_of, table_limit_of}
use Rattle.iom_base.specs.declared.owner.Owner.{Owner}
use Rattle.iom_base.specs.declared.owner.Owner.TheVariants.{OneDevice}
use Rattle.iom_table_frames.specs.Owners.{IsFreeForTable, has_owner}
use Rattle.iom_driver.specs.declared.device.Device.{Device}
use Rattle.iom_driver.specs.declared.device.Stages.{Stages}
use Rattle.iom_driver.specs.Calls.{KeepsOtherFrames}
use Rattle.iom_driver.specs.Choices.{owned_by, cleared}
use Rattle.iom_driver.specs.Devices.{owned_stages_of}
use Rattle.iom_driver.specs.Tables.{AreTablesOf, HaveTables, leaf_for}
use Rattle.iom_driver.proofs.Chosen.{AreChosen}
use Rattle.iom_driver.proofs.Keeps.{here_or_there}
use Rattle.iom_driver.proofs.Limits.{low_page}
use Rattle.iom_driver.proofs.Taken.{unmarked, owned_differs}
use Rattle.iom_driver.proofs.Owners.{Among, NotAmong, not_among, among_not, among_contained, among_get, mark_stays, bytes_stay, marked_still, marked_among, zero_among}
use Rattle.iom_driver.proofs.Modes.{rest, rooted, root_in, table_of, table_in}
use Rattle.iom_driver.proofs.StandingLemmas.{keeps_through}
use Rattle.iom_driver.proofs.Unchanged.{tables_stay}

-- as many tables are missing on a path whose entries are alike
missing_at : (old new : Entries) (x : Entry) (below : List ℕ) → ((next : ℕ) → x ≡ Pointer next → missing_under new next below ≡ missing_under old next below)
    → missing_here x below (λ next. missing_under new next below) ≡ missing_here x below (λ next. missing_under old next below)
missing_at old new Outside below go = refl
missing_at old new Invalid below go = refl
missing_at old new (Pointer next) below go = go next refl
missing_at old new (Leaf base rights) below go = refl

missing_alike : (old new : Entries) (table : ℕ) (is : List ℕ) → Alike old new table is → missing_under new table is ≡ missing_under old table is
missing_alike old new table [] alike = refl
missing_alike old new table (i ∷ below) alike =
    ap (λ x. missing_here x below (λ next. missing_under new next below)) alike.0
    ∙ missing_at old new (old (slot table i)) below (λ next at. missing_alike old new next below (alike.1 next at))

pub missing_stays : (size : Size) (old new : List (List ℕ)) (root page : ℕ) → ((f : ℕ) → IsFrameOf (shape_of size) (entries old) root f → slice_get new f ≡ slice_get old f) → missing_for size new root page ≡ missing_for size old root page
missing_stays size old new root page same =
    let on : AlikeOn (shape_of size) (entries old) (entries new) root = λ p i s at. same_entry old new s (same (s / 512) (p, i, s, at, refl)) in
    missing_alike (entries old) (entries new) root (path_of (shape_of size) page)
    (alike_in (shape_of size) (entries old) (entries new) root (path_of (shape_of size) page) on (path_shaped size page) (path_of (shape_of size) page) [] root refl refl)

-- a page lacks at most one table for each level below the root
here_low : (x : Entry) (below : List ℕ) (follow : ℕ → ℕ) → ((next : ℕ) → follow next ≤ length below) → missing_here x below follow ≤ length below
here_low Outside below follow low = omega arith
here_low Invalid below follow low = omega arith
here_low (Pointer next) below follow low = low next
here_low (Leaf base rights) below follow low = omega arith

missing_low : (e : Entries) (t i : ℕ) (below : List ℕ) → missing_under e t (i ∷ below) ≤ length below
missing_low e t i [] = here_low (e (slot t i)) [] (λ next. 0) (λ next. omega arith)
missing_low e t i (j ∷ below) = here_low (e (slot t i)) (j ∷ below) (λ next. missing_under e next (j ∷ below)) (λ next. omega (arith, missing_low e next j below))

pub missing_limit : (size : Size) (memory : List (List ℕ)) (root page : ℕ) → missing_for size memory root page ≤ table_limit_of size
missing_limit Sv39 memory root page = missing_low (entries memory) root _ (_ ∷ _ ∷ [])
missing_limit Sv48 memory root page = missing_low (entries memory) root _ (_ ∷ _ ∷ _ ∷ [])

pub missing_few : (size : Size) (memory : List (List ℕ)) (root page : ℕ) → missing_for size memory root page ≤ 3
missing_few Sv39 memory root page = let few : missing_for Sv39 memory root page ≤ 2 = missing_limit Sv39 memory root page in omega (arith, few)
missing_few Sv48 memory root page = missing_limit Sv48 memory root page

-- a frame that is free for a table is none of a device's tables
not_a_table : (memory : List (List ℕ)) (owners : List (Option Owner)) (ledger : Ledger) (id : ℕ) (mode : Mode) (root f : ℕ) → AreTablesOf memory owners ledger id mode root → has_owner owners f ≡ false → IsFrameOf (shape_of (size_in mode)) (entries memory) root f → ⊥
not_a_table memory owners ledger id mode root f tables free at =
    contra (sym (ap (λ (o : Option (Option Owner)). option_map_or (λ m. is_some m) o false) (tables.own f (table_in mode memory root f (inl at)))) ∙ free)
  where
    contra : true ≡ false → ⊥
    contra e = cc

-- the tables' frames keep their bytes while free frames are cleared
table_bytes : (memory : List (List ℕ)) (owners : List (Option Owner)) (ledger : Ledger) (id : ℕ) (mode : Mode) (root named : ℕ) (chosen : List ℕ) → AreTablesOf memory owners ledger id mode root
    → All (λ f. IsFreeForTable owners ledger (Some named) f) chosen → (f : ℕ) → IsFrameOf (shape_of (size_in mode)) (entries memory) root f → slice_get (cleared chosen memory) f ≡ slice_get memory f
table_bytes memory owners ledger id mode root named chosen tables free f at =
    bytes_stay f chosen memory (not_among (λ t. IsFreeForTable owners ledger (Some named) t) f chosen free (λ is_free. not_a_table memory owners ledger id mode root f tables is_free.unmarked at))

-- what a map of the page asks, once the free frames are cleared
pub record MayBeMapped (size : Size) (memory : List (List ℕ)) (root page : ℕ) (chosen : List ℕ) : Type 0 where
  pub tree : IsRoot size memory root
  pub free : leaf_of (levels_of size) memory root page ≡ None
  pub count : length chosen ≡ missing_for size memory root page
  pub fresh : AreFresh (shape_of size) memory root chosen

pub may_be_mapped : (memory : List (List ℕ)) (owners : List (Option Owner)) (ledger : Ledger) (id : ℕ) (mode : Mode) (root page named count : ℕ) (chosen : List ℕ) → AreTablesOf memory owners ledger id mode root
    → page < page_limit_of (size_in mode) → held_in ledger id page ≡ None → count ≡ missing_for (size_in mode) memory root page → AreChosen owners ledger (Some named) (length memory) count chosen
    → MayBeMapped (size_in mode) (cleared chosen memory) root page chosen
may_be_mapped memory owners ledger id mode root page named count chosen tables low none counted chose =
    let same = table_bytes memory owners ledger id mode root named chosen tables chose.free in
    let stay = unchanged (size_in mode) memory (cleared chosen memory) root (rooted mode memory root tables.tree).tree same in
    record {
      tree = stay.tree;
      free = stay.leaves page ∙ tables.leaves page (low_page (size_in mode) page low) ∙ ap (option_map leaf_for) none;
      count = chose.many ∙ counted ∙ sym (missing_stays (size_in mode) memory (cleared chosen memory) root page same);
      fresh = record {
        zero = λ k d lt. zero_among chosen memory chose.inside (get_or chosen k d) (among_get chosen k d lt);
        outside = λ k d lt at. not_a_table memory owners ledger id mode root (get_or chosen k d) tables (chose.free k d lt).unmarked ((stay.tables (get_or chosen k d)).0 at);
        distinct = chose.distinct;
      };
    }

-- the map of a page, in frames that were free
pub record IsMapped (size : Size) (memory memory' : List (List ℕ)) (root page : ℕ) (mapping : PageLeaf) (chosen : List ℕ) : Type 0 where
  pub tree : IsRoot size memory' root
  pub tables : (f : ℕ) → HasTable size memory' root f ↔ (HasTable size memory root f ⊎ Contains chosen f)
  pub leaf : ChangesLeaf size memory memory' root page (Some mapping)
  pub outside : KeepsOutside size memory memory' root
  pub keeps : KeepsTables size memory memory' root
  pub long : length memory' ≡ length memory

-- each frame of the mapped tables is the device's
mapped_own : (memory memory' : List (List ℕ)) (owners : List (Option Owner)) (ledger : Ledger) (id : ℕ) (mode : Mode) (root page named count : ℕ) (leaf : PageLeaf) (chosen : List ℕ) → length owners ≡ length memory
    → AreTablesOf memory owners ledger id mode root
    → AreChosen owners ledger (Some named) (length memory) count chosen → IsMapped (size_in mode) (cleared chosen memory) memory' root page leaf chosen → (f : ℕ) → HasTable (size_in mode) memory' root f → slice_get (owned_by (OneDevice id) chosen owners) f ≡ Some (Some (OneDevice id))
mapped_own memory memory' owners ledger id mode root page named count leaf chosen long tables chose mapped f at = by ((mapped.tables f).0 at)
  where
    by : HasTable (size_in mode) (cleared chosen memory) root f ⊎ Contains chosen f → slice_get (owned_by (OneDevice id) chosen owners) f ≡ Some (Some (OneDevice id))
    by (inl was) = marked_still (OneDevice id) f chosen owners
        (tables.own f (table_in mode memory root f (inl (((unchanged (size_in mode) memory (cleared chosen memory) root (rooted mode memory root tables.tree).tree (table_bytes memory owners ledger id mode root named chosen tables chose.free)).tables f).0 was))))
    by (inr new) = marked_among (OneDevice id) f chosen owners (λ k d lt. subst (λ n. get_or chosen k d < n) (sym long) (chose.inside k d lt)) (among_contained f chosen new)

-- a frame that is another's, or nobody's, keeps its bytes
pub mapped_others : (memory memory' : List (List ℕ)) (owners : List (Option Owner)) (ledger : Ledger) (id : ℕ) (mode : Mode) (root page named count n : ℕ) (leaf : PageLeaf) (chosen : List ℕ) → length owners ≡ length memory
    → AreTablesOf memory owners ledger id mode root
    → AreChosen owners ledger (Some named) (length memory) count chosen → IsMapped (size_in mode) (cleared chosen memory) memory' root page leaf chosen
    → (slice_get (owned_by (OneDevice id) chosen owners) n ≡ Some (Some (OneDevice id)) → ⊥) → slice_get memory' n ≡ slice_get (cleared chosen memory) n
mapped_others memory memory' owners ledger id mode root page named count n leaf chosen long tables chose mapped differs =
    mapped.outside n (λ at. differs (mapped_own memory memory' owners ledger id mode root page named count leaf chosen long tables chose mapped n at))

-- each frame that isn't the device's afterwards keeps its bytes
pub others_kept : (memory memory' : List (List ℕ)) (owners : List (Option Owner)) (ledger : Ledger) (id : ℕ) (mode : Mode) (root page named count : ℕ) (leaf : PageLeaf) (chosen : List ℕ) → length owners ≡ length memory
    → AreTablesOf memory owners ledger id mode root
    → AreChosen owners ledger (Some named) (length memory) count chosen → IsMapped (size_in mode) (cleared chosen memory) memory' root page leaf chosen
    → KeepsOtherFrames (owned_by (OneDevice id) chosen owners) id memory memory'
others_kept memory memory' owners ledger id mode root page named count leaf chosen long tables chose mapped f differs =
    let inside : All (λ n. n < length owners) chosen = λ k d lt. subst (λ n. get_or chosen k d < n) (sym long) (chose.inside k d lt) in
    mapped_others memory memory' owners ledger id mode root page named count f leaf chosen long tables chose mapped differs
    ∙ bytes_stay f chosen memory (not_among (λ n. slice_get (owned_by (OneDevice id) chosen owners) n ≡ Some (Some (OneDevice id))) f chosen
    (λ k d lt. marked_among (OneDevice id) (get_or chosen k d) chosen owners inside (among_get chosen k d lt)) differs)

-- each table that was is where it was
pub granted_keeps : (memory memory' : List (List ℕ)) (owners : List (Option Owner)) (ledger : Ledger) (id : ℕ) (mode : Mode) (root page named count : ℕ) (leaf : PageLeaf) (chosen : List ℕ)
    → AreTablesOf memory owners ledger id mode root → AreChosen owners ledger (Some named) (length memory) count chosen → IsMapped (size_in mode) (cleared chosen memory) memory' root page leaf chosen
    → KeepsTables (size_in mode) memory memory' root
granted_keeps memory memory' owners ledger id mode root page named count leaf chosen tables chose mapped =
    keeps_through (size_in mode) memory (cleared chosen memory) memory' root
    (unchanged (size_in mode) memory (cleared chosen memory) root (rooted mode memory root tables.tree).tree (table_bytes memory owners ledger id mode root named chosen tables chose.free)).keeps
    mapped.keeps

-- a frame that is somebody's isn't chosen
not_chosen : (memory : List (List ℕ)) (owners : List (Option Owner)) (ledger : Ledger) (named count n : ℕ) (chosen : List ℕ) (owner : Owner) → length owners ≡ length memory
    → AreChosen owners ledger (Some named) (length memory) count chosen → slice_get owners n ≡ Some (Some owner) → NotAmong n chosen
not_chosen memory owners ledger named count n chosen owner long chose mark =
    not_among (λ t. (t < length memory) × IsFreeForTable owners ledger (Some named) t) n chosen (λ k d lt. (chose.inside k d lt, chose.free k d lt))
    (λ is_free. owned_differs owners n n owner mark (unmarked owners n (subst (λ m. n < m) (sym long) is_free.0) is_free.1.unmarked) refl)

-- a frame that is somebody else's keeps its bytes
pub kept_others : (memory memory' : List (List ℕ)) (owners : List (Option Owner)) (ledger : Ledger) (id : ℕ) (mode : Mode) (root page named count n : ℕ) (leaf : PageLeaf) (chosen : List ℕ) (owner : Owner)
    → length owners ≡ length memory → AreTablesOf memory owners ledger id mode root → AreChosen owners ledger (Some named) (length memory) count chosen → IsMapped (size_in mode) (cleared chosen memory) memory' root page leaf chosen
    → slice_get owners n ≡ Some (Some owner) → owner ≢ OneDevice id → slice_get memory' n ≡ slice_get memory n
kept_others memory memory' owners ledger id mode root page named count n leaf chosen owner long tables chose mapped mark other =
    let apart = not_chosen memory owners ledger named count n chosen owner long chose mark in
    mapped_others memory memory' owners ledger id mode root page named count n leaf chosen long tables chose mapped
    (λ now. let both : ◌≡◌ {A = Option (Option Owner)} (Some (Some owner)) (Some (Some (OneDevice id))) = sym mark ∙ sym (mark_stays (OneDevice id) n chosen owners apart) ∙ now in other cc)
    ∙ bytes_stay n chosen memory apart

-- what the map of the page writes, where the frames are cleared first
pub mapped_is : (size : Size) (memory before after : List (List ℕ)) (root page : ℕ) (leaf granted : PageLeaf) (clears maps chosen : List ℕ) → after ≡ mapped size before root page leaf maps
    → before ≡ cleared clears memory → clears ≡ chosen → maps ≡ chosen → leaf ≡ granted → after ≡ mapped size (cleared chosen memory) root page granted chosen
mapped_is size memory before after root page leaf granted clears maps chosen whole is clears_is maps_is leaf_is =
    whole ∙ ap (λ m. mapped size m root page leaf maps) (is ∙ ap (λ fs. cleared fs memory) clears_is) ∙ ap (λ fs. mapped size (cleared chosen memory) root page leaf fs) maps_is
    ∙ ap (λ l. mapped size (cleared chosen memory) root page l chosen) leaf_is

-- the tables of all devices
pub tables_granted : (memory memory' : List (List ℕ)) (owners : List (Option Owner)) (old new : Ledger) (devices : List Device) (id page frame count : ℕ) (rights : Rights) (stage : Stages) (chosen : List ℕ)
    → length owners ≡ length memory → HaveTables memory owners old devices → owned_stages_of devices id ≡ Some stage → page < page_limit_of (size_in stage.mode)
    → changes.ShowsGrant old new id page (frame, rights) → AreChosen owners old (Some frame) (length memory) count chosen
    → IsMapped (size_in stage.mode) (cleared chosen memory) memory' stage.root page (record { frame = frame; rights = rights }) chosen → HaveTables memory' (owned_by (OneDevice id) chosen owners) new devices
tables_granted memory memory' owners old new devices id page frame count rights stage chosen long tables attached low granted chose mapped other found at =
    elim (eqb_tells other id) [
      | inl e ↦
          let both : Some stage ≡ Some found = sym attached ∙ ap (λ i. owned_stages_of devices i) (sym e.1) ∙ at in
          let same : stage ≡ found = cc in
          subst (λ i. AreTablesOf memory' (owned_by (OneDevice id) chosen owners) new i found.mode found.root) (sym e.1)
          (subst (λ (s : Stages). AreTablesOf memory' (owned_by (OneDevice id) chosen owners) new id s.mode s.root) same own_tables)
      | inr ne ↦ tables_stay memory memory' owners (owned_by (OneDevice id) chosen owners) old new other found.mode found.root (tables other found at)
          (λ n mark. (
            kept_others memory memory' owners old id stage.mode stage.root page frame count n (record { frame = frame; rights = rights }) chosen (OneDevice other) long before chose mapped mark (λ same. ne.1 (one_id other same)),
            mark_stays (OneDevice id) n chosen owners (not_chosen memory owners old frame count n chosen (OneDevice other) long chose mark),
          ))
          (λ p. elim (here_or_there id page other p (frame, rights) (held_in old other p) (held_in new other p) (granted.held other p)) [ inl now ↦ absurd (ne.1 (sym now.0)) | inr still ↦ still.1 ])
    ]
  where
    one_id : (i : ℕ) → ◌≡◌ {A = Owner} (OneDevice i) (OneDevice id) → i ≡ id
    one_id i same = cc

    before : AreTablesOf memory owners old id stage.mode stage.root
    before = tables id stage attached

    leaf_by : (p : ℕ) → leaf_of (levels_of (size_in stage.mode)) (cleared chosen memory) stage.root p ≡ option_map leaf_for (held_in old id p)
        → (if p == page then Some (record { frame = frame; rights = rights }) else leaf_of (levels_of (size_in stage.mode)) (cleared chosen memory) stage.root p) ≡ option_map leaf_for (held_in new id p)
    leaf_by p was = elim (eqb_tells p page) [
      | inl e ↦
          let chosen_pair : (if (id == id) && (page == p) then Some (frame, rights) else held_in old id p) ≡ Some (frame, rights) = rw (eq-eqb id id refl, eq-eqb page p (sym e.1)) refl in
          let now : held_in new id p ≡ Some (frame, rights) = granted.held id p ∙ chosen_pair in
          rw e.0 (sym (ap (option_map leaf_for) now))
      | inr ne ↦ rw ne.0 (was ∙ sym (ap (option_map leaf_for) (elim (here_or_there id page id p (frame, rights) (held_in old id p) (held_in new id p) (granted.held id p)) [ inl now ↦ absurd (ne.1 (sym now.1)) | inr still ↦ still.1 ])))
    ]

    -- the root's other frames are none of the chosen ones, and no tables
    unchosen : (f : ℕ) → Among f (rest stage.mode stage.root) → NotAmong f chosen
    unchosen f here = not_chosen memory owners old frame count f chosen (OneDevice id) long chose (before.own f (table_in stage.mode memory stage.root f (inr here)))

    own_tables : AreTablesOf memory' (owned_by (OneDevice id) chosen owners) new id stage.mode stage.root
    own_tables =
        let was = rooted stage.mode memory stage.root before.tree in
        let stay = unchanged (size_in stage.mode) memory (cleared chosen memory) stage.root was.tree (table_bytes memory owners old id stage.mode stage.root frame chosen before chose.free) in
        let apart : (f : ℕ) → HasTable (size_in stage.mode) memory' stage.root f → Among f (rest stage.mode stage.root) → ⊥ =
        λ f at here. elim ((mapped.tables f).0 at) [
          | inl still ↦ was.apart f ((stay.tables f).0 still) here
          | inr new ↦ among_not f chosen (unchosen f here) (among_contained f chosen new)
        ] in
        record {
          tree = root_in stage.mode memory' stage.root record {
            tree = mapped.tree;
            others = λ f here. mapped.outside f (λ at. apart f at here) ∙ bytes_stay f chosen memory (unchosen f here) ∙ was.others f here;
            apart = apart;
            aligned = was.aligned;
          };
          own = λ f at. elim (table_of stage.mode memory' stage.root f at) [
            | inl now ↦ mapped_own memory memory' owners old id stage.mode stage.root page frame count (record { frame = frame; rights = rights }) chosen long before chose mapped f now
            | inr here ↦ marked_still (OneDevice id) f chosen owners (before.own f (table_in stage.mode memory stage.root f (inr here)))
          ];
          low = λ p high. elim (here_or_there id page id p (frame, rights) (held_in old id p) (held_in new id p) (granted.held id p)) [
            | inl now ↦ absurd (omega (arith, low, now.1, high))
            | inr still ↦ still.1 ∙ before.low p high
          ];
          leaves = λ p below. mapped.leaf p below ∙ leaf_by p (stay.leaves p ∙ before.leaves p below);
        }
