-- The frames that hardware reads for tables and for the directory are looked for.
use Rattle.std.proofs.Common.{◌≡◌, ◌⊎◌, inl, inr, ℕ, zero, suc, ◌+◌, ◌*◌, Bool, true, false, nat_lt, List, [], ◌∷◌, slice_get, Option, None, Some, Result, Ok, Err, if◌then◌else◌, subst, refl, sym, ap, arith}
use Rattle.iom_base.specs.declared.cause.Cause.{Cause}
use Rattle.iom_device.specs.declared.device.Device.{Device}
use Rattle.iom_device_dir.specs.Located.{loaded_entry}
use Rattle.iom_device_dir.specs.Paths.{ddi, ids_below}
use Rattle.iom_device_dir.specs.declared.context.Context.{Context as DeviceContext}
use Rattle.iom_device_dir.specs.declared.entry.NonLeafEntry.{NonLeafEntry}
use Rattle.iom_board.specs.BoardParts.{BoardParts}
use Rattle.iom_iommu.specs.Parts.{registers_of}
use Rattle.iom_reach.specs.Memory.{Tables, WalkStep, Goes, ReadsFrame}
use Rattle.iom_reach.specs.Safe.{IsOfTables, IsOfDirectory}
use Rattle.iom_reach.specs.Scene.{Directory, Off, Bare, At, DirectoryWalk}
use Rattle.iom_registers.specs.declared.directory.DirectoryMode.{DirectoryMode}
use Rattle.iom_registers.specs.declared.directory.DirectoryMode.TheVariants as mode
use Rattle.iom_registers.specs.Queues.{directory_mode, directory_root}
use Rattle.iom_hardware_ways.specs.Formats.{word_in, context_found, found_non_leaf, stored_context, context_format, indices_from, steps_of}
use Rattle.iom_hardware_ways.specs.Scenes.{directory_by}
use Rattle.iom_hardware_ways.proofs.FormatLemmas.{non_leaf_there, ddi_low, some_indices}
use Rattle.iom_tlb.specs.declared.space.Space.{Space}
use Rattle.iom_way_survey.specs.Laws.{ArePlugged}
use Rattle.iom_stepped_requests.specs.declared.walk.Serving.{Serving}
use Rattle.iom_stepped_ways.specs.Scenes.{stepped_scene}
use Rattle.iom_walks.specs.Invariant.{AreWalks}
use Rattle.iom_walks.specs.Walks.{WalkRow}
use Rattle.iom_way_survey.specs.Directories.{next_page_of, IsOnWay, IsOnPath, PathReads, RequestLocates, DirectoryReads}
use Rattle.iom_way_survey.specs.Found.{cached_found, stored_found, sought_found, FoundTable, DeviceTable, SpaceTable, TablesThrough, TablesFound, TablesOfDevice, SomeTable}
use Rattle.iom_way_survey.specs.Walking.{serving_of, WalkReads}
use Rattle.iom_way_survey.proofs.UnderWayLemmas.{locating_under_way}
use Rattle.iom_way_survey.proofs.WayLemmas.{plugged, device_place, table_of, walks_still}

-- PATHS

none_goes : (loaded : Result DeviceContext Cause) → Goes (context_found loaded) (λ next. ⊥) (λ said. ⊥) → ⊥
none_goes (Ok context) never = never
none_goes (Err cause) never = never

on_way : (loaded : Result NonLeafEntry Cause) (Reads IsOn : ℕ → Type 0) → ((next : ℕ) → Reads next → IsOn next) → Goes (found_non_leaf loaded) Reads (λ said. ⊥) → IsOnWay (next_page_of loaded) IsOn
on_way (Ok entry) Reads IsOn later goes = later entry.next.number goes
on_way (Err cause) Reads IsOn later never = never

-- before the last step a non-leaf entry is read
reads_below : (memory : List (List ℕ)) (level page id frame : ℕ) (rest : List WalkStep) (first : WalkStep) (others : List WalkStep) → rest ≡ first ∷ others
    → ReadsFrame context_format (slice_get memory) page (record { frame = 0; place = ddi (suc level) id } ∷ rest) frame
    → (page + 0 ≡ frame) ⊎ Goes (found_non_leaf (loaded_entry (word_in (slice_get memory (page + 0)) (8 * ddi (suc level) id)))) (λ next. ReadsFrame context_format (slice_get memory) next rest frame) (λ said. ⊥)
reads_below memory level page id frame rest first others is (inl here) = inl here
reads_below memory level page id frame rest first others is (inr goes) =
    inr (subst (λ steps. Goes (found_non_leaf (loaded_entry (word_in (slice_get memory (page + 0)) (8 * ddi (suc level) id)))) (λ next. ReadsFrame context_format (slice_get memory) next steps frame) (λ said. ⊥))
    (sym is)
    (subst (λ steps. Goes (context_format (slice_get memory (page + 0)) (ddi (suc level) id) steps) (λ next. ReadsFrame context_format (slice_get memory) next steps frame) (λ said. ⊥)) is goes))

on_path : (memory : List (List ℕ)) (level page id frame : ℕ) → ReadsFrame context_format (slice_get memory) page (indices_from level id) frame → IsOnPath memory level page id frame
on_path memory zero page id frame (inl here) = omega (arith, here)
on_path memory zero page id frame (inr goes) = absurd (none_goes (stored_context (slice_get memory (page + 0)) (32 * ddi 0 id)) goes)
on_path memory (suc level) page id frame reads =
    let (first, others, all) = some_indices level id in
    by (λ next rest. on_path memory level next id frame rest) (reads_below memory level page id frame (indices_from level id) first others all reads)
  where
    by : ((next : ℕ) → ReadsFrame context_format (slice_get memory) next (indices_from level id) frame → IsOnPath memory level next id frame)
        → (page + 0 ≡ frame) ⊎ Goes (found_non_leaf (loaded_entry (word_in (slice_get memory (page + 0)) (8 * ddi (suc level) id)))) (λ next. ReadsFrame context_format (slice_get memory) next (indices_from level id) frame) (λ said. ⊥)
        → IsOnPath memory (suc level) page id frame
    by deeper (inl here) = inl (omega (arith, here))
    by deeper (inr goes) =
        inr (subst (λ w. IsOnWay (next_page_of (loaded_entry w)) (λ next. IsOnPath memory level next id frame)) (sym (non_leaf_there memory page (ddi (suc level) id) (ddi_low level id)))
        (on_way (loaded_entry (word_in (slice_get memory (page + 0)) (8 * ddi (suc level) id))) (λ next. ReadsFrame context_format (slice_get memory) next (indices_from level id) frame)
        (λ next. IsOnPath memory level next id frame) deeper goes))

on_levels : (memory : List (List ℕ)) (level root id frame : ℕ) → ReadsFrame context_format (slice_get memory) root (steps_of (suc level) id) frame
    → IsOnPath memory level root id frame × (nat_lt id (ids_below level) ≡ true)
on_levels memory level root id frame reads = by (nat_lt id (ids_below level)) refl reads
  where
    by : (b : Bool) → nat_lt id (ids_below level) ≡ b → ReadsFrame context_format (slice_get memory) root (if b then indices_from level id else []) frame
        → IsOnPath memory level root id frame × (nat_lt id (ids_below level) ≡ true)
    by true is reads' = (on_path memory level root id frame reads', is)
    by false is never = absurd never

abbrev tree_of : Directory → Tables
tree_of Off = record { root = 0; levels = 0 }
tree_of Bare = record { root = 0; levels = 0 }
tree_of (At tables) = tables

path_reads : (m : DirectoryMode) (memory : List (List ℕ)) (root id frame : ℕ) (tables : Tables) → directory_by m root ≡ At tables
    → ReadsFrame context_format (slice_get memory) tables.root (steps_of tables.levels id) frame → PathReads memory m root id frame
path_reads mode.Off memory root id frame tables is reads = absurd (cc)
path_reads mode.Bare memory root id frame tables is reads = absurd (cc)
path_reads mode.OneLevel memory root id frame tables is reads =
    on_levels memory 0 root id frame (subst (λ (t : Tables). ReadsFrame context_format (slice_get memory) t.root (steps_of t.levels id) frame) (sym (ap tree_of is)) reads)
path_reads mode.TwoLevels memory root id frame tables is reads =
    on_levels memory 1 root id frame (subst (λ (t : Tables). ReadsFrame context_format (slice_get memory) t.root (steps_of t.levels id) frame) (sym (ap tree_of is)) reads)
path_reads mode.ThreeLevels memory root id frame tables is reads =
    on_levels memory 2 root id frame (subst (λ (t : Tables). ReadsFrame context_format (slice_get memory) t.root (steps_of t.levels id) frame) (sym (ap tree_of is)) reads)

module _ (trusted : ℕ → Bool) (parts : BoardParts) (rows : List WalkRow) (walks : AreWalks rows) (plugs : ArePlugged parts rows) where
  pub directory_reads : (frame : ℕ) → IsOfDirectory (stepped_scene trusted parts rows) frame → DirectoryReads parts rows frame
  directory_reads frame (inr (walk, there, reads)) =
      let (id, own, is, (request, anew, stands, (same, serves))) = locating_under_way rows walks walk there in
      let (plug, found) = plugs id own is in
      let (k, low, (here, named)) = device_place parts.devices id plug found in
      let reads' = subst (λ (w : DirectoryWalk). ReadsFrame context_format (slice_get parts.memory) w.table w.steps frame) same reads in
      let locates = subst (λ (o : Option Serving). RequestLocates parts.memory o frame) (sym serves) (on_path parts.memory stands.level stands.page.number stands.id frame reads') in
      (k, low, (plug, here, inr (subst (λ i. RequestLocates parts.memory (serving_of rows i) frame) (sym named) locates)))
  directory_reads frame (inl (id, tables, device, at, reads)) =
      let (plug, found) = plugged trusted parts rows walks plugs id device in
      let (k, low, (here, same)) = device_place parts.devices id plug found in (
        k,
        low,
        (
          plug,
          here,
          inl (subst (λ i. PathReads parts.memory (directory_mode (registers_of parts.iommu)) (directory_root (registers_of parts.iommu)) i frame) (sym same)
              (path_reads (directory_mode (registers_of parts.iommu)) parts.memory (directory_root (registers_of parts.iommu)) id frame tables at reads)),
        ),
      )

  -- TABLES

  found_tables : (s : Space) (found : Option DeviceContext) (frame : ℕ) → FoundTable parts.memory s found frame → SpaceTable parts rows s frame → TablesFound parts rows found frame
  found_tables s None frame never space = absurd never
  found_tables s (Some context) frame (is, table) space = subst (λ (o : Option Space). TablesThrough parts rows o frame) (sym is) space

  pub tables_read : (frame : ℕ) → IsOfTables (stepped_scene trusted parts rows) frame → SomeTable parts rows frame
  tables_read frame reads =
      let (s, (k, low, (device, here, table))) = table_of trusted parts rows walks plugs frame reads in
      (k, low, (device, here, by s device table (k, low, (device, here, table))))
    where
      by : (s : Space) (device : Device) → DeviceTable parts rows s device.id frame → SpaceTable parts rows s frame → TablesOfDevice parts rows device.id frame
      by s device (inl (inl cached)) space = inl (inl (found_tables s (cached_found parts device.id) frame cached space))
      by s device (inl (inr stored)) space = inl (inr (found_tables s (stored_found parts device.id) frame stored space))
      by s device (inr (inl sought)) space = inr (inl (found_tables s (sought_found parts rows device.id) frame sought space))
      by s device (inr (inr reads')) space = inr (inr (walks_still (serving_of rows device.id) (λ kept walk. (kept ≡ s) × WalkReads parts.memory walk frame) (λ kept walk. WalkReads parts.memory walk frame) (λ kept walk (is, read). read) reads'))
