-- Tables of devices, and pages of the directory, that are where they were after a call.
use Rattle.std.proofs.Common.{◌≡◌, ◌≢◌, ◌∙◌, inl, inr, ℕ, true, List, length, Option, Some, slice_get, sym, ap, subst}
use Rattle.std.proofs.lemmas.Bool.Decides.{eqb_tells}
use Rattle.iom_base.specs.Modes.{size_in}
use Rattle.iom_base.specs.declared.mode.Mode.{Mode}
use Rattle.iom_base.specs.declared.mode.Mode.TheVariants.{First, Second, Both}
use Rattle.iom_base.specs.declared.owner.Owner.{Owner}
use Rattle.iom_base.specs.declared.owner.Owner.TheVariants.{OneDevice}
use Rattle.iom_base.specs.declared.size.Size.{Size}
use Rattle.iom_directory_build.specs.Changes.{KeepsPages}
use Rattle.iom_directory_build.specs.Pages.{IsDirectory, HasPage, root_level}
use Rattle.iom_directory_build.proofs.Unchanged.{unchanged as directory_unchanged}
use Rattle.iom_ledger.specs.declared.ledger.Ledger.{Ledger}
use Rattle.iom_page_table.specs.FirstTables.{IsRoot, HasTable, KeepsTables}
use Rattle.iom_page_table.proofs.KeptTables.{guest_tables_kept}
use Rattle.iom_page_table.proofs.Unchanged.{unchanged}
use Rattle.iom_driver.specs.declared.device.Device.{Device}
use Rattle.iom_driver.specs.declared.device.Stages.{Stages}
use Rattle.iom_driver.specs.Devices.{owned_stages_of}
use Rattle.iom_driver.specs.Layout.{IsLevels, directory_frame}
use Rattle.iom_driver.specs.Standing.{KeepsTablesIn, LeavesStanding}
use Rattle.iom_driver.specs.State.{DriverState}
use Rattle.iom_driver.specs.Tables.{IsRootIn, AreTablesOf, HaveTables}
use Rattle.iom_driver.proofs.Directories.{low_levels}
use Rattle.iom_driver.proofs.Modes.{rooted, table_in}

-- first by one change, and then by another
pub keeps_through : (size : Size) (old between new : List (List ℕ)) (root : ℕ) → KeepsTables size old between root → KeepsTables size between new root → KeepsTables size old new root
keeps_through size old between new root first second prefix table inside at = second prefix table inside (first prefix table inside at)

-- a tree's tables, while its frames stay as they are
pub tree_keeps : (size : Size) (memory memory' : List (List ℕ)) (root : ℕ) → IsRoot size memory root → ((f : ℕ) → HasTable size memory root f → slice_get memory' f ≡ slice_get memory f)
    → KeepsTables size memory memory' root
tree_keeps size memory memory' root tree same = (unchanged size memory memory' root tree same).keeps

-- a device's tables, while its frames stay as they are
pub frames_keep : (memory memory' : List (List ℕ)) (owners : List (Option Owner)) (ledger : Ledger) (id : ℕ) (mode : Mode) (root : ℕ) → AreTablesOf memory owners ledger id mode root
    → ((n : ℕ) → slice_get owners n ≡ Some (Some (OneDevice id)) → slice_get memory' n ≡ slice_get memory n) → KeepsTables (size_in mode) memory memory' root
frames_keep memory memory' owners ledger id mode root tables kept =
    tree_keeps (size_in mode) memory memory' root (rooted mode memory root tables.tree).tree (λ f at. kept f (tables.own f (table_in mode memory root f (inl at))))

-- those of all devices, where one's are where they were and the frames of the others stay as they are
pub one_changes : (memory memory' : List (List ℕ)) (owners : List (Option Owner)) (ledger : Ledger) (devices : List Device) (id : ℕ) (stage : Stages) → HaveTables memory owners ledger devices
    → owned_stages_of devices id ≡ Some stage → KeepsTables (size_in stage.mode) memory memory' stage.root
    → ((n other : ℕ) → other ≢ id → slice_get owners n ≡ Some (Some (OneDevice other)) → slice_get memory' n ≡ slice_get memory n)
    → (other : ℕ) (found : Stages) → owned_stages_of devices other ≡ Some found → KeepsTables (size_in found.mode) memory memory' found.root
one_changes memory memory' owners ledger devices id stage tables owned kept others other found at =
    elim (eqb_tells other id) [
      | inl e ↦
          let both : Some stage ≡ Some found = sym owned ∙ ap (λ i. owned_stages_of devices i) (sym e.1) ∙ at in
          let same : stage ≡ found = cc in
          subst (λ (s : Stages). KeepsTables (size_in s.mode) memory memory' s.root) same kept
      | inr ne ↦ frames_keep memory memory' owners ledger other found.mode found.root (tables other found at) (λ n own. others n other ne.1 own)
    ]

-- the pages of a directory, while they stay as they are
pub pages_stay : (levels root : ℕ) (memory memory' : List (List ℕ)) → IsLevels levels → IsDirectory memory (root_level levels) root → length memory' ≡ length memory
    → ((f : ℕ) → HasPage memory (root_level levels) root f → slice_get memory' f ≡ slice_get memory f) → KeepsPages memory memory' (root_level levels) root
pages_stay levels root memory memory' range tree size same = (directory_unchanged memory memory' (root_level levels) root (low_levels levels range) tree size same).keeps

-- the tables of a second stage are where they were where those of its first frame are
kept_in : (mode : Mode) (memory memory' : List (List ℕ)) (root : ℕ) → IsRootIn mode memory root → KeepsTables (size_in mode) memory memory' root → KeepsTablesIn mode memory memory' root
kept_in (First size) memory memory' root tree kept = kept
kept_in (Second size) memory memory' root guest kept = guest_tables_kept size memory memory' root guest.0 kept
kept_in (Both size) memory memory' root guest kept = guest_tables_kept size memory memory' root guest.0 kept

-- so a call leaves them
pub leaves_standing : (d d' : DriverState) (frames : ℕ) (memory memory' : List (List ℕ)) → length memory ≡ frames → HaveTables memory d.owners d.ledger d.devices
    → ((id : ℕ) (stage : Stages) → owned_stages_of d.devices id ≡ Some stage → owned_stages_of d'.devices id ≡ Some stage → KeepsTables (size_in stage.mode) memory memory' stage.root)
    → (d.started ≡ true → KeepsPages memory memory' (root_level d.levels) (directory_frame frames)) → LeavesStanding d memory d' memory'
leaves_standing d d' frames memory memory' many tables kept pages = record {
  tables = λ id stage was is. kept_in stage.mode memory memory' stage.root (tables id stage was).tree (kept id stage was is);
  pages = λ started. subst (λ n. KeepsPages memory memory' (root_level d.levels) (directory_frame n)) (sym many) (pages started);
}
