-- The directory's paths go into a set page by page.
use Rattle.std.proofs.Common.{◌≡◌, ◌⊎◌, ◌<◌, ℕ, List, slice_get, Option, Some, subst}
use Rattle.iom_device.specs.declared.device.Device.{Device}
use Rattle.iom_registers.specs.declared.directory.DirectoryMode.{DirectoryMode}
use Rattle.iom_table_survey.specs.Rows.{GrowsBy}
use Rattle.iom_table_survey.proofs.AddLemmas.{adds_then}
use Rattle.iom_walks.specs.Walks.{WalkRow}
use Rattle.iom_way_survey.specs.Directories.{IsOnWay, PathsRead}

-- a page, and the path from the one that its entry names
pub adds_on_way : (old between new : List ℕ) (page next : ℕ) (found : Option ℕ) (IsOn : ℕ → ℕ → Type 0) → Some next ≡ found
    → GrowsBy old between (λ f. f ≡ page) → GrowsBy between new (IsOn next) → GrowsBy old new (λ f. (f ≡ page) ⊎ IsOnWay found (λ n. IsOn n f))
adds_on_way old between new page next found IsOn is first rest =
    subst (λ o. GrowsBy old new (λ f. (f ≡ page) ⊎ IsOnWay o (λ n. IsOn n f))) is (adds_then old between new (λ f. f ≡ page) (IsOn next) first rest)

-- so of the first devices
abbrev pub ReadsBefore : List (List ℕ) → List WalkRow → List Device → DirectoryMode → (root count : ℕ) → ℕ → Type 0
ReadsBefore memory rows devices mode root count frame =
    (k : ℕ) × (k < count) × ((device : Device) × (slice_get devices k ≡ Some device) × PathsRead memory mode root rows device.id frame)

pub all_paths : (old new : List ℕ) (memory : List (List ℕ)) (rows : List WalkRow) (devices : List Device) (count count' : ℕ) (mode mode' : DirectoryMode) (root root' : ℕ) → count ≡ count' → mode ≡ mode' → root ≡ root'
    → GrowsBy old new (ReadsBefore memory rows devices mode root count) → GrowsBy old new (ReadsBefore memory rows devices mode' root' count')
all_paths old new memory rows devices count count' mode mode' root root' same_count same_mode same_root adds =
    subst (λ m. GrowsBy old new (ReadsBefore memory rows devices m root' count')) same_mode
    (subst (λ r. GrowsBy old new (ReadsBefore memory rows devices mode r count')) same_root
    (subst (λ n. GrowsBy old new (ReadsBefore memory rows devices mode root n)) same_count adds))
