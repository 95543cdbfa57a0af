-- The frames that a path goes through, and memories that are alike on them.
use Rattle.std.specs.Prelude.{◌≡◌, ℕ, ◌/◌, List, [], ◌∷◌, length, slice_get}
use Rattle.std.specs.List.{All}
use Rattle.iom_base.specs.Tables.{table_entries}
use Rattle.iom_stage_walk.specs.Entries.{Entries, entries, slot}
use Rattle.iom_stage_walk.specs.Paths.{first_path}
use Rattle.iom_stage_walk.specs.Second.{second_path}
use Rattle.iom_stage_walk.specs.declared.entry.Entry.{Entry}
use Rattle.iom_stage_walk.specs.declared.entry.Entry.TheVariants.{Outside, Invalid, Pointer, Leaf}

-- what follows the table that the entry names; nothing where it names none
abbrev pub after_pointer : Entry → (ℕ → List ℕ) → List ℕ
after_pointer Outside follow = []
after_pointer Invalid follow = []
after_pointer (Pointer next) follow = follow next
after_pointer (Leaf base rights) follow = []

-- the frames from which the path along the indices loads its entries, one a level, the table's first
abbrev pub through : Entries → ℕ → List ℕ → List ℕ
through e table [] = []
through e table (i ∷ below) = slot table i / table_entries ∷ after_pointer (e (slot table i)) (λ next. through e next below)

-- the frames that the path of an address from the root of a first stage goes through
abbrev pub first_through : ℕ → List (List ℕ) → ℕ → ℕ → List ℕ
first_through levels frames root address = through (entries frames) root (first_path levels address)

-- the frames that the path of a guest physical address from the root of a second stage goes through
abbrev pub second_through : ℕ → List (List ℕ) → ℕ → ℕ → List ℕ
second_through levels frames root address = through (entries frames) root (second_path levels address)

-- the two memories are of one size, and have the same bytes in these frames
pub record SameIn (fs : List ℕ) (old new : List (List ℕ)) : Type 0 where
  pub frames : All (λ f. slice_get new f ≡ slice_get old f) fs
  pub size : length new ≡ length old
