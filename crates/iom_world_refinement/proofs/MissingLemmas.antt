-- A page lacks at most a table for each level below the root.
use Rattle.std.proofs.Common.{◌≤◌, ℕ, List, ◌∷◌, [], length, arith}
use Rattle.iom_base.specs.declared.size.Size.{Size}
use Rattle.iom_base.specs.declared.size.Size.TheVariants.{Sv39, Sv48}
use Rattle.iom_base.specs.Sizes.{table_limit_of}
use Rattle.iom_stage_walk.specs.Entries.{Entries, entries, slot}
use Rattle.iom_page_table.specs.FirstTables.{missing_for}
use Rattle.iom_page_table.specs.Trees.{missing_under, missing_here}
use Rattle.iom_stage_walk.specs.declared.entry.Entry.{Entry}
use Rattle.iom_stage_walk.specs.declared.entry.Entry.TheVariants.{Outside, Invalid, Pointer, Leaf}

here_low : (x : Entry) (below : List ℕ) (follow : ℕ → ℕ) → ((next : ℕ) → follow next ≤ length below) → missing_here x below follow ≤ length below
here_low Outside below follow low = omega arith
here_low Invalid below follow low = omega arith
here_low (Pointer next) below follow low = low next
here_low (Leaf base rights) below follow low = omega arith

missing_low : (e : Entries) (t i : ℕ) (below : List ℕ) → missing_under e t (i ∷ below) ≤ length below
missing_low e t i [] = here_low (e (slot t i)) [] (λ next. 0) (λ next. omega arith)
missing_low e t i (j ∷ below) = here_low (e (slot t i)) (j ∷ below) (λ next. missing_under e next (j ∷ below)) (λ next. omega (arith, missing_low e next j below))

pub missing_limit : (size : Size) (memory : List (List ℕ)) (root page : ℕ) → missing_for size memory root page ≤ table_limit_of size
missing_limit Sv39 memory root page = missing_low (entries memory) root _ (_ ∷ _ ∷ [])
missing_limit Sv48 memory root page = missing_low (entries memory) root _ (_ ∷ _ ∷ _ ∷ [])
