-- Memory, trees of tables in it, and what a walk of such a tree reads on its way.
use Rattle.std.specs.Prelude.{◌≡◌, ◌⊎◌, ℕ, ◌+◌, List, [], ◌∷◌, Option}

-- what stands in a frame, byte by byte; none, where memory has no such frame
abbrev pub Frame : Type 0
Frame = Option (List ℕ)

-- the frames, by number
abbrev pub Memory : Type 0
Memory = ℕ → Frame

-- a tree of tables: the first frame of its root, and how many levels it has
pub record Tables : Type 0 where
  pub root : ℕ
  pub levels : ℕ

-- what a walk finds at one place of a table
pub data Found (X : Type 0) : Type 0 where
  -- no entry, or one that faults
  Nothing : Found X
  -- a non-leaf entry: the next table, by its first frame
  Pointer : (table : ℕ) → Found X
  -- a leaf entry: the walk ends
  Leaf : (what : X) → Found X

-- one step of a walk: which frame of a table, for a table may have several, and which place of that frame
pub record WalkStep : Type 0 where
  pub frame : ℕ
  pub place : ℕ

-- how a place of a frame is read. The steps that are left then say which level that is, and which page of a large leaf is asked for
abbrev pub Format : Type 0 → Type 0
Format X = Frame → ℕ → List WalkStep → Found X

-- the walk goes on at the next table, or is at its end
abbrev pub Goes : {X : Type 0} → Found X → (ℕ → Type 0) → (X → Type 0) → Type 0
Goes Nothing On Over = ⊥
Goes (Pointer table) On Over = On table
Goes (Leaf what) On Over = Over what

-- the walk from the table along these steps ends at a leaf that says this
abbrev pub Ends : {X : Type 0} → Format X → Memory → ℕ → List WalkStep → X → Type 0
Ends format memory table [] what = ⊥
Ends format memory table (step ∷ steps) what =
    Goes (format (memory (table + step.frame)) step.place steps) (λ next. Ends format memory next steps what) (λ said. said ≡ what)

-- the walk reads the frame on its way
abbrev pub ReadsFrame : {X : Type 0} → Format X → Memory → ℕ → List WalkStep → ℕ → Type 0
ReadsFrame format memory table [] frame = ⊥
ReadsFrame format memory table (step ∷ steps) frame =
    (table + step.frame ≡ frame)
    ⊎ Goes (format (memory (table + step.frame)) step.place steps) (λ next. ReadsFrame format memory next steps frame) (λ said. ⊥)

-- the walk from the table along these steps comes to the next table, with these steps left; it is there at once, or after some steps
abbrev pub Passes : {X : Type 0} → Format X → Memory → ℕ → List WalkStep → ℕ → List WalkStep → Type 0
Passes format memory table [] next rest = (table ≡ next) × ([] ≡ rest)
Passes format memory table (step ∷ steps) next rest =
    ((table ≡ next) × (step ∷ steps ≡ rest))
    ⊎ Goes (format (memory (table + step.frame)) step.place steps) (λ t. Passes format memory t steps next rest) (λ said. ⊥)

-- the other memory may differ in this frame, and does in no other
abbrev pub DiffersAt : ℕ → Memory → Memory → Type 0
DiffersAt written old new = (frame : ℕ) → ¬ (frame ≡ written) → new frame ≡ old frame
