-- Where a walk stands in tables that stay: the table in hand is still the one that its first indices name.
use Rattle.std.specs.Prelude.{◌≡◌, ◌↔◌, ◌⊎◌, ℕ, ◌+◌, ◌*◌, ◌^◌, ◌<◌, true, List, [], ◌∷◌, ◌++◌, length, Result}
use Rattle.iom_base.specs.declared.access.AccessKind.{AccessKind}
use Rattle.iom_base.specs.declared.cause.Cause.{Cause}
use Rattle.iom_base.specs.declared.rights.Rights.{Rights}
use Rattle.iom_page_table.specs.Trees.{IsTableAt}
use Rattle.iom_stage_walk.specs.Entries.{Entries, entries, slot}
use Rattle.iom_stage_walk.specs.Paths.{Reaches, StopsAs, first_path}
use Rattle.iom_stage_walk.specs.Second.{second_path}
use Rattle.iom_stage_walk.specs.declared.entry.Entry.TheVariants.{Pointer}
use Rattle.iom_stage_walk.specs.declared.walked.Walked.{Walked}
use Rattle.iom_stage_walk.specs.declared.walked.WalkFault.{WalkFault}
use Rattle.iom_walk_loads.specs.Loads.{Walk, Ends, after_load, made_from}
use Rattle.iom_walk_loads.specs.Tables.{down, first_rest, first_walk, is_canonical, lead, lead_rest}

-- no pointer of the tables under the root goes or changes: new ones may come, and leaves come and go
abbrev pub PointersUnchanged : Entries → Entries → ℕ → Type 0
PointersUnchanged old new root = (prefix : List ℕ) (table i next : ℕ)
    → IsTableAt old root prefix table → old (slot table i) ≡ Pointer next → new (slot table i) ≡ Pointer next

-- ONE LOAD IN TABLES THAT STAY: the walk goes on in the table that the entry names, or finds what a walk from the root reaches now, or stops as one would now.
abbrev pub LoadsAreOfNow : Type 0
LoadsAreOfNow = (memory : List (List ℕ)) (kind : AccessKind) (page access : Cause) (found : ℕ → Rights → ℕ → Walk (Result Walked WalkFault)) (stopped : Cause → Walk (Result Walked WalkFault))
    (root table : ℕ) (done : List ℕ) (i : ℕ) (below : List ℕ) → IsTableAt (entries memory) root done table
    → ((next : ℕ) × IsTableAt (entries memory) root (done ++ i ∷ []) next
    × (after_load memory (down kind page access found stopped table (i ∷ below)) ≡ down kind page access found stopped next below))
    ⊎ (((frame : ℕ) × (rights : Rights) × Reaches (entries memory) kind root (done ++ i ∷ below) frame rights
    × (after_load memory (down kind page access found stopped table (i ∷ below)) ≡ found frame rights (length below)))
    ⊎ ((cause : Cause) × StopsAs (entries memory) kind page access root (done ++ i ∷ below) cause
    × (after_load memory (down kind page access found stopped table (i ∷ below)) ≡ stopped cause)))

-- While a walk stands in tables that stay, what it does from the table in hand is what a walk from the root would do now.
abbrev pub StandingWalksAreOfNow : Type 0
StandingWalksAreOfNow = (e : Entries) (kind : AccessKind) (page access : Cause) (root table : ℕ) (done below : List ℕ) → IsTableAt e root done table
    → ((frame : ℕ) (rights : Rights) → Reaches e kind root (done ++ below) frame rights ↔ Reaches e kind table below frame rights)
    × ((cause : Cause) → StopsAs e kind page access root (done ++ below) cause ↔ StopsAs e kind page access table below cause)

-- So what ends at a load ends as a whole walk that is made then: in a first stage alone,
abbrev pub FirstEndsAsNow : Type 0
FirstEndsAsNow = (memory : List (List ℕ)) (levels root address : ℕ) (kind : AccessKind) (table : ℕ) (done left : List ℕ) (answer : Result Walked WalkFault)
    → is_canonical levels address ≡ true → first_path levels address ≡ done ++ left → IsTableAt (entries memory) root done table
    → after_load memory (first_rest (length memory) kind table left) ≡ Ends answer
    → made_from memory (first_walk (length memory) levels root address kind) ≡ answer

-- and in a second, alone or behind the guest's tables
abbrev pub SecondEndsAsNow : Type 0
SecondEndsAsNow = (memory : List (List ℕ)) (levels root : ℕ) (kind original : AccessKind) (found : ℕ → Rights → ℕ → Walk (Result Walked WalkFault))
    (stopped : Cause → Walk (Result Walked WalkFault)) (address table : ℕ) (done left : List ℕ) (answer : Result Walked WalkFault)
    → address < 2 ^ (9 * levels + 14) → second_path levels address ≡ done ++ left → IsTableAt (entries memory) root done table
    → after_load memory (lead_rest (length memory) kind original found stopped table left) ≡ Ends answer
    → made_from memory (lead (length memory) levels root kind original found stopped address) ≡ answer

-- a table in hand stays so where no pointer goes, and the next one is so once its pointer is loaded
abbrev pub StandingStays : Type 0
StandingStays = (old new : Entries) (root table : ℕ) (done : List ℕ) → IsTableAt old root done table
    → (PointersUnchanged old new root → IsTableAt new root done table)
    × ((i next : ℕ) → old (slot table i) ≡ Pointer next → IsTableAt old root (done ++ i ∷ []) next)
