-- The levels of tables, where the frames of a level are a set.
use Rattle.std.proofs.Common.{◌≡◌, ◌⊎◌, inl, inr, ℕ, zero, suc, ◌+◌, ◌*◌, ◌-◌, ◌/◌, ◌%◌, ◌<◌, ◌≤◌, Bool, true, false, List, None, slice_get, subst, refl, length, arith}
use Rattle.std.proofs.lemmas.Bool.{cases_lt}
use Rattle.std.proofs.lemmas.Option.{slice_get_past}
use Rattle.iom_base.specs.declared.access.AccessKind.{AccessKind}
use Rattle.iom_napot.specs.Entries.{entries_in, napot_entries}
use Rattle.iom_stage_walk.specs.Entries.{Entries, slot}
use Rattle.iom_stage_walk.specs.declared.entry.Entry.{Entry}
use Rattle.iom_stage_walk.specs.declared.entry.Entry.TheVariants.{Outside}
use Rattle.iom_stage_walk.proofs.Loads.{entries_outside}
use Rattle.iom_table_survey.specs.Levels.{PointsTo, MapsFrame, PointsFrom, MapsFrom, IsPointedTo, IsMappedBy, IsTableIn, IsMappedIn}
use Rattle.iom_table_survey.specs.Reaches.{AddsReach}
use Rattle.iom_table_survey.specs.Rows.{frame_place, row_has, GrowsBy, IsOf}
use Rattle.iom_table_survey.specs.declared.reach.Reach.{Reach}
use Rattle.iom_table_survey.proofs.AddLemmas.{adds_alike, adds_then, of_same, reach_same, reach_alike, reach_then}

-- the entries of a table outside memory are outside
napot_outside : (memory : List (List ℕ)) (table index : ℕ) → length memory ≤ table → napot_entries memory (slot table index) ≡ Outside
unfolding napot_entries
napot_outside memory table index le =
    let none : slice_get memory (8 * slot table index / 4096) ≡ None = slice_get_past memory (8 * slot table index / 4096) (omega arith) in
    let aligned : 8 * slot table index % 8 ≡ 0 = omega arith in
    rw (aligned, none) refl

in_outside : (napot : Bool) (memory : List (List ℕ)) (below table index : ℕ) → length memory ≤ table → entries_in napot memory below (slot table index) ≡ Outside
in_outside false memory below table index le = entries_outside memory table index le
in_outside true memory zero table index le = napot_outside memory table index le
in_outside true memory (suc below) table index le = entries_outside memory table index le

-- no table stands outside memory
pub no_pointers : (napot : Bool) (memory : List (List ℕ)) (below table frame : ℕ) → length memory ≤ 4096 → 4096 ≤ table → PointsFrom (entries_in napot memory below) table frame → ⊥
no_pointers napot memory below table frame size high (index, within, points) =
    subst (λ (entry : Entry). PointsTo entry frame) (in_outside napot memory below table index (omega (arith, size, high))) points

pub no_leaves : (napot : Bool) (memory : List (List ℕ)) (below table frame : ℕ) (kind : AccessKind) → length memory ≤ 4096 → 4096 ≤ table
    → MapsFrom (entries_in napot memory below) below kind table frame → ⊥
no_leaves napot memory below table frame kind size high (index, within, maps) =
    subst (λ (entry : Entry). MapsFrame entry below kind frame) (in_outside napot memory below table index (omega (arith, size, high))) maps

-- a level with more tables has more
table_more : (e : ℕ → Entries) (F G : ℕ → Type 0) → ((t : ℕ) → F t → G t) → (n f : ℕ) → IsTableIn e F n f → IsTableIn e G n f
table_more e F G more zero f never = never
table_more e F G more (suc n) f (inl here) = inl (more f here)
table_more e F G more (suc n) f (inr below) = inr (table_more e (IsPointedTo (e n) F) (IsPointedTo (e n) G) (λ t (from, there, points). (from, more from there, points)) n f below)

mapped_more : (e : ℕ → Entries) (F G : ℕ → Type 0) → ((t : ℕ) → F t → G t) → (n : ℕ) (kind : AccessKind) (f : ℕ) → IsMappedIn e F n kind f → IsMappedIn e G n kind f
mapped_more e F G more zero kind f never = never
mapped_more e F G more (suc n) kind f (inl (from, there, maps)) = inl (from, more from there, maps)
mapped_more e F G more (suc n) kind f (inr below) =
    inr (mapped_more e (IsPointedTo (e n) F) (IsPointedTo (e n) G) (λ t (from, there, points). (from, more from there, points)) n kind f below)

module _ (napot : Bool) (memory : List (List ℕ)) (size : length memory ≤ 4096) (row : List ℕ) (F : ℕ → Type 0) (is_of : IsOf row F) where
  abbrev e : ℕ → Entries
  e = entries_in napot memory

  -- a frame below 4,096 is in the set only if it is so itself
  itself : (t : ℕ) → t < 4096 → row_has row t ≡ true → F t
  itself t low there = let (g, so, same) = is_of.sole t there in let is : g ≡ t = omega arith in subst F is so

  points : (below f : ℕ) → IsPointedTo (e below) (λ t. row_has row t ≡ true) f → IsPointedTo (e below) F f
  points below f (t, there, from) = by (cases_lt t 4096)
    where
      by : (t < 4096) ⊎ (4096 ≤ t) → IsPointedTo (e below) F f
      by (inl low) = (t, itself t low there, from)
      by (inr high) = absurd (no_pointers napot memory below t f size high from)

  maps : (below : ℕ) (kind : AccessKind) (f : ℕ) → IsMappedBy (e below) (λ t. row_has row t ≡ true) below kind f → IsMappedBy (e below) F below kind f
  maps below kind f (t, there, from) = by (cases_lt t 4096)
    where
      by : (t < 4096) ⊎ (4096 ≤ t) → IsMappedBy (e below) F below kind f
      by (inl low) = (t, itself t low there, from)
      by (inr high) = absurd (no_leaves napot memory below t f kind size high from)

  pub table_back : (n f : ℕ) → IsTableIn e F n f → IsTableIn e (λ t. row_has row t ≡ true) n f
  table_back n f = table_more e F (λ t. row_has row t ≡ true) is_of.all n f

  pub table_alike : (n f : ℕ) → IsTableIn e (λ t. row_has row t ≡ true) n f → (g : ℕ) × IsTableIn e F n g × (frame_place g ≡ frame_place f)
  table_alike zero f never = absurd never
  table_alike (suc n) f (inl here) = let (g, so, same) = is_of.sole f here in (g, inl so, same)
  table_alike (suc n) f (inr below) = (f, inr (table_more e (IsPointedTo (e n) (λ t. row_has row t ≡ true)) (IsPointedTo (e n) F) (points n) n f below), refl)

  pub mapped_back : (n : ℕ) (kind : AccessKind) (f : ℕ) → IsMappedIn e F n kind f → IsMappedIn e (λ t. row_has row t ≡ true) n kind f
  mapped_back n kind f = mapped_more e F (λ t. row_has row t ≡ true) is_of.all n kind f

  pub mapped_alike : (n : ℕ) (kind : AccessKind) (f : ℕ) → IsMappedIn e (λ t. row_has row t ≡ true) n kind f → IsMappedIn e F n kind f
  mapped_alike zero kind f never = never
  mapped_alike (suc n) kind f (inl here) = inl (maps n kind f here)
  mapped_alike (suc n) kind f (inr below) = inr (mapped_more e (IsPointedTo (e n) (λ t. row_has row t ≡ true)) (IsPointedTo (e n) F) (points n) n kind f below)

  -- what is surveyed from the set on is surveyed from those frames on
  pub tables_from : (old new : List ℕ) (n : ℕ) → GrowsBy old new (IsTableIn e (λ t. row_has row t ≡ true) n) → GrowsBy old new (IsTableIn e F n)
  tables_from old new n adds =
      adds_alike old new (IsTableIn e (λ t. row_has row t ≡ true) n) (IsTableIn e F n) adds (λ f there. (f, table_back n f there, refl)) (table_alike n)

  pub leaves_from : (old new : Reach) (n : ℕ) → AddsReach old new (IsMappedIn e (λ t. row_has row t ≡ true) n) → AddsReach old new (IsMappedIn e F n)
  leaves_from old new n adds =
      reach_alike old new (IsMappedIn e (λ t. row_has row t ≡ true) n) (IsMappedIn e F n) adds (λ kind f there. (f, mapped_back n kind f there, refl))
      (λ kind f there. (f, mapped_alike n kind f there, refl))

-- what stands in the 64 frames of a word, of those of a level
abbrev pub PointsOfWord : Entries → List ℕ → ℕ → ℕ → Type 0
PointsOfWord e level w frame = (k : ℕ) × (k < 64) × (PointsFrom e (64 * w + k) frame × (row_has level (64 * w + k) ≡ true))

abbrev pub MapsOfWord : Entries → List ℕ → ℕ → ℕ → AccessKind → ℕ → Type 0
MapsOfWord e level below w kind frame = (k : ℕ) × (k < 64) × (MapsFrom e below kind (64 * w + k) frame × (row_has level (64 * w + k) ≡ true))

-- each table in memory is of one of 64 words
pub all_words : (napot : Bool) (memory : List (List ℕ)) → length memory ≤ 4096 → (below : ℕ) (level next : List ℕ) → IsOf next (λ f. (w : ℕ) × (w < 64) × PointsOfWord (entries_in napot memory below) level w f)
    → IsOf next (IsPointedTo (entries_in napot memory below) (λ t. row_has level t ≡ true))
all_words napot memory size below level next is_of =
    of_same next (λ f. (w : ℕ) × (w < 64) × PointsOfWord (entries_in napot memory below) level w f) (IsPointedTo (entries_in napot memory below) (λ t. row_has level t ≡ true)) is_of
    to (λ f (w, low, (k, small, (from, there))). (64 * w + k, there, from))
  where
    to : (f : ℕ) → IsPointedTo (entries_in napot memory below) (λ t. row_has level t ≡ true) f → (w : ℕ) × (w < 64) × PointsOfWord (entries_in napot memory below) level w f
    to f (t, there, from) = by (cases_lt t 4096)
      where
        by : (t < 4096) ⊎ (4096 ≤ t) → (w : ℕ) × (w < 64) × PointsOfWord (entries_in napot memory below) level w f
        by (inl low) =
            let is : t ≡ 64 * (t / 64) + t % 64 = omega arith in
            (t / 64, omega arith, (t % 64, omega arith, (subst (λ (u : ℕ). PointsFrom (entries_in napot memory below) u f) is from, subst (λ (u : ℕ). row_has level u ≡ true) is there)))
        by (inr high) = absurd (no_pointers napot memory below t f size high from)

pub all_words_mapped : (napot : Bool) (memory : List (List ℕ)) → length memory ≤ 4096 → (level : List ℕ) (below : ℕ) (old new : Reach)
    → AddsReach old new (λ kind f. (w : ℕ) × (w < 64) × MapsOfWord (entries_in napot memory below) level below w kind f)
    → AddsReach old new (IsMappedBy (entries_in napot memory below) (λ t. row_has level t ≡ true) below)
all_words_mapped napot memory size level below old new adds =
    reach_same old new (λ kind f. (w : ℕ) × (w < 64) × MapsOfWord (entries_in napot memory below) level below w kind f) (IsMappedBy (entries_in napot memory below) (λ t. row_has level t ≡ true) below) adds
    to (λ kind f (w, low, (k, small, (from, there))). (64 * w + k, there, from))
  where
    to : (kind : AccessKind) (f : ℕ) → IsMappedBy (entries_in napot memory below) (λ t. row_has level t ≡ true) below kind f → (w : ℕ) × (w < 64) × MapsOfWord (entries_in napot memory below) level below w kind f
    to kind f (t, there, from) = by (cases_lt t 4096)
      where
        by : (t < 4096) ⊎ (4096 ≤ t) → (w : ℕ) × (w < 64) × MapsOfWord (entries_in napot memory below) level below w kind f
        by (inl low) =
            let is : t ≡ 64 * (t / 64) + t % 64 = omega arith in
            (t / 64, omega arith, (t % 64, omega arith, (subst (λ (u : ℕ). MapsFrom (entries_in napot memory below) below kind u f) is from, subst (λ (u : ℕ). row_has level u ≡ true) is there)))
        by (inr high) = absurd (no_leaves napot memory below t f kind size high from)

-- a level, and those below it
pub tables_on : (napot : Bool) (memory : List (List ℕ)) → length memory ≤ 4096 → (level next old between new : List ℕ) (levels : ℕ) → ¬ (levels ≡ 0)
    → GrowsBy old between (λ f. row_has level f ≡ true) → IsOf next (IsPointedTo (entries_in napot memory (levels - 1)) (λ t. row_has level t ≡ true))
    → GrowsBy between new (IsTableIn (entries_in napot memory) (λ t. row_has next t ≡ true) (levels - 1)) → GrowsBy old new (IsTableIn (entries_in napot memory) (λ t. row_has level t ≡ true) levels)
tables_on napot memory size level next old between new levels some here is_of below =
    let is : suc (levels - 1) ≡ levels = omega (arith, some) in
    subst (λ n. GrowsBy old new (IsTableIn (entries_in napot memory) (λ t. row_has level t ≡ true) n)) is
    (adds_then old between new (λ f. row_has level f ≡ true) (IsTableIn (entries_in napot memory) (IsPointedTo (entries_in napot memory (levels - 1)) (λ t. row_has level t ≡ true)) (levels - 1)) here
    (tables_from napot memory size next (IsPointedTo (entries_in napot memory (levels - 1)) (λ t. row_has level t ≡ true)) is_of between new (levels - 1) below))

pub leaves_on : (napot : Bool) (memory : List (List ℕ)) → length memory ≤ 4096 → (level next : List ℕ) (old between new : Reach) (levels : ℕ) → ¬ (levels ≡ 0)
    → AddsReach old between (IsMappedBy (entries_in napot memory (levels - 1)) (λ t. row_has level t ≡ true) (levels - 1)) → IsOf next (IsPointedTo (entries_in napot memory (levels - 1)) (λ t. row_has level t ≡ true))
    → AddsReach between new (IsMappedIn (entries_in napot memory) (λ t. row_has next t ≡ true) (levels - 1)) → AddsReach old new (IsMappedIn (entries_in napot memory) (λ t. row_has level t ≡ true) levels)
leaves_on napot memory size level next old between new levels some here is_of below =
    let is : suc (levels - 1) ≡ levels = omega (arith, some) in
    subst (λ n. AddsReach old new (IsMappedIn (entries_in napot memory) (λ t. row_has level t ≡ true) n)) is
    (reach_then old between new (IsMappedBy (entries_in napot memory (levels - 1)) (λ t. row_has level t ≡ true) (levels - 1)) (IsMappedIn (entries_in napot memory) (IsPointedTo (entries_in napot memory (levels - 1)) (λ t. row_has level t ≡ true)) (levels - 1)) here
    (leaves_from napot memory size next (IsPointedTo (entries_in napot memory (levels - 1)) (λ t. row_has level t ≡ true)) is_of between new (levels - 1) below))
