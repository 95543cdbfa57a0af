-- Walks by the formats, and tables level by level.
use Rattle.std.proofs.Common.{◌≡◌, ◌⊎◌, ◌∙◌, inl, inr, ℕ, zero, suc, ◌+◌, ◌-◌, ◌*◌, ◌/◌, ◌%◌, ◌^◌, ◌<◌, ◌≤◌, ◌==◌, Bool, true, false, List, [], ◌∷◌, map, replicate, slice_get, Option, None, Some, if◌then◌else◌, subst, refl, sym, ap, arith}
use Rattle.std.proofs.Math.Nat.{pow-succ'}
use Rattle.std.proofs.lemmas.Bool.{cases_lt, eqb-true, eq-eqb}
use Rattle.std.proofs.lemmas.Nat.{mul-add-lt}
use Rattle.iom_base.specs.Rights.{allows}
use Rattle.iom_base.specs.declared.access.AccessKind.{AccessKind}
use Rattle.iom_base.specs.declared.rights.Rights.{Rights}
use Rattle.iom_napot.specs.Entries.{entries_in, is_napot_leaf, napot_entries, napot_read}
use Rattle.iom_stage_walk.specs.Entries.{entries, entry_of, leaf_rights, slot}
use Rattle.iom_stage_walk.specs.Fields.{ppn_of, pte_of}
use Rattle.iom_stage_walk.specs.Paths.{pages_spanned, page_in, path_of}
use Rattle.iom_stage_walk.specs.declared.entry.Entry.{Entry}
use Rattle.iom_stage_walk.specs.declared.entry.Entry.TheVariants as entry
use Rattle.iom_reach.specs.Memory.{Found, Nothing, Leaf, Goes, Ends, ReadsFrame, WalkStep}
use Rattle.iom_reach.specs.Scene.{Mapping}
use Rattle.iom_hardware_ways.specs.Formats.{step_at, index_of, found_leaf, found_entry, entry_format, format_of, word_in}
use Rattle.iom_hardware_ways.specs.Laws.{AreIndices, PagesAreIndices}
use Rattle.iom_hardware_ways.proofs.FormatLemmas.{entry_there, indices_back, word_there}
use Rattle.iom_table_survey.specs.Levels.{PointsTo, MapsFrame, IsPointedTo, IsTableIn, IsMappedIn}
use Rattle.iom_table_survey.specs.Rows.{IsInRun}
use Rattle.iom_way_survey.specs.Laws.{widths_from, IsLedTo, IsReadBelow, LevelsAreWalks}

-- INDICES

-- so many of a table
abbrev Below : ℕ → List ℕ → Type 0
Below n is = AreIndices (replicate n 512) is

spanned : (n : ℕ) (is : List ℕ) → Below n is → pages_spanned is ≡ 512 ^ n
spanned zero [] all = refl
spanned zero (i ∷ is) never = absurd never
spanned (suc n) [] never = absurd never
spanned (suc n) (i ∷ is) (low, all) = ap (λ p. 512 * p) (spanned n is all) ∙ sym (pow-succ' 512 n)

low_sum : (s i p : ℕ) → i < 512 → p < s → s * i + p < 512 * s
low_sum s i p low less = let e = mul-add-lt i s p 512 low less in grind (arith, e)

page_low : (n : ℕ) (is : List ℕ) → Below n is → page_in is < 512 ^ n
page_low zero [] all = omega arith
page_low zero (i ∷ is) never = absurd never
page_low (suc n) [] never = absurd never
page_low (suc n) (i ∷ is) (low, all) =
    let sum = low_sum (512 ^ n) i (page_in is) low (page_low n is all) in
    let power = pow-succ' 512 n in
    let same : pages_spanned is * i + page_in is ≡ 512 ^ n * i + page_in is = ap (λ s. s * i + page_in is) (spanned n is all) in
    omega (arith, sum, power, same)

positive : (n : ℕ) → 0 < 512 ^ n
positive zero = omega arith
positive (suc n) = omega (arith, positive n, pow-succ' 512 n)

quotient_low : (s page q r : ℕ) → 0 < s → s * q + r ≡ page → page < 512 * s → q < 512
quotient_low s page q r some whole low = by (cases_lt q 512)
  where
    by : (q < 512) ⊎ (512 ≤ q) → q < 512
    by (inl less) = less
    by (inr more) = let e = mul-add-lt 511 s (s - 1) q (omega (arith, more)) (omega (arith, some)) in absurd (omega (arith, e, whole, low, some))

some_indices : (n page : ℕ) → page < 512 ^ n → (is : List ℕ) × Below n is × (page_in is ≡ page)
some_indices zero page low = ([], tt, omega (arith, low))
some_indices (suc n) page low =
    let s : ℕ = 512 ^ n in
    let some : 0 < s = positive n in
    let whole : s * (page / s) + page % s ≡ page = omega (arith, some) in
    let rest : page % s < s = omega (arith, some) in
    let (is, all, same) = some_indices n (page % s) rest in
    let high : page < 512 * s = omega (arith, low, pow-succ' 512 n) in
    (page / s ∷ is, (quotient_low s page (page / s) (page % s) some whole high, all), ap (λ p. p * (page / s) + page_in is) (spanned n is all) ∙ ap (λ r. s * (page / s) + r) same ∙ whole)

-- A STEP

-- of the number of an entry only its place among sixteen counts
read_alike : (word : Option ℕ) (s t : ℕ) → s % 16 ≡ t % 16 → napot_read word s ≡ napot_read word t
read_alike None s t same = refl
read_alike (Some word) s t same = ap (λ k. if is_napot_leaf (pte_of word) then entry.Leaf (ppn_of (pte_of word) - 8 + k) (leaf_rights (pte_of word)) else entry_of (pte_of word)) same

napot_there : (memory : List (List ℕ)) (table i : ℕ)
    → napot_entries memory (slot (table + i / 512) (i % 512)) ≡ napot_read (word_in (slice_get memory (table + i / 512)) (8 * (i % 512))) (i % 512)
unfolding napot_entries
napot_there memory table i =
    ap (λ word. napot_read word (slot (table + i / 512) (i % 512)))
    (word_there memory (8 * (512 * (table + i / 512) + i % 512)) (table + i / 512) (8 * (i % 512)) (omega arith) (omega arith) (omega arith))
    ∙ read_alike (word_in (slice_get memory (table + i / 512)) (8 * (i % 512))) (slot (table + i / 512) (i % 512)) (i % 512) (omega arith)

-- what an entry is to a walk
plain_step : (memory : List (List ℕ)) (table i : ℕ) (left : List WalkStep)
    → entry_format (slice_get memory (table + i / 512)) (i % 512) left ≡ found_entry (entries memory (slot (table + i / 512) (i % 512))) left
plain_step memory table i left = ap (λ e. found_entry e left) (sym (entry_there memory table i) ∙ ap (λ s. entries memory s) (omega arith))

entry_of_step : (napot : Bool) (memory : List (List ℕ)) (n table i : ℕ) (left : List ℕ) → Below n left
    → format_of napot (slice_get memory (table + i / 512)) (i % 512) (map step_at left)
    ≡ found_entry (entries_in napot memory n (slot (table + i / 512) (i % 512))) (map step_at left)
entry_of_step false memory n table i left all = plain_step memory table i (map step_at left)
entry_of_step true memory zero table i [] all = ap (λ e. found_entry e []) (sym (napot_there memory table i))
entry_of_step true memory zero table i (l ∷ left) never = absurd never
entry_of_step true memory (suc n) table i [] never = absurd never
entry_of_step true memory (suc n) table i (l ∷ left) all = plain_step memory table i (map step_at (l ∷ left))

abbrev as_leaf : Mapping → Found Mapping
as_leaf mapping = Leaf mapping

-- what a leaf says, where it is one
leaf_says : (base : ℕ) (rights : Rights) (n : ℕ) (is : List ℕ) → Below n is → (On : ℕ → Type 0) (Over : Mapping → Type 0)
    → Goes (found_leaf base rights (map index_of (map step_at is))) On Over
    → (base % 512 ^ n ≡ 0) × Over (record { frame = base + page_in is; rights = rights })
leaf_says base rights n is all On Over goes =
    let plain = subst (λ js. Goes (found_leaf base rights js) On Over) (indices_back is) goes in
    by (base % pages_spanned is == 0) refl plain
  where
    by : (b : Bool) → (base % pages_spanned is == 0) ≡ b → Goes (if b then as_leaf (record { frame = base + page_in is; rights = rights }) else Nothing) On Over
        → (base % 512 ^ n ≡ 0) × Over (record { frame = base + page_in is; rights = rights })
    by true aligned over = (ap (λ s. base % s) (sym (spanned n is all)) ∙ eqb-true _ 0 aligned, over)
    by false odd never = absurd never

leaf_goes : (base : ℕ) (rights : Rights) (n : ℕ) (is : List ℕ) → Below n is → base % 512 ^ n ≡ 0 → (On : ℕ → Type 0) (Over : Mapping → Type 0)
    → Over (record { frame = base + page_in is; rights = rights }) → Goes (found_leaf base rights (map index_of (map step_at is))) On Over
leaf_goes base rights n is all aligned On Over over =
    subst (λ js. Goes (found_leaf base rights js) On Over) (sym (indices_back is))
    (subst (λ b. Goes (if b then as_leaf (record { frame = base + page_in is; rights = rights }) else Nothing) On Over)
    (sym (eq-eqb (base % pages_spanned is) 0 (ap (λ s. base % s) (spanned n is all) ∙ aligned))) over)

-- DOWN: where a walk leads and what it reads is of the levels

abbrev Maps : Bool → List (List ℕ) → (ℕ → Type 0) → ℕ → AccessKind → ℕ → Type 0
Maps napot memory F n kind frame = IsMappedIn (entries_in napot memory) F (suc n) kind frame

-- the walk goes on from an entry
abbrev EndsFrom : Bool → List (List ℕ) → Entry → List ℕ → Mapping → Type 0
EndsFrom napot memory e is mapping = Goes (found_entry e (map step_at is)) (λ next. Ends (format_of napot) (slice_get memory) next (map step_at is) mapping) (λ said. said ≡ mapping)

abbrev ReadsFrom : Bool → List (List ℕ) → Entry → List ℕ → ℕ → Type 0
ReadsFrom napot memory e is frame = Goes (found_entry e (map step_at is)) (λ next. ReadsFrame (format_of napot) (slice_get memory) next (map step_at is) frame) (λ said. ⊥)

-- a pointer, at the place at which the next walk begins
low_place : (next i : ℕ) → i < 512 → next + i / 512 ≡ next
low_place next i low = omega (arith, low)

low_rest : (i : ℕ) → i < 512 → i % 512 ≡ i
low_rest i low = omega (arith, low)

-- the step of the next walk, from a pointer
next_goes : (napot : Bool) (memory : List (List ℕ)) (n next i : ℕ) (is : List ℕ) → Below n is → (On : ℕ → Type 0) (Over : Mapping → Type 0)
    → Goes (format_of napot (slice_get memory (next + i / 512)) (i % 512) (map step_at is)) On Over
    → Goes (found_entry (entries_in napot memory n (slot (next + i / 512) (i % 512))) (map step_at is)) On Over
next_goes napot memory n next i is all On Over goes = subst (λ (f : Found Mapping). Goes f On Over) (entry_of_step napot memory n next i is all) goes

ends_by : (napot : Bool) (memory : List (List ℕ)) (n : ℕ) (is : List ℕ) (F : ℕ → Type 0) (from place : ℕ) (mapping : Mapping) (kind : AccessKind) → Below n is → F from → place < 512
    → allows mapping.rights kind ≡ true → (e : Entry) → entries_in napot memory n (slot from place) ≡ e → EndsFrom napot memory e is mapping → Maps napot memory F n kind mapping.frame
ends_by napot memory n is F from place mapping kind all there low allowed entry.Outside at never = absurd never
ends_by napot memory n is F from place mapping kind all there low allowed entry.Invalid at never = absurd never
ends_by napot memory zero [] F from place mapping kind all there low allowed (entry.Pointer next) at never = absurd never
ends_by napot memory zero (i ∷ is) F from place mapping kind never there low allowed (entry.Pointer next) at goes = absurd never
ends_by napot memory (suc n) [] F from place mapping kind never there low allowed (entry.Pointer next) at goes = absurd never
ends_by napot memory (suc n) (i ∷ is) F from place mapping kind all there low allowed (entry.Pointer next) at goes =
    inr (ends_by napot memory n is (IsPointedTo (entries_in napot memory (suc n)) F) (next + i / 512) (i % 512) mapping kind all.1
    (from, there, (place, low, subst (λ (e : Entry). PointsTo e (next + i / 512)) (sym at) (low_place next i all.0))) (omega arith) allowed
    (entries_in napot memory n (slot (next + i / 512) (i % 512))) refl
    (next_goes napot memory n next i is all.1 (λ t. Ends (format_of napot) (slice_get memory) t (map step_at is) mapping) (λ said. said ≡ mapping) goes))
ends_by napot memory n is F from place mapping kind all there low allowed (entry.Leaf base rights) at goes =
    let (aligned, said) = leaf_says base rights n is all (λ next. Ends (format_of napot) (slice_get memory) next (map step_at is) mapping) (λ said. said ≡ mapping) goes in
    let frame : base + page_in is ≡ mapping.frame = ap (λ (m : Mapping). m.frame) said in
    let given : rights ≡ mapping.rights = ap (λ (m : Mapping). m.rights) said in
    let high = page_low n is all in
    inl (
      from,
      there,
      (
        place,
        low,
        subst (λ (e : Entry). MapsFrame e n kind mapping.frame) (sym at)
            (aligned, ((omega (arith, frame), omega (arith, frame, high)), ap (λ (r : Rights). allows r kind) given ∙ allowed)),
      ),
    )

ends_mapped : (napot : Bool) (memory : List (List ℕ)) (n : ℕ) (is : List ℕ) (F : ℕ → Type 0) (table i : ℕ) (mapping : Mapping) (kind : AccessKind) → Below n is → F (table + i / 512)
    → allows mapping.rights kind ≡ true → Ends (format_of napot) (slice_get memory) table (map step_at (i ∷ is)) mapping → Maps napot memory F n kind mapping.frame
ends_mapped napot memory n is F table i mapping kind all there allowed ends =
    ends_by napot memory n is F (table + i / 512) (i % 512) mapping kind all there (omega arith) allowed (entries_in napot memory n (slot (table + i / 512) (i % 512))) refl
    (next_goes napot memory n table i is all (λ t. Ends (format_of napot) (slice_get memory) t (map step_at is) mapping) (λ said. said ≡ mapping) ends)

reads_by : (napot : Bool) (memory : List (List ℕ)) (n : ℕ) (is : List ℕ) (F : ℕ → Type 0) (from place frame : ℕ) → Below n is → F from → place < 512
    → (e : Entry) → entries_in napot memory n (slot from place) ≡ e → ReadsFrom napot memory e is frame → IsTableIn (entries_in napot memory) F (suc n) frame
reads_by napot memory n is F from place frame all there low entry.Outside at never = absurd never
reads_by napot memory n is F from place frame all there low entry.Invalid at never = absurd never
reads_by napot memory zero [] F from place frame all there low (entry.Pointer next) at never = absurd never
reads_by napot memory zero (i ∷ is) F from place frame never there low (entry.Pointer next) at goes = absurd never
reads_by napot memory (suc n) [] F from place frame never there low (entry.Pointer next) at goes = absurd never
reads_by napot memory (suc n) (i ∷ is) F from place frame all there low (entry.Pointer next) at (inl here) =
    inr (inl (from, there, (place, low, subst (λ (e : Entry). PointsTo e frame) (sym at) (sym here ∙ low_place next i all.0))))
reads_by napot memory (suc n) (i ∷ is) F from place frame all there low (entry.Pointer next) at (inr goes) =
    inr (reads_by napot memory n is (IsPointedTo (entries_in napot memory (suc n)) F) (next + i / 512) (i % 512) frame all.1
    (from, there, (place, low, subst (λ (e : Entry). PointsTo e (next + i / 512)) (sym at) (low_place next i all.0))) (omega arith)
    (entries_in napot memory n (slot (next + i / 512) (i % 512))) refl
    (next_goes napot memory n next i is all.1 (λ t. ReadsFrame (format_of napot) (slice_get memory) t (map step_at is) frame) (λ said. ⊥) goes))
reads_by napot memory n is F from place frame all there low (entry.Leaf base rights) at goes =
    absurd ((leaf_says base rights n is all (λ next. ReadsFrame (format_of napot) (slice_get memory) next (map step_at is) frame) (λ said. ⊥) goes).1)

reads_table : (napot : Bool) (memory : List (List ℕ)) (n : ℕ) (is : List ℕ) (F : ℕ → Type 0) (table i frame : ℕ) → Below n is → F (table + i / 512)
    → ReadsFrame (format_of napot) (slice_get memory) table (map step_at (i ∷ is)) frame → IsTableIn (entries_in napot memory) F (suc n) frame
reads_table napot memory n is F table i frame all there (inl here) = inl (subst F here there)
reads_table napot memory n is F table i frame all there (inr goes) =
    reads_by napot memory n is F (table + i / 512) (i % 512) frame all there (omega arith) (entries_in napot memory n (slot (table + i / 512) (i % 512))) refl
    (next_goes napot memory n table i is all (λ t. ReadsFrame (format_of napot) (slice_get memory) t (map step_at is) frame) (λ said. ⊥) goes)

-- UP: what is of the levels a walk leads to and reads

-- the walk from a frame of the first level, by an index below 512
record Walks (napot : Bool) (memory : List (List ℕ)) (F : ℕ → Type 0) (n : ℕ) (Goes_on : Entry → List ℕ → ℕ → Type 0) : Type 0 where
  from : ℕ
  there : F from
  place : ℕ
  low : place < 512
  left : List ℕ
  all : Below n left
  goes : Goes_on (entries_in napot memory n (slot from place)) left from

abbrev IsLeadingTo : Bool → List (List ℕ) → AccessKind → ℕ → Entry → List ℕ → ℕ → Type 0
IsLeadingTo napot memory kind frame e is from = (mapping : Mapping) × EndsFrom napot memory e is mapping × ((mapping.frame ≡ frame) × (allows mapping.rights kind ≡ true))

abbrev IsReading : Bool → List (List ℕ) → ℕ → Entry → List ℕ → ℕ → Type 0
IsReading napot memory frame e is from = (from ≡ frame) ⊎ ReadsFrom napot memory e is frame

mapped_leads : (napot : Bool) (memory : List (List ℕ)) (n : ℕ) (F : ℕ → Type 0) (kind : AccessKind) (frame : ℕ) → Maps napot memory F n kind frame → Walks napot memory F n (IsLeadingTo napot memory kind frame)
mapped_leads napot memory n F kind frame (inl (from, there, (place, low, maps))) = by (entries_in napot memory n (slot from place)) refl maps
  where
    by : (e : Entry) → entries_in napot memory n (slot from place) ≡ e → MapsFrame e n kind frame → Walks napot memory F n (IsLeadingTo napot memory kind frame)
    by entry.Outside at never = absurd never
    by entry.Invalid at never = absurd never
    by (entry.Pointer next) at never = absurd never
    by (entry.Leaf base rights) at (aligned, ((above, below), allowed)) =
        let (is, all, same) = some_indices n (frame - base) (omega (arith, above, below)) in
        let mapping : Mapping = record { frame = frame; rights = rights } in
        let whole : base + page_in is ≡ frame = omega (arith, above, same) in
        record {
          from = from;
          there = there;
          place = place;
          low = low;
          left = is;
          all = all;
          goes = subst (λ (e : Entry). IsLeadingTo napot memory kind frame e is from) (sym at) (
            mapping,
            leaf_goes base rights n is all aligned (λ next. Ends (format_of napot) (slice_get memory) next (map step_at is) mapping) (λ said. said ≡ mapping)
                (ap (λ (f : ℕ). record { frame = f; rights = rights }) whole),
            (refl, allowed),
          );
        }
mapped_leads napot memory zero F kind frame (inr never) = absurd never
mapped_leads napot memory (suc n) F kind frame (inr below) =
    let w = mapped_leads napot memory n (IsPointedTo (entries_in napot memory (suc n)) F) kind frame below in
    let (from, there, (place, low, points)) = w.there in
    by w from there place low (entries_in napot memory (suc n) (slot from place)) refl points
  where
    by : (w : Walks napot memory (IsPointedTo (entries_in napot memory (suc n)) F) n (IsLeadingTo napot memory kind frame)) (from : ℕ) → F from → (place : ℕ) → place < 512
        → (e : Entry) → entries_in napot memory (suc n) (slot from place) ≡ e → PointsTo e w.from → Walks napot memory F (suc n) (IsLeadingTo napot memory kind frame)
    by w from there place low entry.Outside at never = absurd never
    by w from there place low entry.Invalid at never = absurd never
    by w from there place low (entry.Leaf base rights) at never = absurd never
    by w from there place low (entry.Pointer next) at is =
        let (mapping, ends, serves) = w.goes in
        record {
          from = from;
          there = there;
          place = place;
          low = low;
          left = w.place ∷ w.left;
          all = (w.low, w.all);
          goes = subst (λ (e : Entry). IsLeadingTo napot memory kind frame e (w.place ∷ w.left) from) (sym at) (
            mapping,
            subst (λ (f : Found Mapping). Goes f (λ t. Ends (format_of napot) (slice_get memory) t (map step_at w.left) mapping) (λ said. said ≡ mapping))
                (sym (entry_of_step napot memory n next w.place w.left w.all
                ∙ ap (λ (p : ℕ). found_entry (entries_in napot memory n (slot p (w.place % 512))) (map step_at w.left)) (low_place next w.place w.low ∙ sym is)
                ∙ ap (λ (p : ℕ). found_entry (entries_in napot memory n (slot w.from p)) (map step_at w.left)) (low_rest w.place w.low))) ends,
            serves,
          );
        }

table_reads : (napot : Bool) (memory : List (List ℕ)) (n : ℕ) (F : ℕ → Type 0) (frame : ℕ) → IsTableIn (entries_in napot memory) F (suc n) frame → Walks napot memory F n (IsReading napot memory frame)
table_reads napot memory n F frame (inl here) =
    let (is, all, same) = some_indices n 0 (positive n) in
    record { from = frame; there = here; place = 0; low = omega arith; left = is; all = all; goes = inl refl }
table_reads napot memory zero F frame (inr never) = absurd never
table_reads napot memory (suc n) F frame (inr below) =
    let w = table_reads napot memory n (IsPointedTo (entries_in napot memory (suc n)) F) frame below in
    let (from, there, (place, low, points)) = w.there in
    by w from there place low (entries_in napot memory (suc n) (slot from place)) refl points
  where
    by : (w : Walks napot memory (IsPointedTo (entries_in napot memory (suc n)) F) n (IsReading napot memory frame)) (from : ℕ) → F from → (place : ℕ) → place < 512
        → (e : Entry) → entries_in napot memory (suc n) (slot from place) ≡ e → PointsTo e w.from → Walks napot memory F (suc n) (IsReading napot memory frame)
    by w from there place low entry.Outside at never = absurd never
    by w from there place low entry.Invalid at never = absurd never
    by w from there place low (entry.Leaf base rights) at never = absurd never
    by w from there place low (entry.Pointer next) at is =
        record {
          from = from;
          there = there;
          place = place;
          low = low;
          left = w.place ∷ w.left;
          all = (w.low, w.all);
          goes = inr (subst (λ (e : Entry). ReadsFrom napot memory e (w.place ∷ w.left) frame) (sym at) (on w.goes));
        }
      where
        on : IsReading napot memory frame (entries_in napot memory n (slot w.from w.place)) w.left w.from
            → ReadsFrame (format_of napot) (slice_get memory) next (map step_at (w.place ∷ w.left)) frame
        on (inl here) = inl (low_place next w.place w.low ∙ sym is ∙ here)
        on (inr goes) = inr (subst (λ (f : Found Mapping). Goes f (λ t. ReadsFrame (format_of napot) (slice_get memory) t (map step_at w.left) frame) (λ said. ⊥))
            (sym (entry_of_step napot memory n next w.place w.left w.all
            ∙ ap (λ (p : ℕ). found_entry (entries_in napot memory n (slot p (w.place % 512))) (map step_at w.left)) (low_place next w.place w.low ∙ sym is)
            ∙ ap (λ (p : ℕ). found_entry (entries_in napot memory n (slot w.from p)) (map step_at w.left)) (low_rest w.place w.low))) goes)

-- FROM THE ROOT

module _ (napot : Bool) (memory : List (List ℕ)) (root frames below : ℕ) (pages : PagesAreIndices (widths_from frames below)) where
  -- the indices of a page, the root's first
  first_of : (page : ℕ) → (i : ℕ) × (is : List ℕ) × (path_of (widths_from frames below) page ≡ i ∷ is) × ((i < 512 * frames) × Below below is)
  first_of page = by (path_of (widths_from frames below) page) refl (pages.0 page)
    where
      by : (js : List ℕ) → path_of (widths_from frames below) page ≡ js → AreIndices (widths_from frames below) js
          → (i : ℕ) × (is : List ℕ) × (path_of (widths_from frames below) page ≡ i ∷ is) × ((i < 512 * frames) × Below below is)
      by [] same never = absurd never
      by (i ∷ is) same (low, all) = (i, is, same, (low, all))

  in_root : (i : ℕ) → i < 512 * frames → IsInRun root frames (root + i / 512)
  in_root i low = (omega arith, omega (arith, low))

  led_mapped : (kind : AccessKind) (frame : ℕ) → IsLedTo napot memory root (widths_from frames below) kind frame → IsMappedIn (entries_in napot memory) (IsInRun root frames) (suc below) kind frame
  led_mapped kind frame (mapping, (page, ends), (same, allowed)) =
      let (i, is, path, (low, all)) = first_of page in
      subst (λ f. Maps napot memory (IsInRun root frames) below kind f) same
      (ends_mapped napot memory below is (IsInRun root frames) root i mapping kind all (in_root i low) allowed
      (subst (λ js. Ends (format_of napot) (slice_get memory) root (map step_at js) mapping) path ends))

  read_table : (frame : ℕ) → IsReadBelow napot memory root (widths_from frames below) frame → IsTableIn (entries_in napot memory) (IsInRun root frames) (suc below) frame
  read_table frame (page, reads) =
      let (i, is, path, (low, all)) = first_of page in
      reads_table napot memory below is (IsInRun root frames) root i frame all (in_root i low) (subst (λ js. ReadsFrame (format_of napot) (slice_get memory) root (map step_at js) frame) path reads)

  -- an index of the root, by its frame and the place there
  root_index : (from place : ℕ) → IsInRun root frames from → place < 512 → (i : ℕ) × (i < 512 * frames) × (root + i / 512 ≡ from) × (i % 512 ≡ place)
  root_index from place (above, under) low = (512 * (from - root) + place, omega (arith, above, under, low), omega (arith, above, low), omega (arith, low))

  mapped_led : (kind : AccessKind) (frame : ℕ) → IsMappedIn (entries_in napot memory) (IsInRun root frames) (suc below) kind frame → IsLedTo napot memory root (widths_from frames below) kind frame
  mapped_led kind frame maps =
      let w = mapped_leads napot memory below (IsInRun root frames) kind frame maps in
      let (i, low, at, rest) = root_index w.from w.place w.there w.low in
      let (page, path) = pages.1 (i ∷ w.left) (low, w.all) in
      let (mapping, ends, serves) = w.goes in (
        mapping,
        (
          page,
          subst (λ js. Ends (format_of napot) (slice_get memory) root (map step_at js) mapping) (sym path)
              (subst (λ (f : Found Mapping). Goes f (λ t. Ends (format_of napot) (slice_get memory) t (map step_at w.left) mapping) (λ said. said ≡ mapping))
              (sym (entry_of_step napot memory below root i w.left w.all
              ∙ ap (λ (p : ℕ). found_entry (entries_in napot memory below (slot p (i % 512))) (map step_at w.left)) at
              ∙ ap (λ (p : ℕ). found_entry (entries_in napot memory below (slot w.from p)) (map step_at w.left)) rest)) ends),
        ),
        serves,
      )

  table_read : (frame : ℕ) → IsTableIn (entries_in napot memory) (IsInRun root frames) (suc below) frame → IsReadBelow napot memory root (widths_from frames below) frame
  table_read frame there =
      let w = table_reads napot memory below (IsInRun root frames) frame there in
      let (i, low, at, rest) = root_index w.from w.place w.there w.low in
      let (page, path) = pages.1 (i ∷ w.left) (low, w.all) in
      (page, subst (λ js. ReadsFrame (format_of napot) (slice_get memory) root (map step_at js) frame) (sym path) (by w.from w.place w.left i w.all at rest w.goes))
    where
      by : (from place : ℕ) (left : List ℕ) (i : ℕ) → Below below left → root + i / 512 ≡ from → i % 512 ≡ place → IsReading napot memory frame (entries_in napot memory below (slot from place)) left from
          → ReadsFrame (format_of napot) (slice_get memory) root (map step_at (i ∷ left)) frame
      by from place left i all at rest (inl here) = inl (at ∙ here)
      by from place left i all at rest (inr goes) =
          inr (subst (λ (f : Found Mapping). Goes f (λ t. ReadsFrame (format_of napot) (slice_get memory) t (map step_at left) frame) (λ said. ⊥))
          (sym (entry_of_step napot memory below root i left all
          ∙ ap (λ (p : ℕ). found_entry (entries_in napot memory below (slot p (i % 512))) (map step_at left)) at
          ∙ ap (λ (p : ℕ). found_entry (entries_in napot memory below (slot from p)) (map step_at left)) rest)) goes)

pub levels_are_walks : LevelsAreWalks
levels_are_walks napot memory root frames below pages = (
  (λ frame. (table_read napot memory root frames below pages frame, read_table napot memory root frames below pages frame)),
  (λ kind frame. (mapped_led napot memory root frames below pages kind frame, led_mapped napot memory root frames below pages kind frame)),
)
