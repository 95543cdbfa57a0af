-- Sets that grow, one step after another.
use Rattle.std.proofs.Common.{◌≡◌, ◌⊎◌, ◌∙◌, inl, inr, ℕ, ◌+◌, ◌<◌, ◌≤◌, min, Bool, true, false, List, replicate, subst, refl, sym, ap, arith}
use Rattle.std.specs.Prelude.{⊤}
use Rattle.std.proofs.lemmas.Bool.{cases_lt, false≢true}
use Rattle.iom_base.specs.declared.access.AccessKind.{AccessKind}
use Rattle.iom_base.specs.declared.access.AccessKind.TheVariants.{Read, Write}
use Rattle.iom_table_survey.specs.Reaches.{frames_by, AddsReach}
use Rattle.iom_table_survey.specs.declared.reach.Reach.{Reach}
use Rattle.iom_table_survey.proofs.RowLemmas.{empty_has}
use Rattle.iom_table_survey.specs.Rows.{frame_place, is_place_set, row_has, GrowsBy, IsOf, IsInRun}

-- frames of one place are both in a set
pub has_alike : (row : List ℕ) (one other : ℕ) → frame_place one ≡ frame_place other → row_has row other ≡ true → row_has row one ≡ true
has_alike row one other same there = ap (λ p. is_place_set row p) same ∙ there

pub adds_nothing : (row : List ℕ) → GrowsBy row row (λ f. ⊥)
adds_nothing row = record { unchanged = λ f had. had; added = λ f never. absurd never; sole = λ f had. inl had }

-- the same, where what is new is the same up to the place
pub adds_alike : (old new : List ℕ) (P Q : ℕ → Type 0) → GrowsBy old new P
    → ((f : ℕ) → Q f → (g : ℕ) × P g × (frame_place g ≡ frame_place f)) → ((f : ℕ) → P f → (g : ℕ) × Q g × (frame_place g ≡ frame_place f)) → GrowsBy old new Q
adds_alike old new P Q adds to from = record {
  unchanged = adds.unchanged;
  added = λ f q. let (g, p, same) = to f q in has_alike new f g (sym same) (adds.added g p);
  sole = λ f has_now. by f (adds.sole f has_now);
}
  where
    by : (f : ℕ) → (row_has old f ≡ true) ⊎ ((g : ℕ) × P g × (frame_place g ≡ frame_place f)) → (row_has old f ≡ true) ⊎ ((g : ℕ) × Q g × (frame_place g ≡ frame_place f))
    by f (inl had) = inl had
    by f (inr (g, p, same)) = let (h, q, alike) = from g p in inr (h, q, alike ∙ same)

pub adds_same : (old new : List ℕ) (P Q : ℕ → Type 0) → GrowsBy old new P → ((f : ℕ) → Q f → P f) → ((f : ℕ) → P f → Q f) → GrowsBy old new Q
adds_same old new P Q adds to from = adds_alike old new P Q adds (λ f q. (f, to f q, refl)) (λ f p. (f, from f p, refl))

-- one after another
pub adds_then : (old between new : List ℕ) (P Q : ℕ → Type 0) → GrowsBy old between P → GrowsBy between new Q → GrowsBy old new (λ f. P f ⊎ Q f)
adds_then old between new P Q first second = record {
  unchanged = λ f had. second.unchanged f (first.unchanged f had);
  added = λ f it. either f it;
  sole = λ f has_now. last f (second.sole f has_now);
}
  where
    either : (f : ℕ) → P f ⊎ Q f → row_has new f ≡ true
    either f (inl p) = second.unchanged f (first.added f p)
    either f (inr q) = second.added f q

    before : (f : ℕ) → (row_has old f ≡ true) ⊎ ((g : ℕ) × P g × (frame_place g ≡ frame_place f)) → (row_has old f ≡ true) ⊎ ((g : ℕ) × (P g ⊎ Q g) × (frame_place g ≡ frame_place f))
    before f (inl had) = inl had
    before f (inr (g, p, same)) = inr (g, inl p, same)

    last : (f : ℕ) → (row_has between f ≡ true) ⊎ ((g : ℕ) × Q g × (frame_place g ≡ frame_place f)) → (row_has old f ≡ true) ⊎ ((g : ℕ) × (P g ⊎ Q g) × (frame_place g ≡ frame_place f))
    last f (inl had) = before f (first.sole f had)
    last f (inr (g, q, same)) = inr (g, inr q, same)

-- a set that began empty
pub of_none : (none row : List ℕ) (P : ℕ → Type 0) → ((f : ℕ) → row_has none f ≡ false) → GrowsBy none row P → IsOf row P
of_none none row P empty adds = record { all = adds.added; sole = λ f there. by f (adds.sole f there) }
  where
    by : (f : ℕ) → (row_has none f ≡ true) ⊎ ((g : ℕ) × P g × (frame_place g ≡ frame_place f)) → (g : ℕ) × P g × (frame_place g ≡ frame_place f)
    by f (inl had) = absurd (false≢true (sym (empty f) ∙ had))
    by f (inr found) = found

-- all of another set
pub adds_all_of : (old new other : List ℕ) (P : ℕ → Type 0) → GrowsBy old new (λ f. row_has other f ≡ true) → IsOf other P → GrowsBy old new P
adds_all_of old new other P adds is_of =
    adds_alike old new (λ f. row_has other f ≡ true) P adds (λ f p. (f, is_of.all f p, refl)) is_of.sole

-- a step of a loop over numbers
pub adds_next : (old between new : List ℕ) (P : ℕ → ℕ → Type 0) (k : ℕ) → GrowsBy old between (λ f. (j : ℕ) × (j < k) × P j f) → GrowsBy between new (P k)
    → GrowsBy old new (λ f. (j : ℕ) × (j < k + 1) × P j f)
adds_next old between new P k before here =
    adds_same old new (λ f. ((j : ℕ) × (j < k) × P j f) ⊎ P k f) (λ f. (j : ℕ) × (j < k + 1) × P j f) (adds_then old between new (λ f. (j : ℕ) × (j < k) × P j f) (P k) before here)
    to from
  where
    at : (f j : ℕ) → P j f → (j < k) ⊎ (k ≤ j) → j < k + 1 → ((i : ℕ) × (i < k) × P i f) ⊎ P k f
    at f j p (inl below) within = inl (j, below, p)
    at f j p (inr above) within = let e : j ≡ k = omega arith in inr (subst (λ i. P i f) e p)

    to : (f : ℕ) → (j : ℕ) × (j < k + 1) × P j f → ((j : ℕ) × (j < k) × P j f) ⊎ P k f
    to f (j, within, p) = at f j p (cases_lt j k) within

    from : (f : ℕ) → ((j : ℕ) × (j < k) × P j f) ⊎ P k f → (j : ℕ) × (j < k + 1) × P j f
    from f (inl (j, below, p)) = (j, omega arith, p)
    from f (inr p) = (k, omega arith, p)

-- a loop over no numbers
pub adds_none_yet : (row : List ℕ) (P : ℕ → ℕ → Type 0) → GrowsBy row row (λ f. (j : ℕ) × (j < 0) × P j f)
adds_none_yet row P = record { unchanged = λ f had. had; added = λ f (j, never, p). absurd (omega arith); sole = λ f had. inl had }

-- frames from the first on, one after another, up to the place of those from 4,096 on
pub adds_run : (old new : List ℕ) (first count end : ℕ) → 0 < count → end ≡ min (first + count) 4097
    → GrowsBy old new (λ f. (min first 4096 ≤ f) × (f < end)) → GrowsBy old new (IsInRun first count)
adds_run old new first count end some is adds = adds_alike old new (λ f. (min first 4096 ≤ f) × (f < end)) (IsInRun first count) adds to from
  where
    to : (f : ℕ) → IsInRun first count f → (g : ℕ) × ((min first 4096 ≤ g) × (g < end)) × (frame_place g ≡ frame_place f)
    to f (low, high) = (min f 4096, (omega arith, omega arith), omega arith)

    from : (f : ℕ) → (min first 4096 ≤ f) × (f < end) → (g : ℕ) × IsInRun first count g × (frame_place g ≡ frame_place f)
    from f (low, high) = at (cases_lt f first)
      where
        at : (f < first) ⊎ (first ≤ f) → (g : ℕ) × IsInRun first count g × (frame_place g ≡ frame_place f)
        at (inl below) = (first, (omega arith, omega arith), omega arith)
        at (inr above) = (f, (above, omega arith), refl)

-- runs, step by step
pub adds_no_run : (row : List ℕ) (first start : ℕ) → start ≡ min first 4096 → GrowsBy row row (λ f. (min first 4096 ≤ f) × (f < start))
adds_no_run row first start is = record { unchanged = λ f had. had; added = λ f (low, high). absurd (omega arith); sole = λ f had. inl had }

pub adds_run_next : (old between new : List ℕ) (low k : ℕ) → low ≤ k → GrowsBy old between (λ f. (low ≤ f) × (f < k)) → GrowsBy between new (λ f. f ≡ k)
    → GrowsBy old new (λ f. (low ≤ f) × (f < k + 1))
adds_run_next old between new low k within before here =
    adds_same old new (λ f. ((low ≤ f) × (f < k)) ⊎ (f ≡ k)) (λ f. (low ≤ f) × (f < k + 1)) (adds_then old between new (λ f. (low ≤ f) × (f < k)) (λ f. f ≡ k) before here)
    (λ f (above, below). to f above below (cases_lt f k)) from
  where
    to : (f : ℕ) → low ≤ f → f < k + 1 → (f < k) ⊎ (k ≤ f) → ((low ≤ f) × (f < k)) ⊎ (f ≡ k)
    to f above below (inl less) = inl (above, less)
    to f above below (inr more) = inr (omega arith)

    from : (f : ℕ) → ((low ≤ f) × (f < k)) ⊎ (f ≡ k) → (low ≤ f) × (f < k + 1)
    from f (inl (above, below)) = (above, omega arith)
    from f (inr same) = (omega arith, omega arith)

-- where a condition holds, and where it doesn't
pub adds_where : (old new : List ℕ) (P : ℕ → Type 0) (b : Bool) → b ≡ true → GrowsBy old new P → GrowsBy old new (λ f. P f × (b ≡ true))
adds_where old new P b holds adds = adds_same old new P (λ f. P f × (b ≡ true)) adds (λ f (p, so). p) (λ f p. (p, holds))

pub adds_not : (row : List ℕ) (P : ℕ → Type 0) (b : Bool) → b ≡ false → GrowsBy row row (λ f. P f × (b ≡ true))
adds_not row P b fails = record { unchanged = λ f had. had; added = λ f (p, so). absurd (false≢true (sym fails ∙ so)); sole = λ f had. inl had }

-- where nothing is so
pub adds_none : (row : List ℕ) (P : ℕ → Type 0) → ((f : ℕ) → P f → ⊥) → GrowsBy row row P
adds_none row P none = record { unchanged = λ f had. had; added = λ f p. absurd (none f p); sole = λ f had. inl had }

-- everything
pub adds_everything : (old new : List ℕ) → ((f : ℕ) → row_has new f ≡ true) → GrowsBy old new (λ f. ⊤)
adds_everything old new all = record { unchanged = λ f had. all f; added = λ f so. all f; sole = λ f there. inr (f, tt, refl) }

-- a set of frames, and what grew from nothing
pub to_adds : (none row : List ℕ) (P : ℕ → Type 0) → ((f : ℕ) → row_has none f ≡ false) → IsOf row P → GrowsBy none row P
to_adds none row P empty is_of = record { unchanged = λ f had. absurd (false≢true (sym (empty f) ∙ had)); added = is_of.all; sole = λ f there. inr (is_of.sole f there) }

-- a set that is filled in a loop
pub of_none_yet : (row : List ℕ) (P : ℕ → ℕ → Type 0) → ((f : ℕ) → row_has row f ≡ false) → IsOf row (λ f. (j : ℕ) × (j < 0) × P j f)
of_none_yet row P empty = of_none row row (λ f. (j : ℕ) × (j < 0) × P j f) empty (adds_none_yet row P)

pub of_next : (old new : List ℕ) (P : ℕ → ℕ → Type 0) (k : ℕ) → IsOf old (λ f. (j : ℕ) × (j < k) × P j f) → GrowsBy old new (P k) → IsOf new (λ f. (j : ℕ) × (j < k + 1) × P j f)
of_next old new P k before here =
    of_none (replicate 65 0) new (λ f. (j : ℕ) × (j < k + 1) × P j f) empty_has
    (adds_next (replicate 65 0) old new P k (to_adds (replicate 65 0) old (λ f. (j : ℕ) × (j < k) × P j f) empty_has before) here)

pub of_same : (row : List ℕ) (P Q : ℕ → Type 0) → IsOf row P → ((f : ℕ) → Q f → P f) → ((f : ℕ) → P f → Q f) → IsOf row Q
of_same row P Q is_of to from = record { all = λ f q. is_of.all f (to f q); sole = λ f there. let (g, p, same) = is_of.sole f there in (g, from g p, same) }

-- for each kind of access
pub reach_by : (old new : Reach) (P : AccessKind → ℕ → Type 0) → GrowsBy old.readable new.readable (P Read) → GrowsBy old.writable new.writable (P Write) → AddsReach old new P
reach_by old new P reads writes Read = reads
reach_by old new P reads writes Write = writes

pub reach_same : (old new : Reach) (P Q : AccessKind → ℕ → Type 0) → AddsReach old new P → ((kind : AccessKind) (f : ℕ) → Q kind f → P kind f)
    → ((kind : AccessKind) (f : ℕ) → P kind f → Q kind f) → AddsReach old new Q
reach_same old new P Q adds to from kind = adds_same (frames_by old kind) (frames_by new kind) (P kind) (Q kind) (adds kind) (to kind) (from kind)

pub reach_alike : (old new : Reach) (P Q : AccessKind → ℕ → Type 0) → AddsReach old new P → ((kind : AccessKind) (f : ℕ) → Q kind f → (g : ℕ) × P kind g × (frame_place g ≡ frame_place f))
    → ((kind : AccessKind) (f : ℕ) → P kind f → (g : ℕ) × Q kind g × (frame_place g ≡ frame_place f)) → AddsReach old new Q
reach_alike old new P Q adds to from kind = adds_alike (frames_by old kind) (frames_by new kind) (P kind) (Q kind) (adds kind) (to kind) (from kind)

pub reach_then : (old between new : Reach) (P Q : AccessKind → ℕ → Type 0) → AddsReach old between P → AddsReach between new Q → AddsReach old new (λ kind f. P kind f ⊎ Q kind f)
reach_then old between new P Q first second kind = adds_then (frames_by old kind) (frames_by between kind) (frames_by new kind) (P kind) (Q kind) (first kind) (second kind)

pub reach_none : (reach : Reach) (P : AccessKind → ℕ → Type 0) → ((kind : AccessKind) (f : ℕ) → P kind f → ⊥) → AddsReach reach reach P
reach_none reach P none kind = adds_none (frames_by reach kind) (P kind) (none kind)

pub reach_none_yet : (reach : Reach) (P : ℕ → AccessKind → ℕ → Type 0) → AddsReach reach reach (λ kind f. (j : ℕ) × (j < 0) × P j kind f)
reach_none_yet reach P kind = adds_none_yet (frames_by reach kind) (λ j f. P j kind f)

pub reach_next : (old between new : Reach) (P : ℕ → AccessKind → ℕ → Type 0) (k : ℕ) → AddsReach old between (λ kind f. (j : ℕ) × (j < k) × P j kind f)
    → AddsReach between new (P k) → AddsReach old new (λ kind f. (j : ℕ) × (j < k + 1) × P j kind f)
reach_next old between new P k before here kind =
    adds_next (frames_by old kind) (frames_by between kind) (frames_by new kind) (λ j f. P j kind f) k (before kind) (here kind)

pub reach_where : (old new : Reach) (P : AccessKind → ℕ → Type 0) (b : Bool) → b ≡ true → AddsReach old new P → AddsReach old new (λ kind f. P kind f × (b ≡ true))
reach_where old new P b holds adds kind = adds_where (frames_by old kind) (frames_by new kind) (P kind) b holds (adds kind)

pub reach_not : (reach : Reach) (P : AccessKind → ℕ → Type 0) (b : Bool) → b ≡ false → AddsReach reach reach (λ kind f. P kind f × (b ≡ true))
reach_not reach P b fails kind = adds_not (frames_by reach kind) (P kind) b fails
