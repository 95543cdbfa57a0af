-- Rows of devices that grow, one step after another.
use Rattle.std.proofs.Common.{◌≡◌, ◌⊎◌, ◌∙◌, inl, inr, ℕ, zero, suc, ◌+◌, ◌<◌, ◌≤◌, Bool, true, false, List, [], ◌∷◌, length, slice_get, slice_set, get_or, Option, None, Some, subst, refl, sym, ap, arith}
use Rattle.std.proofs.lemmas.Bool.{cases_lt, false≢true}
use Rattle.iom_base.specs.declared.access.AccessKind.{AccessKind}
use Rattle.iom_board.specs.BoardParts.{BoardParts}
use Rattle.iom_device_dir.specs.declared.context.Context.{Context as DeviceContext}
use Rattle.iom_napot.specs.Entries.{entries_in}
use Rattle.iom_pointers.specs.declared.pointer.Pointer.{Pointer}
use Rattle.iom_table_survey.specs.Levels.{IsTableIn, IsMappedIn}
use Rattle.iom_table_survey.specs.Reaches.{frames_by, AddsReach, IsReachOf}
use Rattle.iom_table_survey.specs.Rows.{row_has, GrowsBy, IsInRun}
use Rattle.iom_table_survey.specs.declared.reach.Reach.{Reach}
use Rattle.iom_table_survey.proofs.AddLemmas.{adds_none, adds_same, reach_alike, reach_next, reach_none, reach_none_yet, reach_same, reach_then}
use Rattle.iom_tlb.specs.declared.space.Space.{Space}
use Rattle.iom_way_survey.specs.Along.{IsTableAlong, IsMappedAlong, IsTableFound, IsReachedFound, SharesSpace, RowGrows, RowsGrow, RowsGrowBefore}
use Rattle.iom_way_survey.specs.Found.{HaveTableIn, HaveLeafIn, IsBeside, space_of_context}
use Rattle.iom_way_survey.specs.declared.findings.DeviceReach.{DeviceReach}
use Rattle.iom_way_survey.proofs.LookLemmas.{same_place}
use Rattle.iom_way_survey.proofs.StepLemmas.{at_get, get_low, reach_there}
use Rattle.iom_way_survey.proofs.WayLemmas.{none_is_some}

-- what stands at one place
one_there : {X : Type 0} (xs : List X) (k : ℕ) (one other : X) → slice_get xs k ≡ Some one → slice_get xs k ≡ Some other → one ≡ other
one_there xs k one other here there = let same : Some one ≡ Some other = sym here ∙ there in cc

-- in a list of which one element was set, each other one is as before
set_elsewhere : {X : Type 0} (xs : List X) (place k : ℕ) (x y : X) → ¬ (k ≡ place) → slice_get (slice_set xs place x) k ≡ Some y → slice_get xs k ≡ Some y
set_elsewhere [] place k x y other at = at
set_elsewhere (a ∷ xs) zero zero x y other at = absurd (other refl)
set_elsewhere (a ∷ xs) zero (suc k) x y other at = at
set_elsewhere (a ∷ xs) (suc place) zero x y other at = at
set_elsewhere (a ∷ xs) (suc place) (suc k) x y other at = set_elsewhere xs place k x y (λ e. other (ap suc e)) at

set_here : {X : Type 0} (xs : List X) (place : ℕ) (x y : X) → slice_get (slice_set xs place x) place ≡ Some y → y ≡ x
set_here [] place x y at = absurd (none_is_some y at)
set_here (a ∷ xs) zero x y at = let same : Some x ≡ Some y = at in cc
set_here (a ∷ xs) (suc place) x y at = set_here xs place x y at

set_long : {X : Type 0} (xs : List X) (place : ℕ) (x : X) → length (slice_set xs place x) ≡ length xs
set_long [] place x = refl
set_long (a ∷ xs) zero x = refl
set_long (a ∷ xs) (suc place) x = ap suc (set_long xs place x)

-- ALONG ONE POINTER

pub tables_along : (napot : Bool) (memory : List (List ℕ)) (pointer : Pointer) (number levels : ℕ) (old new : List ℕ) → number ≡ pointer.table.number → levels ≡ suc pointer.level
    → GrowsBy old new (IsTableIn (entries_in napot memory) (IsInRun number 1) levels) → GrowsBy old new (IsTableAlong napot memory pointer)
tables_along napot memory pointer number levels old new same many adds =
    subst (λ (n : ℕ). GrowsBy old new (IsTableIn (entries_in napot memory) (IsInRun n 1) (suc pointer.level))) same
    (subst (λ (l : ℕ). GrowsBy old new (IsTableIn (entries_in napot memory) (IsInRun number 1) l)) many adds)

pub leaves_along : (napot : Bool) (memory : List (List ℕ)) (pointer : Pointer) (number levels : ℕ) (old new : Reach) → number ≡ pointer.table.number → levels ≡ suc pointer.level
    → AddsReach old new (IsMappedIn (entries_in napot memory) (IsInRun number 1) levels) → AddsReach old new (IsMappedAlong napot memory pointer)
leaves_along napot memory pointer number levels old new same many adds =
    subst (λ (n : ℕ). AddsReach old new (IsMappedIn (entries_in napot memory) (IsInRun n 1) (suc pointer.level))) same
    (subst (λ (l : ℕ). AddsReach old new (IsMappedIn (entries_in napot memory) (IsInRun number 1) l)) many adds)

-- ROW BY ROW

pub none_grew : (rows : List DeviceReach) (IsNew : ℕ → AccessKind → ℕ → Type 0) → RowsGrowBefore 0 rows rows IsNew
none_grew rows IsNew = record {
  long = refl;
  each = λ k before after low here there. absurd (omega (arith, low));
  rest = λ k before after high here there. one_there rows k after before there here;
}

-- the row at the place grows
pub next_grew : (old between new : List DeviceReach) (place : ℕ) (row grown : DeviceReach) (IsNew : ℕ → AccessKind → ℕ → Type 0) → RowsGrowBefore place old between IsNew
    → place < length between → row ≡ get_or between place row → RowGrows (get_or between place row) grown (IsNew (get_or between place row).id) → new ≡ slice_set between place grown → RowsGrowBefore (place + 1) old new IsNew
next_grew old between new place row grown IsNew before within read grows is = subst (λ (rows : List DeviceReach). RowsGrowBefore (place + 1) old rows IsNew) (sym is) (record {
  long = set_long between place grown ∙ before.long;
  each = λ k own after low here there. by k own after (cases_lt k place) low here there;
  rest = λ k own after high here there. before.rest k own after (omega (arith, high)) here (set_elsewhere between place k grown after (λ e. absurd (omega (arith, e, high))) there);
})
  where
    row_grows : RowGrows row grown (IsNew row.id)
    row_grows = subst (λ (r : DeviceReach). RowGrows r grown (IsNew r.id)) (sym read) grows

    by : (k : ℕ) (own after : DeviceReach) → (k < place) ⊎ (place ≤ k) → k < place + 1 → slice_get old k ≡ Some own → slice_get (slice_set between place grown) k ≡ Some after
        → RowGrows own after (IsNew own.id)
    by k own after (inl less) low here there = before.each k own after less here (set_elsewhere between place k grown after (λ e. absurd (omega (arith, e, less))) there)
    by k own after (inr more) low here there =
        let e : k ≡ place = omega (arith, more, low) in
        let is_own : row ≡ own = before.rest place own row (omega arith) (subst (λ (j : ℕ). slice_get old j ≡ Some own) e here) (at_get between place row within read) in
        let is_grown : after ≡ grown = set_here between place grown after (subst (λ (j : ℕ). slice_get (slice_set between place grown) j ≡ Some after) e there) in
        subst (λ (r : DeviceReach). RowGrows r after (IsNew r.id)) is_own (subst (λ (r : DeviceReach). RowGrows row r (IsNew row.id)) (sym is_grown) row_grows)

-- all have grown
pub all_grew : (old new : List DeviceReach) (place : ℕ) (IsNew : ℕ → AccessKind → ℕ → Type 0) → RowsGrowBefore place old new IsNew → length new ≤ place → RowsGrow old new IsNew
all_grew old new place IsNew before all = record {
  long = before.long;
  each = λ k own after here there. before.each k own after (omega (arith, get_low new k after there, all)) here there;
}

-- what was added of a set is what the set is of
pub grew_by_all : (old new : List DeviceReach) (reach : Reach) (P : AccessKind → ℕ → Type 0) (S : ℕ → Type 0) → RowsGrow old new (λ id kind f. (row_has (frames_by reach kind) f ≡ true) × S id)
    → IsReachOf reach P → RowsGrow old new (λ id kind f. P kind f × S id)
grew_by_all old new reach P S grows is_of = record {
  long = grows.long;
  each = λ k before after here there. let one = grows.each k before after here there in record {
    id = one.id;
    is_trusted = one.is_trusted;
    reach = reach_alike before.reach after.reach (λ kind f. (row_has (frames_by reach kind) f ≡ true) × S before.id) (λ kind f. P kind f × S before.id) one.reach
        (λ kind f (p, s). (f, ((is_of kind).all f p, s), refl))
        (λ kind f (has, s). let (g, p, same) = (is_of kind).sole f has in (g, (p, s), same));
  };
}

-- STEP BY STEP

pub grew_none_yet : (rows : List DeviceReach) (P : ℕ → ℕ → AccessKind → ℕ → Type 0) → RowsGrow rows rows (λ id kind f. (j : ℕ) × (j < 0) × P j id kind f)
grew_none_yet rows P = record {
  long = refl;
  each = λ k before after here there. subst (λ (r : DeviceReach). RowGrows before r (λ kind f. (j : ℕ) × (j < 0) × P j before.id kind f)) (one_there rows k before after here there)
      (record { id = refl; is_trusted = refl; reach = reach_none_yet before.reach (λ j kind f. P j before.id kind f) });
}

pub grew_next : (old between new : List DeviceReach) (P : ℕ → ℕ → AccessKind → ℕ → Type 0) (step : ℕ) → RowsGrow old between (λ id kind f. (j : ℕ) × (j < step) × P j id kind f)
    → RowsGrow between new (P step) → RowsGrow old new (λ id kind f. (j : ℕ) × (j < step + 1) × P j id kind f)
grew_next old between new P step first second = record {
  long = second.long ∙ first.long;
  each = λ k before after here there.
      let (middle, at) = same_place old between k before (sym first.long) here in
      let one = first.each k before middle here at in
      let two = second.each k middle after at there in record {
        id = two.id ∙ one.id;
        is_trusted = two.is_trusted ∙ one.is_trusted;
        reach = reach_next before.reach middle.reach after.reach (λ j kind f. P j before.id kind f) step one.reach
            (subst (λ (id : ℕ). (kind : AccessKind) → GrowsBy (frames_by middle.reach kind) (frames_by after.reach kind) (P step id kind)) one.id two.reach);
      };
}

-- what is new is of a pointer that stands at the place
pub grew_there : {X : Type 0} (xs : List X) (place : ℕ) (x : X) (old new : List DeviceReach) (P : X → ℕ → AccessKind → ℕ → Type 0) → slice_get xs place ≡ Some x → RowsGrow old new (P x)
    → RowsGrow old new (λ id kind f. (y : X) × (slice_get xs place ≡ Some y) × P y id kind f)
grew_there xs place x old new P at grows = record {
  long = grows.long;
  each = λ k before after here there. let one = grows.each k before after here there in record {
    id = one.id;
    is_trusted = one.is_trusted;
    reach = reach_there xs place x at before.reach after.reach (λ y. P y before.id) one.reach;
  };
}

-- ONE AFTER ANOTHER

-- what is new may be said in other words
pub grew_same : (old new : List DeviceReach) (P Q : ℕ → AccessKind → ℕ → Type 0) → RowsGrow old new P → ((id : ℕ) (kind : AccessKind) (f : ℕ) → Q id kind f → P id kind f)
    → ((id : ℕ) (kind : AccessKind) (f : ℕ) → P id kind f → Q id kind f) → RowsGrow old new Q
grew_same old new P Q grows to from = record {
  long = grows.long;
  each = λ k before after here there. let one = grows.each k before after here there in record {
    id = one.id;
    is_trusted = one.is_trusted;
    reach = reach_same before.reach after.reach (P before.id) (Q before.id) one.reach (to before.id) (from before.id);
  };
}

pub grew_none : (rows : List DeviceReach) (P : ℕ → AccessKind → ℕ → Type 0) → ((id : ℕ) (kind : AccessKind) (f : ℕ) → P id kind f → ⊥) → RowsGrow rows rows P
grew_none rows P none = record {
  long = refl;
  each = λ k before after here there. subst (λ (r : DeviceReach). RowGrows before r (P before.id)) (one_there rows k before after here there)
      (record { id = refl; is_trusted = refl; reach = reach_none before.reach (P before.id) (none before.id) });
}

pub grew_then : (old between new : List DeviceReach) (P Q : ℕ → AccessKind → ℕ → Type 0) → RowsGrow old between P → RowsGrow between new Q
    → RowsGrow old new (λ id kind f. P id kind f ⊎ Q id kind f)
grew_then old between new P Q first second = record {
  long = second.long ∙ first.long;
  each = λ k before after here there.
      let (middle, at) = same_place old between k before (sym first.long) here in
      let one = first.each k before middle here at in
      let two = second.each k middle after at there in record {
        id = two.id ∙ one.id;
        is_trusted = two.is_trusted ∙ one.is_trusted;
        reach = reach_then before.reach middle.reach after.reach (P before.id) (Q before.id) one.reach
            (subst (λ (id : ℕ). (kind : AccessKind) → GrowsBy (frames_by middle.reach kind) (frames_by after.reach kind) (Q id kind)) one.id two.reach);
      };
}

-- the cached context, and the stored one where it is another: where both are the same one of them is enough
pub beside_grew : (P : Option DeviceContext → ℕ → AccessKind → ℕ → Type 0) (cached stored beside : Option DeviceContext) (old between new : List DeviceReach)
    → ((id : ℕ) (kind : AccessKind) (f : ℕ) → P None id kind f → ⊥) → IsBeside cached stored beside → RowsGrow old between (P cached) → RowsGrow between new (P beside)
    → RowsGrow old new (λ id kind f. P cached id kind f ⊎ P stored id kind f)
beside_grew P cached stored beside old between new none (inl same) first second =
    grew_then old between new (P cached) (P stored) first (subst (λ o. RowsGrow between new (P o)) same second)
beside_grew P cached stored beside old between new none (inr (nothing, same)) first second =
    grew_same old new (λ id kind f. P cached id kind f ⊎ P beside id kind f) (λ id kind f. P cached id kind f ⊎ P stored id kind f)
    (grew_then old between new (P cached) (P beside) first second) to from
  where
    to : (id : ℕ) (kind : AccessKind) (f : ℕ) → P cached id kind f ⊎ P stored id kind f → P cached id kind f ⊎ P beside id kind f
    to id kind f (inl it) = inl it
    to id kind f (inr it) = inl (subst (λ o. P o id kind f) same it)

    from : (id : ℕ) (kind : AccessKind) (f : ℕ) → P cached id kind f ⊎ P beside id kind f → P cached id kind f ⊎ P stored id kind f
    from id kind f (inl it) = inl it
    from id kind f (inr it) = absurd (none id kind f (subst (λ o. P o id kind f) nothing it))

-- FROM A CONTEXT THAT WAS FOUND

module _ (parts : BoardParts) (found : Option DeviceContext) (context : DeviceContext) (is : found ≡ Some context) where
  pub found_grew : (own : Space) (old new : List DeviceReach) → space_of_context context ≡ Some own
      → RowsGrow old new (λ id kind f. HaveLeafIn true parts.memory context.first_stage context.second_stage kind f × SharesSpace parts own id)
      → RowsGrow old new (IsReachedFound parts found)
  found_grew own old new has grows = subst (λ (o : Option DeviceContext). RowsGrow old new (IsReachedFound parts o)) (sym is)
      (grew_same old new (λ id kind f. HaveLeafIn true parts.memory context.first_stage context.second_stage kind f × SharesSpace parts own id)
      (IsReachedFound parts (Some context)) grows
      (λ id kind f (other, (same, leaf), shares). (leaf, subst (λ (s : Space). SharesSpace parts s id) (one_space other same) shares))
      (λ id kind f (leaf, shares). (own, (has, leaf), shares)))
    where
      one_space : (other : Space) → space_of_context context ≡ Some other → other ≡ own
      one_space other same = let both : Some other ≡ Some own = sym same ∙ has in cc

  pub found_adds : (own : Space) (old new : List ℕ) → space_of_context context ≡ Some own
      → GrowsBy old new (HaveTableIn true parts.memory context.first_stage context.second_stage) → GrowsBy old new (IsTableFound parts.memory found)
  found_adds own old new has adds = subst (λ (o : Option DeviceContext). GrowsBy old new (IsTableFound parts.memory o)) (sym is)
      (adds_same old new (HaveTableIn true parts.memory context.first_stage context.second_stage) (IsTableFound parts.memory (Some context)) adds
      (λ f (other, (same, table)). table) (λ f table. (own, (has, table))))

-- WHERE IT IS ASKED FOR

pub grew_where : (old new : List DeviceReach) (napot : Bool) (P : ℕ → AccessKind → ℕ → Type 0) → napot ≡ true → RowsGrow old new P
    → RowsGrow old new (λ id kind f. (napot ≡ true) × P id kind f)
grew_where old new napot P is grows = grew_same old new P (λ id kind f. (napot ≡ true) × P id kind f) grows (λ id kind f (same, p). p) (λ id kind f p. (is, p))

pub grew_else : (rows : List DeviceReach) (napot : Bool) (P : ℕ → AccessKind → ℕ → Type 0) → napot ≡ false → RowsGrow rows rows (λ id kind f. (napot ≡ true) × P id kind f)
grew_else rows napot P is = grew_none rows (λ id kind f. (napot ≡ true) × P id kind f) (λ id kind f (same, p). false≢true (sym is ∙ same))

pub adds_where_asked : (old new : List ℕ) (napot : Bool) (P : ℕ → Type 0) → napot ≡ true → GrowsBy old new P → GrowsBy old new (λ f. (napot ≡ true) × P f)
adds_where_asked old new napot P is adds = adds_same old new P (λ f. (napot ≡ true) × P f) adds (λ f (same, p). p) (λ f p. (is, p))

pub adds_else : (row : List ℕ) (napot : Bool) (P : ℕ → Type 0) → napot ≡ false → GrowsBy row row (λ f. (napot ≡ true) × P f)
adds_else row napot P is = adds_none row (λ f. (napot ≡ true) × P f) (λ f (same, p). false≢true (sym is ∙ same))
