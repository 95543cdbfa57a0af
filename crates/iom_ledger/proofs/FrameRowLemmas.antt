-- What the row of a frame counts, read off each history that the ledger agrees with.
use Rattle.std.proofs.Common.{◌≡◌, ◌≢◌, ◌↔◌, ℕ, suc, zero, inl, inr, Bool, true, ◌==◌, ◌&&◌, List, [], ◌∷◌, Contains, slice_get, Option, None, Some, IsNone, IfSome, is_none, is_some, refl, sym, ap, subst, ◌∙◌, true≢false, arith}
use Rattle.std.proofs.Math.Logic.{∥∥₁_map}
use Rattle.std.specs.Borrow.{Bor}
use Rattle.std.specs.List.{AllPairs}
use Rattle.std.specs.Option.{option_copied, option_to_list}
use Rattle.std.proofs.lemmas.Bool.{eqb-true, eq-eqb, and_parts, and_from, false≢true}
use Rattle.std.proofs.lemmas.List.Elements.{Contains-get_or, Contains-push, Contains-push_cases}
use Rattle.std.proofs.lemmas.List.Folds.{Any-from_list_any, list_any-from_Any}
use Rattle.std.proofs.lemmas.List.Kept.{AllPairs-cons}
use Rattle.std.proofs.lemmas.Option.{get_or_from_slice_get}
use Rattle.iom_base.specs.declared.rights.Rights.{Rights}
use Rattle.iom_ledger.specs.declared.ledger.Ledger.{Ledger}
use Rattle.iom_ledger.specs.declared.page_row.PageRow.{PageRow}
use Rattle.iom_ledger.specs.declared.row.Row.{Row}
use Rattle.iom_ledger.specs.History.{History, Pair}
use Rattle.iom_ledger.specs.FrameRows.{HoldsFrame, LingersOnFrame, IsNumberOf, IsRowOf, IsFreeRow}
use Rattle.iom_ledger.specs.Rows.{row_at, held_of, released_of, unless_released, if_released}
use Rattle.iom_ledger.specs.Counts.{holds_frame, lingers_on, has_page, AreOnceEach, IsCountOf, row_of_frame}
use Rattle.iom_ledger.specs.Shown.{Agrees, held_in, released_in}

-- a page that is found is contained, and the other way round
same_pair : (p : ℕ × ℕ) (d a : ℕ) → p.0 ≡ d → p.1 ≡ a → p ≡ (d, a)
same_pair p d a device page = ap (λ x. (x, p.1)) device ∙ ap (λ x. (d, x)) page

Contains-has_page : (pages : List (ℕ × ℕ)) (d a : ℕ) → has_page pages d a ≡ true → Contains pages (d, a)
Contains-has_page pages d a among =
    let (k, p, below, at, passes) = Any-from_list_any (λ p. (p.0 == d) && (p.1 == a)) pages among in
    let parts = and_parts (p.0 == d) (p.1 == a) passes in
    subst (Contains pages) (same_pair p d a (eqb-true p.0 d parts.0) (eqb-true p.1 a parts.1)) (k, below, at)

has_page-Contains : (pages : List (ℕ × ℕ)) (d a : ℕ) → Contains pages (d, a) → has_page pages d a ≡ true
has_page-Contains pages d a (k, below, at) =
    list_any-from_Any (λ p. (p.0 == d) && (p.1 == a)) pages (k, (d, a), below, at, and_from (d == d) (a == a) (eq-eqb d d refl) (eq-eqb a a refl))

-- pages of which none stands there twice differ pairwise
AllPairs-once : (pages : List (ℕ × ℕ)) → AreOnceEach pages → AllPairs (λ p q. p ≢ q) pages
AllPairs-once [] once = λ i k d below within. absurd (omega arith)
AllPairs-once (p ∷ pages) once =
    AllPairs-cons (λ p q. p ≢ q) p pages
    (λ k d below same. false≢true (sym once.0 ∙ has_page-Contains pages p.0 p.1 (subst (Contains pages) (sym same) (Contains-get_or pages k d below))))
    (AllPairs-once pages once.1)

-- the count of the pages that pass is the number of those of which the fact is true that the test decides
IsNumberOf-count : (test : ℕ → ℕ → Bool) (Fact : ℕ → ℕ → Type 0) (n : ℕ)
    → ((d a : ℕ) → (test d a ≡ true) ↔ Fact d a) → IsCountOf test n → IsNumberOf Fact n
IsNumberOf-count test Fact n decides count =
    ∥∥₁_map count (λ (pages, are, long). (
      pages,
      record {
        once = AllPairs-once pages are.once;
        all = λ d a. (
          (λ inside. (decides d a).0 (sym (are.all d a) ∙ has_page-Contains pages d a inside)),
          (λ fact. Contains-has_page pages d a (are.all d a ∙ (decides d a).1 fact)),
        );
      },
      long,
    ))

-- the row of a page holds the frame exactly where the pair that it shows as held is on it
holds_frame-held : (row : Option PageRow) (f : ℕ)
    → (holds_frame row f ≡ true) ↔ ((rights : Rights) × (held_of row ≡ Some (f, rights)))
holds_frame-held None f = ((λ named. absurd (false≢true named)), (λ (rights, held). cc))
holds_frame-held (Some row) f = by row.ticket row.frame row.rights
  where
    by : (t : Option ℕ) (frame : ℕ) (own : Rights)
        → ((is_none t && (frame == f)) ≡ true) ↔ ((rights : Rights) × (unless_released t (frame, own) ≡ Some (f, rights)))
    by None frame own = (
      (λ named. (own, ap (λ x. Some (x, own)) (eqb-true frame f named))),
      (λ (rights, held). let same : ◌≡◌ {A = Pair} (frame, own) (f, rights) = cc in eq-eqb frame f (ap (λ (p : Pair). p.0) same)),
    )
    by (Some t) frame own = ((λ named. absurd (false≢true named)), (λ (rights, held). cc))

-- and lingers on it exactly where the pair that it shows as released is
lingers_on-released : (row : Option PageRow) (f : ℕ)
    → (lingers_on row f ≡ true) ↔ ((rights : Rights) × ((ticket : ℕ) × Contains (option_to_list (released_of row)) (ticket, (f, rights))))
lingers_on-released None f = ((λ named. absurd (false≢true named)), (λ (rights, (ticket, (k, below, at))). absurd (omega arith)))
lingers_on-released (Some row) f = by row.ticket row.frame row.rights
  where
    by : (t : Option ℕ) (frame : ℕ) (own : Rights)
        → ((is_some t && (frame == f)) ≡ true) ↔ ((rights : Rights) × ((ticket : ℕ) × Contains (option_to_list (if_released t (frame, own))) (ticket, (f, rights))))
    by None frame own = ((λ named. absurd (false≢true named)), (λ (rights, (ticket, (k, below, at))). absurd (omega arith)))
    by (Some t) frame own = (
      (λ named. (
        own,
        (t, subst (λ x. Contains {X = ℕ × Pair} ((t, (frame, own)) ∷ []) (t, (x, own))) (eqb-true frame f named) (Contains-push [] (t, (frame, own)))),
      )),
      (λ (rights, (ticket, inside)). elim (Contains-push_cases [] (t, (frame, own)) (ticket, (f, rights)) inside) [
        | inl (k, below, at) ↦ absurd (omega arith)
        | inr same ↦ eq-eqb frame f (ap (λ (p : ℕ × Pair). p.1.0) same)
      ]),
    )

-- so the row of a frame counts what each history says that the ledger agrees with
pub IsRowOf-counted : (ledger : Ledger) (h : History) → Agrees ledger h → (frame : ℕ)
    → IsRowOf h frame (row_of_frame ledger.frames.rows.items frame)
unfolding held_in released_in
IsRowOf-counted ledger h agrees frame = record {
  grants =
      IsNumberOf-count (λ d a. holds_frame (row_at ledger.devices d a) frame) (HoldsFrame h frame)
      (row_of_frame ledger.frames.rows.items frame).grants holds (ledger.counted.grants frame);
  pending =
      IsNumberOf-count (λ d a. lingers_on (row_at ledger.devices d a) frame) (LingersOnFrame h frame)
      (row_of_frame ledger.frames.rows.items frame).pending lingers (ledger.counted.pending frame);
}
  where
    holds : (d a : ℕ) → (holds_frame (row_at ledger.devices d a) frame ≡ true) ↔ HoldsFrame h frame d a
    holds d a =
        let (there, back) = holds_frame-held (row_at ledger.devices d a) frame in
        let shows = (agrees.pages d a).holds in (
          (λ named. let (rights, held) = there named in (rights, shows ∙ held)),
          (λ (rights, held). back (rights, sym shows ∙ held)),
        )

    lingers : (d a : ℕ) → (lingers_on (row_at ledger.devices d a) frame ≡ true) ↔ LingersOnFrame h frame d a
    lingers d a =
        let (there, back) = lingers_on-released (row_at ledger.devices d a) frame in
        let shows = (agrees.pages d a).lingers in (
          (λ named.
              let (rights, (ticket, inside)) = there named in
              (rights, (ticket, subst (λ l. Contains l (ticket, (frame, rights))) (sym shows) inside))),
          (λ (rights, (ticket, inside)). back (rights, (ticket, subst (λ l. Contains l (ticket, (frame, rights))) shows inside))),
        )

-- a row that is lent is the frame's
pub lent_row : (result : Option (Bor Row)) (rows : List Row) (frame : ℕ) (P : Row → Type 0)
    → option_copied result ≡ slice_get rows frame → P (row_of_frame rows frame)
    → IfSome result (λ row. P row.now)
lent_row None rows frame P is holds = tt
lent_row (Some row) rows frame P is holds = subst P (get_or_from_slice_get rows frame row.now (record { grants = 0; pending = 0 }) (sym is)) holds

-- where none is, nothing names the frame
free_outside : (rows : List Row) (frame : ℕ) → slice_get rows frame ≡ None → IsFreeRow (row_of_frame rows frame)
free_outside [] frame none = (refl, refl)
free_outside (row ∷ rows) zero none = cc
free_outside (row ∷ rows) (suc frame) none = free_outside rows frame none

pub unlent_row : (result : Option (Bor Row)) (rows : List Row) (frame : ℕ)
    → option_copied result ≡ slice_get rows frame → IsNone result → IsFreeRow (row_of_frame rows frame)
unlent_row None rows frame is none = free_outside rows frame (sym is)
unlent_row (Some row) rows frame is none = absurd (true≢false none)
