-- How the rows of frames count the rows of pages, as these come, are released and go.
use Rattle.std.proofs.Common.{◌≡◌, ◌+◌, ◌-◌, ◌^◌, ◌<◌, ℕ, suc, zero, Bool, true, false, ◌==◌, ◌&&◌, ◌||◌, List, [], ◌∷◌, length, replicate, Option, None, Some, is_none, is_some, if◌then◌else◌, refl, sym, ap, subst, ◌∙◌, arith}
use Rattle.std.proofs.Math.Bridge.{le_prop}
use Rattle.std.proofs.Math.Logic.{∥∥₁_map, ∥∥₁_elim}
use Rattle.std.specs.Set.{remove_key}
use Rattle.std.proofs.lemmas.Bool.{eqb-true, eq-eqb, and_parts, and_from, or_left, false≢true}
use Rattle.std.proofs.lemmas.Map.Made.{length-remove_key}
use Rattle.iom_base.specs.declared.rights.Rights.{Rights}
use Rattle.iom_ledger.specs.declared.page_row.PageRow.{PageRow}
use Rattle.iom_ledger.specs.declared.row.Row.{Row}
use Rattle.iom_ledger.specs.FrameRows.{IsFreeRow}
use Rattle.iom_ledger.specs.Rows.{Devices, row_at, waits_for}
use Rattle.iom_ledger.specs.RowChanges.{released_row, released_row_if_any, ticket_after, held_frame, KeepsRows, SetsRow, ReleasesRow}
use Rattle.iom_ledger.specs.Counts.{holds_frame, lingers_on, has_page, AreOnceEach, AreNumbered, ArePages, IsCountOf, CountsRows, row_of_frame, AreCounted, KeepsCounts, ChangesRow, granted, released, confirmed}
use Rattle.iom_ledger.proofs.AgreementLemmas.{SomeRowNames}

-- the pages but this one
abbrev without : ℕ → ℕ → List (ℕ × ℕ) → List (ℕ × ℕ)
without d a pages = remove_key (λ p. (p.0 == d) && (p.1 == a)) pages

-- one page less is among them
among-without : (d a e b : ℕ) (pages : List (ℕ × ℕ)) → AreOnceEach pages
    → has_page (without d a pages) e b ≡ (if (d == e) && (a == b) then false else has_page pages e b)
among-without d a e b [] once = by ((d == e) && (a == b))
  where
    by : (t : Bool) → false ≡ (if t then false else false)
    by true = refl
    by false = refl
among-without d a e b (p ∷ pages) once = by ((p.0 == d) && (p.1 == a)) ((d == e) && (a == b)) refl refl (among-without d a e b pages once.1)
  where
    by : (s t : Bool) → ((p.0 == d) && (p.1 == a)) ≡ s → ((d == e) && (a == b)) ≡ t
        → has_page (without d a pages) e b ≡ (if (d == e) && (a == b) then false else has_page pages e b)
        → has_page (without d a (p ∷ pages)) e b ≡ (if (d == e) && (a == b) then false else has_page (p ∷ pages) e b)
    by true true first same rest =
        let here = and_parts (p.0 == d) (p.1 == a) first in
        let there = and_parts (d == e) (a == b) same in
        let device : p.0 ≡ e = eqb-true p.0 d here.0 ∙ eqb-true d e there.0 in
        let page : p.1 ≡ b = eqb-true p.1 a here.1 ∙ eqb-true a b there.1 in
        rw (first, same) (ap (λ x. has_page pages x b) (sym device) ∙ ap (λ x. has_page pages p.0 x) (sym page) ∙ once.0)
    by true false first other rest =
        let here = and_parts (p.0 == d) (p.1 == a) first in
        let apart : ((p.0 == e) && (p.1 == b)) ≡ false =
        ap (λ x. (x == e) && (p.1 == b)) (eqb-true p.0 d here.0) ∙ ap (λ x. (d == e) && (x == b)) (eqb-true p.1 a here.1) ∙ other in
        rw (first, other, apart) refl
    by false true later same rest =
        let there = and_parts (d == e) (a == b) same in
        let apart : ((p.0 == e) && (p.1 == b)) ≡ false =
        ap (λ x. (p.0 == x) && (p.1 == b)) (sym (eqb-true d e there.0)) ∙ ap (λ x. (p.0 == d) && (p.1 == x)) (sym (eqb-true a b there.1)) ∙ later in
        rw (later, apart, rest, same) refl
    by false false later other rest = rw (later, rest, other) refl

once-without : (d a : ℕ) (pages : List (ℕ × ℕ)) → AreOnceEach pages → AreOnceEach (without d a pages)
once-without d a [] once = once
once-without d a (p ∷ pages) once = by ((p.0 == d) && (p.1 == a)) refl (once-without d a pages once.1)
  where
    absent : (t : Bool) → (if t then false else has_page pages p.0 p.1) ≡ false
    absent true = refl
    absent false = once.0

    by : (s : Bool) → ((p.0 == d) && (p.1 == a)) ≡ s → AreOnceEach (without d a pages)
        → AreOnceEach (without d a (p ∷ pages))
    by true first rest = rw first once.1
    by false later rest = rw later (among-without d a p.0 p.1 pages once.1 ∙ absent ((d == p.0) && (a == p.1)), rest)

numbered-without : (d a : ℕ) (pages : List (ℕ × ℕ)) → AreNumbered pages → AreNumbered (without d a pages)
numbered-without d a [] numbered = numbered
numbered-without d a (p ∷ pages) numbered = by ((p.0 == d) && (p.1 == a)) refl (numbered-without d a pages numbered.2)
  where
    by : (s : Bool) → ((p.0 == d) && (p.1 == a)) ≡ s → AreNumbered (without d a pages)
        → AreNumbered (without d a (p ∷ pages))
    by true first rest = rw first numbered.2
    by false later rest = rw later (numbered.0, numbered.1, rest)

-- the same pages pass another test
count_same : (test now : ℕ → ℕ → Bool) (n m : ℕ) → ((e b : ℕ) → now e b ≡ test e b) → m ≡ n → IsCountOf test n
    → IsCountOf now m
count_same test now n m same number count =
    ∥∥₁_map count (λ (pages, are, long). (pages, record { once = are.once; numbered = are.numbered; all = λ e b. are.all e b ∙ sym (same e b) }, long ∙ sym number))

-- one page more passes
count_added : (test now : ℕ → ℕ → Bool) (d a n m : ℕ) → d < 2 ^ 32 → a < 2 ^ 64 → test d a ≡ false
    → ((e b : ℕ) → now e b ≡ (if (d == e) && (a == b) then true else test e b)) → m ≡ n + 1
    → IsCountOf test n → IsCountOf now m
count_added test now d a n m device page new more number count = ∥∥₁_map count one_more
  where
    by : (e b : ℕ) (was : Bool) → was ≡ test e b → (t : Bool) → (t || was) ≡ (if t then true else test e b)
    by e b was is true = refl
    by e b was is false = is

    one_more : (pages : List (ℕ × ℕ)) × ArePages test pages × (length pages ≡ n)
        → (pages : List (ℕ × ℕ)) × ArePages now pages × (length pages ≡ m)
    one_more (pages, are, long) = (
      (d, a) ∷ pages,
      record { once = (are.all d a ∙ new, are.once); numbered = (device, page, are.numbered); all = λ e b. by e b (has_page pages e b) (are.all e b) ((d == e) && (a == b)) ∙ sym (more e b) },
      omega arith,
    )

-- one page less passes
count_dropped : (test now : ℕ → ℕ → Bool) (d a n m : ℕ) → test d a ≡ true
    → ((e b : ℕ) → now e b ≡ (if (d == e) && (a == b) then false else test e b)) → m ≡ n - 1
    → IsCountOf test n → IsCountOf now m
count_dropped test now d a n m old less number count = ∥∥₁_map count one_less
  where
    one_less : (pages : List (ℕ × ℕ)) × ArePages test pages × (length pages ≡ n)
        → (pages : List (ℕ × ℕ)) × ArePages now pages × (length pages ≡ m)
    one_less (pages, are, long) =
        let shorter = length-remove_key (λ p. (p.0 == d) && (p.1 == a)) pages (are.all d a ∙ old) in (
          without d a pages,
          record {
            once = once-without d a pages are.once;
            numbered = numbered-without d a pages are.numbered;
            all = λ e b. among-without d a e b pages are.once ∙ ap (λ was. if (d == e) && (a == b) then false else was) (are.all e b) ∙ sym (less e b);
          },
          omega arith,
        )

-- where a page passes, the count isn't 0
count_positive : (test : ℕ → ℕ → Bool) (d a n : ℕ) → test d a ≡ true → IsCountOf test n → 0 < n
count_positive test d a zero passes count = absurd (∥∥₁_elim count (λ x y. absurd x) (λ (pages, are, long). none pages long (are.all d a ∙ passes)))
  where
    none : (pages : List (ℕ × ℕ)) → length pages ≡ 0 → has_page pages d a ≡ true → ⊥
    none [] long among = false≢true among
    none (p ∷ pages) long among = omega arith
count_positive test d a (suc n) passes count = omega arith

-- where none passes, the count is 0
count_none : (test : ℕ → ℕ → Bool) (n : ℕ) → ((d a : ℕ) → test d a ≡ true → ⊥) → IsCountOf test n → n ≡ 0
count_none test zero none count = refl
count_none test (suc n) none count = absurd (∥∥₁_elim count (λ x y. absurd x) (λ (pages, are, long). some pages are long))
  where
    some : (pages : List (ℕ × ℕ)) → ArePages test pages → length pages ≡ suc n → ⊥
    some [] are long = absurd (omega arith)
    some (p ∷ pages) are long = none p.0 p.1 (sym (are.all p.0 p.1) ∙ here p.0 p.1)
      where
        here : (d a : ℕ) → ((d == d) && (a == a) || has_page pages d a) ≡ true
        here d a = or_left _ _ (and_from (d == d) (a == a) (eq-eqb d d refl) (eq-eqb a a refl))

-- a page that passes as it did changes no other
unchanged : (test : ℕ → ℕ → Bool) (d a e b : ℕ) (v : Bool) → test d a ≡ v
    → (if (d == e) && (a == b) then v else test e b) ≡ test e b
unchanged test d a e b v before = by ((d == e) && (a == b)) refl
  where
    by : (t : Bool) → ((d == e) && (a == b)) ≡ t → (if t then v else test e b) ≡ test e b
    by true same =
        let parts = and_parts (d == e) (a == b) same in
        sym before ∙ ap (λ x. test x a) (eqb-true d e parts.0) ∙ ap (λ x. test e x) (eqb-true a b parts.1)
    by false other = refl

-- the count of the pages that pass, once one of them may pass another way
abbrev moved : Bool → Bool → ℕ → ℕ
moved false false n = n
moved false true n = n + 1
moved true false n = n - 1
moved true true n = n

-- a page passes that didn't, or the other way round
count_moved : (test now : ℕ → ℕ → Bool) (d a n m : ℕ) (was is : Bool)
    → (was ≡ false → is ≡ true → (d < 2 ^ 32) × (a < 2 ^ 64)) → test d a ≡ was
    → ((e b : ℕ) → now e b ≡ (if (d == e) && (a == b) then is else test e b)) → m ≡ moved was is n
    → IsCountOf test n → IsCountOf now m
count_moved test now d a n m false true numbered before after number count =
    let (device, page) = numbered refl refl in
    count_added test now d a n m device page before after number count
count_moved test now d a n m true false numbered before after number count = count_dropped test now d a n m before after number count
count_moved test now d a n m false false numbered before after number count =
    count_same test now n m (λ e b. after e b ∙ unchanged test d a e b false before) number count
count_moved test now d a n m true true numbered before after number count =
    count_same test now n m (λ e b. after e b ∙ unchanged test d a e b true before) number count

-- a page of a row has a number of 32 bits for its device, and one of 64 bits itself
numbers_among : (pages : List (ℕ × ℕ)) (d a : ℕ) → AreNumbered pages → has_page pages d a ≡ true
    → (d < 2 ^ 32) × (a < 2 ^ 64)
numbers_among [] d a numbered among = absurd (false≢true among)
numbers_among (p ∷ pages) d a numbered among = by ((p.0 == d) && (p.1 == a)) refl among (numbers_among pages d a numbered.2)
  where
    by : (b : Bool) → ((p.0 == d) && (p.1 == a)) ≡ b → (b || has_page pages d a) ≡ true
        → (has_page pages d a ≡ true → (d < 2 ^ 32) × (a < 2 ^ 64)) → (d < 2 ^ 32) × (a < 2 ^ 64)
    by true same among rest =
        let parts = and_parts (p.0 == d) (p.1 == a) same in
        (subst (λ x. x < 2 ^ 32) (eqb-true p.0 d parts.0) numbered.0, subst (λ x. x < 2 ^ 64) (eqb-true p.1 a parts.1) numbered.1)
    by false other among rest = rest among

count_numbered : (test : ℕ → ℕ → Bool) (d a n : ℕ) → test d a ≡ true → IsCountOf test n → (d < 2 ^ 32) × (a < 2 ^ 64)
count_numbered test d a n passes count =
    ∥∥₁_elim count (hlevel le_prop) (λ (pages, are, long). numbers_among pages d a are.numbered (are.all d a ∙ passes))

-- one page's row is another, or comes, or goes: the count of each frame goes along
CountsRows-set : (test : Option PageRow → ℕ → Bool) (old new : Devices) (before after : ℕ → ℕ) (d a : ℕ) (row : Option PageRow)
    → ((f : ℕ) → test (row_at old d a) f ≡ false → test row f ≡ true → (d < 2 ^ 32) × (a < 2 ^ 64))
    → ((x b : ℕ) → row_at new x b ≡ (if (d == x) && (a == b) then row else row_at old x b))
    → ((f : ℕ) → after f ≡ moved (test (row_at old d a) f) (test row f) (before f))
    → CountsRows test old before → CountsRows test new after
CountsRows-set test old new before after d a row numbered sets number counts f =
    count_moved (λ x b. test (row_at old x b) f) (λ x b. test (row_at new x b) f) d a (before f) (after f) (test (row_at old d a) f) (test row f) (numbered f) refl
    (λ x b. ap (λ r. test r f) (sets x b) ∙ passes ((d == x) && (a == b)) (row_at old x b)) (number f) (counts f)
  where
    passes : (t : Bool) (was : Option PageRow)
        → test (if t then row else was) f ≡ (if t then test row f else test was f)
    passes true was = refl
    passes false was = refl

CountsRows-kept : (test : Option PageRow → ℕ → Bool) (old new : Devices) (before after : ℕ → ℕ)
    → ((d a f : ℕ) → test (row_at new d a) f ≡ test (row_at old d a) f) → ((f : ℕ) → after f ≡ before f)
    → CountsRows test old before → CountsRows test new after
CountsRows-kept test old new before after same number counts f =
    count_same (λ d a. test (row_at old d a) f) (λ d a. test (row_at new d a) f) (before f) (after f) (λ d a. same d a f) (number f) (counts f)

-- each row stays
pub AreCounted-kept : (old new : Devices) (c e : List Row) → KeepsRows old new → KeepsCounts c e
    → AreCounted old c → AreCounted new e
AreCounted-kept old new c e same counts counted = record {
  grants =
      CountsRows-kept holds_frame old new _ _ (λ d a f. ap (λ row. holds_frame row f) (same d a))
      (λ f. ap (λ r. r.grants) (counts f)) counted.grants;
  pending =
      CountsRows-kept lingers_on old new _ _ (λ d a f. ap (λ row. lingers_on row f) (same d a))
      (λ f. ap (λ r. r.pending) (counts f)) counted.pending;
}

-- a row names its own frame
own_frame : (b : Bool) (frame : ℕ) → b ≡ true → (b && (frame == frame)) ≡ true
own_frame b frame is = and_from b (frame == frame) is (eq-eqb frame frame refl)

-- a page's row that isn't released counts among the grants of its frame, and one that is among the releases
grants_positive : (devices : Devices) (c : List Row) (d a : ℕ) (row : PageRow) → row_at devices d a ≡ Some row
    → row.ticket ≡ None → AreCounted devices c
    → 0 < (row_of_frame c row.frame).grants
grants_positive devices c d a row at held counted =
    count_positive (λ x b. holds_frame (row_at devices x b) row.frame) d a (row_of_frame c row.frame).grants
    (ap (λ r. holds_frame r row.frame) at ∙ own_frame (is_none row.ticket) row.frame (ap is_none held)) (counted.grants row.frame)

pub pending_positive : (devices : Devices) (c : List Row) (d a : ℕ) (row : PageRow)
    → row_at devices d a ≡ Some row → is_some row.ticket ≡ true → AreCounted devices c
    → 0 < (row_of_frame c row.frame).pending
pending_positive devices c d a row at released counted =
    count_positive (λ x b. lingers_on (row_at devices x b) row.frame) d a (row_of_frame c row.frame).pending
    (ap (λ r. lingers_on r row.frame) at ∙ own_frame (is_some row.ticket) row.frame released) (counted.pending row.frame)

-- the row of a frame, where it or another's is changed
grants_changed : (own : Bool) (change : Row → Row) (row : Row)
    → (if own then change row else row).grants ≡ (if own then (change row).grants else row.grants)
grants_changed true change row = refl
grants_changed false change row = refl

pending_changed : (own : Bool) (change : Row → Row) (row : Row)
    → (if own then change row else row).pending ≡ (if own then (change row).pending else row.pending)
pending_changed true change row = refl
pending_changed false change row = refl

-- how the counts go along with a row that comes, is released, or goes
moved_up : (own : Bool) (n : ℕ) → (if own then n + 1 else n) ≡ moved false own n
moved_up true n = refl
moved_up false n = refl

moved_down : (own : Bool) (n : ℕ) → (if own then n - 1 else n) ≡ moved own false n
moved_down true n = refl
moved_down false n = refl

moved_nowhere : (own : Bool) (n : ℕ) → (if own then n else n) ≡ n
moved_nowhere true n = refl
moved_nowhere false n = refl

-- a page that had no row has one that isn't released, and its frame has one grant more
pub AreCounted-granted : (old new : Devices) (c e : List Row) (d a : ℕ) (row : PageRow) → d < 2 ^ 32
    → a < 2 ^ 64 → row_at old d a ≡ None → row.ticket ≡ None
    → SetsRow old new d a row → ChangesRow granted c e row.frame → AreCounted old c → AreCounted new e
AreCounted-granted old new c e d a row device page absent held sets changes counted = record {
  grants =
      CountsRows-set holds_frame old new _ _ d a (Some row) (λ f was is. (device, page)) sets
      (λ f. ap (λ r. r.grants) (changes f) ∙ grants_changed (row.frame == f) granted (row_of_frame c f)
      ∙ moved_up (row.frame == f) (row_of_frame c f).grants
      ∙ ap (λ r. moved (holds_frame r f) (row.frame == f) (row_of_frame c f).grants) (sym absent)
      ∙ ap (λ t. moved (holds_frame (row_at old d a) f) (is_none t && (row.frame == f)) (row_of_frame c f).grants) (sym held)) counted.grants;
  pending =
      CountsRows-set lingers_on old new _ _ d a (Some row) (λ f was is. (device, page)) sets
      (λ f. ap (λ r. r.pending) (changes f) ∙ pending_changed (row.frame == f) granted (row_of_frame c f)
      ∙ moved_nowhere (row.frame == f) (row_of_frame c f).pending
      ∙ ap (λ r. moved (lingers_on r f) false (row_of_frame c f).pending) (sym absent)
      ∙ ap (λ t. moved (lingers_on (row_at old d a) f) (is_some t && (row.frame == f)) (row_of_frame c f).pending) (sym held)) counted.pending;
}

-- a page that had a row that wasn't released has it released, and one of its frame's grants is
AreCounted-released : (old new : Devices) (c e : List Row) (d a ticket : ℕ) (row : PageRow)
    → row_at old d a ≡ Some row → row.ticket ≡ None
    → ReleasesRow old new d a ticket → ChangesRow released c e row.frame → AreCounted old c → AreCounted new e
AreCounted-released old new c e d a ticket row had held releases changes counted = record {
  grants =
      CountsRows-set holds_frame old new _ _ d a (Some now) (λ f was is. numbers) sets
      (λ f. ap (λ r. r.grants) (changes f) ∙ grants_changed (row.frame == f) released (row_of_frame c f)
      ∙ moved_down (row.frame == f) (row_of_frame c f).grants
      ∙ ap (λ t. moved (is_none t && (row.frame == f)) (is_none (ticket_after t ticket) && (row.frame == f)) (row_of_frame c f).grants) (sym held)
      ∙ ap (λ r. moved (holds_frame r f) (holds_frame (Some now) f) (row_of_frame c f).grants) (sym had)) counted.grants;
  pending =
      CountsRows-set lingers_on old new _ _ d a (Some now) (λ f was is. numbers) sets
      (λ f. ap (λ r. r.pending) (changes f) ∙ pending_changed (row.frame == f) released (row_of_frame c f)
      ∙ moved_up (row.frame == f) (row_of_frame c f).pending
      ∙ ap (λ t. moved (is_some t && (row.frame == f)) (is_some (ticket_after t ticket) && (row.frame == f)) (row_of_frame c f).pending) (sym held)
      ∙ ap (λ r. moved (lingers_on r f) (lingers_on (Some now) f) (row_of_frame c f).pending) (sym had)) counted.pending;
}
  where
    now : PageRow
    now = released_row row ticket

    numbers : (d < 2 ^ 32) × (a < 2 ^ 64)
    numbers =
        count_numbered (λ x b. holds_frame (row_at old x b) row.frame) d a (row_of_frame c row.frame).grants
        (ap (λ r. holds_frame r row.frame) had ∙ own_frame (is_none row.ticket) row.frame (ap is_none held)) (counted.grants row.frame)

    sets : (x b : ℕ) → row_at new x b ≡ (if (d == x) && (a == b) then Some now else row_at old x b)
    sets x b = releases x b ∙ by ((d == x) && (a == b)) refl
      where
        by : (t : Bool) → ((d == x) && (a == b)) ≡ t
            → (if t then released_row_if_any (row_at old x b) ticket else row_at old x b) ≡ (if t then Some now else row_at old x b)
        by true same =
            let parts = and_parts (d == x) (a == b) same in
            ap (λ r. released_row_if_any r ticket)
            (ap (λ y. row_at old y b) (sym (eqb-true d x parts.0)) ∙ ap (λ y. row_at old d y) (sym (eqb-true a b parts.1)) ∙ had)
        by false other = refl

-- the same of the frame of the row at the page, where it wasn't released
held_row : (row : Option PageRow) (frame : ℕ) → Some frame ≡ held_frame row
    → (r : PageRow) × (row ≡ Some r) × (r.ticket ≡ None) × (r.frame ≡ frame)
held_row None frame is = cc
held_row (Some row) frame is = by row.ticket row.frame row.rights is
  where
    by : (t : Option ℕ) (own : ℕ) (rights : Rights) → Some frame ≡ (if is_none t then Some own else None)
        → (r : PageRow) × (◌≡◌ {A = Option PageRow} (Some (record { frame = own; rights = rights; ticket = t })) (Some r)) × (r.ticket ≡ None) × (r.frame ≡ frame)
    by None own rights is = (record { frame = own; rights = rights; ticket = None }, refl, refl, cc)
    by (Some t) own rights is = cc

pub held_positive : (devices : Devices) (c : List Row) (d a frame : ℕ)
    → Some frame ≡ held_frame (row_at devices d a) → AreCounted devices c → 0 < (row_of_frame c frame).grants
held_positive devices c d a frame is counted =
    let (row, had, held, same) = held_row (row_at devices d a) frame is in
    subst (λ f. 0 < (row_of_frame c f).grants) same (grants_positive devices c d a row had held counted)

pub AreCounted-held : (old new : Devices) (c e : List Row) (d a ticket frame : ℕ)
    → Some frame ≡ held_frame (row_at old d a)
    → ReleasesRow old new d a ticket → ChangesRow released c e frame → AreCounted old c → AreCounted new e
AreCounted-held old new c e d a ticket frame is releases changes counted =
    let (row, had, held, same) = held_row (row_at old d a) frame is in
    AreCounted-released old new c e d a ticket row had held releases (subst (λ f. ChangesRow released c e f) (sym same) changes) counted

-- a page that has no row, or one that was released, keeps it
kept_row : (row : Option PageRow) (ticket : ℕ) → None ≡ held_frame row → released_row_if_any row ticket ≡ row
kept_row None ticket none = refl
kept_row (Some row) ticket none = by row.ticket row.frame row.rights none
  where
    by : (t : Option ℕ) (frame : ℕ) (rights : Rights) → None ≡ (if is_none t then Some frame else None)
        → ◌≡◌ {A = Option PageRow} (Some (record { frame = frame; rights = rights; ticket = ticket_after t ticket })) (Some (record { frame = frame; rights = rights; ticket = t }))
    by None frame rights none = cc
    by (Some own) frame rights none = refl

pub KeepsRows-released : (old new : Devices) (d a ticket : ℕ) → None ≡ held_frame (row_at old d a)
    → ReleasesRow old new d a ticket → KeepsRows old new
KeepsRows-released old new d a ticket none releases x b = releases x b ∙ by ((d == x) && (a == b)) refl
  where
    by : (t : Bool) → ((d == x) && (a == b)) ≡ t
        → (if t then released_row_if_any (row_at old x b) ticket else row_at old x b) ≡ row_at old x b
    by true same =
        let parts = and_parts (d == x) (a == b) same in
        let here : row_at old d a ≡ row_at old x b = ap (λ y. row_at old y a) (eqb-true d x parts.0) ∙ ap (λ y. row_at old x y) (eqb-true a b parts.1) in
        kept_row (row_at old x b) ticket (none ∙ ap held_frame here)
    by false other = refl

-- a page that had a row that was released has none, and one of its frame's releases is confirmed
pub AreCounted-dropped : (old new : Devices) (c e : List Row) (d a : ℕ) (row : PageRow)
    → row_at old d a ≡ Some row → is_some row.ticket ≡ true
    → ((x b : ℕ) → row_at new x b ≡ (if (d == x) && (a == b) then None else row_at old x b))
    → ChangesRow confirmed c e row.frame → AreCounted old c → AreCounted new e
AreCounted-dropped old new c e d a row had waits drops changes counted = record {
  grants =
      CountsRows-set holds_frame old new _ _ d a None (λ f was is. absurd (false≢true is)) drops
      (λ f. ap (λ r. r.grants) (changes f) ∙ grants_changed (row.frame == f) confirmed (row_of_frame c f)
      ∙ moved_nowhere (row.frame == f) (row_of_frame c f).grants
      ∙ ap (λ t. moved (t && (row.frame == f)) false (row_of_frame c f).grants) (sym (not_held row.ticket waits))
      ∙ ap (λ r. moved (holds_frame r f) false (row_of_frame c f).grants) (sym had)) counted.grants;
  pending =
      CountsRows-set lingers_on old new _ _ d a None (λ f was is. absurd (false≢true is)) drops
      (λ f. ap (λ r. r.pending) (changes f) ∙ pending_changed (row.frame == f) confirmed (row_of_frame c f)
      ∙ moved_down (row.frame == f) (row_of_frame c f).pending
      ∙ ap (λ t. moved (t && (row.frame == f)) false (row_of_frame c f).pending) (sym waits)
      ∙ ap (λ r. moved (lingers_on r f) false (row_of_frame c f).pending) (sym had)) counted.pending;
}
  where
    not_held : (t : Option ℕ) → is_some t ≡ true → is_none t ≡ false
    not_held None waits = absurd (false≢true waits)
    not_held (Some own) waits = refl

-- a row that waits for a ticket is released
pub released_from_waits : (row : PageRow) (ticket : ℕ) → waits_for row.ticket ticket ≡ true
    → is_some row.ticket ≡ true
released_from_waits row ticket waits = by row.ticket waits
  where
    by : (t : Option ℕ) → waits_for t ticket ≡ true → is_some t ≡ true
    by None waits = absurd (false≢true waits)
    by (Some own) waits = refl

-- where a frame's row is free no page's row names the frame, and the other way round
pub no_row_from_free : (devices : Devices) (c : List Row) (f : ℕ) → AreCounted devices c
    → IsFreeRow (row_of_frame c f) → SomeRowNames devices f → ⊥
no_row_from_free devices c f counted free (d, a, row, at, same) = by row.ticket refl
  where
    by : (t : Option ℕ) → row.ticket ≡ t → ⊥
    by None held = let above = grants_positive devices c d a row at held counted in omega (arith, above, free.0, ap (λ x. (row_of_frame c x).grants) same)
    by (Some own) released =
        let above = pending_positive devices c d a row at (ap is_some released) counted in omega (arith, above, free.1, ap (λ x. (row_of_frame c x).pending) same)

pub free_from_no_row : (devices : Devices) (c : List Row) (f : ℕ) → AreCounted devices c
    → (SomeRowNames devices f → ⊥) → IsFreeRow (row_of_frame c f)
free_from_no_row devices c f counted none = (
  count_none (λ d a. holds_frame (row_at devices d a) f) (row_of_frame c f).grants (λ d a. held d a (row_at devices d a) refl) (counted.grants f),
  count_none (λ d a. lingers_on (row_at devices d a) f) (row_of_frame c f).pending (λ d a. lingers d a (row_at devices d a) refl) (counted.pending f),
)
  where
    held : (d a : ℕ) (row : Option PageRow) → row_at devices d a ≡ row → holds_frame row f ≡ true → ⊥
    held d a None at named = false≢true named
    held d a (Some row) at named = none (d, a, row, at, eqb-true row.frame f (and_parts (is_none row.ticket) (row.frame == f) named).1)

    lingers : (d a : ℕ) (row : Option PageRow) → row_at devices d a ≡ row → lingers_on row f ≡ true → ⊥
    lingers d a None at named = false≢true named
    lingers d a (Some row) at named = none (d, a, row, at, eqb-true row.frame f (and_parts (is_some row.ticket) (row.frame == f) named).1)

-- no rows of pages, and rows of frames with counts of 0
pub AreCounted-none : (devices : Devices) (c : List Row) → ((d a : ℕ) → row_at devices d a ≡ None)
    → ((f : ℕ) → IsFreeRow (row_of_frame c f)) → AreCounted devices c
AreCounted-none devices c rows free = record {
  grants = λ f. ∣ ([], record { once = tt; numbered = tt; all = λ d a. sym (ap (λ r. holds_frame r f) (rows d a)) }, sym (free f).0) ∣₁;
  pending = λ f. ∣ ([], record { once = tt; numbered = tt; all = λ d a. sym (ap (λ r. lingers_on r f) (rows d a)) }, sym (free f).1) ∣₁;
}

pub row_of-replicate : (n f : ℕ)
    → row_of_frame (replicate n (record { grants = 0; pending = 0 })) f ≡ record { grants = 0; pending = 0 }
row_of-replicate zero f = refl
row_of-replicate (suc n) zero = refl
row_of-replicate (suc n) (suc f) = row_of-replicate n f
