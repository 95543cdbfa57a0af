-- Looking a device up among those that have rows.
use Rattle.std.proofs.Common.{suc, zero, ◌≡◌, ◌≢◌, ◌==◌, ◌<◌, ◌∙◌, ◌++◌, ℕ, Bool, true, false, List, [], ◌∷◌, length, Option, Some, None, slice_get, refl, sym, ap, inl, inr, arith, if◌then◌else◌, nat_eq, cond, ◌&&◌}
use Rattle.std.specs.Map.{lookup}
use Rattle.std.specs.Option.{option_and_then}
use Rattle.std.proofs.lemmas.Bool.Decides.{eqb_tells}
use Rattle.std.proofs.lemmas.Bool.{eq-eqb, eqb-true}
use Rattle.indexmap.specs.IndexMap.{get}
use Rattle.iom_ledger.specs.declared.page_row.PageRow.{PageRow}
use Rattle.iom_ledger.specs.declared.device_list.DevicePages.{DevicePages}
use Rattle.iom_ledger.specs.Rows.{Pages, Devices, pages_in, row_at}
use Rattle.iom_ledger.specs.RowChanges.{SetsRow}
use Rattle.iom_ledger.specs.Places.{IsPlaceOf}

-- a device that none of these is
pub absent : (devices : List DevicePages) (device : ℕ)
    → ((k : ℕ) (other : DevicePages) → k < length devices → slice_get devices k ≡ Some other → other.device ≢ device)
    → pages_in devices device ≡ None
absent [] device none = refl
absent (first ∷ others) device none = elim (eqb_tells first.device device) [
  | inl e ↦ absurd (none 0 first (omega arith) refl e.1)
  | inr ne ↦ rw ne.0 (absent others device (λ k other lt at. none (suc k) other (omega arith) at))
]

-- the pages that are put there are found first
found_twice : {X : Type 0} (b : Bool) (x y z : X) → (if b then x else z) ≡ (if b then x else (if b then y else z))
found_twice true x y z = refl
found_twice false x y z = refl

-- of two devices that differ each is found whichever is asked for first
either_first : {X : Type 0} (first device d : ℕ) (x y z : X) → first ≢ device
    → (if first == d then x else (if device == d then y else z)) ≡ (if device == d then y else (if first == d then x else z))
either_first first device d x y z apart = by (first == d) (device == d) refl refl
  where
    by : (b e : Bool) → (first == d) ≡ b → (device == d) ≡ e
        → (if b then x else (if e then y else z)) ≡ (if e then y else (if b then x else z))
    by true true f g = absurd (apart (eqb-true first d f ∙ sym (eqb-true device d g)))
    by true false f g = refl
    by false true f g = refl
    by false false f g = refl

-- the first of them that is the device
pub place_is : (devices : List DevicePages) (device place : ℕ) (own : DevicePages) → slice_get devices place ≡ Some own → own.device ≡ device
    → ((k : ℕ) (other : DevicePages) → k < place → slice_get devices k ≡ Some other → other.device ≢ device) → IsPlaceOf devices device place
place_is [] device place own at is none = cc
place_is (first ∷ others) device zero own at is none =
    let same : first ≡ own = cc in
    let here : first.device ≡ device = ap (λ (d : DevicePages). d.device) same ∙ is in (
      first,
      refl,
      rw (eq-eqb first.device device here) refl,
      (λ pages d.
          found_twice (first.device == d) (Some pages) (Some first.pages) (pages_in others d)
          ∙ ap (λ n. if n == d then Some pages else pages_in (first ∷ others) d) here),
    )
place_is (first ∷ others) device (suc place) own at is none = elim (eqb_tells first.device device) [
  | inl e ↦ absurd (none 0 first (omega arith) refl e.1)
  | inr ne ↦
      let rest = place_is others device place own at is (λ k other lt there. none (suc k) other (omega arith) there) in (
        rest.0,
        rest.1,
        rw ne.0 rest.2,
        (λ pages d.
            ap (λ found. if first.device == d then Some first.pages else found) (rest.3 pages d)
            ∙ either_first first.device device d (Some first.pages) (Some pages) (pages_in others d) ne.1),
      )
]

-- once a device that none of these is goes last, its pages are found, and those of each other stay
pub pages_in-added : (devices : List DevicePages) (more : DevicePages) (d : ℕ) → pages_in devices more.device ≡ None
    → pages_in (devices ++ more ∷ []) d ≡ (if more.device == d then Some more.pages else pages_in devices d)
pages_in-added [] more d none = refl
pages_in-added (first ∷ others) more d none = elim (eqb_tells first.device more.device) [
  | inl e ↦ absurd (some_none (rw e.0 at none))
  | inr ne ↦
      ap (λ found. if first.device == d then Some first.pages else found) (pages_in-added others more d (rw ne.0 at none))
      ∙ either_first first.device more.device d (Some first.pages) (Some more.pages) (pages_in others d) ne.1
]
  where
    some_none : ◌≡◌ {A = Option Pages} (Some first.pages) None → ⊥
    some_none same = cc

-- a device that none of these was has its first row, on this page
pub SetsRow-added : (old new : Devices) (device page : ℕ) (none pages : Pages) (row : PageRow) → pages_in old.list.items device ≡ None
    → new.list.items ≡ old.list.items ++ record { device = device; pages = pages } ∷ [] → none.entries ≡ []
    → ((a : ℕ) → get nat_eq pages a ≡ cond (nat_eq page a) (Some row) (get nat_eq none a)) → SetsRow old new device page row
SetsRow-added old new device page none pages row absent added empty set d a =
    ap (λ devices. option_and_then (λ found. get nat_eq found a) (pages_in devices d)) added
    ∙ ap (option_and_then (λ found. get nat_eq found a)) (pages_in-added old.list.items (record { device = device; pages = pages }) d absent)
    ∙ by (device == d) refl
  where
    first : get nat_eq pages a ≡ (if page == a then Some row else None)
    first = set a ∙ ap (λ (es : List (ℕ × PageRow)). cond (nat_eq page a) (Some row) (lookup (nat_eq a) es)) empty

    by : (b : Bool) → (device == d) ≡ b
        → option_and_then (λ found. get nat_eq found a) (if b then Some pages else pages_in old.list.items d)
        ≡ (if b && (page == a) then Some row else row_at old d a)
    by true same =
        first
        ∙ ap (λ found. if page == a then Some row else option_and_then (λ pages. get nat_eq pages a) found)
        (sym absent ∙ ap (pages_in old.list.items) (eqb-true device d same))
    by false other = refl
