-- Comparing lists from their beginnings on, and rows by their rings.
use Rattle.std.proofs.Common.{suc, zero, ◌≡◌, ◌<◌, ◌++◌, ◌∙◌, ℕ, List, [], ◌∷◌, length, take, drop, Some, slice_get, refl, sym, ap, arith, length-drop}
use Rattle.std.proofs.lemmas.List.{take-append-drop}
use Rattle.circular_buffer.specs.Buffer.{Buffer}
use Rattle.iom_inflight.specs.declared.header.AccessHeader.{AccessHeader}
use Rattle.iom_inflight.specs.Flights.{NumberedAccess, FlightRow}
use Rattle.iom_inflight.specs.Rings.{kept_bytes, access_with, accesses_with_bytes, bytes_kept, AreRings}
use Rattle.iom_inflight.proofs.RowCalls.{row_in}

-- the lists are alike before the place
pub record AreAlike {A : Type 0} (xs ys : List A) (place : ℕ) : Type 0 where
  pub long : length xs ≡ length ys
  pub before : (k : ℕ) → k < place → slice_get xs k ≡ slice_get ys k

module _ {A : Type 0} where
  pub alike_all : (xs ys : List A) (place : ℕ) → length xs ≡ place → AreAlike xs ys place → xs ≡ ys
  alike_all [] [] place end alike = refl
  alike_all [] (y ∷ ys) place end alike = absurd (omega (arith, alike.long))
  alike_all (x ∷ xs) [] place end alike = absurd (omega (arith, alike.long))
  alike_all (x ∷ xs) (y ∷ ys) zero end alike = absurd (omega (arith, end))
  alike_all (x ∷ xs) (y ∷ ys) (suc place) end alike =
      let first : Some x ≡ Some y = alike.before 0 (omega arith) in
      let rest = alike_all xs ys place (omega (arith, end)) (record { long = omega (arith, alike.long); before = λ k lt. alike.before (suc k) (omega arith) }) in
      cc

-- what describes an access, without its bytes
abbrev header_of : NumberedAccess → AccessHeader
header_of access = record {
  address = access.accepted.access.address;
  len = access.accepted.access.len;
  kind = access.accepted.access.kind;
  frame = access.accepted.frame;
  number = access.number;
}

-- equal accesses stand in equal rings
pub same_rings : (waiting others : List AccessHeader) (bytes own : List ℕ) → length bytes ≡ bytes_kept waiting → length own ≡ bytes_kept others
    → accesses_with_bytes waiting bytes ≡ accesses_with_bytes others own → (waiting ≡ others) × (bytes ≡ own)
same_rings [] [] [] [] kept own_kept same = (refl, refl)
same_rings [] [] [] (b ∷ own) kept own_kept same = absurd (omega (arith, own_kept))
same_rings [] [] (b ∷ bytes) own kept own_kept same = absurd (omega (arith, kept))
same_rings [] (a ∷ others) bytes own kept own_kept same = cc
same_rings (a ∷ waiting) [] bytes own kept own_kept same = cc
same_rings (a ∷ waiting) (d ∷ others) bytes own kept own_kept same =
    let k : ℕ = kept_bytes a.kind a.len in
    let n : ℕ = kept_bytes d.kind d.len in
    let first : access_with a (take k bytes) ≡ access_with d (take n own) = cc in
    let later : accesses_with_bytes waiting (drop k bytes) ≡ accesses_with_bytes others (drop n own) = cc in
    let header : a ≡ d = ap header_of first in
    let front : take k bytes ≡ take n own = ap (λ (x : NumberedAccess). x.accepted.access.bytes) first in
    let left : length (drop k bytes) ≡ bytes_kept waiting = omega (arith, length-drop k bytes, kept) in
    let own_left : length (drop n own) ≡ bytes_kept others = omega (arith, length-drop n own, own_kept) in
    let rest = same_rings waiting others (drop k bytes) (drop n own) left own_left later in
    let all : bytes ≡ take k bytes ++ drop k bytes = sym (take-append-drop k bytes) in
    let own_all : take n own ++ drop n own ≡ own = take-append-drop n own in
    (cc (header, rest.0), cc (all, front, rest.1, own_all))

module _ (device accepted other_device other_accepted : ℕ) (waiting others : Buffer AccessHeader) (bytes own : Buffer ℕ) (row other : FlightRow)
    (view : row_in device accepted waiting.items bytes.items ≡ row) (other_view : row_in other_device other_accepted others.items own.items ≡ other)
    (rings : AreRings waiting bytes) (other_rings : AreRings others own) where
  -- equal rows have equal rings
  pub rings_of_same : row ≡ other → (waiting.items ≡ others.items) × (bytes.items ≡ own.items)
  rings_of_same same =
      same_rings waiting.items others.items bytes.items own.items rings.all_kept other_rings.all_kept (ap (λ (r : FlightRow). r.waiting) (view ∙ same ∙ sym other_view))

  -- rows with equal rings are equal
  pub same_of_rings : device ≡ other_device → accepted ≡ other_accepted → waiting.items ≡ others.items → bytes.items ≡ own.items → row ≡ other
  same_of_rings named counted same bytes_same =
      let inside : row_in device accepted waiting.items bytes.items ≡ row_in other_device other_accepted others.items own.items = rw (named, counted, same, bytes_same) refl in
      sym view ∙ inside ∙ other_view
