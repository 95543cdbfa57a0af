-- A piece of buffers lies within them.
use Rattle.std.proofs.Common.{◌≡◌, ℕ, ◌+◌, ◌-◌, ◌%◌, ◌<◌, ◌≤◌, Bool, true, false, nat_lt, min, cond, List, [], ◌∷◌, Option, Some, None, option_map, refl, ap, subst, arith}
use Rattle.std.proofs.lemmas.Grind.{common_steps}
use Rattle.std.proofs.lemmas.Bool.{ltb-true, ltb-false}
use Rattle.iom_virtqueue.specs.declared.descriptor.Link.{Link}
use Rattle.iom_virtqueue.specs.declared.spans.Piece.{Piece}
use Rattle.iom_virtqueue.specs.Chains.{byte_count}
use Rattle.iom_virtqueue.specs.Accesses.{wrapped, cut}
use Rattle.iom_virtqueue.specs.Spans.{rest_of, piece_of, cut_to}

some_same : (p q : Piece) → Some p ≡ Some q → p ≡ q
some_same p q e = cc

byte_count-cons : (link : Link) (rest : List Link) → byte_count (link ∷ rest) ≡ link.descriptor.len + byte_count rest
byte_count-cons link rest = grind (arith, common_steps)

pub rest_of-within : (links : List Link) (n : ℕ) (piece : Piece) → rest_of links n ≡ Some piece → n + piece.len ≤ byte_count links
rest_of-within [] n piece e = cc
rest_of-within (link ∷ rest) n piece e = rw (byte_count-cons link rest) (by (nat_lt n link.descriptor.len) refl e (rest_of-within rest (n - link.descriptor.len) piece)) where
  by : (b : Bool) → nat_lt n link.descriptor.len ≡ b → cond b (Some (record { address = wrapped (link.descriptor.address + n); len = link.descriptor.len - n })) (rest_of rest (n - link.descriptor.len)) ≡ Some piece
      → (rest_of rest (n - link.descriptor.len) ≡ Some piece → n - link.descriptor.len + piece.len ≤ byte_count rest) → n + piece.len ≤ link.descriptor.len + byte_count rest
  by true t h later = let lt = ltb-true n link.descriptor.len t in
      let same : link.descriptor.len - n ≡ piece.len = ap (λ (p : Piece). p.len) (some_same _ _ h) in omega arith
  by false t h later = let ge = ltb-false n link.descriptor.len t in
      let inner : n - link.descriptor.len + piece.len ≤ byte_count rest = later h in omega arith

pub piece_of-within : (links : List Link) (n most : ℕ) (piece : Piece) → piece_of links n most ≡ Some piece → n + piece.len ≤ byte_count links
piece_of-within links n most piece e = by (rest_of links n) refl e where
  by : (found : Option Piece) → rest_of links n ≡ found → option_map (cut_to most) found ≡ Some piece → n + piece.len ≤ byte_count links
  by None t h = cc
  by (Some whole) t h = let within = rest_of-within links n whole t in
      let same : min most (cut whole.address whole.len) ≡ piece.len = ap (λ (p : Piece). p.len) (some_same _ _ h) in omega arith

-- a rest of a buffer isn't empty
rest_of-some : (links : List Link) (n : ℕ) (piece : Piece) → rest_of links n ≡ Some piece → 1 ≤ piece.len
rest_of-some [] n piece e = cc
rest_of-some (link ∷ rest) n piece e = by (nat_lt n link.descriptor.len) refl (rest_of-some rest (n - link.descriptor.len) piece) e where
  by : (b : Bool) → nat_lt n link.descriptor.len ≡ b → (rest_of rest (n - link.descriptor.len) ≡ Some piece → 1 ≤ piece.len)
      → cond b (Some (record { address = wrapped (link.descriptor.address + n); len = link.descriptor.len - n })) (rest_of rest (n - link.descriptor.len)) ≡ Some piece → 1 ≤ piece.len
  by true t later h = let lt = ltb-true n link.descriptor.len t in
      let same : link.descriptor.len - n ≡ piece.len = ap (λ (p : Piece). p.len) (some_same _ _ h) in omega arith
  by false t later h = later h

-- before the end of the buffers there is one
rest_of-there : (links : List Link) (n : ℕ) → n < byte_count links → (piece : Piece) × (rest_of links n ≡ Some piece)
rest_of-there [] n lt = absurd (omega arith)
rest_of-there (link ∷ rest) n lt = by (nat_lt n link.descriptor.len) refl (λ less. rest_of-there rest (n - link.descriptor.len) less) where
  total : n < link.descriptor.len + byte_count rest
  total = rw (byte_count-cons link rest) at lt

  by : (b : Bool) → nat_lt n link.descriptor.len ≡ b → (n - link.descriptor.len < byte_count rest → (piece : Piece) × (rest_of rest (n - link.descriptor.len) ≡ Some piece))
      → (piece : Piece) × (cond b (Some (record { address = wrapped (link.descriptor.address + n); len = link.descriptor.len - n })) (rest_of rest (n - link.descriptor.len)) ≡ Some piece)
  by true t later = (record { address = wrapped (link.descriptor.address + n); len = link.descriptor.len - n }, refl)
  by false t later = let ge = ltb-false n link.descriptor.len t in let less : n < link.descriptor.len + byte_count rest = total in later (omega arith)

-- what a piece is: some bytes, not more than were asked for, in one page
pub record IsCut (most : ℕ) (piece : Piece) : Type 0 where
  pub some : 1 ≤ piece.len
  pub not_more : piece.len ≤ most
  pub page : piece.address % 4096 + piece.len ≤ 4096

pub piece_of-cut : (links : List Link) (n most : ℕ) (piece : Piece) → 1 ≤ most → piece_of links n most ≡ Some piece → IsCut most piece
piece_of-cut links n most piece one e = by (rest_of links n) refl e where
  by : (found : Option Piece) → rest_of links n ≡ found → option_map (cut_to most) found ≡ Some piece → IsCut most piece
  by None t h = cc
  by (Some whole) t h = let some = rest_of-some links n whole t in
      let same : cut_to most whole ≡ piece = some_same _ _ h in
      subst (λ (p : Piece). IsCut most p) same (record { some = omega arith; not_more = omega arith; page = omega arith })

-- before the end of the buffers there is a piece
pub piece_of-there : (links : List Link) (n most : ℕ) → n < byte_count links → (piece : Piece) × (piece_of links n most ≡ Some piece)
piece_of-there links n most lt = let there = rest_of-there links n lt in (cut_to most there.0, ap (option_map (cut_to most)) there.1)
