-- Sixteen digits at once are read as they are one by one.
use Rattle.std.proofs.Common.{◌≡◌, ℕ, zero, suc, ◌+◌, ◌-◌, ◌*◌, ◌/◌, ◌%◌, ◌^◌, ◌<◌, ◌≤◌, ◌↔◌, true, not, cond, ◌||◌, nat_eq, ltb, leb, bit_xor, List, [], ◌∷◌, ◌++◌, map, length, take, drop, get_or, replicate, T, Fits, w8, IsTrue, Some, None, inl, inr, refl, ap, sym, subst, ◌∙◌, arith, ltb-true, ltb-false, leb-true}
use Rattle.std.specs.List.{All, AllByRecursion, range_with_len}
use Rattle.std.proofs.lemmas.Bool.{cases_Bool, agree_below_at, eq-eqb, eqb-true, le-ltb, le-leb}
use Rattle.std.proofs.lemmas.List.Elements.{All-nil, All-cons, All-head, All-tail, All-append}
use Rattle.std.proofs.lemmas.List.{map-append, take_all, take-append-drop, length-drop, length-map, length-take-le}
use Rattle.std.proofs.lemmas.Simd.{bitmask_splat, Each1-from_get_or, pick_l_left, pick_l-range_with_len}
use lib.Lanes.{Each1, zip2, pick_l, all_below, sel_l, mask_l, top, number_l, digits_l}
use Rattle.iom_script.specs.Digits.{hex_digit, hex_of}
use Rattle.iom_script.specs.Reading.{Reads}
use Rattle.iom_script.specs.Cuts.{digit_of_value, value_of_digit, IsHexOf}
use Rattle.iom_script.proofs.ReadsLemmas.{reads_some, reads_none}
use Rattle.iom_script.proofs.HexBytesLemmas.{IsByte, hex_of_append, same_hex_of}

-- what the operators on vectors do in a lane
abbrev minus : ℕ → ℕ → ℕ
minus a b = (a + (256 - b)) % 256

abbrev plus : ℕ → ℕ → ℕ
plus a b = (a + b) % 256

abbrev less : ℕ → ℕ → ℕ
less a b = cond (ltb a b) 255 0

abbrev pub AreBytes : List ℕ → Type 0
AreBytes text = Each1 (Fits w8) text

abbrev pub AreValues : List ℕ → Type 0
AreValues values = AllByRecursion (λ value. 240 ≤ value) values

pub slice_bytes : (text : List ℕ) → ((k : ℕ) → Fits w8 (get_or text k 0)) → AreBytes text
slice_bytes text fit = Each1-from_get_or (Fits w8) text 0 (λ k lt. fit k)

-- a number is subtracted from a lane with saturation
abbrev without : ℕ → ℕ → ℕ
without x c = minus (cond (top 7 (less x c)) c x) c

-- the value in one lane as a decimal digit, as a letter, and as either
abbrev lane_decimal : ℕ → ℕ
lane_decimal x = without (minus x 58) 6

abbrev lane_letter : ℕ → ℕ
lane_letter x = bit_xor (without (minus 96 x) 10) 15

abbrev lane_value : ℕ → ℕ
lane_value x = cond (top 7 (less (lane_decimal x) (lane_letter x))) (lane_letter x) (lane_decimal x)

lane_is : (x : ℕ) → x < 256 → lane_value x ≡ value_of_digit x
lane_is x small = eqb-true (lane_value x) (value_of_digit x) (agree_below_at (λ x. nat_eq (lane_value x) (value_of_digit x)) (λ _. true) 256 x refl small)

-- a number is subtracted from all lanes with saturation
abbrev all_without : ℕ → List ℕ → ℕ → List ℕ
all_without n xs c = zip2 minus (sel_l (map (top 7) (zip2 less xs (replicate n c))) (replicate n c) xs) (replicate n c)

-- the values in all lanes
abbrev all_decimal : ℕ → List ℕ → List ℕ
all_decimal n xs = all_without n (zip2 minus xs (replicate n 58)) 6

abbrev all_letter : ℕ → List ℕ → List ℕ
all_letter n xs = zip2 bit_xor (all_without n (zip2 minus (replicate n 96) xs) 10) (replicate n 15)

pub lanes_are : (n : ℕ) (xs : List ℕ) → length xs ≡ n → AreBytes xs
    → sel_l (map (top 7) (zip2 less (all_decimal n xs) (all_letter n xs))) (all_letter n xs) (all_decimal n xs) ≡ map value_of_digit xs
lanes_are zero [] e fit = refl
lanes_are zero (x ∷ xs) e fit = absurd (omega (arith, e))
lanes_are (suc n) [] e fit = absurd (omega (arith, e))
lanes_are (suc n) (x ∷ xs) e fit =
    let here = lane_is x fit.0.fits in
    let more = lanes_are n xs (omega (arith, e)) fit.1 in
    λ i. here i ∷ more i

-- a mask without a lane
mask_is_empty : (xs : List ℕ) → mask_l (map (λ x. ltb x 240) xs) ≡ 0 → AreValues xs
mask_is_empty [] e = tt
mask_is_empty (x ∷ xs) e = elim (cases_Bool (ltb x 240)) [
  | inl set ↦ absurd (omega (arith, rw set at e))
  | inr unset ↦ (ltb-false x 240 unset, mask_is_empty xs (omega (arith, rw unset at e)))
]

empty_mask : (xs : List ℕ) → AreValues xs → mask_l (map (λ x. ltb x 240) xs) ≡ 0
empty_mask [] all = refl
empty_mask (x ∷ xs) all = rw (le-ltb x 240 all.0) (omega (arith, empty_mask xs all.1))

pub all_are_values : (n : ℕ) (xs : List ℕ) → length xs ≡ n → n ≤ 64 → IsTrue (nat_eq (mask_l (map (top 7) (zip2 less xs (replicate n 240))) % 2 ^ 64) 0) ↔ AreValues xs
all_are_values n xs long few =
    let mask = mask_l (map (top 7) (zip2 less xs (replicate n 240))) % 2 ^ 64 in
    let is : mask ≡ mask_l (map (λ x. ltb x 240) xs) = bitmask_splat w8 ltb xs n 240 long few in (
      λ none. mask_is_empty xs (omega (arith, is, eqb-true mask 0 none)),
      λ all. eq-eqb mask 0 (omega (arith, is, empty_mask xs all)),
    )

-- the less of two lanes
abbrev less_of : List ℕ → List ℕ → List ℕ
less_of xs ys = sel_l (map (top 7) (zip2 less xs ys)) xs ys

less_is_value : (x y : ℕ) → (240 ≤ cond (top 7 (less x y)) x y) ↔ ((240 ≤ x) × (240 ≤ y))
less_is_value x y = elim (cases_Bool (ltb x y)) [
  | inl set ↦ rw set (λ is. (is, omega (arith, is, ltb-true x y set)), λ is. is.0)
  | inr unset ↦ rw unset (λ is. (omega (arith, is, ltb-false x y unset), is), λ is. is.1)
]

pub both_are_values : (n : ℕ) (xs ys : List ℕ) → length xs ≡ n → length ys ≡ n → AreValues (less_of xs ys) ↔ (AreValues xs × AreValues ys)
both_are_values zero [] [] p q = (λ all. (tt, tt), λ all. tt)
both_are_values zero (x ∷ xs) ys p q = absurd (omega (arith, p))
both_are_values zero [] (y ∷ ys) p q = absurd (omega (arith, q))
both_are_values (suc n) [] ys p q = absurd (omega (arith, p))
both_are_values (suc n) (x ∷ xs) [] p q = absurd (omega (arith, q))
both_are_values (suc n) (x ∷ xs) (y ∷ ys) p q =
    let more = both_are_values n xs ys (omega (arith, p)) (omega (arith, q)) in
    let here = less_is_value x y in (
      λ all. (((here.0 all.0).0, (more.0 all.1).0), ((here.0 all.0).1, (more.0 all.1).1)),
      λ all. (here.1 (all.0.0, all.1.0), more.1 (all.0.1, all.1.1)),
    )

-- a lane of two values, the first in the lower byte, and the byte that has them, but for the 240 of each
abbrev lane_byte : ℕ → ℕ
lane_byte pair = pair * 4097 % 65536 / 256

abbrev lane_bytes : ℕ → List ℕ → List ℕ
lane_bytes n values = map lane_byte (digits_l 65536 n (number_l 256 values))

abbrev whole_bytes : ℕ → List ℕ → List ℕ
whole_bytes n values = zip2 plus (lane_bytes n values) (replicate n 16)

bytes_of_lanes : (n number : ℕ) → AreBytes (map lane_byte (digits_l 65536 n number))
bytes_of_lanes zero number = tt
bytes_of_lanes (suc n) number = (record { fits = omega arith }, bytes_of_lanes n (number / 65536))

pub bytes_fit : (n : ℕ) (values : List ℕ) → AreBytes (lane_bytes n values)
bytes_fit n values = bytes_of_lanes n (number_l 256 values)

whole_fit : (n number : ℕ) → All IsByte (zip2 plus (map lane_byte (digits_l 65536 n number)) (replicate n 16))
whole_fit zero number = All-nil IsByte
whole_fit (suc n) number = All-cons IsByte _ _ (omega arith) (whole_fit n (number / 65536))

bytes_have : (n : ℕ) (values : List ℕ) → length values ≡ 2 * n → AreBytes values → AreValues values → hex_of (whole_bytes n values) ≡ map digit_of_value values
bytes_have zero [] e fit all = refl
bytes_have zero (h ∷ rest) e fit all = absurd (omega (arith, e))
bytes_have (suc n) [] e fit all = absurd (omega (arith, e))
bytes_have (suc n) (h ∷ []) e fit all = absurd (omega (arith, e))
bytes_have (suc n) (h ∷ l ∷ rest) e fit all =
    let number = h + 256 * (l + 256 * number_l 256 rest) in
    let byte = plus (lane_byte (number % 65536)) 16 in
    let high : byte / 16 ≡ h - 240 = omega (arith, all.0, all.1.0, fit.0.fits, fit.1.0.fits) in
    let low : byte % 16 ≡ l - 240 = omega (arith, all.0, all.1.0, fit.0.fits, fit.1.0.fits) in
    let on : number / 65536 ≡ number_l 256 rest = omega (arith, fit.0.fits, fit.1.0.fits) in
    (λ i. hex_digit (high i) ∷ hex_digit (low i) ∷ hex_of (zip2 plus (map lane_byte (digits_l 65536 n (on i))) (replicate n 16)))
    ∙ ap (λ t. digit_of_value h ∷ digit_of_value l ∷ t) (bytes_have n rest (omega (arith, e)) fit.1.1 all.1.1)

pub bytes_said : (n : ℕ) (values : List ℕ) → length values ≡ 2 * n → AreBytes values → AreValues values → IsHexOf (map digit_of_value values) (whole_bytes n values)
bytes_said n values e fit all = (whole_fit n (number_l 256 values), sym (bytes_have n values e fit all))

-- a digit is that of its value
digit_back : (x : ℕ) → x < 256 → 240 ≤ value_of_digit x → digit_of_value (value_of_digit x) ≡ x
digit_back x byte is =
    eqb-true (digit_of_value (value_of_digit x)) x (ap (λ b. not b || nat_eq (digit_of_value (value_of_digit x)) x) (sym (le-leb 240 (value_of_digit x) is))
    ∙ agree_below_at (λ x. not (leb 240 (value_of_digit x)) || nat_eq (digit_of_value (value_of_digit x)) x) (λ _. true) 256 x refl byte)

digits_back : (text : List ℕ) → AreBytes text → AreValues (map value_of_digit text) → map digit_of_value (map value_of_digit text) ≡ text
digits_back [] fit all = refl
digits_back (x ∷ xs) fit all =
    let here = digit_back x fit.0.fits all.0 in
    let more = digits_back xs fit.1 all.1 in
    λ i. here i ∷ more i

digit_has_value : (v : ℕ) → v < 16 → 240 ≤ value_of_digit (hex_digit v)
digit_has_value v small = leb-true 240 (value_of_digit (hex_digit v)) (agree_below_at (λ v. leb 240 (value_of_digit (hex_digit v))) (λ _. true) 16 v refl small)

-- the digits of bytes have values
hex_has_values : (bytes : List ℕ) → All IsByte bytes → AreValues (map value_of_digit (hex_of bytes))
hex_has_values [] small = tt
hex_has_values (b ∷ bs) small = (
  digit_has_value (b / 16) (omega (arith, All-head IsByte b bs small)),
  (digit_has_value (b % 16) (omega arith), hex_has_values bs (All-tail IsByte b bs small)),
)

pub hex_read : (text bytes : List ℕ) → AreBytes text → AreValues (map value_of_digit text) → IsHexOf (map digit_of_value (map value_of_digit text)) bytes → Reads (Some bytes) (IsHexOf text)
hex_read text bytes fit all said =
    let whole : text ≡ hex_of bytes = sym (digits_back text fit all) ∙ said.1 in
    reads_some (IsHexOf text) bytes (said.0, whole) (λ other q. same_hex_of bytes other said.0 q.0 (sym whole ∙ q.1))

pub hex_not_read : (text : List ℕ) → (AreValues (map value_of_digit text) → ⊥) → Reads None (IsHexOf text)
hex_not_read text none = reads_none (IsHexOf text) (λ bytes q. none (subst (λ t. AreValues (map value_of_digit t)) (sym q.1) (hex_has_values bytes q.0)))

-- 64 values by two halves
values_append : (xs ys : List ℕ) → AreValues xs → AreValues ys → AreValues (xs ++ ys)
values_append [] ys all others = others
values_append (x ∷ xs) ys all others = (all.0, values_append xs ys all.1 others)

values_cut : (xs ys : List ℕ) → AreValues (xs ++ ys) → AreValues xs × AreValues ys
values_cut [] ys all = (tt, all)
values_cut (x ∷ xs) ys all = let more = values_cut xs ys all.1 in ((all.0, more.0), more.1)

halves_have : (xs : List ℕ) → length xs ≡ 64 → AreValues (less_of (take 32 xs) (take 32 (drop 32 xs))) ↔ AreValues xs
halves_have xs long =
    let back : take 32 (drop 32 xs) ≡ drop 32 xs = take_all 32 (drop 32 xs) (omega (arith, long, length-drop 32 xs)) in
    let both = both_are_values 32 (take 32 xs) (drop 32 xs) (length-take-le 32 xs (omega (arith, long))) (omega (arith, long, length-drop 32 xs)) in
    let whole : take 32 xs ++ drop 32 xs ≡ xs = take-append-drop 32 xs in
    rw back (
      λ all. subst AreValues whole (values_append (take 32 xs) (drop 32 xs) (both.0 all).0 (both.0 all).1),
      λ all. both.1 (values_cut (take 32 xs) (drop 32 xs) (subst AreValues (sym whole) all)),
    )

-- so many lanes from one on
abbrev lanes_from : ℕ → List ℕ → List ℕ
lanes_from start xs = pick_l 0 (xs ++ xs) (range_with_len start 32)

lanes_are_chunk : (start : ℕ) (xs : List ℕ) → length xs ≡ 64 → start + 32 ≤ 64 → T (all_below 64 (range_with_len start 32)) → lanes_from start xs ≡ take 32 (drop start xs)
lanes_are_chunk start xs long within below = pick_l_left 0 xs xs 64 (range_with_len start 32) long below ∙ pick_l-range_with_len 0 xs start 32 (omega (arith, long, within))

pub halves_are_values : (xs : List ℕ) → length xs ≡ 64
    → IsTrue (nat_eq (mask_l (map (top 7) (zip2 less (less_of (lanes_from 0 xs) (lanes_from 32 xs)) (replicate 32 240))) % 2 ^ 64) 0) ↔ AreValues xs
halves_are_values xs long =
    let front : lanes_from 0 xs ≡ take 32 xs = lanes_are_chunk 0 xs long (omega arith) tt in
    let back : lanes_from 32 xs ≡ take 32 (drop 32 xs) = lanes_are_chunk 32 xs long (omega arith) tt in
    let count : length (less_of (lanes_from 0 xs) (lanes_from 32 xs)) ≡ 32 = refl in
    let lanes = all_are_values 32 (less_of (lanes_from 0 xs) (lanes_from 32 xs)) count (omega arith) in
    let both : less_of (lanes_from 0 xs) (lanes_from 32 xs) ≡ less_of (take 32 xs) (take 32 (drop 32 xs)) = λ i. less_of (front i) (back i) in
    let have = halves_have xs long in (
      λ none. have.0 (subst AreValues both (lanes.0 none)),
      λ all. lanes.1 (subst AreValues (sym both) (have.1 all)),
    )

-- TWO HALVES OF A TEXT

pub half_is : (text : List ℕ) → length text ≡ 128 → take 64 (drop 64 text) ≡ drop 64 text
half_is text long = take_all 64 (drop 64 text) (omega (arith, long, length-drop 64 text))

pub values_are_64 : (text values : List ℕ) → length text ≡ 64 → values ≡ map value_of_digit text → length values ≡ 64
values_are_64 text values long is = ap length is ∙ length-map text value_of_digit ∙ long

bytes_cut : (xs ys : List ℕ) → AreBytes (xs ++ ys) → AreBytes xs × AreBytes ys
bytes_cut [] ys all = (tt, all)
bytes_cut (x ∷ xs) ys all = let more = bytes_cut xs ys all.1 in ((all.0, more.0), more.1)

pub both_said : (text front back first second : List ℕ) → text ≡ front ++ back → AreBytes text → AreValues (map value_of_digit front) → AreValues (map value_of_digit back)
    → IsHexOf (map digit_of_value (map value_of_digit front)) first → IsHexOf (map digit_of_value (map value_of_digit back)) second → IsHexOf text (first ++ second)
both_said text front back first second cut fit all_front all_back said_first said_second =
    let fits = bytes_cut front back (subst AreBytes cut fit) in (
      All-append IsByte first second said_first.0 said_second.0,
      cut ∙ (λ i. (sym (digits_back front fits.0 all_front) ∙ said_first.1) i ++ (sym (digits_back back fits.1 all_back) ∙ said_second.1) i) ∙ sym (hex_of_append first second),
    )

pub both_not_said : (text front back : List ℕ) → text ≡ front ++ back → (AreValues (map value_of_digit front) × AreValues (map value_of_digit back) → ⊥) → Reads None (IsHexOf text)
both_not_said text front back cut none =
    hex_not_read text (λ all. none (values_cut (map value_of_digit front) (map value_of_digit back) (subst AreValues (ap (map value_of_digit) cut ∙ map-append value_of_digit front back) all)))
