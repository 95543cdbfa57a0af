-- Pages, and the indices that they have, one a level.
use Rattle.std.proofs.Common.{◌≡◌, ◌+◌, ◌*◌, ◌/◌, ◌%◌, ℕ, List, [], ◌∷◌, refl, arith}
use Rattle.iom_base.specs.Sizes.{levels_of}
use Rattle.iom_base.specs.declared.size.Size.{Size}
use Rattle.iom_base.specs.declared.size.Size.TheVariants.{Sv39, Sv48}
use Rattle.iom_stage_walk.specs.Paths.{path_of, first_widths}
use Rattle.iom_stage_walk.specs.Second.{second_widths}
use Rattle.iom_hardware_ways.specs.Laws.{AreIndices, SizesHaveIndices}

pub three : (a b c d e f : ℕ) → a ≡ d → b ≡ e → c ≡ f → a ∷ b ∷ c ∷ [] ≡ d ∷ e ∷ f ∷ []
three a b c d e f i j k = rw (i, j, k) refl

pub four : (a b c d e f g h : ℕ) → a ≡ e → b ≡ f → c ≡ g → d ≡ h → a ∷ b ∷ c ∷ d ∷ [] ≡ e ∷ f ∷ g ∷ h ∷ []
four a b c d e f g h i j k l = rw (i, j, k, l) refl

first_39 : (is : List ℕ) → AreIndices (512 ∷ 512 ∷ 512 ∷ []) is → (page : ℕ) × (path_of (512 ∷ 512 ∷ 512 ∷ []) page ≡ is)
first_39 [] never = absurd never
first_39 (a ∷ []) (la, never) = absurd never
first_39 (a ∷ b ∷ []) (la, (lb, never)) = absurd never
first_39 (a ∷ b ∷ c ∷ []) (la, (lb, (lc, done))) = (
  a * 262144 + b * 512 + c,
  three ((a * 262144 + b * 512 + c) / 262144 % 512) ((a * 262144 + b * 512 + c) / 512 % 512) ((a * 262144 + b * 512 + c) / 1 % 512) a b c
      (omega (arith, la, lb, lc)) (omega (arith, la, lb, lc)) (omega (arith, la, lb, lc)),
)
first_39 (a ∷ b ∷ c ∷ more ∷ rest) (la, (lb, (lc, never))) = absurd never

first_48 : (is : List ℕ) → AreIndices (512 ∷ 512 ∷ 512 ∷ 512 ∷ []) is → (page : ℕ) × (path_of (512 ∷ 512 ∷ 512 ∷ 512 ∷ []) page ≡ is)
first_48 [] never = absurd never
first_48 (a ∷ []) (la, never) = absurd never
first_48 (a ∷ b ∷ []) (la, (lb, never)) = absurd never
first_48 (a ∷ b ∷ c ∷ []) (la, (lb, (lc, never))) = absurd never
first_48 (a ∷ b ∷ c ∷ d ∷ []) (la, (lb, (lc, (ld, done)))) = (
  a * 134217728 + b * 262144 + c * 512 + d,
  four ((a * 134217728 + b * 262144 + c * 512 + d) / 134217728 % 512) ((a * 134217728 + b * 262144 + c * 512 + d) / 262144 % 512) ((a * 134217728 + b * 262144 + c * 512 + d) / 512 % 512) ((a * 134217728 + b * 262144 + c * 512 + d) / 1 % 512) a b c d
      (omega (arith, la, lb, lc, ld)) (omega (arith, la, lb, lc, ld)) (omega (arith, la, lb, lc, ld)) (omega (arith, la, lb, lc, ld)),
)
first_48 (a ∷ b ∷ c ∷ d ∷ more ∷ rest) (la, (lb, (lc, (ld, never)))) = absurd never

second_39 : (is : List ℕ) → AreIndices (2048 ∷ 512 ∷ 512 ∷ []) is → (page : ℕ) × (path_of (2048 ∷ 512 ∷ 512 ∷ []) page ≡ is)
second_39 [] never = absurd never
second_39 (a ∷ []) (la, never) = absurd never
second_39 (a ∷ b ∷ []) (la, (lb, never)) = absurd never
second_39 (a ∷ b ∷ c ∷ []) (la, (lb, (lc, done))) = (
  a * 262144 + b * 512 + c,
  three ((a * 262144 + b * 512 + c) / 262144 % 2048) ((a * 262144 + b * 512 + c) / 512 % 512) ((a * 262144 + b * 512 + c) / 1 % 512) a b c
      (omega (arith, la, lb, lc)) (omega (arith, la, lb, lc)) (omega (arith, la, lb, lc)),
)
second_39 (a ∷ b ∷ c ∷ more ∷ rest) (la, (lb, (lc, never))) = absurd never

second_48 : (is : List ℕ) → AreIndices (2048 ∷ 512 ∷ 512 ∷ 512 ∷ []) is → (page : ℕ) × (path_of (2048 ∷ 512 ∷ 512 ∷ 512 ∷ []) page ≡ is)
second_48 [] never = absurd never
second_48 (a ∷ []) (la, never) = absurd never
second_48 (a ∷ b ∷ []) (la, (lb, never)) = absurd never
second_48 (a ∷ b ∷ c ∷ []) (la, (lb, (lc, never))) = absurd never
second_48 (a ∷ b ∷ c ∷ d ∷ []) (la, (lb, (lc, (ld, done)))) = (
  a * 134217728 + b * 262144 + c * 512 + d,
  four ((a * 134217728 + b * 262144 + c * 512 + d) / 134217728 % 2048) ((a * 134217728 + b * 262144 + c * 512 + d) / 262144 % 512) ((a * 134217728 + b * 262144 + c * 512 + d) / 512 % 512) ((a * 134217728 + b * 262144 + c * 512 + d) / 1 % 512) a b c d
      (omega (arith, la, lb, lc, ld)) (omega (arith, la, lb, lc, ld)) (omega (arith, la, lb, lc, ld)) (omega (arith, la, lb, lc, ld)),
)
second_48 (a ∷ b ∷ c ∷ d ∷ more ∷ rest) (la, (lb, (lc, (ld, never)))) = absurd never

first_indices : (size : Size) (page : ℕ) → AreIndices (first_widths (levels_of size)) (path_of (first_widths (levels_of size)) page)
first_indices Sv39 page = (omega arith, (omega arith, (omega arith, tt)))
first_indices Sv48 page = (omega arith, (omega arith, (omega arith, (omega arith, tt))))

second_indices : (size : Size) (page : ℕ) → AreIndices (second_widths (levels_of size)) (path_of (second_widths (levels_of size)) page)
second_indices Sv39 page = (omega arith, (omega arith, (omega arith, tt)))
second_indices Sv48 page = (omega arith, (omega arith, (omega arith, (omega arith, tt))))

pub sizes_have_indices : SizesHaveIndices
sizes_have_indices Sv39 = ((first_indices Sv39, first_39), (second_indices Sv39, second_39))
sizes_have_indices Sv48 = ((first_indices Sv48, first_48), (second_indices Sv48, second_48))
