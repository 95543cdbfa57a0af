-- The address-space numbers of attached, quarantined and leaving devices: of more numbers than there are devices one is free.
use Rattle.std.proofs.Common.{suc, zero, ◌≡◌, ◌≢◌, ◌==◌, ◌<◌, ◌≤◌, ◌||◌, ◌∙◌, ◌⊎◌, ℕ, Bool, true, false, List, [], ◌∷◌, length, eqb, Option, Some, None, refl, sym, ap, subst, inl, inr, arith}
use Rattle.std.specs.List.{list_any}
use Rattle.std.specs.Option.{option_map_or}
use Rattle.std.proofs.lemmas.Bool.Decides.{eqb_tells}
use Rattle.std.proofs.lemmas.Bool.{eq-eqb, false≢true}
use Rattle.std.proofs.lemmas.Map.Steps.{le-length_from_below}
use Rattle.iom_driver.specs.declared.device.Device.{Device}
use Rattle.iom_driver.specs.declared.device.Stages.{Stages}
use Rattle.iom_driver.specs.Devices.{owned_stages_of, owned_stages, with_attachment, has_device, is_used, has_number, IsLowestNumber}
use Rattle.iom_driver.specs.Invariant.{HaveNumbers}
use Rattle.iom_driver.specs.declared.device.Attachment.TheVariants.{Attached}
use Rattle.iom_driver.proofs.Places.{attachment_set, attachment_other}

-- the numbers of the attached, quarantined and leaving devices
abbrev numbers_of : List Device → List ℕ
numbers_of [] = []
numbers_of (device ∷ others) = option_map_or (λ (stage : Stages). stage.number ∷ numbers_of others) (owned_stages device.attachment) (numbers_of others)

few_numbers : (devices : List Device) → length (numbers_of devices) ≤ length devices
few_numbers [] = omega arith
few_numbers (device ∷ others) = by (owned_stages device.attachment) (few_numbers others)
  where
    by : (o : Option Stages) → length (numbers_of others) ≤ length others
        → length (option_map_or (λ (stage : Stages). stage.number ∷ numbers_of others) o (numbers_of others)) ≤ suc (length others)
    by None le = omega (arith, le)
    by (Some stage) le = omega (arith, le)

-- a number that is used is one of them
among : (devices : List Device) (n : ℕ) → is_used devices n ≡ true → list_any (eqb n) (numbers_of devices) ≡ true
among [] n used = used
among (device ∷ others) n used = by (owned_stages device.attachment) used (λ is. among others n is)
  where
    by : (o : Option Stages) → (option_map_or (λ (stage : Stages). stage.number == n) o false || is_used others n) ≡ true
        → (is_used others n ≡ true → list_any (eqb n) (numbers_of others) ≡ true)
        → list_any (eqb n) (option_map_or (λ (stage : Stages). stage.number ∷ numbers_of others) o (numbers_of others)) ≡ true
    by None is later = later is
    by (Some stage) is later = elim (eqb_tells stage.number n) [
      | inl e ↦ rw (eq-eqb n stage.number (sym e.1)) refl
      | inr ne ↦ let rest = later (rw ne.0 at is) in grind (arith, rest)
    ]

-- of 17 numbers from 1 on, 16 devices leave the last where they hold all others
pub last_unused : (devices : List Device) → length devices ≤ 16 → ((n : ℕ) → 1 ≤ n → n < 17 → is_used devices n ≡ true) → is_used devices 17 ≡ false
last_unused devices few used = by (is_used devices 17) refl
  where
    behind : (q : ℕ) → list_any (eqb (suc q)) (numbers_of devices) ≡ true → list_any (eqb (suc q)) (zero ∷ numbers_of devices) ≡ true
    behind q later = grind (arith, later)

    below : is_used devices 17 ≡ true → (q : ℕ) → q < 18 → list_any (eqb q) (zero ∷ numbers_of devices) ≡ true
    below last zero lt = refl
    below last (suc q) lt = behind q (elim (eqb_tells (suc q) 17) [
      | inl e ↦ subst (λ n. list_any (eqb n) (numbers_of devices) ≡ true) (sym e.1) (among devices 17 last)
      | inr ne ↦ among devices (suc q) (used (suc q) (omega arith) (omega (arith, ne.1)))
    ])

    by : (b : Bool) → is_used devices 17 ≡ b → is_used devices 17 ≡ false
    by false e = e
    by true e = absurd (omega (arith, le-length_from_below (zero ∷ numbers_of devices) 18 (below e), few_numbers devices, few))

-- a device that is attached, quarantined or leaving holds its number
pub holder_uses : (devices : List Device) (id : ℕ) (stage : Stages) → owned_stages_of devices id ≡ Some stage → is_used devices stage.number ≡ true
holder_uses [] id stage at = cc
holder_uses (device ∷ others) id stage at = elim (eqb_tells device.id id) [
  | inl e ↦ here (owned_stages device.attachment) (rw e.0 at at)
  | inr ne ↦ there (has_number stage.number device) (holder_uses others id stage (rw ne.0 at at))
]
  where
    here : (o : Option Stages) → o ≡ Some stage → (option_map_or (λ (s : Stages). s.number == stage.number) o false || is_used others stage.number) ≡ true
    here None same = cc
    here (Some own) same = let is : own ≡ stage = cc in rw (eq-eqb own.number stage.number (ap (λ (s : Stages). s.number) is)) refl

    there : (b : Bool) → is_used others stage.number ≡ true → (b || is_used others stage.number) ≡ true
    there true used = refl
    there false used = used

-- where one more device is attached under the lowest free number
pub numbers_attached : (devices : List Device) (id : ℕ) (stage : Stages) → HaveNumbers devices → has_device devices id ≡ true → IsLowestNumber devices stage.number → stage.number ≤ 17
    → HaveNumbers (with_attachment devices id (Attached stage))
numbers_attached devices id stage numbers plugged lowest small = record {
  small = λ other s at. elim (whose other s at) [
    | inl e ↦ let n : s.number ≡ stage.number = ap (λ (t : Stages). t.number) e.1 in (omega (arith, n, lowest.from_one), omega (arith, n, small))
    | inr e ↦ numbers.small other s e.1
  ];
  own = λ one other a b at_one at_other same. by one other a b same (whose one a at_one) (whose other b at_other);
}
  where
    whose : (other : ℕ) (s : Stages) → owned_stages_of (with_attachment devices id (Attached stage)) other ≡ Some s → ((other ≡ id) × (s ≡ stage)) ⊎ ((other ≢ id) × (owned_stages_of devices other ≡ Some s))
    whose other s at = elim (eqb_tells other id) [
      | inl e ↦
          let now : owned_stages_of (with_attachment devices id (Attached stage)) id ≡ Some s = ap (λ i. owned_stages_of (with_attachment devices id (Attached stage)) i) (sym e.1) ∙ at in
          let both : Some s ≡ Some stage = sym now ∙ ap owned_stages (attachment_set devices id (Attached stage) plugged) in
          inl (e.1, cc)
      | inr ne ↦ inr (ne.1, sym (ap owned_stages (attachment_other devices id other (Attached stage) ne.1)) ∙ at)
    ]

    unused : (other : ℕ) (s : Stages) → owned_stages_of devices other ≡ Some s → s.number ≡ stage.number → ⊥
    unused other s at same = false≢true (sym lowest.unused ∙ ap (λ n. is_used devices n) (sym same) ∙ holder_uses devices other s at)

    by : (one other : ℕ) (a b : Stages) → a.number ≡ b.number → ((one ≡ id) × (a ≡ stage)) ⊎ ((one ≢ id) × (owned_stages_of devices one ≡ Some a))
        → ((other ≡ id) × (b ≡ stage)) ⊎ ((other ≢ id) × (owned_stages_of devices other ≡ Some b)) → one ≡ other
    by one other a b same (inl x) (inl y) = x.0 ∙ sym y.0
    by one other a b same (inl x) (inr y) = absurd (unused other b y.1 (sym same ∙ ap (λ (t : Stages). t.number) x.1))
    by one other a b same (inr x) (inl y) = absurd (unused one a x.1 (same ∙ ap (λ (t : Stages). t.number) y.1))
    by one other a b same (inr x) (inr y) = numbers.own one other a b x.1 y.1 same
