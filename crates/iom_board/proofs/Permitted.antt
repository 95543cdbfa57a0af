-- A device that isn't there, or is of a kind that can't, is refused; any other does it, and has a row of its own in the IOMMU.
use Rattle.std.proofs.Common.{◌≡◌, ◌∙◌, ◌==◌, inl, inr, ℕ, Bool, true, false, is_some, List, [], ◌∷◌, Option, None, Some, IsSome, Ok, Err, refl, sym, ap, subst, if◌then◌else◌}
use Rattle.std.specs.Option.{option_map}
use Rattle.std.proofs.lemmas.Bool.Decides.{eqb_tells}
use Rattle.iom_base.specs.declared.device_kind.DeviceKind.{DeviceKind}
use Rattle.iom_base.specs.declared.refusal.Refusal.{Refusal}
use Rattle.iom_device.specs.declared.device.Device.{Device}
use Rattle.iom_device.specs.Caches.{IsAble, device_with, kind_in}
use Rattle.iom_inflight.specs.Flights.{FlightRow, row_of}
use Rattle.iom_board.specs.ByDevice.{ByDevice}
use Rattle.iom_board.specs.BoardParts.{BoardParts}
use Rattle.iom_board.specs.Permits.{IsPermitted}
use Rattle.iom_board.specs.Invariant.{device_ids, flight_ids}

-- a refusal, for the first that applies
pub refused : {A : Type 0} (can : DeviceKind → Bool) (Call : BoardParts → A → BoardParts → Type 0) (old : BoardParts) (id : ℕ) (answer : Option Refusal) (why : Refusal)
    → IsPermitted can (kind_in old.devices id) answer → answer ≡ Some why → ByDevice can Call old id (Err why) old
refused can Call old id answer why permitted is = by (kind_in old.devices id) refl (subst (IsPermitted can (kind_in old.devices id)) is permitted)
  where
    by : (known : Option DeviceKind) → kind_in old.devices id ≡ known → IsPermitted can known (Some why) → ByDevice can Call old id (Err why) old
    by None at tells = inl (record { absent = at; answered = ap Err tells; same = refl })
    by (Some kind) at tells = inr (inl (record { kind = kind; there = at; cannot = tells.0; answered = ap Err tells.1; same = refl }))

-- a device that isn't refused can
pub able : (can : DeviceKind → Bool) (devices : List Device) (id : ℕ) (answer : Option Refusal) → IsPermitted can (kind_in devices id) answer → answer ≡ None → IsAble can devices id
able can devices id answer permitted is = by (kind_in devices id) refl (subst (IsPermitted can (kind_in devices id)) is permitted)
  where
    by : (known : Option DeviceKind) → kind_in devices id ≡ known → IsPermitted can known None → IsAble can devices id
    by None at tells = absurd tells
    by (Some kind) at tells = (kind, at, tells)

pub done : {A : Type 0} (can : DeviceKind → Bool) (Call : BoardParts → A → BoardParts → Type 0) (old : BoardParts) (id : ℕ) (answer : Option Refusal) (given : A) (new : BoardParts)
    → IsPermitted can (kind_in old.devices id) answer → answer ≡ None → Call old given new → ByDevice can Call old id (Ok given) new
done can Call old id answer given new permitted is call = inr (inr (record { able = able can old.devices id answer permitted is; given = given; answered = refl; call = call }))

-- a device of some kind is there
pub there : (can : DeviceKind → Bool) (devices : List Device) (id : ℕ) → IsAble can devices id → is_some (device_with devices id) ≡ true
there can devices id (kind, at, tells) = by (device_with devices id) at
  where
    by : (found : Option Device) → option_map (λ (device : Device). device.kind) found ≡ Some kind → is_some found ≡ true
    by None at = cc
    by (Some device) at = refl

first_same : (x y : ℕ) (xs ys : List ℕ) → x ∷ xs ≡ y ∷ ys → (x ≡ y) × (xs ≡ ys)
first_same x y xs ys same = (cc, cc)

-- so it has a row
pub has_row : (rows : List FlightRow) (devices : List Device) (id : ℕ) → flight_ids rows ≡ device_ids devices → is_some (device_with devices id) ≡ true → IsSome (row_of rows id)
has_row [] [] id same found = cc
has_row [] (device ∷ others) id same found = cc
has_row (row ∷ rows) [] id same found = cc
has_row (row ∷ rows) (device ∷ others) id same found =
    let both = first_same row.device device.id (flight_ids rows) (device_ids others) same in
    elim (eqb_tells row.device id) [
      | inl here ↦ rw here.0 refl
      | inr other ↦
          let apart : (device.id == id) ≡ false = ap (λ n. n == id) (sym both.0) ∙ other.0 in
          rw other.0 (has_row rows others id both.1 (subst (λ b. is_some (if b then Some device else device_with others id) ≡ true) apart found))
    ]

pub added : (can : DeviceKind → Bool) (rows : List FlightRow) (devices : List Device) (id : ℕ) (answer : Option Refusal) → flight_ids rows ≡ device_ids devices
    → IsPermitted can (kind_in devices id) answer → answer ≡ None → IsSome (row_of rows id)
added can rows devices id answer same permitted is = has_row rows devices id same (there can devices id (able can devices id answer permitted is))
