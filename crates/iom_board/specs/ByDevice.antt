-- A call of a device: one that isn't plugged in, or of a kind that can't do this, is refused, and changes nothing.
use Rattle.std.specs.Prelude.{◌≡◌, ◌⊎◌, ℕ, Bool, false, Result, Ok, Err, Some, None}
use Rattle.iom_base.specs.declared.device_kind.DeviceKind.{DeviceKind}
use Rattle.iom_base.specs.declared.refusal.Refusal.{Refusal}
use Rattle.iom_base.specs.declared.refusal.Refusal.TheVariants.{NoSuchDevice, WrongKind}
use Rattle.iom_device.specs.Caches.{IsAble, kind_in}
use Rattle.iom_board.specs.BoardParts.{BoardParts}

-- no device has the id
pub record FindsNoDevice {A : Type 0} (old : BoardParts) (id : ℕ) (answer : Result A Refusal) (new : BoardParts) : Type 0 where
  pub absent : kind_in old.devices id ≡ None
  pub answered : answer ≡ Err NoSuchDevice
  pub same : new ≡ old

-- the device is of a kind that can't
pub record FindsWrongKind {A : Type 0} (can : DeviceKind → Bool) (old : BoardParts) (id : ℕ) (answer : Result A Refusal) (new : BoardParts) : Type 0 where
  pub kind : DeviceKind
  pub there : kind_in old.devices id ≡ Some kind
  pub cannot : can kind ≡ false
  pub answered : answer ≡ Err WrongKind
  pub same : new ≡ old

-- the device does it, and this comes of it
pub record HasEffect {A : Type 0} (can : DeviceKind → Bool) (Call : BoardParts → A → BoardParts → Type 0) (old : BoardParts) (id : ℕ)
    (answer : Result A Refusal) (new : BoardParts) : Type 0 where
  pub able : IsAble can old.devices id
  pub given : A
  pub answered : answer ≡ Ok given
  pub call : Call old given new

-- A CALL OF A DEVICE that is of a kind that can
abbrev pub ByDevice : {A : Type 0} → (DeviceKind → Bool) → (BoardParts → A → BoardParts → Type 0) → BoardParts → ℕ → Result A Refusal → BoardParts → Type 0
ByDevice can Call old id answer new =
    FindsNoDevice old id answer new ⊎ FindsWrongKind can old id answer new ⊎ HasEffect can Call old id answer new
