-- Why a device may not be attached: the first reason that applies, where those before it don't.
use Rattle.std.proofs.Common.{◌≡◌, ◌≤◌, ◌&&◌, not, ℕ, Bool, true, false, Some, None, is_some, nat_le, refl}
use Rattle.std.proofs.lemmas.Bool.{le-leb, lt-leb}
use Rattle.iom_base.specs.declared.refusal.Refusal.{Refusal}
use Rattle.iom_base.specs.declared.refusal.Refusal.TheVariants.{NotStarted, NoSuchDevice, AlreadyAttached, IdTooWide, NotTrusted}
use Rattle.iom_base.specs.Refusals.{first_that_applies, NoneApplies}
use Rattle.iom_driver.specs.Admitted.{MayBeAttached}
use Rattle.iom_driver.specs.Devices.{device_by_id, has_device, has_trusted_cache, owned_stages_of}
use Rattle.iom_base.specs.DeviceIds.{id_limit}
use Rattle.iom_driver.specs.Reasons.{why_not_attach}
use Rattle.iom_driver.specs.State.{DriverState}

module _ (d : DriverState) (id : ℕ) (ats : Bool) where
  -- the first reason that applies
  abbrev reply : Refusal → Type 0
  reply why = first_that_applies (why_not_attach d id ats) ≡ Some why

  pub not_started : d.started ≡ false → reply NotStarted
  not_started off = rw off refl

  pub no_such_device : d.started ≡ true → device_by_id d.devices id ≡ None → reply NoSuchDevice
  no_such_device runs absent = rw (runs, absent) refl

  pub already_attached : d.started ≡ true → has_device d.devices id ≡ true → is_some (owned_stages_of d.devices id) ≡ true → reply AlreadyAttached
  already_attached runs plugged owned = rw (runs, plugged, owned) refl

  pub id_too_wide : d.started ≡ true → has_device d.devices id ≡ true → owned_stages_of d.devices id ≡ None → id_limit d.levels ≤ id → reply IdTooWide
  id_too_wide runs plugged none wide =
      let test : nat_le (id_limit d.levels) id ≡ true = le-leb (id_limit d.levels) id wide in
      rw (runs, plugged, none, test) refl

  pub not_trusted : MayBeAttached d id → (ats && not (has_trusted_cache d.devices id)) ≡ true → reply NotTrusted
  not_trusted may untrusted =
      let test : nat_le (id_limit d.levels) id ≡ false = lt-leb (id_limit d.levels) id may.narrow in
      rw (may.started, may.plugged, may.nothing, test, untrusted) refl

  -- a device that is there and owns nothing may be attached, where the directory can name it
  pub may_attach : MayBeAttached d id → (ats && not (has_trusted_cache d.devices id)) ≡ false → NoneApplies (why_not_attach d id ats)
  may_attach may trusted =
      let test : nat_le (id_limit d.levels) id ≡ false = lt-leb (id_limit d.levels) id may.narrow in
      rw (may.started, may.plugged, may.nothing, test, trusted) refl
