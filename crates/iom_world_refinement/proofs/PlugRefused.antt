-- Why a device isn't plugged in, before the driver is asked; and that the IOMMU adds one that is.
use Rattle.std.proofs.Common.{ap, ◌≡◌, ◌<◌, ◌≤◌, ◌⊎◌, ◌∙◌, inl, inr, subst, nat_le, ℕ, Bool, true, false, List, length, Option, None, Some, IsSome, Err, refl, sym, arith}
use Rattle.std.proofs.lemmas.Bool.{false≢true, le-leb, lt-leb}
use Rattle.iom_driver.specs.Calls.{AnswersPlug}
use Rattle.iom_driver.specs.State.{DriverState}
use Rattle.iom_inflight.specs.Flights.{FlightRow, row_of}
use Rattle.iom_iommu.specs.OwnIommu.{Iommu}
use Rattle.iom_driver.specs.Ready.{IsReady}
use Rattle.iom_iommu.specs.Parts.{flights_of, registers_of, AddsDevice}
use Rattle.iom_driver.specs.Reasons.{why_not_plug}
use Rattle.iom_base.specs.declared.refusal.Refusal.{Refusal}
use Rattle.iom_base.specs.declared.refusal.Refusal.TheVariants.{AlreadyPlugged, TooManyDevices, BadMedium, Memory}
use Rattle.iom_base.specs.Refusals.{first_that_applies, NoneApplies}
use Rattle.iom_machine.specs.declared.outcome.Outcome.TheVariants.{Refused}
use Rattle.iom_base.specs.declared.device_kind.NewDevice.{NewDevice}
use Rattle.iom_base.specs.Disks.{is_missing}
use Rattle.iom_base.specs.DeviceKinds.{kind_of, disk_of, has_cache}
use Rattle.iom_world_effects.specs.Effect.{PlugsDevice}
use Rattle.iom_world_effects.specs.Parts.{Parts}
use Rattle.iom_device.specs.declared.device.Device.{Device}
use Rattle.iom_world_effects.specs.Places.{IsAbsent, IsPresent}
use Rattle.iom_world_effects.specs.Invariant.{AreKnown, plugged_ids, known_ids, row_ids}
use Rattle.iom_world_effects.proofs.PresentLemmas.{row_absent, known_present, known_absent, length-rows, length-known}

pub already_plugged : (d : DriverState) (devices : List Device) (id : ℕ) (trusted : Bool) → known_ids d.devices ≡ plugged_ids devices → IsPresent devices id → AnswersPlug d id trusted (Err AlreadyPlugged) d
already_plugged d devices id trusted known present = (rw (known_present d.devices devices id known present) refl, refl)

pub too_many : (d : DriverState) (devices : List Device) (id : ℕ) (trusted : Bool) → known_ids d.devices ≡ plugged_ids devices → IsAbsent devices id → 16 ≤ length devices → AnswersPlug d id trusted (Err TooManyDevices) d
too_many d devices id trusted known absent many =
    let full : nat_le 16 (length d.devices) ≡ true = le-leb 16 (length d.devices) (rw (length-known d.devices devices known) many) in
    (rw (known_absent d.devices devices id known absent, full) refl, refl)

pub no_memory : (d : DriverState) (devices : List Device) (id : ℕ) (trusted : Bool) → known_ids d.devices ≡ plugged_ids devices → IsAbsent devices id → length devices < 16 → AnswersPlug d id trusted (Err Memory) d
no_memory d devices id trusted known absent few =
    let room : nat_le 16 (length d.devices) ≡ false = lt-leb 16 (length d.devices) (rw (length-known d.devices devices known) few) in
    (rw (known_absent d.devices devices id known absent, room) refl, refl)

-- so the driver has no reason against it only where it isn't there, and few are
none_plugged : (d : DriverState) (devices : List Device) (id : ℕ) → known_ids d.devices ≡ plugged_ids devices → IsPresent devices id → ¬ NoneApplies (why_not_plug d id)
none_plugged d devices id known present none = some_none (sym first ∙ none)
  where
    first : first_that_applies (why_not_plug d id) ≡ Some AlreadyPlugged
    first = rw (known_present d.devices devices id known present) refl

    some_none : ◌≡◌ {A = Option Refusal} (Some AlreadyPlugged) None → ⊥
    some_none same = cc

none_many : (d : DriverState) (devices : List Device) (id : ℕ) → known_ids d.devices ≡ plugged_ids devices → IsAbsent devices id → 16 ≤ length devices → ¬ NoneApplies (why_not_plug d id)
none_many d devices id known absent many none = some_none (sym first ∙ none)
  where
    full : nat_le 16 (length d.devices) ≡ true
    full = le-leb 16 (length d.devices) (rw (length-known d.devices devices known) many)

    first : first_that_applies (why_not_plug d id) ≡ Some TooManyDevices
    first = rw (known_absent d.devices devices id known absent, full) refl

    some_none : ◌≡◌ {A = Option Refusal} (Some TooManyDevices) None → ⊥
    some_none same = cc

pub admitted : (d : DriverState) (devices : List Device) (id : ℕ) → known_ids d.devices ≡ plugged_ids devices → IsAbsent devices id → length devices < 16 → NoneApplies (why_not_plug d id)
admitted d devices id known absent few =
    let room : nat_le 16 (length d.devices) ≡ false = lt-leb 16 (length d.devices) (rw (length-known d.devices devices known) few) in
    rw (known_absent d.devices devices id known absent, room) refl

-- the whole of a plug that is refused, by what stands in front
pub plugged_already : (disks : List ℕ) (old : Parts) (id : ℕ) (what : NewDevice) → AreKnown old → IsPresent old.devices id → PlugsDevice disks old id what (Refused AlreadyPlugged) old
plugged_already disks old id what known present = inr (record {
  answer = Err AlreadyPlugged;
  reply_is = refl;
  call = already_plugged old.driver old.devices id (has_cache (kind_of what)) known.driver present;
  disk = λ none. absurd (none_plugged old.driver old.devices id known.driver present none);
  row = refl;
  devices = refl;
  fabric = refl;
  memory = refl;
})

pub plugged_many : (disks : List ℕ) (old : Parts) (id : ℕ) (what : NewDevice) → AreKnown old → IsAbsent old.devices id → 16 ≤ length old.devices → PlugsDevice disks old id what (Refused TooManyDevices) old
plugged_many disks old id what known absent many = inr (record {
  answer = Err TooManyDevices;
  reply_is = refl;
  call = too_many old.driver old.devices id (has_cache (kind_of what)) known.driver absent many;
  disk = λ none. absurd (none_many old.driver old.devices id known.driver absent many none);
  row = refl;
  devices = refl;
  fabric = refl;
  memory = refl;
})

pub lacks_disk : (disks : List ℕ) (old : Parts) (id : ℕ) (what : NewDevice) → AreKnown old → IsAbsent old.devices id → length old.devices < 16 → is_missing disks (disk_of what) ≡ true
    → PlugsDevice disks old id what (Refused BadMedium) old
lacks_disk disks old id what known absent few missing =
    inl (record { admitted = admitted old.driver old.devices id known.driver absent few; missing = missing; reply_is = refl; same = refl })

-- a device that isn't there is none that is
pub absent_if_not : (devices : List Device) (id : ℕ) (there : Bool) → there ≡ false → (IsPresent devices id → there ≡ true) → IsAbsent devices id
absent_if_not devices id there missing present device among own = absurd (false≢true (sym missing ∙ present (device, among, own)))

-- the IOMMU adds a device that isn't there, where fewer than 16 are
pub added_new : (iommu : Iommu) (devices : List Device) (id : ℕ) (added : Bool) (new : Iommu) → row_ids (flights_of iommu).rows ≡ plugged_ids devices → IsAbsent devices id → length devices < 16
    → AddsDevice iommu id added new → AddsDevice iommu id true new
added_new iommu devices id true new same absent few adds = adds
added_new iommu devices id false new same absent few adds = absurd (by adds.flights.0)
  where
    none : row_of (flights_of iommu).rows id ≡ None
    none = row_absent (flights_of iommu).rows devices id same absent

    by : IsSome (row_of (flights_of iommu).rows id) ⊎ (16 ≤ length (flights_of iommu).rows) → ⊥
    by (inl some) = (let is : IsSome {T = FlightRow} None = subst (λ (o : Option FlightRow). IsSome o) none some in cc)
    by (inr many) = (let long = length-rows (flights_of iommu).rows devices same in omega (arith, many, long, few))

-- the driver is ready as before beside it, since its registers stay
pub ready_still : (d : DriverState) (memory : List (List ℕ)) (iommu new : Iommu) (id : ℕ) (added : Bool) → AddsDevice iommu id added new → IsReady d memory (registers_of iommu) → IsReady d memory (registers_of new)
ready_still d memory iommu new id added adds ready = subst (IsReady d memory) (sym (ap (λ parts. parts.registers) adds.rest)) ready
