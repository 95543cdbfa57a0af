-- A request keeps the facts, be it translated or not, or through a device's own cache, where fewer accesses were accepted than events are counted.
use Rattle.std.proofs.Common.{◌≡◌, ◌^◌, ◌<◌, ℕ, Bool, sym, subst, List}
use Rattle.iom_walk_coherence.specs.Walks.{Walk}
use Rattle.iom_base.specs.declared.access.Access.{Access}
use Rattle.iom_driver.specs.declared.driver.Driver.{Driver}
use Rattle.iom_driver.specs.StateOf.{state_of}
use Rattle.iom_iommu.specs.Parts.{flights_of}
use Rattle.iom_machine.specs.declared.outcome.Outcome.{Outcome}
use Rattle.iom_base.specs.declared.device_kind.DeviceKind.{DeviceKind}
use Rattle.iom_world_effects.specs.Below.{LawsBelow}
use Rattle.iom_world_effects.specs.Parts.{Parts}
use Rattle.iom_world_effects.specs.Requests.{AsksAccess, AsksTranslated}
use Rattle.iom_world_effects.specs.Invariant.{InvariantWith}
use Rattle.iom_world_effects.specs.ThroughCache.{DeviceAsksThroughCache}
use Rattle.iom_world_effects.proofs.DriverLemmas.{DriverInvariant}
use Rattle.iom_world_effects.proofs.PartsLemmas.{StaysReady, stays_of, StaysReported, reported_of}
use Rattle.iom_world_invariant.proofs.RequestKeeps.{keeps_asked}
use Rattle.iom_world_effects.proofs.ServedLemmas.{ServiceLaws}
use Rattle.iom_world_invariant.proofs.ThroughCacheKeeps.{keeps_through_cache}
use Rattle.iom_world_invariant.proofs.TranslatedKeeps.{keeps_translated}

-- the laws of the layers below, as the service has them
pub service_laws : LawsBelow → ServiceLaws
service_laws laws = record {
  ends = laws.ends;
  walks = record {
    reaches = laws.reaches;
    faults = laws.faults;
    one_end = laws.one_end;
    guest_reaches = laws.guest_reaches;
    guest_leaves = laws.guest_leaves;
    guest_faults = laws.guest_faults;
    guest_tables = laws.guest_tables;
    one_end_second = laws.one_end_second;
    as_reads_second = laws.as_reads_second;
    as_reads_both = laws.as_reads_both;
    led = laws.led;
  };
}

pub keeps_asked_counted : {walks : List Walk} (can : DeviceKind → Bool) → LawsBelow → (driver : Driver) (old new : Parts) (events id : ℕ) (access : Access) (reply : Outcome) → InvariantWith walks old events → DriverInvariant old.driver → old.driver ≡ state_of driver
    → (flights_of old.iommu).so_far < events → access.address < 2 ^ 64 → AsksAccess can old id access reply new → InvariantWith walks new events
keeps_asked_counted can laws driver old new events id access reply invariants own is below fits asks =
    keeps_asked can (service_laws laws) old new events id access reply invariants own
    (subst StaysReady (sym is) (stays_of laws.unchanged driver)) (subst StaysReported (sym is) (reported_of laws.reported driver)) below fits asks

pub keeps_translated_counted : {walks : List Walk} → LawsBelow → (driver : Driver) (old new : Parts) (events id : ℕ) (access : Access) (reply : Outcome) → InvariantWith walks old events → DriverInvariant old.driver → old.driver ≡ state_of driver
    → (flights_of old.iommu).so_far < events → AsksTranslated old id access reply new → InvariantWith walks new events
keeps_translated_counted laws driver old new events id access reply invariants own is below asks =
    keeps_translated (service_laws laws) old new events id access reply invariants own
    (subst StaysReady (sym is) (stays_of laws.unchanged driver)) (subst StaysReported (sym is) (reported_of laws.reported driver)) below asks

pub keeps_through_cache_counted : {walks : List Walk} (can : DeviceKind → Bool) → LawsBelow → (driver : Driver) (old new : Parts) (events id : ℕ) (access : Access) (reply : Outcome) → InvariantWith walks old events → DriverInvariant old.driver → old.driver ≡ state_of driver
    → (flights_of old.iommu).so_far < events → DeviceAsksThroughCache can old id access reply new → InvariantWith walks new events
keeps_through_cache_counted can laws driver old new events id access reply invariants own is below asks =
    keeps_through_cache can (service_laws laws) old new events id access reply invariants own
    (subst StaysReady (sym is) (stays_of laws.unchanged driver)) (subst StaysReported (sym is) (reported_of laws.reported driver)) below asks
