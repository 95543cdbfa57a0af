-- A block device's step keeps what is sound.
use Rattle.std.proofs.Common.{◌≡◌, ◌<◌, ◌^◌, inl, inr, ℕ, Bool, true, false}
use Rattle.iom_base.specs.declared.access.Access.{Access}
use Rattle.iom_base.specs.DeviceKinds.{is_block_device}
use Rattle.iom_coherence.specs.Attachments.{caches_translations}
use Rattle.iom_device.specs.Caches.{kind_in}
use Rattle.iom_driver.specs.declared.driver.Driver.{Driver}
use Rattle.iom_driver.specs.StateOf.{state_of}
use Rattle.iom_iommu.specs.Parts.{flights_of}
use Rattle.iom_machine.specs.declared.outcome.BlockStep.{BlockStep}
use Rattle.iom_machine.specs.declared.outcome.Outcome.{Outcome}
use Rattle.iom_world_effects.specs.Below.{LawsBelow}
use Rattle.iom_world_effects.specs.BlockDevices.{GoesToMemory, Rests, TakesBlockStep}
use Rattle.iom_world_effects.specs.Parts.{Parts}
use Rattle.iom_world_effects.specs.Invariant.{PartsInvariant}
use Rattle.iom_world_effects.proofs.DriverLemmas.{DriverInvariant}
use Rattle.iom_world_invariant.proofs.AskedLemmas.{keeps_asked_counted}
use Rattle.iom_world_invariant.proofs.BlockKeeps.{keeps_through}

module _ (laws : LawsBelow) (driver : Driver) (old new : Parts) (events id : ℕ) (reply : Outcome) (invariants : PartsInvariant old events) (own : DriverInvariant old.driver) (is : old.driver ≡ state_of driver)
    (below : (flights_of old.iommu).so_far < events) where
  goes : (through : Bool) (access : Access) → access.address < 2 ^ 64 → GoesToMemory through old id access reply new → PartsInvariant new events
  goes false access fits asks = keeps_asked_counted is_block_device laws driver old new events id access reply invariants own is below fits asks
  goes true access fits through = keeps_through laws driver old new events id access reply invariants own is below fits through

  rests : (step : BlockStep) → Rests old id step reply new → PartsInvariant new events
  rests step (inl unknown) = rw unknown.same invariants
  rests step (inr (inl unable)) = rw unable.same invariants
  rests step (inr (inr (able, is_told, same))) = rw same invariants

  pub keeps_stepped : TakesBlockStep old id reply new → PartsInvariant new events
  keeps_stepped (inl (access, fits, wants, begins)) = goes (caches_translations (kind_in old.devices id)) access fits begins
  keeps_stepped (inr (step, rest, is)) = rests step is
