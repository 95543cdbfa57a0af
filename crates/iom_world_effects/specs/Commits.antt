-- What becomes of an access in flight: it is made, on the frame that it was translated to.
use Rattle.std.specs.Prelude.{◌≡◌, ℕ, ◌+◌, ◌⊎◌, false, List, length, Option, None, Some, IfSome, slice_get, slice_range}
use Rattle.iom_base.specs.declared.access.AccessKind.{AccessKind}
use Rattle.iom_base.specs.declared.access.AccessKind.TheVariants.{Read, Write}
use Rattle.iom_inflight.specs.declared.made.MadeAt.{MadeAt}
use Rattle.iom_iommu.specs.Requests.{CommitsOldest}
use Rattle.iom_machine.specs.declared.outcome.Outcome.{Outcome}
use Rattle.iom_machine.specs.declared.outcome.Outcome.TheVariants as outcome
use Rattle.iom_table_frames.specs.Owners.{has_owner}
use Rattle.iom_world_effects.specs.Parts.{Parts}
use Rattle.iom_world_effects.specs.Places.{IsPresent}
use Rattle.iom_world_effects.specs.Unable.{IsUnknown}
use Rattle.iom_world_effects.specs.Answers.{TellsBytes}

-- the bytes that stand in the frame where the access was made are told, as many as it is long
pub record TellsRead (memory : List (List ℕ)) (made : MadeAt) (reply : Outcome) : Type 0 where
  pub bytes : List ℕ
  pub there : slice_get memory made.frame ≡ Some bytes
  pub reply_is : TellsBytes reply (slice_range bytes made.offset (made.offset + made.len))
  pub long : length (slice_range bytes made.offset (made.offset + made.len)) ≡ made.len

-- a read tells its bytes, a write how many were stored
abbrev pub TellsKind : List (List ℕ) → MadeAt → AccessKind → Outcome → Type 0
TellsKind memory made Read reply = TellsRead memory made reply
TellsKind memory made Write reply = reply ≡ outcome.Wrote made.len

-- what is told of the access that was made, if one was
abbrev pub TellsMade : List (List ℕ) → Option MadeAt → Outcome → Type 0
TellsMade memory None reply = reply ≡ outcome.NothingInFlight
TellsMade memory (Some made) reply = TellsKind memory made made.kind reply

-- the oldest access of the device is made, if one is in flight, on a frame that isn't reserved: the driver stays
pub record MakesOldest (old : Parts) (id : ℕ) (reply : Outcome) (new : Parts) : Type 0 where
  pub present : IsPresent old.devices id
  pub made : Option MadeAt
  pub reply_is : TellsMade old.memory made reply
  pub call : CommitsOldest old.memory old.iommu id made new.memory new.iommu
  pub unreserved : IfSome made (λ it. has_owner old.driver.owners it.frame ≡ false)
  pub driver : new.driver ≡ old.driver
  pub devices : new.devices ≡ old.devices
  pub fabric : new.fabric ≡ old.fabric

-- A COMMIT of the device with the id
abbrev pub CommitsAccess : Parts → ℕ → Outcome → Parts → Type 0
CommitsAccess old id reply new = IsUnknown old id reply new ⊎ MakesOldest old id reply new
