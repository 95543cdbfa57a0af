-- What becomes of an access in flight, of a fence that waits, and of a command in the queue.
use Rattle.std.specs.Prelude.{◌≡◌, ℕ, ◌+◌, Bool, List, length, Option, Some, Result, Ok, slice_get, slice_range}
use Rattle.iom_base.specs.DeviceKinds.{is_any_kind}
use Rattle.iom_base.specs.declared.refusal.Refusal.{Refusal}
use Rattle.iom_device.specs.Calls.{with_reset}
use Rattle.iom_inflight.specs.declared.made.MadeAt.{MadeAt}
use Rattle.iom_iommu.specs.declared.fetched.Fetched.{Fetched}
use Rattle.iom_iommu.specs.Fetches.{FetchesCommand}
use Rattle.iom_iommu.specs.Parts.{slots_of}
use Rattle.iom_iommu.specs.Requests.{CommitsOldest}
use Rattle.iom_iommu.specs.Timeouts.{TimesFenceOut}
use Rattle.iom_board.specs.ByDevice.{ByDevice}
use Rattle.iom_board.specs.BoardParts.{BoardParts}
use Rattle.iom_board.specs.Messages.{with_opened}

-- the oldest access of the device is made, if one is in flight
pub record MakesAccess (id : ℕ) (old : BoardParts) (made : Option MadeAt) (new : BoardParts) : Type 0 where
  pub call : CommitsOldest old.memory old.iommu id made new.memory new.iommu
  pub devices : new.devices ≡ old.devices
  pub fabric : new.fabric ≡ old.fabric

-- A COMMIT of the device with the id
abbrev pub CommitsOldestAccess : BoardParts → ℕ → Result (Option MadeAt) Refusal → BoardParts → Type 0
CommitsOldestAccess old id answer new = ByDevice is_any_kind (MakesAccess id) old id answer new

-- what a commit of the device would make: whatever it leaves, it answers so
abbrev pub WouldMake : BoardParts → ℕ → Option MadeAt → Type 0
WouldMake parts id made = (answer : Option MadeAt) (new : BoardParts) → CommitsOldestAccess parts id (Ok answer) new → answer ≡ made

-- the bytes that stand in the frame where the access is made, from its offset on, as many as it is long
pub record StandWhereMade (memory : List (List ℕ)) (made : MadeAt) (bytes : List ℕ) : Type 0 where
  pub frame : List ℕ
  pub there : slice_get memory made.frame ≡ Some frame
  pub part : bytes ≡ slice_range frame made.offset (made.offset + made.len)
  pub long : length bytes ≡ made.len

-- the device's cache is empty, if it has one, and a new epoch has begun
pub record ClearsCache (id : ℕ) (old : BoardParts) (done : Unit {0}) (new : BoardParts) : Type 0 where
  pub cleared : new ≡ record old { devices = with_reset old.devices id }

-- A DEVICE IS RESET, of any kind
abbrev pub ResetsAnyDevice : BoardParts → ℕ → Result (Unit {0}) Refusal → BoardParts → Type 0
ResetsAnyDevice old id answer new = ByDevice is_any_kind (ClearsCache id) old id answer new

-- THE IOMMU TAKES A COMMAND; where that opened a request to invalidate, it is sent to its device
pub record TakesCommand (old : BoardParts) (fetched : Fetched) (new : BoardParts) : Type 0 where
  pub call : FetchesCommand old.memory old.iommu fetched new.memory new.iommu
  pub devices : new.devices ≡ old.devices
  pub fabric : new.fabric ≡ with_opened fetched (slots_of new.iommu).last old.fabric

-- A FENCE that waits for devices is given up, if one does
pub record GivesUpFence (old : BoardParts) (has_effect : Bool) (new : BoardParts) : Type 0 where
  pub call : TimesFenceOut old.iommu has_effect new.iommu
  pub memory : new.memory ≡ old.memory
  pub devices : new.devices ≡ old.devices
  pub fabric : new.fabric ≡ old.fabric
