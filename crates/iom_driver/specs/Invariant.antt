-- What stays true of a driver by itself, whatever its calls and whatever happens to memory and registers.
use Rattle.std.specs.Prelude.{◌≡◌, ℕ, ◌+◌, ◌<◌, ⊤, ◌≤◌, Bool, false, List, [], ◌∷◌, length, Option, None, Some, slice_get}
use Rattle.iom_base.specs.Sizes.{page_limit_of}
use Rattle.iom_base.specs.declared.size.Size.TheVariants.{Sv48}
use Rattle.iom_base.specs.declared.owner.Owner.{Owner}
use Rattle.iom_base.specs.declared.rights.Rights.{Rights}
use Rattle.iom_ledger.specs.declared.ledger.Ledger.{Ledger}
use Rattle.iom_ledger.specs.Shown.{held_in, lingering_in, pending_in}
use Rattle.iom_phys_mem.specs.Sizes.{IsMemorySize}
use Rattle.iom_driver.specs.declared.device.Device.{Device}
use Rattle.iom_driver.specs.declared.device.Stages.{Stages}
use Rattle.iom_driver.specs.declared.device.Attachment.TheVariants.{Detached, Quarantined, Leaving}
use Rattle.iom_driver.specs.Devices.{attachment_by_id, stages_of, owned_stages_of, HaveOwnIds}
use Rattle.iom_driver.specs.Layout.{AreFixed, IsLevels}
use Rattle.iom_base.specs.DeviceIds.{id_limit}

-- a pair that is granted at a page: the page is one that tables of some size map, and the frame is of memory and isn't reserved
pub record IsGrant (owners : List (Option Owner)) (page frame : ℕ) : Type 0 where
  pub page_low : page < page_limit_of Sv48
  pub unreserved : slice_get owners frame ≡ Some None

-- what is held or lingers is so
pub record AreGrants (owners : List (Option Owner)) (ledger : Ledger) : Type 0 where
  pub held : (device page frame : ℕ) (rights : Rights) → held_in ledger device page ≡ Some (frame, rights) → IsGrant owners page frame
  pub lingering : (device page frame : ℕ) (rights : Rights) → lingering_in ledger device page ≡ Some (frame, rights) → IsGrant owners page frame

-- a device holds nothing while it isn't attached
abbrev pub HoldersAreAttached : Ledger → List Device → Type 0
HoldersAreAttached ledger devices = (id page : ℕ) → stages_of devices id ≡ None → held_in ledger id page ≡ None

-- the address-space numbers of attached, quarantined and leaving devices count from 1, there are no more than devices may be, and no two devices have the same
pub record HaveNumbers (devices : List Device) : Type 0 where
  pub small : (id : ℕ) (stage : Stages) → owned_stages_of devices id ≡ Some stage → (1 ≤ stage.number) × (stage.number ≤ 17)
  pub own : (one other : ℕ) (a b : Stages) → owned_stages_of devices one ≡ Some a → owned_stages_of devices other ≡ Some b → a.number ≡ b.number → one ≡ other

-- the directory can name each attached, quarantined or leaving device
abbrev pub AreNamed : List Device → ℕ → Type 0
AreNamed devices levels = (id : ℕ) (stage : Stages) → owned_stages_of devices id ≡ Some stage → id < id_limit levels

-- a device leaves under a ticket that was given and isn't confirmed
abbrev pub LeaveUnderTickets : List Device → ℕ → ℕ → Type 0
LeaveUnderTickets devices given confirmed =
    (id ticket : ℕ) (stage : Stages) → attachment_by_id devices id ≡ Leaving ticket stage → (confirmed < ticket) × (ticket ≤ given)

-- a device is quarantined under a ticket that was given
abbrev pub AreQuarantinedUnderTickets : List Device → ℕ → Type 0
AreQuarantinedUnderTickets devices given =
    (id ticket : ℕ) (stage : Stages) → attachment_by_id devices id ≡ Quarantined ticket stage → (0 < ticket) × (ticket ≤ given)

-- the tickets rise, from above the first number up to the last at most
abbrev pub RiseBetween : ℕ → ℕ → List ℕ → Type 0
RiseBetween first last [] = ⊤
RiseBetween first last (ticket ∷ tickets) = (first < ticket) × (ticket ≤ last) × RiseBetween ticket last tickets

-- The ledger's tickets that wait are some of those after the last that was confirmed, up to the last that was given: the ticket of a device that leaves
-- isn't in the ledger.
pub record AreTickets (ledger : Ledger) (given confirmed : ℕ) : Type 0 where
  pub pending : RiseBetween confirmed given (pending_in ledger)
  pub ordered : confirmed ≤ given

-- the last restart was after some of the tickets, and fences have numbers of 32 bits
pub record AreFences (given restarts restarted : ℕ) : Type 0 where
  pub earlier : restarted ≤ given
  pub numbered : given + restarts ≤ 4294967295

-- memory has so many frames, each of which has an owner or none, and the directory so many levels
pub record AreSizes (owners : List (Option Owner)) (frames levels : ℕ) : Type 0 where
  pub owned : length owners ≡ frames
  pub size : IsMemorySize frames
  pub in_range : IsLevels levels

pub record StateInvariant (ledger : Ledger) (owners : List (Option Owner)) (devices : List Device) (frames levels : ℕ) (started : Bool) (given confirmed restarts restarted : ℕ) : Type 0 where
  pub sizes : AreSizes owners frames levels
  pub fixed : AreFixed owners frames
  pub grants : AreGrants owners ledger
  pub holders : HoldersAreAttached ledger devices
  pub numbers : HaveNumbers devices
  pub named : AreNamed devices levels
  pub tickets : AreTickets ledger given confirmed
  pub fences : AreFences given restarts restarted
  pub leaving : LeaveUnderTickets devices given confirmed
  pub quarantined : AreQuarantinedUnderTickets devices given
  pub ids : HaveOwnIds devices
  pub few : length devices ≤ 16
  pub idle : started ≡ false → (id : ℕ) → attachment_by_id devices id ≡ Detached
