-- When two drivers are equal: how much room their lists have is no matter.
use Rattle.std.specs.Prelude.{◌≡◌}
use Rattle.iom_ledger.specs.Same.{IsSameLedger}
use Rattle.iom_driver.specs.declared.driver.Driver.{Driver}

-- the numbers that the two keep are equal, and both are started or neither is
pub record HasSameNumbers (one other : Driver) : Type 0 where
  pub frames : one.frames ≡ other.frames
  pub levels : one.levels ≡ other.levels
  pub started : one.started ≡ other.started
  pub given : one.given ≡ other.given
  pub confirmed : one.confirmed ≡ other.confirmed
  pub restarts : one.restarts ≡ other.restarts
  pub restarted : one.restarted ≡ other.restarted

-- all that the two keep is equal
pub record IsSameDriver (one other : Driver) : Type 0 where
  pub ledger : IsSameLedger one.ledger other.ledger
  pub owners : one.owners ≡ other.owners
  pub devices : one.devices.items ≡ other.devices.items
  pub numbers : HasSameNumbers one other
