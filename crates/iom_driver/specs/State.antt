-- What a driver knows, as its contracts speak of it.
use Rattle.std.specs.Prelude.{ℕ, Bool, List, Option}
use Rattle.iom_base.specs.declared.owner.Owner.{Owner}
use Rattle.iom_ledger.specs.declared.ledger.Ledger.{Ledger}
use Rattle.iom_driver.specs.declared.device.Device.{Device}

-- what is held and what lingers; whose each frame is; the devices in the order of plugging; the levels of the device directory; whether it was started;
-- the last ticket that was given, and that was confirmed; how many numbers of fences no ticket took: those below the first, and one for each restart; and
-- the last ticket that was given when it restarted last
pub record DriverState : Type 0 where
  pub ledger : Ledger
  pub owners : List (Option Owner)
  pub devices : List Device
  pub levels : ℕ
  pub started : Bool
  pub given : ℕ
  pub confirmed : ℕ
  pub restarts : ℕ
  pub restarted : ℕ
