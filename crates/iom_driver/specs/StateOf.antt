-- A driver as its contracts speak of it.
use Rattle.iom_driver.specs.declared.driver.Driver.{Driver}
use Rattle.iom_driver.specs.State.{DriverState}

abbrev pub state_of : Driver → DriverState
state_of driver = record {
  ledger = driver.ledger;
  owners = driver.owners;
  devices = driver.devices.items;
  levels = driver.levels;
  started = driver.started;
  given = driver.given;
  confirmed = driver.confirmed;
  restarts = driver.restarts;
  restarted = driver.restarted;
}
