-- What a world shows of the ledger machine's state.
use Rattle.std.specs.Prelude.{◌≡◌, ℕ, ◌<◌, ◌≤◌, true, false}
use Rattle.iom_ledger.specs.History.{confirms}
use Rattle.iom_ledger.specs.Shown.{Agrees}
use Rattle.iom_machine.specs.declared.state.State.{State}
use Rattle.iom_machine.specs.PowerOn.{model_limits}
use Rattle.iom_machine.specs.Tickets.{last_confirmed}
use Rattle.iom_world_effects.specs.Devices.{shown_devices}
use Rattle.iom_world_effects.specs.Frames.{ShowsFrames}
use Rattle.iom_iommu.specs.Parts.{flights_of}
use Rattle.iom_world_effects.specs.Parts.{Parts}

-- the driver's ledger agrees with the history; the same frames are reserved, for the same owners, and all others have the same bytes; the devices are the
-- same, with what they have in flight; the last tickets given and confirmed are the same, all up to that are confirmed and none after it; and the directory has as many
-- levels; and the state's limits are the model's
pub record PartsShow (parts : Parts) (state : State) : Type 0 where
  pub ledger : Agrees parts.driver.ledger state.history
  pub frames : ShowsFrames parts.memory parts.driver.owners state.frames
  pub devices : state.devices ≡ shown_devices parts.driver.devices (flights_of parts.iommu).rows parts.devices
  pub given : state.last_ticket ≡ parts.driver.given
  pub confirmed : last_confirmed state.history ≡ parts.driver.confirmed
  pub all_earlier : (ticket : ℕ) → 0 < ticket → ticket ≤ parts.driver.confirmed → confirms state.history ticket ≡ true
  pub none_later : (ticket : ℕ) → parts.driver.confirmed < ticket → confirms state.history ticket ≡ false
  pub levels : state.levels ≡ parts.driver.levels
  pub limits : state.limits ≡ model_limits
