-- How a test begins: hardware at power-on, and lines that happen on it.
use Rattle.std.specs.Prelude.{◌≡◌, ℕ, Bool, List}
use Rattle.iom_hardware_runner.specs.Runs.{HasRun}
use Rattle.iom_hardware_script.specs.declared.script.HardwareLine.{HardwareLine}
use Rattle.iom_hardware_script.specs.declared.script.Pace.TheVariants.{Whole}
use Rattle.iom_hardware_script.specs.declared.script.Setup.{Setup}
use Rattle.iom_hardware_session.specs.Runs.{IsSessionAtPowerOn}
use Rattle.iom_hardware_session.specs.declared.state.Session.{Session}
use Rattle.iom_litmus_hardware.specs.declared.opening.Opening.{Opening}
use Rattle.iom_litmus_hardware.specs.Places.{Tested, place_of, AreListed}

-- from power-on the session goes through the lines
abbrev pub GoesThrough : Session → List HardwareLine → Session → Type 0
GoesThrough old lines new = (setup : Setup) → IsSessionAtPowerOn setup old → (wrong : Bool) × HasRun setup lines new wrong

-- hardware with so many frames of memory, whose walks are one event each
abbrev pub whole : ℕ → Setup
whole frames = record { frames = frames; pace = Whole }

-- the session has gone through the lines of the opening, from power-on with so many frames
abbrev pub HasOpened : Opening → Session → Type 0
HasOpened opening session = (wrong : Bool) × HasRun (whole opening.frames) opening.lines session wrong

abbrev pub Opens : Opening → Tested → Type 0
Opens opening tested = (session : Session) × HasOpened opening session × (tested.place ≡ place_of session) × AreListed tested
