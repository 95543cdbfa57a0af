-- What a script comes to is a run of one session from power-on: so what is proved of sessions holds of scripts.
use Rattle.std.specs.Prelude.{Bool, List}
use Rattle.iom_claims.specs.Claimed.{Claimed}
use Rattle.iom_hardware_runner.specs.Runs.{Comes, HasRun}
use Rattle.iom_hardware_runner.specs.declared.helper.Traffic.{Traffic}
use Rattle.iom_hardware_script.specs.declared.script.HardwareLine.{HardwareLine}
use Rattle.iom_hardware_script.specs.declared.script.Setup.{Setup}
use Rattle.iom_hardware_session.specs.declared.state.Session.{Session}

abbrev pub ScriptsAreRuns : Type 0
ScriptsAreRuns = (setup : Setup) (said : List HardwareLine) (session : Session) (claimed : Claimed) (traffic : List Traffic) (wrong : Bool) → Comes setup said session claimed traffic wrong
    → (ran : List HardwareLine) × HasRun setup ran session wrong
