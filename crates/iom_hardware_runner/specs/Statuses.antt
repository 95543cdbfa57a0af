-- The exit status of the program.
use Rattle.std.specs.Prelude.{ℕ, Bool, true, false, Result, Ok, Err}
use Rattle.iom_hardware_runner.specs.declared.faults.RunFault.{RunFault}
use Rattle.iom_hardware_runner.specs.declared.faults.RunFault.TheVariants.{BadScript, Reading, Writing, Memory, TooManyEvents}

-- of a run that ended so: whether anything was wrong, or why it ended before
abbrev pub status_of : Result Bool RunFault → ℕ
status_of (Ok false) = 0
status_of (Ok true) = 1
status_of (Err (BadScript line)) = 2
status_of (Err Reading) = 4
status_of (Err Writing) = 4
status_of (Err Memory) = 4
status_of (Err TooManyEvents) = 4
