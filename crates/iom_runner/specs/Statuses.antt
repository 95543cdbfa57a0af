-- The statuses that the program ends with.
use Rattle.std.specs.Prelude.{ℕ, Result, Ok, Err}
use Rattle.iom_command_line.specs.declared.fault.ArgsFault.TheVariants as args_faults
use Rattle.iom_runner.specs.declared.faults.RunFault.TheVariants as run_faults
use Rattle.iom_runner.specs.declared.faults.ProgramFault.{ProgramFault}
use Rattle.iom_runner.specs.declared.faults.ProgramFault.TheVariants.{Args, Run}

-- 3 where the command line isn't lawful, 2 where the script isn't in the grammar, else 1
abbrev pub status_of : ProgramFault → ℕ
status_of (Args args_faults.Bad) = 3
status_of (Args args_faults.Memory) = 1
status_of (Run (run_faults.Script number)) = 2
status_of (Run run_faults.Reading) = 1
status_of (Run run_faults.Writing) = 1
status_of (Run run_faults.Memory) = 1

-- 0 where it ends well
abbrev pub status_at_end : Result (Unit {0}) ProgramFault → ℕ
status_at_end (Ok done) = 0
status_at_end (Err fault) = status_of fault
