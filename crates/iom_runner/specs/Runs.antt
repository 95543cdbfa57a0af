-- What becomes of the bytes of a script: how running them ends, and what is written.
use Rattle.std.specs.Prelude.{◌≡◌, ◌≢◌, ℕ, List, Option, None, Result, Ok, Err, IfSome}
use Rattle.std.specs.Io.KnownBytes.{Keeps}
use Rattle.iom_script.specs.declared.script.Script.{Script}
use Rattle.iom_script.specs.Grammar.{IsScript}
use Rattle.iom_script.specs.BadLines.{IsFirstBadLine}
use Rattle.iom_command_line.specs.declared.fault.ArgsFault.TheVariants as args_faults
use Rattle.iom_runner.specs.declared.faults.RunFault.{RunFault}
use Rattle.iom_runner.specs.declared.faults.RunFault.TheVariants.{Reading, Writing, Memory, Script as BadLine}
use Rattle.iom_runner.specs.declared.faults.ProgramFault.{ProgramFault}
use Rattle.iom_runner.specs.declared.faults.ProgramFault.TheVariants.{Args, Run}
use Rattle.iom_runner.specs.Text.{Setting, WritesLines}
use Rattle.iom_runner.specs.WorldText.{WritesText, BeginsText, BeginsTextSoFar}

-- Telling a script ends so. Where it ends well, its text is written, told of a run that a world goes along. Where writing fails, what was written is a
-- beginning of that, and one, but not all, of the text of its first lines. Where memory fails, nothing is written, and the script says something.
abbrev pub TellsScript : Setting → Script → Result (Unit {0}) RunFault → Option (List ℕ) → Option (List ℕ) → Type 0
TellsScript setting script (Ok done) old new = WritesText setting script old new
TellsScript setting script (Err Writing) old new = BeginsText setting script old new × BeginsTextSoFar setting script old new
TellsScript setting script (Err Memory) old new = (script.world ≢ None) × Keeps old new
TellsScript setting script (Err Reading) old new = ⊥
TellsScript setting script (Err (BadLine number)) old new = ⊥

-- Running bytes ends so. Bytes that are a script are told as one: what is written is the text of a run of the ledger machine, and of one that a world
-- goes along. Of others nothing is written, and their first bad line is named. Where reading fails, or
-- memory, nothing is written.
abbrev pub RunsBytes : Setting → List ℕ → Result (Unit {0}) RunFault → Option (List ℕ) → Option (List ℕ) → Type 0
RunsBytes setting input (Ok done) old new =
    (script : Script) × IsScript input script × WritesLines setting script old new × WritesText setting script old new
RunsBytes setting input (Err Writing) old new =
    (script : Script) × IsScript input script × BeginsText setting script old new × BeginsTextSoFar setting script old new
RunsBytes setting input (Err (BadLine number)) old new = IsFirstBadLine input number × Keeps old new
RunsBytes setting input (Err Reading) old new = Keeps old new
RunsBytes setting input (Err Memory) old new = Keeps old new

-- The program over a lawful command line ends as running the bytes does, or for want of memory before anything is read.
abbrev pub RunsProgram : Setting → List ℕ → Result (Unit {0}) ProgramFault → Option (List ℕ) → Option (List ℕ) → Type 0
RunsProgram setting input (Ok done) old new = RunsBytes setting input (Ok done) old new
RunsProgram setting input (Err (Run fault)) old new = RunsBytes setting input (Err fault) old new
RunsProgram setting input (Err (Args args_faults.Memory)) old new = Keeps old new
RunsProgram setting input (Err (Args args_faults.Bad)) old new = ⊥

-- the bytes are those that are left to be read, where these are known
abbrev pub AreLeft : List ℕ → Option (List ℕ) → Type 0
AreLeft input remaining = IfSome remaining (λ known. input ≡ known)
