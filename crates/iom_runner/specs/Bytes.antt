-- What a fault says of the bytes that were to be a script.
-- For the calls inside this crate alone; no public contract cites these.
use Rattle.std.specs.Prelude.{ℕ, List, ⊤}
use Rattle.iom_runner.specs.declared.faults.RunFault.{RunFault}
use Rattle.iom_runner.specs.declared.faults.RunFault.TheVariants.{Reading, Writing, Memory, Script}
use Rattle.iom_script.specs.declared.parser.ScriptFault.{ScriptFault}
use Rattle.iom_script.specs.declared.parser.ScriptFault.TheVariants as script_faults
use Rattle.iom_script.specs.BadLines.{IsFirstBadLine}

-- the bytes weren't parsed: for want of memory, or since this line is the first that isn't in the grammar
abbrev pub ExplainsUnparsed : List ℕ → RunFault → Type 0
ExplainsUnparsed bytes (Script number) = IsFirstBadLine bytes number
ExplainsUnparsed bytes Memory = ⊤
ExplainsUnparsed bytes Reading = ⊥
ExplainsUnparsed bytes Writing = ⊥

-- the fault of a run whose script has this fault
abbrev pub run_fault_of : ScriptFault → RunFault
run_fault_of (script_faults.Line number) = Script number
run_fault_of script_faults.Memory = Memory
