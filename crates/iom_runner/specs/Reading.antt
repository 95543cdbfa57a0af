-- How a script that can't be read is told. `IsReadFault` serves private contracts alone.
use Rattle.std.specs.Prelude.{◌≡◌, ℕ, ◌⊎◌, List, Option, Result, IfErr}
use Rattle.iom_script_reading.specs.Reading.{ConsumesAtMost}
use Rattle.iom_script_reading.specs.declared.reading.ReadFault.{ReadFault}
use Rattle.iom_script_reading.specs.declared.reading.ReadFault.TheVariants as read_faults
use Rattle.iom_runner.specs.declared.faults.RunFault.{RunFault}
use Rattle.iom_runner.specs.declared.faults.RunFault.TheVariants.{Reading, Memory}

-- the reader failed, or memory
abbrev pub IsReadFault : RunFault → Type 0
IsReadFault fault = (fault ≡ Reading) ⊎ (fault ≡ Memory)

-- the fault of a run that is the fault of the reading
abbrev pub read_fault_of : ReadFault → RunFault
read_fault_of read_faults.Reading = Reading
read_fault_of read_faults.Memory = Memory

-- where reading failed, the reader had lost this many bytes at most
abbrev pub FailsWithin : {T : Type 0} → ℕ → Option (List ℕ) → Option (List ℕ) → Result T RunFault → Type 0
FailsWithin most old new result = IfErr result (λ fault. fault ≡ Reading → ConsumesAtMost most old new)
