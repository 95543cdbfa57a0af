use Rattle.std.proofs.Common.{ℕ, List}
use Rattle.std.specs.Io.KnownBytes.{Consumes}
use Rattle.iom_hardware_runner.specs.Parts.{HasArrived}
use Rattle.iom_hardware_runner.proofs.running.run_live.Given as goal

-- the bytes that were taken arrived
abbrev pub invariant-loop : goal.invariant-loop
invariant-loop g l = (taken : List ℕ) × Consumes (g.R.Read.remaining l.fn.reader) (g.R.Read.remaining l.reader) taken × HasArrived 65536 taken l.arriving.value
