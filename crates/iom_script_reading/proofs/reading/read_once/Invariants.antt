use Rattle.std.specs.Io.KnownBytes.{Keeps}
use Rattle.iom_script_reading.proofs.reading.read_once.Given as goal

-- nothing is read yet
abbrev pub invariant-loop : goal.invariant-loop
invariant-loop g l = Keeps (g.R.Read.remaining l.fn.reader) (g.R.Read.remaining l.reader)
