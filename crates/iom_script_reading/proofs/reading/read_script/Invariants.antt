use Rattle.std.proofs.Common.{◌≤◌, ◌-◌, length}
use Rattle.std.specs.Io.KnownBytes.{Consumes}
use Rattle.iom_script_reading.proofs.reading.read_script.Given as goal

-- the bytes so far are those that were taken
abbrev pub invariant-loop-chunk : goal.invariant-loop-chunk
invariant-loop-chunk g l =
    record {
      taken : Consumes (g.R.Read.remaining l.fn.reader) (g.R.Read.remaining l.reader) l.bytes.items;
      few : length l.bytes.items ≤ 1048577;
    }

abbrev pub decreases-loop-chunk : goal.decreases-loop-chunk
decreases-loop-chunk g l = 1048577 - length l.bytes.items
