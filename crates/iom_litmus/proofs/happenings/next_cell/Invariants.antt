use Rattle.std.proofs.Common.{◌≡◌, drop}
use Rattle.iom_litmus.specs.Happenings.{first_from}
use Rattle.iom_litmus.proofs.happenings.next_cell.Given as goal

abbrev pub invariant-loop-place : goal.invariant-loop-place
invariant-loop-place l = first_from l.happened l.column 0 l.cells ≡ first_from l.happened l.column l.place (drop l.place l.cells)
