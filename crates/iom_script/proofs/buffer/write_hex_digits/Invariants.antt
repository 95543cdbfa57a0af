use Rattle.iom_script.proofs.HexNumberLemmas.{LeftOf}
use Rattle.iom_script.proofs.buffer.write_hex_digits.Given as goal

-- what is left of the number goes before the digits that are written
abbrev pub invariant-loop-rest : goal.invariant-loop-rest
invariant-loop-rest l = LeftOf l.number l.rest l.start l.places

abbrev pub decreases-loop-rest : goal.decreases-loop-rest
decreases-loop-rest l = l.rest
