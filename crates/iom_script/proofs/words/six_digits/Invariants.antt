use Rattle.iom_script.proofs.SixLemmas.{IsSum}
use Rattle.iom_script.proofs.words.six_digits.Given as goal

-- the bytes so far are added up
abbrev pub invariant-loop-digit : goal.invariant-loop-digit
invariant-loop-digit l = IsSum l.text l.digit-index l.number
