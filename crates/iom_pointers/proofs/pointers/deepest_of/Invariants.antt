use Rattle.iom_pointers.proofs.DeepestLemmas.{IsDeepestAmong}
use Rattle.iom_pointers.proofs.pointers.deepest_of.Given as goal

-- what was found is the lowest of those that were looked at
abbrev pub invariant-loop-place : goal.invariant-loop-place
invariant-loop-place l = IsDeepestAmong l.kept l.space l.page l.place l.deepest
