use Rattle.std.proofs.Common.{◌≡◌, ◌++◌, take}
use Rattle.iom_litmus.proofs.reply.append.Given as goal

abbrev pub invariant-loop-touch : goal.invariant-loop-touch
invariant-loop-touch l = l.touches ≡ l.initial.touches ++ take l.touch-index l.later
