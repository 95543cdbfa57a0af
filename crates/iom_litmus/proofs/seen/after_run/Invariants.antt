use Rattle.std.proofs.Common.{◌≡◌, drop}
use Rattle.iom_litmus.specs.Seen.{after_run}
use Rattle.iom_litmus.proofs.seen.after_run.Given as goal

abbrev pub invariant-loop-place : goal.invariant-loop-place
invariant-loop-place l = after_run l.spot l.happened ≡ after_run l.spot (drop l.place l.happened)
