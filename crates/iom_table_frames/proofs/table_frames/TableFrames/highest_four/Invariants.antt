use Rattle.std.proofs.Common.{◌≡◌, ◌*◌, ◌≤◌, ℕ}
use Rattle.iom_table_frames.specs.Fours.{NoFourAreFree}
use Rattle.iom_table_frames.proofs.table_frames.TableFrames.highest_four.Given as goal

-- no four are free from here on
abbrev pub invariant-loop-frame : goal.invariant-loop-frame
invariant-loop-frame l = record {
  aligned : (n : ℕ) × (l.below ≡ 4 * n);
  within : l.below ≤ l.limit;
  above : NoFourAreFree l.self l.ledger l.below l.limit;
}

abbrev pub decreases-loop-frame : goal.decreases-loop-frame
decreases-loop-frame l = l.below
