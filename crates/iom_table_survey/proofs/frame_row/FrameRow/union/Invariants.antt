use Rattle.std.proofs.Common.{◌≡◌, ◌<◌, ◌≤◌, ℕ, length, get_or}
use Rattle.std.specs.Int.RustNames.{bit_or}
use Rattle.iom_table_survey.proofs.frame_row.FrameRow.union.Given as goal

-- the words below the index have both's bits, and the others are as they were
abbrev pub invariant-loop-index : goal.invariant-loop-index
invariant-loop-index l = record {
  long : length l.self-inside.words ≡ 65;
  done : (k : ℕ) → k < l.index → get_or l.self-inside.words k 0 ≡ bit_or (get_or l.initial.self-inside.words k 0) (get_or l.other-inside.words k 0);
  left : (k : ℕ) → l.index ≤ k → get_or l.self-inside.words k 0 ≡ get_or l.initial.self-inside.words k 0;
}
