use Rattle.std.proofs.Common.{◌*◌, ◌<◌, ℕ}
use Rattle.iom_table_survey.specs.Rows.{StandInBoth}
use Rattle.iom_table_survey.proofs.frame_row.FrameRow.first_common.Given as goal

-- none of the words below the index has one
abbrev pub invariant-loop-index : goal.invariant-loop-index
invariant-loop-index l = (f : ℕ) → f < 64 * l.index → ¬ StandInBoth l.self l.other f
