use Rattle.std.proofs.Common.{◌≤◌, ◌<◌, min}
use Rattle.iom_table_survey.specs.Rows.{GrowsBy}
use Rattle.iom_table_survey.proofs.frame_row.FrameRow.insert_run.Given as goal

-- those before the place are in
abbrev pub invariant-loop-place : goal.invariant-loop-place
invariant-loop-place l = GrowsBy l.fn.self l.self (λ f. (min l.first 4096 ≤ f) × (f < l.place))
