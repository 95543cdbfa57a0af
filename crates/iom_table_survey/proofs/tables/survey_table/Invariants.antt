use Rattle.std.proofs.Common.{◌<◌, ℕ}
use Rattle.iom_napot.specs.Entries.{entries_in}
use Rattle.iom_stage_walk.specs.Entries.{slot}
use Rattle.iom_table_survey.specs.Levels.{PointsTo, MapsFrame}
use Rattle.iom_table_survey.specs.Reaches.{AddsReach}
use Rattle.iom_table_survey.specs.Rows.{GrowsBy}
use Rattle.iom_table_survey.proofs.tables.survey_table.Given as goal

-- the entries below the index are looked at
abbrev pub invariant-loop-index : goal.invariant-loop-index
invariant-loop-index l = record {
  pointers : GrowsBy l.fn.next l.next (λ f. (i : ℕ) × (i < l.index) × PointsTo (entries_in l.napot l.memory l.below (slot l.table i)) f);
  leaves : AddsReach l.fn.reach l.reach (λ kind f. (i : ℕ) × (i < l.index) × MapsFrame (entries_in l.napot l.memory l.below (slot l.table i)) l.below kind f);
}
