use Rattle.std.proofs.Common.{◌≡◌, ◌<◌, ◌+◌, ◌*◌, ℕ, true}
use Rattle.iom_napot.specs.Entries.{entries_in}
use Rattle.iom_table_survey.specs.Levels.{PointsFrom, MapsFrom}
use Rattle.iom_table_survey.specs.Reaches.{AddsReach}
use Rattle.iom_table_survey.specs.Rows.{row_has, GrowsBy}
use Rattle.iom_table_survey.proofs.tables.survey_word.Given as goal

-- the frames of the bits below this one are looked at
abbrev pub invariant-loop-bit : goal.invariant-loop-bit
invariant-loop-bit l = record {
  pointers : GrowsBy l.fn.next l.next (λ f. (k : ℕ) × (k < l.bit) × (PointsFrom (entries_in l.napot l.memory l.below) (64 * l.word + k) f × (row_has l.level (64 * l.word + k) ≡ true)));
  leaves : AddsReach l.fn.reach l.reach (λ kind f. (k : ℕ) × (k < l.bit) × (MapsFrom (entries_in l.napot l.memory l.below) l.below kind (64 * l.word + k) f × (row_has l.level (64 * l.word + k) ≡ true)));
}
