use Rattle.std.proofs.Common.{◌<◌, ℕ}
use Rattle.iom_napot.specs.Entries.{entries_in}
use Rattle.iom_table_survey.specs.Reaches.{AddsReach}
use Rattle.iom_table_survey.specs.Rows.{IsOf}
use Rattle.iom_table_survey.proofs.LevelLemmas.{PointsOfWord, MapsOfWord}
use Rattle.iom_table_survey.proofs.tables.survey_level.Given as goal

-- the frames of the words below this one are looked at
abbrev pub invariant-loop-word : goal.invariant-loop-word
invariant-loop-word l = record {
  pointers : IsOf l.next (λ f. (w : ℕ) × (w < l.word) × PointsOfWord (entries_in l.napot l.memory l.below) l.level w f);
  leaves : AddsReach l.fn.reach l.reach (λ kind f. (w : ℕ) × (w < l.word) × MapsOfWord (entries_in l.napot l.memory l.below) l.level l.below w kind f);
}
