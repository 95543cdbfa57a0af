use Rattle.std.proofs.Common.{◌≡◌, ◌<◌, ℕ, slice_get, Some}
use Rattle.iom_fabric.specs.declared.fabric.OnLink.{OnLink}
use Rattle.iom_table_survey.specs.Reaches.{AddsReach}
use Rattle.iom_way_survey.specs.Found.{AnswersWith}
use Rattle.iom_way_survey.proofs.kept.survey_messages.Given as goal

-- the messages before this one are looked at
abbrev pub invariant-loop-place : goal.invariant-loop-place
invariant-loop-place l = AddsReach l.fn.reach l.reach (λ kind f. (k : ℕ) × (k < l.place) × ((on : OnLink) × (slice_get l.fabric k ≡ Some on) × AnswersWith l.id l.epoch on kind f))
