use Rattle.std.proofs.Common.{◌<◌, ℕ}
use Rattle.iom_way_survey.specs.Found.{IsCachedIn}
use Rattle.iom_way_survey.proofs.StepLemmas.{Between, StandsServing}
use Rattle.iom_way_survey.proofs.spaces.survey_translations.Given as goal

-- what stands at the places before this one is in, and nothing that isn't cached
abbrev pub invariant-loop-place : goal.invariant-loop-place
invariant-loop-place l = Between l.fn.reach l.reach (λ kind f. (k : ℕ) × (k < l.place) × StandsServing l.cache l.space k kind f) (IsCachedIn l.cache l.space)
