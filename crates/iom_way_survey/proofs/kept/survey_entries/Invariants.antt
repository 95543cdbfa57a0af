use Rattle.std.proofs.Common.{◌≡◌, ◌<◌, ℕ, true, slice_get, Some}
use Rattle.iom_ats_cache.specs.declared.entry.Entry.{Entry}
use Rattle.iom_base.specs.Rights.{allows}
use Rattle.iom_table_survey.specs.Reaches.{AddsReach}
use Rattle.iom_way_survey.proofs.kept.survey_entries.Given as goal

-- the entries before this one are looked at
abbrev pub invariant-loop-place : goal.invariant-loop-place
invariant-loop-place l = AddsReach l.fn.reach l.reach (λ kind f. (k : ℕ) × (k < l.place) × ((entry : Entry) × (slice_get l.entries k ≡ Some entry) × ((entry.frame ≡ f) × (allows entry.rights kind ≡ true))))
