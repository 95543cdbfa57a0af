use Rattle.std.proofs.Common.{◌≡◌, ◌<◌, ℕ, true, length, slice_get, Some, subst, arith}
use Rattle.iom_ats_cache.specs.declared.entry.Entry.{Entry}
use Rattle.iom_base.specs.Rights.{allows}
use Rattle.iom_table_survey.specs.Reaches.{AddsReach}
use Rattle.iom_table_survey.proofs.AddLemmas.{reach_none_yet, reach_next}
use Rattle.iom_way_survey.proofs.StepLemmas.{reach_there}
use Rattle.iom_way_survey.proofs.kept.survey_entries.Goals as goal

pub loop-place-init : goal.loop-place-init
loop-place-init c = reach_none_yet c.args.reach.now (λ k kind f. (entry : Entry) × (slice_get c.args.entries.now k ≡ Some entry) × ((entry.frame ≡ f) × (allows entry.rights kind ≡ true)))

pub loop-place-preserved : goal.loop-place-preserved
loop-place-preserved c =
    reach_next c.args.reach.now c.loop-place.reach c.insert.new.self (λ k kind f. (entry : Entry) × (slice_get c.args.entries.now k ≡ Some entry) × ((entry.frame ≡ f) × (allows entry.rights kind ≡ true)))
    c.loop-place.place c.loop-place.invariant
    (reach_there c.args.entries.now c.loop-place.place c.entry_at-entry.result c.entry_at-entry.ensures c.loop-place.reach c.insert.new.self (λ entry kind f. (entry.frame ≡ f) × (allows entry.rights kind ≡ true)) c.insert.ensures)

pub returns : goal.returns
returns c =
    let last : c.loop-place.place ≡ length c.args.entries.now = omega arith in
    subst (λ (n : ℕ). AddsReach c.args.reach.now c.loop-place.reach (λ kind f. (k : ℕ) × (k < n) × ((entry : Entry) × (slice_get c.args.entries.now k ≡ Some entry) × ((entry.frame ≡ f) × (allows entry.rights kind ≡ true))))) last c.loop-place.invariant
