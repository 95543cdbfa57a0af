use Rattle.std.proofs.Common.{◌≡◌, ◌<◌, ℕ, length, slice_get, Some, subst, arith}
use Rattle.iom_fabric.specs.declared.fabric.OnLink.{OnLink}
use Rattle.iom_table_survey.specs.Reaches.{AddsReach}
use Rattle.iom_table_survey.proofs.AddLemmas.{reach_none_yet, reach_next}
use Rattle.iom_way_survey.specs.Found.{AnswersWith}
use Rattle.iom_way_survey.proofs.StepLemmas.{reach_there}
use Rattle.iom_way_survey.proofs.kept.survey_messages.Goals as goal

pub loop-place-init : goal.loop-place-init
loop-place-init c = reach_none_yet c.args.reach.now (λ k kind f. (on : OnLink) × (slice_get c.args.fabric.now k ≡ Some on) × AnswersWith c.args.id c.args.epoch on kind f)

pub loop-place-preserved : goal.loop-place-preserved
loop-place-preserved c =
    reach_next c.args.reach.now c.loop-place.reach c.survey_message.new.reach (λ k kind f. (on : OnLink) × (slice_get c.args.fabric.now k ≡ Some on) × AnswersWith c.args.id c.args.epoch on kind f)
    c.loop-place.place c.loop-place.invariant
    (reach_there c.args.fabric.now c.loop-place.place c.message_at-on.result c.message_at-on.ensures c.loop-place.reach c.survey_message.new.reach (λ on kind f. AnswersWith c.args.id c.args.epoch on kind f) c.survey_message.ensures)

pub returns : goal.returns
returns c =
    let last : c.loop-place.place ≡ length c.args.fabric.now = omega arith in
    subst (λ (n : ℕ). AddsReach c.args.reach.now c.loop-place.reach (λ kind f. (k : ℕ) × (k < n) × ((on : OnLink) × (slice_get c.args.fabric.now k ≡ Some on) × AnswersWith c.args.id c.args.epoch on kind f))) last c.loop-place.invariant
