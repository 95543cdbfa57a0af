use Rattle.std.proofs.Common.{◌≡◌, ◌<◌, ℕ, subst, arith}
use Rattle.iom_napot.specs.Entries.{entries_in}
use Rattle.iom_table_survey.specs.Reaches.{AddsReach}
use Rattle.iom_table_survey.specs.Rows.{IsOf}
use Rattle.iom_table_survey.proofs.AddLemmas.{of_none_yet, of_next, reach_none_yet, reach_next}
use Rattle.iom_table_survey.proofs.LevelLemmas.{PointsOfWord, MapsOfWord, all_words, all_words_mapped}
use Rattle.iom_table_survey.proofs.tables.survey_level.Goals as goal

pub loop-word-init : goal.loop-word-init
loop-word-init c = record {
  pointers = of_none_yet c.new-next.result (PointsOfWord (entries_in c.args.napot c.args.memory.now c.args.below) c.args.level.now) c.new-next.ensures;
  leaves = reach_none_yet c.args.reach.now (MapsOfWord (entries_in c.args.napot c.args.memory.now c.args.below) c.args.level.now c.args.below);
}

pub loop-word-preserved : goal.loop-word-preserved
loop-word-preserved c = record {
  pointers = of_next c.loop-word.next c.survey_word.new.next (PointsOfWord (entries_in c.args.napot c.args.memory.now c.args.below) c.args.level.now) c.loop-word.word c.loop-word.invariant.pointers c.survey_word.ensures.pointers;
  leaves = reach_next c.args.reach.now c.loop-word.reach c.survey_word.new.reach (MapsOfWord (entries_in c.args.napot c.args.memory.now c.args.below) c.args.level.now c.args.below) c.loop-word.word c.loop-word.invariant.leaves
      c.survey_word.ensures.leaves;
}

pub returns : goal.returns
returns c =
    let last : c.loop-word.word ≡ 64 = omega arith in
    record {
      pointers = all_words c.args.napot c.args.memory.now c.requires.size c.args.below c.args.level.now c.loop-word.next
          (subst (λ (n : ℕ). IsOf c.loop-word.next (λ f. (w : ℕ) × (w < n) × PointsOfWord (entries_in c.args.napot c.args.memory.now c.args.below) c.args.level.now w f)) last c.loop-word.invariant.pointers);
      leaves = all_words_mapped c.args.napot c.args.memory.now c.requires.size c.args.level.now c.args.below c.args.reach.now c.loop-word.reach
          (subst (λ (n : ℕ). AddsReach c.args.reach.now c.loop-word.reach (λ kind f. (w : ℕ) × (w < n) × MapsOfWord (entries_in c.args.napot c.args.memory.now c.args.below) c.args.level.now c.args.below w kind f)) last c.loop-word.invariant.leaves);
    }
