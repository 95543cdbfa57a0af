use Rattle.std.proofs.Common.{◌≡◌, ◌<◌, ◌+◌, ◌*◌, ◌∙◌, ℕ, true, sym, subst, arith}
use Rattle.std.proofs.lemmas.Bool.{false≢true}
use Rattle.iom_napot.specs.Entries.{entries_in}
use Rattle.iom_table_survey.specs.Levels.{PointsFrom, MapsFrom}
use Rattle.iom_table_survey.specs.Reaches.{AddsReach}
use Rattle.iom_table_survey.specs.Rows.{row_has, GrowsBy}
use Rattle.iom_table_survey.proofs.AddLemmas.{adds_none, adds_none_yet, adds_next, reach_none, reach_none_yet, reach_next}
use Rattle.iom_table_survey.proofs.tables.survey_word.Goals as goal

pub loop-bit-init : goal.loop-bit-init
loop-bit-init c = record {
  pointers = adds_none_yet c.args.next.now (λ k f. PointsFrom (entries_in c.args.napot c.args.memory.now c.args.below) (64 * c.args.word + k) f × (row_has c.args.level.now (64 * c.args.word + k) ≡ true));
  leaves = reach_none_yet c.args.reach.now (λ k kind f. MapsFrom (entries_in c.args.napot c.args.memory.now c.args.below) c.args.below kind (64 * c.args.word + k) f × (row_has c.args.level.now (64 * c.args.word + k) ≡ true));
}

pub loop-bit-preserved : goal.loop-bit-preserved
loop-bit-preserved c =
    let table : c.args.word * 64 + c.loop-bit.bit ≡ 64 * c.args.word + c.loop-bit.bit = omega arith in
    record {
      pointers = adds_next c.args.next.now c.loop-bit.next c.survey_marked.new.next (λ k f. PointsFrom (entries_in c.args.napot c.args.memory.now c.args.below) (64 * c.args.word + k) f × (row_has c.args.level.now (64 * c.args.word + k) ≡ true))
          c.loop-bit.bit c.loop-bit.invariant.pointers
          (subst (λ (t : ℕ). GrowsBy c.loop-bit.next c.survey_marked.new.next (λ f. PointsFrom (entries_in c.args.napot c.args.memory.now c.args.below) t f × (row_has c.args.level.now t ≡ true))) table c.survey_marked.ensures.pointers);
      leaves = reach_next c.args.reach.now c.loop-bit.reach c.survey_marked.new.reach (λ k kind f. MapsFrom (entries_in c.args.napot c.args.memory.now c.args.below) c.args.below kind (64 * c.args.word + k) f × (row_has c.args.level.now (64 * c.args.word + k) ≡ true))
          c.loop-bit.bit c.loop-bit.invariant.leaves
          (subst (λ (t : ℕ). AddsReach c.loop-bit.reach c.survey_marked.new.reach (λ kind f. MapsFrom (entries_in c.args.napot c.args.memory.now c.args.below) c.args.below kind t f × (row_has c.args.level.now t ≡ true))) table c.survey_marked.ensures.leaves);
    }

pub returns : goal.returns
returns c =
    let last : c.loop-bit.bit ≡ 64 = omega arith in
    record {
      pointers = subst (λ (n : ℕ). GrowsBy c.args.next.now c.loop-bit.next (λ f. (k : ℕ) × (k < n) × (PointsFrom (entries_in c.args.napot c.args.memory.now c.args.below) (64 * c.args.word + k) f × (row_has c.args.level.now (64 * c.args.word + k) ≡ true)))) last
          c.loop-bit.invariant.pointers;
      leaves = subst (λ (n : ℕ). AddsReach c.args.reach.now c.loop-bit.reach (λ kind f. (k : ℕ) × (k < n) × (MapsFrom (entries_in c.args.napot c.args.memory.now c.args.below) c.args.below kind (64 * c.args.word + k) f × (row_has c.args.level.now (64 * c.args.word + k) ≡ true)))) last
          c.loop-bit.invariant.leaves;
    }

pub returns-then-has_none_of : goal.returns-then-has_none_of
returns-then-has_none_of c =
    let none = c.has_none_of.ensures c.if-has_none_of.true in
    record {
      pointers = adds_none c.args.next.now (λ f. (k : ℕ) × (k < 64) × (PointsFrom (entries_in c.args.napot c.args.memory.now c.args.below) (64 * c.args.word + k) f × (row_has c.args.level.now (64 * c.args.word + k) ≡ true)))
          (λ f (k, low, (from, there)). false≢true (sym (none k low) ∙ there));
      leaves = reach_none c.args.reach.now (λ kind f. (k : ℕ) × (k < 64) × (MapsFrom (entries_in c.args.napot c.args.memory.now c.args.below) c.args.below kind (64 * c.args.word + k) f × (row_has c.args.level.now (64 * c.args.word + k) ≡ true)))
          (λ kind f (k, low, (from, there)). false≢true (sym (none k low) ∙ there));
    }
