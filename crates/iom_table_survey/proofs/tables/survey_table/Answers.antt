use Rattle.std.proofs.Common.{◌≡◌, ◌<◌, ℕ, subst, arith}
use Rattle.iom_napot.specs.Entries.{entries_in}
use Rattle.iom_stage_walk.specs.Entries.{slot}
use Rattle.iom_stage_walk.specs.declared.entry.Entry.{Entry}
use Rattle.iom_table_survey.specs.Levels.{PointsTo, MapsFrame}
use Rattle.iom_table_survey.specs.Reaches.{AddsReach}
use Rattle.iom_table_survey.specs.Rows.{GrowsBy}
use Rattle.iom_table_survey.proofs.AddLemmas.{adds_none_yet, adds_next, reach_none_yet, reach_next}
use Rattle.iom_table_survey.proofs.tables.survey_table.Goals as goal

pub loop-index-init : goal.loop-index-init
loop-index-init c = record {
  pointers = adds_none_yet c.args.next.now (λ i f. PointsTo (entries_in c.args.napot c.args.memory.now c.args.below (slot c.args.table i)) f);
  leaves = reach_none_yet c.args.reach.now (λ i kind f. MapsFrame (entries_in c.args.napot c.args.memory.now c.args.below (slot c.args.table i)) c.args.below kind f);
}

pub loop-index-preserved : goal.loop-index-preserved
loop-index-preserved c =
    let entry = c.entry_in-entry.ensures.entry in
    record {
      pointers = adds_next c.args.next.now c.loop-index.next c.survey_pointer.new.next (λ i f. PointsTo (entries_in c.args.napot c.args.memory.now c.args.below (slot c.args.table i)) f) c.loop-index.index c.loop-index.invariant.pointers
          (subst (λ (e : Entry). GrowsBy c.loop-index.next c.survey_pointer.new.next (PointsTo e)) entry c.survey_pointer.ensures);
      leaves = reach_next c.args.reach.now c.loop-index.reach c.survey_leaf.new.reach (λ i kind f. MapsFrame (entries_in c.args.napot c.args.memory.now c.args.below (slot c.args.table i)) c.args.below kind f) c.loop-index.index
          c.loop-index.invariant.leaves (subst (λ (e : Entry). AddsReach c.loop-index.reach c.survey_leaf.new.reach (MapsFrame e c.args.below)) entry c.survey_leaf.ensures);
    }

pub returns : goal.returns
returns c =
    let last : c.loop-index.index ≡ 512 = omega arith in
    record {
      pointers = subst (λ (n : ℕ). GrowsBy c.args.next.now c.loop-index.next (λ f. (i : ℕ) × (i < n) × PointsTo (entries_in c.args.napot c.args.memory.now c.args.below (slot c.args.table i)) f)) last c.loop-index.invariant.pointers;
      leaves = subst (λ (n : ℕ). AddsReach c.args.reach.now c.loop-index.reach (λ kind f. (i : ℕ) × (i < n) × MapsFrame (entries_in c.args.napot c.args.memory.now c.args.below (slot c.args.table i)) c.args.below kind f)) last
          c.loop-index.invariant.leaves;
    }
