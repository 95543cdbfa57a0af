use Rattle.std.proofs.Common.{◌≡◌, ◌-◌, ◌∙◌, false, refl, arith}
use Rattle.iom_stage_walk.specs.declared.entry.Entry.TheVariants.{Leaf, Pointer}
use Rattle.iom_stepped_walk.specs.declared.hand.TableInHand.{TableInHand}
use Rattle.iom_way_survey.proofs.HandLemmas.{entry_is, frame_is, leaf_leads, leaf_reads, lowest_stops, none_stops, number_of, pointer_leads, pointer_reads}
use Rattle.iom_way_survey.proofs.walking.+survey_hand.Goals as goal

pub returns-in-Leaf : goal.returns-in-Leaf
returns-in-Leaf t c =
    let memory = c.args.memory.now in
    let hand = c.args.hand in
    let first = frame_is memory hand c.args.tables.now c.insert.new.self c.number.result c.from.result c.number.ensures.value (c.from.ensures ∙ c.index_in-index.ensures.value) c.insert.ensures in
    let is = entry_is memory hand (Leaf c.in-Leaf.base c.in-Leaf.rights) c.number-2.result c.index_in-index.result c.number-2.ensures.value c.index_in-index.ensures.value c.in-Leaf.ensures.value in
    record {
      tables = leaf_reads memory hand c.args.tables.now c.insert.new.self c.in-Leaf.base c.in-Leaf.rights is first;
      leaves = leaf_leads memory hand c.args.reach.now c.survey_leaf.new.reach c.in-Leaf.base c.in-Leaf.rights c.requires is c.survey_leaf.ensures;
    }

pub returns-then-hand-gt0 : goal.returns-then-hand-gt0
returns-then-hand-gt0 t c =
    let memory = c.args.memory.now in
    let hand = c.args.hand in
    let first = frame_is memory hand c.args.tables.now c.insert.new.self c.number.result c.from.result c.number.ensures.value (c.from.ensures ∙ c.index_in-index.ensures.value) c.insert.ensures in
    let is = entry_is memory hand (Pointer c.in-Pointer.next) c.number-2.result c.index_in-index.result c.number-2.ensures.value c.index_in-index.ensures.value c.in-Pointer.ensures.value in
    let named = number_of c.new.result c.in-Pointer.next c.unwrap.result c.new.ensures.value c.unwrap.ensures in
    let below : TableInHand = record { table = c.unwrap.result; level = hand.level - 1; is_wide = false; page = hand.page } in
    record {
      tables = pointer_reads memory hand c.in-Pointer.next is below named refl refl refl c.if-hand-gt0.true c.args.tables.now c.insert.new.self c.survey_hand.new.tables first c.survey_hand.ensures.tables;
      leaves = pointer_leads memory hand c.in-Pointer.next is below named refl refl refl c.if-hand-gt0.true c.args.reach.now c.survey_hand.new.reach c.survey_hand.ensures.leaves;
    }

pub returns-else-hand-gt0 : goal.returns-else-hand-gt0
returns-else-hand-gt0 t c =
    let memory = c.args.memory.now in
    let hand = c.args.hand in
    let first = frame_is memory hand c.args.tables.now c.insert.new.self c.number.result c.from.result c.number.ensures.value (c.from.ensures ∙ c.index_in-index.ensures.value) c.insert.ensures in
    let is = entry_is memory hand (Pointer c.in-Pointer.next) c.number-2.result c.index_in-index.result c.number-2.ensures.value c.index_in-index.ensures.value c.in-Pointer.ensures.value in
    let lowest : hand.level ≡ 0 = omega arith in
    let both = lowest_stops memory hand c.in-Pointer.next is lowest c.args.tables.now c.insert.new.self c.args.reach.now first in
    record { tables = both.0; leaves = both.1 }

pub returns-in-Invalid : goal.returns-in-Invalid
returns-in-Invalid t c =
    let memory = c.args.memory.now in
    let hand = c.args.hand in
    let first = frame_is memory hand c.args.tables.now c.insert.new.self c.number.result c.from.result c.number.ensures.value (c.from.ensures ∙ c.index_in-index.ensures.value) c.insert.ensures in
    let is = entry_is memory hand c.entry_at.result c.number-2.result c.index_in-index.result c.number-2.ensures.value c.index_in-index.ensures.value c.entry_at.ensures.value in
    let both = none_stops memory hand c.entry_at.result is c.in-Invalid.is c.args.tables.now c.insert.new.self c.args.reach.now first in
    record { tables = both.0; leaves = both.1 }
