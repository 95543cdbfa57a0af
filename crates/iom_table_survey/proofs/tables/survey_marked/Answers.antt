use Rattle.std.proofs.Common.{◌∙◌, sym}
use Rattle.iom_napot.specs.Entries.{entries_in}
use Rattle.iom_table_survey.specs.Levels.{PointsFrom, MapsFrom}
use Rattle.iom_table_survey.specs.Rows.{row_has}
use Rattle.iom_table_survey.proofs.AddLemmas.{adds_where, adds_not, reach_where, reach_not}
use Rattle.iom_table_survey.proofs.tables.survey_marked.Goals as goal

pub returns-then-contains : goal.returns-then-contains
returns-then-contains c =
    let there = sym c.contains.ensures ∙ c.if-contains.true in
    record {
      pointers = adds_where c.args.next.now c.survey_table.new.next (PointsFrom (entries_in c.args.napot c.args.memory.now c.args.below) c.args.table) (row_has c.args.level.now c.args.table) there c.survey_table.ensures.pointers;
      leaves = reach_where c.args.reach.now c.survey_table.new.reach (λ kind. MapsFrom (entries_in c.args.napot c.args.memory.now c.args.below) c.args.below kind c.args.table) (row_has c.args.level.now c.args.table) there
          c.survey_table.ensures.leaves;
    }

pub returns-else-contains : goal.returns-else-contains
returns-else-contains c =
    let none = sym c.contains.ensures ∙ c.if-contains.false in
    record {
      pointers = adds_not c.args.next.now (PointsFrom (entries_in c.args.napot c.args.memory.now c.args.below) c.args.table) (row_has c.args.level.now c.args.table) none;
      leaves = reach_not c.args.reach.now (λ kind. MapsFrom (entries_in c.args.napot c.args.memory.now c.args.below) c.args.below kind c.args.table) (row_has c.args.level.now c.args.table) none;
    }
