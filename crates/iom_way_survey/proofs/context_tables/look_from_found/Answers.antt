use Rattle.std.proofs.Common.{◌≡◌, ◌∙◌, Some, sym}
use Rattle.iom_board.specs.BoardParts.{board_parts}
use Rattle.iom_way_survey.specs.Found.{space_of_context}
use Rattle.iom_way_survey.proofs.GrowLemmas.{found_adds, found_grew}
use Rattle.iom_way_survey.proofs.context_tables.look_from_found.Goals as goal

pub returns-in-Some-space_of : goal.returns-in-Some-space_of
returns-in-Some-space_of c =
    let parts = board_parts c.args.hardware.now in
    let context = c.in-Some.context in
    let has : space_of_context context ≡ Some c.in-Some-space_of.space = sym c.space_of.ensures ∙ c.in-Some-space_of.is in
    record {
      rows = found_grew parts c.args.found context c.in-Some.is c.in-Some-space_of.space c.args.rows.now c.look_from_tables.new.rows has c.look_from_tables.ensures.rows;
      tables = found_adds parts c.args.found context c.in-Some.is c.in-Some-space_of.space c.args.read.now c.look_from_tables.new.read has c.look_from_tables.ensures.tables;
    }
