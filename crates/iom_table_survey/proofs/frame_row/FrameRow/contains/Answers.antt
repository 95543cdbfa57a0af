use Rattle.std.proofs.Common.{◌%◌, ◌/◌, ◌==◌, get_or, refl, ap, ◌∙◌}
use Rattle.std.specs.Int.{bit_at}
use Rattle.iom_table_survey.specs.Rows.{row_has}
use Rattle.iom_table_survey.proofs.RowLemmas.{reads}
use Rattle.iom_table_survey.proofs.frame_row.FrameRow.contains.Goals as goal

pub returns : goal.returns
returns c =
    c.has_bit.ensures
    ∙ ap (λ p. bit_at (get_or c.self.inside.words (p / 64) 0) (p % 64) == 1) c.place_of-place.ensures
    ∙ reads c.self.inside.words c.args.frame _ refl
    ∙ ap (λ ws. row_has ws c.args.frame) c.self.view_is
