use Rattle.std.proofs.Common.{◌+◌, ◌*◌, ◌∙◌, sym, ap}
use Rattle.std.proofs.lemmas.Bool.{eqb-true}
use Rattle.iom_table_survey.specs.Rows.{row_has}
use Rattle.iom_table_survey.proofs.RowLemmas.{none_of}
use Rattle.iom_table_survey.proofs.frame_row.FrameRow.has_none_of.Goals as goal

pub returns : goal.returns
returns c zero k within =
    ap (λ ws. row_has ws (64 * c.args.index + k)) (sym c.self.view_is) ∙ none_of c.self.inside.words c.args.index k c.requires within (eqb-true _ 0 zero)
