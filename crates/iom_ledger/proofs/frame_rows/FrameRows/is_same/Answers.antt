use Rattle.std.proofs.Common.{◌∙◌, refl, sym}
use Rattle.std.proofs.lemmas.Slice.Eq.{slice_eq-Decides}
use Rattle.iom_ledger.proofs.SameLemmas.{row_decides}
use Rattle.iom_ledger.proofs.frame_rows.FrameRows.is_same.Goals as goal

pub returns : goal.returns
returns c =
    let same = slice_eq-Decides row_decides c.as_slice.result.now c.as_slice-2.result.now c.eq.result c.eq.ensures in (
      λ yes. record { rows = sym c.as_slice.ensures.value ∙ same.0 yes ∙ c.as_slice-2.ensures.value; free = c.if-not-is_same.ensures.0 refl },
      λ is. same.1 (c.as_slice.ensures.value ∙ is.rows ∙ sym c.as_slice-2.ensures.value),
    )
