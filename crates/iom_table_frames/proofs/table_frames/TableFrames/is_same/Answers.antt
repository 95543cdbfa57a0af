use Rattle.std.proofs.Common.{◌∙◌, sym}
use Rattle.std.proofs.lemmas.Slice.Eq.{slice_eq-Decides}
use Rattle.iom_table_frames.proofs.SameLemmas.{mark_decides}
use Rattle.iom_table_frames.proofs.table_frames.TableFrames.is_same.Goals as goal

pub returns : goal.returns
returns c =
    let same = slice_eq-Decides mark_decides c.as_slice.result.now c.as_slice-2.result.now c.eq.result c.eq.ensures in (
      λ yes. sym c.self.view_is ∙ sym c.as_slice.ensures.value ∙ same.0 yes ∙ c.as_slice-2.ensures.value ∙ c.other.view_is,
      λ is. same.1 (c.as_slice.ensures.value ∙ c.self.view_is ∙ is ∙ sym c.other.view_is ∙ sym c.as_slice-2.ensures.value),
    )
