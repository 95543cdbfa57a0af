use Rattle.std.proofs.Common.{◌∙◌, List, ℕ, sym, ap}
use Rattle.std.proofs.lemmas.Slice.Eq.{slice_eq-Decides}
use Rattle.iom_ledger.specs.declared.page_row.PageRow.{PageRow}
use Rattle.iom_ledger.proofs.SameLemmas.{entry_decides, pair_is}
use Rattle.iom_ledger.proofs.device_list.DevicePages.is_same.Goals as goal

pub returns : goal.returns
returns c =
    let same = slice_eq-Decides entry_decides c.as_slice.result c.as_slice-2.result c.eq.result c.eq.ensures in (
      λ yes. pair_is _ _ _ _ c.if-self-other.false (sym c.as_slice.ensures.entries ∙ same.0 yes ∙ c.as_slice-2.ensures.entries),
      λ is. same.1 (c.as_slice.ensures.entries ∙ ap (λ (shown : ℕ × List (ℕ × PageRow)). shown.1) is ∙ sym c.as_slice-2.ensures.entries),
    )
