use Rattle.std.proofs.Common.{◌∙◌, sym}
use Rattle.std.proofs.lemmas.Slice.Eq.{slice_eq-Decides}
use Rattle.iom_driver.proofs.SameLemmas.{device_decides}
use Rattle.iom_driver.proofs.driver.Driver.has_same_devices.Goals as goal

pub returns : goal.returns
returns c =
    let same = slice_eq-Decides device_decides c.as_slice.result.now c.as_slice-2.result.now c.eq.result c.eq.ensures in (
      λ yes. sym c.as_slice.ensures.value ∙ same.0 yes ∙ c.as_slice-2.ensures.value,
      λ is. same.1 (c.as_slice.ensures.value ∙ is ∙ sym c.as_slice-2.ensures.value),
    )
