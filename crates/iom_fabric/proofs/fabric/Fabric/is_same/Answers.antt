-- Lists of equal messages are equal.
use Rattle.std.proofs.Common.{◌≡◌, ◌∙◌, sym}
use Rattle.std.proofs.lemmas.Slice.Eq.{slice_eq-Decides}
use Rattle.iom_fabric.proofs.MessageEquality.{decides_on_link}
use Rattle.iom_fabric.proofs.fabric.Fabric.is_same.Goals as goal

pub returns : goal.returns
returns c =
    let same = slice_eq-Decides decides_on_link c.as_slice.result.now c.as_slice-2.result.now c.eq.result c.eq.ensures in
    let one : c.as_slice.result.now ≡ c.args.self.now = c.as_slice.ensures.value ∙ c.self.view_is in
    let other : c.as_slice-2.result.now ≡ c.args.other.now = c.as_slice-2.ensures.value ∙ c.other.view_is in
    (λ is. sym one ∙ same.0 is ∙ other, λ is. same.1 (one ∙ is ∙ sym other))
