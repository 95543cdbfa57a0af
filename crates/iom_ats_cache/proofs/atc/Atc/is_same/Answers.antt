-- Lists of equal entries are equal.
use Rattle.std.proofs.Common.{◌≡◌, ◌∙◌, sym, ap}
use Rattle.std.proofs.lemmas.Slice.Eq.{slice_eq-Decides}
use Rattle.iom_ats_cache.specs.Cache.{Cache}
use Rattle.iom_ats_cache.proofs.Sames.{entry_decides, same_cache}
use Rattle.iom_ats_cache.proofs.atc.Atc.is_same.Goals as goal

pub returns : goal.returns
returns c =
    let same = slice_eq-Decides entry_decides c.as_slice.result.now c.as_slice-2.result.now c.eq.result c.eq.ensures in
    let one : c.as_slice.result.now ≡ c.args.self.now.entries = c.as_slice.ensures.value ∙ ap (λ (x : Cache). x.entries) c.self.view_is in
    let other : c.as_slice-2.result.now ≡ c.args.other.now.entries = c.as_slice-2.ensures.value ∙ ap (λ (x : Cache). x.entries) c.other.view_is in
    let epoch : c.args.self.now.epoch ≡ c.args.other.now.epoch = sym (ap (λ (x : Cache). x.epoch) c.self.view_is) ∙ c.if-self-other.false ∙ ap (λ (x : Cache). x.epoch) c.other.view_is in
    (λ is. same_cache c.args.self.now c.args.other.now epoch (sym one ∙ same.0 is ∙ other), λ is. same.1 (one ∙ ap (λ (x : Cache). x.entries) is ∙ sym other))
