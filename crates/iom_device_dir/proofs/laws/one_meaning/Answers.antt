-- What bytes mean is what they are decoded to.
use Rattle.std.proofs.Common.{◌≡◌, Ok, sym, ◌∙◌}
use Rattle.iom_device_dir.specs.Words.{context_words}
use Rattle.iom_device_dir.proofs.Exact.{found}
use Rattle.iom_device_dir.proofs.laws.one_meaning.Goals as goal

pub returns : goal.returns
returns c =
    let w = context_words c.args.bytes.now in
    let e : Ok c.args.one ≡ Ok c.args.other = sym (found w c.args.one c.requires.one) ∙ found w c.args.other c.requires.other in cc
