use Rattle.std.proofs.Common.{◌≡◌, ◌∙◌, ℕ, None, sym}
use Rattle.iom_judge.specs.Certified.{first_in}
use Rattle.iom_judge.proofs.SharingLemmas.{none_shares, nothing_found}
use Rattle.iom_judge.proofs.domains.Domains.sharers.Goals as goal

pub returns-then-is_empty : goal.returns-then-is_empty
returns-then-is_empty c =
    let domains = c.args.self.now in
    let none : (device : ℕ) → first_in domains device ≡ None = λ device. nothing_found domains.firsts.entries device (c.is_empty.ensures.0 c.if-is_empty.true) in
    c.new-found.ensures.items ∙ sym (none_shares (first_in domains) c.args.kept.now.devices c.args.first none)
