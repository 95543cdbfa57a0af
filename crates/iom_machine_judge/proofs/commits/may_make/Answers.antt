use Rattle.std.proofs.Common.{◌≡◌, rules}
use Rattle.iom_machine_judge.proofs.commits.may_make.Goals as goal

pub returns-then-eq : goal.returns-then-eq
returns-then-eq c = λ h past.
    let same : c.args.made.now.access.kind ≡ c.args.kind = search (rules, c.eq.ensures, c.if-eq.true) in
    ((λ reply. (same, (c.may.ensures.may h past).0 reply)), (λ both. (c.may.ensures.may h past).1 both.1))
