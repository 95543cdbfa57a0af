use Rattle.std.proofs.Common.{sym}
use Rattle.iom_base.specs.Accesses.{page_of}
use Rattle.iom_machine.proofs.JudgeLemmas.{HoldsNoneFor-by_right}
use Rattle.iom_machine_judge.proofs.requests.holds_none.Goals as goal

pub returns-in-Some : goal.returns-in-Some
returns-in-Some c = λ h past.
    let access = c.args.access.now in
    rw c.allows.ensures (HoldsNoneFor-by_right h c.args.id (page_of access) access.kind c.in-Some.pair (sym (c.in-Some.ensures.held h past)))
