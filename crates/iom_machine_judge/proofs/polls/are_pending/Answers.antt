use Rattle.std.proofs.Common.{◌≤◌, ◌<◌, arith}
use Rattle.iom_machine_judge.proofs.polls.are_pending.Goals as goal

pub returns-clause-pending : goal.returns-clause-pending
returns-clause-pending c = λ h past.
    let not_none = c.if-first-eq0.false in
    let not_after = c.if-first-last.false in
    let not_more = c.if-last-kept.false in
    let some : 0 < c.args.first = omega (arith, not_none) in
    let later : c.args.first ≤ c.args.last = omega (arith, not_after) in
    let given : c.args.last ≤ c.args.kept.now.grants.given = omega (arith, not_more) in
    ((λ yes. (some, later, given, (c.none_confirmed.ensures h past).0 yes)), (λ pending. (c.none_confirmed.ensures h past).1 pending.3))
