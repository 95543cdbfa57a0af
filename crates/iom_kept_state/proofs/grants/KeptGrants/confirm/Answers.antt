use Rattle.std.proofs.Common.{◌≡◌, ◌-◌, ℕ, suc, subst, arith}
use Rattle.iom_ledger.specs.History.{confirmed_from}
use Rattle.iom_kept_state.specs.Grants.{IsPastOf}
use Rattle.iom_kept_state.proofs.grants.KeptGrants.confirm.Goals as goal

pub returns-clause-past : goal.returns-clause-past
returns-clause-past c = λ h past.
    let later = c.requires.later in
    let end = c.loop-ticket-test.false in
    let within = c.loop-ticket.auto in
    let many : suc c.loop-ticket.ticket - c.args.first ≡ suc (c.args.last - c.args.first) = omega (arith, later, end, within) in
    subst (λ (n : ℕ). IsPastOf c.loop-ticket.self (confirmed_from c.args.first n h)) many (c.loop-ticket.invariant.past h past)
