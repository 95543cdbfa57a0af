-- The same are confirmed.
use Rattle.std.proofs.Common.{◌≡◌, ℕ}
use Rattle.iom_kept_state.specs.Tickets.{is_among}
use Rattle.iom_kept_state.proofs.tickets.ConfirmedTickets.absorb.Given as goal

abbrev pub invariant-loop-round : goal.invariant-loop-round
invariant-loop-round l = (ticket : ℕ) → is_among l.self ticket ≡ is_among l.initial.self ticket
