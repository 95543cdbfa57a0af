use Rattle.std.proofs.Common.{◌∙◌, ◌≤◌, ℕ, ap, map, subst, sym}
use Rattle.iom_ledger.specs.History.{pending_limit}
use Rattle.iom_ledger.specs.Rows.{row_at, held_of, released_of, is_named, ticket_of}
use Rattle.iom_ledger.specs.Shown.{held_in, released_in, pending_in}
use Rattle.iom_ledger.specs.Ring.{is_other, is_ascending}
use Rattle.iom_ledger.proofs.PendingLemmas.{AllNamed-confirmed}
use Rattle.iom_ledger.proofs.RingLemmas.{is_ascending-filter}
use Rattle.iom_ledger.proofs.AgreementLemmas.{Agrees-confirmed, AllGranted-confirmed, held_of-unless_waiting, released_of-unless_waiting, tickets-filter}
use Rattle.iom_ledger.proofs.UnknownTickets.{IsUnchanged-confirmed}
use Rattle.iom_ledger.proofs.ledger.Ledger.confirm.Goals as goal

pub invariant_of-self : goal.invariant_of-self
invariant_of-self c = record {
  granted = AllGranted-confirmed c.args.self.now.devices c.confirm_in.new.devices c.args.ticket c.args.self.now.granted c.confirm_in.ensures.rows;
  named = λ d a. ap (λ s. is_named s d a (ticket_of (row_at c.confirm_in.new.devices d a))) c.confirm_in.ensures.items ∙ AllNamed-confirmed c.args.self.now.devices c.confirm_in.new.devices c.args.self.now.pending.items c.args.ticket c.args.self.now.named c.confirm_in.ensures.rows d a;
  counted = c.confirm_in.ensures.counted;
  ordered = λ ascends. ap is_ascending c.confirm_in.ensures.items ∙ is_ascending-filter (is_other c.args.ticket) c.args.self.now.pending.items (c.args.self.now.ordered ascends);
  room = subst (λ (n : ℕ). pending_limit ≤ n) (sym c.confirm_in.ensures.capacity) c.args.self.now.room;
}

pub returns-clause-confirmed : goal.returns-clause-confirmed
unfolding held_in released_in pending_in
returns-clause-confirmed c = record {
  held = λ d a. ap held_of (c.confirm_in.ensures.rows d a) ∙ held_of-unless_waiting (row_at c.args.self.now.devices d a) c.args.ticket;
  lingering = λ d a. ap released_of (c.confirm_in.ensures.rows d a) ∙ released_of-unless_waiting (row_at c.args.self.now.devices d a) c.args.ticket;
  pending = ap (map (λ p. p.ticket)) c.confirm_in.ensures.items ∙ tickets-filter c.args.ticket c.args.self.now.pending.items;
}

pub returns-clause-agrees : goal.returns-clause-agrees
returns-clause-agrees c = Agrees-confirmed c.args.self.now _ c.args.ticket (returns-clause-confirmed c)

pub returns-clause-unknown : goal.returns-clause-unknown
returns-clause-unknown c absent = IsUnchanged-confirmed c.args.self.now _ c.args.ticket c.args.self.now.named c.confirm_in.ensures.rows c.confirm_in.ensures.items absent
