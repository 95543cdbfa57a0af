use Rattle.std.proofs.Common.{◌∙◌, sym, ap}
use Rattle.std.specs.Option.{option_copied}
use Rattle.std.proofs.lemmas.Bool.{ltb-true}
use Rattle.iom_ledger.specs.Ring.{is_ticket_among, tickets}
use Rattle.iom_ledger.proofs.RingLemmas.{nil_from_front, not_among_ascending}
use Rattle.iom_ledger.proofs.ring.is_past.Goals as goal

pub returns-in-None : goal.returns-in-None
returns-in-None c same ordered = ap (λ s. is_ticket_among c.args.ticket (tickets s)) (nil_from_front c.args.pending.now.items (sym c.front.ensures ∙ ap option_copied c.in-None.is))

pub returns-then-ascending : goal.returns-then-ascending
returns-then-ascending c low ordered =
    not_among_ascending c.args.ticket c.args.pending.now.items c.in-Some.oldest.now (sym c.front.ensures ∙ ap option_copied c.in-Some.is) (ltb-true c.args.ticket c.in-Some.oldest.now.ticket low) (ordered c.if-ascending.true)
