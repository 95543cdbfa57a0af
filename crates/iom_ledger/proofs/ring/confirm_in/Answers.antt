use Rattle.std.proofs.Common.{◌∙◌, sym, ap}
use Rattle.iom_ledger.specs.Ring.{is_ascending}
use Rattle.iom_ledger.proofs.RingLemmas.{is_ascending-drop, none_dropped, rows_of_both, items_of_both}
use Rattle.iom_ledger.proofs.UnknownTickets.{filter_absent}
use Rattle.iom_ledger.proofs.ring.confirm_in.Goals as goal

pub returns-then-not-is_past-clause-rows : goal.returns-then-not-is_past-clause-rows
returns-then-not-is_past-clause-rows c =
    let (n, taken) = c.confirm_front.ensures.taken in
    rows_of_both c.args.devices.now c.confirm_front.new.devices c.confirm_each.new.devices c.args.pending.now.items c.confirm_front.new.pending.items n c.args.ticket c.requires.named taken c.confirm_each.ensures.rows

pub returns-then-not-is_past-clause-items : goal.returns-then-not-is_past-clause-items
returns-then-not-is_past-clause-items c =
    let (n, taken) = c.confirm_front.ensures.taken in
    items_of_both c.args.devices.now c.confirm_front.new.devices c.args.pending.now.items c.confirm_front.new.pending.items c.confirm_each.new.pending.items n c.args.ticket taken c.confirm_each.ensures.items

pub returns-else-not-is_past-clause-rows : goal.returns-else-not-is_past-clause-rows
returns-else-not-is_past-clause-rows c =
    let (n, taken) = c.confirm_front.ensures.taken in
    let absent = c.is_past.ensures c.if-not-is_past.false (λ ascends. ap is_ascending taken.items ∙ is_ascending-drop n c.args.pending.now.items (c.requires.ordered ascends)) in
    rows_of_both c.args.devices.now c.confirm_front.new.devices c.confirm_front.new.devices c.args.pending.now.items c.confirm_front.new.pending.items n c.args.ticket c.requires.named taken
    (none_dropped c.confirm_front.new.devices c.confirm_front.new.pending.items c.args.ticket absent)

pub returns-else-not-is_past-clause-items : goal.returns-else-not-is_past-clause-items
returns-else-not-is_past-clause-items c =
    let (n, taken) = c.confirm_front.ensures.taken in
    let absent = c.is_past.ensures c.if-not-is_past.false (λ ascends. ap is_ascending taken.items ∙ is_ascending-drop n c.args.pending.now.items (c.requires.ordered ascends)) in
    items_of_both c.args.devices.now c.confirm_front.new.devices c.args.pending.now.items c.confirm_front.new.pending.items c.confirm_front.new.pending.items n c.args.ticket taken
    (sym (filter_absent c.args.ticket c.confirm_front.new.pending.items absent))
