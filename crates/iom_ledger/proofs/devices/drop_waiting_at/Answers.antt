use Rattle.std.proofs.Common.{refl}
use Rattle.iom_ledger.proofs.CountLemmas.{AreCounted-kept, AreCounted-dropped, pending_positive, released_from_waits}
use Rattle.iom_ledger.proofs.devices.drop_waiting_at.Goals as goal

pub confirm-requires : goal.confirm-requires
confirm-requires c =
    let taken = c.in-Some.ensures.taken in
    pending_positive c.args.devices.now c.args.frames.now.rows.items c.args.device c.args.page c.in-Some.row taken.had (released_from_waits c.in-Some.row c.args.ticket taken.waits) c.requires

pub returns-in-Some-clause-counted : goal.returns-in-Some-clause-counted
returns-in-Some-clause-counted c =
    let taken = c.in-Some.ensures.taken in
    AreCounted-dropped c.args.devices.now c.take_at_in.new.devices c.args.frames.now.rows.items c.confirm.new.self.rows.items c.args.device c.args.page c.in-Some.row taken.had
    (released_from_waits c.in-Some.row c.args.ticket taken.waits) taken.rows c.confirm.ensures.row c.requires

pub returns-in_default-clause-counted : goal.returns-in_default-clause-counted
returns-in_default-clause-counted c =
    AreCounted-kept c.args.devices.now c.take_at_in.new.devices c.args.frames.now.rows.items c.args.frames.now.rows.items c.in_default.ensures.kept (λ f. refl) c.requires
