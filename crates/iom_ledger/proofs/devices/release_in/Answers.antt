use Rattle.std.proofs.Common.{refl, arith}
use Rattle.iom_ledger.proofs.CountLemmas.{AreCounted-kept, AreCounted-held, KeepsRows-released, held_positive}
use Rattle.iom_ledger.proofs.PageNumbers.{pending_fits}
use Rattle.iom_ledger.proofs.devices.release_in.Goals as goal

pub release-requires-clause-granted : goal.release-requires-clause-granted
release-requires-clause-granted c =
    held_positive c.args.devices.now c.args.frames.now.rows.items c.args.device c.args.page c.in-Some.frame c.in-Some.ensures.frame c.requires

pub release-requires-clause-below : goal.release-requires-clause-below
release-requires-clause-below c =
    let few = pending_fits c.args.devices.now c.args.frames.now.rows.items c.in-Some.frame c.requires in
    omega (arith, few)

pub returns-in-Some-clause-counted : goal.returns-in-Some-clause-counted
returns-in-Some-clause-counted c =
    AreCounted-held c.args.devices.now c.release_row_in.new.devices c.args.frames.now.rows.items c.release.new.self.rows.items c.args.device c.args.page c.args.ticket c.in-Some.frame c.in-Some.ensures.frame c.in-Some.ensures.rows c.release.ensures.row c.requires

pub returns-in_default-clause-counted : goal.returns-in_default-clause-counted
returns-in_default-clause-counted c =
    AreCounted-kept c.args.devices.now c.release_row_in.new.devices c.args.frames.now.rows.items c.args.frames.now.rows.items
    (KeepsRows-released c.args.devices.now c.release_row_in.new.devices c.args.device c.args.page c.args.ticket c.in_default.ensures.frame c.in_default.ensures.rows) (λ f. refl) c.requires
