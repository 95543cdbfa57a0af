use Rattle.std.proofs.Common.{refl, ap, ◌∙◌, ◌==◌, if◌then◌else◌, arith}
use Rattle.iom_ledger.specs.Counts.{row_of_frame, granted}
use Rattle.iom_ledger.proofs.CountLemmas.{AreCounted-kept, AreCounted-granted}
use Rattle.iom_ledger.proofs.PageNumbers.{grants_fit}
use Rattle.iom_ledger.proofs.devices.grant_in.Goals as goal

pub grant-requires-clause-below : goal.grant-requires-clause-below
grant-requires-clause-below c =
    let few = grants_fit c.args.devices.now c.args.frames.now.rows.items c.args.row.frame c.requires.counted in
    omega (arith, few, ap (λ rows. (row_of_frame rows c.args.row.frame).grants) c.make_room.ensures.kept)

pub returns-in_err-make_room-clause-counted : goal.returns-in_err-make_room-clause-counted
returns-in_err-make_room-clause-counted c =
    AreCounted-kept c.args.devices.now c.args.devices.now c.args.frames.now.rows.items c.make_room.new.self.rows.items (λ d a. refl) (λ f. ap (λ rows. row_of_frame rows f) c.make_room.ensures.kept) c.requires.counted

pub returns-in_err-set_row_in-clause-counted : goal.returns-in_err-set_row_in-clause-counted
returns-in_err-set_row_in-clause-counted c =
    AreCounted-kept c.args.devices.now c.set_row_in.new.devices c.args.frames.now.rows.items c.make_room.new.self.rows.items c.in_err-set_row_in.ensures.err (λ f. ap (λ rows. row_of_frame rows f) c.make_room.ensures.kept) c.requires.counted

pub returns-clause-counted : goal.returns-clause-counted
returns-clause-counted c =
    AreCounted-granted c.args.devices.now c.set_row_in.new.devices c.args.frames.now.rows.items c.grant.new.self.rows.items c.args.device c.args.page c.args.row c.ranges.device.fits c.ranges.page.fits c.requires.absent c.requires.held c.in_ok-set_row_in.ensures.ok
    (λ f. c.grant.ensures.row f ∙ ap (λ rows. if c.args.row.frame == f then granted (row_of_frame rows f) else row_of_frame rows f) c.make_room.ensures.kept) c.requires.counted
