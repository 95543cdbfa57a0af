use Rattle.std.proofs.Common.{◌↔◌}
use Rattle.iom_ledger.specs.FrameRows.{IsRowOf, IsFreeRow}
use Rattle.iom_ledger.specs.History.{NoneMayReach}
use Rattle.iom_ledger.specs.Shown.{IsFreeIn}
use Rattle.iom_ledger.proofs.FreeLemmas.{row_free, row_unreached}
use Rattle.iom_ledger.proofs.FrameRowLemmas.{IsRowOf-counted, lent_row, unlent_row}
use Rattle.iom_ledger.proofs.ledger.Ledger.row.Goals as goal

pub returns-clause-counted : goal.returns-clause-counted
returns-clause-counted c h agrees =
    let ledger = c.args.self.now in
    lent_row c.row.result ledger.frames.rows.items c.args.frame (IsRowOf h c.args.frame) c.row.ensures (IsRowOf-counted ledger h agrees c.args.frame)

pub returns-clause-shown : goal.returns-clause-shown
returns-clause-shown c =
    let ledger = c.args.self.now in
    lent_row c.row.result ledger.frames.rows.items c.args.frame (λ row. IsFreeRow row ↔ IsFreeIn ledger c.args.frame) c.row.ensures (row_free ledger c.args.frame)

pub returns-clause-free : goal.returns-clause-free
returns-clause-free c h agrees =
    let ledger = c.args.self.now in
    lent_row c.row.result ledger.frames.rows.items c.args.frame (λ row. IsFreeRow row ↔ NoneMayReach h c.args.frame) c.row.ensures (row_unreached ledger h agrees c.args.frame)

pub returns-clause-unnamed : goal.returns-clause-unnamed
returns-clause-unnamed c none =
    let ledger = c.args.self.now in
    (row_free ledger c.args.frame).0 (unlent_row c.row.result ledger.frames.rows.items c.args.frame c.row.ensures none)
