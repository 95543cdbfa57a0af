use Rattle.iom_ledger.proofs.Places.{SetsRow-added}
use Rattle.iom_ledger.proofs.devices.set_row_in.Goals as goal

pub returns-in_ok-push-in-None-clause-ok : goal.returns-in_ok-push-in-None-clause-ok
returns-in_ok-push-in-None-clause-ok c =
    SetsRow-added c.args.devices.now (record { list = c.push.new.self }) c.args.device c.args.page c.new-pages.result c.insert-in-None.new.self c.args.row
    c.in-None.ensures c.in_ok-push-in-None.ensures.items c.new-pages.ensures.empty c.in_ok-insert-in-None.ensures.updates.0
