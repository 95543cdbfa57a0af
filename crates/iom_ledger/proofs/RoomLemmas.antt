-- There is always room for as many pending tickets as a driver gives at a time.
use Rattle.std.proofs.Common.{◌≤◌}
use Rattle.iom_ledger.specs.declared.ledger.Ledger.{Ledger}
use Rattle.iom_ledger.specs.History.{pending_limit}
use Rattle.iom_ledger.specs.Shown.{pending_room}

pub has_room : (ledger : Ledger) → pending_limit ≤ pending_room ledger
unfolding pending_room
has_room ledger = ledger.room
