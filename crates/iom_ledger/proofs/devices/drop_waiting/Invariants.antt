use Rattle.std.proofs.Common.{◌≡◌, length}
use Rattle.iom_ledger.specs.Counts.{AreCounted}
use Rattle.iom_ledger.specs.Rows.{entries_of, NoneWaitsFrom}
use Rattle.iom_ledger.specs.RowChanges.{DropsSome}
use Rattle.iom_ledger.proofs.devices.drop_waiting.Given as goal

-- from the index on no row waits
abbrev pub invariant-loop-index : goal.invariant-loop-index
invariant-loop-index l = record {
  counted : AreCounted l.devices l.frames.rows.items;
  framed : length l.frames.rows.items ≡ length l.fn.frames.rows.items;
  rows : DropsSome l.fn.devices l.devices l.device l.ticket;
  looked : NoneWaitsFrom (entries_of l.devices l.device) l.index l.ticket;
}
