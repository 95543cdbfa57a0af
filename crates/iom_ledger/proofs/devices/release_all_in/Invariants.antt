use Rattle.std.proofs.Common.{◌≡◌, length, take}
use Rattle.iom_ledger.specs.Counts.{AreCounted}
use Rattle.iom_ledger.specs.Rows.{pages_of}
use Rattle.iom_ledger.specs.RowChanges.{ReleasesRowsAt}
use Rattle.iom_ledger.proofs.devices.release_all_in.Given as goal

-- the rows at the first pages of the device are released, and its pages are in the order in which they were
abbrev pub invariant-loop-index : goal.invariant-loop-index
invariant-loop-index l = record {
  counted : AreCounted l.devices l.frames.rows.items;
  framed : length l.frames.rows.items ≡ length l.fn.frames.rows.items;
  rows : ReleasesRowsAt l.fn.devices l.devices l.device (take l.index (pages_of l.fn.devices l.device)) l.ticket;
  order : pages_of l.devices l.device ≡ pages_of l.fn.devices l.device;
}
