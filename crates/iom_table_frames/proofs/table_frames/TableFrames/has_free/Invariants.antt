use Rattle.std.proofs.Common.{◌↔◌, ◌-◌, ◌≤◌, length}
use Rattle.iom_table_frames.specs.Owners.{HasFree}
use Rattle.iom_table_frames.proofs.table_frames.TableFrames.has_free.Given as goal

-- so many are still to be found below the limit
abbrev pub invariant-loop-counted : goal.invariant-loop-counted
invariant-loop-counted l = record {
  within : l.limit ≤ length l.self;
  left : HasFree l.self l.ledger l.named l.count (length l.self) ↔ HasFree l.self l.ledger l.named (l.count - l.counted) l.limit;
}
