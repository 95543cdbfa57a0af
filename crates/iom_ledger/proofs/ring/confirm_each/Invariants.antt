use Rattle.std.proofs.Common.{◌≡◌, ◌≤◌, ◌++◌, length, take, drop, filter}
use Rattle.iom_ledger.specs.Counts.{AreCounted}
use Rattle.iom_ledger.specs.Ring.{is_other, DropsNamedBy}
use Rattle.iom_ledger.proofs.ring.confirm_each.Given as goal

-- the first n releases were looked at: their rows are dropped, and those under other tickets went to the end
abbrev pub invariant-loop-n : goal.invariant-loop-n
invariant-loop-n l =
    record {
      rows : DropsNamedBy l.fn.devices l.devices (take l.n l.fn.pending.items) l.ticket;
      items : l.pending.items ≡ drop l.n l.fn.pending.items ++ filter (is_other l.ticket) (take l.n l.fn.pending.items);
      capacity : l.pending.capacity ≡ l.fn.pending.capacity;
      counted : AreCounted l.devices l.frames.rows.items;
      framed : length l.frames.rows.items ≡ length l.fn.frames.rows.items;
      room : length l.pending.items ≤ l.pending.capacity;
    }
