use Rattle.std.proofs.Common.{◌≡◌, length}
use Rattle.iom_ledger.specs.Counts.{AreCounted}
use Rattle.iom_ledger.specs.Ring.{TakesFirst}
use Rattle.iom_ledger.proofs.ring.confirm_front.Given as goal

-- the first n releases are taken
abbrev pub invariant-loop-n : goal.invariant-loop-n
invariant-loop-n l =
    record {
      taken : TakesFirst l.fn.devices l.devices l.fn.pending.items l.pending.items l.n l.ticket;
      capacity : l.pending.capacity ≡ l.fn.pending.capacity;
      counted : AreCounted l.devices l.frames.rows.items;
      framed : length l.frames.rows.items ≡ length l.fn.frames.rows.items;
    }
