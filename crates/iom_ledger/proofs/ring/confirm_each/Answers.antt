use Rattle.std.proofs.Common.{◌+◌, ◌<◌, ◌++◌, ◌∙◌, length, take, drop, get_or, filter, None, arith}
use Rattle.iom_ledger.specs.declared.pending.Pending.{Pending}
use Rattle.iom_ledger.specs.Ring.{is_other}
use Rattle.iom_ledger.proofs.PendingLemmas.{split_at, rows_more, items_more}
use Rattle.iom_ledger.proofs.ring.confirm_each.Goals as goal

pub loop-n-preserved : goal.loop-n-preserved
loop-n-preserved c =
    let s = c.args.pending.now.items in
    let n = c.loop-n.n in
    let none : Pending = record { ticket = 0; device = 0; page = None } in
    let within : n < length s = omega (arith, c.len-n-end.ensures.len) in
    let rest = drop (n + 1) s ++ filter (is_other c.args.ticket) (take n s) in
    let oldest = c.loop-n.invariant.items ∙ split_at n s (filter (is_other c.args.ticket) (take n s)) none within in
    record {
      rows = λ d a. rows_more s n none d a c.args.ticket _ _ _ within (c.loop-n.invariant.rows d a) (c.turn.ensures.rows (get_or s n none) rest oldest d a);
      items = c.turn.ensures.items (get_or s n none) rest oldest ∙ items_more c.args.ticket n s none within;
      capacity = c.turn.ensures.capacity ∙ c.loop-n.invariant.capacity;
      counted = c.turn.ensures.counted;
      framed = c.turn.ensures.frames ∙ c.loop-n.invariant.framed;
      room = c.turn.ensures.room;
    }
