use Rattle.std.proofs.Common.{◌≡◌, ◌∙◌, ◌<◌, ◌≤◌, ◌+◌, ◌*◌, Some, sym, ap, arith}
use Rattle.iom_command_queue.specs.Waiting.{entry_at, how_many}
use Rattle.iom_command_queue.proofs.ByPlace.{at_place, none_at}
use Rattle.iom_command_queue.proofs.ring.CommandRing.at.Goals as goal

pub returns-then-place-count : goal.returns-then-place-count
returns-then-place-count c =
    let past = c.if-place-count.true in
    let count = c.count.ensures in
    sym (none_at c.args.memory.now c.args.registers.now c.args.place (rw (sym count) (omega (arith, past))))

pub returns : goal.returns
returns c =
    let within = c.if-place-count.false in
    let count = c.count.ensures in
    let there = at_place c.args.memory.now c.args.registers.now c.args.place c.index_of-index.result (rw (sym count) (omega (arith, within))) c.index_of-index.ensures.index in
    ap Some (c.entry_at.ensures ∙ ap (λ base. entry_at c.args.memory.now (base + 16 * c.index_of-index.result)) c.command_base.ensures.value) ∙ sym there
