use Rattle.std.proofs.Common.{◌≡◌, ◌+◌, ◌*◌, ◌∙◌, ap, subst}
use Rattle.iom_registers.specs.declared.registers.Registers.{Registers}
use Rattle.iom_registers.specs.declared.register.Register.TheVariants.{Cqt}
use Rattle.iom_registers.specs.Table.{written}
use Rattle.iom_registers.specs.Queues.{command_base, command_entries, command_tail, next_index}
use Rattle.iom_command_queue.specs.Waiting.{commands_in, WritesCommand, place_of}
use Rattle.iom_command_queue.proofs.Waits.{appended}
use Rattle.iom_command_queue.proofs.ring.CommandRing.append.Goals as goal

pub returns-clause-list : goal.returns-clause-list
returns-clause-list g c =
    let r : Registers = g.M.Mmio.registers c.args.io.now in
    let next : c.index_after.result ≡ next_index (command_entries r) (command_tail r) = cc in
    let rung : g.M.Mmio.registers c.ring.new.io ≡ written r Cqt (next_index (command_entries r) (command_tail r)) =
    ap g.M.Mmio.registers c.ring.ensures ∙ g.met.M.Mmio.writes_registers c.args.io.now Cqt c.index_after.result ∙ ap (λ v. written r Cqt v) next in
    let put : WritesCommand c.args.memory.now (place_of r (command_tail r)) c.args.command c.put.new.memory =
    subst (λ a. WritesCommand c.args.memory.now a c.args.command c.put.new.memory)
    (ap (λ b. b + 16 * c.tail-tail.result) c.place_by_cqb-place.ensures.base ∙ ap (λ t. command_base r + 16 * t) c.tail-tail.ensures.value)
    c.put.ensures in
    ap (λ x. commands_in c.put.new.memory x) rung
    ∙ appended c.args.memory.now c.put.new.memory r c.args.command c.requires.room put
