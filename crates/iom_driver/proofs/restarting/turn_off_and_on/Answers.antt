use Rattle.std.proofs.Common.{◌≡◌, ◌∙◌, length, sym, ap, subst}
use Rattle.iom_command_queue.specs.Waiting.{commands_in, how_many}
use Rattle.iom_registers.specs.declared.registers.Registers.{Registers}
use Rattle.iom_registers.specs.declared.register.Register.TheVariants.{Cqcsr, Cqt}
use Rattle.iom_registers.specs.Table.{written}
use Rattle.iom_driver.specs.Directory.{KeepsDirectory}
use Rattle.iom_driver.specs.Ready.{IsRing, KeepsFaults}
use Rattle.iom_driver.proofs.Again.{again, again_ring, again_empty, again_count, again_named, again_faults}
use Rattle.iom_driver.proofs.restarting.turn_off_and_on.Goals as goal

pub returns : goal.returns
returns g c =
    let r = g.M.Mmio.registers in
    let after = g.M.Mmio.after in
    let law = g.met.M.Mmio.writes_registers in
    let memory = c.args.memory.now in
    let was = r c.args.io.now in
    let ran : again was ≡ r c.write-3.new.io =
    sym (ap r c.write-3.ensures ∙ law c.write-2.new.io Cqcsr 1
    ∙ ap (λ (x : Registers). written x Cqcsr 1) (ap r c.write-2.ensures ∙ law c.write.new.io Cqt 0
    ∙ ap (λ (x : Registers). written x Cqt 0) (ap r c.write.ensures ∙ law c.args.io.now Cqcsr 0))) in
    record {
      registers = c.write-3.ensures ∙ ap (λ x. after x Cqcsr 1) (c.write-2.ensures ∙ ap (λ x. after x Cqt 0) c.write.ensures);
      ring = subst (λ (s : Registers). IsRing (length memory) s) ran (again_ring (length memory) was c.requires);
      empty = ap (λ (s : Registers). commands_in memory s) (sym ran) ∙ again_empty memory (length memory) was c.requires;
      count = ap (λ (s : Registers). how_many s) (sym ran) ∙ again_count (length memory) was c.requires;
      named = subst (λ (s : Registers). KeepsDirectory was s) ran (again_named was);
      faults = subst (λ (s : Registers). KeepsFaults was s) ran (again_faults was);
    }
