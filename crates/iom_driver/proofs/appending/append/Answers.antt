use Rattle.std.proofs.Common.{◌≡◌, ◌+◌, ◌∙◌, length, sym, ap, subst}
use Rattle.iom_command_queue.specs.Waiting.{how_many}
use Rattle.iom_registers.specs.declared.register.Register.TheVariants.{Cqt}
use Rattle.iom_registers.specs.declared.registers.Registers.{Registers}
use Rattle.iom_registers.specs.Queues.{command_entries, command_tail, next_index}
use Rattle.iom_driver.specs.Directory.{KeepsDirectory}
use Rattle.iom_driver.specs.Ready.{IsRing, KeepsFaults}
use Rattle.iom_driver.proofs.Appended.{moved, moved_ring, moved_named, moved_faults, moved_count, other_frames}
use Rattle.iom_driver.proofs.appending.append.Goals as goal

pub returns : goal.returns
returns g c =
    let memory = c.args.memory.now in
    let r = g.M.Mmio.registers c.args.io.now in
    let new = g.M.Mmio.registers c.append.new.io in
    let is : moved r ≡ new =
    sym (ap g.M.Mmio.registers c.append.ensures.rung ∙ g.met.M.Mmio.writes_registers c.args.io.now Cqt (next_index (command_entries r) (command_tail r))) in
    record {
      appended = record { written = c.append.ensures.written; rung = c.append.ensures.rung; list = c.append.ensures.list };
      count = subst (λ (s : Registers). how_many s ≡ how_many r + 1) is (moved_count r c.requires.ring.entries c.requires.room);
      ring = subst (λ (s : Registers). IsRing (length memory) s) is (moved_ring (length memory) r c.requires.ring);
      named = subst (λ (s : Registers). KeepsDirectory r s) is (moved_named r);
      faults = subst (λ (s : Registers). KeepsFaults r s) is (moved_faults r);
      other_frames = other_frames r memory c.append.new.memory c.args.command c.requires.ring c.append.ensures.written;
      size = c.append.ensures.written.frames;
    }
