use Rattle.std.proofs.Common.{◌≡◌, ◌≢◌, ◌+◌, ◌<◌, ◌≤◌, ◌∙◌, ℕ, slice_get, refl, sym, ap, subst, arith}
use Rattle.iom_command_queue.specs.declared.command.Command.{Command}
use Rattle.iom_command_queue.specs.Waiting.{how_many}
use Rattle.iom_driver.specs.Appends.{Appends, fence}
use Rattle.iom_driver.specs.Layout.{command_frame}
use Rattle.iom_driver.specs.Ready.{IsRing}
use Rattle.iom_driver.proofs.Appended.{GoesOn, goes_on}
use Rattle.iom_driver.proofs.driver.Driver.append_detach.Goals as goal

pub append-requires : goal.append-requires
append-requires g c =
    let r = g.M.Mmio.registers c.args.io.now in
    let room : how_many r + 3 < 256 = c.requires.room in
    record {
      many = subst (λ n. 64 ≤ n) (sym c.requires.frames) c.requires.many;
      ring = subst (λ n. IsRing n r) (sym c.requires.frames) c.requires.ring;
      room = omega (arith, room);
    }

pub append-requires-2 : goal.append-requires-2
append-requires-2 g c =
    let r1 = g.M.Mmio.registers c.append.new.io in
    let room : how_many (g.M.Mmio.registers c.args.io.now) + 3 < 256 = c.requires.room in
    let one : how_many r1 ≡ how_many (g.M.Mmio.registers c.args.io.now) + 1 = c.append.ensures.count in
    record {
      many = subst (λ n. 64 ≤ n) (sym (c.append.ensures.size ∙ c.requires.frames)) c.requires.many;
      ring = subst (λ n. IsRing n r1) (sym c.append.ensures.size) c.append.ensures.ring;
      room = omega (arith, room, one);
    }

pub append-requires-3 : goal.append-requires-3
append-requires-3 g c =
    let r1 = g.M.Mmio.registers c.append.new.io in
    let r2 = g.M.Mmio.registers c.append-2.new.io in
    let room : how_many (g.M.Mmio.registers c.args.io.now) + 3 < 256 = c.requires.room in
    let one : how_many r1 ≡ how_many (g.M.Mmio.registers c.args.io.now) + 1 = c.append.ensures.count in
    let two : how_many r2 ≡ how_many r1 + 1 = c.append-2.ensures.count in
    record {
      many = subst (λ n. 64 ≤ n) (sym (c.append-2.ensures.size ∙ c.append.ensures.size ∙ c.requires.frames)) c.requires.many;
      ring = subst (λ n. IsRing n r2) (sym c.append-2.ensures.size) c.append-2.ensures.ring;
      room = omega (arith, room, one, two);
    }

pub returns : goal.returns
returns g c =
    let frames = c.args.self.now.frames in
    let m0 = c.args.memory.now in
    let m1 = c.append.new.memory in
    let m2 = c.append-2.new.memory in
    let m3 = c.append-3.new.memory in
    let io0 = c.args.io.now in
    let io1 = c.append.new.io in
    let io2 = c.append-2.new.io in
    let io3 = c.append-3.new.io in
    let r0 = g.M.Mmio.registers io0 in
    let r1 = g.M.Mmio.registers io1 in
    let r2 = g.M.Mmio.registers io2 in
    let r3 = g.M.Mmio.registers io3 in
    let one : GoesOn r0 r1 m0 m1 = record { named = c.append.ensures.named; faults = c.append.ensures.faults; other_frames = c.append.ensures.other_frames; size = c.append.ensures.size } in
    let two : GoesOn r1 r2 m1 m2 = record { named = c.append-2.ensures.named; faults = c.append-2.ensures.faults; other_frames = c.append-2.ensures.other_frames; size = c.append-2.ensures.size } in
    let three : GoesOn r2 r3 m2 m3 = record { named = c.append-3.ensures.named; faults = c.append-3.ensures.faults; other_frames = c.append-3.ensures.other_frames; size = c.append-3.ensures.size } in
    let both = goes_on r0 r1 r2 m0 m1 m2 one two in
    let all = goes_on r0 r2 r3 m0 m2 m3 both three in
    record {
      appended = (
        m1,
        io1,
        subst (λ (command : Command). Appends g.M.Mmio m0 io0 command m1 io1) c.context_invalidation.ensures c.append.ensures.appended,
        (
          m2,
          io2,
          subst (λ (command : Command). Appends g.M.Mmio m1 io1 command m2 io2) c.space_invalidation.ensures c.append-2.ensures.appended,
          (m3, io3, subst (λ (command : Command). Appends g.M.Mmio m2 io2 command m3 io3) (c.fence.ensures ∙ ap (λ a. fence a c.args.number) c.completion_address.ensures.value) c.append-3.ensures.appended, (refl, refl)),
        ),
      );
      ring = subst (λ n. IsRing n r3) (both.size ∙ c.requires.frames) c.append-3.ensures.ring;
      named = all.named;
      faults = all.faults;
      other_frames = subst (λ k. (n : ℕ) → n ≢ command_frame k → slice_get m3 n ≡ slice_get m0 n) c.requires.frames all.other_frames;
      size = all.size;
    }
