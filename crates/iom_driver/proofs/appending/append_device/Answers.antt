use Rattle.std.proofs.Common.{◌≡◌, ◌+◌, ◌<◌, ◌≤◌, ◌^◌, ◌∙◌, Bool, Option, IfSome, sym, subst, arith}
use Rattle.iom_command_queue.specs.declared.command.Command.{Command}
use Rattle.iom_command_queue.specs.Waiting.{how_many}
use Rattle.iom_driver.specs.declared.device.Stages.{Stages}
use Rattle.iom_driver.specs.Appends.{Appends, AppendsAll}
use Rattle.iom_driver.specs.Devices.{is_attached_with_ats}
use Rattle.iom_driver.specs.Ready.{IsRing}
use Rattle.iom_driver.specs.Restarts.{device_reset, requeued_for}
use Rattle.iom_driver.proofs.Appended.{GoesOn, goes_on}
use Rattle.iom_driver.proofs.appending.append_device.Goals as goal

pub append-requires : goal.append-requires
append-requires g c =
    let room : how_many (g.M.Mmio.registers c.args.io.now) + 3 < 256 = c.requires.room in
    record { many = c.requires.many; ring = c.requires.ring; room = omega (arith, room) }

pub append-requires-2 : goal.append-requires-2
append-requires-2 g c =
    let r1 = g.M.Mmio.registers c.append.new.io in
    let room : how_many (g.M.Mmio.registers c.args.io.now) + 3 < 256 = c.requires.room in
    let one : how_many r1 ≡ how_many (g.M.Mmio.registers c.args.io.now) + 1 = c.append.ensures.count in
    record {
      many = subst (λ n. 64 ≤ n) (sym c.append.ensures.size) c.requires.many;
      ring = subst (λ n. IsRing n r1) (sym c.append.ensures.size) c.append.ensures.ring;
      room = omega (arith, room, one);
    }

pub append_device_reset-requires : goal.append_device_reset-requires
append_device_reset-requires g c =
    let r1 = g.M.Mmio.registers c.append.new.io in
    let r2 = g.M.Mmio.registers c.append-2.new.io in
    let room : how_many (g.M.Mmio.registers c.args.io.now) + 3 < 256 = c.requires.room in
    let one : how_many r1 ≡ how_many (g.M.Mmio.registers c.args.io.now) + 1 = c.append.ensures.count in
    let two : how_many r2 ≡ how_many r1 + 1 = c.append-2.ensures.count in
    record {
      many = subst (λ n. 64 ≤ n) (sym (c.append-2.ensures.size ∙ c.append.ensures.size)) c.requires.many;
      ring = subst (λ n. IsRing n r2) (sym c.append-2.ensures.size) c.append-2.ensures.ring;
      room = omega (arith, room, one, two);
      id = (subst (λ (o : Option Stages). IfSome o (λ (stage : Stages). (c.args.device.id < 2 ^ 24) × (stage.number < 2 ^ 16))) (sym c.owned_stages.ensures ∙ c.in-Some.is) c.requires.namable).0;
    }

pub returns : goal.returns
returns g c =
    let id = c.args.device.id in
    let attachment = c.args.device.attachment in
    let m0 = c.args.memory.now in
    let m1 = c.append.new.memory in
    let m2 = c.append-2.new.memory in
    let m3 = c.append_device_reset.new.memory in
    let io0 = c.args.io.now in
    let io1 = c.append.new.io in
    let io2 = c.append-2.new.io in
    let io3 = c.append_device_reset.new.io in
    let r0 = g.M.Mmio.registers io0 in
    let r1 = g.M.Mmio.registers io1 in
    let r2 = g.M.Mmio.registers io2 in
    let r3 = g.M.Mmio.registers io3 in
    let reset = c.append_device_reset.ensures in
    let one : GoesOn r0 r1 m0 m1 = record { named = c.append.ensures.named; faults = c.append.ensures.faults; other_frames = c.append.ensures.other_frames; size = c.append.ensures.size } in
    let two : GoesOn r1 r2 m1 m2 = record { named = c.append-2.ensures.named; faults = c.append-2.ensures.faults; other_frames = c.append-2.ensures.other_frames; size = c.append-2.ensures.size } in
    let three : GoesOn r2 r3 m2 m3 = record { named = reset.named; faults = reset.faults; other_frames = reset.other_frames; size = reset.size } in
    let both = goes_on r0 r1 r2 m0 m1 m2 one two in
    let all = goes_on r0 r2 r3 m0 m2 m3 both three in
    let count_1 : how_many r1 ≡ how_many r0 + 1 = c.append.ensures.count in
    let count_2 : how_many r2 ≡ how_many r1 + 1 = c.append-2.ensures.count in
    let count_3 : how_many r3 ≤ how_many r2 + 1 = reset.count in
    record {
      appended =
          subst (λ (owned : Option Stages). AppendsAll g.M.Mmio m0 io0 (requeued_for id owned (is_attached_with_ats attachment)) m3 io3) (sym c.in-Some.is ∙ c.owned_stages.ensures) (
            m1,
            io1,
            subst (λ (command : Command). Appends g.M.Mmio m0 io0 command m1 io1) c.context_invalidation.ensures c.append.ensures.appended,
            (
              m2,
              io2,
              subst (λ (command : Command). Appends g.M.Mmio m1 io1 command m2 io2) c.space_invalidation.ensures c.append-2.ensures.appended,
              subst (λ (ats : Bool). AppendsAll g.M.Mmio m2 io2 (device_reset id ats) m3 io3) c.asks_for_translations.ensures reset.appended,
            ),
          );
      count = omega (arith, count_1, count_2, count_3);
      ring = subst (λ n. IsRing n r3) both.size reset.ring;
      named = all.named;
      faults = all.faults;
      other_frames = all.other_frames;
      size = all.size;
    }
