use Rattle.std.proofs.Common.{◌<◌, ◌∙◌, false, length, ap, subst, arith}
use Rattle.iom_driver.specs.declared.device.Attachment.TheVariants.{Detached}
use Rattle.iom_driver.specs.Layout.{command_frame}
use Rattle.iom_driver.specs.Ready.{IsRing}
use Rattle.iom_driver.proofs.AppendLists.{requeued_next}
use Rattle.iom_driver.proofs.restarting.append_devices.Goals as goal

pub loop-k-preserved : goal.loop-k-preserved
loop-k-preserved g c =
    let now = c.append_device.ensures in
    let before = c.loop-k.invariant in
    let inside : c.loop-k.k < length c.args.devices.now = c.loop-k-test.true in
    record {
      appended = requeued_next g.M.Mmio c.args.devices.now c.loop-k.k (record { id = 0; trusted = false; attachment = Detached }) c.args.memory.now c.loop-k.memory c.append_device.new.memory
          c.args.io.now c.loop-k.io c.append_device.new.io inside before.appended now.appended;
      count = omega (arith, before.count, now.count);
      ring = subst (λ n. IsRing n (g.M.Mmio.registers c.append_device.new.io)) before.size now.ring;
      named = (now.named.0 ∙ before.named.0, now.named.1 ∙ before.named.1);
      faults = record { on = now.faults.on ∙ before.faults.on; base = now.faults.base ∙ before.faults.base; head = now.faults.head ∙ before.faults.head; tail = now.faults.tail ∙ before.faults.tail };
      other_frames = λ n apart. now.other_frames n (λ same. apart (same ∙ ap command_frame before.size)) ∙ before.other_frames n apart;
      size = now.size ∙ before.size;
    }
