use Rattle.std.proofs.Common.{◌<◌, ◌∙◌, length}
use Rattle.iom_machine.specs.Leaving.{device_once_confirmed}
use Rattle.iom_machine.proofs.LeavingLemmas.{one_more_changed}
use Rattle.iom_kept_state.proofs.leaving.detach_all.Goals as goal

pub loop-place-preserved : goal.loop-place-preserved
loop-place-preserved c =
    let below : c.loop-place.place < length c.args.devices.now = rw c.as_slice-place-end.ensures at c.loop-place-test.true in
    record {
      so_far = λ h past. (one_more_changed (device_once_confirmed h) c.args.devices.now c.loop-place.devices c.detach.new.devices c.loop-place.place below
          (c.loop-place.invariant.so_far h past) c.loop-place.invariant.size (c.detach.ensures.detached h past)).0;
      size = c.detach.ensures.size ∙ c.loop-place.invariant.size;
    }
