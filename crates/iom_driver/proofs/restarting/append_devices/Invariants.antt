use Rattle.std.proofs.Common.{◌≡◌, ◌≢◌, ◌≤◌, ◌*◌, ℕ, take, length, slice_get}
use Rattle.iom_command_queue.specs.Waiting.{how_many}
use Rattle.iom_driver.specs.Appends.{AppendsAll}
use Rattle.iom_driver.specs.Directory.{KeepsDirectory}
use Rattle.iom_driver.specs.Layout.{command_frame}
use Rattle.iom_driver.specs.Ready.{IsRing, KeepsFaults}
use Rattle.iom_driver.specs.Restarts.{all_requeued}
use Rattle.iom_driver.proofs.restarting.append_devices.Given as goal

-- the commands for the devices up to this place are appended
abbrev pub invariant-loop-k : goal.invariant-loop-k
invariant-loop-k g l = record {
  appended : AppendsAll g.M.Mmio l.fn.memory l.fn.io (all_requeued (take l.k l.devices)) l.memory l.io;
  count : how_many (g.M.Mmio.registers l.io) ≤ 3 * l.k;
  ring : IsRing (length l.fn.memory) (g.M.Mmio.registers l.io);
  named : KeepsDirectory (g.M.Mmio.registers l.fn.io) (g.M.Mmio.registers l.io);
  faults : KeepsFaults (g.M.Mmio.registers l.fn.io) (g.M.Mmio.registers l.io);
  other_frames : (n : ℕ) → n ≢ command_frame (length l.fn.memory) → slice_get l.memory n ≡ slice_get l.fn.memory n;
  size : length l.memory ≡ length l.fn.memory;
}
