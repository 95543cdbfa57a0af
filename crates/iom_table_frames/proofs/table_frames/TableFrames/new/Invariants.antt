use Rattle.std.proofs.Common.{◌≡◌, ◌<◌, ◌-◌, ◌++◌, ℕ, None, Some, nat_lt, replicate}
use Rattle.iom_frame_set.specs.Sets.{has, room}
use Rattle.iom_base.specs.declared.owner.Owner.TheVariants.{System}
use Rattle.iom_table_frames.proofs.table_frames.TableFrames.new.Given as goal

-- so many frames have no owner, and are in the set
abbrev pub invariant-loop-frame : goal.invariant-loop-frame
invariant-loop-frame l = record {
  owners : l.owners.items ≡ replicate l.frame None;
  unreserved : (f : ℕ) → has l.unreserved f ≡ nat_lt f l.frame;
  roomy : l.frames < room l.unreserved;
}

-- then so many are the system's
abbrev pub invariant-loop-fixed : goal.invariant-loop-fixed
invariant-loop-fixed l = l.owners.items ≡ replicate (l.frames - 4) None ++ replicate l.fixed (Some System)
