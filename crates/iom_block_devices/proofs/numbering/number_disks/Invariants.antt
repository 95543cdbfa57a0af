-- The disks so far have their numbers, and those that are left will have the next ones.
use Rattle.std.proofs.Common.{◌≡◌, ◌++◌, length}
use Rattle.iom_block_devices.specs.Numbered.{numbered}
use Rattle.iom_block_devices.specs.Shown.{shown_disks, states_of}
use Rattle.iom_block_devices.proofs.numbering.number_disks.Given as goal

abbrev pub invariant-loop-at_hand : goal.invariant-loop-at_hand
invariant-loop-at_hand g l =
    shown_disks g.D.Disk.shown l.at_hand.items
    ++ numbered (length l.at_hand.items) (states_of g.D.Disk.shown l.rest.items) ≡ numbered 0 (states_of g.D.Disk.shown l.fn.disks.items)

abbrev pub decreases-loop-at_hand : goal.decreases-loop-at_hand
decreases-loop-at_hand g l = length l.rest.items
