-- The numbers so far are those of the disks before this one.
use Rattle.std.proofs.Common.{◌≡◌, take}
use Rattle.iom_block_devices.specs.Entries.{numbers_of}
use Rattle.iom_block_devices.proofs.numbering.numbers_of.Given as goal

abbrev pub invariant-loop-one : goal.invariant-loop-one
invariant-loop-one g l = l.numbers.items ≡ numbers_of (take l.one-index l.at_hand)
