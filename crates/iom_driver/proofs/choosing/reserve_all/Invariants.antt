use Rattle.std.proofs.Common.{◌≡◌, length, drop}
use Rattle.iom_driver.specs.Choices.{owned_by, cleared}
use Rattle.iom_driver.proofs.choosing.reserve_all.Given as goal

abbrev pub invariant-loop-frame : goal.invariant-loop-frame
invariant-loop-frame l = record {
  owners : owned_by l.owner (drop l.frame-index l.frames) l.owners ≡ owned_by l.owner l.frames l.initial.owners;
  memory : cleared (drop l.frame-index l.frames) l.memory ≡ cleared l.frames l.initial.memory;
  owned : length l.owners ≡ length l.initial.owners;
  inside : length l.memory ≡ length l.initial.memory;
}
