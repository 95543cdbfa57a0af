use Rattle.std.proofs.Common.{◌≡◌, ◌*◌, length, take}
use Rattle.iom_script.specs.Cuts.{SaysFirst}
use Rattle.iom_script.proofs.words.put_wide.Given as goal

-- the groups so far say the first bytes
abbrev pub invariant-loop-group : goal.invariant-loop-group
invariant-loop-group l = (length l.text ≡ 2 * length l.places) × SaysFirst l.text (64 * l.group) (take (64 * l.group) l.places)
