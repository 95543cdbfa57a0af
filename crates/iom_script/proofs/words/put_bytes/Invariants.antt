use Rattle.std.proofs.Common.{◌≡◌, ◌*◌, length, take}
use Rattle.iom_script.specs.Cuts.{SaysFirst}
use Rattle.iom_script.proofs.words.put_bytes.Given as goal

-- the digits so far say the first bytes
abbrev pub invariant-loop-i : goal.invariant-loop-i
invariant-loop-i l = (length l.text ≡ 2 * length l.places) × SaysFirst l.text l.i (take l.i l.places)
