-- What is written and the digits of what is left are all.
use Rattle.std.proofs.Common.{◌≡◌, ◌++◌, drop}
use Rattle.iom_script.specs.Digits.{hex_of}
use Rattle.iom_litmus_looks.proofs.looks.hex_of.Given as goal

abbrev pub invariant-loop-byte : goal.invariant-loop-byte
invariant-loop-byte l = l.text ++ hex_of (drop l.byte-index l.bytes) ≡ hex_of l.bytes
