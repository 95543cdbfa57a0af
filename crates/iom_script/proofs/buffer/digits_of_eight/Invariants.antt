use Rattle.std.proofs.Common.{◌≡◌, ◌*◌, length, take}
use Rattle.iom_script.specs.Digits.{hex_of}
use Rattle.iom_script.proofs.buffer.digits_of_eight.Given as goal

-- the digits so far are those of the first bytes
abbrev pub invariant-loop-i : goal.invariant-loop-i
invariant-loop-i l =
    record {
      room : length l.digits ≡ 16;
      written : take (2 * l.i) l.digits ≡ hex_of (take l.i l.bytes);
    }
