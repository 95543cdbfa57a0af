use Rattle.std.proofs.Common.{◌≡◌, ◌+◌, ◌*◌, ◌++◌, ◌∷◌, length, drop}
use Rattle.iom_script.specs.Digits.{hex_of}
use Rattle.iom_event_text.proofs.words.append_bytes.Given as goal

-- what is written and the digits of what is left are all
abbrev pub invariant-loop-byte : goal.invariant-loop-byte
invariant-loop-byte l =
    record {
      written : l.out ++ hex_of (drop l.byte-index l.bytes) ≡ l.fn.out ++ 32 ∷ hex_of l.bytes;
      len : length l.out ≡ length l.fn.out + 1 + 2 * l.byte-index;
    }
