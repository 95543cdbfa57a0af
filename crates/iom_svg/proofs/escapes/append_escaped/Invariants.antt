use Rattle.std.proofs.Common.{◌≡◌, ◌++◌, take}
use Rattle.iom_svg.specs.Escapes.{escaped}
use Rattle.iom_svg.proofs.escapes.append_escaped.Given as goal

-- what stands for the bytes so far was appended
abbrev pub invariant-loop-byte : goal.invariant-loop-byte
invariant-loop-byte l = l.bytes.items ≡ l.initial.bytes.items ++ escaped (take l.byte-index l.text)
