use Rattle.std.proofs.Common.{◌≡◌, ◌*◌, take, length}
use Rattle.iom_fault_queue.specs.Grammar.{word_bytes}
use Rattle.iom_fault_queue.proofs.bytes.to_bytes.Given as goal

-- the bytes so far are those of the words so far
abbrev pub invariant-loop-place : goal.invariant-loop-place
invariant-loop-place l = (length l.bytes ≡ 32) × (take (8 * l.place) l.bytes ≡ word_bytes (take l.place l.words))
