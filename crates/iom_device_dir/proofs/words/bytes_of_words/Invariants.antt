-- The bytes so far are those of the words so far.
use Rattle.std.proofs.Common.{◌≡◌, ◌*◌, take, length}
use Rattle.iom_device_dir.specs.Words.{words_as_bytes}
use Rattle.iom_device_dir.proofs.words.bytes_of_words.Given as goal

abbrev pub invariant-loop-place : goal.invariant-loop-place
invariant-loop-place l = (length l.bytes ≡ 32) × (take (8 * l.place) l.bytes ≡ words_as_bytes (take l.place l.words))
