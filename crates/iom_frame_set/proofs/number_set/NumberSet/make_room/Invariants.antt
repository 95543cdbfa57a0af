use Rattle.std.proofs.Common.{◌≡◌, ◌≤◌, ◌/◌, ◌+◌, ℕ, length, max, get_or}
use Rattle.iom_frame_set.specs.Sets.{nth_word}
use Rattle.iom_frame_set.proofs.number_set.NumberSet.make_room.Given as goal

-- the list is as long as the counter says, and each word is as it was
abbrev pub invariant-loop-counted : goal.invariant-loop-counted
invariant-loop-counted l = record {
  long : length l.self-inside.words.items ≡ l.counted;
  grows : length l.fn.self.kept ≤ length l.self-inside.words.items;
  no_further : length l.self-inside.words.items ≤ max (length l.fn.self.kept) (l.number / 64 + 1);
  beyond : l.self-inside.beyond ≡ l.fn.self.beyond;
  same : (i : ℕ) → get_or l.self-inside.words.items i l.self-inside.beyond ≡ nth_word l.fn.self i;
}
