-- Commands and the bytes that they stand in.
use Rattle.std.proofs.Common.{◌≡◌, ◌≢◌, ◌+◌, ◌/◌, ◌%◌, ◌<◌, ◌∙◌, ℕ, List, length, slice_get, Option, Some, None, Ok, refl, ap, arith}
use Rattle.std.specs.Prelude.{IsSome, OnSome, ◌↔◌}
use Rattle.iom_phys_mem.specs.Words.{word_at, byte_at, with_word, IsPlace}
use Rattle.iom_command_queue.specs.declared.command.Command.{Command}
use Rattle.iom_command_queue.specs.declared.entry.QueueEntry.TheVariants as stands
use Rattle.iom_command_queue.specs.Legal.{decoded}
use Rattle.iom_command_queue.specs.Encoded.{first_word, second_word}
use Rattle.iom_command_queue.specs.Waiting.{entry_at, decoded_entry, entry_by_words, WritesCommand}

word_of_frame : (old new : List (List ℕ)) (a frame : ℕ) → a / 4096 ≡ frame → slice_get new frame ≡ slice_get old frame → word_at 8 new a ≡ word_at 8 old a
word_of_frame old new a frame at same = rw (at, same) refl

-- a command depends on its words alone
pub of_same_words : (old new : List (List ℕ)) (a : ℕ) → word_at 8 new a ≡ word_at 8 old a → word_at 8 new (a + 8) ≡ word_at 8 old (a + 8) → entry_at new a ≡ entry_at old a
unfolding entry_at
of_same_words old new a first second = ap (λ w. entry_by_words w (word_at 8 new (a + 8))) first ∙ ap (λ w. entry_by_words (word_at 8 old a) w) second

-- a command depends on its frame alone
pub of_same_frame : (old new : List (List ℕ)) (a : ℕ) → a % 16 ≡ 0 → slice_get new (a / 4096) ≡ slice_get old (a / 4096) → entry_at new a ≡ entry_at old a
of_same_frame old new a aligned same =
    of_same_words old new a (word_of_frame old new a (a / 4096) refl same) (word_of_frame old new (a + 8) (a / 4096) (omega arith) same)

given_some : {U : Type 0} (o : Option U) (P : Type 0) → IsSome o → OnSome o P → P
given_some (Some u) P is h = h
given_some None P is h = let no : ⊥ = cc in absurd no

of_two_words : (new : List (List ℕ)) (a : ℕ) (command : Command) → decoded (first_word command) (second_word command) ≡ Ok command
    → word_at 8 new a ≡ Some (first_word command) → word_at 8 new (a + 8) ≡ Some (second_word command) → entry_at new a ≡ stands.Command command
unfolding entry_at
of_two_words new a command reads first second =
    ap (λ w. entry_by_words w (word_at 8 new (a + 8))) first ∙ ap (λ w. entry_by_words (Some (first_word command)) w) second ∙ ap decoded_entry reads

pub puts : {U V : Type 0} (old mid new : List (List ℕ)) (address : ℕ) (command : Command) (first second : ℕ) (done : Option U) (done2 : Option V)
    → decoded (first_word command) (second_word command) ≡ Ok command → first ≡ first_word command → second ≡ second_word command
    → address % 16 ≡ 0 → address / 4096 < length old
    → (IsSome done ↔ IsPlace 8 old address) → OnSome done (word_at 8 mid address ≡ Some first)
    → ((a : ℕ) → a ≢ address → word_at 8 mid a ≡ word_at 8 old a)
    → ((a : ℕ) → a / 8 ≢ address / 8 → byte_at mid a ≡ byte_at old a)
    → ((n : ℕ) → n ≢ address / 4096 → slice_get mid n ≡ slice_get old n) → length mid ≡ length old
    → OnSome done (mid ≡ with_word 8 old address first)
    → (IsSome done2 ↔ IsPlace 8 mid (address + 8)) → OnSome done2 (word_at 8 new (address + 8) ≡ Some second)
    → ((a : ℕ) → a ≢ address + 8 → word_at 8 new a ≡ word_at 8 mid a)
    → ((a : ℕ) → a / 8 ≢ (address + 8) / 8 → byte_at new a ≡ byte_at mid a)
    → ((n : ℕ) → n ≢ (address + 8) / 4096 → slice_get new n ≡ slice_get mid n) → length new ≡ length mid
    → OnSome done2 (new ≡ with_word 8 mid (address + 8) second)
    → WritesCommand old address command new
puts old mid new address command first second done done2 reads first_is second_is aligned inside
    place stored words bytes frames size whole place2 stored2 words2 bytes2 frames2 size2 whole2 =
    let is : IsSome done = place.1 (omega arith, inside) in
    let is2 : IsSome done2 = place2.1 (omega arith, omega (arith, size)) in
    let same_frame : (address + 8) / 4096 ≡ address / 4096 = omega arith in
    let low : word_at 8 new address ≡ Some (first_word command) =
    words2 address (λ e. omega (arith, e)) ∙ given_some done _ is stored ∙ ap (λ w. Some w) first_is in
    let high : word_at 8 new (address + 8) ≡ Some (second_word command) = given_some done2 _ is2 stored2 ∙ ap (λ w. Some w) second_is in
    record {
      there = of_two_words new address command reads low high;
      other_entries = λ a at n. of_same_words old new a
          (words2 a (λ e. omega (arith, e)) ∙ words a n)
          (words2 (a + 8) (λ e. n (omega (arith, e))) ∙ words (a + 8) (λ e. omega (arith, e)));
      other_bytes = λ a n. bytes2 a (λ e. n (omega (arith, e))) ∙ bytes a (λ e. n (omega (arith, e)));
      other_frames = λ n ne. frames2 n (λ e. ne (e ∙ same_frame)) ∙ frames n ne;
      frames = size2 ∙ size;
      whole = given_some done2 _ is2 whole2 ∙ ap (λ m. with_word 8 m (address + 8) second) (given_some done _ is whole)
          ∙ ap (λ w. with_word 8 (with_word 8 old address w) (address + 8) second) first_is
          ∙ ap (λ w. with_word 8 (with_word 8 old address (first_word command)) (address + 8) w) second_is;
    }
