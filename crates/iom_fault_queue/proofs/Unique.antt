-- A record has one form in bytes: what its words are, and what a word's bytes are.
use Rattle.std.proofs.Common.{◌≡◌, ◌+◌, ◌*◌, ◌/◌, ◌%◌, ◌<◌, ◌≤◌, ◌^◌, ◌++◌, ℕ, zero, suc, List, [], ◌∷◌, length, drop, slice_index, refl, sym, ap, ◌∙◌, arith}
use Rattle.std.proofs.lemmas.List.{drop-drop, length-drop, get_or-drop}
use Rattle.std.proofs.Math.Nat.{div-div-eq-div-mul, pow-succ', mul-zero}
use Rattle.std.specs.Int.{byte_at, bytes_low_first}
use Rattle.byteorder.specs.Endian.{little_number, little_bytes}
use Rattle.byteorder.specs.Numbers.{little_from-cons, little_from-lt}
use Rattle.iom_fault_queue.specs.Fields.{Fields}
use Rattle.iom_fault_queue.specs.Grammar.{word_of, word_bytes, words, cause_word, AreWords, IsFirstWord, IsRecord, encoded_record}
use Rattle.iom_fault_queue.proofs.Exact.{bytes_by, by_eight}

-- the bytes of a number from the second on are those of the number over 256
byte_at-suc : (j x : ℕ) → byte_at (suc j) x ≡ byte_at j (x / 256)
byte_at-suc zero x = refl
byte_at-suc (suc j) x = ap (λ p. x / p % 256) (pow-succ' 256 (suc j)) ∙ ap (λ q. q % 256) (sym (div-div-eq-div-mul x 256 (256 ^ suc j)))

bytes-suc : (j n x : ℕ) → bytes_low_first (suc j) n x ≡ bytes_low_first j n (x / 256)
bytes-suc j zero x = refl
bytes-suc j (suc n) x =
    ap (λ b. b ∷ bytes_low_first (suc (suc j)) n x) (byte_at-suc j x) ∙ ap (λ bytes. byte_at j (x / 256) ∷ bytes) (bytes-suc (suc j) n x)

-- the bytes of the number that the first n bytes are, and the rest
number_bytes : (n : ℕ) (xs : List ℕ) → n ≤ length xs → ((i : ℕ) → slice_index xs i < 256) → little_bytes n (little_number n xs) ++ drop n xs ≡ xs
number_bytes zero xs long small = refl
number_bytes (suc n) [] long small = absurd (omega arith)
number_bytes (suc n) (a ∷ xs) long small =
    let first : a < 256 = small 0 in
    let whole : little_number (suc n) (a ∷ xs) ≡ a + 256 * little_number n xs = ap (λ r. a + 256 * r) (little_from-cons 0 n a xs) in
    let low : (a + 256 * little_number n xs) % 256 ≡ a = omega arith in
    let high : (a + 256 * little_number n xs) / 256 ≡ little_number n xs = omega arith in
    ap (λ v. little_bytes (suc n) v ++ drop n xs) whole
    ∙ ap (λ b. b ∷ bytes_low_first 1 n (a + 256 * little_number n xs) ++ drop n xs) low
    ∙ ap (λ bytes. a ∷ bytes ++ drop n xs) (bytes-suc 0 n (a + 256 * little_number n xs) ∙ ap (little_bytes n) high)
    ∙ ap (λ bytes. a ∷ bytes) (number_bytes n xs (omega arith) (λ i. small (suc i)))

-- so many words of n bytes each
unfoldable words_by : ℕ → ℕ → List ℕ → List ℕ
words_by n zero xs = []
words_by n (suc k) xs = little_number n xs ∷ words_by n k (drop n xs)

-- the bytes of the words that bytes are
words_bytes : (n k : ℕ) (xs : List ℕ) → length xs ≡ n * k → ((i : ℕ) → slice_index xs i < 256) → bytes_by n (words_by n k xs) ≡ xs
unfolding bytes_by words_by
words_bytes n zero [] long small = refl
words_bytes n zero (a ∷ xs) long small = let none : length (a ∷ xs) ≡ 0 = long ∙ mul-zero n in absurd (omega arith)
words_bytes n (suc k) xs long small =
    let more : n * suc k ≡ n + n * k = omega arith in
    let rest : length (drop n xs) ≡ n * k = length-drop n xs ∙ omega arith in
    let small_rest : (i : ℕ) → slice_index (drop n xs) i < 256 = λ i. rw (get_or-drop n xs i 0) (small (n + i)) in
    ap (λ bytes. little_bytes n (little_number n xs) ++ bytes) (words_bytes n k (drop n xs) rest small_rest)
    ∙ number_bytes n xs (omega arith) small

by_four : (xs : List ℕ) → words_by 8 4 xs ≡ word_of xs 0 ∷ word_of xs 1 ∷ word_of xs 2 ∷ word_of xs 3 ∷ []
unfolding words_by word_of
by_four xs =
    let two : drop 8 (drop 8 xs) ≡ drop 16 xs = drop-drop 8 8 xs in
    let three : drop 8 (drop 16 xs) ≡ drop 24 xs = drop-drop 8 16 xs in
    ap (λ ys. little_number 8 xs ∷ little_number 8 (drop 8 xs) ∷ little_number 8 ys ∷ little_number 8 (drop 8 ys) ∷ []) two
    ∙ ap (λ ys. little_number 8 xs ∷ little_number 8 (drop 8 xs) ∷ little_number 8 (drop 16 xs) ∷ little_number 8 ys ∷ []) three

-- 32 bytes are those of their four words
four_words : (xs : List ℕ) → length xs ≡ 32 → ((i : ℕ) → slice_index xs i < 256)
    → word_bytes (word_of xs 0 ∷ word_of xs 1 ∷ word_of xs 2 ∷ word_of xs 3 ∷ []) ≡ xs
four_words xs long small =
    by_eight (word_of xs 0 ∷ word_of xs 1 ∷ word_of xs 2 ∷ word_of xs 3 ∷ []) ∙ ap (bytes_by 8) (sym (by_four xs)) ∙ words_bytes 8 4 xs long small

-- the first word is by its bits
first_by_bits : (word : ℕ) (f : Fields) → word < 18446744073709551616 → IsFirstWord word f → word ≡ cause_word f
first_by_bits word f small is = omega (arith, is.cause, is.no_process, is.transaction, is.device)

-- the words are by the fields
by_fields : (first second third fourth : ℕ) (f : Fields) → first < 18446744073709551616 → AreWords first second third fourth f
    → first ∷ second ∷ third ∷ fourth ∷ [] ≡ words f
by_fields first second third fourth f small are = rw (first_by_bits first f small are.first_is, are.second_is, are.third_is, are.fourth_is) refl

word_fits : (bytes : List ℕ) (place : ℕ) → ((i : ℕ) → slice_index bytes i < 256) → word_of bytes place < 18446744073709551616
unfolding word_of
word_fits bytes place small = little_from-lt 0 8 (drop (8 * place) bytes) (λ i. rw (get_or-drop (8 * place) bytes i 0) (small (8 * place + i)))

-- 32 bytes that are a record are those that are written for it
pub only_bytes : (other : List ℕ) (f : Fields) → length other ≡ 32 → ((i : ℕ) → slice_index other i < 256) → IsRecord other f → other ≡ encoded_record f
unfolding encoded_record
only_bytes other f long small is =
    sym (four_words other long small)
    ∙ ap word_bytes (by_fields (word_of other 0) (word_of other 1) (word_of other 2) (word_of other 3) f (word_fits other 0 small) is)
