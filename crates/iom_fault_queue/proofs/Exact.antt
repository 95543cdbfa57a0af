-- The grammar of records and the function that reads them say the same, and the bytes that are written mean the record.
use Rattle.std.proofs.Common.{◌≡◌, ◌≤◌, ◌^◌, ◌+◌, ◌*◌, ◌<◌, ◌++◌, ℕ, zero, suc, inl, inr, Bool, true, false, List, [], ◌∷◌, length, drop, Option, Some, None, if◌then◌else◌, refl, sym, ap, ◌∙◌, arith}
use Rattle.std.specs.Prelude.{IfSome, IfNone}
use Rattle.std.proofs.lemmas.Bool.Decides.{eqb_tells}
use Rattle.byteorder.specs.Endian.{little_number, little_bytes}
use Rattle.std.proofs.Math.Seq.{drop-append_seam}
use Rattle.std.proofs.Math.Nat.{mul-zero}
use Rattle.std.proofs.lemmas.List.{drop-drop}
use Rattle.byteorder.specs.Numbers.{little_number-reads_back, length-bytes_low_first}
use Rattle.iom_base.specs.Causes.{code_of}
use Rattle.iom_base.specs.declared.cause.Cause.{Cause}
use Rattle.iom_fault_queue.specs.declared.transaction.Transaction.{Transaction}
use Rattle.iom_registers.specs.Bits.{bits}
use Rattle.iom_fault_queue.specs.Fields.{Fields, AreLawful, type_of, transaction_of, cause_of, is_iotval2}
use Rattle.iom_fault_queue.specs.Grammar.{word_of, word_bytes, words, cause_word, AreWords, IsFirstWord, IsRecord, record_of_words, with_names, decoded_record, encoded_record}
use Rattle.iom_fault_queue.proofs.Numbers.{code_of-cause_of, cause_of-code_of, code_fits, type_of-transaction_of, transaction_of-type_of, type_fits}

-- what was named is by its numbers
named : (first second third fourth : ℕ) → bits 33 12 first ≡ 0 → second ≡ 0 → (cause : Option Cause) (transaction : Option Transaction)
    → IfSome cause (λ c. bits 11 0 first ≡ code_of c) → IfSome transaction (λ t. bits 39 34 first ≡ type_of t)
    → IfSome (with_names cause transaction (bits 63 40 first) third fourth) (AreWords first second third fourth)
named first second third fourth no_process zero_is (Some cause) (Some transaction) c t = by (is_iotval2 cause fourth) refl
  where
    by : (b : Bool) → is_iotval2 cause fourth ≡ b
        → IfSome (if b then Some (record { cause = cause; transaction = transaction; device = bits 63 40 first; iotval = third; iotval2 = fourth }) else None) (AreWords first second third fourth)
    by true is = record {
      first_is = record { cause = c; no_process = no_process; transaction = t; device = refl };
      second_is = zero_is;
      third_is = refl;
      fourth_is = refl;
      agrees = is;
    }
    by false is = tt
named first second third fourth no_process zero_is (Some cause) None c t = tt
named first second third fourth no_process zero_is None transaction c t = tt

-- what is read is in the grammar
pub read_is : (first second third fourth : ℕ) → IfSome (record_of_words first second third fourth) (AreWords first second third fourth)
read_is first second third fourth =
    elim (eqb_tells (bits 33 12 first) 0) [
      | inl h ↦ elim (eqb_tells second 0) [
        | inl k ↦ rw (h.0, k.0) (named first second third fourth h.1 k.1 (cause_of (bits 11 0 first)) (transaction_of (bits 39 34 first)) (code_of-cause_of (bits 11 0 first)) (type_of-transaction_of (bits 39 34 first)))
        | inr k ↦ rw (h.0, k.0) tt
      ]
      | inr h ↦ rw h.0 tt
    ]

-- what is in the grammar is read
pub is_read : (first second third fourth : ℕ) (f : Fields) → AreWords first second third fourth f → record_of_words first second third fourth ≡ Some f
is_read first second third fourth f are =
    let w = are.first_is in
    rw (w.no_process, are.second_is, w.cause, w.transaction, cause_of-code_of f.cause, transaction_of-type_of f.transaction, w.device, are.third_is, are.fourth_is, are.agrees) refl

-- the first word has the fields in their bits
pub cause_word_is : (f : Fields) → f.device < 16777216 → IsFirstWord (cause_word f) f
cause_word_is f small =
    let c = code_fits f.cause in
    let t = type_fits f.transaction in
    record { cause = omega arith; no_process = omega arith; transaction = omega arith; device = omega arith }

pub cause_word_fits : (f : Fields) → f.device < 16777216 → cause_word f < 18446744073709551616
cause_word_fits f small = let c = code_fits f.cause in let t = type_fits f.transaction in omega arith

-- the bytes of words, each of n bytes
unfoldable pub bytes_by : ℕ → List ℕ → List ℕ
bytes_by n [] = []
bytes_by n (word ∷ words) = little_bytes n word ++ bytes_by n words

pub by_eight : (words : List ℕ) → word_bytes words ≡ bytes_by 8 words
unfolding bytes_by
by_eight [] = refl
by_eight (word ∷ words) = ap (λ bytes. little_bytes 8 word ++ bytes) (by_eight words)

-- the words from a place on
drop-bytes_by : (n k : ℕ) (words : List ℕ) → k ≤ length words → drop (n * k) (bytes_by n words) ≡ bytes_by n (drop k words)
unfolding bytes_by
drop-bytes_by n zero words le = ap (λ m. drop m (bytes_by n words)) (mul-zero n)
drop-bytes_by n (suc k) [] le = absurd (omega arith)
drop-bytes_by n (suc k) (word ∷ words) le =
    let long : length (little_bytes n word) ≡ n = length-bytes_low_first 0 n word in
    let more : n * suc k ≡ n + n * k = omega arith in
    ap (λ m. drop m (little_bytes n word ++ bytes_by n words)) more
    ∙ sym (drop-drop (n * k) n (little_bytes n word ++ bytes_by n words))
    ∙ ap (λ m. drop (n * k) (drop m (little_bytes n word ++ bytes_by n words))) (sym long)
    ∙ ap (drop (n * k)) (drop-append_seam (little_bytes n word) (bytes_by n words))
    ∙ drop-bytes_by n k words (omega arith)

-- a word that was written is read back
word_back : (n k word : ℕ) (words rest : List ℕ) → k ≤ length words → drop k words ≡ word ∷ rest → word < 256 ^ n
    → little_number n (drop (n * k) (bytes_by n words)) ≡ word
unfolding bytes_by
word_back n k word words rest le at small =
    ap (little_number n) (drop-bytes_by n k words le ∙ ap (bytes_by n) at) ∙ little_number-reads_back n word (bytes_by n rest) small

same_words : (a b c d first second third fourth : ℕ) (f : Fields) → first ≡ a → second ≡ b → third ≡ c → fourth ≡ d → AreWords a b c d f → AreWords first second third fourth f
same_words a b c d first second third fourth f e g h k are = rw (e, g, h, k) are

-- four words that were written are read back
four_back : (a b c d : ℕ) → a < 18446744073709551616 → b < 18446744073709551616 → c < 18446744073709551616 → d < 18446744073709551616
    → (words : List ℕ) → words ≡ a ∷ b ∷ c ∷ d ∷ [] → (f : Fields) → AreWords a b c d f → IsRecord (word_bytes words) f
unfolding word_of
four_back a b c d sa sb sc sd words is f are =
    let e = by_eight words in
    let long : length words ≡ 4 = ap length is in
    let back : (k word : ℕ) (rest : List ℕ) → k < 4 → drop k words ≡ word ∷ rest → word < 18446744073709551616 → word_of (word_bytes words) k ≡ word =
    λ k word rest lt at small. ap (λ bytes. word_of bytes k) e ∙ word_back 8 k word words rest (omega arith) at small in
    same_words a b c d (word_of (word_bytes words) 0) (word_of (word_bytes words) 1) (word_of (word_bytes words) 2) (word_of (word_bytes words) 3) f
    (back 0 a (b ∷ c ∷ d ∷ []) (omega arith) is sa)
    (back 1 b (c ∷ d ∷ []) (omega arith) (ap (drop 1) is) sb)
    (back 2 c (d ∷ []) (omega arith) (ap (drop 2) is) sc)
    (back 3 d [] (omega arith) (ap (drop 3) is) sd)
    are

-- the bytes that are written mean the record
pub encoded_is : (f : Fields) → AreLawful f → IsRecord (encoded_record f) f
unfolding encoded_record
encoded_is f lawful =
    four_back (cause_word f) 0 f.iotval f.iotval2 (cause_word_fits f lawful.0) (omega arith) lawful.1 lawful.2 (words f) refl f
    (record { first_is = cause_word_is f lawful.0; second_is = refl; third_is = refl; fourth_is = refl; agrees = lawful.3 })

-- what the words of these bytes are read as, by the grammar
pub decoded_is : (bytes : List ℕ) → IfSome (decoded_record bytes) (IsRecord bytes)
unfolding decoded_record
decoded_is bytes = read_is (word_of bytes 0) (word_of bytes 1) (word_of bytes 2) (word_of bytes 3)

pub is_decoded : (bytes : List ℕ) (f : Fields) → IsRecord bytes f → decoded_record bytes ≡ Some f
unfolding decoded_record
is_decoded bytes f are = is_read (word_of bytes 0) (word_of bytes 1) (word_of bytes 2) (word_of bytes 3) f are

-- what is read is the only record that the bytes are, and where nothing is they are none
pub only_one : (bytes : List ℕ) (o : Option Fields) → decoded_record bytes ≡ o → IfSome o (λ r. (other : Fields) → IsRecord bytes other → other ≡ r)
only_one bytes (Some r) is = λ other are. let e : Some other ≡ Some r = sym (is_decoded bytes other are) ∙ is in cc
only_one bytes None is = tt

pub none_is : (bytes : List ℕ) (o : Option Fields) → decoded_record bytes ≡ o → IfNone o ((other : Fields) → ¬ IsRecord bytes other)
none_is bytes (Some r) is = tt
none_is bytes None is = λ other are. let e : Some other ≡ None = sym (is_decoded bytes other are) ∙ is in cc

-- what is written is read back
pub reads_back : (f : Fields) → AreLawful f → decoded_record (encoded_record f) ≡ Some f
reads_back f lawful = is_decoded (encoded_record f) f (encoded_is f lawful)
