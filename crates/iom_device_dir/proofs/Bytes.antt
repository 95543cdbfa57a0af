-- Words that were written as bytes are read back.
use Rattle.std.proofs.Common.{◌≡◌, ◌≤◌, ◌^◌, ◌+◌, ◌*◌, ◌<◌, ◌++◌, ℕ, zero, suc, List, [], ◌∷◌, length, drop, refl, sym, ap, ◌∙◌, arith}
use Rattle.byteorder.specs.Endian.{little_number, little_bytes}
use Rattle.byteorder.specs.Numbers.{little_number-reads_back, length-bytes_low_first}
use Rattle.std.proofs.Math.Seq.{drop-append_seam}
use Rattle.std.proofs.Math.Nat.{mul-zero}
use Rattle.std.proofs.lemmas.List.{drop-drop}
use Rattle.iom_device_dir.specs.declared.words.ContextWords.{ContextWords}
use Rattle.iom_device_dir.specs.Words.{context_word, context_words, words_as_bytes, context_bytes}

-- the bytes of words, each of n bytes
unfoldable bytes_by : ℕ → List ℕ → List ℕ
bytes_by n [] = []
bytes_by n (word ∷ words) = little_bytes n word ++ bytes_by n words

by_eight : (words : List ℕ) → words_as_bytes words ≡ bytes_by 8 words
unfolding bytes_by
by_eight [] = refl
by_eight (word ∷ words) = ap (λ bytes. little_bytes 8 word ++ bytes) (by_eight words)

-- the words from a place on
drop-bytes_by : (n k : ℕ) (words : List ℕ) → k ≤ length words → drop (n * k) (bytes_by n words) ≡ bytes_by n (drop k words)
unfolding bytes_by
drop-bytes_by n zero words le = ap (λ m. drop m (bytes_by n words)) (mul-zero n)
drop-bytes_by n (suc k) [] le = absurd (omega arith)
drop-bytes_by n (suc k) (word ∷ words) le =
    let long : length (little_bytes n word) ≡ n = length-bytes_low_first 0 n word in
    let more : n * suc k ≡ n + n * k = omega arith in
    ap (λ m. drop m (little_bytes n word ++ bytes_by n words)) more
    ∙ sym (drop-drop (n * k) n (little_bytes n word ++ bytes_by n words))
    ∙ ap (λ m. drop (n * k) (drop m (little_bytes n word ++ bytes_by n words))) (sym long)
    ∙ ap (drop (n * k)) (drop-append_seam (little_bytes n word) (bytes_by n words))
    ∙ drop-bytes_by n k words (omega arith)

-- a word that was written is read back
word_back : (n k word : ℕ) (words rest : List ℕ) → k ≤ length words → drop k words ≡ word ∷ rest → word < 256 ^ n
    → little_number n (drop (n * k) (bytes_by n words)) ≡ word
unfolding bytes_by
word_back n k word words rest le at small =
    ap (little_number n) (drop-bytes_by n k words le ∙ ap (bytes_by n) at) ∙ little_number-reads_back n word (bytes_by n rest) small

-- each word of a context fits in 8 bytes
pub record AreWide (w : ContextWords) : Type 0 where
  pub tc : w.tc < 18446744073709551616
  pub iohgatp : w.iohgatp < 18446744073709551616
  pub ta : w.ta < 18446744073709551616
  pub fsc : w.fsc < 18446744073709551616

same_words : (v w : ContextWords) → v.tc ≡ w.tc → v.iohgatp ≡ w.iohgatp → v.ta ≡ w.ta → v.fsc ≡ w.fsc → v ≡ w
same_words v w a b c d =
    let of_tc : ℕ → ContextWords = λ x. record { tc = x; iohgatp = v.iohgatp; ta = v.ta; fsc = v.fsc } in
    let of_iohgatp : ℕ → ContextWords = λ x. record { tc = w.tc; iohgatp = x; ta = v.ta; fsc = v.fsc } in
    let of_ta : ℕ → ContextWords = λ x. record { tc = w.tc; iohgatp = w.iohgatp; ta = x; fsc = v.fsc } in
    let of_fsc : ℕ → ContextWords = λ x. record { tc = w.tc; iohgatp = w.iohgatp; ta = w.ta; fsc = x } in
    ap of_tc a ∙ ap of_iohgatp b ∙ ap of_ta c ∙ ap of_fsc d

by_list : (words : List ℕ) (w : ContextWords) → words ≡ w.tc ∷ w.iohgatp ∷ w.ta ∷ w.fsc ∷ [] → AreWide w → context_words (words_as_bytes words) ≡ w
unfolding context_word
by_list words w is wide =
    let e = by_eight words in
    let long : length words ≡ 4 = ap length is in
    let back : (k word : ℕ) (rest : List ℕ) → k < 4 → drop k words ≡ word ∷ rest → word < 18446744073709551616 → context_word (words_as_bytes words) k ≡ word =
    λ k word rest lt at small. ap (λ bytes. context_word bytes k) e ∙ word_back 8 k word words rest (omega arith) at small in
    same_words (context_words (words_as_bytes words)) w
    (back 0 w.tc (w.iohgatp ∷ w.ta ∷ w.fsc ∷ []) (omega arith) is wide.tc)
    (back 1 w.iohgatp (w.ta ∷ w.fsc ∷ []) (omega arith) (ap (drop 1) is) wide.iohgatp)
    (back 2 w.ta (w.fsc ∷ []) (omega arith) (ap (drop 2) is) wide.ta)
    (back 3 w.fsc [] (omega arith) (ap (drop 3) is) wide.fsc)

-- the words of the bytes of words are those words
pub words_back : (w : ContextWords) → AreWide w → context_words (context_bytes w) ≡ w
words_back w wide = by_list (w.tc ∷ w.iohgatp ∷ w.ta ∷ w.fsc ∷ []) w refl wide
