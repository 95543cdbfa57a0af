-- The four words of a context's 32 bytes, each the least byte first (IOMMU specification, section 2.1.3, base format).
use Rattle.std.specs.Prelude.{ℕ, ◌*◌, List, [], ◌∷◌, ◌++◌, drop}
use Rattle.byteorder.specs.Endian.{little_number, little_bytes}
use Rattle.iom_device_dir.specs.declared.words.ContextWords.{ContextWords}

-- the word of 8 bytes at a place
unfoldable pub context_word : List ℕ → ℕ → ℕ
context_word bytes place = little_number 8 (drop (8 * place) bytes)

-- translation control, second stage, translation attributes, first stage
abbrev pub context_words : List ℕ → ContextWords
context_words bytes = record { tc = context_word bytes 0; iohgatp = context_word bytes 1; ta = context_word bytes 2; fsc = context_word bytes 3 }

-- the bytes of words, one after the other
abbrev pub words_as_bytes : List ℕ → List ℕ
words_as_bytes [] = []
words_as_bytes (word ∷ words) = little_bytes 8 word ++ words_as_bytes words

abbrev pub context_bytes : ContextWords → List ℕ
context_bytes w = words_as_bytes (w.tc ∷ w.iohgatp ∷ w.ta ∷ w.fsc ∷ [])
