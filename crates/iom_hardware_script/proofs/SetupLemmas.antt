-- A line says which hardware there is by its one number, and by the word behind that where there is one.
use Rattle.std.proofs.Common.{◌≡◌, ◌==◌, ℕ, ◌⊎◌, inl, inr, List, [], ◌∷◌, ◌++◌, length, Option, Some, None, codes, if◌then◌else◌, ap, sym, subst, refl, ◌∙◌}
use Rattle.std.proofs.lemmas.List.{append_cancel_left}
use Rattle.iom_script.specs.Words.{◌␣◌, IsNumber}
use Rattle.iom_script.specs.Reading.{Reads}
use Rattle.iom_script.proofs.ReadsLemmas.{reads_some, reads_none, read_holds, read_only, read_nothing}
use Rattle.iom_script.proofs.CutLemmas.{cut_has_separator}
use Rattle.iom_script.proofs.DecimalLemmas.{number_without_space}
use Rattle.iom_script.proofs.FieldLemmas.{Followed}
use Rattle.iom_script.proofs.SameLemmas.{SaysOne, number_same, followed_same}
use Rattle.iom_hardware_script.specs.declared.script.Pace.{Pace}
use Rattle.iom_hardware_script.specs.declared.script.Pace.TheVariants.{Whole, Stepped, Pointed, Napot, PointedNapot}
use Rattle.iom_hardware_script.specs.declared.script.Setup.{Setup}
use Rattle.iom_hardware_script.specs.Grammar.{setup_words, IsFrameCount, IsSetupLine}
use Rattle.iom_hardware_script.specs.Parts.{paced_words, IsPaceWord, IsSizeAndPace}

-- the number and the pace, as one fact of a pair
abbrev pub SaidOf : List ℕ → ℕ × Pace → Type 0
SaidOf words said = IsSizeAndPace words said.0 said.1

-- the words of each pace, and of none other
abbrev word_of : Pace → Option (List ℕ)
word_of Whole = None
word_of Stepped = Some (codes "stepped")
word_of Pointed = Some (codes "nonleaf")
word_of Napot = Some (codes "napot")
word_of PointedNapot = Some (codes "nonleaf napot")

named_by : (word : List ℕ) (pace : Pace) → IsPaceWord word pace → word_of pace ≡ Some word
named_by word Whole is = absurd is
named_by word Stepped is = ap (λ w. Some w) (sym is)
named_by word Pointed is = ap (λ w. Some w) (sym is)
named_by word Napot is = ap (λ w. Some w) (sym is)
named_by word PointedNapot is = ap (λ w. Some w) (sym is)

-- "stepped" and "nonleaf" are as long, but begin otherwise
abbrev first_of : Option (List ℕ) → ℕ
first_of None = 0
first_of (Some []) = 0
first_of (Some (first ∷ rest)) = first

abbrev long_of : Option (List ℕ) → ℕ
long_of None = 0
long_of (Some word) = length word

abbrev pace_of_word : Option (List ℕ) → Pace
pace_of_word word = if first_of word == 115 then Stepped else if long_of word == 7 then Pointed else if long_of word == 5 then Napot else if long_of word == 13 then PointedNapot else Whole

told_back : (pace : Pace) → pace_of_word (word_of pace) ≡ pace
told_back Whole = refl
told_back Stepped = refl
told_back Pointed = refl
told_back Napot = refl
told_back PointedNapot = refl

-- a word names one pace
pace_same : SaysOne IsPaceWord
pace_same word a b p q = sym (told_back a) ∙ ap pace_of_word (named_by word a p ∙ sym (named_by word b q)) ∙ told_back b

-- a word that names a pace is read so
pub named : (word : List ℕ) (pace : Pace) → IsPaceWord word pace → Reads (Some pace) (IsPaceWord word)
named word pace is = reads_some (IsPaceWord word) pace is (λ other q. pace_same word pace other is q)

-- any other word names no pace
pub none_named : (word : List ℕ) → (word ≡ codes "stepped" → ⊥) → (word ≡ codes "nonleaf" → ⊥) → (word ≡ codes "napot" → ⊥) → (word ≡ codes "nonleaf napot" → ⊥)
    → Reads None (IsPaceWord word)
none_named word not_stepped not_nonleaf not_napot not_both_words = reads_none (IsPaceWord word) nothing
  where
    nothing : (pace : Pace) → IsPaceWord word pace → ⊥
    nothing Whole q = q
    nothing Stepped q = not_stepped q
    nothing Pointed q = not_nonleaf q
    nothing Napot q = not_napot q
    nothing PointedNapot q = not_both_words q

-- a number with the word of its pace behind it
abbrev Paced : List ℕ → ℕ × Pace → Type 0
Paced words said = Followed IsNumber IsPaceWord words said

-- words say a number and a pace as a number alone, or as one with the word of its pace behind it
alone_or_paced : (words : List ℕ) (said : ℕ × Pace) → SaidOf words said → (IsNumber words said.0 × (Whole ≡ said.1)) ⊎ Paced words said
alone_or_paced words (n, Whole) q = inl (subst (λ t. IsNumber t n) (sym q.2) q.1, refl)
alone_or_paced words (n, Stepped) q = inr (codes "stepped", (q.0, q.1, q.2), refl)
alone_or_paced words (n, Pointed) q = inr (codes "nonleaf", (q.0, q.1, q.2), refl)
alone_or_paced words (n, Napot) q = inr (codes "napot", (q.0, q.1, q.2), refl)
alone_or_paced words (n, PointedNapot) q = inr (codes "nonleaf napot", (q.0, q.1, q.2), refl)

-- such a number says both
paced_said : (words : List ℕ) (said : ℕ × Pace) → Paced words said → SaidOf words said
paced_said words (n, Whole) q = absurd q.2
paced_said words (n, Stepped) q = (q.1.0, q.1.1, q.1.2 ∙ ap (λ t. q.1.0 ␣ t) q.2)
paced_said words (n, Pointed) q = (q.1.0, q.1.1, q.1.2 ∙ ap (λ t. q.1.0 ␣ t) q.2)
paced_said words (n, Napot) q = (q.1.0, q.1.1, q.1.2 ∙ ap (λ t. q.1.0 ␣ t) q.2)
paced_said words (n, PointedNapot) q = (q.1.0, q.1.1, q.1.2 ∙ ap (λ t. q.1.0 ␣ t) q.2)

-- a number alone has no word behind it
not_both : (words : List ℕ) (m : ℕ) (said : ℕ × Pace) → IsNumber words m → Paced words said → ⊥
not_both words m said p q = cut_has_separator 32 words q.1.0 q.0 (number_without_space words m p) q.1.2

-- words say one number and one pace
said_same : (words : List ℕ) (a b : ℕ × Pace) → SaidOf words a → SaidOf words b → a ≡ b
said_same words a b p q = elim (alone_or_paced words a p) [
  | inl alone ↦ elim (alone_or_paced words b q) [
    | inl other ↦ pair_same a.0 b.0 a.1 b.1 (number_same words a.0 b.0 alone.0 other.0) (sym alone.1 ∙ other.1)
    | inr other ↦ absurd (not_both words a.0 b alone.0 other)
  ]
  | inr paced ↦ elim (alone_or_paced words b q) [
    | inl other ↦ absurd (not_both words b.0 a other.0 paced)
    | inr other ↦ followed_same IsNumber IsPaceWord number_without_space number_same pace_same words a b paced other
  ]
]
  where
    pair_same : (m n : ℕ) (v w : Pace) → m ≡ n → v ≡ w → let x : ℕ × Pace = (m, v) in let y : ℕ × Pace = (n, w) in x ≡ y
    pair_same m n v w e f = cc

-- words that say a number and a pace are read so
said_read : (words : List ℕ) (said : ℕ × Pace) → SaidOf words said → Reads (Some said) (SaidOf words)
said_read words said is = reads_some (SaidOf words) said is (λ other q. said_same words said other is q)

-- a number alone
pub size_alone : (words : List ℕ) (size : ℕ) → Reads (Some size) (IsNumber words) → Reads {X = ℕ × Pace} (Some (size, Whole)) (SaidOf words)
size_alone words size number =
    let here : ℕ × Pace = (size, Whole) in
    said_read words here (words, read_holds (IsNumber words) size number, refl)

-- a number with the word of its pace behind it
pub size_paced : (words : List ℕ) (size : ℕ) (pace : Pace) → Reads {X = ℕ × Pace} (Some (size, pace)) (Paced words) → Reads {X = ℕ × Pace} (Some (size, pace)) (SaidOf words)
size_paced words size pace paced =
    let here : ℕ × Pace = (size, pace) in
    said_read words here (paced_said words here (read_holds (Paced words) here paced))

-- neither a number alone, nor one before the word of a pace
pub no_size : (words : List ℕ) → Reads None (IsNumber words) → Reads None (Paced words) → Reads None (SaidOf words)
no_size words unread unpaced = reads_none (SaidOf words) (λ said q. elim (alone_or_paced words said q) [
  | inl alone ↦ read_nothing (IsNumber words) said.0 unread alone.0
  | inr paced ↦ read_nothing (Paced words) said unpaced paced
])

-- what stands behind the first word
abbrev Behind : List ℕ → List ℕ → Type 0
Behind line rest = Reads (Some rest) (λ more. line ≡ codes "hardware " ++ more)

-- the words of a line are the first one and those behind it
words_behind : (pace : Pace) (f : List ℕ) → setup_words pace f ≡ codes "hardware " ++ paced_words pace f
words_behind Whole f = refl
words_behind Stepped f = refl
words_behind Pointed f = refl
words_behind Napot f = refl
words_behind PointedNapot f = refl

-- the number and the pace of hardware
abbrev said_of : Setup → ℕ × Pace
said_of setup = (setup.frames, setup.pace)

-- they are all that there is to it
same_setup : (a b : Setup) → said_of a ≡ said_of b → a ≡ b
same_setup a b same = ap (λ (p : ℕ × Pace). let s : Setup = record { frames = p.0; pace = p.1 } in s) same

-- they stand behind the first word
said_behind : (line rest : List ℕ) (setup : Setup) → line ≡ codes "hardware " ++ rest → IsSetupLine line setup → SaidOf rest (said_of setup)
said_behind line rest setup begun q =
    (q.0, q.1, append_cancel_left (codes "hardware ") rest (paced_words setup.pace q.0) (sym begun ∙ q.3 ∙ words_behind setup.pace q.0))

-- the line is what stands behind its first word
begins : (line rest : List ℕ) → Behind line rest → line ≡ codes "hardware " ++ rest
begins line rest begun = read_holds (λ more. line ≡ codes "hardware " ++ more) rest begun

-- no such line: it begins otherwise
pub setup_otherwise : (line : List ℕ) → Reads None (λ more. line ≡ codes "hardware " ++ more) → Reads None (IsSetupLine line)
setup_otherwise line none = reads_none (IsSetupLine line) (λ setup q.
    read_nothing (λ more. line ≡ codes "hardware " ++ more) (paced_words setup.pace q.0) none (q.3 ∙ words_behind setup.pace q.0))

-- no such line: no number and pace follow
pub setup_unsaid : (line rest : List ℕ) → Behind line rest → Reads None (SaidOf rest) → Reads None (IsSetupLine line)
setup_unsaid line rest begun none = reads_none (IsSetupLine line) (λ setup q.
    read_nothing (SaidOf rest) (said_of setup) none (said_behind line rest setup (begins line rest begun) q))

-- no such line: the number is out of range
pub setup_out_of_range : (line rest : List ℕ) (size : ℕ) (pace : Pace) → Behind line rest → Reads {X = ℕ × Pace} (Some (size, pace)) (SaidOf rest) → ¬ IsFrameCount size → Reads None (IsSetupLine line)
setup_out_of_range line rest size pace begun said out = reads_none (IsSetupLine line) (λ setup q.
    let here : ℕ × Pace = (size, pace) in
    let same = read_only (SaidOf rest) here (said_of setup) said (said_behind line rest setup (begins line rest begun) q) in
    out (subst IsFrameCount (sym (ap (λ (p : ℕ × Pace). p.0) same)) q.2))

-- the line
pub setup_read : (line rest : List ℕ) (size : ℕ) (pace : Pace) → Behind line rest → Reads {X = ℕ × Pace} (Some (size, pace)) (SaidOf rest) → IsFrameCount size
    → let here : Setup = record { frames = size; pace = pace } in Reads (Some here) (IsSetupLine line)
setup_read line rest size pace begun said in_range =
    let here : ℕ × Pace = (size, pace) in
    let setup : Setup = record { frames = size; pace = pace } in
    let q = read_holds (SaidOf rest) here said in
    reads_some (IsSetupLine line) setup (q.0, q.1, in_range, begins line rest begun ∙ ap (λ t. codes "hardware " ++ t) q.2 ∙ sym (words_behind pace q.0))
    (λ other r. same_setup setup other (read_only (SaidOf rest) here (said_of other) said (said_behind line rest other (begins line rest begun) r)))

-- a line says one hardware
pub setup_same : (line : List ℕ) (a b : Setup) → IsSetupLine line a → IsSetupLine line b → a ≡ b
setup_same line a b p q =
    let rest = paced_words a.pace p.0 in
    let begun : line ≡ codes "hardware " ++ rest = p.3 ∙ words_behind a.pace p.0 in
    same_setup a b (said_same rest (said_of a) (said_of b) (said_behind line rest a begun p) (said_behind line rest b begun q))
