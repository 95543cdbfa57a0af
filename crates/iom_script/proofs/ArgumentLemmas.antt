-- A page, and how a device is attached, from their words.
use Rattle.std.proofs.Common.{◌≡◌, ℕ, ◌^◌, ◌<◌, Bool, true, false, List, Some, None, codes, ap, sym, subst, ◌∙◌}
use Rattle.iom_base.specs.declared.mode.Mode.{Mode}
use Rattle.iom_script.specs.Words.{◌␣◌, IsNumber, IsPage, IsMode}
use Rattle.iom_script.specs.Reading.{Reads}
use Rattle.iom_script.proofs.ReadsLemmas.{reads_some, reads_none, read_holds, read_only, read_nothing}
use Rattle.iom_script.proofs.CutLemmas.{cut_is_one}
use Rattle.iom_script.proofs.FieldLemmas.{CutOf}
use Rattle.iom_script.proofs.EventLemmas.{AttachingOf}
use Rattle.iom_script.proofs.SameLemmas.{mode_without_space, attaching_same, page_same}

-- no page: no number
pub no_number : (text : List ℕ) → Reads None (IsNumber text) → Reads None (IsPage text)
no_number text none = reads_none (IsPage text) (λ page q. read_nothing (IsNumber text) page none q.0)

-- no page: a larger number
pub too_large : (text : List ℕ) (number : ℕ) → Reads (Some number) (IsNumber text) → (number < 2 ^ 52 → ⊥) → Reads None (IsPage text)
too_large text number reads large = reads_none (IsPage text) (λ page q.
    large (subst (λ n. n < 2 ^ 52) (sym (read_only (IsNumber text) number page reads q.0)) q.1))

-- a page
pub page_read : (text : List ℕ) (number : ℕ) → Reads (Some number) (IsNumber text) → number < 2 ^ 52 → Reads (Some number) (IsPage text)
page_read text number reads small =
    let is : IsPage text number = (read_holds (IsNumber text) number reads, small) in
    reads_some (IsPage text) number is (λ page q. page_same text number page is q)

-- a mode alone
pub mode_alone : (text : List ℕ) (mode : Mode) → Reads (Some mode) (IsMode text) → Reads {X = Mode × Bool} (Some (mode, false)) (AttachingOf text)
mode_alone text mode reads =
    let how : Mode × Bool = (mode, false) in
    let is : AttachingOf text how = read_holds (IsMode text) mode reads in
    reads_some (AttachingOf text) how is (λ other q. attaching_same text how other is q)

-- where no mode stands alone, `ats` stands behind the word before the first space
not_alone : (text : List ℕ) → Reads None (IsMode text) → (how : Mode × Bool) → AttachingOf text how → (word : List ℕ) × IsMode word how.0 × (text ≡ word ␣ codes "ats")
not_alone text none (mode, false) q = absurd (read_nothing (IsMode text) mode none q)
not_alone text none (mode, true) q = q

-- the first word and the rest, where those are
cut_parts : (text word rest : List ℕ) (how : Mode × Bool) → Reads None (IsMode text) → Reads {X = List ℕ × List ℕ} (Some (word, rest)) (CutOf text) → AttachingOf text how
    → IsMode word how.0 × (rest ≡ codes "ats")
cut_parts text word rest how none cut q =
    let here : List ℕ × List ℕ = (word, rest) in
    let is = not_alone text none how q in
    let c = read_holds (CutOf text) here cut in
    let same = cut_is_one 32 word is.0 rest (codes "ats") c.0 (mode_without_space is.0 how.0 is.1) (sym c.1 ∙ is.2) in
    (subst (λ w. IsMode w how.0) (sym same.0) is.1, same.1)

-- no mode, and no space
pub uncut_attaching : (text : List ℕ) → Reads None (IsMode text) → Reads None (CutOf text) → Reads None (AttachingOf text)
uncut_attaching text none uncut = reads_none (AttachingOf text) (λ how q.
    let is = not_alone text none how q in
    let parts : List ℕ × List ℕ = (is.0, codes "ats") in
    read_nothing (CutOf text) parts uncut (mode_without_space is.0 how.0 is.1, is.2))

-- another word than `ats` behind the first space
pub other_behind : (text word rest : List ℕ) → Reads None (IsMode text) → Reads {X = List ℕ × List ℕ} (Some (word, rest)) (CutOf text) → (rest ≡ codes "ats" → ⊥) → Reads None (AttachingOf text)
other_behind text word rest none cut other = reads_none (AttachingOf text) (λ how q. other (cut_parts text word rest how none cut q).1)

-- no mode before it
pub no_mode_before : (text word rest : List ℕ) → Reads None (IsMode text) → Reads {X = List ℕ × List ℕ} (Some (word, rest)) (CutOf text) → Reads None (IsMode word) → Reads None (AttachingOf text)
no_mode_before text word rest none cut unread =
    reads_none (AttachingOf text) (λ how q. read_nothing (IsMode word) how.0 unread (cut_parts text word rest how none cut q).0)

-- a mode, and `ats` behind it
pub mode_with_ats : (text word rest : List ℕ) (mode : Mode) → Reads {X = List ℕ × List ℕ} (Some (word, rest)) (CutOf text) → rest ≡ codes "ats" → Reads (Some mode) (IsMode word)
    → Reads {X = Mode × Bool} (Some (mode, true)) (AttachingOf text)
mode_with_ats text word rest mode cut ats reads =
    let here : List ℕ × List ℕ = (word, rest) in
    let how : Mode × Bool = (mode, true) in
    let c = read_holds (CutOf text) here cut in
    let is : AttachingOf text how = (word, read_holds (IsMode word) mode reads, c.1 ∙ ap (λ r. word ␣ r) ats) in
    reads_some (AttachingOf text) how is (λ other q. attaching_same text how other is q)
