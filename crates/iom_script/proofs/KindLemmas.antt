-- What is plugged in, from its words.
use Rattle.std.proofs.Common.{◌≡◌, ℕ, List, [], ◌++◌, Option, None, Some, codes, refl, sym, subst, ◌∙◌}
use Rattle.std.specs.Option.{option_map}
use Rattle.std.proofs.lemmas.List.{append_cancel_left}
use Rattle.iom_base.specs.declared.device_kind.NewDevice.{NewDevice}
use Rattle.iom_base.specs.declared.device_kind.NewDevice.TheVariants.{Raw, Ats, Block, CachedBlock}
use Rattle.iom_script.specs.Words.{IsNumber, IsKind}
use Rattle.iom_script.specs.Reading.{Reads}
use Rattle.iom_script.proofs.ReadsLemmas.{reads_some, reads_none, read_holds, read_nothing}
use Rattle.iom_script.proofs.EventLemmas.{never_both}
use Rattle.iom_script.proofs.SameLemmas.{kind_same}

-- a single word
pub kind_raw : (text : List ℕ) → text ≡ codes "raw" → Reads (Some Raw) (IsKind text)
kind_raw text is = reads_some (IsKind text) Raw is (λ other q. kind_same text Raw other is q)

pub kind_ats : (text : List ℕ) → text ≡ codes "ats" → Reads (Some Ats) (IsKind text)
kind_ats text is = reads_some (IsKind text) Ats is (λ other q. kind_same text Ats other is q)

-- a word, and the number of a disk or none
pub kind_block : (text rest : List ℕ) → Reads (Some rest) (λ more. text ≡ codes "blk " ++ more) → (result : Option ℕ) → Reads result (IsNumber rest)
    → Reads (option_map (λ (disk : ℕ). Block disk) result) (IsKind text)
kind_block text rest begun (Some disk) reads =
    let is : IsKind text (Block disk) = (rest, read_holds (IsNumber rest) disk reads, read_holds (λ more. text ≡ codes "blk " ++ more) rest begun) in
    reads_some (IsKind text) (Block disk) is (λ other q. kind_same text (Block disk) other is q)
kind_block text rest begun None reads = reads_none (IsKind text) never
  where
    whole : text ≡ codes "blk " ++ rest
    whole = read_holds (λ more. text ≡ codes "blk " ++ more) rest begun

    never : (what : NewDevice) → IsKind text what → ⊥
    never Raw q = never_both (codes "blk ") (codes "raw") rest [] refl (sym whole ∙ q)
    never Ats q = never_both (codes "blk ") (codes "ats") rest [] refl (sym whole ∙ q)
    never (Block disk) q =
        let same : rest ≡ q.0 = append_cancel_left (codes "blk ") rest q.0 (sym whole ∙ q.2) in
        read_nothing (IsNumber rest) disk reads (subst (λ t. IsNumber t disk) (sym same) q.1)
    never (CachedBlock disk) q = never_both (codes "blk ") (codes "ablk ") rest q.0 refl (sym whole ∙ q.2)

pub kind_cached : (text rest : List ℕ) → Reads (Some rest) (λ more. text ≡ codes "ablk " ++ more) → (result : Option ℕ) → Reads result (IsNumber rest)
    → Reads (option_map (λ (disk : ℕ). CachedBlock disk) result) (IsKind text)
kind_cached text rest begun (Some disk) reads =
    let is : IsKind text (CachedBlock disk) = (rest, read_holds (IsNumber rest) disk reads, read_holds (λ more. text ≡ codes "ablk " ++ more) rest begun) in
    reads_some (IsKind text) (CachedBlock disk) is (λ other q. kind_same text (CachedBlock disk) other is q)
kind_cached text rest begun None reads = reads_none (IsKind text) never
  where
    whole : text ≡ codes "ablk " ++ rest
    whole = read_holds (λ more. text ≡ codes "ablk " ++ more) rest begun

    never : (what : NewDevice) → IsKind text what → ⊥
    never Raw q = never_both (codes "ablk ") (codes "raw") rest [] refl (sym whole ∙ q)
    never Ats q = never_both (codes "ablk ") (codes "ats") rest [] refl (sym whole ∙ q)
    never (Block disk) q = never_both (codes "ablk ") (codes "blk ") rest q.0 refl (sym whole ∙ q.2)
    never (CachedBlock disk) q =
        let same : rest ≡ q.0 = append_cancel_left (codes "ablk ") rest q.0 (sym whole ∙ q.2) in
        read_nothing (IsNumber rest) disk reads (subst (λ t. IsNumber t disk) (sym same) q.1)

-- none of them
pub kind_none : (text : List ℕ) → (text ≡ codes "raw" → ⊥) → (text ≡ codes "ats" → ⊥) → Reads None (λ more. text ≡ codes "blk " ++ more)
    → Reads None (λ more. text ≡ codes "ablk " ++ more) → Reads None (IsKind text)
kind_none text raw ats block cached = reads_none (IsKind text) never
  where
    never : (what : NewDevice) → IsKind text what → ⊥
    never Raw q = raw q
    never Ats q = ats q
    never (Block disk) q = read_nothing (λ more. text ≡ codes "blk " ++ more) q.0 block q.2
    never (CachedBlock disk) q = read_nothing (λ more. text ≡ codes "ablk " ++ more) q.0 cached q.2
