-- Decoding is exact to the grammars: what it answers is what the words are, and what they are is what it answers.
use Rattle.std.proofs.Common.{◌≡◌, ◌≢◌, ◌<◌, ◌*◌, ◌/◌, ◌%◌, ◌^◌, ◌∙◌, ◌==◌, ℕ, zero, suc, Bool, true, false, inl, inr, Option, Some, None, option_map, Result, Ok, Err, refl, sym, ap, subst, arith, if◌then◌else◌}
use Rattle.std.specs.Prelude.{◌↔◌}
use Rattle.std.proofs.lemmas.Bool.Decides.{eqb_tells}
use Rattle.iom_base.specs.declared.cause.Cause.{Cause}
use Rattle.iom_base.specs.declared.cause.Cause.TheVariants.{DirectoryEntryNotValid, DirectoryEntryMisconfigured}
use Rattle.iom_base.specs.declared.size.Size.{Size}
use Rattle.iom_base.specs.declared.size.Size.TheVariants.{Sv39, Sv48}
use Rattle.iom_registers.specs.Bits.{bits}
use Rattle.iom_device_dir.specs.declared.context.Context.{Context}
use Rattle.iom_device_dir.specs.declared.entry.NonLeafEntry.{NonLeafEntry}
use Rattle.iom_device_dir.specs.declared.stages.FirstStage.{FirstStage}
use Rattle.iom_device_dir.specs.declared.stages.FirstStage.TheVariants as first
use Rattle.iom_device_dir.specs.declared.stages.SecondStage.{SecondStage}
use Rattle.iom_device_dir.specs.declared.stages.SecondStage.TheVariants as second
use Rattle.iom_base.specs.declared.ppn.Ppn.{Ppn}
use Rattle.iom_device_dir.specs.declared.words.ContextWords.{ContextWords}
use Rattle.iom_base.specs.PageNumbers.{page_from}
use Rattle.iom_device_dir.specs.Values.{address_space_from, guest_root_from}
use Rattle.iom_device_dir.specs.Formats.{table_mode, IsNonLeafEntry, IsNonLeafEntryRefused, IsFirstStage, IsSecondStage, SetsOnlyOfferedBits, AreContextWords, IsContextMisconfigured, IsContextRefused}
use Rattle.iom_device_dir.specs.Decoded.{decoded_non_leaf_entry, size_at, first_stage_at, second_stage_at, sets_only_offered_bits, context_with_stages, decoded_context}
use Rattle.iom_device_dir.proofs.SameValues.{same_page, same_space, same_root}

-- a bit that isn't 0 is 1
one_of_two : (n : ℕ) → n < 2 → n ≢ 0 → n ≡ 1
one_of_two zero small some = absurd (some refl)
one_of_two (suc zero) small some = refl
one_of_two (suc (suc n)) small some = absurd (omega arith)

pub bit_is_one : (word : ℕ) → bits 0 0 word ≢ 0 → bits 0 0 word ≡ 1
bit_is_one word some = one_of_two (bits 0 0 word) (omega arith) some

-- the test of the bits that may not be set
abbrev SaysClear : ContextWords → Bool → Type 0
SaysClear w true = SetsOnlyOfferedBits w
SaysClear w false = ¬ SetsOnlyOfferedBits w

clear_told : (w : ContextWords) → SaysClear w (sets_only_offered_bits w)
clear_told w =
    elim (eqb_tells (bits 63 2 w.tc) 0) [
      | inl a ↦ elim (eqb_tells (bits 11 0 w.ta) 0) [
        | inl b ↦ elim (eqb_tells (bits 63 32 w.ta) 0) [
          | inl c ↦ elim (eqb_tells (bits 59 44 w.fsc) 0) [
            | inl d ↦ rw (a.0, b.0, c.0, d.0) (record { tc = a.1; ta_below = b.1; ta_above = c.1; fsc = d.1 })
            | inr d ↦ rw (a.0, b.0, c.0, d.0) (λ clear. d.1 clear.fsc)
          ]
          | inr c ↦ rw (a.0, b.0, c.0) (λ clear. c.1 clear.ta_above)
        ]
        | inr b ↦ rw (a.0, b.0) (λ clear. b.1 clear.ta_below)
      ]
      | inr a ↦ rw a.0 (λ clear. a.1 clear.tc)
    ]

-- what a mode tells of the size of tables
abbrev TellsSize : ℕ → Option Size → Type 0
TellsSize mode (Some size) = mode ≡ table_mode size
TellsSize mode None = (size : Size) → mode ≢ table_mode size

no_size : (mode : ℕ) → mode ≢ 8 → mode ≢ 9 → (size : Size) → mode ≢ table_mode size
no_size mode small large Sv39 h = small h
no_size mode small large Sv48 h = large h

size_told : (mode : ℕ) → TellsSize mode (size_at mode)
size_told mode =
    elim (eqb_tells mode 8) [
      | inl e ↦ rw e.0 e.1
      | inr n ↦ rw n.0 (elim (eqb_tells mode 9) [ inl e ↦ rw e.0 e.1 | inr m ↦ rw m.0 (no_size mode n.1 m.1) ])
    ]

-- what the mode of the first stage tells
abbrev TellsFirst : ℕ → ℕ → Option FirstStage → Type 0
TellsFirst mode ppn (Some stage) = IsFirstStage mode ppn stage
TellsFirst mode ppn None = (stage : FirstStage) → ¬ IsFirstStage mode ppn stage

no_first : (mode ppn : ℕ) → mode ≢ 0 → ((size : Size) → mode ≢ table_mode size) → (stage : FirstStage) → ¬ IsFirstStage mode ppn stage
no_first mode ppn bare none first.Bare h = bare h
no_first mode ppn bare none (first.Tables size root) h = none size h.0

first_by_size : (mode : ℕ) (root : Ppn) → mode ≢ 0 → (found : Option Size) → TellsSize mode found
    → TellsFirst mode root.number (option_map (λ size. first.Tables size root) found)
first_by_size mode root bare (Some size) reply = (reply, refl)
first_by_size mode root bare None reply = no_first mode root.number bare reply

first_told : (mode : ℕ) (root : Ppn) → TellsFirst mode root.number (first_stage_at mode root)
first_told mode root =
    elim (eqb_tells mode 0) [
      | inl z ↦ rw z.0 z.1
      | inr z ↦ rw z.0 (first_by_size mode root z.1 (size_at mode) (size_told mode))
    ]

tables_first : (mode : ℕ) (root : Ppn) (size : Size) → mode ≡ table_mode size → first_stage_at mode root ≡ Some (first.Tables size root)
tables_first mode root Sv39 h = rw h refl
tables_first mode root Sv48 h = rw h refl

first_found : (mode : ℕ) (root : Ppn) (stage : FirstStage) → IsFirstStage mode root.number stage → first_stage_at mode root ≡ Some stage
first_found mode root first.Bare h = rw h refl
first_found mode root (first.Tables size own) h = tables_first mode root size h.0 ∙ ap (λ page. Some (first.Tables size page)) (sym (same_page own root h.1))

-- what mode and root of the second stage tell
abbrev TellsSecond : ℕ → ℕ → Option SecondStage → Type 0
TellsSecond mode ppn (Some stage) = IsSecondStage mode ppn stage
TellsSecond mode ppn None = (stage : SecondStage) → ¬ IsSecondStage mode ppn stage

no_second : (mode ppn : ℕ) → mode ≢ 0 → ((size : Size) → mode ≢ table_mode size) → (stage : SecondStage) → ¬ IsSecondStage mode ppn stage
no_second mode ppn bare none second.Bare h = bare h
no_second mode ppn bare none (second.Tables size root) h = none size h.0

-- a root that isn't aligned is none
unaligned : (mode ppn : ℕ) → mode ≢ 0 → ppn % 4 ≢ 0 → (stage : SecondStage) → ¬ IsSecondStage mode ppn stage
unaligned mode ppn bare odd second.Bare h = bare h
unaligned mode ppn bare odd (second.Tables size root) h = odd (ap (λ n. n % 4) (sym h.1) ∙ root.aligned)

root_number : (ppn : ℕ) → ppn < 2 ^ 44 → ppn % 4 ≡ 0 → 4 * (ppn / 4 % 2 ^ 42) ≡ ppn
root_number ppn small even = omega (arith, small, even)

root_small : (word : ℕ) → bits 43 0 word < 2 ^ 44
root_small word = omega arith

second_by_size : (mode ppn : ℕ) → mode ≢ 0 → ppn < 2 ^ 44 → ppn % 4 ≡ 0 → (found : Option Size) → TellsSize mode found
    → TellsSecond mode ppn (option_map (λ size. second.Tables size (guest_root_from ppn)) found)
second_by_size mode ppn bare small even (Some size) reply = (reply, root_number ppn small even)
second_by_size mode ppn bare small even None reply = no_second mode ppn bare reply

second_told : (mode ppn : ℕ) → ppn < 2 ^ 44 → TellsSecond mode ppn (second_stage_at mode ppn)
second_told mode ppn small =
    elim (eqb_tells mode 0) [
      | inl z ↦ rw z.0 z.1
      | inr z ↦ rw z.0 (elim (eqb_tells (ppn % 4) 0) [
        | inl a ↦ rw a.0 (second_by_size mode ppn z.1 small a.1 (size_at mode) (size_told mode))
        | inr a ↦ rw a.0 (unaligned mode ppn z.1 a.1)
      ])
    ]

tables_second : (mode ppn : ℕ) (size : Size) → mode ≡ table_mode size → (ppn % 4 == 0) ≡ true → second_stage_at mode ppn ≡ Some (second.Tables size (guest_root_from ppn))
tables_second mode ppn Sv39 h even = rw (h, even) refl
tables_second mode ppn Sv48 h even = rw (h, even) refl

second_found : (mode ppn : ℕ) → ppn < 2 ^ 44 → (stage : SecondStage) → IsSecondStage mode ppn stage → second_stage_at mode ppn ≡ Some stage
second_found mode ppn small second.Bare h = rw h refl
second_found mode ppn small (second.Tables size root) h =
    let even : ppn % 4 ≡ 0 = ap (λ n. n % 4) (sym h.1) ∙ root.aligned in
    let is : guest_root_from ppn ≡ root = same_root (guest_root_from ppn) root (root_number ppn small even ∙ sym h.1) in
    let is_even : (ppn % 4 == 0) ≡ true = ap (λ n. n == 0) even in
    tables_second mode ppn size h.0 is_even ∙ ap (λ own. Some (second.Tables size own)) is

-- what decoding answers, judged by the grammar
abbrev pub Judges : ContextWords → Result Context Cause → Type 0
Judges w (Ok context) = AreContextWords w context
Judges w (Err cause) = IsContextRefused w cause

judged_stages : (w : ContextWords) → bits 0 0 w.tc ≡ 1 → SetsOnlyOfferedBits w → (f : Option FirstStage) (s : Option SecondStage)
    → TellsFirst (bits 63 60 w.fsc) (bits 43 0 w.fsc) f → TellsSecond (bits 63 60 w.iohgatp) (bits 43 0 w.iohgatp) s → Judges w (context_with_stages w f s)
judged_stages w valid clear (Some f) (Some s) tf ts =
    record { valid = valid; en_ats = refl; second_stage = ts; gscid = refl; pscid = refl; first_stage = tf; clear = clear }
judged_stages w valid clear (Some f) None tf ts = inr (valid, inr (inr ts), refl)
judged_stages w valid clear None s tf ts = inr (valid, inr (inl tf), refl)

abbrev stages_of : ContextWords → Result Context Cause
stages_of w = context_with_stages w (first_stage_at (bits 63 60 w.fsc) (page_from 0 w.fsc)) (second_stage_at (bits 63 60 w.iohgatp) (bits 43 0 w.iohgatp))

judged_clear : (w : ContextWords) → bits 0 0 w.tc ≡ 1 → (b : Bool) → SaysClear w b → Judges w (if b then stages_of w else Err DirectoryEntryMisconfigured)
judged_clear w valid true says =
    judged_stages w valid says (first_stage_at (bits 63 60 w.fsc) (page_from 0 w.fsc)) (second_stage_at (bits 63 60 w.iohgatp) (bits 43 0 w.iohgatp))
    (first_told (bits 63 60 w.fsc) (page_from 0 w.fsc)) (second_told (bits 63 60 w.iohgatp) (bits 43 0 w.iohgatp) (root_small w.iohgatp))
judged_clear w valid false says = inr (valid, inl says, refl)

-- SOUND: what decoding answers is so
pub judged : (w : ContextWords) → Judges w (decoded_context w)
unfolding decoded_context
judged w =
    elim (eqb_tells (bits 0 0 w.tc) 0) [
      | inl z ↦ rw z.0 (inl (z.1, refl))
      | inr z ↦ rw z.0 (judged_clear w (bit_is_one w.tc z.1) (sets_only_offered_bits w) (clear_told w))
    ]

if_clear : (w : ContextWords) (b : Bool) → SaysClear w b → SetsOnlyOfferedBits w → b ≡ true
if_clear w true says clear = refl
if_clear w false says clear = absurd (says clear)

by_fields : (w : ContextWords) (context : Context) → AreContextWords w context
    → context_with_stages w (Some context.first_stage) (Some context.second_stage) ≡ Ok context
by_fields w context are = rw (are.en_ats, are.gscid, same_space context.pscid (address_space_from 12 w.ta) are.pscid) refl

-- COMPLETE: what is so is what decoding answers
pub found : (w : ContextWords) (context : Context) → AreContextWords w context → decoded_context w ≡ Ok context
unfolding decoded_context
found w context are =
    let valid : (bits 0 0 w.tc == 0) ≡ false = ap (λ n. n == 0) are.valid in
    let clear = if_clear w (sets_only_offered_bits w) (clear_told w) are.clear in
    ap (λ b. if b then Err DirectoryEntryNotValid else if sets_only_offered_bits w then stages_of w else Err DirectoryEntryMisconfigured) valid
    ∙ ap (λ b. if b then stages_of w else Err DirectoryEntryMisconfigured) clear
    ∙ ap (λ f. context_with_stages w f (second_stage_at (bits 63 60 w.iohgatp) (bits 43 0 w.iohgatp))) (first_found (bits 63 60 w.fsc) (page_from 0 w.fsc) context.first_stage are.first_stage)
    ∙ ap (λ s. context_with_stages w (Some context.first_stage) s) (second_found (bits 63 60 w.iohgatp) (bits 43 0 w.iohgatp) (root_small w.iohgatp) context.second_stage are.second_stage)
    ∙ by_fields w context are

no_stage_first : (w : ContextWords) (f : Option FirstStage) (s : Option SecondStage) → TellsFirst (bits 63 60 w.fsc) (bits 43 0 w.fsc) f
    → ((stage : FirstStage) → ¬ IsFirstStage (bits 63 60 w.fsc) (bits 43 0 w.fsc) stage) → context_with_stages w f s ≡ Err DirectoryEntryMisconfigured
no_stage_first w (Some f) s tell none = absurd (none f tell)
no_stage_first w None s tell none = refl

no_stage_second : (w : ContextWords) (f : Option FirstStage) (s : Option SecondStage) → TellsSecond (bits 63 60 w.iohgatp) (bits 43 0 w.iohgatp) s
    → ((stage : SecondStage) → ¬ IsSecondStage (bits 63 60 w.iohgatp) (bits 43 0 w.iohgatp) stage) → context_with_stages w f s ≡ Err DirectoryEntryMisconfigured
no_stage_second w (Some f) (Some s) tell none = absurd (none s tell)
no_stage_second w (Some f) None tell none = refl
no_stage_second w None s tell none = refl

misconfigured : (w : ContextWords) (b : Bool) → SaysClear w b → IsContextMisconfigured w
    → (if b then stages_of w else Err DirectoryEntryMisconfigured) ≡ Err DirectoryEntryMisconfigured
misconfigured w false says h = refl
misconfigured w true says (inl unclear) = absurd (unclear says)
misconfigured w true says (inr (inl none)) =
    no_stage_first w (first_stage_at (bits 63 60 w.fsc) (page_from 0 w.fsc)) (second_stage_at (bits 63 60 w.iohgatp) (bits 43 0 w.iohgatp)) (first_told (bits 63 60 w.fsc) (page_from 0 w.fsc)) none
misconfigured w true says (inr (inr none)) =
    no_stage_second w (first_stage_at (bits 63 60 w.fsc) (page_from 0 w.fsc)) (second_stage_at (bits 63 60 w.iohgatp) (bits 43 0 w.iohgatp)) (second_told (bits 63 60 w.iohgatp) (bits 43 0 w.iohgatp) (root_small w.iohgatp)) none

pub refused : (w : ContextWords) (cause : Cause) → IsContextRefused w cause → decoded_context w ≡ Err cause
unfolding decoded_context
refused w cause (inl h) = rw (h.0, h.1) refl
refused w cause (inr h) =
    let valid : (bits 0 0 w.tc == 0) ≡ false = ap (λ n. n == 0) h.0 in
    ap (λ b. if b then Err DirectoryEntryNotValid else if sets_only_offered_bits w then stages_of w else Err DirectoryEntryMisconfigured) valid
    ∙ misconfigured w (sets_only_offered_bits w) (clear_told w) h.1 ∙ ap (λ x. Err x) (sym h.2)

-- both ways at once, for whatever was answered
pub answers : (w : ContextWords) (result : Result Context Cause) → result ≡ decoded_context w → (context : Context) → (result ≡ Ok context) ↔ AreContextWords w context
answers w result is context = (λ e. subst (Judges w) (sym is ∙ e) (judged w), λ are. is ∙ found w context are)

pub refuses : (w : ContextWords) (result : Result Context Cause) → result ≡ decoded_context w → (cause : Cause) → (result ≡ Err cause) ↔ IsContextRefused w cause
refuses w result is cause = (λ e. subst (Judges w) (sym is ∙ e) (judged w), λ h. is ∙ refused w cause h)

-- the same of a non-leaf entry
abbrev pub JudgesNonLeaf : ℕ → Result NonLeafEntry Cause → Type 0
JudgesNonLeaf word (Ok entry) = IsNonLeafEntry word entry
JudgesNonLeaf word (Err cause) = IsNonLeafEntryRefused word cause

pub judged_non_leaf : (word : ℕ) → JudgesNonLeaf word (decoded_non_leaf_entry word)
judged_non_leaf word =
    elim (eqb_tells (bits 0 0 word) 0) [
      | inl z ↦ rw z.0 (inl (z.1, refl))
      | inr z ↦ elim (eqb_tells (bits 9 1 word) 0) [
        | inl a ↦ elim (eqb_tells (bits 63 54 word) 0) [
          | inl b ↦ rw (z.0, a.0, b.0) (record { valid = bit_is_one word z.1; clear_below = a.1; next = refl; clear_above = b.1 })
          | inr b ↦ rw (z.0, a.0, b.0) (inr (bit_is_one word z.1, inr b.1, refl))
        ]
        | inr a ↦ rw (z.0, a.0) (inr (bit_is_one word z.1, inl a.1, refl))
      ]
    ]

pub found_non_leaf : (word : ℕ) (entry : NonLeafEntry) → IsNonLeafEntry word entry → decoded_non_leaf_entry word ≡ Ok entry
found_non_leaf word entry is = rw (is.valid, is.clear_below, is.clear_above, same_page entry.next (page_from 10 word) is.next) refl

pub refused_non_leaf : (word : ℕ) (cause : Cause) → IsNonLeafEntryRefused word cause → decoded_non_leaf_entry word ≡ Err cause
refused_non_leaf word cause (inl h) = rw (h.0, h.1) refl
refused_non_leaf word cause (inr h) =
    elim (eqb_tells (bits 9 1 word) 0) [
      | inl a ↦ elim (eqb_tells (bits 63 54 word) 0) [
        | inl b ↦ absurd (elim h.1 [ inl x ↦ x a.1 | inr y ↦ y b.1 ])
        | inr b ↦ rw (h.0, a.0, b.0, h.2) refl
      ]
      | inr a ↦ rw (h.0, a.0, h.2) refl
    ]

pub answers_non_leaf : (word : ℕ) (result : Result NonLeafEntry Cause) → result ≡ decoded_non_leaf_entry word
    → (entry : NonLeafEntry) → (result ≡ Ok entry) ↔ IsNonLeafEntry word entry
answers_non_leaf word result is entry =
    (λ e. subst (JudgesNonLeaf word) (sym is ∙ e) (judged_non_leaf word), λ are. is ∙ found_non_leaf word entry are)

pub refuses_non_leaf : (word : ℕ) (result : Result NonLeafEntry Cause) → result ≡ decoded_non_leaf_entry word
    → (cause : Cause) → (result ≡ Err cause) ↔ IsNonLeafEntryRefused word cause
refuses_non_leaf word result is cause =
    (λ e. subst (JudgesNonLeaf word) (sym is ∙ e) (judged_non_leaf word), λ h. is ∙ refused_non_leaf word cause h)
