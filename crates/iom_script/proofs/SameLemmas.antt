-- A text says one thing.
use Rattle.std.proofs.Common.{◌≡◌, ℕ, ◌^◌, ◌<◌, Bool, true, false, inl, inr, List, [], ◌∷◌, ◌++◌, length, drop, Option, None, Some, codes, ap, sym, subst, refl, ◌∙◌, arith, rules}
use Rattle.std.specs.Prelude.{if◌then◌else◌, nat_eq}
use Rattle.std.specs.Cmp.Lexicographic.{pointwise}
use Rattle.std.specs.Str.Parse.{AllDigits, digits_value}
use Rattle.std.proofs.lemmas.Str.Parse.{IsNumeralModel, numerals_by_value, tells_digits}
use Rattle.std.proofs.lemmas.Fmt.{digits_value-decimal}
use Rattle.std.proofs.lemmas.List.{append_cancel_left}
use Rattle.iom_machine.specs.declared.event.Event.{Event}
use Rattle.iom_machine.specs.declared.event.Event.TheVariants.{Plug, Attach, Detach, Grant, Release, Fetch, Poll, Faults, Read, Write, Commit, Poke, Peek, Free}
use Rattle.iom_machine.specs.declared.event.Event.TheVariants.{ReadTranslated, WriteTranslated, ReadThroughCache, WriteThroughCache, Ask, Forge, Deliver, Drop, Repeat}
use Rattle.iom_machine.specs.declared.event.Event.TheVariants.{Quarantine, Revive, Restart, Timeout, Reset}
use Rattle.iom_machine.specs.declared.event.Event.TheVariants.{Medium, Queue, Step, Status}
use Rattle.iom_base.specs.declared.device_kind.NewDevice.TheVariants.{Raw, Ats, Block, CachedBlock}
use Rattle.iom_base.specs.declared.mode.Mode.{Mode}
use Rattle.iom_base.specs.declared.mode.Mode.TheVariants.{First, Second, Both}
use Rattle.iom_base.specs.declared.size.Size.TheVariants.{Sv39, Sv48}
use Rattle.iom_script.specs.declared.script.WorldSize.{WorldSize}
use Rattle.iom_script.specs.declared.script.Script.{Script}
use Rattle.iom_script.specs.declared.script.ScriptLine.{ScriptLine}
use Rattle.iom_script.specs.declared.script.ScriptLine.TheVariants as says
use Rattle.iom_script.specs.Digits.{hex_digits}
use Rattle.iom_script.specs.Words.{◌␣◌, IsWithout, IsDevice, IsNumber, IsPage, IsAddress, IsRight, IsMode, IsKind, IsHex}
use Rattle.iom_script.specs.Grammar.{IsEventLine, IsScriptLine, IsWorldLine, SayEach, Says}
use Rattle.iom_script.proofs.CutLemmas.{cut_is_one, cut_has_separator}
use Rattle.iom_script.proofs.HexLemmas.{same_hex, length_hex}
use Rattle.iom_script.proofs.HexBytesLemmas.{same_hex_of}
use Rattle.iom_script.proofs.DecimalLemmas.{number_without_space}
use Rattle.iom_script.proofs.WordLemmas.{device_without_space, address_without_space}
use Rattle.iom_script.proofs.FieldLemmas.{HasNoSpace, Followed}
use Rattle.iom_script.proofs.EventLemmas.{AttachingOf, never_both, other_line, device_event, device_from, PlugWords, attach_event, attach_from, AttachWords, grant_event, grant_from, GrantWords, release_event, release_from, ReleaseWords, read_event, read_from, ReadWords, write_event, write_from, WriteWords, commit_event, commit_from, detach_event, detach_from, poke_event, poke_from, PokeWords, peek_event, peek_from, PeekWords, free_event, free_from, faults_only}
use Rattle.iom_script.proofs.AtsEventLemmas.{aread_event, aread_from, awrite_event, awrite_from, tread_event, tread_from, twrite_event, twrite_from, ask_event, ask_from, AskWords, forge_event, forge_from, ForgeWords, deliver_event, deliver_from, drop_event, drop_from, repeat_event, repeat_from}
use Rattle.iom_script.proofs.RecoveryEventLemmas.{quarantine_event, quarantine_from, revive_event, revive_from, restart_only, timeout_only, reset_event, reset_from}
use Rattle.iom_script.proofs.BlockEventLemmas.{medium_event, medium_from, MediumWords, queue_event, queue_from, QueueWords, step_event, step_from, status_event, status_from}

-- the text says one value
abbrev pub SaysOne : {X : Type 0} → (List ℕ → X → Type 0) → Type 0
SaysOne {X} Says = (text : List ℕ) (x y : X) → Says text x → Says text y → x ≡ y

pub device_same : SaysOne IsDevice
device_same text x y p q = same_hex 6 x y p.0 q.0 (sym p.1 ∙ q.1)

own : IsNumeralModel (AllDigits 10) (digits_value 10)
own = numerals_by_value (AllDigits 10) tells_digits

pub number_same : SaysOne IsNumber
number_same text x y p q = sym (digits_value-decimal own x p.0) ∙ ap (digits_value 10) (sym p.1 ∙ q.1) ∙ digits_value-decimal own y q.0

pub address_same : SaysOne IsAddress
address_same text x y p q =
    let count : p.0 ≡ q.0 = omega (arith, ap length p.4, ap length q.4, length_hex p.0 x, length_hex q.0 y) in
    let digits : hex_digits p.0 x ≡ hex_digits q.0 y = ap (drop 2) (sym p.4 ∙ q.4) in
    same_hex p.0 x y p.3 (subst (λ k. y < 16 ^ k) (sym count) q.3) (digits ∙ ap (λ k. hex_digits k y) (sym count))

pub right_same : SaysOne IsRight
right_same text x y (inl a) (inl b) = a.1 ∙ sym b.1
right_same text x y (inl a) (inr b) = absurd (omega (arith, ap length (sym a.0 ∙ b.0)))
right_same text x y (inr a) (inl b) = absurd (omega (arith, ap length (sym a.0 ∙ b.0)))
right_same text x y (inr a) (inr b) = a.1 ∙ sym b.1

-- the mode of a word that says one
abbrev mode_by : List ℕ → Mode
mode_by text =
    if pointwise nat_eq text (codes "first") then First Sv39
    else (if pointwise nat_eq text (codes "second") then Second Sv39
    else (if pointwise nat_eq text (codes "both") then Both Sv39
    else (if pointwise nat_eq text (codes "first48") then First Sv48
    else (if pointwise nat_eq text (codes "second48") then Second Sv48
    else Both Sv48))))

mode_read : (text : List ℕ) (mode : Mode) → IsMode text mode → mode_by text ≡ mode
mode_read text (First Sv39) p = ap mode_by p
mode_read text (First Sv48) p = ap mode_by p
mode_read text (Second Sv39) p = ap mode_by p
mode_read text (Second Sv48) p = ap mode_by p
mode_read text (Both Sv39) p = ap mode_by p
mode_read text (Both Sv48) p = ap mode_by p

mode_same : SaysOne IsMode
mode_same text x y p q = sym (mode_read text x p) ∙ mode_read text y q

-- a mode is one word
pub mode_without_space : (text : List ℕ) (mode : Mode) → IsMode text mode → IsWithout 32 text
mode_without_space text (First Sv39) p = subst (IsWithout 32) (sym p) (search rules)
mode_without_space text (First Sv48) p = subst (IsWithout 32) (sym p) (search rules)
mode_without_space text (Second Sv39) p = subst (IsWithout 32) (sym p) (search rules)
mode_without_space text (Second Sv48) p = subst (IsWithout 32) (sym p) (search rules)
mode_without_space text (Both Sv39) p = subst (IsWithout 32) (sym p) (search rules)
mode_without_space text (Both Sv48) p = subst (IsWithout 32) (sym p) (search rules)

-- so a mode alone isn't one with `ats` behind it
one_word : (text word : List ℕ) (m : Mode) → IsMode text m → text ≡ word ␣ codes "ats" → ⊥
one_word text word m p e = cut_has_separator 32 text word (codes "ats") (mode_without_space text m p) e

pub attaching_same : SaysOne AttachingOf
attaching_same text (m, false) (n, false) p q = ap (λ (mode : Mode). let how : Mode × Bool = (mode, false) in how) (mode_same text m n p q)
attaching_same text (m, false) (n, true) p q = absurd (one_word text q.0 m p q.2)
attaching_same text (m, true) (n, false) p q = absurd (one_word text p.0 n q p.2)
attaching_same text (m, true) (n, true) p q =
    let words = cut_is_one 32 p.0 q.0 (codes "ats") (codes "ats") (mode_without_space p.0 m p.1) (mode_without_space q.0 n q.1) (sym p.2 ∙ q.2) in
    ap (λ (mode : Mode). let how : Mode × Bool = (mode, true) in how) (mode_same q.0 m n (subst (λ w. IsMode w m) words.0 p.1) q.1)

-- the number of a disk behind a word
disk_same : (word : List ℕ) (k l : List ℕ) (x y : ℕ) → IsNumber k x → IsNumber l y → word ␣ k ≡ word ␣ l → x ≡ y
disk_same word k l x y p q same = number_same k x y p (subst (λ t. IsNumber t y) (sym (append_cancel_left (word ␣ []) k l (behind word k ∙ same ∙ sym (behind word l)))) q)
  where
    behind : (before after : List ℕ) → (before ␣ []) ++ after ≡ before ␣ after
    behind [] after = refl
    behind (b ∷ before) after = ap (λ l. b ∷ l) (behind before after)

pub kind_same : SaysOne IsKind
kind_same text Raw Raw p q = refl
kind_same text Ats Ats p q = refl
kind_same text Raw Ats p q = absurd (never_both (codes "raw") (codes "ats") [] [] refl (sym p ∙ q))
kind_same text Ats Raw p q = absurd (never_both (codes "ats") (codes "raw") [] [] refl (sym p ∙ q))
kind_same text Raw (Block y) p q = absurd (never_both (codes "raw") (codes "blk ") [] q.0 refl (sym p ∙ q.2))
kind_same text Raw (CachedBlock y) p q = absurd (never_both (codes "raw") (codes "ablk ") [] q.0 refl (sym p ∙ q.2))
kind_same text Ats (Block y) p q = absurd (never_both (codes "ats") (codes "blk ") [] q.0 refl (sym p ∙ q.2))
kind_same text Ats (CachedBlock y) p q = absurd (never_both (codes "ats") (codes "ablk ") [] q.0 refl (sym p ∙ q.2))
kind_same text (Block x) Raw p q = absurd (never_both (codes "blk ") (codes "raw") p.0 [] refl (sym p.2 ∙ q))
kind_same text (Block x) Ats p q = absurd (never_both (codes "blk ") (codes "ats") p.0 [] refl (sym p.2 ∙ q))
kind_same text (Block x) (Block y) p q = ap (λ (k : ℕ). Block k) (disk_same (codes "blk") p.0 q.0 x y p.1 q.1 (sym p.2 ∙ q.2))
kind_same text (Block x) (CachedBlock y) p q = absurd (never_both (codes "blk ") (codes "ablk ") p.0 q.0 refl (sym p.2 ∙ q.2))
kind_same text (CachedBlock x) Raw p q = absurd (never_both (codes "ablk ") (codes "raw") p.0 [] refl (sym p.2 ∙ q))
kind_same text (CachedBlock x) Ats p q = absurd (never_both (codes "ablk ") (codes "ats") p.0 [] refl (sym p.2 ∙ q))
kind_same text (CachedBlock x) (Block y) p q = absurd (never_both (codes "ablk ") (codes "blk ") p.0 q.0 refl (sym p.2 ∙ q.2))
kind_same text (CachedBlock x) (CachedBlock y) p q = ap (λ (k : ℕ). CachedBlock k) (disk_same (codes "ablk") p.0 q.0 x y p.1 q.1 (sym p.2 ∙ q.2))

pub page_same : SaysOne IsPage
page_same text x y p q = number_same text x y p.0 q.0

hex_same : SaysOne IsHex
hex_same text x y p q = same_hex_of x y p.2 q.2 (sym p.3 ∙ q.3)

-- words one after another
pub followed_same : {B : Type 0} (Says : List ℕ → ℕ → Type 0) (More : List ℕ → B → Type 0) → HasNoSpace Says → SaysOne Says → SaysOne More → SaysOne (Followed Says More)
followed_same {B} Says More spaceless one more_one text a b p q =
    let same = cut_is_one 32 p.1.0 q.1.0 p.0 q.0 (spaceless p.1.0 a.0 p.1.1) (spaceless q.1.0 b.0 q.1.1) (sym p.1.2 ∙ q.1.2) in
    let value = one q.1.0 a.0 b.0 (subst (λ w. Says w a.0) same.0 p.1.1) q.1.1 in
    let more = more_one q.0 a.1 b.1 (subst (λ t. More t a.1) same.1 p.2) q.2 in
    ap (λ (v : ℕ). let r : ℕ × B = (v, a.1) in r) value ∙ ap (λ (m : B). let r : ℕ × B = (b.0, m) in r) more

-- what is said by one line with the same first word
pub event_by_words : {V X : Type 0} (f : V → X) (R : V → Type 0) (a b : X) → ((v w : V) → R v → R w → v ≡ w)
    → (v : V) × R v × (f v ≡ a) → (w : V) × R w × (f w ≡ b) → a ≡ b
event_by_words {V} {X} f R a b one p q = sym p.2 ∙ ap f (one p.0 q.0 p.1 q.1) ∙ q.2

fetch_same : (b : Event) → IsEventLine (codes "fetch") b → Fetch ≡ b
fetch_same Fetch q = refl
fetch_same b q = absurd (other_line (codes "fetch") [] b refl q)

poll_same : (b : Event) → IsEventLine (codes "poll") b → Poll ≡ b
poll_same Poll q = refl
poll_same b q = absurd (other_line (codes "poll") [] b refl q)

-- a line says one event
pub event_same : (line : List ℕ) (a b : Event) → IsEventLine line a → IsEventLine line b → a ≡ b
event_same line (Plug device new) b p q =
    let text = p.0 ␣ p.1 in
    event_by_words device_event (PlugWords text) (Plug device new) b (followed_same IsDevice IsKind device_without_space device_same kind_same text)
    (device_from text (Plug device new) (p.0, p.1, p.2, p.3, refl)) (device_from text b (subst (λ l. IsEventLine l b) p.4 q))
event_same line (Attach device mode ats) b p q =
    let text = p.0 ␣ p.1 in
    event_by_words attach_event (AttachWords text) (Attach device mode ats) b (followed_same IsDevice AttachingOf device_without_space device_same attaching_same text)
    (attach_from text (Attach device mode ats) (p.0, p.1, p.2, p.3, refl)) (attach_from text b (subst (λ l. IsEventLine l b) p.4 q))
event_same line (Grant device page frame rights) b p q =
    let text = p.0 ␣ p.1 ␣ p.2 ␣ p.3 in
    event_by_words grant_event (GrantWords text) (Grant device page frame rights) b
    (followed_same IsDevice (Followed IsNumber (Followed IsNumber IsRight)) device_without_space device_same
    (followed_same IsNumber (Followed IsNumber IsRight) number_without_space number_same (followed_same IsNumber IsRight number_without_space number_same right_same)) text)
    (grant_from text (Grant device page frame rights) (p.0, p.1, p.2, p.3, p.4, p.5, p.6, p.7, refl)) (grant_from text b (subst (λ l. IsEventLine l b) p.8 q))
event_same line (Release device page) b p q =
    let text = p.0 ␣ p.1 in
    event_by_words release_event (ReleaseWords text) (Release device page) b (followed_same IsDevice IsNumber device_without_space device_same number_same text)
    (release_from text (Release device page) (p.0, p.1, p.2, p.3, refl)) (release_from text b (subst (λ l. IsEventLine l b) p.4 q))
event_same line Fetch b p q = fetch_same b (subst (λ l. IsEventLine l b) p q)
event_same line Poll b p q = poll_same b (subst (λ l. IsEventLine l b) p q)
event_same line Faults b p q = faults_only b (subst (λ l. IsEventLine l b) p q)
event_same line (Read device address len) b p q =
    let text = p.0 ␣ p.1 ␣ p.2 in
    event_by_words read_event (ReadWords text) (Read device address len) b
    (followed_same IsDevice (Followed IsAddress IsNumber) device_without_space device_same (followed_same IsAddress IsNumber address_without_space address_same number_same) text)
    (read_from text (Read device address len) (p.0, p.1, p.2, p.3, p.4, p.5, refl)) (read_from text b (subst (λ l. IsEventLine l b) p.6 q))
event_same line (Write device address bytes) b p q =
    let text = p.0 ␣ p.1 ␣ p.2 in
    event_by_words write_event (WriteWords text) (Write device address bytes) b
    (followed_same IsDevice (Followed IsAddress IsHex) device_without_space device_same (followed_same IsAddress IsHex address_without_space address_same hex_same) text)
    (write_from text (Write device address bytes) (p.0, p.1, p.2, p.3, p.4, p.5, refl)) (write_from text b (subst (λ l. IsEventLine l b) p.6 q))
event_same line (Commit device) b p q =
    event_by_words commit_event (IsDevice p.0) (Commit device) b (device_same p.0)
    (commit_from p.0 (Commit device) (p.0, p.1, refl)) (commit_from p.0 b (subst (λ l. IsEventLine l b) p.2 q))
event_same line (Detach device) b p q =
    event_by_words detach_event (IsDevice p.0) (Detach device) b (device_same p.0)
    (detach_from p.0 (Detach device) (p.0, p.1, refl)) (detach_from p.0 b (subst (λ l. IsEventLine l b) p.2 q))
event_same line (Poke address bytes) b p q =
    let text = p.0 ␣ p.1 in
    event_by_words poke_event (PokeWords text) (Poke address bytes) b (followed_same IsAddress IsHex address_without_space address_same hex_same text)
    (poke_from text (Poke address bytes) (p.0, p.1, p.2, p.3, refl)) (poke_from text b (subst (λ l. IsEventLine l b) p.4 q))
event_same line (Peek address len) b p q =
    let text = p.0 ␣ p.1 in
    event_by_words peek_event (PeekWords text) (Peek address len) b (followed_same IsAddress IsNumber address_without_space address_same number_same text)
    (peek_from text (Peek address len) (p.0, p.1, p.2, p.3, refl)) (peek_from text b (subst (λ l. IsEventLine l b) p.4 q))
event_same line (Free frame) b p q =
    event_by_words free_event (IsNumber p.0) (Free frame) b (number_same p.0)
    (free_from p.0 (Free frame) (p.0, p.1, refl)) (free_from p.0 b (subst (λ l. IsEventLine l b) p.2 q))
event_same line (ReadTranslated device address len) b p q =
    let text = p.0 ␣ p.1 ␣ p.2 in
    event_by_words tread_event (ReadWords text) (ReadTranslated device address len) b
    (followed_same IsDevice (Followed IsAddress IsNumber) device_without_space device_same (followed_same IsAddress IsNumber address_without_space address_same number_same) text)
    (tread_from text (ReadTranslated device address len) (p.0, p.1, p.2, p.3, p.4, p.5, refl)) (tread_from text b (subst (λ l. IsEventLine l b) p.6 q))
event_same line (WriteTranslated device address bytes) b p q =
    let text = p.0 ␣ p.1 ␣ p.2 in
    event_by_words twrite_event (WriteWords text) (WriteTranslated device address bytes) b
    (followed_same IsDevice (Followed IsAddress IsHex) device_without_space device_same (followed_same IsAddress IsHex address_without_space address_same hex_same) text)
    (twrite_from text (WriteTranslated device address bytes) (p.0, p.1, p.2, p.3, p.4, p.5, refl)) (twrite_from text b (subst (λ l. IsEventLine l b) p.6 q))
event_same line (ReadThroughCache device address len) b p q =
    let text = p.0 ␣ p.1 ␣ p.2 in
    event_by_words aread_event (ReadWords text) (ReadThroughCache device address len) b
    (followed_same IsDevice (Followed IsAddress IsNumber) device_without_space device_same (followed_same IsAddress IsNumber address_without_space address_same number_same) text)
    (aread_from text (ReadThroughCache device address len) (p.0, p.1, p.2, p.3, p.4, p.5, refl)) (aread_from text b (subst (λ l. IsEventLine l b) p.6 q))
event_same line (WriteThroughCache device address bytes) b p q =
    let text = p.0 ␣ p.1 ␣ p.2 in
    event_by_words awrite_event (WriteWords text) (WriteThroughCache device address bytes) b
    (followed_same IsDevice (Followed IsAddress IsHex) device_without_space device_same (followed_same IsAddress IsHex address_without_space address_same hex_same) text)
    (awrite_from text (WriteThroughCache device address bytes) (p.0, p.1, p.2, p.3, p.4, p.5, refl)) (awrite_from text b (subst (λ l. IsEventLine l b) p.6 q))
event_same line (Ask device page) b p q =
    let text = p.0 ␣ p.1 in
    event_by_words ask_event (AskWords text) (Ask device page) b (followed_same IsDevice IsPage device_without_space device_same page_same text)
    (ask_from text (Ask device page) (p.0, p.1, p.2, p.3, refl)) (ask_from text b (subst (λ l. IsEventLine l b) p.4 q))
event_same line (Forge device serial) b p q =
    let text = p.0 ␣ p.1 in
    event_by_words forge_event (ForgeWords text) (Forge device serial) b (followed_same IsDevice IsNumber device_without_space device_same number_same text)
    (forge_from text (Forge device serial) (p.0, p.1, p.2, p.3, refl)) (forge_from text b (subst (λ l. IsEventLine l b) p.4 q))
event_same line (Deliver place) b p q =
    event_by_words deliver_event (IsNumber p.0) (Deliver place) b (number_same p.0)
    (deliver_from p.0 (Deliver place) (p.0, p.1, refl)) (deliver_from p.0 b (subst (λ l. IsEventLine l b) p.2 q))
event_same line (Drop place) b p q =
    event_by_words drop_event (IsNumber p.0) (Drop place) b (number_same p.0)
    (drop_from p.0 (Drop place) (p.0, p.1, refl)) (drop_from p.0 b (subst (λ l. IsEventLine l b) p.2 q))
event_same line (Repeat place) b p q =
    event_by_words repeat_event (IsNumber p.0) (Repeat place) b (number_same p.0)
    (repeat_from p.0 (Repeat place) (p.0, p.1, refl)) (repeat_from p.0 b (subst (λ l. IsEventLine l b) p.2 q))
event_same line (Quarantine device) b p q =
    event_by_words quarantine_event (IsDevice p.0) (Quarantine device) b (device_same p.0)
    (quarantine_from p.0 (Quarantine device) (p.0, p.1, refl)) (quarantine_from p.0 b (subst (λ l. IsEventLine l b) p.2 q))
event_same line (Revive device) b p q =
    event_by_words revive_event (IsDevice p.0) (Revive device) b (device_same p.0)
    (revive_from p.0 (Revive device) (p.0, p.1, refl)) (revive_from p.0 b (subst (λ l. IsEventLine l b) p.2 q))
event_same line (Reset device) b p q =
    event_by_words reset_event (IsDevice p.0) (Reset device) b (device_same p.0)
    (reset_from p.0 (Reset device) (p.0, p.1, refl)) (reset_from p.0 b (subst (λ l. IsEventLine l b) p.2 q))
event_same line (Medium device disk) b p q =
    let text = p.0 ␣ p.1 in
    event_by_words medium_event (MediumWords text) (Medium device disk) b (followed_same IsDevice IsNumber device_without_space device_same number_same text)
    (medium_from text (Medium device disk) (p.0, p.1, p.2, p.3, refl)) (medium_from text b (subst (λ l. IsEventLine l b) p.4 q))
event_same line (Queue device size descriptors available used) b p q =
    let text = p.0 ␣ p.1 ␣ p.2 ␣ p.3 ␣ p.4 in
    event_by_words queue_event (QueueWords text) (Queue device size descriptors available used) b
    (followed_same IsDevice (Followed IsNumber (Followed IsAddress (Followed IsAddress IsAddress))) device_without_space device_same
    (followed_same IsNumber (Followed IsAddress (Followed IsAddress IsAddress)) number_without_space number_same
    (followed_same IsAddress (Followed IsAddress IsAddress) address_without_space address_same
    (followed_same IsAddress IsAddress address_without_space address_same address_same))) text)
    (queue_from text (Queue device size descriptors available used) (p.0, p.1, p.2, p.3, p.4, p.5, p.6, p.7, p.8, p.9, refl)) (queue_from text b (subst (λ l. IsEventLine l b) p.10 q))
event_same line (Step device) b p q =
    event_by_words step_event (IsDevice p.0) (Step device) b (device_same p.0)
    (step_from p.0 (Step device) (p.0, p.1, refl)) (step_from p.0 b (subst (λ l. IsEventLine l b) p.2 q))
event_same line (Status device) b p q =
    event_by_words status_event (IsDevice p.0) (Status device) b (device_same p.0)
    (status_from p.0 (Status device) (p.0, p.1, refl)) (status_from p.0 b (subst (λ l. IsEventLine l b) p.2 q))
event_same line Restart b p q = restart_only b (subst (λ l. IsEventLine l b) p q)
event_same line Timeout b p q = timeout_only b (subst (λ l. IsEventLine l b) p q)

-- the two numbers of a world
abbrev pub numbers_of : WorldSize → ℕ × ℕ
numbers_of size = (size.frames, size.levels)

-- worlds with the same numbers
pub same_size : (s t : WorldSize) → numbers_of s ≡ numbers_of t → s ≡ t
same_size s t same =
    ap (λ (f : ℕ). let w : WorldSize = record { frames = f; levels = s.levels } in w) (ap (λ (p : ℕ × ℕ). p.0) same)
    ∙ ap (λ (l : ℕ). let w : WorldSize = record { frames = t.frames; levels = l } in w) (ap (λ (p : ℕ × ℕ). p.1) same)

-- the words behind the first one
pub world_words : (text : List ℕ) (size : WorldSize) → IsWorldLine (codes "world" ␣ text) size → Followed IsNumber IsNumber text (numbers_of size)
world_words text size q = (q.1, (q.0, q.2, append_cancel_left (codes "world ") text (q.0 ␣ q.1) q.5), q.3)

-- a line says one world
world_same : (line : List ℕ) (s t : WorldSize) → IsWorldLine line s → IsWorldLine line t → s ≡ t
world_same line s t p q =
    let text = p.0 ␣ p.1 in
    same_size s t
    (followed_same IsNumber IsNumber number_without_space number_same number_same text (numbers_of s) (numbers_of t)
    (world_words text s (p.0, p.1, p.2, p.3, p.4, refl)) (world_words text t (subst (λ l. IsWorldLine l t) p.5 q)))

-- a line that says that the world settles says no event
settle_apart : (event : Event) → IsEventLine (codes "settle") event → ⊥
settle_apart (Step device) q = other_line (codes "settle") [] (Step device) refl q
settle_apart event q = other_line (codes "settle") [] event refl q

pub no_event_settles : (line : List ℕ) (event : Event) → line ≡ codes "settle" → IsEventLine line event → ⊥
no_event_settles line event is q = settle_apart event (subst (λ l. IsEventLine l event) is q)

-- a line behind that of the world says one thing
pub line_same : (line : List ℕ) (a b : ScriptLine) → IsScriptLine line a → IsScriptLine line b → a ≡ b
line_same line (says.Event a) (says.Event b) p q = ap says.Event (event_same line a b p q)
line_same line (says.Event a) says.Settle p q = absurd (no_event_settles line a q p)
line_same line says.Settle (says.Event b) p q = absurd (no_event_settles line b p q)
line_same line says.Settle says.Settle p q = refl

-- and so do several, where each says one
pub each_same : {L X : Type 0} (Says : L → X → Type 0) → ((l : L) (x y : X) → Says l x → Says l y → x ≡ y)
    → (lines : List L) (xs ys : List X) → SayEach Says lines xs → SayEach Says lines ys → xs ≡ ys
each_same {L} {X} Says one [] [] [] p q = refl
each_same {L} {X} Says one [] [] (y ∷ ys) p q = absurd q
each_same {L} {X} Says one [] (x ∷ xs) ys p q = absurd p
each_same {L} {X} Says one (l ∷ ls) [] ys p q = absurd p
each_same {L} {X} Says one (l ∷ ls) (x ∷ xs) [] p q = absurd q
each_same {L} {X} Says one (l ∷ ls) (x ∷ xs) (y ∷ ys) p q =
    ap (λ e. e ∷ xs) (one l x y p.0 q.0) ∙ ap (λ es. y ∷ es) (each_same Says one ls xs ys p.1 q.1)

-- two scripts with the same parts
same_script : (s t : Script) → s.world ≡ t.world → s.lines ≡ t.lines → s ≡ t
same_script s t world lines =
    ap (λ (w : Option WorldSize). let a : Script = record { world = w; lines = s.lines } in a) world
    ∙ ap (λ (ls : List ScriptLine). let a : Script = record { world = t.world; lines = ls } in a) lines

-- lines say one script
pub says_same : (lines : List (List ℕ)) (s t : Script) → Says lines s → Says lines t → s ≡ t
says_same [] s t p q = same_script s t (p.0 ∙ sym q.0) (p.1 ∙ sym q.1)
says_same (l ∷ ls) s t p q =
    same_script s t (p.1 ∙ ap Some (world_same l p.0 q.0 p.2 q.2) ∙ sym q.1) (each_same IsScriptLine line_same ls s.lines t.lines p.3 q.3)

-- a front of lines that all say something says something
pub each_front : {L X : Type 0} (Says : L → X → Type 0) (xs ys : List L) (all : List X) → SayEach Says (xs ++ ys) all → (front : List X) × SayEach Says xs front
each_front {L} {X} Says [] ys all say = ([], tt)
each_front {L} {X} Says (x ∷ xs) ys [] say = absurd say
each_front {L} {X} Says (x ∷ xs) ys (a ∷ rest) say = let more = each_front Says xs ys rest say.1 in (a ∷ more.0, (say.0, more.1))

-- a front of lines that say a script says one
pub says_front : (xs ys : List (List ℕ)) (script : Script) → Says (xs ++ ys) script → (front : Script) × Says xs front
says_front [] ys script say = let nothing : Script = record { world = None; lines = [] } in (nothing, (refl, refl))
says_front (x ∷ xs) ys script say =
    let others = each_front IsScriptLine xs ys script.lines say.3 in
    let front : Script = record { world = Some say.0; lines = others.0 } in
    (front, (say.0, refl, say.2, others.1))
