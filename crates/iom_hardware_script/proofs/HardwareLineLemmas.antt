-- The words behind the keyword of a line of software are those of the line; and a line says one thing.
use Rattle.std.proofs.Common.{◌≡◌, ℕ, List, ◌++◌, Option, Some, None, codes, ap, sym, subst, refl, ◌∙◌}
use Rattle.std.specs.Option.{option_map}
use Rattle.std.proofs.lemmas.List.{append_cancel_left}
use Rattle.iom_machine.specs.declared.event.Event.{Event}
use Rattle.iom_machine.specs.declared.event.Event.TheVariants.{Fetch}
use Rattle.iom_script.specs.Words.{◌␣◌, IsDevice, IsNumber, IsAddress}
use Rattle.iom_script.specs.Reading.{Reads}
use Rattle.iom_script.specs.Grammar.{IsEventLine}
use Rattle.iom_script.proofs.ReadsLemmas.{reads_some, reads_none, read_holds, read_nothing}
use Rattle.iom_script.proofs.FieldLemmas.{Followed}
use Rattle.iom_script.proofs.DecimalLemmas.{number_without_space}
use Rattle.iom_script.proofs.EventLemmas.{keyword_reads, other_line, never_both}
use Rattle.iom_script.proofs.SameLemmas.{device_same, number_same, address_same, followed_same, event_by_words, event_same}
use Rattle.iom_hardware_script.specs.declared.script.Claim.{Claim}
use Rattle.iom_hardware_script.specs.declared.script.Help.{Help}
use Rattle.iom_hardware_script.specs.declared.script.HardwareLine.{HardwareLine}
use Rattle.iom_hardware_script.specs.declared.script.HardwareLine.TheVariants as says
use Rattle.iom_hardware_script.specs.declared.script.HardwareLine.TheVariants.{RegisterRead, RegisterWrite}
use Rattle.iom_hardware_script.specs.Grammar.{IsOfHardware, IsClaim, IsHelp, IsHardwareLine}
use Rattle.iom_hardware_script.specs.Parts.{IsRegisterRead, IsRegisterWrite, IsClaimed, IsLoad, IsOfSoftware, IsRegisterReadLine, IsRegisterWriteLine, IsClaimLine, IsLoadLine, IsSoftwareLine}
use Rattle.iom_hardware_script.proofs.ClaimLemmas.{claim_same}
use Rattle.iom_hardware_script.proofs.HelpLemmas.{help_same, help_no_event, help_otherwise}

-- mmio-read

abbrev pub RegisterReadWords : List ℕ → ℕ × ℕ → Type 0
RegisterReadWords text words = Followed IsNumber IsNumber text words

abbrev pub register_read_line : ℕ × ℕ → HardwareLine
register_read_line words = RegisterRead words.0 words.1

pub register_read_from : (text : List ℕ) (said : HardwareLine) → IsRegisterRead said → IsHardwareLine (codes "mmio-read" ␣ text) said → (words : ℕ × ℕ) × RegisterReadWords text words × (register_read_line words ≡ said)
register_read_from text (RegisterRead offset width) is q =
    ((offset, width), (q.1, (q.0, q.2, append_cancel_left (codes "mmio-read ") text (q.0 ␣ q.1) q.4), q.3), refl)
register_read_from text (says.RegisterWrite offset width value) is q = absurd is
register_read_from text (says.Claim claim) is q = absurd is
register_read_from text (says.Event event) is q = absurd is
register_read_from text (says.Help help) is q = absurd is
register_read_from text (says.Load device) is q = absurd is

-- a line that begins otherwise isn't such a line
pub no_register_read : (line : List ℕ) → Reads None (λ more. line ≡ codes "mmio-read " ++ more) → Reads None (IsRegisterReadLine line)
no_register_read line none = reads_none (IsRegisterReadLine line) nothing
  where
    nothing : (said : HardwareLine) → IsRegisterReadLine line said → ⊥
    nothing (says.RegisterRead offset width) q = read_nothing (λ more. line ≡ codes "mmio-read " ++ more) (q.1.0 ␣ q.1.1) none q.1.4
    nothing (says.RegisterWrite offset width value) q = absurd q.0
    nothing (says.Claim claim) q = absurd q.0
    nothing (says.Event event) q = absurd q.0
    nothing (says.Help help) q = absurd q.0
    nothing (says.Load device) q = absurd q.0

pub register_read_reads : (line text : List ℕ) → Reads (Some text) (λ more. line ≡ codes "mmio-read " ++ more) → (result : Option (ℕ × ℕ)) → Reads result (RegisterReadWords text)
    → Reads (option_map register_read_line result) (IsRegisterReadLine line)
register_read_reads line text begun result reads =
    keyword_reads IsRegisterRead IsHardwareLine register_read_line (RegisterReadWords text) (codes "mmio-read ") line text result (λ v. tt) begun
    (λ words q. (q.1.0, q.0, q.1.1, q.2, ap (λ t. codes "mmio-read" ␣ t) (q.1.2)))
    (register_read_from text) reads

-- mmio-write

abbrev pub RegisterWriteWords : List ℕ → ℕ × (ℕ × ℕ) → Type 0
RegisterWriteWords text words = Followed IsNumber (Followed IsNumber IsAddress) text words

abbrev pub register_write_line : ℕ × (ℕ × ℕ) → HardwareLine
register_write_line words = RegisterWrite words.0 words.1.0 words.1.1

pub register_write_from : (text : List ℕ) (said : HardwareLine) → IsRegisterWrite said → IsHardwareLine (codes "mmio-write" ␣ text) said → (words : ℕ × (ℕ × ℕ)) × RegisterWriteWords text words × (register_write_line words ≡ said)
register_write_from text (RegisterWrite offset width value) is q =
    let from_width : ℕ × ℕ = (width, value) in
    ((offset, from_width), (q.1 ␣ q.2, (q.0, q.3, append_cancel_left (codes "mmio-write ") text (q.0 ␣ q.1 ␣ q.2) q.6), (q.2, (q.1, q.4, refl), q.5)), refl)
register_write_from text (says.RegisterRead offset width) is q = absurd is
register_write_from text (says.Claim claim) is q = absurd is
register_write_from text (says.Event event) is q = absurd is
register_write_from text (says.Help help) is q = absurd is
register_write_from text (says.Load device) is q = absurd is

-- a line that begins otherwise isn't such a line
pub no_register_write : (line : List ℕ) → Reads None (λ more. line ≡ codes "mmio-write " ++ more) → Reads None (IsRegisterWriteLine line)
no_register_write line none = reads_none (IsRegisterWriteLine line) nothing
  where
    nothing : (said : HardwareLine) → IsRegisterWriteLine line said → ⊥
    nothing (says.RegisterWrite offset width value) q = read_nothing (λ more. line ≡ codes "mmio-write " ++ more) (q.1.0 ␣ q.1.1 ␣ q.1.2) none q.1.6
    nothing (says.RegisterRead offset width) q = absurd q.0
    nothing (says.Claim claim) q = absurd q.0
    nothing (says.Event event) q = absurd q.0
    nothing (says.Help help) q = absurd q.0
    nothing (says.Load device) q = absurd q.0

pub register_write_reads : (line text : List ℕ) → Reads (Some text) (λ more. line ≡ codes "mmio-write " ++ more) → (result : Option (ℕ × (ℕ × ℕ))) → Reads result (RegisterWriteWords text)
    → Reads (option_map register_write_line result) (IsRegisterWriteLine line)
register_write_reads line text begun result reads =
    keyword_reads IsRegisterWrite IsHardwareLine register_write_line (RegisterWriteWords text) (codes "mmio-write ") line text result (λ v. tt) begun
    (λ words q. (q.1.0, q.2.1.0, q.2.0, q.1.1, q.2.1.1, q.2.2, ap (λ t. codes "mmio-write" ␣ t) (q.1.2 ∙ ap (λ t. q.1.0 ␣ t) (q.2.1.2))))
    (register_write_from text) reads

-- claim

pub no_claim_line : (line : List ℕ) → Reads None (λ more. line ≡ codes "claim " ++ more) → Reads None (IsClaimLine line)
no_claim_line line none = reads_none (IsClaimLine line) nothing
  where
    nothing : (said : HardwareLine) → IsClaimLine line said → ⊥
    nothing (says.Claim claim) q = read_nothing (λ more. line ≡ codes "claim " ++ more) q.1.0 none q.1.2
    nothing (says.RegisterRead offset width) q = absurd q.0
    nothing (says.RegisterWrite offset width value) q = absurd q.0
    nothing (says.Event event) q = absurd q.0
    nothing (says.Help help) q = absurd q.0
    nothing (says.Load device) q = absurd q.0

claim_line_from : (text : List ℕ) (said : HardwareLine) → IsClaimed said → IsHardwareLine (codes "claim" ␣ text) said → (claim : Claim) × IsClaim text claim × (says.Claim claim ≡ said)
claim_line_from text (says.Claim claim) is q = (claim, subst (λ t. IsClaim t claim) (sym (append_cancel_left (codes "claim ") text q.0 q.2)) q.1, refl)
claim_line_from text (says.RegisterRead offset width) is q = absurd is
claim_line_from text (says.RegisterWrite offset width value) is q = absurd is
claim_line_from text (says.Event event) is q = absurd is
claim_line_from text (says.Help help) is q = absurd is
claim_line_from text (says.Load device) is q = absurd is

abbrev pub claim_line : Claim → HardwareLine
claim_line claim = says.Claim claim

pub claim_line_reads : (line text : List ℕ) → Reads (Some text) (λ more. line ≡ codes "claim " ++ more) → (result : Option Claim) → Reads result (IsClaim text)
    → Reads (option_map claim_line result) (IsClaimLine line)
claim_line_reads line text begun result reads =
    keyword_reads IsClaimed IsHardwareLine claim_line (IsClaim text) (codes "claim ") line text result (λ v. tt) begun (λ claim q. (text, q, refl)) (claim_line_from text) reads

-- load

abbrev pub load_line : ℕ → HardwareLine
load_line device = says.Load device

load_from : (text : List ℕ) (said : HardwareLine) → IsLoad said → IsHardwareLine (codes "load" ␣ text) said → (device : ℕ) × IsDevice text device × (load_line device ≡ said)
load_from text (says.Load device) is q = (device, subst (λ t. IsDevice t device) (sym (append_cancel_left (codes "load ") text q.0 q.2)) q.1, refl)
load_from text (says.RegisterRead offset width) is q = absurd is
load_from text (says.RegisterWrite offset width value) is q = absurd is
load_from text (says.Claim claim) is q = absurd is
load_from text (says.Event event) is q = absurd is
load_from text (says.Help help) is q = absurd is

-- a line that begins otherwise isn't such a line
pub no_load : (line : List ℕ) → Reads None (λ more. line ≡ codes "load " ++ more) → Reads None (IsLoadLine line)
no_load line none = reads_none (IsLoadLine line) nothing
  where
    nothing : (said : HardwareLine) → IsLoadLine line said → ⊥
    nothing (says.Load device) q = read_nothing (λ more. line ≡ codes "load " ++ more) q.1.0 none q.1.2
    nothing (says.RegisterRead offset width) q = absurd q.0
    nothing (says.RegisterWrite offset width value) q = absurd q.0
    nothing (says.Claim claim) q = absurd q.0
    nothing (says.Event event) q = absurd q.0
    nothing (says.Help help) q = absurd q.0

pub load_reads : (line text : List ℕ) → Reads (Some text) (λ more. line ≡ codes "load " ++ more) → (result : Option ℕ) → Reads result (IsDevice text)
    → Reads (option_map load_line result) (IsLoadLine line)
load_reads line text begun result reads =
    keyword_reads IsLoad IsHardwareLine load_line (IsDevice text) (codes "load ") line text result (λ v. tt) begun (λ device q. (text, q, refl)) (load_from text) reads

-- no event's line begins as one of software does

read_no_event : (text : List ℕ) (event : Event) → IsEventLine (codes "mmio-read " ++ text) event → ⊥
read_no_event text Fetch q = other_line (codes "mmio-read ") text Fetch refl q
read_no_event text event q = other_line (codes "mmio-read ") text event refl q

write_no_event : (text : List ℕ) (event : Event) → IsEventLine (codes "mmio-write " ++ text) event → ⊥
write_no_event text Fetch q = other_line (codes "mmio-write ") text Fetch refl q
write_no_event text event q = other_line (codes "mmio-write ") text event refl q

claim_no_event : (text : List ℕ) (event : Event) → IsEventLine (codes "claim " ++ text) event → ⊥
claim_no_event text Fetch q = other_line (codes "claim ") text Fetch refl q
claim_no_event text event q = other_line (codes "claim ") text event refl q

software_no_event : (line : List ℕ) (said : HardwareLine) (event : Event) → IsSoftwareLine line said → IsEventLine line event → ⊥
software_no_event line (says.RegisterRead offset width) event p q = read_no_event (p.1.0 ␣ p.1.1) event (subst (λ l. IsEventLine l event) p.1.4 q)
software_no_event line (says.RegisterWrite offset width value) event p q = write_no_event (p.1.0 ␣ p.1.1 ␣ p.1.2) event (subst (λ l. IsEventLine l event) p.1.6 q)
software_no_event line (says.Claim claim) event p q = claim_no_event p.1.0 event (subst (λ l. IsEventLine l event) p.1.2 q)
software_no_event line (says.Event other) event p q = absurd p.0
software_no_event line (says.Help help) event p q = absurd p.0
software_no_event line (says.Load device) event p q = absurd p.0

-- nor as one does that makes a load of a walk
load_no_event : (text : List ℕ) (event : Event) → IsEventLine (codes "load " ++ text) event → ⊥
load_no_event text Fetch q = other_line (codes "load ") text Fetch refl q
load_no_event text event q = other_line (codes "load ") text event refl q

-- a line of software asks hardware for nothing
software_no_help : (line : List ℕ) (said : HardwareLine) (help : Help) → IsSoftwareLine line said → IsHelp line help → ⊥
software_no_help line (says.RegisterRead offset width) help p q = help_otherwise line (codes "mmio-read ") (p.1.0 ␣ p.1.1) help p.1.4 refl refl refl q
software_no_help line (says.RegisterWrite offset width value) help p q = help_otherwise line (codes "mmio-write ") (p.1.0 ␣ p.1.1 ␣ p.1.2) help p.1.6 refl refl refl q
software_no_help line (says.Claim claim) help p q = help_otherwise line (codes "claim ") p.1.0 help p.1.2 refl refl refl q
software_no_help line (says.Event event) help p q = absurd p.0
software_no_help line (says.Help other) help p q = absurd p.0
software_no_help line (says.Load device) help p q = absurd p.0

-- a line that makes a load of a walk says nothing else
load_only : (line : List ℕ) (device : ℕ) (said : HardwareLine) → IsHardwareLine line (says.Load device) → IsHardwareLine line said → says.Load device ≡ said
load_only line device (says.Load other) p q =
    ap says.Load (device_same p.0 device other p.1 (subst (λ t. IsDevice t other) (sym (append_cancel_left (codes "load ") p.0 q.0 (sym p.2 ∙ q.2))) q.1))
load_only line device (says.Event event) p q = absurd (load_no_event p.0 event (subst (λ l. IsEventLine l event) p.2 q.1))
load_only line device (says.RegisterRead offset width) p q = absurd (never_both (codes "load ") (codes "mmio-read ") p.0 (q.0 ␣ q.1) refl (sym p.2 ∙ q.4))
load_only line device (says.RegisterWrite offset width value) p q = absurd (never_both (codes "load ") (codes "mmio-write ") p.0 (q.0 ␣ q.1 ␣ q.2) refl (sym p.2 ∙ q.6))
load_only line device (says.Claim claim) p q = absurd (never_both (codes "load ") (codes "claim ") p.0 q.0 refl (sym p.2 ∙ q.2))
load_only line device (says.Help help) p q = absurd (help_otherwise line (codes "load ") p.0 help p.2 refl refl refl q)

-- a line says one thing
pub line_same : (line : List ℕ) (a b : HardwareLine) → IsHardwareLine line a → IsHardwareLine line b → a ≡ b
line_same line (says.Event a) (says.Event b) p q = ap says.Event (event_same line a b p.1 q.1)
line_same line (says.Event a) (says.RegisterRead offset width) p q = absurd (software_no_event line (says.RegisterRead offset width) a (tt, q) p.1)
line_same line (says.Event a) (says.RegisterWrite offset width value) p q = absurd (software_no_event line (says.RegisterWrite offset width value) a (tt, q) p.1)
line_same line (says.Event a) (says.Claim claim) p q = absurd (software_no_event line (says.Claim claim) a (tt, q) p.1)
line_same line (says.RegisterRead offset width) (says.Event b) p q = absurd (software_no_event line (says.RegisterRead offset width) b (tt, p) q.1)
line_same line (says.RegisterWrite offset width value) (says.Event b) p q = absurd (software_no_event line (says.RegisterWrite offset width value) b (tt, p) q.1)
line_same line (says.Claim claim) (says.Event b) p q = absurd (software_no_event line (says.Claim claim) b (tt, p) q.1)
line_same line (says.RegisterRead offset width) (says.RegisterRead o w) p q =
    let words = p.0 ␣ p.1 in
    event_by_words register_read_line (RegisterReadWords words) (says.RegisterRead offset width) (says.RegisterRead o w) (followed_same IsNumber IsNumber number_without_space number_same number_same words)
    (register_read_from words (says.RegisterRead offset width) tt (p.0, p.1, p.2, p.3, refl)) (register_read_from words (says.RegisterRead o w) tt (subst (λ l. IsHardwareLine l (says.RegisterRead o w)) p.4 q))
line_same line (says.RegisterRead offset width) (says.RegisterWrite o w v) p q = absurd (never_both (codes "mmio-read ") (codes "mmio-write ") (p.0 ␣ p.1) (q.0 ␣ q.1 ␣ q.2) refl (sym p.4 ∙ q.6))
line_same line (says.RegisterRead offset width) (says.Claim claim) p q = absurd (never_both (codes "mmio-read ") (codes "claim ") (p.0 ␣ p.1) q.0 refl (sym p.4 ∙ q.2))
line_same line (says.RegisterWrite offset width value) (says.RegisterWrite o w v) p q =
    let words = p.0 ␣ p.1 ␣ p.2 in
    event_by_words register_write_line (RegisterWriteWords words) (says.RegisterWrite offset width value) (says.RegisterWrite o w v)
    (followed_same IsNumber (Followed IsNumber IsAddress) number_without_space number_same (followed_same IsNumber IsAddress number_without_space number_same address_same) words)
    (register_write_from words (says.RegisterWrite offset width value) tt (p.0, p.1, p.2, p.3, p.4, p.5, refl))
    (register_write_from words (says.RegisterWrite o w v) tt (subst (λ l. IsHardwareLine l (says.RegisterWrite o w v)) p.6 q))
line_same line (says.RegisterWrite offset width value) (says.RegisterRead o w) p q = absurd (never_both (codes "mmio-write ") (codes "mmio-read ") (p.0 ␣ p.1 ␣ p.2) (q.0 ␣ q.1) refl (sym p.6 ∙ q.4))
line_same line (says.RegisterWrite offset width value) (says.Claim claim) p q = absurd (never_both (codes "mmio-write ") (codes "claim ") (p.0 ␣ p.1 ␣ p.2) q.0 refl (sym p.6 ∙ q.2))
line_same line (says.Claim claim) (says.RegisterRead o w) p q = absurd (never_both (codes "claim ") (codes "mmio-read ") p.0 (q.0 ␣ q.1) refl (sym p.2 ∙ q.4))
line_same line (says.Claim claim) (says.RegisterWrite o w v) p q = absurd (never_both (codes "claim ") (codes "mmio-write ") p.0 (q.0 ␣ q.1 ␣ q.2) refl (sym p.2 ∙ q.6))
line_same line (says.Help a) (says.Help b) p q = ap says.Help (help_same line a b p q)
line_same line (says.Help help) (says.Event event) p q = absurd (help_no_event line help event p q.1)
line_same line (says.Help help) (says.RegisterRead offset width) p q = absurd (software_no_help line (says.RegisterRead offset width) help (tt, q) p)
line_same line (says.Help help) (says.RegisterWrite offset width value) p q = absurd (software_no_help line (says.RegisterWrite offset width value) help (tt, q) p)
line_same line (says.Help help) (says.Claim claim) p q = absurd (software_no_help line (says.Claim claim) help (tt, q) p)
line_same line (says.Event event) (says.Help help) p q = absurd (help_no_event line help event q p.1)
line_same line (says.RegisterRead offset width) (says.Help help) p q = absurd (software_no_help line (says.RegisterRead offset width) help (tt, p) q)
line_same line (says.RegisterWrite offset width value) (says.Help help) p q = absurd (software_no_help line (says.RegisterWrite offset width value) help (tt, p) q)
line_same line (says.Claim claim) (says.Help help) p q = absurd (software_no_help line (says.Claim claim) help (tt, p) q)
line_same line (says.Claim a) (says.Claim b) p q =
    ap says.Claim (claim_same p.0 a b p.1 (subst (λ t. IsClaim t b) (sym (append_cancel_left (codes "claim ") p.0 q.0 (sym p.2 ∙ q.2))) q.1))
line_same line (says.Load device) (says.Load other) p q = load_only line device (says.Load other) p q
line_same line (says.Load device) (says.Event event) p q = load_only line device (says.Event event) p q
line_same line (says.Load device) (says.RegisterRead offset width) p q = load_only line device (says.RegisterRead offset width) p q
line_same line (says.Load device) (says.RegisterWrite offset width value) p q = load_only line device (says.RegisterWrite offset width value) p q
line_same line (says.Load device) (says.Claim claim) p q = load_only line device (says.Claim claim) p q
line_same line (says.Load device) (says.Help help) p q = load_only line device (says.Help help) p q
line_same line (says.Event event) (says.Load device) p q = sym (load_only line device (says.Event event) q p)
line_same line (says.RegisterRead offset width) (says.Load device) p q = sym (load_only line device (says.RegisterRead offset width) q p)
line_same line (says.RegisterWrite offset width value) (says.Load device) p q = sym (load_only line device (says.RegisterWrite offset width value) q p)
line_same line (says.Claim claim) (says.Load device) p q = sym (load_only line device (says.Claim claim) q p)
line_same line (says.Help help) (says.Load device) p q = sym (load_only line device (says.Help help) q p)

-- what is read of one kind of lines is read of a wider one
pub found_line : (Is Wide : HardwareLine → Type 0) (line : List ℕ) (said : HardwareLine) → ((other : HardwareLine) → Is other → Wide other)
    → Reads (Some said) (λ other. Is other × IsHardwareLine line other) → Reads (Some said) (λ other. Wide other × IsHardwareLine line other)
found_line Is Wide line said wider reads =
    let q = read_holds (λ other. Is other × IsHardwareLine line other) said reads in
    reads_some (λ other. Wide other × IsHardwareLine line other) said (wider said q.0, q.1) (λ other r. line_same line said other q.1 r.1)

pub write_is_of_software : (said : HardwareLine) → IsRegisterWrite said → IsOfSoftware said
write_is_of_software (says.RegisterRead offset width) is = tt
write_is_of_software (says.RegisterWrite offset width value) is = tt
write_is_of_software (says.Claim claim) is = tt
write_is_of_software (says.Event event) is = absurd is
write_is_of_software (says.Help help) is = absurd is
write_is_of_software (says.Load device) is = absurd is

pub read_is_of_software : (said : HardwareLine) → IsRegisterRead said → IsOfSoftware said
read_is_of_software (says.RegisterRead offset width) is = tt
read_is_of_software (says.RegisterWrite offset width value) is = tt
read_is_of_software (says.Claim claim) is = tt
read_is_of_software (says.Event event) is = absurd is
read_is_of_software (says.Help help) is = absurd is
read_is_of_software (says.Load device) is = absurd is

claim_is_of_software : (said : HardwareLine) → IsClaimed said → IsOfSoftware said
claim_is_of_software (says.RegisterRead offset width) is = tt
claim_is_of_software (says.RegisterWrite offset width value) is = tt
claim_is_of_software (says.Claim claim) is = tt
claim_is_of_software (says.Event event) is = absurd is
claim_is_of_software (says.Help help) is = absurd is
claim_is_of_software (says.Load device) is = absurd is

-- what is read of a claim is read of software, where no register is read or written
pub last_of_software : (line : List ℕ) (result : Option HardwareLine) → Reads None (IsRegisterWriteLine line) → Reads None (IsRegisterReadLine line) → Reads result (IsClaimLine line)
    → Reads result (IsSoftwareLine line)
last_of_software line result write read claim = λ said. (
  λ e. (let q = (claim said).0 e in (claim_is_of_software said q.0, q.1)),
  λ q. found said q,
)
  where
    found : (said : HardwareLine) → IsSoftwareLine line said → result ≡ Some said
    found (says.RegisterRead offset width) q = absurd (read_nothing (IsRegisterReadLine line) (says.RegisterRead offset width) read (tt, q.1))
    found (says.RegisterWrite offset width value) q = absurd (read_nothing (IsRegisterWriteLine line) (says.RegisterWrite offset width value) write (tt, q.1))
    found (says.Claim c) q = (claim (says.Claim c)).1 (tt, q.1)
    found (says.Event event) q = absurd q.0
    found (says.Help help) q = absurd q.0
    found (says.Load device) q = absurd q.0

-- what is read of software is read of the line
pub software_found : (line : List ℕ) (said : HardwareLine) → Reads (Some said) (IsSoftwareLine line) → Reads (Some said) (IsHardwareLine line)
software_found line said reads =
    let q = read_holds (IsSoftwareLine line) said reads in
    reads_some (IsHardwareLine line) said q.1 (λ other r. line_same line said other q.1 r)

-- the line of what hardware is asked
pub asked_found : (line : List ℕ) (help : Help) → Reads (Some help) (IsHelp line) → Reads (Some (says.Help help)) (IsHardwareLine line)
asked_found line help reads =
    let here : IsHardwareLine line (says.Help help) = read_holds (IsHelp line) help reads in
    reads_some (IsHardwareLine line) (says.Help help) here (λ other r. line_same line (says.Help help) other here r)

-- the line of a load
pub load_found : (line : List ℕ) (said : HardwareLine) → Reads (Some said) (IsLoadLine line) → Reads (Some said) (IsHardwareLine line)
load_found line said reads =
    let q = read_holds (IsLoadLine line) said reads in
    reads_some (IsHardwareLine line) said q.1 (λ other r. line_same line said other q.1 r)

-- the line of an event
pub event_found : (line : List ℕ) (event : Event) → Reads (Some event) (IsEventLine line) → IsOfHardware event → Reads (Some (says.Event event)) (IsHardwareLine line)
event_found line event reads is =
    let here : IsHardwareLine line (says.Event event) = (is, read_holds (IsEventLine line) event reads) in
    reads_some (IsHardwareLine line) (says.Event event) here (λ other r. line_same line (says.Event event) other here r)

-- nothing is said where software says nothing, hardware isn't asked to act, no load is made, and no event of hardware is read
pub nothing_found : (line : List ℕ) → Reads None (IsSoftwareLine line) → Reads None (IsHelp line) → Reads None (IsLoadLine line) → ((event : Event) → IsOfHardware event → IsEventLine line event → ⊥) → Reads None (IsHardwareLine line)
nothing_found line none unasked unloaded no_event = reads_none (IsHardwareLine line) nothing
  where
    nothing : (said : HardwareLine) → IsHardwareLine line said → ⊥
    nothing (says.Event event) q = no_event event q.0 q.1
    nothing (says.Help help) q = read_nothing (IsHelp line) help unasked q
    nothing (says.Load device) q = read_nothing (IsLoadLine line) (says.Load device) unloaded (tt, q)
    nothing (says.RegisterRead offset width) q = read_nothing (IsSoftwareLine line) (says.RegisterRead offset width) none (tt, q)
    nothing (says.RegisterWrite offset width value) q = read_nothing (IsSoftwareLine line) (says.RegisterWrite offset width value) none (tt, q)
    nothing (says.Claim claim) q = read_nothing (IsSoftwareLine line) (says.Claim claim) none (tt, q)
