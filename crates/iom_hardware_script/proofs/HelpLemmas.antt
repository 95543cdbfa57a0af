-- The words behind the keyword of a line that asks hardware to act by itself are those of what it asks.
use Rattle.std.proofs.Common.{◌≡◌, ℕ, true, List, [], ◌++◌, Option, Some, None, codes, ap, sym, subst, refl, ◌∙◌}
use Rattle.std.specs.Option.{option_map}
use Rattle.std.proofs.lemmas.List.{append_cancel_left}
use Rattle.iom_machine.specs.declared.event.Event.{Event}
use Rattle.iom_machine.specs.declared.event.Event.TheVariants.{Fetch}
use Rattle.iom_script.specs.Words.{◌␣◌, IsDevice, IsNumber}
use Rattle.iom_script.specs.Reading.{Reads}
use Rattle.iom_script.specs.Grammar.{IsEventLine}
use Rattle.iom_script.proofs.ReadsLemmas.{reads_some, reads_none, read_holds, read_nothing}
use Rattle.iom_script.proofs.FieldLemmas.{Followed}
use Rattle.iom_script.proofs.DecimalLemmas.{number_without_space}
use Rattle.iom_script.proofs.WordLemmas.{device_without_space}
use Rattle.iom_script.proofs.EventLemmas.{keyword_reads, are_apart, never_both, other_line}
use Rattle.iom_script.proofs.SameLemmas.{device_same, number_same, followed_same, event_by_words}
use Rattle.iom_hardware_script.specs.declared.script.Help.{Help}
use Rattle.iom_hardware_script.specs.declared.script.Help.TheVariants.{Auto, Traffic, Quiesce}
use Rattle.iom_hardware_script.specs.Grammar.{IsHelp}
use Rattle.iom_hardware_script.specs.Parts.{help_start, IsHelpWith}

-- a line begins as that of what it asks does
pub help_begins : (line : List ℕ) (help : Help) → IsHelp line help → (more : List ℕ) × (line ≡ help_start help ++ more)
help_begins line (Auto seed) q = (q.0, q.2)
help_begins line (Traffic device first last) q = (q.0 ␣ q.1 ␣ q.2, q.6)
help_begins line Quiesce q = ([], q)

-- a line that begins otherwise asks for none of this
pub no_help : (start line : List ℕ) → Reads None (λ more. line ≡ start ++ more) → Reads None (IsHelpWith start line)
no_help start line none = reads_none (IsHelpWith start line) (λ help q.
    let begins = help_begins line help q.1 in
    read_nothing (λ more. line ≡ start ++ more) begins.0 none (begins.1 ∙ ap (λ s. s ++ begins.0) q.0))

-- a line that begins so asks for nothing whose line begins apart from that
other_help : (start text : List ℕ) (help : Help) → are_apart start (help_start help) ≡ true → IsHelp (start ++ text) help → ⊥
other_help start text help apart q =
    let begins = help_begins (start ++ text) help q in
    never_both start (help_start help) text begins.0 apart begins.1

-- what is read of the words behind the keyword is read of the line
help_reads : {V : Type 0} (f : V → Help) (R : V → Type 0) (start line text : List ℕ) (result : Option V)
    → ((v : V) → help_start (f v) ≡ start) → Reads (Some text) (λ more. line ≡ start ++ more)
    → ((v : V) → R v → IsHelp (start ++ text) (f v)) → ((help : Help) → IsHelp (start ++ text) help → (v : V) × R v × (f v ≡ help))
    → Reads result R → Reads (option_map f result) (IsHelpWith start line)
help_reads {V} f R start line text result starts begun to from reads =
    keyword_reads (λ help. help_start help ≡ start) IsHelp f R start line text result starts begun to (λ help is q. from help q) reads

-- auto

abbrev pub AutoWords : List ℕ → ℕ → Type 0
AutoWords text words = IsNumber text words

abbrev pub auto_help : ℕ → Help
auto_help words = Auto words

pub auto_from : (text : List ℕ) (help : Help) → IsHelp (codes "auto" ␣ text) help → (words : ℕ) × AutoWords text words × (auto_help words ≡ help)
auto_from text (Auto seed) q = (seed, subst (λ t. IsNumber t seed) (sym (append_cancel_left (codes "auto ") text q.0 q.2)) q.1, refl)
auto_from text help q = absurd (other_help (codes "auto ") text help refl q)

pub auto_reads : (line text : List ℕ) → Reads (Some text) (λ more. line ≡ codes "auto " ++ more) → (result : Option ℕ) → Reads result (AutoWords text)
    → Reads (option_map auto_help result) (IsHelpWith (codes "auto ") line)
auto_reads line text begun result reads =
    help_reads auto_help (AutoWords text) (codes "auto ") line text result (λ v. refl) begun
    (λ words q. (text, q, refl))
    (auto_from text) reads

-- traffic

abbrev pub TrafficWords : List ℕ → ℕ × (ℕ × ℕ) → Type 0
TrafficWords text words = Followed IsDevice (Followed IsNumber IsNumber) text words

abbrev pub traffic_help : ℕ × (ℕ × ℕ) → Help
traffic_help words = Traffic words.0 words.1.0 words.1.1

pub traffic_from : (text : List ℕ) (help : Help) → IsHelp (codes "traffic" ␣ text) help → (words : ℕ × (ℕ × ℕ)) × TrafficWords text words × (traffic_help words ≡ help)
traffic_from text (Traffic device first last) q =
    let from_first : ℕ × ℕ = (first, last) in
    ((device, from_first), (q.1 ␣ q.2, (q.0, q.3, append_cancel_left (codes "traffic ") text (q.0 ␣ q.1 ␣ q.2) q.6), (q.2, (q.1, q.4, refl), q.5)), refl)
traffic_from text help q = absurd (other_help (codes "traffic ") text help refl q)

pub traffic_reads : (line text : List ℕ) → Reads (Some text) (λ more. line ≡ codes "traffic " ++ more) → (result : Option (ℕ × (ℕ × ℕ))) → Reads result (TrafficWords text)
    → Reads (option_map traffic_help result) (IsHelpWith (codes "traffic ") line)
traffic_reads line text begun result reads =
    help_reads traffic_help (TrafficWords text) (codes "traffic ") line text result (λ v. refl) begun
    (λ words q. (q.1.0, q.2.1.0, q.2.0, q.1.1, q.2.1.1, q.2.2, ap (λ t. codes "traffic" ␣ t) (q.1.2 ∙ ap (λ t. q.1.0 ␣ t) (q.2.1.2))))
    (traffic_from text) reads

-- quiesce

quiesce_only : (help : Help) → IsHelp (codes "quiesce") help → Quiesce ≡ help
quiesce_only Quiesce q = refl
quiesce_only help q = absurd (other_help (codes "quiesce") [] help refl q)

pub quiesce_read : (line : List ℕ) → line ≡ codes "quiesce" → Reads (Some Quiesce) (IsHelpWith (codes "quiesce") line)
quiesce_read line is = reads_some (IsHelpWith (codes "quiesce") line) Quiesce (refl, is) (λ help q. quiesce_only help (subst (λ l. IsHelp l help) is q.1))

quiesce_is : (line : List ℕ) (help : Help) → IsHelpWith (codes "quiesce") line help → line ≡ codes "quiesce"
quiesce_is line Quiesce q = q.1
quiesce_is line (Auto seed) q = absurd (never_both (codes "auto ") (codes "quiesce") [] [] refl q.0)
quiesce_is line (Traffic device first last) q = absurd (never_both (codes "traffic ") (codes "quiesce") [] [] refl q.0)

pub no_quiesce : (line : List ℕ) → (line ≡ codes "quiesce" → ⊥) → Reads None (IsHelpWith (codes "quiesce") line)
no_quiesce line other = reads_none (IsHelpWith (codes "quiesce") line) (λ help q. other (quiesce_is line help q))

-- a line asks for one thing
pub help_same : (line : List ℕ) (a b : Help) → IsHelp line a → IsHelp line b → a ≡ b
help_same line (Auto seed) b p q =
    let words = p.0 in
    event_by_words auto_help (AutoWords words) (Auto seed) b (number_same words)
    (auto_from words (Auto seed) (p.0, p.1, refl)) (auto_from words b (subst (λ l. IsHelp l b) p.2 q))
help_same line (Traffic device first last) b p q =
    let words = p.0 ␣ p.1 ␣ p.2 in
    event_by_words traffic_help (TrafficWords words) (Traffic device first last) b
    (followed_same IsDevice (Followed IsNumber IsNumber) device_without_space device_same (followed_same IsNumber IsNumber number_without_space number_same number_same) words)
    (traffic_from words (Traffic device first last) (p.0, p.1, p.2, p.3, p.4, p.5, refl)) (traffic_from words b (subst (λ l. IsHelp l b) p.6 q))
help_same line Quiesce b p q = quiesce_only b (subst (λ l. IsHelp l b) p q)

-- what is read of a line that begins so is read of the line
pub help_found : (start line : List ℕ) (help : Help) → Reads (Some help) (IsHelpWith start line) → Reads (Some help) (IsHelp line)
help_found start line help reads =
    let q = read_holds (IsHelpWith start line) help reads in
    reads_some (IsHelp line) help q.1 (λ other r. help_same line help other q.1 r)

-- what is read of the last kind is read of the line, where nothing is read of the others
pub last_help : (line : List ℕ) (result : Option Help) → Reads None (IsHelpWith (codes "auto ") line) → Reads None (IsHelpWith (codes "traffic ") line)
    → Reads result (IsHelpWith (codes "quiesce") line) → Reads result (IsHelp line)
last_help line result auto traffic quiesce = λ help. (λ e. ((quiesce help).0 e).1, λ q. found help q)
  where
    found : (help : Help) → IsHelp line help → result ≡ Some help
    found (Auto seed) q = absurd (read_nothing (IsHelpWith (codes "auto ") line) (Auto seed) auto (refl, q))
    found (Traffic device first last) q = absurd (read_nothing (IsHelpWith (codes "traffic ") line) (Traffic device first last) traffic (refl, q))
    found Quiesce q = (quiesce Quiesce).1 (refl, q)

-- no event's line begins as one of these does

auto_no_event : (text : List ℕ) (event : Event) → IsEventLine (codes "auto " ++ text) event → ⊥
auto_no_event text Fetch q = other_line (codes "auto ") text Fetch refl q
auto_no_event text event q = other_line (codes "auto ") text event refl q

traffic_no_event : (text : List ℕ) (event : Event) → IsEventLine (codes "traffic " ++ text) event → ⊥
traffic_no_event text Fetch q = other_line (codes "traffic ") text Fetch refl q
traffic_no_event text event q = other_line (codes "traffic ") text event refl q

quiesce_no_event : (text : List ℕ) (event : Event) → IsEventLine (codes "quiesce" ++ text) event → ⊥
quiesce_no_event text Fetch q = other_line (codes "quiesce") text Fetch refl q
quiesce_no_event text event q = other_line (codes "quiesce") text event refl q

pub help_no_event : (line : List ℕ) (help : Help) (event : Event) → IsHelp line help → IsEventLine line event → ⊥
help_no_event line (Auto seed) event p q = auto_no_event p.0 event (subst (λ l. IsEventLine l event) p.2 q)
help_no_event line (Traffic device first last) event p q = traffic_no_event (p.0 ␣ p.1 ␣ p.2) event (subst (λ l. IsEventLine l event) p.6 q)
help_no_event line Quiesce event p q = quiesce_no_event [] event (subst (λ l. IsEventLine l event) p q)

-- nor does a line that begins so
pub help_otherwise : (line start text : List ℕ) (help : Help) → line ≡ start ++ text
    → are_apart start (codes "auto ") ≡ true → are_apart start (codes "traffic ") ≡ true → are_apart start (codes "quiesce") ≡ true → IsHelp line help → ⊥
help_otherwise line start text help begins auto traffic quiesce q = other_help start text help (apart help) (subst (λ l. IsHelp l help) begins q)
  where
    apart : (other : Help) → are_apart start (help_start other) ≡ true
    apart (Auto seed) = auto
    apart (Traffic device first last) = traffic
    apart Quiesce = quiesce
