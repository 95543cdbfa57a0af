-- The words behind a keyword of address translation services are those of an event.
use Rattle.std.proofs.Common.{◌≡◌, ℕ, List, ◌++◌, Option, Some, codes, ap, sym, subst, refl, ◌∙◌}
use Rattle.std.specs.Option.{option_map}
use Rattle.std.proofs.lemmas.List.{append_cancel_left}
use Rattle.iom_machine.specs.declared.event.Event.{Event}
use Rattle.iom_machine.specs.declared.event.Event.TheVariants.{ReadTranslated, WriteTranslated, ReadThroughCache, WriteThroughCache, Ask, Forge, Deliver, Drop, Repeat}
use Rattle.iom_script.specs.Words.{◌␣◌, IsDevice, IsNumber, IsPage}
use Rattle.iom_script.specs.Reading.{Reads}
use Rattle.iom_script.specs.Cuts.{IsLineWith}
use Rattle.iom_script.specs.Grammar.{IsEventLine}
use Rattle.iom_script.proofs.FieldLemmas.{Followed}
use Rattle.iom_script.proofs.EventLemmas.{event_reads, other_line, ReadWords, WriteWords}

-- aread

abbrev pub aread_event : ℕ × (ℕ × ℕ) → Event
aread_event words = ReadThroughCache words.0 words.1.0 words.1.1

pub aread_from : (text : List ℕ) (event : Event) → IsEventLine (codes "aread" ␣ text) event → (words : ℕ × (ℕ × ℕ)) × ReadWords text words × (aread_event words ≡ event)
aread_from text (ReadThroughCache device address len) q =
    let two : ℕ × ℕ = (address, len) in
    ((device, two), (q.1 ␣ q.2, (q.0, q.3, append_cancel_left (codes "aread ") text (q.0 ␣ q.1 ␣ q.2) q.6), (q.2, (q.1, q.4, refl), q.5)), refl)
aread_from text event q = absurd (other_line (codes "aread ") text event refl q)

pub aread_reads : (line text : List ℕ) → Reads (Some text) (λ more. line ≡ codes "aread " ++ more) → (result : Option (ℕ × (ℕ × ℕ))) → Reads result (ReadWords text)
    → Reads (option_map aread_event result) (IsLineWith (codes "aread ") line)
aread_reads line text begun result reads =
    event_reads aread_event (ReadWords text) (codes "aread ") line text result (λ v. refl) begun
    (λ words q. let address = q.2 in
    (q.1.0, address.1.0, address.0, q.1.1, address.1.1, address.2, ap (λ t. codes "aread" ␣ t) (q.1.2 ∙ ap (λ t. q.1.0 ␣ t) address.1.2)))
    (aread_from text) reads

-- awrite

abbrev pub awrite_event : ℕ × (ℕ × List ℕ) → Event
awrite_event words = WriteThroughCache words.0 words.1.0 words.1.1

pub awrite_from : (text : List ℕ) (event : Event) → IsEventLine (codes "awrite" ␣ text) event → (words : ℕ × (ℕ × List ℕ)) × WriteWords text words × (awrite_event words ≡ event)
awrite_from text (WriteThroughCache device address bytes) q =
    let two : ℕ × List ℕ = (address, bytes) in
    ((device, two), (q.1 ␣ q.2, (q.0, q.3, append_cancel_left (codes "awrite ") text (q.0 ␣ q.1 ␣ q.2) q.6), (q.2, (q.1, q.4, refl), q.5)), refl)
awrite_from text event q = absurd (other_line (codes "awrite ") text event refl q)

pub awrite_reads : (line text : List ℕ) → Reads (Some text) (λ more. line ≡ codes "awrite " ++ more) → (result : Option (ℕ × (ℕ × List ℕ))) → Reads result (WriteWords text)
    → Reads (option_map awrite_event result) (IsLineWith (codes "awrite ") line)
awrite_reads line text begun result reads =
    event_reads awrite_event (WriteWords text) (codes "awrite ") line text result (λ v. refl) begun
    (λ words q. let address = q.2 in
    (q.1.0, address.1.0, address.0, q.1.1, address.1.1, address.2, ap (λ t. codes "awrite" ␣ t) (q.1.2 ∙ ap (λ t. q.1.0 ␣ t) address.1.2)))
    (awrite_from text) reads

-- tread

abbrev pub tread_event : ℕ × (ℕ × ℕ) → Event
tread_event words = ReadTranslated words.0 words.1.0 words.1.1

pub tread_from : (text : List ℕ) (event : Event) → IsEventLine (codes "tread" ␣ text) event → (words : ℕ × (ℕ × ℕ)) × ReadWords text words × (tread_event words ≡ event)
tread_from text (ReadTranslated device address len) q =
    let two : ℕ × ℕ = (address, len) in
    ((device, two), (q.1 ␣ q.2, (q.0, q.3, append_cancel_left (codes "tread ") text (q.0 ␣ q.1 ␣ q.2) q.6), (q.2, (q.1, q.4, refl), q.5)), refl)
tread_from text event q = absurd (other_line (codes "tread ") text event refl q)

pub tread_reads : (line text : List ℕ) → Reads (Some text) (λ more. line ≡ codes "tread " ++ more) → (result : Option (ℕ × (ℕ × ℕ))) → Reads result (ReadWords text)
    → Reads (option_map tread_event result) (IsLineWith (codes "tread ") line)
tread_reads line text begun result reads =
    event_reads tread_event (ReadWords text) (codes "tread ") line text result (λ v. refl) begun
    (λ words q. let address = q.2 in
    (q.1.0, address.1.0, address.0, q.1.1, address.1.1, address.2, ap (λ t. codes "tread" ␣ t) (q.1.2 ∙ ap (λ t. q.1.0 ␣ t) address.1.2)))
    (tread_from text) reads

-- twrite

abbrev pub twrite_event : ℕ × (ℕ × List ℕ) → Event
twrite_event words = WriteTranslated words.0 words.1.0 words.1.1

pub twrite_from : (text : List ℕ) (event : Event) → IsEventLine (codes "twrite" ␣ text) event → (words : ℕ × (ℕ × List ℕ)) × WriteWords text words × (twrite_event words ≡ event)
twrite_from text (WriteTranslated device address bytes) q =
    let two : ℕ × List ℕ = (address, bytes) in
    ((device, two), (q.1 ␣ q.2, (q.0, q.3, append_cancel_left (codes "twrite ") text (q.0 ␣ q.1 ␣ q.2) q.6), (q.2, (q.1, q.4, refl), q.5)), refl)
twrite_from text event q = absurd (other_line (codes "twrite ") text event refl q)

pub twrite_reads : (line text : List ℕ) → Reads (Some text) (λ more. line ≡ codes "twrite " ++ more) → (result : Option (ℕ × (ℕ × List ℕ))) → Reads result (WriteWords text)
    → Reads (option_map twrite_event result) (IsLineWith (codes "twrite ") line)
twrite_reads line text begun result reads =
    event_reads twrite_event (WriteWords text) (codes "twrite ") line text result (λ v. refl) begun
    (λ words q. let address = q.2 in
    (q.1.0, address.1.0, address.0, q.1.1, address.1.1, address.2, ap (λ t. codes "twrite" ␣ t) (q.1.2 ∙ ap (λ t. q.1.0 ␣ t) address.1.2)))
    (twrite_from text) reads

-- ask

abbrev pub AskWords : List ℕ → ℕ × ℕ → Type 0
AskWords text words = Followed IsDevice IsPage text words

abbrev pub ask_event : ℕ × ℕ → Event
ask_event words = Ask words.0 words.1

pub ask_from : (text : List ℕ) (event : Event) → IsEventLine (codes "ask" ␣ text) event → (words : ℕ × ℕ) × AskWords text words × (ask_event words ≡ event)
ask_from text (Ask device page) q =
    ((device, page), (q.1, (q.0, q.2, append_cancel_left (codes "ask ") text (q.0 ␣ q.1) q.4), q.3), refl)
ask_from text event q = absurd (other_line (codes "ask ") text event refl q)

pub ask_reads : (line text : List ℕ) → Reads (Some text) (λ more. line ≡ codes "ask " ++ more) → (result : Option (ℕ × ℕ)) → Reads result (AskWords text)
    → Reads (option_map ask_event result) (IsLineWith (codes "ask ") line)
ask_reads line text begun result reads =
    event_reads ask_event (AskWords text) (codes "ask ") line text result (λ v. refl) begun
    (λ words q. (q.1.0, q.0, q.1.1, q.2, ap (λ t. codes "ask" ␣ t) q.1.2))
    (ask_from text) reads

-- forge

abbrev pub ForgeWords : List ℕ → ℕ × ℕ → Type 0
ForgeWords text words = Followed IsDevice IsNumber text words

abbrev pub forge_event : ℕ × ℕ → Event
forge_event words = Forge words.0 words.1

pub forge_from : (text : List ℕ) (event : Event) → IsEventLine (codes "forge" ␣ text) event → (words : ℕ × ℕ) × ForgeWords text words × (forge_event words ≡ event)
forge_from text (Forge device serial) q =
    ((device, serial), (q.1, (q.0, q.2, append_cancel_left (codes "forge ") text (q.0 ␣ q.1) q.4), q.3), refl)
forge_from text event q = absurd (other_line (codes "forge ") text event refl q)

pub forge_reads : (line text : List ℕ) → Reads (Some text) (λ more. line ≡ codes "forge " ++ more) → (result : Option (ℕ × ℕ)) → Reads result (ForgeWords text)
    → Reads (option_map forge_event result) (IsLineWith (codes "forge ") line)
forge_reads line text begun result reads =
    event_reads forge_event (ForgeWords text) (codes "forge ") line text result (λ v. refl) begun
    (λ words q. (q.1.0, q.0, q.1.1, q.2, ap (λ t. codes "forge" ␣ t) q.1.2))
    (forge_from text) reads

-- deliver

abbrev pub deliver_event : ℕ → Event
deliver_event words = Deliver words

pub deliver_from : (text : List ℕ) (event : Event) → IsEventLine (codes "deliver" ␣ text) event → (words : ℕ) × IsNumber text words × (deliver_event words ≡ event)
deliver_from text (Deliver place) q =
    (place, subst (λ t. IsNumber t place) (sym (append_cancel_left (codes "deliver ") text q.0 q.2)) q.1, refl)
deliver_from text event q = absurd (other_line (codes "deliver ") text event refl q)

pub deliver_reads : (line text : List ℕ) → Reads (Some text) (λ more. line ≡ codes "deliver " ++ more) → (result : Option ℕ) → Reads result (IsNumber text)
    → Reads (option_map deliver_event result) (IsLineWith (codes "deliver ") line)
deliver_reads line text begun result reads =
    event_reads deliver_event (IsNumber text) (codes "deliver ") line text result (λ v. refl) begun
    (λ words q. (text, q, refl))
    (deliver_from text) reads

-- drop

abbrev pub drop_event : ℕ → Event
drop_event words = Drop words

pub drop_from : (text : List ℕ) (event : Event) → IsEventLine (codes "drop" ␣ text) event → (words : ℕ) × IsNumber text words × (drop_event words ≡ event)
drop_from text (Drop place) q =
    (place, subst (λ t. IsNumber t place) (sym (append_cancel_left (codes "drop ") text q.0 q.2)) q.1, refl)
drop_from text event q = absurd (other_line (codes "drop ") text event refl q)

pub drop_reads : (line text : List ℕ) → Reads (Some text) (λ more. line ≡ codes "drop " ++ more) → (result : Option ℕ) → Reads result (IsNumber text)
    → Reads (option_map drop_event result) (IsLineWith (codes "drop ") line)
drop_reads line text begun result reads =
    event_reads drop_event (IsNumber text) (codes "drop ") line text result (λ v. refl) begun
    (λ words q. (text, q, refl))
    (drop_from text) reads

-- repeat

abbrev pub repeat_event : ℕ → Event
repeat_event words = Repeat words

pub repeat_from : (text : List ℕ) (event : Event) → IsEventLine (codes "repeat" ␣ text) event → (words : ℕ) × IsNumber text words × (repeat_event words ≡ event)
repeat_from text (Repeat place) q =
    (place, subst (λ t. IsNumber t place) (sym (append_cancel_left (codes "repeat ") text q.0 q.2)) q.1, refl)
repeat_from text event q = absurd (other_line (codes "repeat ") text event refl q)

pub repeat_reads : (line text : List ℕ) → Reads (Some text) (λ more. line ≡ codes "repeat " ++ more) → (result : Option ℕ) → Reads result (IsNumber text)
    → Reads (option_map repeat_event result) (IsLineWith (codes "repeat ") line)
repeat_reads line text begun result reads =
    event_reads repeat_event (IsNumber text) (codes "repeat ") line text result (λ v. refl) begun
    (λ words q. (text, q, refl))
    (repeat_from text) reads
