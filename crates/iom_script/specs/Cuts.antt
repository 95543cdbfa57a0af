-- A line taken apart from the left: what the private functions between the words and the events return. No public contract cites it.
use Rattle.std.specs.Prelude.{◌≡◌, ◌≢◌, ℕ, ◌+◌, ◌-◌, ◌*◌, ◌%◌, ◌^◌, ◌<◌, ◌≤◌, max, bit_xor, All, List, [], ◌∷◌, ◌++◌, codes, length, take, slice_index, Contains, Option, option_map}
use Rattle.std.specs.Borrow.{Bor}
use Rattle.std.specs.Int.{IsInRange}
use Rattle.std.specs.Str.Parse.{AllDigits, digits_value}
use Rattle.iom_machine.specs.declared.event.Event.{Event}
use Rattle.iom_machine.specs.declared.event.Event.TheVariants.{Plug, Attach, Detach, Grant, Release, Fetch, Poll, Faults, Read, Write, Commit, Poke, Peek, Free}
use Rattle.iom_machine.specs.declared.event.Event.TheVariants.{ReadTranslated, WriteTranslated, ReadThroughCache, WriteThroughCache, Ask, Forge, Deliver, Drop, Repeat}
use Rattle.iom_machine.specs.declared.event.Event.TheVariants.{Quarantine, Revive, Restart, Timeout, Reset}
use Rattle.iom_machine.specs.declared.event.Event.TheVariants.{Medium, Queue, Step, Status}
use Rattle.iom_script.specs.Words.{◌␣◌, IsWithout, IsNumber}
use Rattle.iom_script.specs.Digits.{hex_digit, hex_digits, hex_of}
use Rattle.iom_script.specs.Grammar.{IsEventLine}

-- what a pair of slices shows
abbrev pub shown : Option (Bor (List ℕ) × Bor (List ℕ)) → Option (List ℕ × List ℕ)
shown result = option_map (λ parts. (parts.0.now, parts.1.now)) result

-- what a slice shows
abbrev pub shown_rest : Option (Bor (List ℕ)) → Option (List ℕ)
shown_rest result = option_map (λ rest. rest.now) result

-- what a value and a slice show
abbrev pub with_rest : Option (ℕ × Bor (List ℕ)) → Option (ℕ × List ℕ)
with_rest result = option_map (λ found. (found.0, found.1.now)) result

-- the bytes are cut at the first separator
abbrev pub IsCut : List ℕ → ℕ → List ℕ → List ℕ → Type 0
IsCut bytes separator before after = IsWithout separator before × (bytes ≡ before ++ separator ∷ after)

-- the text begins with a word that says the value, and this follows it
abbrev pub BeginsWithWord : (List ℕ → ℕ → Type 0) → List ℕ → ℕ → List ℕ → Type 0
BeginsWithWord Says text value rest = (word : List ℕ) × Says word value × (text ≡ word ␣ rest)

-- The first so many bytes are hexadecimal digits, 16 at most, and say the number; no more of them could be read.
pub record LeadsWithHex (text : List ℕ) (number count : ℕ) : Type 0 where
  pub few : count ≤ 16
  pub within : count ≤ length text
  pub below : number < 16 ^ count
  pub read : take count text ≡ hex_digits count number
  pub stops : count < 16 → count < length text → (value : ℕ) → value < 16 → slice_index text count ≢ hex_digit value

-- The first so many bytes are decimal digits, no digit follows them, and they say the number, which fits 64 bits.
pub record LeadsWithDecimal (text : List ℕ) (number count : ℕ) : Type 0 where
  pub within : count ≤ length text
  pub digits : AllDigits 10 (take count text)
  pub value : number ≡ digits_value 10 (take count text)
  pub fits : number < 2 ^ 64
  pub stops : count < length text → ¬ IsInRange 48 57 (slice_index text count)

-- The first so many bytes say the number, and no digit follows them.
pub record LeadsWithNumber (text : List ℕ) (number count : ℕ) : Type 0 where
  pub within : count ≤ length text
  pub is : IsNumber (take count text) number
  pub stops : count < length text → ¬ IsInRange 48 57 (slice_index text count)

-- what the line of an event begins with: its first word, and a space where others follow
abbrev pub start_of : Event → List ℕ
start_of (Plug device new) = codes "device "
start_of (Medium device disk) = codes "medium "
start_of (Attach device mode ats) = codes "attach "
start_of (Detach device) = codes "detach "
start_of (Grant device page frame rights) = codes "grant "
start_of (Release device page) = codes "release "
start_of Fetch = codes "fetch"
start_of Poll = codes "poll"
start_of Faults = codes "faults"
start_of (Read device address len) = codes "read "
start_of (Write device address bytes) = codes "write "
start_of (Commit device) = codes "commit "
start_of (Poke address bytes) = codes "poke "
start_of (Peek address len) = codes "peek "
start_of (Free frame) = codes "free "
start_of (ReadTranslated device address len) = codes "tread "
start_of (WriteTranslated device address bytes) = codes "twrite "
start_of (ReadThroughCache device address len) = codes "aread "
start_of (WriteThroughCache device address bytes) = codes "awrite "
start_of (Ask device page) = codes "ask "
start_of (Forge device serial) = codes "forge "
start_of (Deliver place) = codes "deliver "
start_of (Drop place) = codes "drop "
start_of (Repeat place) = codes "repeat "
start_of (Quarantine device) = codes "quarantine "
start_of (Revive device) = codes "revive "
start_of Restart = codes "restart"
start_of Timeout = codes "timeout"
start_of (Reset device) = codes "reset "
start_of (Queue device size descriptors available used) = codes "queue "
start_of (Step device) = codes "step "
start_of (Status device) = codes "status "

-- the line begins with one of these, and says the event
abbrev pub IsLineOf : List (List ℕ) → List ℕ → Event → Type 0
IsLineOf starts line event = Contains starts (start_of event) × IsEventLine line event

-- the line begins so, and says the event
abbrev pub IsLineWith : List ℕ → List ℕ → Event → Type 0
IsLineWith start line event = IsLineOf (start ∷ []) line event

-- the lines of a single word: a step of the IOMMU, or what the driver does with no device
abbrev pub single_starts : List (List ℕ)
single_starts = codes "poll" ∷ codes "fetch" ∷ codes "faults" ∷ codes "restart" ∷ codes "timeout" ∷ []

-- how the lines begin of the reads and the writes for which a device asks
abbrev pub starts_of_requests : List (List ℕ)
starts_of_requests = codes "read " ∷ codes "write " ∷ []

-- how the lines of more than a word begin whose first letter is `a`
abbrev pub starts_under_a : List (List ℕ)
starts_under_a = codes "aread " ∷ codes "ask " ∷ codes "attach " ∷ codes "awrite " ∷ []

-- how those under `d` begin
abbrev pub starts_under_d : List (List ℕ)
starts_under_d = codes "deliver " ∷ codes "drop " ∷ codes "device " ∷ codes "detach " ∷ []

-- how those under `f` begin
abbrev pub starts_under_f : List (List ℕ)
starts_under_f = codes "free " ∷ codes "forge " ∷ []

-- how those under `p` begin
abbrev pub starts_under_p : List (List ℕ)
starts_under_p = codes "peek " ∷ codes "poke " ∷ []

-- how those under `q` begin
abbrev pub starts_under_q : List (List ℕ)
starts_under_q = codes "queue " ∷ codes "quarantine " ∷ []

-- how those under `r` begin
abbrev pub starts_under_r : List (List ℕ)
starts_under_r = codes "read " ∷ codes "release " ∷ codes "repeat " ∷ codes "reset " ∷ codes "revive " ∷ []

-- how those under `s` begin
abbrev pub starts_under_s : List (List ℕ)
starts_under_s = codes "step " ∷ codes "status " ∷ []

-- how those under `t` begin
abbrev pub starts_under_t : List (List ℕ)
starts_under_t = codes "tread " ∷ codes "twrite " ∷ []

-- the value of a byte as a lower-case hexadecimal digit, and 240; or less than 240
abbrev pub value_of_digit : ℕ → ℕ
value_of_digit byte = max ((byte + 198) % 256 - 6) (bit_xor ((352 - byte) % 256 - 10) 15)

-- and the digit of such a value
abbrev pub digit_of_value : ℕ → ℕ
digit_of_value value = hex_digit (value - 240)

-- the digits say the bytes
abbrev pub IsHexOf : List ℕ → List ℕ → Type 0
IsHexOf digits bytes = All (λ byte. byte < 256) bytes × (digits ≡ hex_of bytes)

-- so many bytes are what the first digits of the text say, two for each
pub record SaysFirst (text : List ℕ) (count : ℕ) (bytes : List ℕ) : Type 0 where
  pub many : length bytes ≡ count
  pub said : IsHexOf (take (2 * count) text) bytes
