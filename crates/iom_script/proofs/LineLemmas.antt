-- A line is read by its first word.
use Rattle.std.specs.Prelude.{◌==◌, if◌then◌else◌, IfOk, Result}
use Rattle.std.specs.declared.alloc.AllocError.{AllocError}
use Rattle.std.proofs.Common.{◌≡◌, ◌⊎◌, get_or, [], ◌∷◌, inl, inr, ◌++◌, ℕ, List, Contains, MatchOption, Option, Some, None, codes, ap, sym, subst, refl, ◌∙◌, arith}
use Rattle.std.specs.List.{slice_get}
use Rattle.std.proofs.lemmas.Option.{get_or_from_slice_get}
use Rattle.std.proofs.lemmas.Result.{IfOk-weaker}
use Rattle.std.proofs.lemmas.List.Elements.{Contains-append_left, Contains-append_right, Contains-append_cases}
use Rattle.iom_machine.specs.declared.event.Event.{Event}
use Rattle.iom_machine.specs.declared.event.Event.TheVariants as events
use Rattle.iom_script.specs.declared.script.WorldSize.{WorldSize}
use Rattle.iom_script.specs.Words.{◌␣◌, IsNumber}
use Rattle.iom_script.specs.Reading.{Reads}
use Rattle.iom_script.specs.Cuts.{start_of, IsLineOf, IsLineWith, single_starts, starts_under_a, starts_under_d, starts_under_f, starts_under_p, starts_under_q, starts_under_r, starts_under_s, starts_under_t}
use Rattle.iom_script.specs.Grammar.{IsEventLine, IsWorldSize, IsWorldLine}
use Rattle.iom_script.proofs.ReadsLemmas.{reads_some, reads_none, read_holds, read_only, read_nothing}
use Rattle.iom_script.proofs.FieldLemmas.{Followed}
use Rattle.iom_script.proofs.EventLemmas.{line_begins, only_start}
use Rattle.iom_script.proofs.SameLemmas.{event_same, numbers_of, same_size, world_words}

-- what is read of a line that begins in one of some ways, and if nothing of one that begins in one of others, is read of one that begins in any of them
pub either_line : (line : List ℕ) (xs ys : List (List ℕ)) (first result : Option Event) → Reads first (IsLineOf xs line)
    → MatchOption first (Reads result (IsLineOf ys line)) (λ event. result ≡ Some event) → Reads result (IsLineOf (xs ++ ys) line)
either_line line xs ys None result none reads = λ event. (
  λ e. (let q = (reads event).0 e in (Contains-append_right xs ys (start_of event) q.0, q.1)),
  λ q. (reads event).1 (elim (Contains-append_cases xs ys (start_of event) q.0) [
    | inl before ↦ absurd (read_nothing (IsLineOf xs line) event none (before, q.1))
    | inr behind ↦ (behind, q.1)
  ]),
)
either_line line xs ys (Some event) result reads is =
    let q = read_holds (IsLineOf xs line) event reads in
    rw is (reads_some (IsLineOf (xs ++ ys) line) event (Contains-append_left xs ys (start_of event) q.0, q.1) (λ other r. event_same line event other q.1 r.1))

-- what is read of a line that begins so is read of one that begins in any of several ways
pub found_line : (starts : List (List ℕ)) (start line : List ℕ) (event : Event) → Contains starts start
    → Reads (Some event) (IsLineWith start line) → Reads (Some event) (IsLineOf starts line)
found_line starts start line event one reads =
    let q = read_holds (IsLineWith start line) event reads in
    reads_some (IsLineOf starts line) event (subst (Contains starts) (sym (only_start start (start_of event) q.0)) one, q.1) (λ other r. event_same line event other q.1 r.1)

-- how the lines of more than a word begin whose first byte is this one
abbrev pub starts_under : ℕ → List (List ℕ)
starts_under byte =
    if byte == 97 then starts_under_a
    else (if byte == 99 then codes "commit " ∷ []
    else (if byte == 100 then starts_under_d
    else (if byte == 102 then starts_under_f
    else (if byte == 103 then codes "grant " ∷ []
    else (if byte == 109 then codes "medium " ∷ []
    else (if byte == 112 then starts_under_p
    else (if byte == 113 then starts_under_q
    else (if byte == 114 then starts_under_r
    else (if byte == 115 then starts_under_s
    else (if byte == 116 then starts_under_t
    else (if byte == 119 then codes "write " ∷ []
    else [])))))))))))

-- each line is a single word, or begins in one of the ways of its first byte
found_under : (event : Event) (more : List ℕ) → Contains single_starts (start_of event) ⊎ Contains (starts_under (get_or (start_of event ++ more) 0 0)) (start_of event)
found_under (events.ReadThroughCache device address len) more = inr (0, omega arith, refl)
found_under (events.Ask device page) more = inr (1, omega arith, refl)
found_under (events.Attach device mode ats) more = inr (2, omega arith, refl)
found_under (events.WriteThroughCache device address bytes) more = inr (3, omega arith, refl)
found_under (events.Commit device) more = inr (0, omega arith, refl)
found_under (events.Deliver place) more = inr (0, omega arith, refl)
found_under (events.Drop place) more = inr (1, omega arith, refl)
found_under (events.Plug device new) more = inr (2, omega arith, refl)
found_under (events.Medium device disk) more = inr (0, omega arith, refl)
found_under (events.Detach device) more = inr (3, omega arith, refl)
found_under events.Fetch more = inl (1, omega arith, refl)
found_under events.Faults more = inl (2, omega arith, refl)
found_under (events.Free frame) more = inr (0, omega arith, refl)
found_under (events.Forge device serial) more = inr (1, omega arith, refl)
found_under (events.Grant device page frame rights) more = inr (0, omega arith, refl)
found_under events.Poll more = inl (0, omega arith, refl)
found_under (events.Peek address len) more = inr (0, omega arith, refl)
found_under (events.Poke address bytes) more = inr (1, omega arith, refl)
found_under (events.Read device address len) more = inr (0, omega arith, refl)
found_under (events.Release device page) more = inr (1, omega arith, refl)
found_under (events.Repeat place) more = inr (2, omega arith, refl)
found_under (events.Reset device) more = inr (3, omega arith, refl)
found_under (events.Revive device) more = inr (4, omega arith, refl)
found_under events.Restart more = inl (3, omega arith, refl)
found_under (events.Queue device size descriptors available used) more = inr (0, omega arith, refl)
found_under (events.Quarantine device) more = inr (1, omega arith, refl)
found_under (events.Step device) more = inr (0, omega arith, refl)
found_under (events.Status device) more = inr (1, omega arith, refl)
found_under events.Timeout more = inl (4, omega arith, refl)
found_under (events.ReadTranslated device address len) more = inr (0, omega arith, refl)
found_under (events.WriteTranslated device address bytes) more = inr (1, omega arith, refl)
found_under (events.Write device address bytes) more = inr (0, omega arith, refl)

-- what is read of a line that begins in one of some ways is read of the line
pub of_some_line : (line : List ℕ) (starts : List (List ℕ)) (event : Event) → Reads (Some event) (IsLineOf starts line) → Reads (Some event) (IsEventLine line)
of_some_line line starts event reads =
    let q = read_holds (IsLineOf starts line) event reads in
    reads_some (IsEventLine line) event q.1 (λ other r. event_same line event other q.1 r)

-- and so is what is read of a line that begins in one of the ways of its first byte, or nothing, where the line is no single word
pub under_first : (line : List ℕ) (first byte : ℕ) (result : Option Event) → Reads None (IsLineOf single_starts line) → Some first ≡ slice_get line 0 → first ≡ byte
    → Reads result (IsLineOf (starts_under byte) line) → Reads result (IsEventLine line)
under_first line first byte result none here is reads = λ event. (
  λ e. ((reads event).0 e).1,
  λ q. (
      let begins = line_begins line event q in
      let same : get_or (start_of event ++ begins.0) 0 0 ≡ byte = sym (ap (λ l. get_or l 0 0) begins.1) ∙ get_or_from_slice_get line 0 first 0 (sym here) ∙ is in
      elim (found_under event begins.0) [
        | inl word ↦ absurd (read_nothing (IsLineOf single_starts line) event none (word, q))
        | inr found ↦ (reads event).1 (subst (λ b. Contains (starts_under b) (start_of event)) same found, q)
      ]
      ),
)

-- the same where the bytes take memory
pub under_first_ok : (line : List ℕ) (first byte : ℕ) (result : Result (Option Event) AllocError) → Reads None (IsLineOf single_starts line) → Some first ≡ slice_get line 0 → first ≡ byte
    → IfOk result (λ event. Reads event (IsLineOf (starts_under byte) line)) → IfOk result (λ event. Reads event (IsEventLine line))
under_first_ok line first byte result none here is reads =
    IfOk-weaker result (λ event. Reads event (IsLineOf (starts_under byte) line)) (λ event. Reads event (IsEventLine line)) (λ event. under_first line first byte event none here is) reads

-- what stands behind the first word of the line that says how large the world is
abbrev pub BehindWorld : List ℕ → List ℕ → Type 0
BehindWorld line rest = Reads (Some rest) (λ more. line ≡ codes "world " ++ more)

-- its numbers stand there
world_behind : (line rest : List ℕ) → BehindWorld line rest → (size : WorldSize) → IsWorldLine line size → Followed IsNumber IsNumber rest (numbers_of size)
world_behind line rest begun size q =
    world_words rest size (subst (λ l. IsWorldLine l size) (read_holds (λ more. line ≡ codes "world " ++ more) rest begun) q)

-- no such line: it begins otherwise
pub world_otherwise : (line : List ℕ) → Reads None (λ more. line ≡ codes "world " ++ more) → Reads None (IsWorldLine line)
world_otherwise line none = reads_none (IsWorldLine line) (λ size q. read_nothing (λ more. line ≡ codes "world " ++ more) (q.0 ␣ q.1) none q.5)

-- no such line: two numbers don't follow
pub world_without_numbers : (line rest : List ℕ) → BehindWorld line rest → Reads None (Followed IsNumber IsNumber rest) → Reads None (IsWorldLine line)
world_without_numbers line rest begun none = reads_none (IsWorldLine line) (λ size q.
    read_nothing (Followed IsNumber IsNumber rest) (numbers_of size) none (world_behind line rest begun size q))

-- no such line: a number is out of range
pub world_out_of_range : (line rest : List ℕ) (here : WorldSize) → BehindWorld line rest
    → Reads (Some (numbers_of here)) (Followed IsNumber IsNumber rest) → ¬ IsWorldSize here → Reads None (IsWorldLine line)
world_out_of_range line rest here begun numbers out = reads_none (IsWorldLine line) (λ size q.
    let same = read_only (Followed IsNumber IsNumber rest) (numbers_of here) (numbers_of size) numbers (world_behind line rest begun size q) in
    out (subst IsWorldSize (sym (same_size here size same)) q.4))

-- the line
pub world_read : (line rest : List ℕ) (here : WorldSize) → BehindWorld line rest
    → Reads (Some (numbers_of here)) (Followed IsNumber IsNumber rest) → IsWorldSize here → Reads (Some here) (IsWorldLine line)
world_read line rest here begun numbers in_range =
    let words = read_holds (Followed IsNumber IsNumber rest) (numbers_of here) numbers in
    reads_some (IsWorldLine line) here (
      words.1.0,
      words.0,
      words.1.1,
      words.2,
      in_range,
      read_holds (λ more. line ≡ codes "world " ++ more) rest begun ∙ ap (λ t. codes "world" ␣ t) words.1.2,
    )
    (λ size q. same_size here size
    (read_only (Followed IsNumber IsNumber rest) (numbers_of here) (numbers_of size) numbers (world_behind line rest begun size q)))
