-- A history with frames in the place of their places says the same, with frames in the place of their places.
use Rattle.std.proofs.Common.{◌≡◌, ℕ, Bool, true, false, not, ◌==◌, ◌&&◌, ◌||◌, List, [], ◌∷◌, ◌++◌, filter, map, length, Option, None, Some, is_some, if◌then◌else◌, refl, sym, ap, ◌∙◌}
use Rattle.std.specs.Option.{option_map}
use Rattle.std.proofs.lemmas.List.{map-append, get_or_append_left}
use Rattle.iom_ledger.specs.declared.entry.HistoryEntry.{HistoryEntry}
use Rattle.iom_ledger.specs.declared.entry.HistoryEntry.TheVariants.{Granted, Released, AllReleased, Confirmed}
use Rattle.iom_ledger.specs.History.{History, Pair, is_about, granted_by, held_at, released_by, released_at, confirms, lingering_at}
use Rattle.iom_machine.specs.Tickets.{last_confirmed}
use Rattle.iom_kept_state.specs.Grants.{named_pair, named_entry, frame_at_place, ArePlaced}

-- a pair with its ticket, with the frame for its place
abbrev pub named_release : List ℕ → ℕ × Pair → ℕ × Pair
named_release names released = (released.0, named_pair names released.1)

is_some-named : (names : List ℕ) (pair : Option Pair) → is_some (option_map (named_pair names) pair) ≡ is_some pair
is_some-named names None = refl
is_some-named names (Some pair) = refl

is_about-named : (names : List ℕ) (entry : HistoryEntry) (before : Option Pair) (device page : ℕ)
    → is_about (named_entry names entry) (option_map (named_pair names) before) device page ≡ is_about entry before device page
is_about-named names (Granted d a frame rights) before device page = refl
is_about-named names (Released d a ticket) before device page = refl
is_about-named names (AllReleased d ticket) before device page = ap (λ b. (d == device) && b) (is_some-named names before)
is_about-named names (Confirmed ticket) before device page = refl

granted_by-named : (names : List ℕ) (entry : HistoryEntry) → granted_by (named_entry names entry) ≡ option_map (named_pair names) (granted_by entry)
granted_by-named names (Granted d a frame rights) = refl
granted_by-named names (Released d a ticket) = refl
granted_by-named names (AllReleased d ticket) = refl
granted_by-named names (Confirmed ticket) = refl

released_by-named : (names : List ℕ) (entry : HistoryEntry) (before : Option Pair)
    → released_by (named_entry names entry) (option_map (named_pair names) before) ≡ map (named_release names) (released_by entry before)
released_by-named names (Released d a ticket) (Some pair) = refl
released_by-named names (AllReleased d ticket) (Some pair) = refl
released_by-named names (Released d a ticket) None = refl
released_by-named names (AllReleased d ticket) None = refl
released_by-named names (Granted d a frame rights) None = refl
released_by-named names (Granted d a frame rights) (Some pair) = refl
released_by-named names (Confirmed ticket) None = refl
released_by-named names (Confirmed ticket) (Some pair) = refl

-- what is held
pub held_at-named : (names : List ℕ) (history : History) (device page : ℕ)
    → held_at (map (named_entry names) history) device page ≡ option_map (named_pair names) (held_at history device page)
held_at-named names [] device page = refl
held_at-named names (entry ∷ before) device page = by (held_at-named names before device page)
  where
    with_it : (b : Bool) (x y : Option Pair) → (if b then option_map (named_pair names) x else option_map (named_pair names) y) ≡ option_map (named_pair names) (if b then x else y)
    with_it true x y = refl
    with_it false x y = refl

    by : held_at (map (named_entry names) before) device page ≡ option_map (named_pair names) (held_at before device page)
        → held_at (named_entry names entry ∷ map (named_entry names) before) device page ≡ option_map (named_pair names) (held_at (entry ∷ before) device page)
    by rest =
        ap (λ (held : Option Pair). if is_about (named_entry names entry) held device page then granted_by (named_entry names entry) else held) rest
        ∙ ap (λ (b : Bool). if b then granted_by (named_entry names entry) else option_map (named_pair names) (held_at before device page)) (is_about-named names entry (held_at before device page) device page)
        ∙ ap (λ (g : Option Pair). if is_about entry (held_at before device page) device page then g else option_map (named_pair names) (held_at before device page)) (granted_by-named names entry)
        ∙ with_it (is_about entry (held_at before device page) device page) (granted_by entry) (held_at before device page)

-- what was released
pub released_at-named : (names : List ℕ) (history : History) (device page : ℕ)
    → released_at (map (named_entry names) history) device page ≡ map (named_release names) (released_at history device page)
released_at-named names [] device page = refl
released_at-named names (entry ∷ before) device page = by (released_at-named names before device page)
  where
    with_it : (b : Bool) (x : List (ℕ × Pair)) → (if b then map (named_release names) x else []) ≡ map (named_release names) (if b then x else [])
    with_it true x = refl
    with_it false x = refl

    first : (if is_about (named_entry names entry) (held_at (map (named_entry names) before) device page) device page then released_by (named_entry names entry) (held_at (map (named_entry names) before) device page) else [])
        ≡ map (named_release names) (if is_about entry (held_at before device page) device page then released_by entry (held_at before device page) else [])
    first =
        ap (λ (held : Option Pair). if is_about (named_entry names entry) held device page then released_by (named_entry names entry) held else []) (held_at-named names before device page)
        ∙ ap (λ (b : Bool). if b then released_by (named_entry names entry) (option_map (named_pair names) (held_at before device page)) else []) (is_about-named names entry (held_at before device page) device page)
        ∙ ap (λ (r : List (ℕ × Pair)). if is_about entry (held_at before device page) device page then r else []) (released_by-named names entry (held_at before device page))
        ∙ with_it (is_about entry (held_at before device page) device page) (released_by entry (held_at before device page))

    by : released_at (map (named_entry names) before) device page ≡ map (named_release names) (released_at before device page)
        → released_at (named_entry names entry ∷ map (named_entry names) before) device page ≡ map (named_release names) (released_at (entry ∷ before) device page)
    by rest =
        ap (λ (r : List (ℕ × Pair)). r ++ released_at (map (named_entry names) before) device page) first
        ∙ ap (λ (r : List (ℕ × Pair)). map (named_release names) (if is_about entry (held_at before device page) device page then released_by entry (held_at before device page) else []) ++ r) rest
        ∙ sym (map-append (named_release names) (if is_about entry (held_at before device page) device page then released_by entry (held_at before device page) else []) (released_at before device page))

-- which tickets are confirmed
pub confirms-named : (names : List ℕ) (history : History) (ticket : ℕ) → confirms (map (named_entry names) history) ticket ≡ confirms history ticket
confirms-named names [] ticket = refl
confirms-named names (Confirmed t ∷ before) ticket = ap (λ b. (t == ticket) || b) (confirms-named names before ticket)
confirms-named names (Granted d a frame rights ∷ before) ticket = confirms-named names before ticket
confirms-named names (Released d a t ∷ before) ticket = confirms-named names before ticket
confirms-named names (AllReleased d t ∷ before) ticket = confirms-named names before ticket

pub last_confirmed-named : (names : List ℕ) (history : History) → last_confirmed (map (named_entry names) history) ≡ last_confirmed history
last_confirmed-named names [] = refl
last_confirmed-named names (Confirmed t ∷ before) = refl
last_confirmed-named names (Granted d a frame rights ∷ before) = last_confirmed-named names before
last_confirmed-named names (Released d a t ∷ before) = last_confirmed-named names before
last_confirmed-named names (AllReleased d t ∷ before) = last_confirmed-named names before

-- what lingers
filter-named : (names : List ℕ) (test test' : ℕ → Bool) → ((t : ℕ) → test t ≡ test' t) → (all : List (ℕ × Pair))
    → filter (λ (r : ℕ × Pair). test r.0) (map (named_release names) all) ≡ map (named_release names) (filter (λ (r : ℕ × Pair). test' r.0) all)
filter-named names test test' same [] = refl
filter-named names test test' same (r ∷ rest) = by (test r.0) (test' r.0) (same r.0) (filter-named names test test' same rest)
  where
    by : (b c : Bool) → b ≡ c → filter (λ (r : ℕ × Pair). test r.0) (map (named_release names) rest) ≡ map (named_release names) (filter (λ (r : ℕ × Pair). test' r.0) rest)
        → (if b then named_release names r ∷ filter (λ (r : ℕ × Pair). test r.0) (map (named_release names) rest) else filter (λ (r : ℕ × Pair). test r.0) (map (named_release names) rest))
        ≡ map (named_release names) (if c then r ∷ filter (λ (r : ℕ × Pair). test' r.0) rest else filter (λ (r : ℕ × Pair). test' r.0) rest)
    by true true e done = ap (λ l. named_release names r ∷ l) done
    by false false e done = done
    by true false e done = cc
    by false true e done = cc

pub lingering_at-named : (names : List ℕ) (history : History) (device page : ℕ)
    → lingering_at (map (named_entry names) history) device page ≡ map (named_release names) (lingering_at history device page)
lingering_at-named names history device page =
    ap (λ all. filter (λ (r : ℕ × Pair). not (confirms (map (named_entry names) history) r.0)) all) (released_at-named names history device page)
    ∙ filter-named names (λ t. not (confirms (map (named_entry names) history) t)) (λ t. not (confirms history t)) (λ t. ap not (confirms-named names history t)) (released_at history device page)

-- names that are added mean nothing to what was placed before
pub named-grown : (names more : List ℕ) (history : History) → ArePlaced (length names) history
    → map (named_entry (names ++ more)) history ≡ map (named_entry names) history
named-grown names more [] within = refl
named-grown names more (Granted d a place rights ∷ before) within =
    ap (λ f. Granted d a f rights ∷ map (named_entry (names ++ more)) before) (get_or_append_left names more 0 place within.0)
    ∙ ap (λ rest. Granted d a (frame_at_place names place) rights ∷ rest) (named-grown names more before within.1)
named-grown names more (Released d a t ∷ before) within = ap (λ rest. Released d a t ∷ rest) (named-grown names more before within.1)
named-grown names more (AllReleased d t ∷ before) within = ap (λ rest. AllReleased d t ∷ rest) (named-grown names more before within.1)
named-grown names more (Confirmed t ∷ before) within = ap (λ rest. Confirmed t ∷ rest) (named-grown names more before within.1)
