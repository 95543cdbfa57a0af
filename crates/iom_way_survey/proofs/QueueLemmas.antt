-- The frames of the queues: command by command as the head moves on, and the run of fault records.
use Rattle.std.proofs.Common.{◌≡◌, ◌⊎◌, ◌∙◌, inl, inr, ℕ, zero, suc, ◌+◌, ◌*◌, ◌/◌, ◌<◌, Bool, true, false, List, [], ◌∷◌, map, length, slice_get, Contains, None, Some, if◌then◌else◌, subst, refl, sym, arith}
use Rattle.std.specs.List.{range_with_len}
use Rattle.iom_command_queue.specs.Waiting.{place_of, how_many, commands_in}
use Rattle.iom_command_queue.proofs.Waits.{count}
use Rattle.iom_command_queue.specs.declared.entry.QueueEntry.{QueueEntry}
use Rattle.iom_hardware_ways.specs.Formats.{command_in}
use Rattle.iom_hardware_ways.specs.Scenes.{place_at, places_from, waiting_places, fault_frames_of}
use Rattle.iom_hardware_ways.proofs.FetchLemmas.{apart, one_less, waiting_drops, head_there}
use Rattle.iom_hardware_ways.proofs.ListLemmas.{in_none, cons_cases, map_cases}
use Rattle.iom_reach.specs.Scene.{Place}
use Rattle.iom_reach.proofs.TransitionLemmas.{contains_head, contains_tail}
use Rattle.iom_registers.specs.Queues.{command_base, command_entries, command_head, is_command_queue_on, with_command_done, fault_base, fault_entries, is_fault_queue_on}
use Rattle.iom_registers.specs.declared.registers.Registers.{Registers}
use Rattle.iom_table_survey.specs.Rows.{GrowsBy}
use Rattle.iom_table_survey.proofs.AddLemmas.{adds_same, adds_then, adds_none}
use Rattle.iom_way_survey.specs.Queues.{StoresWord, IsOfFaults}

-- WHAT IS STILL TO COME

-- a test of each place, on some of these
abbrev pub SomePlace : (Place → ℕ → Type 0) → List Place → ℕ → Type 0
SomePlace IsAt places frame = (place : Place) × Contains places place × IsAt place frame

-- whatever comes to what is so of the places that are left, comes from the beginning to what is so of all
abbrev pub IsLeft : (Place → ℕ → Type 0) → (old now : List ℕ) → (all left : List Place) → Type 0
IsLeft IsAt old now all left = (new : List ℕ) → GrowsBy now new (SomePlace IsAt left) → GrowsBy old new (SomePlace IsAt all)

pub all_left : (IsAt : Place → ℕ → Type 0) (old : List ℕ) (all : List Place) → IsLeft IsAt old old all all
all_left IsAt old all new adds = adds

split_place : (IsAt : Place → ℕ → Type 0) (first : Place) (others : List Place) (frame : ℕ) → SomePlace IsAt (first ∷ others) frame → IsAt first frame ⊎ SomePlace IsAt others frame
split_place IsAt first others frame (place, there, is) = elim (cons_cases first others place there) [
  | inl same ↦ inl (subst (λ (p : Place). IsAt p frame) (sym same) is)
  | inr later ↦ inr (place, later, is)
]

join_place : (IsAt : Place → ℕ → Type 0) (first : Place) (others : List Place) (frame : ℕ) → IsAt first frame ⊎ SomePlace IsAt others frame → SomePlace IsAt (first ∷ others) frame
join_place IsAt first others frame (inl is) = (first, contains_head first others, is)
join_place IsAt first others frame (inr (place, there, is)) = (place, contains_tail first others place there, is)

one_less_left : (IsAt : Place → ℕ → Type 0) (old now next : List ℕ) (all left others : List Place) (first : Place) → left ≡ first ∷ others → GrowsBy now next (IsAt first)
    → IsLeft IsAt old now all left → IsLeft IsAt old next all others
one_less_left IsAt old now next all left others first is adds before new later =
    before new (subst (λ (places : List Place). GrowsBy now new (SomePlace IsAt places)) (sym is)
    (adds_same now new (λ f. IsAt first f ⊎ SomePlace IsAt others f) (SomePlace IsAt (first ∷ others)) (adds_then now next new (IsAt first) (SomePlace IsAt others) adds later)
    (split_place IsAt first others) (join_place IsAt first others)))

pub none_left : (IsAt : Place → ℕ → Type 0) (old now : List ℕ) (all left : List Place) → left ≡ [] → IsLeft IsAt old now all left → GrowsBy old now (SomePlace IsAt all)
none_left IsAt old now all left is before =
    before now (adds_none now (SomePlace IsAt left) (λ f (place, there, at). in_none place (subst (λ (places : List Place). Contains places place) is there)))

-- THE HEAD MOVES ON

some_first : (entries : List QueueEntry) (n : ℕ) → length entries ≡ suc n → slice_get entries 0 ≡ None → ⊥
some_first [] n long none = absurd (omega (arith, long))
some_first (entry ∷ others) n long none = absurd (cc)

abbrev pub IsFrameAt : Place → ℕ → Type 0
IsFrameAt place frame = frame ≡ place.frame

abbrev pub IsWordAt : List (List ℕ) → Place → ℕ → Type 0
IsWordAt memory place frame = StoresWord (command_in (slice_get memory place.frame) place.offset) frame

pub frame_passed : (memory : List (List ℕ)) (r : Registers) (entry : QueueEntry) (old now next : List ℕ) (all : List Place) → is_command_queue_on r ≡ true
    → slice_get (commands_in memory r) 0 ≡ Some entry → GrowsBy now next (λ f. f ≡ place_of r (command_head r) / 4096)
    → IsLeft IsFrameAt old now all (waiting_places r) → IsLeft IsFrameAt old next all (waiting_places (with_command_done r))
frame_passed memory r entry old now next all on there adds before =
    one_less_left IsFrameAt old now next all (waiting_places r) (waiting_places (with_command_done r)) (place_at (place_of r (command_head r)))
    (waiting_drops memory r on (apart memory r entry there)) adds before

pub word_passed : (memory : List (List ℕ)) (r : Registers) (entry : QueueEntry) (old now next : List ℕ) (all : List Place) → is_command_queue_on r ≡ true
    → slice_get (commands_in memory r) 0 ≡ Some entry → GrowsBy now next (StoresWord entry)
    → IsLeft (IsWordAt memory) old now all (waiting_places r) → IsLeft (IsWordAt memory) old next all (waiting_places (with_command_done r))
word_passed memory r entry old now next all on there adds before =
    one_less_left (IsWordAt memory) old now next all (waiting_places r) (waiting_places (with_command_done r)) (place_at (place_of r (command_head r)))
    (waiting_drops memory r on (apart memory r entry there))
    (subst (λ (e : QueueEntry). GrowsBy now next (StoresWord e)) (sym (head_there memory r entry there)) adds) before

-- where nothing stands at the head, none waits
pub none_waits : (memory : List (List ℕ)) (r : Registers) → slice_get (commands_in memory r) 0 ≡ None → waiting_places r ≡ []
none_waits memory r none = by (is_command_queue_on r) (how_many r) refl refl
  where
    by : (on : Bool) (n : ℕ) → is_command_queue_on r ≡ on → how_many r ≡ n → (if on then places_from (command_base r) (command_entries r) (command_head r) n else []) ≡ []
    by false n is many = refl
    by true zero is many = refl
    by true (suc n) is many = absurd (some_first (commands_in memory r) n (count memory r ∙ many) none)

pub fewer_wait : (memory : List (List ℕ)) (r : Registers) (entry : QueueEntry) → slice_get (commands_in memory r) 0 ≡ Some entry → how_many (with_command_done r) < how_many r
fewer_wait memory r entry there = let less = one_less memory r (apart memory r entry there) in omega (arith, less)

-- FAULT RECORDS

range_low : (n from i : ℕ) → Contains (range_with_len from n) i → i < from + n
range_low zero from i c = absurd (in_none i c)
range_low (suc n) from i c = by (λ there. range_low n (from + 1) i there) (cons_cases from (range_with_len (from + 1) n) i c)
  where
    by : (Contains (range_with_len (from + 1) n) i → i < from + 1 + n) → (from ≡ i) ⊎ Contains (range_with_len (from + 1) n) i → i < from + suc n
    by further (inl same) = omega (arith, same)
    by further (inr later) = let low = further later in omega (arith, low)

pub fault_stored : (r : Registers) (frame : ℕ) → Contains (fault_frames_of r) frame → IsOfFaults r frame
fault_stored r frame c = by (is_fault_queue_on r) refl c
  where
    by : (b : Bool) → is_fault_queue_on r ≡ b → Contains (if b then map (λ index. (fault_base r + 32 * index) / 4096) (range_with_len 0 (fault_entries r)) else []) frame → IsOfFaults r frame
    by true is c' =
        let (index, there, same) = map_cases (λ (i : ℕ). (fault_base r + 32 * i) / 4096) (range_with_len 0 (fault_entries r)) frame c' in
        let low = range_low (fault_entries r) 0 index there in
        (is, (omega (arith, same), omega (arith, same, low)))
    by false is c' = absurd (in_none frame c')
