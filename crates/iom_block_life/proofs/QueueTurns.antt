-- What a turn does to a queue: which request is in work after it, and how the counts go on.
use Rattle.std.proofs.Common.{◌≡◌, ◌≢◌, ◌⊎◌, inl, inr, ℕ, zero, suc, ◌+◌, ◌*◌, ◌/◌, ◌%◌, ◌<◌, ◌≤◌, List, [], ◌∷◌, ◌++◌, length, map, slice_get, Option, Some, None, sym, ap, ◌∙◌, subst, arith, append-nil}
use Rattle.std.proofs.Math.Nat.{mul_assoc, mul-add-mod_self_left, div-add-mod}
use Rattle.std.proofs.lemmas.Bool.{cases_lt}
use Rattle.std.proofs.lemmas.Option.{slice_get_within}
use Rattle.iom_virtqueue.specs.declared.phase.Phase.{Phase}
use Rattle.iom_virtqueue.specs.declared.phase.Phase.TheVariants.{AvailableIndex, RingEntry, Table, Served, UsedElement, UsedIndex, Faulted}
use Rattle.iom_virtqueue.specs.declared.layout.Layout.{Layout}
use Rattle.iom_virtqueue.specs.Accesses.{Access, nothing, reads}
use Rattle.iom_virtqueue.specs.Queues.{QueueState, ring_entry, more_finished}
use Rattle.iom_block_life.specs.Lives.{Taken, head_of, reads_entry}

-- the head of the request in work
abbrev pub in_work_in : Phase → ℕ → List ℕ
in_work_in AvailableIndex head = []
in_work_in RingEntry head = []
in_work_in (Table index) head = head ∷ []
in_work_in Served head = head ∷ []
in_work_in (UsedElement done) head = head ∷ []
in_work_in UsedIndex head = head ∷ []
in_work_in Faulted head = []

abbrev pub in_work : QueueState → List ℕ
in_work q = in_work_in q.phase q.head

abbrev StateInvariant : Phase → Type 0
StateInvariant AvailableIndex = Unit {0}
StateInvariant RingEntry = Unit {0}
StateInvariant (Table index) = Unit {0}
StateInvariant Served = Unit {0}
StateInvariant (UsedElement done) = Unit {0}
StateInvariant UsedIndex = Unit {0}
StateInvariant Faulted = ⊥

-- a phase that isn't that of a fault
pub invariants : (phase : Phase) → StateInvariant phase → phase ≢ Faulted
invariants phase is same = subst StateInvariant same is

pub at_most_one : (phase : Phase) (head : ℕ) → length (in_work_in phase head) ≤ 1
at_most_one AvailableIndex head = omega arith
at_most_one RingEntry head = omega arith
at_most_one (Table index) head = omega arith
at_most_one Served head = omega arith
at_most_one (UsedElement done) head = omega arith
at_most_one UsedIndex head = omega arith
at_most_one Faulted head = omega arith

-- one more modulo 2^16 is one more modulo a divisor of 256
pub more_mod : (s n k : ℕ) → 256 % s ≡ 0 → n < 65536 → (more_finished n + k) % s ≡ (n + 1 + k) % s
more_mod s n k power small = by (cases_lt (n + 1) 65536)
  where
    whole : s * (256 / s) ≡ 256
    whole = let sum = div-add-mod 256 s in omega (arith, sum, power)

    by : (n + 1 < 65536) ⊎ (65536 ≤ n + 1) → (more_finished n + k) % s ≡ (n + 1 + k) % s
    by (inl below) = let same : more_finished n ≡ n + 1 = omega (arith, below) in ap (λ m. (m + k) % s) same
    by (inr over) =
        let none : more_finished n + k ≡ k = omega (arith, over, small) in
        let last : 256 * 256 ≡ n + 1 = omega (arith, over, small) in
        let product : s * ((256 / s) * 256) ≡ n + 1 = sym (mul_assoc s (256 / s) 256) ∙ ap (λ m. m * 256) whole ∙ last in
        ap (λ m. m % s) none ∙ sym (mul-add-mod_self_left s ((256 / s) * 256) k) ∙ ap (λ m. (m + k) % s) product

-- what goes on: the queue lies where it lay; what was in work and what was taken is what was finished and what is in work; the counts go on; and what was
-- taken was read where the counts say
pub record GoesOn (layout : Layout) (q q' : QueueState) (taken : List Taken) (finished : List ℕ) : Type 0 where
  pub lies : q'.layout ≡ layout
  pub invariants : q'.phase ≢ Faulted
  pub heads : in_work q ++ map head_of taken ≡ finished ++ in_work q'
  pub begun : (k : ℕ) → (q'.finished + length (in_work q') + k) % layout.size ≡ (q.finished + length (in_work q) + length taken + k) % layout.size
  pub counted : q'.finished ≡ (q.finished + length finished) % 65536
  pub places : (k : ℕ) (entry : Taken) → slice_get taken k ≡ Some entry → entry.access ≡ reads_entry layout (q.finished + length (in_work q) + k)

-- nothing is taken, and nothing finished
pub unchanged : (layout : Layout) (q q' : QueueState) → q.layout ≡ layout → q.finished < 65536
    → q'.layout ≡ q.layout → q'.finished ≡ q.finished → in_work q' ≡ in_work q → q'.phase ≢ Faulted → GoesOn layout q q' [] []
unchanged layout q q' lies small kept finished work invariants = record {
  lies = kept ∙ lies;
  invariants = invariants;
  heads = append-nil (in_work q) ∙ sym work;
  begun = λ k. let long = ap length work in ap (λ n. n % layout.size) (omega (arith, finished, long));
  counted = finished ∙ omega (arith, small);
  places = λ k entry at. let none = slice_get_within [] k entry at in absurd (omega (arith, none));
}

abbrev access_or : Option Taken → Access
access_or None = nothing
access_or (Some entry) = entry.access

-- an entry of the ring is taken, and its request is in work
pub takes : (layout : Layout) (q q' : QueueState) (head : ℕ) (access : Access) → q.layout ≡ layout → q.finished < 65536
    → q'.layout ≡ q.layout → q'.finished ≡ q.finished → in_work q ≡ [] → in_work q' ≡ head ∷ [] → q'.phase ≢ Faulted → access ≡ reads (ring_entry q) 2
    → GoesOn layout q q' (record { access = access; head = head } ∷ []) []
takes layout q q' head access lies small kept finished none some invariants read = record {
  lies = kept ∙ lies;
  invariants = invariants;
  heads = ap (λ work. work ++ head ∷ []) none ∙ sym some;
  begun = λ k. let short = ap length none in let long = ap length some in ap (λ n. n % layout.size) (omega (arith, finished, short, long));
  counted = finished ∙ omega (arith, small);
  places = stands;
}
  where
    entry_taken : Taken
    entry_taken = record { access = access; head = head }

    stands : (k : ℕ) (entry : Taken) → slice_get (entry_taken ∷ []) k ≡ Some entry → entry.access ≡ reads_entry layout (q.finished + length (in_work q) + k)
    stands zero entry at =
        let short = ap length none in
        sym (ap access_or at) ∙ read ∙ ap (λ (l : Layout). reads_entry l q.finished) lies ∙ ap (λ n. reads_entry layout n) (omega (arith, short))
    stands (suc k) entry at = let within = slice_get_within (entry_taken ∷ []) (suc k) entry at in absurd (omega (arith, within))

-- the request in work is finished
pub finishes : (layout : Layout) (q q' : QueueState) → q.layout ≡ layout → 256 % layout.size ≡ 0 → q.finished < 65536
    → q'.layout ≡ q.layout → q'.finished ≡ more_finished q.finished → in_work q ≡ q.head ∷ [] → in_work q' ≡ [] → q'.phase ≢ Faulted
    → GoesOn layout q q' [] (q.head ∷ [])
finishes layout q q' lies power small kept finished some none invariants = record {
  lies = kept ∙ lies;
  invariants = invariants;
  heads = append-nil (in_work q) ∙ some ∙ sym (ap (λ work. (q.head ∷ []) ++ work) none);
  begun = λ k. let long = ap length some in let short = ap length none in
      ap (λ n. n % layout.size) (omega (arith, finished, short)) ∙ more_mod layout.size q.finished k power small ∙ ap (λ n. n % layout.size) (omega (arith, long));
  counted = finished;
  places = λ k entry at. let none = slice_get_within [] k entry at in absurd (omega (arith, none));
}
