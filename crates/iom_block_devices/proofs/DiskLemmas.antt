-- Where a disk stands among those at hand, and which are left where it is taken out.
use Rattle.std.proofs.Common.{suc, zero, ◌≡◌, ◌≢◌, ◌==◌, ◌<◌, ◌+◌, ◌∙◌, ℕ, Bool, true, false, not, filter, get_or, List, [], ◌∷◌, length, Option, Some, slice_get, refl, sym, ap, arith, inl, inr, if◌then◌else◌}
use Rattle.std.specs.List.{remove}
use Rattle.std.proofs.lemmas.Bool.{eq-eqb}
use Rattle.std.proofs.lemmas.Bool.Decides.{eqb_tells}
use Rattle.std.proofs.lemmas.Option.{get_or_from_slice_get}
use Rattle.iom_block_devices.proofs.Lists.{differs, get_there}
use Rattle.iom_base.specs.Disks.{is_among, without_disk}
use Rattle.iom_virtio_blk.specs.DiskStates.{DiskState}
use Rattle.iom_block_devices.specs.declared.block.DiskAtHand.{DiskAtHand}
use Rattle.iom_block_devices.specs.Entries.{numbers_of}
use Rattle.iom_block_devices.specs.Places.{IsDiskAt, TakesOut, others_than}
use Rattle.iom_block_devices.specs.Shown.{shown_disk, shown_disks}
use Rattle.iom_block_devices.specs.Numbered.{ShownDisk}

-- the first disk with the number
pub disk_is : {D : Type 0} (shown : D → DiskState) (at_hand : List (DiskAtHand D)) (number place : ℕ) (one : DiskAtHand D)
    → slice_get at_hand place ≡ Some one → one.number ≡ number → ((k : ℕ) (other : DiskAtHand D) → k < place → slice_get at_hand k ≡ Some other → other.number ≢ number)
    → IsDiskAt shown at_hand number place
disk_is shown [] number place one at own none = cc
disk_is {D = D} shown (first ∷ others) number zero one at own none =
    let same : first ≡ one = cc in
    let is = eq-eqb first.number number (ap (λ (o : DiskAtHand D). o.number) same ∙ own) in
    record {
      one = first;
      there = refl;
      own = ap (λ (o : DiskAtHand D). o.number) same ∙ own;
      found = rw is refl;
      rest = rw is refl;
    }
disk_is {D = D} shown (first ∷ others) number (suc place) one at own none =
    let is = differs first.number number (none 0 first (omega arith) refl) in
    let rest = disk_is shown others number place one at own (λ k o lt there. none (suc k) o (omega arith) there) in
    record {
      one = rest.one;
      there = rest.there;
      own = rest.own;
      found = rw is rest.found;
      rest = rw is (ap (λ (l : List (DiskAtHand D)). first ∷ l) rest.rest);
    }

pub disk_at : {D : Type 0} (shown : D → DiskState) (at_hand : List (DiskAtHand D)) (number place : ℕ) (default : DiskAtHand D)
    → place < length at_hand → (get_or at_hand place default).number ≡ number
    → ((k : ℕ) (other : DiskAtHand D) → k < place → slice_get at_hand k ≡ Some other → other.number ≢ number) → IsDiskAt shown at_hand number place
disk_at {D = D} shown at_hand number place default lt own none =
    let found = get_there at_hand place lt in
    let read = get_or_from_slice_get at_hand place found.0 default found.1 in
    disk_is shown at_hand number place found.0 found.1 (ap (λ (o : DiskAtHand D). o.number) (sym read) ∙ own) none

pub none_later : {D : Type 0} (at_hand : List (DiskAtHand D)) (number place : ℕ) (default : DiskAtHand D) → (get_or at_hand place default).number ≢ number
    → ((k : ℕ) (other : DiskAtHand D) → k < place → slice_get at_hand k ≡ Some other → other.number ≢ number)
    → (k : ℕ) (other : DiskAtHand D) → k < place + 1 → slice_get at_hand k ≡ Some other → other.number ≢ number
none_later {D = D} at_hand number place default differs none k other lt at same = elim (eqb_tells k place) [
  | inl e ↦
      let here = get_or_from_slice_get at_hand k other default at in
      let read = ap (λ (j : ℕ). get_or at_hand j default) e.1 in
      differs (ap (λ (o : DiskAtHand D). o.number) (sym read ∙ here) ∙ same)
  | inr ne ↦ none k other (omega (arith, ne.1)) at same
]

-- a number that none has
pub no_disk : {D : Type 0} (at_hand : List (DiskAtHand D)) (number : ℕ)
    → ((k : ℕ) (other : DiskAtHand D) → k < length at_hand → slice_get at_hand k ≡ Some other → other.number ≢ number) → is_among (numbers_of at_hand) number ≡ false
no_disk [] number none = refl
no_disk (first ∷ others) number none =
    rw (differs first.number number (none 0 first (omega arith) refl)) (no_disk others number (λ k other lt at. none (suc k) other (omega arith) at))

-- what is left is the same, seen from outside and by the numbers
pub left_seen : {D : Type 0} (shown : D → DiskState) (at_hand : List (DiskAtHand D)) (number : ℕ)
    → shown_disks shown (others_than number at_hand) ≡ filter (λ (one : ShownDisk). not (one.number == number)) (shown_disks shown at_hand)
left_seen shown [] number = refl
left_seen {D = D} shown (first ∷ others) number = by (first.number == number) (left_seen shown others number)
  where
    by : (b : Bool) → shown_disks shown (others_than number others) ≡ filter (λ (one : ShownDisk). not (one.number == number)) (shown_disks shown others)
        → shown_disks shown (if not b then first ∷ others_than number others else others_than number others)
        ≡ (if not b then shown_disk shown first ∷ filter (λ (one : ShownDisk). not (one.number == number)) (shown_disks shown others)
        else filter (λ (one : ShownDisk). not (one.number == number)) (shown_disks shown others))
    by true rest = rest
    by false rest = ap (λ (l : List ShownDisk). shown_disk shown first ∷ l) rest

pub left_numbers : {D : Type 0} (at_hand : List (DiskAtHand D)) (number : ℕ) → numbers_of (others_than number at_hand) ≡ without_disk (Some number) (numbers_of at_hand)
left_numbers [] number = refl
left_numbers {D = D} (first ∷ others) number = by (first.number == number) (left_numbers others number)
  where
    by : (b : Bool) → numbers_of (others_than number others) ≡ without_disk (Some number) (numbers_of others)
        → numbers_of (if not b then first ∷ others_than number others else others_than number others)
        ≡ (if not b then first.number ∷ without_disk (Some number) (numbers_of others) else without_disk (Some number) (numbers_of others))
    by true rest = rest
    by false rest = ap (λ (l : List ℕ). first.number ∷ l) rest

abbrev some : ℕ → DiskState → Option ShownDisk
some n disk = Some (record { number = n; disk = disk })

-- it is taken out
pub takes_out : {D : Type 0} (shown : D → DiskState) (old new : List (DiskAtHand D)) (number place : ℕ) (taken : DiskAtHand D)
    → (is : IsDiskAt shown old number place) → taken ≡ is.one → new ≡ others_than number (remove old place) → TakesOut shown number old new taken.disk
takes_out {D = D} shown old new number place taken is same left =
    let all : new ≡ others_than number old = left ∙ is.rest in
    record {
      taken = record {
        held = is.found ∙ ap (λ (n : ℕ). some n (shown is.one.disk)) is.own ∙ ap (λ (o : DiskAtHand D). some number (shown o.disk)) (sym same);
        left = ap (shown_disks shown) all ∙ left_seen shown old number;
      };
      numbers = ap numbers_of all ∙ left_numbers old number;
    }
