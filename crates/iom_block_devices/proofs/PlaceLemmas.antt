-- Where a block device stands, and what the others are where it changes.
use Rattle.std.proofs.Common.{suc, zero, ◌≡◌, ◌≢◌, ◌==◌, ◌<◌, ◌+◌, ◌∙◌, ℕ, Bool, true, false, get_or, List, [], ◌∷◌, is_some, length, Option, Some, None, slice_get, slice_set, refl, sym, ap, subst, arith, inl, inr, if◌then◌else◌}
use Rattle.std.proofs.lemmas.Bool.{eq-eqb}
use Rattle.std.proofs.lemmas.Bool.Decides.{eqb_tells}
use Rattle.std.proofs.lemmas.Option.{get_or_from_slice_get}
use Rattle.iom_block_devices.proofs.Lists.{differs, get_there}
use Rattle.iom_virtio_blk.specs.declared.disk.Disk.{Ghosts}
use Rattle.iom_virtio_blk.specs.Disks.{disk_in}
use Rattle.iom_virtio_blk.specs.DiskStates.{DiskState}
use Rattle.iom_virtio_blk.specs.Steps.{Device}
use Rattle.iom_block_devices.specs.declared.block.Block.{Block}
use Rattle.iom_block_devices.specs.Entries.{DiskEntry, disk_entry_of, disk_entries_of}
use Rattle.iom_block_devices.specs.Changes.{block_with, ChangesIfThere, ChangesOne}
use Rattle.iom_block_devices.specs.Places.{IsBlockPlace, has_in, with_has}
use Rattle.iom_block_devices.specs.Shown.{ShownBlock, shown_block, shown_blocks}

abbrev seen_first : ℕ → Device → List ShownBlock → List ShownBlock
seen_first id device others = record { id = id; device = device } ∷ others

abbrev entry_first : ℕ → Bool → List DiskEntry → List DiskEntry
entry_first id has others = (id, has) ∷ others

-- nothing changes where what it has is what it had
pub with_same : (entries : List DiskEntry) (id : ℕ) (has : Bool) → has_in entries id ≡ Some has → with_has entries id has ≡ entries
with_same [] id has at = cc
with_same ((n, h) ∷ others) id has at = by (n == id) at (λ rest. with_same others id has rest)
  where
    by : (b : Bool) → (if b then Some h else has_in others id) ≡ Some has → (has_in others id ≡ Some has → with_has others id has ≡ others)
        → (if b then (n, has) ∷ others else (n, h) ∷ with_has others id has) ≡ (n, h) ∷ others
    by true at rest = let same : h ≡ has = cc in ap (λ (x : Bool). entry_first n x others) (sym same)
    by false at rest = ap (λ (l : List DiskEntry). entry_first n h l) (rest at)

kept_from : {D : Type 0} {d : Ghosts D} (entries : List DiskEntry) (new : List DiskEntry) (id : ℕ) (block other : Block D d) → has_in entries id ≡ Some (is_some block.blk.drive.disk)
    → new ≡ with_has entries id (is_some other.blk.drive.disk) → other.blk.drive ≡ block.blk.drive → new ≡ entries
kept_from entries new id block other at now same =
    now ∙ ap (λ drive. with_has entries id (is_some drive.disk)) same ∙ with_same entries id (is_some block.blk.drive.disk) at

-- what is there in one way alone
some_is : {A : Type 0} (x y : A) → ◌≡◌ {A = Option A} (Some x) (Some y) → x ≡ y
some_is x y same = cc

none_is : {A : Type 0} (x : A) → ◌≡◌ {A = Option A} None (Some x) → ⊥
none_is x same = cc

-- the first block device with the id
pub place_is : {D : Type 0} {d : Ghosts D} (shown : D → DiskState) (blocks : List (Block D d)) (id place : ℕ) (block : Block D d)
    → slice_get blocks place ≡ Some block → block.id ≡ id → ((k : ℕ) (other : Block D d) → k < place → slice_get blocks k ≡ Some other → other.id ≢ id)
    → IsBlockPlace shown blocks id place
place_is shown [] id place block at own none = absurd (none_is block at)
place_is {D = D} {d = d} shown (first ∷ others) id zero block at own none =
    let same : first ≡ block = some_is first block at in
    let is = eq-eqb first.id id (ap (λ (b : Block D d). b.id) same ∙ own) in
    let entries_now : (other : Block D d) → other.id ≡ first.id → disk_entries_of (other ∷ others) ≡ with_has (disk_entries_of (first ∷ others)) id (is_some other.blk.drive.disk) =
    λ other own. rw is (ap (λ (n : ℕ). entry_first n (is_some other.blk.drive.disk) (disk_entries_of others)) own) in
    record {
      block = first;
      there = refl;
      found = rw is refl;
      has = rw is refl;
      changed = λ other own. rw is (ap (λ (n : ℕ). seen_first n (shown_block shown other).device (shown_blocks shown others)) own);
      entries = λ other own. entries_now other own;
      kept = λ other own same. kept_from (disk_entries_of (first ∷ others)) (disk_entries_of (other ∷ others)) id first other (rw is refl) (entries_now other own) same;
    }
place_is {D = D} {d = d} shown (first ∷ others) id (suc place) block at own none =
    let is = differs first.id id (none 0 first (omega arith) refl) in
    let rest = place_is shown others id place block at own (λ k b lt there. none (suc k) b (omega arith) there) in
    record {
      block = rest.block;
      there = rest.there;
      found = rw is rest.found;
      has = rw is rest.has;
      changed = λ other own. rw is (ap (λ (l : List ShownBlock). shown_block shown first ∷ l) (rest.changed other own));
      entries = λ other own. rw is (ap (λ (l : List DiskEntry). disk_entry_of first ∷ l) (rest.entries other own));
      kept = λ other own same. ap (λ (l : List DiskEntry). disk_entry_of first ∷ l) (rest.kept other own same);
    }

-- and that is what a search for it comes to
pub place_at : {D : Type 0} {d : Ghosts D} (shown : D → DiskState) (blocks : List (Block D d)) (id place : ℕ) (default : Block D d)
    → place < length blocks → (get_or blocks place default).id ≡ id → ((k : ℕ) (other : Block D d) → k < place → slice_get blocks k ≡ Some other → other.id ≢ id)
    → IsBlockPlace shown blocks id place
place_at {D = D} {d = d} shown blocks id place default lt own none =
    let found = get_there blocks place lt in
    let read = get_or_from_slice_get blocks place found.0 default found.1 in
    place_is shown blocks id place found.0 found.1 (ap (λ (b : Block D d). b.id) (sym read) ∙ own) none

pub none_later : {D : Type 0} {d : Ghosts D} (blocks : List (Block D d)) (id place : ℕ) (default : Block D d) → (get_or blocks place default).id ≢ id
    → ((k : ℕ) (other : Block D d) → k < place → slice_get blocks k ≡ Some other → other.id ≢ id)
    → (k : ℕ) (other : Block D d) → k < place + 1 → slice_get blocks k ≡ Some other → other.id ≢ id
none_later {D = D} {d = d} blocks id place default differs none k other lt at same = elim (eqb_tells k place) [
  | inl e ↦
      let here = get_or_from_slice_get blocks k other default at in
      let read = ap (λ (j : ℕ). get_or blocks j default) e.1 in
      differs (ap (λ (b : Block D d). b.id) (sym read ∙ here) ∙ same)
  | inr ne ↦ none k other (omega (arith, ne.1)) at same
]

-- an id that none has
pub no_place : {D : Type 0} {d : Ghosts D} (shown : D → DiskState) (blocks : List (Block D d)) (id : ℕ)
    → ((k : ℕ) (other : Block D d) → k < length blocks → slice_get blocks k ≡ Some other → other.id ≢ id) → block_with (shown_blocks shown blocks) id ≡ None
no_place shown [] id none = refl
no_place shown (first ∷ others) id none =
    rw (differs first.id id (none 0 first (omega arith) refl)) (no_place shown others id (λ k other lt at. none (suc k) other (omega arith) at))

pub none_entries : {D : Type 0} {d : Ghosts D} (shown : D → DiskState) (blocks : List (Block D d)) (id : ℕ)
    → block_with (shown_blocks shown blocks) id ≡ None → has_in (disk_entries_of blocks) id ≡ None
none_entries shown [] id none = refl
none_entries shown (first ∷ others) id none = by (first.id == id) none (λ rest. none_entries shown others id rest)
  where
    by : (b : Bool) → (if b then Some (shown_block shown first) else block_with (shown_blocks shown others) id) ≡ None
        → (block_with (shown_blocks shown others) id ≡ None → has_in (disk_entries_of others) id ≡ None)
        → (if b then Some (is_some first.blk.drive.disk) else has_in (disk_entries_of others) id) ≡ None
    by true none rest = cc
    by false none rest = rest none

-- ONE CHANGES

pub changed_none : (How : Device → Device → Type 0) (old : List ShownBlock) (id : ℕ) → block_with old id ≡ None → ChangesOne How old id old
changed_none How old id none = subst (λ (found : Option ShownBlock). ChangesIfThere found How old id old) (sym none) refl

pub changed_at : {D : Type 0} {d : Ghosts D} (shown : D → DiskState) (How : Device → Device → Type 0) (blocks : List (Block D d)) (id place : ℕ)
    → (is : IsBlockPlace shown blocks id place) (other : Block D d) → other.id ≡ is.block.id → How (shown_block shown is.block).device (shown_block shown other).device
    → ChangesOne How (shown_blocks shown blocks) id (shown_blocks shown (slice_set blocks place other))
changed_at shown How blocks id place is other own how =
    subst (λ (found : Option ShownBlock). ChangesIfThere found How (shown_blocks shown blocks) id (shown_blocks shown (slice_set blocks place other))) (sym is.found)
    ((shown_block shown other).device, how, is.changed other own)

-- a place where nothing changes
pub changed_not : {D : Type 0} {d : Ghosts D} (shown : D → DiskState) (How : Device → Device → Type 0) (blocks : List (Block D d)) (id place : ℕ) (at : Block D d)
    → (is : IsBlockPlace shown blocks id place) → at ≡ is.block → How (shown_block shown at).device (shown_block shown at).device
    → ChangesOne How (shown_blocks shown blocks) id (shown_blocks shown (slice_set blocks place at))
changed_not {D = D} {d = d} shown How blocks id place at is same how =
    changed_at shown How blocks id place is at (ap (λ (b : Block D d). b.id) same)
    (subst (λ (b : Block D d). How (shown_block shown b).device (shown_block shown at).device) same how)

-- and the one where it stands is the one that was found
pub at_place : {D : Type 0} {d : Ghosts D} (shown : D → DiskState) (blocks : List (Block D d)) (id place : ℕ) (at : Block D d)
    → (is : IsBlockPlace shown blocks id place) → at ≡ get_or blocks place at → at ≡ is.block
at_place shown blocks id place at is read = read ∙ get_or_from_slice_get blocks place is.block at is.there

-- ONE WITHOUT A DISK

pub none_some : (entries : List DiskEntry) (id : ℕ) (has : Bool) → has_in entries id ≡ None → has_in entries id ≡ Some has → ⊥
none_some entries id has none at = differs (sym none ∙ at)
  where
    differs : ◌≡◌ {A = Option Bool} None (Some has) → ⊥
    differs same = cc

pub with_none : (entries : List DiskEntry) (id : ℕ) (has : Bool) → has_in entries id ≡ None → with_has entries id has ≡ entries
with_none [] id has none = refl
with_none (entry ∷ others) id has none = by (entry.0 == id) none (λ rest. with_none others id has rest)
  where
    by : (b : Bool) → (if b then Some entry.1 else has_in others id) ≡ None → (has_in others id ≡ None → with_has others id has ≡ others)
        → (if b then (entry.0, has) ∷ others else entry ∷ with_has others id has) ≡ entry ∷ others
    by true none rest = cc
    by false none rest = ap (λ (l : List DiskEntry). entry ∷ l) (rest none)

pub is_empty : {D : Type 0} {d : Ghosts D} (shown : D → DiskState) (blocks : List (Block D d)) (id place : ℕ) (at : Block D d)
    → (is : IsBlockPlace shown blocks id place) → at ≡ is.block → has_in (disk_entries_of blocks) id ≡ Some false → at.blk.drive.disk ≡ None
is_empty {D = D} {d = d} shown blocks id place at is same empty = by at.blk.drive.disk (the_same (ap (λ (b : Block D d). Some (is_some b.blk.drive.disk)) same ∙ sym is.has ∙ empty))
  where
    the_same : {x : Bool} → ◌≡◌ {A = Option Bool} (Some x) (Some false) → x ≡ false
    the_same both = cc

    by : (disk : Option D) → is_some disk ≡ false → disk ≡ None
    by None none = refl
    by (Some disk) none = cc

-- what is known of one says that it is there
pub known_found : {D : Type 0} {d : Ghosts D} (shown : D → DiskState) (blocks : List (Block D d)) (id : ℕ) (has : Bool) → has_in (disk_entries_of blocks) id ≡ Some has
    → (block : ShownBlock) × (block_with (shown_blocks shown blocks) id ≡ Some block)
known_found shown blocks id has at = by (block_with (shown_blocks shown blocks) id) refl
  where
    by : (found : Option ShownBlock) → block_with (shown_blocks shown blocks) id ≡ found → (block : ShownBlock) × (found ≡ Some block)
    by None none = absurd (none_some (disk_entries_of blocks) id has (none_entries shown blocks id none) at)
    by (Some block) there = (block, refl)

-- where it changes from what stood there
pub changed_from : {D : Type 0} {d : Ghosts D} (shown : D → DiskState) (How : Device → Device → Type 0) (blocks : List (Block D d)) (id place : ℕ) (at other : Block D d)
    → (is : IsBlockPlace shown blocks id place) → at ≡ is.block → other.id ≡ at.id → How (shown_block shown at).device (shown_block shown other).device
    → ChangesOne How (shown_blocks shown blocks) id (shown_blocks shown (slice_set blocks place other))
changed_from {D = D} {d = d} shown How blocks id place at other is same own how =
    changed_at shown How blocks id place is other (own ∙ ap (λ (b : Block D d). b.id) same)
    (subst (λ (b : Block D d). How (shown_block shown b).device (shown_block shown other).device) same how)

-- and whether it has a disk doesn't
pub entries_from : {D : Type 0} {d : Ghosts D} (shown : D → DiskState) (blocks : List (Block D d)) (id place : ℕ) (at other : Block D d)
    → (is : IsBlockPlace shown blocks id place) → at ≡ is.block → other.id ≡ at.id → is_some (shown_block shown other).device.disk ≡ is_some (shown_block shown at).device.disk
    → disk_entries_of (slice_set blocks place other) ≡ disk_entries_of blocks
entries_from {D = D} {d = d} shown blocks id place at other is same own has =
    let both = sym (seen_some shown other.blk.drive.disk) ∙ has ∙ seen_some shown at.blk.drive.disk ∙ ap (λ (b : Block D d). is_some b.blk.drive.disk) same in
    is.entries other (own ∙ ap (λ (b : Block D d). b.id) same) ∙ ap (λ (x : Bool). with_has (disk_entries_of blocks) id x) both ∙ with_same (disk_entries_of blocks) id (is_some is.block.blk.drive.disk) is.has
  where
    seen_some : {E : Type 0} (shown : E → DiskState) (disk : Option E) → is_some (disk_in shown disk) ≡ is_some disk
    seen_some shown None = refl
    seen_some shown (Some disk) = refl
