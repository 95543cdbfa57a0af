-- The address translation cache of a device (ATC; PCI Express Base Specification, chapter 10): what it has, and what it answers.
use Rattle.std.specs.Prelude.{◌≢◌, ◌≤◌, ℕ, Bool, true, not, nat_lt, ◌==◌, List, [], ◌∷◌, ◌++◌, length, filter, drop, AllPairs, Option, Some, None, if◌then◌else◌}
use Rattle.std.specs.List.{find}
use Rattle.iom_base.specs.declared.access.AccessKind.{AccessKind}
use Rattle.iom_base.specs.Rights.{allows}
use Rattle.iom_fabric.specs.declared.message.Range.{Range}
use Rattle.iom_fabric.specs.declared.message.Range.TheVariants as range
use Rattle.iom_ats_cache.specs.declared.entry.Entry.{Entry}

-- the epoch, which is the number of invalidations and resets so far; and the entries in the order in which they were kept, the oldest first
pub record Cache : Type 0 where
  pub epoch : ℕ
  pub entries : List Entry

-- epoch 0, and no entry
abbrev pub empty_cache : Cache
empty_cache = record { epoch = 0; entries = [] }

-- whether a range, of one page or of everything, covers a page
abbrev pub range_covers : Range → ℕ → Bool
range_covers (range.Page own) page = own == page
range_covers range.Everything page = true

-- the entries of the pages that a range doesn't cover, in their order
abbrev pub outside : Range → List Entry → List Entry
outside dropped entries = filter (λ entry. not (range_covers dropped entry.page)) entries

-- with room for one more: where there are 32 the oldest goes out
abbrev pub with_room : List Entry → List Entry
with_room entries = if nat_lt (length entries) 32 then entries else drop 1 entries

-- one more is kept: it goes last, and its page's old one goes out; where 32 others are left, so does the oldest
abbrev pub with_entry : List Entry → Entry → List Entry
with_entry entries entry = with_room (outside (range.Page entry.page) entries) ++ entry ∷ []

-- the entry of a page
abbrev pub entry_for_page : List Entry → ℕ → Option Entry
entry_for_page entries page = find (λ entry. entry.page == page) entries

-- its frame, where its right allows an access of this kind
abbrev pub frame_if_allowed : Option Entry → AccessKind → Option ℕ
frame_if_allowed None kind = None
frame_if_allowed (Some entry) kind = if allows entry.rights kind then Some entry.frame else None

-- the frame that an access of this kind to a page has from the cache, if it has one
abbrev pub frame_for : Cache → ℕ → AccessKind → Option ℕ
frame_for cache page kind = frame_if_allowed (entry_for_page cache.entries page) kind

-- no page has two entries
abbrev pub AreOfDistinctPages : List Entry → Type 0
AreOfDistinctPages entries = AllPairs (λ entry later. entry.page ≢ later.page) entries

-- at most 32 entries, and no page has two
pub record AreEntries (entries : List Entry) : Type 0 where
  pub few : length entries ≤ 32
  pub distinct : AreOfDistinctPages entries
