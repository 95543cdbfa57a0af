-- What the row of each frame counts, by the rows of the pages.
-- For the facts that a ledger carries, and the calls inside this crate; no public contract cites these.
use Rattle.std.specs.Prelude.{◌≡◌, ◌↔◌, ℕ, ◌-◌, ◌+◌, ◌^◌, ◌<◌, ◌≤◌, Bool, false, ◌==◌, ◌&&◌, List, [], ◌∷◌, length, ⊤, Option, None, Some, IsTrue, is_none, is_some, slice_index_or, if◌then◌else◌}
use Rattle.std.specs.List.{list_any}
use Rattle.iom_frame_set.specs.Sets.{Words, has, room}
use Rattle.iom_ledger.specs.declared.page_row.PageRow.{PageRow}
use Rattle.iom_ledger.specs.declared.row.Row.{Row}
use Rattle.iom_ledger.specs.FrameRows.{IsFreeRow}
use Rattle.iom_ledger.specs.Rows.{Devices, row_at}

-- whether the row of a page, if there is one, holds the frame
abbrev pub holds_frame : Option PageRow → ℕ → Bool
holds_frame None frame = false
holds_frame (Some row) frame = is_none row.ticket && (row.frame == frame)

-- whether the row of a page, if there is one, lingers on the frame
abbrev pub lingers_on : Option PageRow → ℕ → Bool
lingers_on None frame = false
lingers_on (Some row) frame = is_some row.ticket && (row.frame == frame)

-- whether the page of the device is among these
abbrev pub has_page : List (ℕ × ℕ) → ℕ → ℕ → Bool
has_page pages device page = list_any (λ p. (p.0 == device) && (p.1 == page)) pages

-- no page of a device stands there twice
abbrev pub AreOnceEach : List (ℕ × ℕ) → Type 0
AreOnceEach [] = ⊤
AreOnceEach (p ∷ pages) = (has_page pages p.0 p.1 ≡ false) × AreOnceEach pages

-- the number of each device has 32 bits, and that of each page 64
abbrev pub AreNumbered : List (ℕ × ℕ) → Type 0
AreNumbered [] = ⊤
AreNumbered (p ∷ pages) = (p.0 < 2 ^ 32) × (p.1 < 2 ^ 64) × AreNumbered pages

-- these are the pages of devices that pass the test, each once
pub record ArePages (test : ℕ → ℕ → Bool) (pages : List (ℕ × ℕ)) : Type 0 where
  pub once : AreOnceEach pages
  pub numbered : AreNumbered pages
  pub all : (device page : ℕ) → has_page pages device page ≡ test device page

-- so many pages of devices pass the test
abbrev pub IsCountOf : (ℕ → ℕ → Bool) → ℕ → Type 0
IsCountOf test count = ∥ ((pages : List (ℕ × ℕ)) × ArePages test pages × (length pages ≡ count)) ∥₁

-- each count is the number of pages of devices whose rows pass the test with the frame
abbrev pub CountsRows : (Option PageRow → ℕ → Bool) → Devices → (ℕ → ℕ) → Type 0
CountsRows test devices counts =
    (frame : ℕ) → IsCountOf (λ device page. test (row_at devices device page) frame) (counts frame)

-- the row of a frame; beyond the last frame that has one, a row of two zeros
abbrev pub row_of_frame : List Row → ℕ → Row
row_of_frame rows frame = slice_index_or rows frame (record { grants = 0; pending = 0 })

-- each frame's row counts the pages at which it is held, and those at which it lingers
pub record AreCounted (devices : Devices) (rows : List Row) : Type 0 where
  pub grants : CountsRows holds_frame devices (λ frame. (row_of_frame rows frame).grants)
  pub pending : CountsRows lingers_on devices (λ frame. (row_of_frame rows frame).pending)

-- each frame's row stays
abbrev pub KeepsCounts : List Row → List Row → Type 0
KeepsCounts old new = (f : ℕ) → row_of_frame new f ≡ row_of_frame old f

-- the frame's row is changed so, and each other stays
abbrev pub ChangesRow : (Row → Row) → List Row → List Row → ℕ → Type 0
ChangesRow change old new frame =
    (f : ℕ) → row_of_frame new f ≡ (if frame == f then change (row_of_frame old f) else row_of_frame old f)

-- the row with one grant more
abbrev pub granted : Row → Row
granted row = record { grants = row.grants + 1; pending = row.pending }

-- the row, where one of its grants is released
abbrev pub released : Row → Row
released row = record { grants = row.grants - 1; pending = row.pending + 1 }

-- the row, where one of its releases is confirmed
abbrev pub confirmed : Row → Row
confirmed row = record { grants = row.grants; pending = row.pending - 1 }

-- the set has the frames whose rows are free, and room for each frame that has a row
pub record IsFreeSet (rows : List Row) (free : Words) : Type 0 where
  pub has_free : (f : ℕ) → IsTrue (has free f) ↔ IsFreeRow (row_of_frame rows f)
  pub roomy : length rows ≤ room free
