-- What an entry of a page table means to a walk that knows leaves of 64 KiB (RISC-V Privileged Architecture, "Svnapot").
use Rattle.std.specs.Prelude.{◌==◌, ℕ, zero, suc, ◌+◌, ◌-◌, ◌*◌, ◌^◌, ◌%◌, Bool, true, false, ◌&&◌, List, [], ◌∷◌, length, Option, Some, None, if◌then◌else◌}
use Rattle.iom_base.specs.Tables.{entry_size}
use Rattle.iom_phys_mem.specs.Words.{word_at}
use Rattle.iom_stage_walk.specs.Entries.{Entries, entries, entry_of, has_flag, is_user_leaf, leaf_rights, slot}
use Rattle.iom_stage_walk.specs.Fields.{pte_of, ppn_of, reserved_of}
use Rattle.iom_stage_walk.specs.Paths.{level_at}
use Rattle.iom_stage_walk.specs.declared.entry.Entry.{Entry}
use Rattle.iom_stage_walk.specs.declared.entry.Entry.TheVariants.{Outside, Leaf}
use Rattle.iom_stage_walk.specs.declared.pte.Pte.{Pte}
use Rattle.iom_stage_walk.specs.declared.pte.TheConstants.PteFlags.{V}

-- how many pages such a leaf maps
abbrev pub napot_pages : ℕ
napot_pages = 16

-- the entry is a leaf of 64 KiB that serves devices: of bits 63:54 N alone is set, and its page number ends in 1000
abbrev pub is_napot_leaf : Pte → Bool
is_napot_leaf pte = (reserved_of pte == 2 ^ 9) && ((has_flag pte V && is_user_leaf pte) && (ppn_of pte % napot_pages == 8))

-- what the entry means that stands at this number: such a leaf maps of its sixteen pages the one that the place names, for each begins at a multiple of 16
abbrev pub napot_entry : Pte → ℕ → Entry
napot_entry pte s = if is_napot_leaf pte then Leaf (ppn_of pte - 8 + s % napot_pages) (leaf_rights pte) else entry_of pte

abbrev pub napot_read : Option ℕ → ℕ → Entry
napot_read None s = Outside
napot_read (Some word) s = napot_entry (pte_of word) s

-- the entries of tables whose entries are of pages alone
unfoldable pub napot_entries : List (List ℕ) → Entries
napot_entries frames s = napot_read (word_at entry_size frames (entry_size * s)) s

-- the entries of tables with so many levels below them, where walks know Svnapot, or don't
abbrev pub entries_in : Bool → List (List ℕ) → ℕ → Entries
entries_in false frames below = entries frames
entries_in true frames zero = napot_entries frames
entries_in true frames (suc below) = entries frames

-- the order of a leaf: it maps so many pages, a power of two. One of 64 KiB has 4
abbrev pub order_read : Option ℕ → ℕ
order_read None = 0
order_read (Some word) = if is_napot_leaf (pte_of word) then 4 else 0

unfoldable pub napot_order : List (List ℕ) → ℕ → ℕ
napot_order frames s = order_read (word_at entry_size frames (entry_size * s))

-- that of a leaf at this number, with so many levels below it
abbrev pub order_in : Bool → List (List ℕ) → ℕ → ℕ → ℕ
order_in false frames below s = 9 * below
order_in true frames zero s = napot_order frames s
order_in true frames (suc below) s = 9 * suc below

-- that of the leaf to which the indices lead from the table
abbrev pub leaf_order : Bool → List (List ℕ) → ℕ → List ℕ → ℕ
leaf_order napot frames table [] = 0
leaf_order napot frames table (i ∷ below) =
    level_at (entries_in napot frames (length below) (slot table i)) (order_in napot frames (length below) (slot table i))
    (λ next. leaf_order napot frames next below)
