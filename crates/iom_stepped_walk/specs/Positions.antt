-- What remains of a walk of tables that stands in a position.
use Rattle.std.specs.Prelude.{◌≡◌, ℕ, ◌+◌, ◌/◌, false, List, [], ◌∷◌, ◌++◌, length, Option, None, Some, Result}
use Rattle.iom_base.specs.Sizes.{page_size, levels_of}
use Rattle.iom_base.specs.declared.access.AccessKind.TheVariants.{Read}
use Rattle.iom_stage_walk.specs.Entries.{slot}
use Rattle.iom_stage_walk.specs.Both.{entry_address, guest_address}
use Rattle.iom_stage_walk.specs.declared.walked.Walked.{Walked}
use Rattle.iom_stage_walk.specs.declared.walked.WalkFault.{WalkFault}
use Rattle.iom_walk_loads.specs.Loads.{Walk, Ends, after_load}
use Rattle.iom_walk_loads.specs.Tables.{InBoth, first_rest, second_rest, lead_rest, guest_down, guest_load, reached, unreached, unread}
use Rattle.iom_stepped_walk.specs.Indices.{index_at, indices_below, indices_from}
use Rattle.iom_stepped_walk.specs.Filled.{filled_places}
use Rattle.iom_stepped_walk.specs.declared.guest.Both.{Both}
use Rattle.iom_stepped_walk.specs.declared.guest.GuestEntry.{GuestEntry}
use Rattle.iom_stepped_walk.specs.declared.place.Place.{Place}
use Rattle.iom_stepped_walk.specs.declared.tables.Progress.{Progress}
use Rattle.iom_stepped_walk.specs.declared.tables.Progress.TheVariants.{GoesOn, Ended}
use Rattle.iom_stepped_walk.specs.declared.tables.TableWalk.{TableWalk}
use Rattle.iom_stepped_walk.specs.declared.tables.TableWalk.TheVariants.{InFirstStage, InSecondStage, ToGuestEntry, InGuestTable, ToGuestPage}

-- the indices of an address in the table in hand and in those below
abbrev pub indices_of : Place → ℕ → List ℕ
indices_of place address = indices_from place.is_wide place.level (address / page_size)

-- what a walk in both stages is for, in a memory of so many frames
abbrev pub in_both : ℕ → Both → InBoth
in_both frames both =
    record { frames = frames; levels' = levels_of both.size; second = both.second.number; address = both.asked.address; kind = both.asked.kind }

-- the index of an address in a guest's table, and those in the guest's tables below
abbrev pub entry_index : GuestEntry → ℕ → ℕ
entry_index entry address = index_at false entry.level (address / page_size)

abbrev pub entries_below : GuestEntry → ℕ → List ℕ
entries_below entry address = indices_below entry.level (address / page_size)

-- both
abbrev pub indices_of_entry : GuestEntry → ℕ → List ℕ
indices_of_entry entry address = entry_index entry address ∷ entries_below entry address

-- the entry in the table that one names which was loaded from the frame; None where the table has no level below
abbrev pub NamesBelow : GuestEntry → ℕ → ℕ → Option GuestEntry → Type 0
NamesBelow entry frame next None = entry.level ≡ 0
NamesBelow entry frame next (Some lower) =
    (lower.level + 1 ≡ entry.level) × (lower.table.number ≡ next) × (filled_places lower.loaded.frames ≡ filled_places entry.loaded.frames ++ frame ∷ [])

-- what remains where the entry lies in this frame
abbrev pub entry_rest : InBoth → GuestEntry → ℕ → Walk (Result Walked WalkFault)
entry_rest w entry frame =
    guest_load w (filled_places entry.loaded.frames) entry.table.number (entry_index entry w.address) (entries_below entry w.address)
    (λ next. guest_down w (filled_places entry.loaded.frames ++ frame ∷ []) next (entries_below entry w.address)) frame

-- the guest physical address of the entry
abbrev pub address_of : GuestEntry → ℕ → ℕ
address_of entry address = entry_address (slot entry.table.number (entry_index entry address))

-- THE REST of a walk that stands there, in a memory of so many frames
abbrev pub rest_of : ℕ → TableWalk → Walk (Result Walked WalkFault)
rest_of frames (InFirstStage asked place) = first_rest frames asked.kind place.table.number (indices_of place asked.address)
rest_of frames (InSecondStage asked place) = second_rest frames asked.kind asked.address place.table.number (indices_of place asked.address)
rest_of frames (ToGuestEntry both entry place) =
    lead_rest frames Read both.asked.kind (λ frame rights level. entry_rest (in_both frames both) entry frame)
    (unread (in_both frames both) entry.table.number (entry_index entry both.asked.address))
    place.table.number (indices_of place (address_of entry both.asked.address))
rest_of frames (InGuestTable both entry frame) = entry_rest (in_both frames both) entry frame
rest_of frames (ToGuestPage both page place) =
    lead_rest frames both.asked.kind both.asked.kind (reached (in_both frames both) (filled_places page.loaded.frames) page.rights page.level)
    (unreached (in_both frames both) page.number)
    place.table.number (indices_of place (guest_address page.number both.asked.address))

-- THE REST of a walk after a load
abbrev pub remains : ℕ → Progress → Walk (Result Walked WalkFault)
remains frames (GoesOn walk) = rest_of frames walk
remains frames (Ended answer) = Ends answer

-- ONE LOAD of this memory makes this of a walk that stands there
abbrev pub IsOneLoad : List (List ℕ) → TableWalk → Progress → Type 0
IsOneLoad memory walk progress = remains (length memory) progress ≡ after_load memory (rest_of (length memory) walk)
