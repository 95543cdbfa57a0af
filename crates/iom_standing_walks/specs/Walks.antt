-- Where the walks of `iom_stepped_walk` stand, in the words of the laws: so these laws are of that code.
use Rattle.std.specs.Prelude.{◌≡◌, ℕ}
use Rattle.iom_stage_walk.specs.Both.{guest_address}
use Rattle.iom_walk_loads.specs.Directory.{directory_walk}
use Rattle.iom_walk_loads.specs.Tables.{first_rest, second_rest}
use Rattle.iom_stepped_walk.specs.Directories.{directory_rest}
use Rattle.iom_stepped_walk.specs.Positions.{address_of, entries_below, entry_index, in_both, indices_of, rest_of}
use Rattle.iom_stepped_walk.specs.Filled.{filled_places}
use Rattle.iom_stepped_walk.specs.declared.directory.DirectoryWalk.{DirectoryWalk}
use Rattle.iom_stepped_walk.specs.declared.guest.Both.{Both}
use Rattle.iom_stepped_walk.specs.declared.guest.GuestEntry.{GuestEntry}
use Rattle.iom_stepped_walk.specs.declared.guest.GuestPage.{GuestPage}
use Rattle.iom_stepped_walk.specs.declared.place.Place.{Place}
use Rattle.iom_stepped_walk.specs.declared.tables.TableWalk.TheVariants.{InFirstStage, InSecondStage, ToGuestEntry, InGuestTable, ToGuestPage}
use Rattle.iom_stepped_walk.specs.declared.tables.Asked.{Asked}
use Rattle.iom_standing_walks.specs.Positions as position

-- in one stage, in the table in hand with the indices that are left
abbrev pub OneStageStands : Type 0
OneStageStands = (frames : ℕ) (asked : Asked) (place : Place)
    → (rest_of frames (InFirstStage asked place) ≡ first_rest frames asked.kind place.table.number (indices_of place asked.address))
    × (rest_of frames (InSecondStage asked place) ≡ second_rest frames asked.kind asked.address place.table.number (indices_of place asked.address))

-- on the way to an entry of a guest's table
abbrev pub TowardEntryStands : Type 0
TowardEntryStands = (frames : ℕ) (both : Both) (entry : GuestEntry) (place : Place)
    → rest_of frames (ToGuestEntry both entry place)
    ≡ position.rest_of (in_both frames both)
    (position.ToEntry (filled_places entry.loaded.frames) entry.table.number (entry_index entry both.asked.address) (entries_below entry both.asked.address)
    place.table.number (indices_of place (address_of entry both.asked.address)))

-- at that entry
abbrev pub AtEntryStands : Type 0
AtEntryStands = (frames : ℕ) (both : Both) (entry : GuestEntry) (frame : ℕ)
    → rest_of frames (InGuestTable both entry frame)
    ≡ position.rest_of (in_both frames both)
    (position.AtEntry (filled_places entry.loaded.frames) entry.table.number (entry_index entry both.asked.address) (entries_below entry both.asked.address) frame)

-- on the way to the page that the guest's tables gave
abbrev pub TowardPageStands : Type 0
TowardPageStands = (frames : ℕ) (both : Both) (page : GuestPage) (place : Place)
    → rest_of frames (ToGuestPage both page place)
    ≡ position.rest_of (in_both frames both)
    (position.ToPage (filled_places page.loaded.frames) page.number page.rights page.level place.table.number (indices_of place (guest_address page.number both.asked.address)))

-- in a page of the directory
abbrev pub DirectoryStands : Type 0
DirectoryStands = (walk : DirectoryWalk) → directory_rest walk ≡ directory_walk walk.level walk.page.number walk.id
