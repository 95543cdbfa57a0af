-- What remains of a walk, position by position.
use Rattle.std.proofs.Common.{◌≡◌, ℕ, suc, ◌*◌, ◌/◌, ◌^◌, Bool, false, List, [], ◌∷◌, ◌++◌, length, replicate, Option, None, Some, Ok, Err, if◌then◌else◌, refl, sym, ap, ◌∙◌, subst, arith}
use Rattle.iom_base.specs.Causes.{page_fault_of, guest_page_fault_of}
use Rattle.iom_base.specs.Sizes.{levels_of}
use Rattle.iom_base.specs.Tables.{access_fault_of}
use Rattle.iom_base.specs.declared.access.AccessKind.{AccessKind}
use Rattle.iom_base.specs.declared.access.AccessKind.TheVariants.{Read, Write}
use Rattle.iom_base.specs.declared.cause.Cause.{Cause}
use Rattle.iom_base.specs.declared.ppn.Ppn.{Ppn}
use Rattle.iom_base.specs.declared.rights.Rights.{Rights}
use Rattle.iom_base.specs.declared.size.Size.{Size}
use Rattle.iom_phys_mem.specs.Words.{word_at}
use Rattle.iom_stage_walk.specs.Both.{guest_address, plain}
use Rattle.iom_stage_walk.specs.Entries.{entries, entry_read, slot}
use Rattle.iom_stage_walk.specs.declared.entry.Entry.{Entry}
use Rattle.iom_stage_walk.specs.Paths.{first_path}
use Rattle.iom_stage_walk.specs.Second.{reported}
use Rattle.iom_walk_loads.proofs.TableLemmas.{entries_are}
use Rattle.iom_walk_loads.specs.Loads.{Ends, Walk, after_load}
use Rattle.iom_walk_loads.specs.Tables.{InBoth, at_guest_entry, both_walk, guest_down, lead, page_walk, second_walk, reached, unreached, unread}
use Rattle.iom_stepped_walk.proofs.IndexLemmas.{indices_from_next, slot_mod}
use Rattle.iom_stepped_walk.specs.Indices.{indices_below, indices_from}
use Rattle.iom_stepped_walk.specs.Positions.{NamesBelow, address_of, entries_below, entry_index, entry_rest, in_both, indices_of_entry, rest_of}
use Rattle.iom_stepped_walk.specs.Roots.{BeginsFirst, BeginsSecond, lead_from}
use Rattle.iom_stepped_walk.specs.Steps.{Makes, TableAnswer, resumed}
use Rattle.iom_stepped_walk.specs.Filled.{filled_places}
use Rattle.iom_stepped_walk.specs.declared.guest.Both.{Both}
use Rattle.iom_stepped_walk.specs.declared.guest.GuestEntry.{GuestEntry}
use Rattle.iom_stepped_walk.specs.declared.guest.GuestPage.{GuestPage}
use Rattle.iom_stepped_walk.specs.declared.place.Place.{Place}
use Rattle.iom_stepped_walk.specs.declared.place.Step.{Step}
use Rattle.iom_stepped_walk.specs.declared.tables.Asked.{Asked}
use Rattle.iom_stepped_walk.specs.declared.tables.TableWalk.TheVariants.{InFirstStage, InSecondStage, ToGuestEntry, ToGuestPage}

-- an access fault tells no address
pub reported_access : (kind : AccessKind) (address : ℕ) (implicit : Bool) → reported (access_fault_of kind) address implicit ≡ plain (access_fault_of kind)
reported_access Read address implicit = refl
reported_access Write address implicit = refl

-- what follows where the second stage leads to an entry of a guest's table
abbrev pub entry_led : ℕ → Both → GuestEntry → ℕ → Rights → ℕ → Walk TableAnswer
entry_led frames both entry frame rights level = entry_rest (in_both frames both) entry frame

-- where it doesn't
abbrev pub entry_unread : ℕ → Both → GuestEntry → Cause → Walk TableAnswer
entry_unread frames both entry = unread (in_both frames both) entry.table.number (entry_index entry both.asked.address)

-- a walk that has ended at a frame
abbrev pub ended_ok : ℕ → Rights → ℕ → List (Option ℕ) → Walk TableAnswer
ended_ok frame rights level guest_frames = Ends (Ok (record { frame = frame; rights = rights; level = level; guest_frames = guest_frames }))

-- what follows where a stage alone leads to a frame
abbrev pub one_found : ℕ → Rights → ℕ → Walk TableAnswer
one_found frame rights level = Ends (Ok (record { frame = frame; rights = rights; level = level; guest_frames = replicate 4 None }))

-- where a first stage doesn't
abbrev pub first_stopped : Cause → Walk TableAnswer
first_stopped cause = Ends (Err (plain cause))

-- where a second doesn't
abbrev pub second_stopped : ℕ → Cause → Walk TableAnswer
second_stopped address cause = Ends (Err (reported cause address false))

-- one load in a first stage alone
pub first_load_is : (m : List (List ℕ)) (asked : Asked) (place : Place) (step : Step) → Makes m asked.kind place (asked.address / 4096) step
    → resumed (length m) asked.kind (asked.address / 4096) (page_fault_of asked.kind) (access_fault_of asked.kind) one_found first_stopped step
    ≡ after_load m (rest_of (length m) (InFirstStage asked place))
first_load_is m asked place step makes = sym (makes (page_fault_of asked.kind) (access_fault_of asked.kind) one_found first_stopped)

-- one load in a second stage alone
pub second_load_is : (m : List (List ℕ)) (asked : Asked) (place : Place) (step : Step) → Makes m asked.kind place (asked.address / 4096) step
    → resumed (length m) asked.kind (asked.address / 4096) (guest_page_fault_of asked.kind) (access_fault_of asked.kind) one_found (second_stopped asked.address) step
    ≡ after_load m (rest_of (length m) (InSecondStage asked place))
second_load_is m asked place step makes = sym (makes (guest_page_fault_of asked.kind) (access_fault_of asked.kind) one_found (second_stopped asked.address))

-- a second stage alone, from its root
pub second_begins : (frames : ℕ) (size : Size) (root : Ppn) (address : ℕ) (kind : AccessKind) (begun : Option Place) → BeginsSecond size root address begun
    → lead_from frames kind kind one_found (second_stopped address) address begun ≡ second_walk frames (levels_of size) root.number address kind
second_begins frames size root address kind begun begins = sym (begins frames kind kind one_found (second_stopped address))

-- to an entry of a guest's table, from the root of the second stage
pub to_entry_is : (frames : ℕ) (both : Both) (entry : GuestEntry) (guest : ℕ) (begun : Option Place) → guest ≡ address_of entry both.asked.address
    → BeginsSecond both.size both.second guest begun
    → lead_from frames Read both.asked.kind (entry_led frames both entry) (entry_unread frames both entry) (address_of entry both.asked.address) begun
    ≡ guest_down (in_both frames both) (filled_places entry.loaded.frames) entry.table.number (indices_of_entry entry both.asked.address)
to_entry_is frames both entry guest begun is begins =
    sym (subst (λ g. lead frames (levels_of both.size) both.second.number Read both.asked.kind (entry_led frames both entry) (entry_unread frames both entry) g
    ≡ lead_from frames Read both.asked.kind (entry_led frames both entry) (entry_unread frames both entry) g begun) is
    (begins frames Read both.asked.kind (entry_led frames both entry) (entry_unread frames both entry)))

-- to the page that a guest's tables give
pub to_page_is : (frames : ℕ) (both : Both) (page : GuestPage) (begun : Option Place)
    → BeginsSecond both.size both.second (guest_address page.number both.asked.address) begun
    → lead_from frames both.asked.kind both.asked.kind (reached (in_both frames both) (filled_places page.loaded.frames) page.rights page.level) (unreached (in_both frames both) page.number)
    (guest_address page.number both.asked.address) begun
    ≡ page_walk (in_both frames both) (filled_places page.loaded.frames) page.number page.rights page.level
to_page_is frames both page begun begins =
    sym (begins frames both.asked.kind both.asked.kind (reached (in_both frames both) (filled_places page.loaded.frames) page.rights page.level) (unreached (in_both frames both) page.number))

-- one load on the way to an entry of a guest's table
pub toward_entry_is : (m : List (List ℕ)) (both : Both) (entry : GuestEntry) (place : Place) (guest : ℕ) (step : Step) → guest ≡ address_of entry both.asked.address
    → Makes m Read place (guest / 4096) step
    → resumed (length m) Read (address_of entry both.asked.address / 4096) (guest_page_fault_of both.asked.kind) (access_fault_of both.asked.kind)
    (entry_led (length m) both entry) (entry_unread (length m) both entry) step
    ≡ after_load m (rest_of (length m) (ToGuestEntry both entry place))
toward_entry_is m both entry place guest step is makes =
    sym (subst (λ g. Makes m Read place (g / 4096) step) is makes (guest_page_fault_of both.asked.kind) (access_fault_of both.asked.kind)
    (entry_led (length m) both entry) (entry_unread (length m) both entry))

-- one load on the way to the page that a guest's tables gave
pub toward_page_is : (m : List (List ℕ)) (both : Both) (page : GuestPage) (place : Place) (step : Step)
    → Makes m both.asked.kind place (guest_address page.number both.asked.address / 4096) step
    → resumed (length m) both.asked.kind (guest_address page.number both.asked.address / 4096) (guest_page_fault_of both.asked.kind) (access_fault_of both.asked.kind)
    (reached (in_both (length m) both) (filled_places page.loaded.frames) page.rights page.level) (unreached (in_both (length m) both) page.number) step
    ≡ after_load m (rest_of (length m) (ToGuestPage both page place))
toward_page_is m both page place step makes =
    sym (makes (guest_page_fault_of both.asked.kind) (access_fault_of both.asked.kind)
    (reached (in_both (length m) both) (filled_places page.loaded.frames) page.rights page.level) (unreached (in_both (length m) both) page.number))

-- what follows an entry of a guest's table
abbrev pub down_from : InBoth → GuestEntry → ℕ → ℕ → Walk TableAnswer
down_from w entry frame next = guest_down w (filled_places entry.loaded.frames ++ frame ∷ []) next (entries_below entry w.address)

-- the entry of the table that it names is the next one
pub below_is : (w : InBoth) (entry lower : GuestEntry) (frame next : ℕ) → NamesBelow entry frame next (Some lower)
    → guest_down w (filled_places lower.loaded.frames) lower.table.number (indices_of_entry lower w.address) ≡ down_from w entry frame next
below_is w entry lower frame next (level, table, loaded) =
    let one_up : entry.level ≡ suc lower.level = omega (arith, level) in
    ap (λ fs. guest_down w fs lower.table.number (indices_of_entry lower w.address)) loaded
    ∙ ap (λ t. guest_down w (filled_places entry.loaded.frames ++ frame ∷ []) t (indices_of_entry lower w.address)) table
    ∙ ap (λ is. guest_down w (filled_places entry.loaded.frames ++ frame ∷ []) next is)
    (sym (indices_from_next lower.level (w.address / 4096)) ∙ ap (λ l. indices_below l (w.address / 4096)) (sym one_up))

-- one load of an entry of a guest's table
pub entry_load_is : (m : List (List ℕ)) (w : InBoth) (entry : GuestEntry) (frame : ℕ) (given : Entry) → given ≡ entries m (slot frame (entry_index entry w.address))
    → at_guest_entry w (filled_places entry.loaded.frames ++ frame ∷ []) (entries_below entry w.address) (down_from w entry frame) given ≡ after_load m (entry_rest w entry frame)
entry_load_is m w entry frame given is =
    ap (at_guest_entry w (filled_places entry.loaded.frames ++ frame ∷ []) (entries_below entry w.address) (down_from w entry frame))
    (is ∙ entries_are m (slot frame (entry_index entry w.address))
    ∙ ap (λ i. entry_read (word_at 8 m (8 * slot frame i))) (sym (slot_mod entry.table.number (w.address / 4096 / 512 ^ entry.level))))

-- both stages, from the root of the guest's tables
pub both_begins : (frames : ℕ) (both : Both) (entry : GuestEntry) (size : Size) (first : Ppn) (place : Place) → BeginsFirst size first both.asked.address (Some place)
    → filled_places entry.loaded.frames ≡ [] → entry.table.number ≡ place.table.number → entry.level ≡ place.level
    → guest_down (in_both frames both) (filled_places entry.loaded.frames) entry.table.number (indices_of_entry entry both.asked.address)
    ≡ both_walk frames (levels_of size) (levels_of both.size) first.number both.second.number both.asked.address both.asked.kind
both_begins frames both entry size first place (lawful, root, narrow, level, path) none table same =
    ap (λ fs. guest_down w fs entry.table.number (indices_of_entry entry both.asked.address)) none
    ∙ ap (λ t. guest_down w [] t (indices_of_entry entry both.asked.address)) (table ∙ root)
    ∙ ap (λ is. guest_down w [] first.number is)
    (ap (λ l. indices_from false l page) same ∙ ap (λ b. indices_from b place.level page) (sym narrow) ∙ path)
    ∙ sym (ap (λ b. if b then guest_down w [] first.number (first_path (levels_of size) both.asked.address) else Ends (Err (plain (page_fault_of both.asked.kind)))) lawful)
  where
    w : InBoth
    w = in_both frames both

    page : ℕ
    page = both.asked.address / 4096
