-- The walks of a first stage, of a second, and of both, load by load, for any number of levels (RISC-V Privileged Architecture: "Sv39" and "Sv48", by the virtual
-- address translation process of section 12.3.2; hypervisor extension, section 15.5, "Two-Stage Address Translation", and 15.5.1, "Guest Physical Address
-- Translation", for Sv39x4 and Sv48x4). `frames` is how many frames memory has: a frame that is reached lies in memory, or the walk ends with an access fault.
use Rattle.std.specs.Prelude.{ℕ, ◌+◌, ◌*◌, ◌%◌, ◌^◌, nat_lt, nat_le, Bool, true, false, ◌&&◌, ◌||◌, ◌==◌, List, [], ◌∷◌, ◌++◌, length, replicate, None, Result, Ok, Err, if◌then◌else◌}
use Rattle.iom_base.specs.Causes.{page_fault_of, guest_page_fault_of}
use Rattle.iom_base.specs.Rights.{allows}
use Rattle.iom_base.specs.Tables.{access_fault_of, entry_size, table_entries}
use Rattle.iom_base.specs.declared.access.AccessKind.{AccessKind}
use Rattle.iom_base.specs.declared.access.AccessKind.TheVariants.{Read}
use Rattle.iom_base.specs.declared.cause.Cause.{Cause}
use Rattle.iom_base.specs.declared.rights.Rights.{Rights}
use Rattle.iom_stage_walk.specs.Entries.{entry_read, slot}
use Rattle.iom_stage_walk.specs.Paths.{pages_spanned, page_in, first_path}
use Rattle.iom_stage_walk.specs.Second.{second_path, reported}
use Rattle.iom_stage_walk.specs.Both.{entry_address, guest_address, padded, plain, rights_of_both}
use Rattle.iom_stage_walk.specs.declared.entry.Entry.{Entry}
use Rattle.iom_stage_walk.specs.declared.entry.Entry.TheVariants.{Outside, Invalid, Pointer, Leaf}
use Rattle.iom_stage_walk.specs.declared.walked.Walked.{Walked}
use Rattle.iom_stage_walk.specs.declared.walked.WalkFault.{WalkFault}
use Rattle.iom_walk_loads.specs.Loads.{Walk, Ends, ReadsEntry}

-- whether a leaf is aligned to what it spans, and allows the kind of access (section 12.3.2: a misaligned superpage, and an access that the leaf does not permit,
-- are page faults)
abbrev pub is_lawful : AccessKind → ℕ → Rights → List ℕ → Bool
is_lawful kind base rights below = (base % pages_spanned below == 0) && allows rights kind

-- what remains after an entry of a table, with these indices below it: the table that it names is followed, or a frame is found, by a leaf with so many levels below
-- it, or the walk stops (section 12.3.2).
-- `page` and `access` are what the access calls its faults in these tables
abbrev pub at_entry : {A : Type 0} → AccessKind → Cause → Cause → (ℕ → Rights → ℕ → Walk A) → (Cause → Walk A) → List ℕ → (ℕ → Walk A) → Entry → Walk A
at_entry kind page access found stopped below follow Outside = stopped access
at_entry kind page access found stopped below follow Invalid = stopped page
at_entry kind page access found stopped below follow (Pointer next) = follow next
at_entry kind page access found stopped below follow (Leaf base rights) =
    if is_lawful kind base rights below then found (base + page_in below) rights (length below) else stopped page

-- down the tables from this one, along the indices, one load a level (section 12.3.2). A pointer at the last level leaves no index for the table that it names
abbrev pub down : {A : Type 0} → AccessKind → Cause → Cause → (ℕ → Rights → ℕ → Walk A) → (Cause → Walk A) → ℕ → List ℕ → Walk A
down kind page access found stopped table [] = stopped page
down kind page access found stopped table (i ∷ below) =
    ReadsEntry (entry_size * slot table i)
    (λ given. at_entry kind page access found stopped below (λ next. down kind page access found stopped next below) (entry_read given))

-- the frame that is found lies in a memory of so many
abbrev pub inside : {A : Type 0} → ℕ → (ℕ → Rights → ℕ → Walk A) → Walk A → ℕ → Rights → ℕ → Walk A
inside frames found outside frame rights level = if nat_lt frame frames then found frame rights level else outside

-- the bits of an address above those that a first stage translates equal the highest that it does ("Sv39" and "Sv48")
abbrev pub is_canonical : ℕ → ℕ → Bool
is_canonical levels address = nat_lt address (2 ^ (9 * levels + 11)) || nat_le (2 ^ 64) (address + 2 ^ (9 * levels + 11))

-- what remains of a walk of a first stage alone from this table along the indices, in a memory of so many frames
abbrev pub first_rest : ℕ → AccessKind → ℕ → List ℕ → Walk (Result Walked WalkFault)
first_rest frames kind table left =
    down kind (page_fault_of kind) (access_fault_of kind)
    (inside frames (λ frame rights level. Ends (Ok (record { frame = frame; rights = rights; level = level; guest_frames = replicate 4 None }))) (Ends (Err (plain (access_fault_of kind)))))
    (λ cause. Ends (Err (plain cause))) table left

-- A FIRST STAGE alone ("Sv39" and "Sv48"): of an address that isn't canonical no load is made
abbrev pub first_walk : ℕ → ℕ → ℕ → ℕ → AccessKind → Walk (Result Walked WalkFault)
first_walk frames levels root address kind =
    if is_canonical levels address then first_rest frames kind root (first_path levels address) else Ends (Err (plain (page_fault_of kind)))

-- from a table of the second stage along the indices: to a frame, or it stops, with faults that are numbered by the original access (section 15.5.1)
abbrev pub lead_rest : {A : Type 0} → ℕ → AccessKind → AccessKind → (ℕ → Rights → ℕ → Walk A) → (Cause → Walk A) → ℕ → List ℕ → Walk A
lead_rest frames kind original found stopped table left =
    down kind (guest_page_fault_of original) (access_fault_of original) (inside frames found (stopped (access_fault_of original))) stopped table left

-- from a guest physical address, whose bits above those that the stage translates have to be zero (section 15.5.1)
abbrev pub lead : {A : Type 0} → ℕ → ℕ → ℕ → AccessKind → AccessKind → (ℕ → Rights → ℕ → Walk A) → (Cause → Walk A) → ℕ → Walk A
lead frames levels root kind original found stopped address =
    if nat_lt address (2 ^ (9 * levels + 14)) then lead_rest frames kind original found stopped root (second_path levels address) else stopped (guest_page_fault_of original)

-- what remains of a walk of a second stage alone, of this address
abbrev pub second_rest : ℕ → AccessKind → ℕ → ℕ → List ℕ → Walk (Result Walked WalkFault)
second_rest frames kind address table left =
    lead_rest frames kind kind
    (λ frame rights level. Ends (Ok (record { frame = frame; rights = rights; level = level; guest_frames = replicate 4 None })))
    (λ cause. Ends (Err (reported cause address false))) table left

-- A SECOND STAGE alone (section 15.5.1)
abbrev pub second_walk : ℕ → ℕ → ℕ → ℕ → AccessKind → Walk (Result Walked WalkFault)
second_walk frames levels root address kind =
    lead frames levels root kind kind
    (λ frame rights level. Ends (Ok (record { frame = frame; rights = rights; level = level; guest_frames = replicate 4 None })))
    (λ cause. Ends (Err (reported cause address false))) address

-- what a walk in both stages is for: in a memory of so many frames, through a second stage of so many levels with this root, an access of this kind to the
-- address
pub record InBoth : Type 0 where
  pub frames : ℕ
  pub levels' : ℕ
  pub second : ℕ
  pub address : ℕ
  pub kind : AccessKind

-- it stops with the first stage's page fault
abbrev pub faulted : InBoth → Walk (Result Walked WalkFault)
faulted w = Ends (Err (plain (page_fault_of w.kind)))

-- the second stage has led to the page's frame, by a leaf of its own level; the level of the guest's leaf and the frames from which the guest's entries were loaded are
-- told too
abbrev pub reached : InBoth → List ℕ → Rights → ℕ → ℕ → Rights → ℕ → Walk (Result Walked WalkFault)
reached w loaded given level frame rights level' = Ends (Ok (record { frame = frame; rights = rights_of_both given rights; level = level; guest_frames = padded 4 loaded }))

-- it leads nowhere for the page
abbrev pub unreached : InBoth → ℕ → Cause → Walk (Result Walked WalkFault)
unreached w page cause = Ends (Err (reported cause (guest_address page w.address) false))

-- to the page that the guest's tables give, with its right there, by a leaf of this level
abbrev pub page_walk : InBoth → List ℕ → ℕ → Rights → ℕ → Walk (Result Walked WalkFault)
page_walk w loaded page given level = lead w.frames w.levels' w.second w.kind w.kind (reached w loaded given level) (unreached w page) (guest_address page w.address)

-- what remains after an entry of a guest's table, with these indices below it
abbrev pub at_guest_entry : InBoth → List ℕ → List ℕ → (ℕ → Walk (Result Walked WalkFault)) → Entry → Walk (Result Walked WalkFault)
at_guest_entry w loaded below follow Outside = Ends (Err (plain (access_fault_of w.kind)))
at_guest_entry w loaded below follow Invalid = faulted w
at_guest_entry w loaded below follow (Pointer next) = follow next
at_guest_entry w loaded below follow (Leaf base rights) = if is_lawful w.kind base rights below then page_walk w loaded (base + page_in below) rights (length below) else faulted w

-- the entry at an index of the guest's table is loaded from the frame
abbrev pub guest_load : InBoth → List ℕ → ℕ → ℕ → List ℕ → (ℕ → Walk (Result Walked WalkFault)) → ℕ → Walk (Result Walked WalkFault)
guest_load w loaded table i below follow frame =
    ReadsEntry (entry_size * slot frame (slot table i % table_entries)) (λ given. at_guest_entry w (loaded ++ frame ∷ []) below follow (entry_read given))

-- it can't be: the second stage leads a read of its address nowhere
abbrev pub unread : InBoth → ℕ → ℕ → Cause → Walk (Result Walked WalkFault)
unread w table i cause = Ends (Err (reported cause (entry_address (slot table i)) true))

-- down the guest's tables: each entry is loaded from the frame to which the second stage leads a read of its address (section 15.5: an implicit access)
abbrev pub guest_down : InBoth → List ℕ → ℕ → List ℕ → Walk (Result Walked WalkFault)
guest_down w loaded table [] = faulted w
guest_down w loaded table (i ∷ below) =
    lead w.frames w.levels' w.second Read w.kind
    (λ frame rights level. guest_load w loaded table i below (λ next. guest_down w (loaded ++ frame ∷ []) next below) frame)
    (unread w table i) (entry_address (slot table i))

-- BOTH STAGES (section 15.5)
abbrev pub both_walk : ℕ → ℕ → ℕ → ℕ → ℕ → ℕ → AccessKind → Walk (Result Walked WalkFault)
both_walk frames levels levels' first second address kind =
    if is_canonical levels address
    then guest_down (record { frames = frames; levels' = levels'; second = second; address = address; kind = kind }) [] first (first_path levels address)
    else Ends (Err (plain (page_fault_of kind)))
