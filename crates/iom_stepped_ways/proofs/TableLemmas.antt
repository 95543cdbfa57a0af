-- One load of a walk of tables, by the parts that it may still come to.
use Rattle.std.proofs.Common.{◌≡◌, ◌+◌, ◌*◌, ◌/◌, ◌%◌, ◌^◌, ◌&&◌, ◌==◌, ◌∙◌, inl, inr, ℕ, Bool, true, false, nat_lt, List, [], ◌∷◌, ◌++◌, length, map, replicate, slice_get, Contains, Option, None, Some, Result, Ok, Err, if◌then◌else◌, refl, sym, ap, subst}
use Rattle.std.proofs.lemmas.Bool.{and_parts}
use Rattle.iom_base.proofs.RightsLemmas.{allows-Read}
use Rattle.iom_base.specs.Causes.{page_fault_of, guest_page_fault_of}
use Rattle.iom_base.specs.Rights.{allows, r, rw}
use Rattle.iom_base.specs.Sizes.{levels_of}
use Rattle.iom_base.specs.Tables.{access_fault_of}
use Rattle.iom_base.specs.declared.access.AccessKind.{AccessKind}
use Rattle.iom_base.specs.declared.access.AccessKind.TheVariants.{Read, Write}
use Rattle.iom_base.specs.declared.cause.Cause.{Cause}
use Rattle.iom_base.specs.declared.rights.Rights.{Rights}
use Rattle.iom_device_dir.specs.declared.context.Context.{Context as DeviceContext}
use Rattle.iom_device_dir.specs.declared.stages.FirstStage.{FirstStage as FirstPart}
use Rattle.iom_device_dir.specs.declared.stages.FirstStage.TheVariants as first
use Rattle.iom_device_dir.specs.declared.stages.SecondStage.{SecondStage as SecondPart}
use Rattle.iom_device_dir.specs.declared.stages.SecondStage.TheVariants as second
use Rattle.iom_phys_mem.specs.Words.{word_at}
use Rattle.iom_stage_walk.specs.Both.{plain, padded, rights_of_both, entry_address, guest_address}
use Rattle.iom_stage_walk.specs.Entries.{entries, entry_read, slot}
use Rattle.iom_stage_walk.specs.Paths.{first_path, page_in, pages_spanned}
use Rattle.iom_stage_walk.specs.Second.{second_path, reported}
use Rattle.iom_stage_walk.specs.declared.entry.Entry.{Entry}
use Rattle.iom_stage_walk.specs.declared.entry.Entry.TheVariants.{Outside, Invalid, Pointer, Leaf}
use Rattle.iom_stage_walk.specs.declared.walked.Walked.{Walked}
use Rattle.iom_stage_walk.specs.declared.walked.WalkFault.{WalkFault}
use Rattle.iom_stepped_requests.specs.Serving.{space_of as named_space}
use Rattle.iom_walk_loads.specs.Loads.{Ends, ReadsEntry, after_load}
use Rattle.iom_walk_loads.specs.Tables.{InBoth, first_walk, second_walk, both_walk, at_entry, down, inside, is_lawful, is_canonical, first_rest, second_rest, lead_rest, lead, guest_load, guest_down, at_guest_entry, faulted, page_walk, reached, unreached, unread}
use Rattle.iom_walk_loads.proofs.TableLemmas.{entries_are, lawful_leaf}
use Rattle.iom_walk_stops.specs.Stages.{stages_of, walk_of, page_of}
use Rattle.iom_walk_stops.specs.declared.stages.Stages.{Stages}
use Rattle.iom_walk_stops.specs.declared.stages.Stages.TheVariants.{First, Second, Both}
use Rattle.iom_reach.specs.Memory.{Tables, Found, Goes, Ends as LeadsTo, Passes}
use Rattle.iom_reach.specs.Scene.{Mapping, AddressSpace, First as InFirst, Second as InSecond, Both as InBothStages, Stages as ReachStages, FirstStage, SecondStage, BothStages}
use Rattle.iom_reach.specs.Ways.{LeadsToMapping, space_of, tables_of}
use Rattle.iom_reach.proofs.TransitionLemmas.{contains_head, contains_tail}
use Rattle.iom_reach.proofs.WalkLemmas.{passes_here}
use Rattle.iom_hardware_ways.specs.Formats.{step_at, found_entry, entry_format, steps_in, stages_in, context_of, formats}
use Rattle.iom_hardware_ways.proofs.FormatLemmas.{entry_there, reaches_ends}
use Rattle.iom_hardware_ways.proofs.ListLemmas.{in_none, cons_cases}
use Rattle.iom_stepped_ways.specs.Parts.{Rest, Part, part_along, part_from_root, IsWalkOf, InFirstStage, InSecondStage, ToGuestEntry, InGuestTable, ToGuestPage}
use Rattle.iom_stepped_ways.specs.Scenes.{address_space}

-- LISTS OF PARTS

-- what is true of one is true of each of it alone
each_of_one : (P : Part → Type 0) (one : Part) → P one → (part : Part) → Contains (one ∷ []) part → P part
each_of_one P one is part among = elim (cons_cases one [] part among) [
  | inl same ↦ subst P same is
  | inr none ↦ absurd (in_none part none)
]

-- and of two
each_of_two : (P : Part → Type 0) (one other : Part) → P one → P other → (part : Part) → Contains (one ∷ other ∷ []) part → P part
each_of_two P one other is holds part among = elim (cons_cases one (other ∷ []) part among) [
  | inl same ↦ subst P same is
  | inr later ↦ each_of_one P other holds part later
]

-- what is true of a walk and its parts is true of what is the same
in_place : (P : Rest → List Part → Type 0) {rest own : Rest} {parts those : List Part} → rest ≡ own → parts ≡ those → P own those → P rest parts
in_place P {rest} {own} {parts} {those} is are holds = subst (λ r. P r parts) (sym is) (subst (λ ps. P own ps) (sym are) holds)

-- ONE LOAD

-- a leaf that is lawful is one of the format
leaf_ends : (memory : List (List ℕ)) (kind : AccessKind) (table j : ℕ) (below : List ℕ) (base : ℕ) (rights : Rights) → entries memory (slot table j) ≡ Leaf base rights
    → is_lawful kind base rights below ≡ true
    → LeadsTo entry_format (slice_get memory) table (map step_at (j ∷ below)) (record { frame = base + page_in below; rights = rights })
leaf_ends memory kind table j below base rights at lawful =
    reaches_ends memory kind table (j ∷ below) (base + page_in below) rights (inr (base, rights, at, lawful_leaf kind base rights below lawful))

-- a pointer is one of the format
pointer_passes : (memory : List (List ℕ)) (table j : ℕ) (below : List ℕ) (next : ℕ) → entries memory (slot table j) ≡ Pointer next
    → Passes entry_format (slice_get memory) table (map step_at (j ∷ below)) next (map step_at below)
pointer_passes memory table j below next at =
    inr (subst (λ (f : Found Mapping). Goes f (λ t. Passes entry_format (slice_get memory) t (map step_at below) next (map step_at below)) (λ said. ⊥))
    (sym (ap (λ e. found_entry e (map step_at below)) (sym (entry_there memory table j) ∙ at)))
    (passes_here entry_format (slice_get memory) next (map step_at below)))

-- of a load in a table: what is true of each fault, of each next table, and of each leaf
module _ (P : Rest → Type 0) (memory : List (List ℕ)) (errs : (e : WalkFault) → P (Ends (Err e))) where
  stage_after : (frames : ℕ) (kind : AccessKind) (page access : Cause) (found : ℕ → Rights → ℕ → Rest) (out : WalkFault) (fault : Cause → WalkFault) (table : ℕ) (left : List ℕ)
      → ((next : ℕ) (below : List ℕ) → Passes entry_format (slice_get memory) table (map step_at left) next (map step_at below)
      → P (down kind page access (inside frames found (Ends (Err out))) (λ cause. Ends (Err (fault cause))) next below))
      → ((leaf : Mapping) (level : ℕ) → LeadsTo entry_format (slice_get memory) table (map step_at left) leaf → allows leaf.rights kind ≡ true → P (found leaf.frame leaf.rights level))
      → P (after_load memory (down kind page access (inside frames found (Ends (Err out))) (λ cause. Ends (Err (fault cause))) table left))
  stage_after frames kind page access found out fault table [] follow leads = errs (fault page)
  stage_after frames kind page access found out fault table (j ∷ below) follow leads = subst (λ e. P (After e)) (entries_are memory (slot table j)) (by (entries memory (slot table j)) refl)
    where
      After : Entry → Rest
      After e = at_entry kind page access (inside frames found (Ends (Err out))) (λ cause. Ends (Err (fault cause))) below
          (λ next. down kind page access (inside frames found (Ends (Err out))) (λ cause. Ends (Err (fault cause))) next below) e

      within : (f : ℕ) (rights : Rights) → P (found f rights (length below)) → (b : Bool) → P (if b then found f rights (length below) else Ends (Err out))
      within f rights is true = is
      within f rights is false = errs out

      leaf : (base : ℕ) (rights : Rights) → entries memory (slot table j) ≡ Leaf base rights → (b : Bool) → is_lawful kind base rights below ≡ b
          → P (if b then inside frames found (Ends (Err out)) (base + page_in below) rights (length below) else Ends (Err (fault page)))
      leaf base rights at true lawful =
          within (base + page_in below) rights
          (leads (record { frame = base + page_in below; rights = rights }) (length below) (leaf_ends memory kind table j below base rights at lawful)
          (and_parts (base % pages_spanned below == 0) (allows rights kind) lawful).1)
          (nat_lt (base + page_in below) frames)
      leaf base rights at false lawful = errs (fault page)

      by : (e : Entry) → entries memory (slot table j) ≡ e → P (After e)
      by Outside at = errs (fault access)
      by Invalid at = errs (fault page)
      by (Pointer next) at = follow next below (pointer_passes memory table j below next at)
      by (Leaf base rights) at = leaf base rights at (is_lawful kind base rights below) refl

  -- of a walk of the second stage from its root
  pub lead_begins : (frames levels root : ℕ) (kind original : AccessKind) (found : ℕ → Rights → ℕ → Rest) (fault : Cause → WalkFault) (address : ℕ)
      → P (lead_rest frames kind original found (λ cause. Ends (Err (fault cause))) root (second_path levels address))
      → P (lead frames levels root kind original found (λ cause. Ends (Err (fault cause))) address)
  lead_begins frames levels root kind original found fault address is = by (nat_lt address (2 ^ (9 * levels + 14)))
    where
      by : (b : Bool)
          → P (if b then lead_rest frames kind original found (λ cause. Ends (Err (fault cause))) root (second_path levels address) else Ends (Err (fault (guest_page_fault_of original))))
      by true = is
      by false = errs (fault (guest_page_fault_of original))

  -- down a guest's tables: each way to an entry
  pub guest_begins : (w : InBoth) (loaded : List ℕ) (table : ℕ) (is : List ℕ)
      → ((i : ℕ) (below : List ℕ) → P (lead_rest w.frames Read w.kind (λ frame rights level. guest_load w loaded table i below (λ next. guest_down w (loaded ++ frame ∷ []) next below) frame)
      (unread w table i) w.second (second_path w.levels' (entry_address (slot table i)))))
      → P (guest_down w loaded table is)
  guest_begins w loaded table [] ways = errs (plain (page_fault_of w.kind))
  guest_begins w loaded table (i ∷ below) ways =
      lead_begins w.frames w.levels' w.second Read w.kind (λ frame rights level. guest_load w loaded table i below (λ next. guest_down w (loaded ++ frame ∷ []) next below) frame)
      (λ cause. reported cause (entry_address (slot table i)) true) (entry_address (slot table i)) (ways i below)

  -- the load of a guest's entry: each way to another, and each to a page
  guest_after : (w : InBoth) (loaded : List ℕ) (guest i : ℕ) (below : List ℕ) (frame : ℕ)
      → ((loaded' : List ℕ) (table : ℕ) (is : List ℕ) → P (guest_down w loaded' table is))
      → ((loaded' : List ℕ) (page : ℕ) (given : Rights) (level : ℕ) → P (page_walk w loaded' page given level))
      → P (after_load memory (guest_load w loaded guest i below (λ next. guest_down w (loaded ++ frame ∷ []) next below) frame))
  guest_after w loaded guest i below frame downwards pages = by (entry_read (word_at 8 memory (8 * slot frame (slot guest i % 512))))
    where
      leaf : (base : ℕ) (rights : Rights) (b : Bool) → P (if b then page_walk w (loaded ++ frame ∷ []) (base + page_in below) rights (length below) else faulted w)
      leaf base rights true = pages (loaded ++ frame ∷ []) (base + page_in below) rights (length below)
      leaf base rights false = errs (plain (page_fault_of w.kind))

      by : (e : Entry) → P (at_guest_entry w (loaded ++ frame ∷ []) below (λ next. guest_down w (loaded ++ frame ∷ []) next below) e)
      by Outside = errs (plain (access_fault_of w.kind))
      by Invalid = errs (plain (page_fault_of w.kind))
      by (Pointer next) = downwards (loaded ++ frame ∷ []) next below
      by (Leaf base rights) = leaf base rights (is_lawful w.kind base rights below)

-- A WALK THAT GOES ON

-- a part passes on from one of these
abbrev PassesOn : List (List ℕ) → List Part → Part → Type 0
PassesOn memory parts part =
    (from : Part) × Contains parts from × ((page : ℕ) → (to : ℕ) × Passes entry_format (slice_get memory) from.table (from.steps_to to) part.table (part.steps_to page))

-- one of these leads to the frame, for reads
abbrev pub IsLedTo : List (List ℕ) → List Part → ℕ → Type 0
IsLedTo memory parts frame =
    (part : Part) × (leaf : Mapping) × Contains parts part × LeadsToMapping formats (slice_get memory) part.table part.steps_to leaf
    × (leaf.frame ≡ frame) × (allows leaf.rights Read ≡ true)

-- what remains, if it goes on, has parts that each do, and a guest's entry to which one of those before led
abbrev GoesOn : List (List ℕ) → ℕ → AccessKind → List Part → Rest → Type 0
GoesOn memory frames kind parts rest =
    (address : ℕ) (next : Option ℕ → Rest) → rest ≡ ReadsEntry address next
    → (on : List Part) × (entries : List ℕ) × IsWalkOf frames kind rest on entries × ((part : Part) → Contains on part → PassesOn memory parts part)
    × ((frame : ℕ) → Contains entries frame → IsLedTo memory parts frame)

-- one that has ended doesn't
no_end_on : (memory : List (List ℕ)) (frames : ℕ) (kind : AccessKind) (parts : List Part) (answer : Result Walked WalkFault) → GoesOn memory frames kind parts (Ends answer)
no_end_on memory frames kind parts answer address next is = let no : ⊥ = cc in absurd no

-- where it stands at no guest's entry
no_entry : (memory : List (List ℕ)) (parts : List Part) (frame : ℕ) → Contains [] frame → IsLedTo memory parts frame
no_entry memory parts frame none = absurd (in_none frame none)

-- what is found in one stage
abbrev pub found_alone : ℕ → Rights → ℕ → Walked
found_alone frame rights level = record { frame = frame; rights = rights; level = level; guest_frames = replicate 4 None }

-- from the second stage's root a walk passes on along the indices of any address,
along_from_root : (memory : List (List ℕ)) (w : InBoth) (address : ℕ) (parts : List Part) → Contains parts (part_from_root w)
    → PassesOn memory parts (part_along w.second (second_path w.levels' address))
along_from_root memory w address parts among =
    (part_from_root w, among, λ page. (address / 4096, passes_here entry_format (slice_get memory) w.second (map step_at (second_path w.levels' address))))

-- and stays there, for any page
root_stays : (memory : List (List ℕ)) (w : InBoth) (parts : List Part) → Contains parts (part_from_root w) → PassesOn memory parts (part_from_root w)
root_stays memory w parts among = (part_from_root w, among, λ page. (page, passes_here entry_format (slice_get memory) w.second ((part_from_root w).steps_to page)))

-- the table in hand names the next
along_passes : (memory : List (List ℕ)) (table : ℕ) (left : List ℕ) (others : List Part) (next : ℕ) (below : List ℕ)
    → Passes entry_format (slice_get memory) table (map step_at left) next (map step_at below) → PassesOn memory (part_along table left ∷ others) (part_along next below)
along_passes memory table left others next below passes = (part_along table left, contains_head (part_along table left) others, λ page. (0, passes))

-- a leaf that allows reads leads to a guest's entry in its frame
entry_is_led_to : (memory : List (List ℕ)) (table : ℕ) (left : List ℕ) (others : List Part) (leaf : Mapping)
    → LeadsTo entry_format (slice_get memory) table (map step_at left) leaf → allows leaf.rights Read ≡ true
    → (frame : ℕ) → Contains (leaf.frame ∷ []) frame → IsLedTo memory (part_along table left ∷ others) frame
entry_is_led_to memory table left others leaf leads allowed frame within = elim (cons_cases leaf.frame [] frame within) [
  | inl same ↦ (part_along table left, leaf, contains_head (part_along table left) others, (0, leads), same, allowed)
  | inr none ↦ absurd (in_none frame none)
]

module _ (memory : List (List ℕ)) (frames : ℕ) (kind : AccessKind) where
  -- in a first stage alone
  first_goes_on : (table : ℕ) (left : List ℕ) → GoesOn memory frames kind (part_along table left ∷ []) (after_load memory (first_rest frames kind table left))
  first_goes_on table left =
      let parts = part_along table left ∷ [] in
      stage_after (GoesOn memory frames kind parts) memory (λ e. no_end_on memory frames kind parts (Err e))
      frames kind (page_fault_of kind) (access_fault_of kind) (λ frame rights level. Ends (Ok (found_alone frame rights level))) (plain (access_fault_of kind)) plain table left
      (λ next below passes address rest is. (
        part_along next below ∷ [],
        [],
        InFirstStage next below refl refl refl,
        each_of_one (PassesOn memory parts) (part_along next below) (along_passes memory table left [] next below passes),
        no_entry memory parts,
      ))
      (λ leaf level leads allowed. no_end_on memory frames kind parts (Ok (found_alone leaf.frame leaf.rights level)))

  -- in a second alone
  second_goes_on : (own table : ℕ) (left : List ℕ) → GoesOn memory frames kind (part_along table left ∷ []) (after_load memory (second_rest frames kind own table left))
  second_goes_on own table left =
      let parts = part_along table left ∷ [] in
      stage_after (GoesOn memory frames kind parts) memory (λ e. no_end_on memory frames kind parts (Err e))
      frames kind (guest_page_fault_of kind) (access_fault_of kind) (λ frame rights level. Ends (Ok (found_alone frame rights level)))
      (reported (access_fault_of kind) own false) (λ cause. reported cause own false) table left
      (λ next below passes address rest is. (
        part_along next below ∷ [],
        [],
        InSecondStage own next below refl refl refl,
        each_of_one (PassesOn memory parts) (part_along next below) (along_passes memory table left [] next below passes),
        no_entry memory parts,
      ))
      (λ leaf level leads allowed. no_end_on memory frames kind parts (Ok (found_alone leaf.frame leaf.rights level)))

  -- on the way to a guest's entry
  entry_goes_on : (w : InBoth) (loaded : List ℕ) (guest i : ℕ) (below : List ℕ) (table : ℕ) (left : List ℕ) → w.kind ≡ kind
      → GoesOn memory frames kind (part_along table left ∷ part_from_root w ∷ [])
      (after_load memory (lead_rest w.frames Read w.kind (λ frame rights level. guest_load w loaded guest i below (λ next. guest_down w (loaded ++ frame ∷ []) next below) frame) (unread w guest i) table left))
  entry_goes_on w loaded guest i below table left same =
      let parts = part_along table left ∷ part_from_root w ∷ [] in
      let among = contains_tail (part_along table left) (part_from_root w ∷ []) (part_from_root w) (contains_head (part_from_root w) []) in
      stage_after (GoesOn memory frames kind parts) memory (λ e. no_end_on memory frames kind parts (Err e))
      w.frames Read (guest_page_fault_of w.kind) (access_fault_of w.kind)
      (λ frame rights level. guest_load w loaded guest i below (λ next. guest_down w (loaded ++ frame ∷ []) next below) frame)
      (reported (access_fault_of w.kind) (entry_address (slot guest i)) true) (λ cause. reported cause (entry_address (slot guest i)) true) table left
      (λ next lower passes address rest is. (
        part_along next lower ∷ part_from_root w ∷ [],
        [],
        ToGuestEntry w loaded guest i below next lower same refl refl refl,
        each_of_two (PassesOn memory parts) (part_along next lower) (part_from_root w)
            (along_passes memory table left (part_from_root w ∷ []) next lower passes) (root_stays memory w parts among),
        no_entry memory parts,
      ))
      (λ leaf level leads allowed address rest is. (
        part_from_root w ∷ [],
        leaf.frame ∷ [],
        InGuestTable w loaded guest i below leaf.frame same refl refl refl,
        each_of_one (PassesOn memory parts) (part_from_root w) (root_stays memory w parts among),
        entry_is_led_to memory table left (part_from_root w ∷ []) leaf leads allowed,
      ))

  -- at that entry
  guest_goes_on : (w : InBoth) (loaded : List ℕ) (guest i : ℕ) (below : List ℕ) (frame : ℕ) → w.kind ≡ kind
      → GoesOn memory frames kind (part_from_root w ∷ []) (after_load memory (guest_load w loaded guest i below (λ next. guest_down w (loaded ++ frame ∷ []) next below) frame))
  guest_goes_on w loaded guest i below frame same =
      let parts = part_from_root w ∷ [] in
      let among = contains_head (part_from_root w) [] in
      let errs = λ (e : WalkFault). no_end_on memory frames kind parts (Err e) in
      guest_after (GoesOn memory frames kind parts) memory errs w loaded guest i below frame
      (λ loaded' table is. guest_begins (GoesOn memory frames kind parts) memory errs w loaded' table is
      (λ j lower address rest is. (
        part_along w.second (second_path w.levels' (entry_address (slot table j))) ∷ part_from_root w ∷ [],
        [],
        ToGuestEntry w loaded' table j lower w.second (second_path w.levels' (entry_address (slot table j))) same refl refl refl,
        each_of_two (PassesOn memory parts) (part_along w.second (second_path w.levels' (entry_address (slot table j)))) (part_from_root w)
            (along_from_root memory w (entry_address (slot table j)) parts among) (root_stays memory w parts among),
        no_entry memory parts,
      )))
      (λ loaded' page given level.
      lead_begins (GoesOn memory frames kind parts) memory errs w.frames w.levels' w.second w.kind w.kind (reached w loaded' given level)
      (λ cause. reported cause (guest_address page w.address) false) (guest_address page w.address)
      (λ address rest is. (
        part_along w.second (second_path w.levels' (guest_address page w.address)) ∷ [],
        [],
        ToGuestPage w loaded' page given level w.second (second_path w.levels' (guest_address page w.address)) same refl refl refl,
        each_of_one (PassesOn memory parts) (part_along w.second (second_path w.levels' (guest_address page w.address)))
            (along_from_root memory w (guest_address page w.address) parts among),
        no_entry memory parts,
      )))

  -- on the way to the page
  page_goes_on : (w : InBoth) (loaded : List ℕ) (page : ℕ) (given : Rights) (level table : ℕ) (left : List ℕ) → w.kind ≡ kind
      → GoesOn memory frames kind (part_along table left ∷ []) (after_load memory (lead_rest w.frames w.kind w.kind (reached w loaded given level) (unreached w page) table left))
  page_goes_on w loaded page given level table left same =
      let parts = part_along table left ∷ [] in
      stage_after (GoesOn memory frames kind parts) memory (λ e. no_end_on memory frames kind parts (Err e))
      w.frames w.kind (guest_page_fault_of w.kind) (access_fault_of w.kind) (reached w loaded given level)
      (reported (access_fault_of w.kind) (guest_address page w.address) false) (λ cause. reported cause (guest_address page w.address) false) table left
      (λ next lower passes address rest is. (
        part_along next lower ∷ [],
        [],
        ToGuestPage w loaded page given level next lower same refl refl refl,
        each_of_one (PassesOn memory parts) (part_along next lower) (along_passes memory table left [] next lower passes),
        no_entry memory parts,
      ))
      (λ leaf level' leads allowed address rest is. let no : ⊥ = cc in absurd no)

  -- whichever walk it is
  walk_goes_on : (rest : Rest) (parts : List Part) (entries : List ℕ) → IsWalkOf frames kind rest parts entries
      → GoesOn memory frames kind parts (after_load memory rest)
  walk_goes_on rest parts entries (InFirstStage table left is are none) =
      in_place (λ r ps. GoesOn memory frames kind ps (after_load memory r)) is are (first_goes_on table left)
  walk_goes_on rest parts entries (InSecondStage own table left is are none) =
      in_place (λ r ps. GoesOn memory frames kind ps (after_load memory r)) is are (second_goes_on own table left)
  walk_goes_on rest parts entries (ToGuestEntry w loaded guest i below table left same is are none) =
      in_place (λ r ps. GoesOn memory frames kind ps (after_load memory r)) is are (entry_goes_on w loaded guest i below table left same)
  walk_goes_on rest parts entries (InGuestTable w loaded guest i below frame same is are there) =
      in_place (λ r ps. GoesOn memory frames kind ps (after_load memory r)) is are (guest_goes_on w loaded guest i below frame same)
  walk_goes_on rest parts entries (ToGuestPage w loaded page given level table left same is are none) =
      in_place (λ r ps. GoesOn memory frames kind ps (after_load memory r)) is are (page_goes_on w loaded page given level table left same)

-- one load of a walk that goes on: each of its parts passes on from one of the parts before, and to a guest's entry one of those led
pub table_goes_on : (memory : List (List ℕ)) (frames : ℕ) (kind : AccessKind) (rest : Rest) (parts : List Part) (entries : List ℕ) (address : ℕ)
    (next : Option ℕ → Rest) → IsWalkOf frames kind rest parts entries → after_load memory rest ≡ ReadsEntry address next
    → (on : List Part) × (entries_then : List ℕ) × IsWalkOf frames kind (after_load memory rest) on entries_then
    × ((part : Part) → Contains on part → (from : Part) × Contains parts from
    × ((page : ℕ) → (to : ℕ) × Passes entry_format (slice_get memory) from.table (from.steps_to to) part.table (part.steps_to page)))
    × ((frame : ℕ) → Contains entries_then frame → IsLedTo memory parts frame)
table_goes_on memory frames kind rest parts entries address next walk is = walk_goes_on memory frames kind rest parts entries walk address next is

-- A WALK THAT ENDS

-- what remains, if it has reached a page, led to it from one of these parts
abbrev LedThere : List (List ℕ) → AccessKind → List Part → Rest → Type 0
LedThere memory kind parts rest =
    (walked : Walked) → rest ≡ Ends (Ok walked)
    → (part : Part) × (leaf : Mapping) × Contains parts part × LeadsToMapping formats (slice_get memory) part.table part.steps_to leaf × (walked.frame ≡ leaf.frame)
    × ((k : AccessKind) → allows walked.rights k ≡ true → allows leaf.rights k ≡ true) × (allows leaf.rights kind ≡ true)

-- a fault has reached none
no_fault_there : (memory : List (List ℕ)) (kind : AccessKind) (parts : List Part) (e : WalkFault) → LedThere memory kind parts (Ends (Err e))
no_fault_there memory kind parts e walked is = let no : ⊥ = cc in absurd no

-- a walk that goes on in a table hasn't
no_table_there : (memory : List (List ℕ)) (own : AccessKind) (parts : List Part) (kind : AccessKind) (page access : Cause) (found : ℕ → Rights → ℕ → Rest) (fault : Cause → WalkFault) (table : ℕ) (left : List ℕ)
    → LedThere memory own parts (down kind page access found (λ cause. Ends (Err (fault cause))) table left)
no_table_there memory own parts kind page access found fault table [] walked is = let no : ⊥ = cc in absurd no
no_table_there memory own parts kind page access found fault table (j ∷ below) walked is = let no : ⊥ = cc in absurd no

-- what both stages allow the second does
second_allows : (given rights : Rights) (k : AccessKind) (own : AccessKind) → allows rights own ≡ true → allows (rights_of_both given rights) k ≡ true → allows rights k ≡ true
second_allows given rights Read own allowed both = allows-Read rights own allowed
second_allows given rights Write own allowed both = by (allows given Write) (allows rights Write) refl both
  where
    by : (x y : Bool) → allows rights Write ≡ y → allows (if x && y then rw else r) Write ≡ true → y ≡ true
    by true true is e = refl
    by true false is e = let no : ⊥ = cc in absurd no
    by false y is e = let no : ⊥ = cc in absurd no

module _ (memory : List (List ℕ)) (frames : ℕ) (kind : AccessKind) where
  -- the walk ends with this leaf
  leaf_there : (table : ℕ) (left : List ℕ) (others : List Part) (leaf : Mapping) (own : Walked)
      → LeadsTo entry_format (slice_get memory) table (map step_at left) leaf → allows leaf.rights kind ≡ true
      → own.frame ≡ leaf.frame → ((k : AccessKind) → allows own.rights k ≡ true → allows leaf.rights k ≡ true)
      → LedThere memory kind (part_along table left ∷ others) (Ends (Ok own))
  leaf_there table left others leaf own leads allowed there less walked is =
      let same : own ≡ walked = cc in (
        part_along table left,
        leaf,
        contains_head (part_along table left) others,
        (0, leads),
        ap (λ (w : Walked). w.frame) (sym same) ∙ there,
        (λ k allows_k. less k (ap (λ (w : Walked). allows w.rights k) same ∙ allows_k)),
        allowed,
      )

  -- in a first stage alone
  first_there : (table : ℕ) (left : List ℕ) → LedThere memory kind (part_along table left ∷ []) (after_load memory (first_rest frames kind table left))
  first_there table left =
      let parts = part_along table left ∷ [] in
      stage_after (LedThere memory kind parts) memory (no_fault_there memory kind parts)
      frames kind (page_fault_of kind) (access_fault_of kind) (λ frame rights level. Ends (Ok (found_alone frame rights level))) (plain (access_fault_of kind)) plain table left
      (λ next below passes. no_table_there memory kind parts kind (page_fault_of kind) (access_fault_of kind)
      (inside frames (λ frame rights level. Ends (Ok (found_alone frame rights level))) (Ends (Err (plain (access_fault_of kind))))) plain next below)
      (λ leaf level leads allowed. leaf_there table left [] leaf (found_alone leaf.frame leaf.rights level) leads allowed refl (λ k both. both))

  -- in a second alone
  second_there : (own table : ℕ) (left : List ℕ) → LedThere memory kind (part_along table left ∷ []) (after_load memory (second_rest frames kind own table left))
  second_there own table left =
      let parts = part_along table left ∷ [] in
      let found = λ (frame : ℕ) (rights : Rights) (level : ℕ). Ends (Ok (found_alone frame rights level)) in
      stage_after (LedThere memory kind parts) memory (no_fault_there memory kind parts)
      frames kind (guest_page_fault_of kind) (access_fault_of kind) found (reported (access_fault_of kind) own false) (λ cause. reported cause own false) table left
      (λ next below passes. no_table_there memory kind parts kind (guest_page_fault_of kind) (access_fault_of kind)
      (inside frames found (Ends (Err (reported (access_fault_of kind) own false)))) (λ cause. reported cause own false) next below)
      (λ leaf level leads allowed. leaf_there table left [] leaf (found_alone leaf.frame leaf.rights level) leads allowed refl (λ k both. both))

  -- on the way to a guest's entry it doesn't end so,
  entry_there_not : (w : InBoth) (loaded : List ℕ) (guest i : ℕ) (below : List ℕ) (parts : List Part) (table : ℕ) (left : List ℕ)
      → LedThere memory kind parts
      (after_load memory (lead_rest w.frames Read w.kind (λ frame rights level. guest_load w loaded guest i below (λ next. guest_down w (loaded ++ frame ∷ []) next below) frame) (unread w guest i) table left))
  entry_there_not w loaded guest i below parts table left =
      let found = λ (frame : ℕ) (rights : Rights) (level : ℕ). guest_load w loaded guest i below (λ next. guest_down w (loaded ++ frame ∷ []) next below) frame in
      let fault = λ (cause : Cause). reported cause (entry_address (slot guest i)) true in
      stage_after (LedThere memory kind parts) memory (no_fault_there memory kind parts)
      w.frames Read (guest_page_fault_of w.kind) (access_fault_of w.kind) found (fault (access_fault_of w.kind)) fault table left
      (λ next lower passes. no_table_there memory kind parts Read (guest_page_fault_of w.kind) (access_fault_of w.kind)
      (inside w.frames found (Ends (Err (fault (access_fault_of w.kind))))) fault next lower)
      (λ leaf level leads allowed walked is. let no : ⊥ = cc in absurd no)

  -- nor there
  guest_there_not : (w : InBoth) (loaded : List ℕ) (guest i : ℕ) (below : List ℕ) (parts : List Part) (frame : ℕ)
      → LedThere memory kind parts (after_load memory (guest_load w loaded guest i below (λ next. guest_down w (loaded ++ frame ∷ []) next below) frame))
  guest_there_not w loaded guest i below parts frame =
      let errs = no_fault_there memory kind parts in
      guest_after (LedThere memory kind parts) memory errs w loaded guest i below frame
      (λ loaded' table is. guest_begins (LedThere memory kind parts) memory errs w loaded' table is
      (λ j lower. no_table_there memory kind parts Read (guest_page_fault_of w.kind) (access_fault_of w.kind)
      (inside w.frames (λ f rights level. guest_load w loaded' table j lower (λ next. guest_down w (loaded' ++ f ∷ []) next lower) f) (unread w table j (access_fault_of w.kind)))
      (λ cause. reported cause (entry_address (slot table j)) true) w.second (second_path w.levels' (entry_address (slot table j)))))
      (λ loaded' page given level.
      lead_begins (LedThere memory kind parts) memory errs w.frames w.levels' w.second w.kind w.kind (reached w loaded' given level)
      (λ cause. reported cause (guest_address page w.address) false) (guest_address page w.address)
      (no_table_there memory kind parts w.kind (guest_page_fault_of w.kind) (access_fault_of w.kind)
      (inside w.frames (reached w loaded' given level) (unreached w page (access_fault_of w.kind)))
      (λ cause. reported cause (guest_address page w.address) false) w.second (second_path w.levels' (guest_address page w.address))))

  -- on the way to the page the second stage's leaf allows what both do
  page_there : (w : InBoth) (loaded : List ℕ) (page : ℕ) (given : Rights) (level table : ℕ) (left : List ℕ) → w.kind ≡ kind
      → LedThere memory kind (part_along table left ∷ []) (after_load memory (lead_rest w.frames w.kind w.kind (reached w loaded given level) (unreached w page) table left))
  page_there w loaded page given level table left same =
      let parts = part_along table left ∷ [] in
      let fault = λ (cause : Cause). reported cause (guest_address page w.address) false in
      stage_after (LedThere memory kind parts) memory (no_fault_there memory kind parts)
      w.frames w.kind (guest_page_fault_of w.kind) (access_fault_of w.kind) (reached w loaded given level) (fault (access_fault_of w.kind)) fault table left
      (λ next lower passes. no_table_there memory kind parts w.kind (guest_page_fault_of w.kind) (access_fault_of w.kind)
      (inside w.frames (reached w loaded given level) (Ends (Err (fault (access_fault_of w.kind))))) fault next lower)
      (λ leaf level' leads allowed. leaf_there table left [] leaf
      (record { frame = leaf.frame; rights = rights_of_both given leaf.rights; level = level; guest_frames = padded 4 loaded })
      leads (subst (λ k. allows leaf.rights k ≡ true) same allowed) refl (λ k both. second_allows given leaf.rights k w.kind allowed both))

  -- whichever walk it is
  walk_there : (rest : Rest) (parts : List Part) (entries : List ℕ) → IsWalkOf frames kind rest parts entries
      → LedThere memory kind parts (after_load memory rest)
  walk_there rest parts entries (InFirstStage table left is are none) =
      in_place (λ r ps. LedThere memory kind ps (after_load memory r)) is are (first_there table left)
  walk_there rest parts entries (InSecondStage own table left is are none) =
      in_place (λ r ps. LedThere memory kind ps (after_load memory r)) is are (second_there own table left)
  walk_there rest parts entries (ToGuestEntry w loaded guest i below table left same is are none) =
      in_place (λ r ps. LedThere memory kind ps (after_load memory r)) is are (entry_there_not w loaded guest i below (part_along table left ∷ part_from_root w ∷ []) table left)
  walk_there rest parts entries (InGuestTable w loaded guest i below frame same is are there) =
      in_place (λ r ps. LedThere memory kind ps (after_load memory r)) is are (guest_there_not w loaded guest i below (part_from_root w ∷ []) frame)
  walk_there rest parts entries (ToGuestPage w loaded page given level table left same is are none) =
      in_place (λ r ps. LedThere memory kind ps (after_load memory r)) is are (page_there w loaded page given level table left same)

-- one that ends at a page: one of its parts leads to the leaf
pub table_ends : (memory : List (List ℕ)) (frames : ℕ) (kind : AccessKind) (rest : Rest) (parts : List Part) (entries : List ℕ) (walked : Walked)
    → IsWalkOf frames kind rest parts entries → after_load memory rest ≡ Ends (Ok walked)
    → (part : Part) × (leaf : Mapping) × Contains parts part × LeadsToMapping formats (slice_get memory) part.table part.steps_to leaf × (walked.frame ≡ leaf.frame)
    × ((k : AccessKind) → allows walked.rights k ≡ true → allows leaf.rights k ≡ true) × (allows leaf.rights kind ≡ true)
table_ends memory frames kind rest parts entries walked walk is = walk_there memory frames kind rest parts entries walk walked is

-- A WALK THAT BEGINS

-- what remains, if it needs a load, has parts that each pass on from the root of the tables that decide, and stands at no guest's entry
abbrev Begins : List (List ℕ) → ℕ → AccessKind → ReachStages → AddressSpace → Rest → Type 0
Begins memory frames kind within named rest =
    (first : ℕ) (next : Option ℕ → Rest) → rest ≡ ReadsEntry first next
    → (parts : List Part) × (tables : Tables) × IsWalkOf frames kind rest parts [] × (space_of within ≡ Some named) × (tables_of within ≡ Some tables)
    × ((part : Part) → Contains parts part → (page : ℕ) → (to : ℕ) × Passes entry_format (slice_get memory) tables.root (steps_in within to) part.table (part.steps_to page))

-- a fault needs none
no_end_begins : (memory : List (List ℕ)) (frames : ℕ) (kind : AccessKind) (within : ReachStages) (named : AddressSpace) (e : WalkFault) → Begins memory frames kind within named (Ends (Err e))
no_end_begins memory frames kind within named e first next is = let no : ⊥ = cc in absurd no

module _ (memory : List (List ℕ)) (frames : ℕ) (address : ℕ) (kind : AccessKind) where
  -- a first stage's
  first_begins : (pscid levels root : ℕ) → Begins memory frames kind (FirstStage pscid (record { root = root; levels = levels })) (InFirst pscid) (first_walk frames levels root address kind)
  first_begins pscid levels root = by (is_canonical levels address)
    where
      within : ReachStages
      within = FirstStage pscid (record { root = root; levels = levels })

      begins : Begins memory frames kind within (InFirst pscid) (first_rest frames kind root (first_path levels address))
      begins first next is = (
        part_along root (first_path levels address) ∷ [],
        record { root = root; levels = levels },
        InFirstStage root (first_path levels address) refl refl refl,
        refl,
        refl,
        each_of_one (λ part. (page : ℕ) → (to : ℕ) × Passes entry_format (slice_get memory) root (steps_in within to) part.table (part.steps_to page))
            (part_along root (first_path levels address)) (λ page. (address / 4096, passes_here entry_format (slice_get memory) root (map step_at (first_path levels address)))),
      )

      by : (b : Bool) → Begins memory frames kind within (InFirst pscid) (if b then first_rest frames kind root (first_path levels address) else Ends (Err (plain (page_fault_of kind))))
      by true = begins
      by false = no_end_begins memory frames kind within (InFirst pscid) (plain (page_fault_of kind))

  -- a second's
  second_begins : (gscid levels root : ℕ) → Begins memory frames kind (SecondStage gscid (record { root = root; levels = levels })) (InSecond gscid) (second_walk frames levels root address kind)
  second_begins gscid levels root =
      let within = SecondStage gscid (record { root = root; levels = levels }) in
      lead_begins (Begins memory frames kind within (InSecond gscid)) memory (no_end_begins memory frames kind within (InSecond gscid))
      frames levels root kind kind (λ frame rights level. Ends (Ok (found_alone frame rights level))) (λ cause. reported cause address false) address
      (λ first next is. (
        part_along root (second_path levels address) ∷ [],
        record { root = root; levels = levels },
        InSecondStage address root (second_path levels address) refl refl refl,
        refl,
        refl,
        each_of_one (λ part. (page : ℕ) → (to : ℕ) × Passes entry_format (slice_get memory) root (steps_in within to) part.table (part.steps_to page))
            (part_along root (second_path levels address)) (λ page. (address / 4096, passes_here entry_format (slice_get memory) root (map step_at (second_path levels address)))),
      ))

  -- those of both, which begin at the second's
  both_begins : (gscid pscid levels levels' guest root : ℕ)
      → Begins memory frames kind (BothStages gscid pscid (record { root = guest; levels = levels }) (record { root = root; levels = levels' })) (InBothStages gscid pscid)
      (both_walk frames levels levels' guest root address kind)
  both_begins gscid pscid levels levels' guest root = by (is_canonical levels address)
    where
      within : ReachStages
      within = BothStages gscid pscid (record { root = guest; levels = levels }) (record { root = root; levels = levels' })

      w : InBoth
      w = record { frames = frames; levels' = levels'; second = root; address = address; kind = kind }

      errs : (e : WalkFault) → Begins memory frames kind within (InBothStages gscid pscid) (Ends (Err e))
      errs = no_end_begins memory frames kind within (InBothStages gscid pscid)

      FromRoot : Part → Type 0
      FromRoot part = (page : ℕ) → (to : ℕ) × Passes entry_format (slice_get memory) root (steps_in within to) part.table (part.steps_to page)

      entry : (i : ℕ) → ℕ
      entry i = entry_address (slot guest i)

      begins : (i : ℕ) (below : List ℕ) → Begins memory frames kind within (InBothStages gscid pscid)
          (lead_rest frames Read kind (λ frame rights level. guest_load w [] guest i below (λ next. guest_down w (frame ∷ []) next below) frame) (unread w guest i) root (second_path levels' (entry i)))
      begins i below first next is = (
        part_along root (second_path levels' (entry i)) ∷ part_from_root w ∷ [],
        record { root = root; levels = levels' },
        ToGuestEntry w [] guest i below root (second_path levels' (entry i)) refl refl refl refl,
        refl,
        refl,
        each_of_two FromRoot (part_along root (second_path levels' (entry i))) (part_from_root w)
            (λ page. (entry i / 4096, passes_here entry_format (slice_get memory) root (map step_at (second_path levels' (entry i)))))
            (λ page. (page, passes_here entry_format (slice_get memory) root ((part_from_root w).steps_to page))),
      )

      by : (b : Bool) → Begins memory frames kind within (InBothStages gscid pscid) (if b then guest_down w [] guest (first_path levels address) else Ends (Err (plain (page_fault_of kind))))
      by true = guest_begins (Begins memory frames kind within (InBothStages gscid pscid)) memory errs w [] guest (first_path levels address) begins
      by false = errs (plain (page_fault_of kind))

  -- those of a context
  stages_begin : (context : DeviceContext) (one : FirstPart) (two : SecondPart) (stages : Stages) → stages_of one two ≡ Some stages
      → Begins memory frames kind (stages_in one two context.gscid context.pscid.number) (address_space (named_space context stages)) (walk_of frames stages address kind)
  stages_begin context first.Bare second.Bare stages is = let no : ⊥ = cc in absurd no
  stages_begin context (first.Tables size root) second.Bare stages is =
      let same : First size root ≡ stages = cc in
      subst (λ s. Begins memory frames kind (FirstStage context.pscid.number (record { root = root.number; levels = levels_of size })) (address_space (named_space context s)) (walk_of frames s address kind))
      same (first_begins context.pscid.number (levels_of size) root.number)
  stages_begin context first.Bare (second.Tables size root) stages is =
      let same : Second size (page_of root) ≡ stages = cc in
      subst (λ s. Begins memory frames kind (SecondStage context.gscid (record { root = root.number; levels = levels_of size })) (address_space (named_space context s)) (walk_of frames s address kind))
      same (second_begins context.gscid (levels_of size) root.number)
  stages_begin context (first.Tables size guest) (second.Tables size' root) stages is =
      let same : Both size guest size' (page_of root) ≡ stages = cc in
      subst (λ s. Begins memory frames kind (stages_in (first.Tables size guest) (second.Tables size' root) context.gscid context.pscid.number) (address_space (named_space context s)) (walk_of frames s address kind))
      same (both_begins context.gscid context.pscid.number (levels_of size) (levels_of size') guest.number root.number)

-- a walk of the tables of a context begins at their root
pub tables_begin : (memory : List (List ℕ)) (frames : ℕ) (context : DeviceContext) (stages : Stages) (address : ℕ) (kind : AccessKind) (first : ℕ) (next : Option ℕ → Rest)
    → stages_of context.first_stage context.second_stage ≡ Some stages → walk_of frames stages address kind ≡ ReadsEntry first next
    → (parts : List Part) × (tables : Tables) × IsWalkOf frames kind (walk_of frames stages address kind) parts []
    × (space_of (context_of context).stages ≡ Some (address_space (named_space context stages)))
    × (tables_of (context_of context).stages ≡ Some tables)
    × ((part : Part) → Contains parts part → (page : ℕ) → (to : ℕ)
    × Passes entry_format (slice_get memory) tables.root (steps_in (context_of context).stages to) part.table (part.steps_to page))
tables_begin memory frames context stages address kind first next asked is =
    stages_begin memory frames address kind context context.first_stage context.second_stage stages asked first next is
