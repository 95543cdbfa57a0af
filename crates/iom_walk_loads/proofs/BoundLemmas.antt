-- How many loads a walk makes at most.
use Rattle.std.proofs.Common.{◌≡◌, ℕ, zero, suc, ◌+◌, ◌*◌, ◌≤◌, ◌/◌, ◌^◌, None, Bool, true, false, nat_lt, List, [], ◌∷◌, ◌++◌, length, replicate, Result, Ok, Err, if◌then◌else◌, refl, ap, ◌∙◌, arith}
use Rattle.std.proofs.Math.Nat.{suc-mul}
use Rattle.std.proofs.lemmas.List.{length-replicate}
use Rattle.iom_base.specs.Causes.{page_fault_of, guest_page_fault_of}
use Rattle.iom_base.specs.Tables.{access_fault_of}
use Rattle.iom_base.specs.declared.access.AccessKind.{AccessKind}
use Rattle.iom_base.specs.declared.access.AccessKind.TheVariants.{Read}
use Rattle.iom_base.specs.declared.cause.Cause.{Cause}
use Rattle.iom_base.specs.declared.rights.Rights.{Rights}
use Rattle.iom_device_dir.specs.declared.entry.NonLeafEntry.{NonLeafEntry}
use Rattle.iom_device_dir.specs.Located.{loaded_entry}
use Rattle.iom_device_dir.specs.Paths.{ids_below}
use Rattle.iom_base.specs.declared.cause.Cause.TheVariants.{TransactionTypeDisallowed}
use Rattle.iom_registers.specs.declared.directory.DirectoryMode.{DirectoryMode}
use Rattle.iom_registers.specs.declared.directory.DirectoryMode.TheVariants.{Off, Bare, OneLevel, TwoLevels, ThreeLevels}
use Rattle.iom_stage_walk.specs.Entries.{entry_read, slot}
use Rattle.iom_stage_walk.specs.Paths.{first_path, first_widths, page_in, path_of}
use Rattle.iom_stage_walk.specs.Second.{reported, second_path, second_widths}
use Rattle.iom_stage_walk.specs.Both.{entry_address, guest_address, plain}
use Rattle.iom_stage_walk.specs.declared.entry.Entry.{Entry}
use Rattle.iom_stage_walk.specs.declared.entry.Entry.TheVariants.{Invalid, Leaf, Outside, Pointer}
use Rattle.iom_stage_walk.specs.declared.walked.Walked.{Walked}
use Rattle.iom_stage_walk.specs.declared.walked.WalkFault.{WalkFault}
use Rattle.iom_walk_loads.specs.Directory.{after_entry, directory_walk, locating_by, locating_from}
use Rattle.iom_walk_loads.specs.Laws.{LocatingEnds, WalksEnd}
use Rattle.iom_walk_loads.specs.Loads.{Ends, EndsWithin, Walk}
use Rattle.iom_walk_loads.specs.Tables.{InBoth, at_entry, at_guest_entry, down, faulted, guest_down, guest_load, inside, is_canonical, is_lawful, lead, page_walk, reached, second_walk, unreached, unread}
use Rattle.iom_walk_loads.proofs.LoadLemmas.{within_le}
use Rattle.iom_walk_loads.proofs.PathLemmas.{first_length, second_length}

down_within : {A : Type 0} (kind : AccessKind) (page access : Cause) (found : ℕ → Rights → ℕ → Walk A) (stopped : Cause → Walk A) (n : ℕ) → ((f : ℕ) (r : Rights) (l : ℕ) → EndsWithin n (found f r l)) → ((c : Cause) → EndsWithin n (stopped c))
    → (m table : ℕ) (is : List ℕ) → length is + n ≤ m → EndsWithin m (down kind page access found stopped table is)
down_within kind page access found stopped n ok err m table [] le = within_le n m (stopped page) (omega (arith, le)) (err page)
down_within kind page access found stopped n ok err zero table (i ∷ below) le = absurd (omega (arith, le))
down_within kind page access found stopped n ok err (suc m) table (i ∷ below) le = λ given. by (entry_read given) (λ next. down_within kind page access found stopped n ok err m next below (omega (arith, le)))
  where
    low : n ≤ m
    low = omega (arith, le)

    leaf : (base : ℕ) (rights : Rights) (b : Bool) → EndsWithin m (if b then found (base + page_in below) rights (length below) else stopped page)
    leaf base rights true = within_le n m (found (base + page_in below) rights (length below)) low (ok (base + page_in below) rights (length below))
    leaf base rights false = within_le n m (stopped page) low (err page)

    by : (x : Entry) → ((next : ℕ) → EndsWithin m (down kind page access found stopped next below))
        → EndsWithin m (at_entry kind page access found stopped below (λ next. down kind page access found stopped next below) x)
    by Outside follow = within_le n m (stopped access) low (err access)
    by Invalid follow = within_le n m (stopped page) low (err page)
    by (Pointer next) follow = follow next
    by (Leaf base rights) follow = leaf base rights (is_lawful kind base rights below)

inside_within : {A : Type 0} (frames n : ℕ) (found : ℕ → Rights → ℕ → Walk A) (outside : Walk A) → ((f : ℕ) (r : Rights) (l : ℕ) → EndsWithin n (found f r l)) → EndsWithin n outside
    → (f : ℕ) (r : Rights) (l : ℕ) → EndsWithin n (inside frames found outside f r l)
inside_within frames n found outside ok err f r l = by (nat_lt f frames)
  where
    by : (b : Bool) → EndsWithin n (if b then found f r l else outside)
    by true = ok f r l
    by false = err

lead_within : {A : Type 0} (frames levels root : ℕ) (kind original : AccessKind) (found : ℕ → Rights → ℕ → Walk A) (stopped : Cause → Walk A) (n : ℕ) → ((f : ℕ) (r : Rights) (l : ℕ) → EndsWithin n (found f r l)) → ((c : Cause) → EndsWithin n (stopped c))
    → (m address : ℕ) → levels + n ≤ m → EndsWithin m (lead frames levels root kind original found stopped address)
lead_within frames levels root kind original found stopped n ok err m address le = by (nat_lt address (2 ^ (9 * levels + 14)))
  where
    access : Cause
    access = access_fault_of original

    page : Cause
    page = guest_page_fault_of original

    by : (b : Bool) → EndsWithin m (if b then down kind page access (inside frames found (stopped access)) stopped root (second_path levels address) else stopped page)
    by true =
        let long = second_length levels address in
        down_within kind page access (inside frames found (stopped access)) stopped n (inside_within frames n found (stopped access) ok (err access)) err m root (second_path levels address) (omega (arith, le, long))
    by false = within_le n m (stopped page) (omega (arith, le)) (err page)

-- the loads for so many entries of a guest
abbrev guest_loads : ℕ → List ℕ → ℕ
guest_loads levels [] = 0
guest_loads levels (i ∷ is) = levels + 1 + guest_loads levels is

guest_loads_are : (levels : ℕ) (is : List ℕ) → guest_loads levels is ≡ length is * (levels + 1)
guest_loads_are levels [] = omega arith
guest_loads_are levels (i ∷ is) =
    let rest = guest_loads_are levels is in
    let more = suc-mul (length is) (levels + 1) in
    omega (arith, rest, more)

page_within : (w : InBoth) (loaded : List ℕ) (page : ℕ) (given : Rights) (level : ℕ) → EndsWithin w.levels' (page_walk w loaded page given level)
page_within w loaded page given level =
    lead_within w.frames w.levels' w.second w.kind w.kind (reached w loaded given level) (unreached w page) 0 (λ f r l. tt) (λ c. tt) w.levels' (guest_address page w.address) (omega arith)

guest_within : (w : InBoth) (so_far : List ℕ) (m table : ℕ) (is : List ℕ) → guest_loads w.levels' is + w.levels' ≤ m → EndsWithin m (guest_down w so_far table is)
guest_within w so_far m table [] le = tt
guest_within w so_far m table (i ∷ below) le =
    lead_within w.frames w.levels' w.second Read w.kind
    (λ frame rights level. guest_load w so_far table i below (λ next. guest_down w (so_far ++ frame ∷ []) next below) frame)
    (unread w table i) (suc (guest_loads w.levels' below + w.levels'))
    (λ frame rights level given. by frame (entry_read given) (λ next. guest_within w (so_far ++ frame ∷ []) (guest_loads w.levels' below + w.levels') next below (omega arith)))
    (λ cause. tt) m (entry_address (slot table i)) (omega (arith, le))
  where
    leaf : (frame base : ℕ) (rights : Rights) (b : Bool) → EndsWithin (guest_loads w.levels' below + w.levels') (if b then page_walk w (so_far ++ frame ∷ []) (base + page_in below) rights (length below) else faulted w)
    leaf frame base rights true = within_le w.levels' (guest_loads w.levels' below + w.levels') (page_walk w (so_far ++ frame ∷ []) (base + page_in below) rights (length below)) (omega arith) (page_within w (so_far ++ frame ∷ []) (base + page_in below) rights (length below))
    leaf frame base rights false = tt

    by : (frame : ℕ) (x : Entry) → ((next : ℕ) → EndsWithin (guest_loads w.levels' below + w.levels') (guest_down w (so_far ++ frame ∷ []) next below))
        → EndsWithin (guest_loads w.levels' below + w.levels') (at_guest_entry w (so_far ++ frame ∷ []) below (λ next. guest_down w (so_far ++ frame ∷ []) next below) x)
    by frame Outside follow = tt
    by frame Invalid follow = tt
    by frame (Pointer next) follow = follow next
    by frame (Leaf base rights) follow = leaf frame base rights (is_lawful w.kind base rights below)

pub walks_end : WalksEnd
walks_end frames levels levels' first second address kind = (one_stage (is_canonical levels address), second_stage, both_stages (is_canonical levels address))
  where
    found : ℕ → Rights → ℕ → Walk (Result Walked WalkFault)
    found f r l = Ends (Ok (record { frame = f; rights = r; level = l; guest_frames = replicate 4 None }))

    outside : Walk (Result Walked WalkFault)
    outside = Ends (Err (plain (access_fault_of kind)))

    stopped : Cause → Walk (Result Walked WalkFault)
    stopped cause = Ends (Err (plain cause))

    one_stage : (b : Bool) → EndsWithin levels (if b then down kind (page_fault_of kind) (access_fault_of kind) (inside frames found outside) stopped first (first_path levels address) else stopped (page_fault_of kind))
    one_stage true =
        let long = first_length levels address in
        down_within kind (page_fault_of kind) (access_fault_of kind) (inside frames found outside) stopped 0 (inside_within frames 0 found outside (λ f r l. tt) tt) (λ c. tt) levels first (first_path levels address) (omega (arith, long))
    one_stage false = tt

    second_stage : EndsWithin levels' (second_walk frames levels' second address kind)
    second_stage = lead_within frames levels' second kind kind found (λ cause. Ends (Err (reported cause address false))) 0 (λ f r l. tt) (λ c. tt) levels' address (omega arith)

    w : InBoth
    w = record { frames = frames; levels' = levels'; second = second; address = address; kind = kind }

    both_stages : (b : Bool) → EndsWithin (levels * (levels' + 1) + levels') (if b then guest_down w [] first (first_path levels address) else stopped (page_fault_of kind))
    both_stages true =
        let all = guest_loads_are levels' (first_path levels address) ∙ ap (λ k. k * (levels' + 1)) (first_length levels address) in
        guest_within w [] (levels * (levels' + 1) + levels') first (first_path levels address) (omega (arith, all))
    both_stages false = tt

directory_within : (level page id : ℕ) → EndsWithin (suc level) (directory_walk level page id)
directory_within zero page id = λ given. tt
directory_within (suc level) page id = λ given. by (loaded_entry given) (λ next. directory_within level next id)
  where
    by : (x : Result NonLeafEntry Cause) → ((next : ℕ) → EndsWithin (suc level) (directory_walk level next id)) → EndsWithin (suc level) (after_entry (λ next. directory_walk level next id) x)
    by (Ok entry) follow = follow entry.next.number
    by (Err cause) follow = tt

locating_within : (level root id : ℕ) → EndsWithin (suc level) (locating_from level root id)
locating_within level root id = by (nat_lt id (ids_below level))
  where
    by : (b : Bool) → EndsWithin (suc level) (if b then directory_walk level root id else Ends (Err TransactionTypeDisallowed))
    by true = directory_within level root id
    by false = tt

by_mode : (mode : DirectoryMode) (root id : ℕ) → EndsWithin 3 (locating_by mode root id)
by_mode Off root id = tt
by_mode Bare root id = tt
by_mode OneLevel root id = within_le 1 3 (locating_from 0 root id) (omega arith) (locating_within 0 root id)
by_mode TwoLevels root id = within_le 2 3 (locating_from 1 root id) (omega arith) (locating_within 1 root id)
by_mode ThreeLevels root id = locating_within 2 root id

pub locating_ends : LocatingEnds
locating_ends ddtp id = by_mode ddtp.mode ddtp.ppn id
