-- In both stages: how a load ends a walk.
use Rattle.std.proofs.Common.{◌≡◌, ◌≢◌, ℕ, suc, ◌+◌, ◌*◌, ◌/◌, ◌%◌, ◌^◌, ◌<◌, ◌⊎◌, inl, inr, Bool, true, false, nat_lt, List, [], ◌∷◌, ◌++◌, append_assoc, length, None, Some, Result, Ok, Err, refl, sym, ap, ◌∙◌, subst, arith, if◌then◌else◌}
use Rattle.std.proofs.lemmas.Bool.{leb-true, leb-false}
use Rattle.iom_base.specs.Causes.{guest_page_fault_of, page_fault_of}
use Rattle.iom_base.specs.Tables.{access_fault_of}
use Rattle.iom_base.specs.Rights.{allows}
use Rattle.iom_base.specs.Sizes.{levels_of}
use Rattle.iom_base.specs.declared.size.Size.{Size}
use Rattle.iom_base.specs.declared.size.Size.TheVariants.{Sv39, Sv48}
use Rattle.iom_base.specs.declared.access.AccessKind.{AccessKind}
use Rattle.iom_base.specs.declared.access.AccessKind.TheVariants.{Read}
use Rattle.iom_base.specs.declared.cause.Cause.{Cause}
use Rattle.iom_base.specs.declared.cause.Cause.TheVariants as causes
use Rattle.iom_base.specs.declared.rights.Rights.{Rights}
use Rattle.iom_page_table.specs.GuestLaws.{GuestWalkFaultsElse, GuestWalkReachesLeaf}
use Rattle.iom_page_table.specs.SecondTables.{IsGuestRoot, guest_leaf_of}
use Rattle.iom_page_table.specs.declared.leaf.PageLeaf.{PageLeaf}
use Rattle.iom_page_table.specs.Trees.{IsTableAt}
use Rattle.iom_stage_walk.proofs.OneSecond.{leads_or_faults, one_fault_leading}
use Rattle.iom_stage_walk.proofs.Loads.{entry_inside}
use Rattle.iom_stage_walk.specs.Entries.{entries, slot}
use Rattle.iom_stage_walk.specs.Paths.{Reaches, StopsAs, page_in}
use Rattle.iom_stage_walk.specs.Second.{LeadsNowhere, reported, second_path}
use Rattle.iom_stage_walk.specs.Both.{entry_address, guest_address, padded, plain, rights_of_both}
use Rattle.iom_stage_walk.specs.declared.walked.Walked.{Walked}
use Rattle.iom_stage_walk.specs.declared.walked.WalkFault.{WalkFault}
use Rattle.iom_stage_walk.specs.declared.entry.Entry.{Entry}
use Rattle.iom_stage_walk.specs.declared.entry.Entry.TheVariants.{Invalid, Leaf, Outside, Pointer}
use Rattle.iom_walk_loads.specs.Loads.{Ends, Walk, after_load}
use Rattle.iom_walk_loads.specs.Tables.{InBoth, at_guest_entry, down, faulted, guest_down, guest_load, inside, is_lawful, lead, lead_rest, page_walk, reached, unread, unreached}
use Rattle.iom_standing_walks.specs.Faults.{EndsAtPage, EndsWithPageFault, EntryFaultsNow, GuestEntryFaultsNow, HasNoLeafNow, LeafLiesIn, PageEndsNow}
use Rattle.iom_standing_walks.specs.Judged.{HasLeafNow, IsOnItsWay, through}
use Rattle.iom_standing_walks.specs.Positions.{AtEntry, ToEntry, ToPage, rest_of}
use Rattle.iom_standing_walks.proofs.JudgedLemmas.{leaf_now}
use Rattle.iom_standing_walks.proofs.PositionLemmas.{loads_are_of_now}
use Rattle.iom_standing_walks.proofs.StandingLemmas.{standing_walks_are_of_now}

cause_reported : (cause : Cause) (address : ℕ) (implicit : Bool) → (reported cause address implicit).cause ≡ cause
cause_reported causes.ReadAccessFault address implicit = refl
cause_reported causes.WriteAccessFault address implicit = refl
cause_reported causes.ReadPageFault address implicit = refl
cause_reported causes.WritePageFault address implicit = refl
cause_reported causes.ReadGuestPageFault address implicit = refl
cause_reported causes.WriteGuestPageFault address implicit = refl
cause_reported causes.AllInboundDisallowed address implicit = refl
cause_reported causes.DirectoryLoadFault address implicit = refl
cause_reported causes.DirectoryEntryNotValid address implicit = refl
cause_reported causes.DirectoryEntryMisconfigured address implicit = refl
cause_reported causes.TransactionTypeDisallowed address implicit = refl

-- where the driver's second stage leads an access nowhere, no leaf allows it, and the cause is that stage's page fault
nowhere : GuestWalkReachesLeaf → GuestWalkFaultsElse → (size : Size) (m : List (List ℕ)) (root address : ℕ) (kind original : AccessKind) (cause : Cause) → IsGuestRoot size m root
    → LeafLiesIn size m root address → LeadsNowhere (levels_of size) m root address kind original cause
    → HasNoLeafNow size m root address kind × (cause ≡ guest_page_fault_of original)
nowhere reaches_leaf faults_else size m root address kind original cause guest lies stops =
    let none : HasNoLeafNow size m root address kind = λ leaf is. denied leaf is (allows leaf.rights kind) refl in
    let page : Cause = guest_page_fault_of original in
    let same = one_fault_leading (levels_of size) m root address kind original false (reported cause address false) (reported page address false)
    (cause, stops, refl) (page, faults_else size m root address kind original guest none, refl) in
    (none, sym (cause_reported cause address false) ∙ ap (λ (f : WalkFault). f.cause) same ∙ cause_reported page address false)
  where
    denied : (leaf : PageLeaf) → guest_leaf_of (levels_of size) m root (address / 4096) ≡ Some leaf → (b : Bool) → allows leaf.rights kind ≡ b → b ≡ false
    denied leaf is false e = refl
    denied leaf is true e =
        absurd (leads_or_faults (levels_of size) m root address kind original false leaf.frame leaf.rights (reported cause address false)
        ((reaches_leaf size m root address kind leaf.frame leaf.rights).1 (is, e, lies leaf is)) (cause, stops, refl))

-- a walk in a table of the second stage that has ended there, with no index left, has stopped with that stage's page fault; and no leaf allows the access
ended : GuestWalkReachesLeaf → GuestWalkFaultsElse → (size : Size) (m : List (List ℕ)) (root address : ℕ) (kind original : AccessKind)
    (found : ℕ → Rights → ℕ → Walk (Result Walked WalkFault)) (stopped : Cause → Walk (Result Walked WalkFault)) (done : List ℕ) (j next : ℕ) (left : List ℕ) (answer : Result Walked WalkFault)
    → IsGuestRoot size m root → LeafLiesIn size m root address → address < 2 ^ (9 * levels_of size + 14) → second_path (levels_of size) address ≡ done ++ j ∷ left
    → IsTableAt (entries m) root (done ++ j ∷ []) next → lead_rest (length m) kind original found stopped next left ≡ Ends answer
    → HasNoLeafNow size m root address kind × (stopped (guest_page_fault_of original) ≡ Ends answer)
ended reaches_leaf faults_else size m root address kind original found stopped done j next (i ∷ below) answer guest lies small path there ends = let no : ⊥ = cc in absurd no
ended reaches_leaf faults_else size m root address kind original found stopped done j next [] answer guest lies small path there ends =
    ((nowhere reaches_leaf faults_else size m root address kind original page guest lies (inr (inl (small, stops)))).0, ends)
  where
    page : Cause
    page = guest_page_fault_of original

    whole : StopsAs (entries m) kind page (access_fault_of original) root ((done ++ j ∷ []) ++ []) page
    whole = ((standing_walks_are_of_now (entries m) kind page (access_fault_of original) root next (done ++ j ∷ []) [] there).1 page).1 refl

    stops : StopsAs (entries m) kind page (access_fault_of original) root (second_path (levels_of size) address) page
    stops = subst (λ p. StopsAs (entries m) kind page (access_fault_of original) root p page) (append_assoc done (j ∷ []) [] ∙ sym path) whole

-- ONE LOAD on the way to the frame of a guest physical address, whatever follows: the walk goes on in tables that stay; or comes to the frame that the leaf has now;
-- or stops with the second stage's page fault, where no leaf allows the access
abbrev pub Comes : Size → List (List ℕ) → (root address : ℕ) (kind original : AccessKind) (found : ℕ → Rights → ℕ → Walk (Result Walked WalkFault)) (stopped : Cause → Walk (Result Walked WalkFault))
    (done : List ℕ) (j : ℕ) (left : List ℕ) → Walk (Result Walked WalkFault) → Type 0
Comes size m root address kind original found stopped done j left after =
    ((next : ℕ) × IsTableAt (entries m) root (done ++ j ∷ []) next × (after ≡ lead_rest (length m) kind original found stopped next left))
    ⊎ (((frame : ℕ) × (rights : Rights) × (level : ℕ) × HasLeafNow size m root address kind frame rights × (after ≡ found frame rights level))
    ⊎ (HasNoLeafNow size m root address kind × (after ≡ stopped (guest_page_fault_of original))))

module _ (reaches_leaf : GuestWalkReachesLeaf) (faults_else : GuestWalkFaultsElse) (size : Size) (m : List (List ℕ)) (root address : ℕ) (kind original : AccessKind)
    (found : ℕ → Rights → ℕ → Walk (Result Walked WalkFault)) (stopped : Cause → Walk (Result Walked WalkFault)) (table : ℕ) (done : List ℕ) (j : ℕ) (left : List ℕ)
    (guest : IsGuestRoot size m root) (lies : LeafLiesIn size m root address) (small : address < 2 ^ (9 * levels_of size + 14)) (path : second_path (levels_of size) address ≡ done ++ j ∷ left)
    (at : IsTableAt (entries m) root done table) where
  abbrev page : Cause
  page = guest_page_fault_of original

  abbrev access : Cause
  access = access_fault_of original

  abbrev After : Walk (Result Walked WalkFault)
  After = after_load m (lead_rest (length m) kind original found stopped table (j ∷ left))

  stops_so : (cause : Cause) → LeadsNowhere (levels_of size) m root address kind original cause → After ≡ stopped cause → Comes size m root address kind original found stopped done j left After
  stops_so cause stops is =
      let none = nowhere reaches_leaf faults_else size m root address kind original cause guest lies stops in
      inr (inr (none.0, is ∙ ap stopped none.1))

  framed : (frame : ℕ) (rights : Rights) → Reaches (entries m) kind root (done ++ j ∷ left) frame rights → After ≡ inside (length m) found (stopped access) frame rights (length left)
      → (b : Bool) → nat_lt frame (length m) ≡ b → Comes size m root address kind original found stopped done j left After
  framed frame rights reaches is true low =
      inr (inl (frame, rights, length left, leaf_now reaches_leaf size m root address kind done j left frame rights small path reaches (leb-true (suc frame) (length m) low), is ∙ rw low refl))
  framed frame rights reaches is false low =
      let high : length m < suc frame = leb-false (suc frame) (length m) low in
      stops_so access (inr (inr (small, (frame, rights, subst (λ p. Reaches (entries m) kind root p frame rights) (sym path) reaches, omega (arith, high), refl)))) (is ∙ rw low refl)

  by_load : ((next : ℕ) × IsTableAt (entries m) root (done ++ j ∷ []) next × (After ≡ down kind page access (inside (length m) found (stopped access)) stopped next left))
      ⊎ (((frame : ℕ) × (rights : Rights) × Reaches (entries m) kind root (done ++ j ∷ left) frame rights × (After ≡ inside (length m) found (stopped access) frame rights (length left)))
      ⊎ ((cause : Cause) × StopsAs (entries m) kind page access root (done ++ j ∷ left) cause × (After ≡ stopped cause)))
      → Comes size m root address kind original found stopped done j left After
  by_load (inl (next, there, is)) = inl (next, there, is)
  by_load (inr (inl (frame, rights, reaches, is))) = framed frame rights reaches is (nat_lt frame (length m)) refl
  by_load (inr (inr (cause, stops, is))) = stops_so cause (inr (inl (small, subst (λ p. StopsAs (entries m) kind page access root p cause) (sym path) stops))) is

  pub comes : Comes size m root address kind original found stopped done j left After
  comes = by_load (loads_are_of_now m kind page access (inside (length m) found (stopped access)) stopped root table done j left at)

-- THE WAY TO AN ENTRY of a guest's table
pub entry_faults_now : GuestWalkReachesLeaf → GuestWalkFaultsElse → EntryFaultsNow
entry_faults_now reaches_leaf faults_else size m root address kind loaded guest i below table done j left answer is_root lies (small, path, at) ends =
    by (comes reaches_leaf faults_else size m root (entry_address (slot guest i)) Read kind found (unread w guest i) table done j left is_root lies small path at)
  where
    w : InBoth
    w = through size m root address kind

    found : ℕ → Rights → ℕ → Walk (Result Walked WalkFault)
    found = λ frame rights level. guest_load w loaded guest i below (λ next. guest_down w (loaded ++ frame ∷ []) next below) frame

    answer_is : unread w guest i (guest_page_fault_of kind) ≡ Ends answer → answer ≡ Err (reported (guest_page_fault_of kind) (entry_address (slot guest i)) true)
    answer_is same = cc

    by : Comes size m root (entry_address (slot guest i)) Read kind found (unread w guest i) done j left (after_load m (rest_of w (ToEntry loaded guest i below table (j ∷ left))))
        → HasNoLeafNow size m root (entry_address (slot guest i)) Read × (answer ≡ Err (reported (guest_page_fault_of kind) (entry_address (slot guest i)) true))
    by (inl (next, there, is)) =
        let end = ended reaches_leaf faults_else size m root (entry_address (slot guest i)) Read kind found (unread w guest i) done j next left answer is_root lies small path there (sym is ∙ ends) in
        (end.0, answer_is end.1)
    by (inr (inl (frame, rights, level, leaf, is))) = let both = sym is ∙ ends in let no : ⊥ = cc in absurd no
    by (inr (inr (none, is))) = (none, answer_is (sym is ∙ ends))

-- THE WAY TO THE PAGE
pub page_ends_now : GuestWalkReachesLeaf → GuestWalkFaultsElse → PageEndsNow
page_ends_now reaches_leaf faults_else size m root address kind loaded page given level table done j left answer is_root lies (small, path, at) ends =
    by (comes reaches_leaf faults_else size m root (guest_address page address) kind kind (reached w loaded given level) (unreached w page) table done j left is_root lies small path at)
  where
    w : InBoth
    w = through size m root address kind

    Ended : Result Walked WalkFault → Type 0
    Ended = EndsAtPage size m root (guest_address page address) kind given

    faulted_so : HasNoLeafNow size m root (guest_address page address) kind → unreached w page (guest_page_fault_of kind) ≡ Ends answer → Ended answer
    faulted_so none same =
        let is : Err (reported (guest_page_fault_of kind) (guest_address page address) false) ≡ answer = cc in
        subst Ended is (none, refl)

    by : Comes size m root (guest_address page address) kind kind (reached w loaded given level) (unreached w page) done j left (after_load m (rest_of w (ToPage loaded page given level table (j ∷ left))))
        → Ended answer
    by (inl (next, there, is)) =
        let end = ended reaches_leaf faults_else size m root (guest_address page address) kind kind (reached w loaded given level) (unreached w page) done j next left answer is_root lies small path there
        (sym is ∙ ends) in
        faulted_so end.0 end.1
    by (inr (inl (frame, rights, own, leaf, is))) =
        let same : reached w loaded given level frame rights own ≡ Ends answer = sym is ∙ ends in
        let walked : Walked = record { frame = frame; rights = rights_of_both given rights; level = level; guest_frames = padded 4 loaded } in
        let told : Ok walked ≡ answer = cc in
        subst Ended told (rights, leaf, refl)
    by (inr (inr (none, is))) = faulted_so none (sym is ∙ ends)

-- A walk of the second stage from its root makes a load, or its address is too wide
lead_ended : (frames : ℕ) (size : Size) (root : ℕ) (kind original : AccessKind) (found : ℕ → Rights → ℕ → Walk (Result Walked WalkFault)) (stopped : Cause → Walk (Result Walked WalkFault)) (address : ℕ)
    (answer : Result Walked WalkFault) → lead frames (levels_of size) root kind original found stopped address ≡ Ends answer → stopped (guest_page_fault_of original) ≡ Ends answer
lead_ended frames size root kind original found stopped address answer ends = by (nat_lt address (2 ^ (9 * levels_of size + 14))) ends
  where
    loads : (s : Size) → lead_rest frames kind original found stopped root (second_path (levels_of s) address) ≡ Ends answer → ⊥
    loads Sv39 e = cc
    loads Sv48 e = cc

    by : (b : Bool) → (if b then lead_rest frames kind original found stopped root (second_path (levels_of size) address) else stopped (guest_page_fault_of original)) ≡ Ends answer
        → stopped (guest_page_fault_of original) ≡ Ends answer
    by true e = absurd (loads size e)
    by false e = e

-- AT AN ENTRY of a guest's table
pub guest_entry_faults_now : GuestEntryFaultsNow
unfolding entries
guest_entry_faults_now size m root address kind loaded guest i below frame answer low ends =
    by (entries m (slot frame (slot guest i % 512))) (entry_inside m frame (slot guest i % 512) low (omega arith)) ends
  where
    w : InBoth
    w = through size m root address kind

    -- a fault of this cause
    faulted_by : (fault : WalkFault) → (fault.cause ≡ page_fault_of kind) ⊎ (fault.cause ≡ guest_page_fault_of kind) → ◌≡◌ {A = Walk (Result Walked WalkFault)} (Ends (Err fault)) (Ends answer) → EndsWithPageFault kind answer
    faulted_by fault cause same =
        let is : ◌≡◌ {A = Result Walked WalkFault} (Err fault) answer = cc in
        subst (EndsWithPageFault kind) is cause

    first : ◌≡◌ {A = Walk (Result Walked WalkFault)} (Ends (Err (plain (page_fault_of kind)))) (Ends answer) → EndsWithPageFault kind answer
    first same = faulted_by (plain (page_fault_of kind)) (inl refl) same

    second : (gpa : ℕ) (implicit : Bool) → ◌≡◌ {A = Walk (Result Walked WalkFault)} (Ends (Err (reported (guest_page_fault_of kind) gpa implicit))) (Ends answer) → EndsWithPageFault kind answer
    second gpa implicit same = faulted_by (reported (guest_page_fault_of kind) gpa implicit) (inr (cause_reported (guest_page_fault_of kind) gpa implicit)) same

    downward : (indices : List ℕ) (loaded : List ℕ) (next : ℕ) → guest_down w loaded next indices ≡ Ends answer → EndsWithPageFault kind answer
    downward [] loaded next e = first e
    downward (k ∷ later) loaded next e =
        second (entry_address (slot next k)) true
        (lead_ended (length m) size root Read kind (λ f rights level. guest_load w loaded next k later (λ n. guest_down w (loaded ++ f ∷ []) n later) f) (unread w next k) (entry_address (slot next k)) answer e)

    leaf : (base : ℕ) (rights : Rights) (b : Bool)
        → (if b then page_walk w (loaded ++ frame ∷ []) (base + page_in below) rights (length below) else faulted w) ≡ Ends answer → EndsWithPageFault kind answer
    leaf base rights false e = first e
    leaf base rights true e =
        second (guest_address (base + page_in below) address) false
        (lead_ended (length m) size root kind kind (reached w (loaded ++ frame ∷ []) rights (length below)) (unreached w (base + page_in below)) (guest_address (base + page_in below) address) answer e)

    by : (x : Entry) → x ≢ Outside → at_guest_entry w (loaded ++ frame ∷ []) below (λ next. guest_down w (loaded ++ frame ∷ []) next below) x ≡ Ends answer → EndsWithPageFault kind answer
    by Outside inside e = absurd (inside refl)
    by Invalid inside e = first e
    by (Pointer next) inside e = downward below (loaded ++ frame ∷ []) next e
    by (Leaf base rights) inside e = leaf base rights (is_lawful kind base rights below) e
