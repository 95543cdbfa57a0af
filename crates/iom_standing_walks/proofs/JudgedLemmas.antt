-- A load that ends a walk of one stage, in the driver's tables.
use Rattle.std.proofs.Common.{◌≡◌, ℕ, suc, ◌+◌, ◌*◌, ◌/◌, ◌^◌, ◌<◌, ◌⊎◌, inl, inr, Bool, true, false, nat_lt, List, [], ◌∷◌, ◌++◌, append_assoc, length, replicate, None, Some, Result, Ok, Err, refl, sym, ◌∙◌, subst}
use Rattle.std.proofs.lemmas.Bool.{leb-true}
use Rattle.iom_base.specs.Causes.{guest_page_fault_of, page_fault_of}
use Rattle.iom_base.specs.Tables.{access_fault_of}
use Rattle.iom_base.specs.Rights.{allows}
use Rattle.iom_base.specs.Sizes.{levels_of}
use Rattle.iom_base.specs.declared.size.Size.{Size}
use Rattle.iom_base.specs.declared.access.AccessKind.{AccessKind}
use Rattle.iom_base.specs.declared.access.AccessKind.TheVariants.{Read}
use Rattle.iom_base.specs.declared.cause.Cause.{Cause}
use Rattle.iom_base.specs.declared.rights.Rights.{Rights}
use Rattle.iom_page_table.specs.GuestLaws.{GuestWalkFaultsElse, GuestWalkReachesLeaf}
use Rattle.iom_page_table.specs.Laws.{WalkFaultsElse, WalkReachesLeaf}
use Rattle.iom_page_table.specs.Leaves.{leaf_of}
use Rattle.iom_page_table.specs.SecondTables.{guest_leaf_of}
use Rattle.iom_page_table.specs.declared.leaf.PageLeaf.{PageLeaf}
use Rattle.iom_stage_walk.proofs.Exact.{one_fault, reached_not_stopped}
use Rattle.iom_stage_walk.proofs.OneSecond.{leads_or_faults, one_fault_leading}
use Rattle.iom_page_table.specs.Trees.{IsTableAt}
use Rattle.iom_stage_walk.specs.Entries.{entries, slot}
use Rattle.iom_stage_walk.specs.Paths.{Reaches, StopsAs, StopsFirst, first_path, leaf_level}
use Rattle.iom_stage_walk.specs.Second.{StopsSecond, reported, second_path}
use Rattle.iom_stage_walk.specs.Both.{entry_address, guest_address, plain}
use Rattle.iom_stage_walk.specs.declared.walked.Walked.{Walked}
use Rattle.iom_stage_walk.specs.declared.walked.WalkFault.{WalkFault}
use Rattle.iom_standing_walks.proofs.NowLemmas.{first_ends_as_now, second_ends_as_now}
use Rattle.iom_walk_loads.proofs.WholeLemmas.{first_is_whole, second_is_whole}
use Rattle.iom_standing_walks.specs.Judged.{EntryIsJudgedNow, FirstIsJudgedNow, HasLeafNow, IsJudgedBy, IsOnItsWay, PageIsJudgedNow, SecondIsJudgedNow, through}
use Rattle.iom_walk_loads.specs.Loads.{Ends, Walk, after_load, made_from}
use Rattle.iom_walk_loads.specs.Tables.{InBoth, down, first_walk, guest_down, guest_load, inside, reached, second_walk, unread, unreached}
use Rattle.iom_standing_walks.specs.Positions.{AtEntry, ToEntry, ToPage, rest_of}
use Rattle.iom_standing_walks.proofs.PositionLemmas.{loads_are_of_now}

pub first_is_judged_now : WalkReachesLeaf → WalkFaultsElse → FirstIsJudgedNow
first_is_judged_now reaches_leaf faults_else size m root address kind table done left answer tree inside lawful path at ends =
    by answer (first_ends_as_now m (levels_of size) root address kind table done left answer lawful path at ends)
  where
    by : (a : Result Walked WalkFault) → made_from m (first_walk (length m) (levels_of size) root address kind) ≡ a → IsJudgedBy (leaf_of (levels_of size) m root (address / 4096)) kind (plain (page_fault_of kind)) a
    by (Ok walked) made =
        let leaf = (reaches_leaf size m root address kind walked).0 (((first_is_whole m (levels_of size) root address kind).0 walked).0 made) in
        (leaf.0, leaf.1)
    by (Err fault) made =
        let stops = ((first_is_whole m (levels_of size) root address kind).1 fault).0 made in
        let none : (own : PageLeaf) → leaf_of (levels_of size) m root (address / 4096) ≡ Some own → allows own.rights kind ≡ false = λ own is. denied fault stops own is (allows own.rights kind) refl in
        (one_fault (levels_of size) m root address kind fault (plain (page_fault_of kind)) stops (faults_else size m root address kind tree none), none)
      where
        denied : (fault : WalkFault) → StopsFirst (levels_of size) m root address kind fault → (own : PageLeaf) → leaf_of (levels_of size) m root (address / 4096) ≡ Some own → (b : Bool) → allows own.rights kind ≡ b → b ≡ false
        denied fault stops own is false e = refl
        denied fault stops own is true e =
            let walked : Walked = record { frame = own.frame; rights = own.rights; level = leaf_level (entries m) root (first_path (levels_of size) address); guest_frames = replicate 4 None } in
            absurd (reached_not_stopped (levels_of size) m root address kind walked fault.cause ((reaches_leaf size m root address kind walked).1 (is, e, inside own is, refl, refl)) stops.cause)

pub second_is_judged_now : GuestWalkReachesLeaf → GuestWalkFaultsElse → SecondIsJudgedNow
second_is_judged_now reaches_leaf faults_else size m root address kind table done left answer guest inside small path at ends =
    by answer (second_ends_as_now m (levels_of size) root kind kind (λ frame rights level. Ends (Ok (record { frame = frame; rights = rights; level = level; guest_frames = replicate 4 None })))
    (λ cause. Ends (Err (reported cause address false))) address table done left answer small path at ends)
  where
    by : (a : Result Walked WalkFault) → made_from m (second_walk (length m) (levels_of size) root address kind) ≡ a
        → IsJudgedBy (guest_leaf_of (levels_of size) m root (address / 4096)) kind (reported (guest_page_fault_of kind) address false) a
    by (Ok walked) made =
        let reached = ((second_is_whole m (levels_of size) root address kind).0 walked).0 made in
        let leaf = (reaches_leaf size m root address kind walked.frame walked.rights).0 reached.leads in
        (leaf.0, leaf.1)
    by (Err fault) made =
        let stops = ((second_is_whole m (levels_of size) root address kind).1 fault).0 made in
        let none : (own : PageLeaf) → guest_leaf_of (levels_of size) m root (address / 4096) ≡ Some own → allows own.rights kind ≡ false = λ own is. denied fault stops own is (allows own.rights kind) refl in (
          one_fault_leading (levels_of size) m root address kind kind false fault (reported (guest_page_fault_of kind) address false) stops
              (guest_page_fault_of kind, faults_else size m root address kind kind guest none, refl),
          none,
        )
      where
        denied : (fault : WalkFault) → StopsSecond (levels_of size) m root address kind fault → (own : PageLeaf) → guest_leaf_of (levels_of size) m root (address / 4096) ≡ Some own → (b : Bool) → allows own.rights kind ≡ b → b ≡ false
        denied fault stops own is false e = refl
        denied fault stops own is true e =
            absurd (leads_or_faults (levels_of size) m root address kind kind false own.frame own.rights fault ((reaches_leaf size m root address kind own.frame own.rights).1 (is, e, inside own is)) stops)

-- Both stages.

-- a frame that the second stage finds is the leaf of the page now
pub leaf_now : GuestWalkReachesLeaf → (size : Size) (m : List (List ℕ)) (root address : ℕ) (kind : AccessKind) (done : List ℕ) (j : ℕ) (left : List ℕ) (frame : ℕ) (rights : Rights)
    → address < 2 ^ (9 * levels_of size + 14) → second_path (levels_of size) address ≡ done ++ j ∷ left → Reaches (entries m) kind root (done ++ j ∷ left) frame rights → frame < length m
    → HasLeafNow size m root address kind frame rights
leaf_now reaches_leaf size m root address kind done j left frame rights small path reaches inside =
    let leaf = (reaches_leaf size m root address kind frame rights).0 (record { guest_physical = small; path = subst (λ is. Reaches (entries m) kind root is frame rights) (sym path) reaches; inside = inside }) in
    (leaf.0, leaf.1)

on : (size : Size) (m : List (List ℕ)) (root address next : ℕ) (done : List ℕ) (j : ℕ) (left : List ℕ) → address < 2 ^ (9 * levels_of size + 14) → second_path (levels_of size) address ≡ done ++ j ∷ left
    → IsTableAt (entries m) root (done ++ j ∷ []) next → IsOnItsWay size m root address next (done ++ j ∷ []) left
on size m root address next done j left small path at = (small, path ∙ sym (append_assoc done (j ∷ []) left), at)

pub entry_is_judged_now : GuestWalkReachesLeaf → EntryIsJudgedNow
entry_is_judged_now reaches_leaf size m root address kind loaded guest i below table done j left (small, path, at) =
    by (loads_are_of_now m Read (guest_page_fault_of kind) (access_fault_of kind) Found Stopped root table done j left at)
  where
    w : InBoth
    w = through size m root address kind

    Found : ℕ → Rights → ℕ → Walk (Result Walked WalkFault)
    Found = inside (length m) (λ frame rights level. guest_load w loaded guest i below (λ next. guest_down w (loaded ++ frame ∷ []) next below) frame) (unread w guest i (access_fault_of kind))

    Stopped : Cause → Walk (Result Walked WalkFault)
    Stopped = unread w guest i

    After : Walk (Result Walked WalkFault)
    After = after_load m (rest_of w (ToEntry loaded guest i below table (j ∷ left)))

    Judged : Type 0
    Judged = ((next : ℕ) × IsOnItsWay size m root (entry_address (slot guest i)) next (done ++ j ∷ []) left × (After ≡ rest_of w (ToEntry loaded guest i below next left)))
        ⊎ (((frame : ℕ) × (rights : Rights) × HasLeafNow size m root (entry_address (slot guest i)) Read frame rights × (After ≡ rest_of w (AtEntry loaded guest i below frame)))
        ⊎ ((fault : WalkFault) × (After ≡ Ends (Err fault))))

    framed : (frame : ℕ) (rights : Rights) → Reaches (entries m) Read root (done ++ j ∷ left) frame rights → After ≡ Found frame rights (length left) → (b : Bool) → nat_lt frame (length m) ≡ b → Judged
    framed frame rights reaches is true low =
        inr (inl (frame, rights, leaf_now reaches_leaf size m root (entry_address (slot guest i)) Read done j left frame rights small path reaches (leb-true (suc frame) (length m) low), is ∙ rw low refl))
    framed frame rights reaches is false low = inr (inr (reported (access_fault_of kind) (entry_address (slot guest i)) true, is ∙ rw low refl))

    by : ((next : ℕ) × IsTableAt (entries m) root (done ++ j ∷ []) next × (After ≡ down Read (guest_page_fault_of kind) (access_fault_of kind) Found Stopped next left))
        ⊎ (((frame : ℕ) × (rights : Rights) × Reaches (entries m) Read root (done ++ j ∷ left) frame rights × (After ≡ Found frame rights (length left)))
        ⊎ ((cause : Cause) × StopsAs (entries m) Read (guest_page_fault_of kind) (access_fault_of kind) root (done ++ j ∷ left) cause × (After ≡ Stopped cause))) → Judged
    by (inl (next, there, is)) = inl (next, on size m root (entry_address (slot guest i)) next done j left small path there, is)
    by (inr (inl (frame, rights, reaches, is))) = framed frame rights reaches is (nat_lt frame (length m)) refl
    by (inr (inr (cause, stops, is))) = inr (inr (_, is))

pub page_is_judged_now : GuestWalkReachesLeaf → PageIsJudgedNow
page_is_judged_now reaches_leaf size m root address kind loaded page given level table done j left (small, path, at) =
    by (loads_are_of_now m kind (guest_page_fault_of kind) (access_fault_of kind) Found Stopped root table done j left at)
  where
    w : InBoth
    w = through size m root address kind

    Found : ℕ → Rights → ℕ → Walk (Result Walked WalkFault)
    Found = inside (length m) (reached w loaded given level) (unreached w page (access_fault_of kind))

    Stopped : Cause → Walk (Result Walked WalkFault)
    Stopped = unreached w page

    After : Walk (Result Walked WalkFault)
    After = after_load m (rest_of w (ToPage loaded page given level table (j ∷ left)))

    Judged : Type 0
    Judged = ((next : ℕ) × IsOnItsWay size m root (guest_address page address) next (done ++ j ∷ []) left × (After ≡ rest_of w (ToPage loaded page given level next left)))
        ⊎ (((frame : ℕ) × (rights : Rights) × HasLeafNow size m root (guest_address page address) kind frame rights × (After ≡ reached w loaded given level frame rights (length left)))
        ⊎ ((fault : WalkFault) × (After ≡ Ends (Err fault))))

    framed : (frame : ℕ) (rights : Rights) → Reaches (entries m) kind root (done ++ j ∷ left) frame rights → After ≡ Found frame rights (length left) → (b : Bool) → nat_lt frame (length m) ≡ b → Judged
    framed frame rights reaches is true low =
        inr (inl (frame, rights, leaf_now reaches_leaf size m root (guest_address page address) kind done j left frame rights small path reaches (leb-true (suc frame) (length m) low), is ∙ rw low refl))
    framed frame rights reaches is false low = inr (inr (reported (access_fault_of kind) (guest_address page address) false, is ∙ rw low refl))

    by : ((next : ℕ) × IsTableAt (entries m) root (done ++ j ∷ []) next × (After ≡ down kind (guest_page_fault_of kind) (access_fault_of kind) Found Stopped next left))
        ⊎ (((frame : ℕ) × (rights : Rights) × Reaches (entries m) kind root (done ++ j ∷ left) frame rights × (After ≡ Found frame rights (length left)))
        ⊎ ((cause : Cause) × StopsAs (entries m) kind (guest_page_fault_of kind) (access_fault_of kind) root (done ++ j ∷ left) cause × (After ≡ Stopped cause))) → Judged
    by (inl (next, there, is)) = inl (next, on size m root (guest_address page address) next done j left small path there, is)
    by (inr (inl (frame, rights, reaches, is))) = framed frame rights reaches is (nat_lt frame (length m)) refl
    by (inr (inr (cause, stops, is))) = inr (inr (_, is))
