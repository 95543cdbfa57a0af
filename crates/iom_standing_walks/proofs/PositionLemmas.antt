-- A walk in both stages stands somewhere, or has ended; and one load in tables that stay.
use Rattle.std.proofs.Common.{◌≡◌, ℕ, ◌+◌, ◌*◌, ◌%◌, ◌^◌, ◌⊎◌, inl, inr, Bool, true, false, nat_lt, List, [], ◌∷◌, ◌++◌, length, Result, if◌then◌else◌, refl, ap, subst}
use Rattle.iom_base.specs.Causes.{guest_page_fault_of}
use Rattle.iom_base.specs.Tables.{access_fault_of}
use Rattle.iom_base.specs.declared.access.AccessKind.{AccessKind}
use Rattle.iom_base.specs.declared.access.AccessKind.TheVariants.{Read}
use Rattle.iom_base.specs.declared.cause.Cause.{Cause}
use Rattle.iom_base.specs.declared.rights.Rights.{Rights}
use Rattle.iom_phys_mem.specs.Words.{word_at}
use Rattle.iom_stage_walk.specs.Entries.{entries, entry_read, slot}
use Rattle.iom_stage_walk.specs.Paths.{Reaches, StopsAs, page_in}
use Rattle.iom_stage_walk.specs.Second.{second_path}
use Rattle.iom_stage_walk.specs.Both.{entry_address, guest_address}
use Rattle.iom_stage_walk.specs.declared.entry.Entry.{Entry}
use Rattle.iom_stage_walk.specs.declared.entry.Entry.TheVariants.{Invalid, Leaf, Outside, Pointer}
use Rattle.iom_stage_walk.specs.declared.walked.Walked.{Walked}
use Rattle.iom_stage_walk.specs.declared.walked.WalkFault.{WalkFault}
use Rattle.iom_standing_walks.specs.Standing.{LoadsAreOfNow}
use Rattle.iom_walk_loads.specs.Loads.{Walk, after_load}
use Rattle.iom_standing_walks.specs.Positions.{AtEntry, Position, PositionsAreAll, StandsOrEnds, ToEntry, ToPage, rest_of}
use Rattle.iom_page_table.specs.Trees.{IsTableAt}
use Rattle.iom_walk_loads.specs.Tables.{InBoth, at_entry, at_guest_entry, down, faulted, guest_down, guest_load, inside, is_lawful, page_walk, reached, unread, unreached}
use Rattle.iom_standing_walks.proofs.StandingLemmas.{standing_walks_are_of_now, table_push}
use Rattle.iom_walk_loads.proofs.TableLemmas.{entries_are, lawful_leaf, unlawful_leaf}

-- the way to a page
page_stands : (w : InBoth) (loaded : List ℕ) (page : ℕ) (given : Rights) (level : ℕ) → StandsOrEnds w (page_walk w loaded page given level)
page_stands w loaded page given level = by (nat_lt (guest_address page w.address) (2 ^ (9 * w.levels' + 14)))
  where
    by : (b : Bool) → StandsOrEnds w (if b then rest_of w (ToPage loaded page given level w.second (second_path w.levels' (guest_address page w.address))) else unreached w page (guest_page_fault_of w.kind))
    by true = inl (ToPage loaded page given level w.second (second_path w.levels' (guest_address page w.address)), refl)
    by false = inr (_, refl)

-- down a guest's tables
guest_stands : (w : InBoth) (loaded : List ℕ) (table : ℕ) (is : List ℕ) → StandsOrEnds w (guest_down w loaded table is)
guest_stands w loaded table [] = inr (_, refl)
guest_stands w loaded table (i ∷ below) = by (nat_lt (entry_address (slot table i)) (2 ^ (9 * w.levels' + 14)))
  where
    by : (b : Bool) → StandsOrEnds w (if b then rest_of w (ToEntry loaded table i below w.second (second_path w.levels' (entry_address (slot table i)))) else unread w table i (guest_page_fault_of w.kind))
    by true = inl (ToEntry loaded table i below w.second (second_path w.levels' (entry_address (slot table i))), refl)
    by false = inr (_, refl)

-- one load in a table of the second stage, where all that is found, and each stop, stands or ends
stage_stands : (w : InBoth) (kind : AccessKind) (page access : Cause) (found : ℕ → Rights → ℕ → Walk (Result Walked WalkFault)) (outside : Walk (Result Walked WalkFault)) (stopped : Cause → Walk (Result Walked WalkFault))
    → ((f : ℕ) (r : Rights) (l : ℕ) → StandsOrEnds w (found f r l)) → StandsOrEnds w outside → ((c : Cause) → StandsOrEnds w (stopped c))
    → (below : List ℕ) → ((next : ℕ) → StandsOrEnds w (down kind page access (inside w.frames found outside) stopped next below))
    → (x : Entry) → StandsOrEnds w (at_entry kind page access (inside w.frames found outside) stopped below (λ next. down kind page access (inside w.frames found outside) stopped next below) x)
stage_stands w kind page access found outside stopped ok out err below follow Outside = err access
stage_stands w kind page access found outside stopped ok out err below follow Invalid = err page
stage_stands w kind page access found outside stopped ok out err below follow (Pointer next) = follow next
stage_stands w kind page access found outside stopped ok out err below follow (Leaf base rights) = by (is_lawful kind base rights below)
  where
    inner : (f : ℕ) (b : Bool) → StandsOrEnds w (if b then found f rights (length below) else outside)
    inner f true = ok f rights (length below)
    inner f false = out

    by : (b : Bool) → StandsOrEnds w (if b then inside w.frames found outside (base + page_in below) rights (length below) else stopped page)
    by true = inner (base + page_in below) (nat_lt (base + page_in below) w.frames)
    by false = err page

load_stands : (w : InBoth) (m : List (List ℕ)) (position : Position) → StandsOrEnds w (after_load m (rest_of w position))
load_stands w m (ToEntry loaded guest i below table []) = inr (_, refl)
load_stands w m (ToEntry loaded guest i below table (j ∷ left)) =
    stage_stands w Read (guest_page_fault_of w.kind) (access_fault_of w.kind)
    (λ frame rights level. guest_load w loaded guest i below (λ next. guest_down w (loaded ++ frame ∷ []) next below) frame) (unread w guest i (access_fault_of w.kind)) (unread w guest i)
    (λ f r l. inl (AtEntry loaded guest i below f, refl)) (inr (_, refl)) (λ c. inr (_, refl)) left
    (λ next. inl (ToEntry loaded guest i below next left, refl)) (entry_read (word_at 8 m (8 * slot table j)))
load_stands w m (AtEntry loaded guest i below frame) = by (entry_read (word_at 8 m (8 * slot frame (slot guest i % 512))))
  where
    leaf : (base : ℕ) (rights : Rights) (b : Bool) → StandsOrEnds w (if b then page_walk w (loaded ++ frame ∷ []) (base + page_in below) rights (length below) else faulted w)
    leaf base rights true = page_stands w (loaded ++ frame ∷ []) (base + page_in below) rights (length below)
    leaf base rights false = inr (_, refl)

    by : (x : Entry) → StandsOrEnds w (at_guest_entry w (loaded ++ frame ∷ []) below (λ next. guest_down w (loaded ++ frame ∷ []) next below) x)
    by Outside = inr (_, refl)
    by Invalid = inr (_, refl)
    by (Pointer next) = guest_stands w (loaded ++ frame ∷ []) next below
    by (Leaf base rights) = leaf base rights (is_lawful w.kind base rights below)
load_stands w m (ToPage loaded page given level table []) = inr (_, refl)
load_stands w m (ToPage loaded page given level table (j ∷ left)) =
    stage_stands w w.kind (guest_page_fault_of w.kind) (access_fault_of w.kind)
    (reached w loaded given level) (unreached w page (access_fault_of w.kind)) (unreached w page)
    (λ f r l. inr (_, refl)) (inr (_, refl)) (λ c. inr (_, refl)) left
    (λ next. inl (ToPage loaded page given level next left, refl)) (entry_read (word_at 8 m (8 * slot table j)))

pub positions_are_all : PositionsAreAll
positions_are_all w = (guest_stands w, load_stands w)

-- One load in tables that stay.
pub loads_are_of_now : LoadsAreOfNow
loads_are_of_now m kind page access found stopped root table done i below at =
    subst Meets (entries_are m (slot table i)) (by (entries m (slot table i)) refl)
  where
    After : Entry → Walk (Result Walked WalkFault)
    After x = at_entry kind page access found stopped below (λ next. down kind page access found stopped next below) x

    Meets : Entry → Type 0
    Meets x =
        ((next : ℕ) × IsTableAt (entries m) root (done ++ i ∷ []) next × (After x ≡ down kind page access found stopped next below))
        ⊎ (((frame : ℕ) × (rights : Rights) × Reaches (entries m) kind root (done ++ i ∷ below) frame rights × (After x ≡ found frame rights (length below)))
        ⊎ ((cause : Cause) × StopsAs (entries m) kind page access root (done ++ i ∷ below) cause × (After x ≡ stopped cause)))

    reach : (f : ℕ) (r : Rights) → Reaches (entries m) kind table (i ∷ below) f r → Reaches (entries m) kind root (done ++ i ∷ below) f r
    reach f r reaches = ((standing_walks_are_of_now (entries m) kind page access root table done (i ∷ below) at).0 f r).1 reaches

    stop : (c : Cause) → StopsAs (entries m) kind page access table (i ∷ below) c → StopsAs (entries m) kind page access root (done ++ i ∷ below) c
    stop c stops = ((standing_walks_are_of_now (entries m) kind page access root table done (i ∷ below) at).1 c).1 stops

    leaf : (base : ℕ) (rights : Rights) → entries m (slot table i) ≡ Leaf base rights → (b : Bool) → is_lawful kind base rights below ≡ b → Meets (Leaf base rights)
    leaf base rights is true lawful = inr (inl (
      base + page_in below,
      rights,
      reach (base + page_in below) rights (inr (base, rights, is, lawful_leaf kind base rights below lawful)),
      ap (λ b. if b then found (base + page_in below) rights (length below) else stopped page) lawful,
    ))
    leaf base rights is false lawful = inr (inr (
      page,
      stop page (inr (inr (inr (base, rights, is, refl, unlawful_leaf kind base rights below lawful)))),
      ap (λ b. if b then found (base + page_in below) rights (length below) else stopped page) lawful,
    ))

    by : (x : Entry) → entries m (slot table i) ≡ x → Meets x
    by Outside is = inr (inr (access, stop access (inr (inl (is, refl))), refl))
    by Invalid is = inr (inr (page, stop page (inr (inr (inl (is, refl)))), refl))
    by (Pointer next) is = inl (next, table_push (entries m) root table done at i next is, refl)
    by (Leaf base rights) is = leaf base rights is (is_lawful kind base rights below) refl
