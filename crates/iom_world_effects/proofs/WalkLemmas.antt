-- What a walk means, by how its device is attached: what it reaches is held, and where it stops nothing is.
use Rattle.std.proofs.Common.{◌≡◌, ◌/◌, ◌^◌, ◌<◌, ◌≤◌, ◌&&◌, ◌∙◌, ◌⊎◌, ℕ, Bool, true, false, List, length, replicate, Option, Some, None, option_map, refl, sym, ap, if◌then◌else◌}
use Rattle.iom_base.specs.declared.access.AccessKind.{AccessKind}
use Rattle.iom_base.specs.declared.access.AccessKind.TheVariants.{Read, Write}
use Rattle.iom_base.specs.declared.cause.Cause.{Cause}
use Rattle.iom_base.specs.declared.mode.Mode.{Mode}
use Rattle.iom_base.specs.declared.mode.Mode.TheVariants.{First, Second, Both}
use Rattle.iom_base.specs.declared.owner.Owner.{Owner}
use Rattle.iom_base.specs.declared.rights.Rights.{Rights}
use Rattle.iom_base.specs.Causes.{page_fault_of, guest_page_fault_of}
use Rattle.iom_base.specs.Rights.{allows, r, rw}
use Rattle.iom_base.specs.Sizes.{levels_of, page_limit_of}
use Rattle.iom_base.specs.declared.size.Size.{Size}
use Rattle.iom_driver.specs.Tables.{AreTablesOf, leaf_for}
use Rattle.iom_iommu.specs.Service.{translation_of}
use Rattle.iom_ledger.specs.declared.ledger.Ledger.{Ledger}
use Rattle.iom_ledger.specs.History.{Pair}
use Rattle.iom_ledger.specs.Shown.{held_in}
use Rattle.iom_page_table.specs.declared.leaf.PageLeaf.{PageLeaf}
use Rattle.iom_page_table.specs.Laws.{WalkReachesLeaf, WalkFaultsElse}
use Rattle.iom_page_table.specs.GuestLaws.{GuestWalkReachesLeaf, GuestLeaves, GuestWalkFaultsElse, GuestTablesFault}
use Rattle.iom_page_table.specs.Leaves.{leaf_of}
use Rattle.iom_page_table.specs.FirstTables.{IsRoot}
use Rattle.iom_page_table.specs.SecondTables.{IsGuestRoot, guest_leaf_of}
use Rattle.iom_stage_walk.specs.declared.walked.Walked.{Walked}
use Rattle.iom_stage_walk.specs.declared.walked.WalkFault.{WalkFault}
use Rattle.iom_stage_walk.specs.Laws.{OneEnd, OneEndSecond, WritesAsReadsSecond, WritesAsReadsBoth, GuestFramesAreLed}
use Rattle.iom_stage_walk.specs.Entries.{entries}
use Rattle.iom_stage_walk.specs.Paths.{ReachesFirst, StopsFirst, first_path, leaf_level}
use Rattle.iom_stage_walk.specs.Second.{LeadsTo, ReachesSecond, StopsSecond, reported, second_path}
use Rattle.iom_stage_walk.specs.Both.{ReachesBoth, StopsBoth}
use Rattle.iom_world_effects.proofs.SceneSteps.{HoldsWalked}

-- the laws of walks and of tables
pub record WalkLaws : Type 0 where
  pub reaches : WalkReachesLeaf
  pub faults : WalkFaultsElse
  pub one_end : OneEnd
  pub guest_reaches : GuestWalkReachesLeaf
  pub guest_leaves : GuestLeaves
  pub guest_faults : GuestWalkFaultsElse
  pub guest_tables : GuestTablesFault
  pub one_end_second : OneEndSecond
  pub as_reads_second : WritesAsReadsSecond
  pub as_reads_both : WritesAsReadsBoth
  pub led : GuestFramesAreLed

-- the walk of a device that is attached in the mode: in both stages the first begins at the guest physical page 0
abbrev pub ReachesBy : Mode → List (List ℕ) → ℕ → ℕ → AccessKind → Walked → Type 0
ReachesBy (First size) memory root address kind walked = ReachesFirst (levels_of size) memory root address kind walked
ReachesBy (Second size) memory root address kind walked = ReachesSecond (levels_of size) memory root address kind walked
ReachesBy (Both size) memory root address kind walked = ReachesBoth (levels_of size) (levels_of size) memory 0 root address kind walked

abbrev pub StopsBy : Mode → List (List ℕ) → ℕ → ℕ → AccessKind → WalkFault → Type 0
StopsBy (First size) memory root address kind fault = StopsFirst (levels_of size) memory root address kind fault
StopsBy (Second size) memory root address kind fault = StopsSecond (levels_of size) memory root address kind fault
StopsBy (Both size) memory root address kind fault = StopsBoth (levels_of size) (levels_of size) memory 0 root address kind fault

-- the frame is held at the page, with a right that allows the kind
abbrev pub IsHeldFor : Ledger → ℕ → ℕ → AccessKind → ℕ → Type 0
IsHeldFor ledger id page kind frame = (rights : Rights) × (held_in ledger id page ≡ Some (frame, rights)) × (allows rights kind ≡ true)

-- nothing is
abbrev pub NoneIsHeldFor : Ledger → ℕ → ℕ → AccessKind → Type 0
NoneIsHeldFor ledger id page kind = (frame : ℕ) → IsHeldFor ledger id page kind frame → ⊥

-- a walk that stops has the page fault of the mode; in one stage nothing is held at the page
abbrev pub FaultsBy : Mode → Ledger → ℕ → ℕ → AccessKind → Cause → Type 0
FaultsBy (First size) ledger id page kind cause = (cause ≡ page_fault_of kind) × NoneIsHeldFor ledger id page kind
FaultsBy (Second size) ledger id page kind cause = (cause ≡ guest_page_fault_of kind) × NoneIsHeldFor ledger id page kind
FaultsBy (Both size) ledger id page kind cause = (cause ≡ page_fault_of kind) ⊎ (cause ≡ guest_page_fault_of kind)

-- the pair whose leaf a page has
pub pair_of_leaf : (held : Option Pair) (frame : ℕ) (rights : Rights) → option_map leaf_for held ≡ Some record { frame = frame; rights = rights } → held ≡ Some (frame, rights)
pair_of_leaf None frame rights same = cc
pair_of_leaf (Some pair) frame rights same =
    let leaf : PageLeaf = record { frame = frame; rights = rights } in
    let leaves : ◌≡◌ {A = PageLeaf} (leaf_for pair) leaf = cc in
    let f : pair.0 ≡ frame = ap (λ (l : PageLeaf). l.frame) leaves in
    let r : pair.1 ≡ rights = ap (λ (l : PageLeaf). l.rights) leaves in
    ◌∙◌ {b = Some (frame, pair.1)} (ap (λ (n : ℕ). Some (n, pair.1)) f) (ap (λ (x : Rights). Some (frame, x)) r)

pub not_allowed : (b : Bool) → (b ≡ true → ⊥) → b ≡ false
not_allowed true differs = absurd (differs refl)
not_allowed false differs = refl

-- what is told of a guest page fault has that cause
pub reported_cause : (kind : AccessKind) (address : ℕ) (implicit : Bool) → (reported (guest_page_fault_of kind) address implicit).cause ≡ guest_page_fault_of kind
reported_cause Read address implicit = refl
reported_cause Write address implicit = refl

-- A FIRST STAGE
module _ (laws : WalkLaws) (size : Size) (memory : List (List ℕ)) (ledger : Ledger) (id root : ℕ) (tree : IsRoot size memory root)
    (leaves : (page : ℕ) → page < 2 ^ 52 → leaf_of (levels_of size) memory root page ≡ option_map leaf_for (held_in ledger id page))
    (inside : (page frame : ℕ) (rights : Rights) → held_in ledger id page ≡ Some (frame, rights) → frame < length memory) (address : ℕ) (kind : AccessKind) (low : address / 4096 < 2 ^ 52) where
  first_reached : (walked : Walked) → ReachesFirst (levels_of size) memory root address kind walked
      → HoldsWalked ledger (First size) id (address / 4096) (translation_of walked) × (allows walked.rights kind ≡ true)
  first_reached walked reaches =
      let leaf = (laws.reaches size memory root address kind walked).0 reaches in
      let held = pair_of_leaf (held_in ledger id (address / 4096)) walked.frame walked.rights (sym (leaves (address / 4096) low) ∙ leaf.0) in
      ((address / 4096, walked.rights, (refl, refl), held), leaf.1)

  first_stopped : (fault : WalkFault) → StopsFirst (levels_of size) memory root address kind fault → (fault.cause ≡ page_fault_of kind) × NoneIsHeldFor ledger id (address / 4096) kind
  first_stopped fault stops =
      let page = address / 4096 in
      let one = laws.one_end (levels_of size) memory root address kind fault stops in
      let none : NoneIsHeldFor ledger id page kind = λ frame held.
      let walked : Walked = record { frame = frame; rights = held.0; level = leaf_level (entries memory) root (first_path (levels_of size) address); guest_frames = replicate 4 None } in
      one.0 walked ((laws.reaches size memory root address kind walked).1
      (leaves page low ∙ ap (option_map leaf_for) held.1, held.2, inside page frame held.0 held.1, refl, refl)) in
      let faults = laws.faults size memory root address kind tree
      (λ leaf here. not_allowed (allows leaf.rights kind) (λ allowed.
      none leaf.frame (leaf.rights, pair_of_leaf (held_in ledger id page) leaf.frame leaf.rights (sym (leaves page low) ∙ here), allowed))) in
      (ap (λ (f : WalkFault). f.cause) (one.1 (record { cause = page_fault_of kind; gpa = 0; implicit = false }) faults), none)

-- A SECOND STAGE, alone or behind a guest's own tables
module _ (laws : WalkLaws) (size : Size) (memory : List (List ℕ)) (ledger : Ledger) (id root : ℕ) (tree : IsGuestRoot size memory root)
    (leaves : (page : ℕ) → page < 2 ^ 52 → leaf_of (levels_of size) memory root page ≡ option_map leaf_for (held_in ledger id page))
    (low_pages : (page : ℕ) → page_limit_of size ≤ page → held_in ledger id page ≡ None)
    (inside : (page frame : ℕ) (rights : Rights) → held_in ledger id page ≡ Some (frame, rights) → frame < length memory) where
  pub guest_mapped : (page : ℕ) → guest_leaf_of (levels_of size) memory root page ≡ option_map leaf_for (held_in ledger id page)
  guest_mapped =
      laws.guest_leaves size memory root (λ page. option_map leaf_for (held_in ledger id page)) tree leaves (λ page above. ap (option_map leaf_for) (low_pages page above))

  -- what the second stage leads to is held
  pub leads_held : (address : ℕ) (kind : AccessKind) (frame : ℕ) (rights : Rights) → LeadsTo (levels_of size) memory root address kind frame rights
      → (held_in ledger id (address / 4096) ≡ Some (frame, rights)) × (allows rights kind ≡ true)
  leads_held address kind frame rights leads =
      let leaf = (laws.guest_reaches size memory root address kind frame rights).0 leads in
      (pair_of_leaf (held_in ledger id (address / 4096)) frame rights (sym (guest_mapped (address / 4096)) ∙ leaf.0), leaf.1)

  -- it allows reads too
  pub leads_reads : (address : ℕ) (kind : AccessKind) (frame : ℕ) (rights : Rights) → LeadsTo (levels_of size) memory root address kind frame rights → allows rights Read ≡ true
  leads_reads address Read frame rights leads = (leads_held address Read frame rights leads).1
  leads_reads address Write frame rights leads =
      let walked : Walked = record { frame = frame; rights = rights; level = leaf_level (entries memory) root (second_path (levels_of size) address); guest_frames = replicate 4 None } in
      let reads = (laws.as_reads_second (levels_of size) memory root address walked).0 (record { leads = leads; level = refl; no_guest = refl }) in
      (leads_held address Read frame rights reads.0.leads).1

  module _ (address : ℕ) (kind : AccessKind) where
    second_reached : (walked : Walked) → ReachesSecond (levels_of size) memory root address kind walked
        → HoldsWalked ledger (Second size) id (address / 4096) (translation_of walked) × (allows walked.rights kind ≡ true)
    second_reached walked reaches =
        let held = leads_held address kind walked.frame walked.rights reaches.leads in
        ((address / 4096, walked.rights, (refl, refl), held.0), held.1)

    second_stopped : (fault : WalkFault) → StopsSecond (levels_of size) memory root address kind fault
        → (fault.cause ≡ guest_page_fault_of kind) × NoneIsHeldFor ledger id (address / 4096) kind
    second_stopped fault stops =
        let page = address / 4096 in
        let one = laws.one_end_second (levels_of size) memory root address kind fault stops in
        let none : NoneIsHeldFor ledger id page kind = λ frame held.
        let walked : Walked = record { frame = frame; rights = held.0; level = leaf_level (entries memory) root (second_path (levels_of size) address); guest_frames = replicate 4 None } in
        one.0 walked (record {
          leads = (laws.guest_reaches size memory root address kind frame held.0).1 (guest_mapped page ∙ ap (option_map leaf_for) held.1, held.2, inside page frame held.0 held.1);
          level = refl;
          no_guest = refl;
        }) in
        let nowhere = laws.guest_faults size memory root address kind kind tree
        (λ leaf here. not_allowed (allows leaf.rights kind) (λ allowed.
        none leaf.frame (leaf.rights, pair_of_leaf (held_in ledger id page) leaf.frame leaf.rights (sym (guest_mapped page) ∙ here), allowed))) in
        let same = one.1 (reported (guest_page_fault_of kind) address false) (guest_page_fault_of kind, nowhere, refl) in
        (ap (λ (f : WalkFault). f.cause) same ∙ reported_cause kind address false, none)

    -- what both stages give allows the access
    both_allow : (k : AccessKind) (walked : Walked) → ReachesBoth (levels_of size) (levels_of size) memory 0 root address k walked → allows walked.rights k ≡ true
    both_allow Read walked reaches = ap (λ g. allows g Read) reaches.rights ∙ by (allows reaches.given Write) (allows reaches.given' Write)
      where
        by : (a b : Bool) → allows (if a && b then rw else r) Read ≡ true
        by true true = refl
        by true false = refl
        by false b = refl
    both_allow Write walked reaches = ((laws.as_reads_both (levels_of size) (levels_of size) memory 0 root address walked).0 reaches).1

    both_reached : (walked : Walked) → ReachesBoth (levels_of size) (levels_of size) memory 0 root address kind walked
        → HoldsWalked ledger (Both size) id (address / 4096) (translation_of walked) × (allows walked.rights kind ≡ true)
    both_reached walked reaches =
        let led = (laws.led (levels_of size) (levels_of size) memory 0 root address kind walked reaches).1 in
        let held = leads_held led.0 kind walked.frame led.1 led.2 in
        let reads = leads_reads led.0 kind walked.frame led.1 led.2 in
        ((led.0 / 4096, led.1, no_less walked.rights led.1 reads led.3, held.0), both_allow kind walked reaches)
      where
        no_less : (remembered rights : Rights) → allows rights Read ≡ true → (allows remembered Write ≡ true → allows rights Write ≡ true)
            → (k : AccessKind) → allows remembered k ≡ true → allows rights k ≡ true
        no_less remembered rights reads writes Read is = reads
        no_less remembered rights reads writes Write is = writes is

    both_stopped : (fault : WalkFault) → StopsBoth (levels_of size) (levels_of size) memory 0 root address kind fault
        → (fault.cause ≡ page_fault_of kind) ⊎ (fault.cause ≡ guest_page_fault_of kind)
    both_stopped fault stops =
        laws.guest_tables size size memory 0 root address kind fault tree
        (λ page leaf here. inside page leaf.frame leaf.rights (pair_of_leaf (held_in ledger id page) leaf.frame leaf.rights (sym (guest_mapped page) ∙ here))) stops

-- BY THE MODE
module _ (laws : WalkLaws) (memory : List (List ℕ)) (owners : List (Option Owner)) (ledger : Ledger) (id : ℕ) (mode : Mode) (root : ℕ) (tables : AreTablesOf memory owners ledger id mode root)
    (inside : (page frame : ℕ) (rights : Rights) → held_in ledger id page ≡ Some (frame, rights) → frame < length memory) (address : ℕ) (kind : AccessKind) (low : address / 4096 < 2 ^ 52) where
  pub reached : (walked : Walked) → ReachesBy mode memory root address kind walked → HoldsWalked ledger mode id (address / 4096) (translation_of walked) × (allows walked.rights kind ≡ true)
  reached = by mode tables
    where
      by : (m : Mode) → AreTablesOf memory owners ledger id m root → (walked : Walked) → ReachesBy m memory root address kind walked
          → HoldsWalked ledger m id (address / 4096) (translation_of walked) × (allows walked.rights kind ≡ true)
      by (First size) tables walked reaches = first_reached laws size memory ledger id root tables.tree tables.leaves inside address kind low walked reaches
      by (Second size) tables walked reaches = second_reached laws size memory ledger id root tables.tree.0 tables.leaves tables.low inside address kind walked reaches
      by (Both size) tables walked reaches = both_reached laws size memory ledger id root tables.tree.0 tables.leaves tables.low inside address kind walked reaches

  pub stopped : (fault : WalkFault) → StopsBy mode memory root address kind fault → FaultsBy mode ledger id (address / 4096) kind fault.cause
  stopped = by mode tables
    where
      by : (m : Mode) → AreTablesOf memory owners ledger id m root → (fault : WalkFault) → StopsBy m memory root address kind fault → FaultsBy m ledger id (address / 4096) kind fault.cause
      by (First size) tables fault stops = first_stopped laws size memory ledger id root tables.tree tables.leaves inside address kind low fault stops
      by (Second size) tables fault stops = second_stopped laws size memory ledger id root tables.tree.0 tables.leaves tables.low inside address kind fault stops
      by (Both size) tables fault stops = both_stopped laws size memory ledger id root tables.tree.0 tables.leaves tables.low inside address kind fault stops
