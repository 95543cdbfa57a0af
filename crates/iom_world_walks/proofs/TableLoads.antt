-- One load of a walk that stands in tables of the driver's: the walk goes on in them, or ends by what the device holds then.
use Rattle.std.proofs.Common.{◌≡◌, ℕ, suc, ◌+◌, ◌*◌, ◌/◌, ◌%◌, ◌^◌, ◌<◌, ◌⊎◌, inl, inr, ◌∙◌, Bool, true, false, nat_lt, List, [], ◌∷◌, ◌++◌, ◌&&◌, append_assoc, length, replicate, Option, Some, None, option_map, Ok, Err, refl, sym, ap, subst, if◌then◌else◌}
use Rattle.std.specs.Bool.{⊤}
use Rattle.std.proofs.lemmas.Bool.{false≢true, leb-true}
use Rattle.iom_base.specs.Causes.{page_fault_of, guest_page_fault_of}
use Rattle.iom_base.specs.Rights.{allows, r, rw}
use Rattle.iom_base.specs.Sizes.{levels_of, page_size}
use Rattle.iom_base.specs.Tables.{access_fault_of, entry_size, table_entries}
use Rattle.iom_base.specs.declared.size.Size.{Size}
use Rattle.iom_base.specs.declared.access.AccessKind.{AccessKind}
use Rattle.iom_base.specs.declared.access.AccessKind.TheVariants.{Read, Write}
use Rattle.iom_base.specs.declared.cause.Cause.{Cause}
use Rattle.iom_base.specs.declared.mode.Mode.{Mode}
use Rattle.iom_base.specs.declared.mode.Mode.TheVariants.{First, Second, Both}
use Rattle.iom_base.specs.declared.owner.Owner.{Owner}
use Rattle.iom_base.specs.declared.rights.Rights.{Rights}
use Rattle.iom_driver.specs.Tables.{AreTablesOf, leaf_for}
use Rattle.iom_ledger.specs.Shown.{held_in}
use Rattle.iom_page_table.specs.Leaves.{leaf_of}
use Rattle.iom_page_table.specs.SecondTables.{guest_leaf_of}
use Rattle.iom_page_table.specs.Trees.{IsTableAt}
use Rattle.iom_page_table.specs.declared.leaf.PageLeaf.{PageLeaf}
use Rattle.iom_phys_mem.specs.Words.{word_at}
use Rattle.iom_stage_walk.specs.Both.{entry_address, guest_address, padded, plain, rights_of_both}
use Rattle.iom_stage_walk.specs.Entries.{entries, entry_read, slot}
use Rattle.iom_stage_walk.specs.Paths.{Reaches, StopsAs, first_path, page_in}
use Rattle.iom_stage_walk.specs.Second.{reported, second_path}
use Rattle.iom_stage_walk.specs.declared.entry.Entry.{Entry}
use Rattle.iom_stage_walk.specs.declared.entry.Entry.TheVariants.{Invalid, Leaf, Outside, Pointer}
use Rattle.iom_stage_walk.specs.declared.walked.WalkFault.{WalkFault}
use Rattle.iom_standing_walks.specs.Faults.{EntryFaultsNow, EndsAtPage, PageEndsNow, EndsWithPageFault, GuestEntryFaultsNow}
use Rattle.iom_standing_walks.specs.Judged.{FirstIsJudgedNow, SecondIsJudgedNow, IsJudgedBy, LiesIn, IsOnItsWay, HasLeafNow, EntryIsJudgedNow, PageIsJudgedNow, through}
use Rattle.iom_standing_walks.specs.Positions.{Position, ToEntry, AtEntry, ToPage, rest_of}
use Rattle.iom_standing_walks.specs.Standing.{LoadsAreOfNow}
use Rattle.iom_stepped_walk.specs.Steps.{TableAnswer}
use Rattle.iom_stepped_walk.specs.declared.tables.Asked.{Asked}
use Rattle.iom_walk_coherence.specs.Walks.{Standing, InTables, InGuestTable}
use Rattle.iom_walk_loads.specs.Loads.{Walk, Ends, ReadsEntry, ReadsContext, after_load}
use Rattle.iom_walk_loads.specs.Tables.{InBoth, at_guest_entry, faulted, first_rest, guest_down, inside, is_canonical, is_lawful, page_walk, second_rest, unreached, unread}
use Rattle.iom_walk_loads.proofs.TableLemmas.{lawful_leaf}
use Rattle.iom_iommu.specs.Service.{translation_of}
use Rattle.iom_world_effects.specs.Scenes.{Values}
use Rattle.iom_world_effects.proofs.SceneSteps.{HoldsWalked}
use Rattle.iom_world_effects.proofs.WalkLemmas.{WalkLaws, FaultsBy, NoneIsHeldFor, pair_of_leaf, reported_cause, guest_mapped, leads_reads}
use Rattle.iom_world_effects.proofs.WalkScenes.{MayGoOnThere}
use Rattle.iom_world_walks.specs.Standing.{StandsOnPath, StandsInFirst, StandsInSecond, StandsAt, StandsInBoth, StandsInMode}

-- the laws of loads in the driver's tables
pub record LoadLaws : Type 0 where
  pub loads : LoadsAreOfNow
  pub first : FirstIsJudgedNow
  pub second : SecondIsJudgedNow
  pub entry : EntryIsJudgedNow
  pub page : PageIsJudgedNow
  pub entry_faults : EntryFaultsNow
  pub page_ends : PageEndsNow
  pub guest_faults : GuestEntryFaultsNow

-- a walk that makes a load still
abbrev pub IsLoad : Walk TableAnswer → Type 0
IsLoad (Ends answer) = ⊥
IsLoad (ReadsEntry address rest) = ⊤
IsLoad (ReadsContext address rest) = ⊤

-- HOW A WALK IS after a load, that stood there before: it has ended, at a page that is held or with a page fault; or goes on, where it may come to from there
abbrev pub HasLoaded : Values → Mode → List (List ℕ) → (id root : ℕ) → Asked → Standing → Walk TableAnswer → Type 0
HasLoaded values mode memory id root asked from (Ends (Ok walked)) =
    HoldsWalked values.ledger mode id (asked.address / page_size) (translation_of walked) × (allows walked.rights asked.kind ≡ true)
HasLoaded values mode memory id root asked from (Ends (Err fault)) = FaultsBy mode values.ledger id (asked.address / page_size) asked.kind fault.cause
HasLoaded values mode memory id root asked from (ReadsEntry address rest) =
    (to : Standing) × MayGoOnThere values id from to × StandsInMode mode memory root asked (ReadsEntry address rest) to
HasLoaded values mode memory id root asked from (ReadsContext address rest) =
    (to : Standing) × MayGoOnThere values id from to × StandsInMode mode memory root asked (ReadsContext address rest) to

-- what is found of a frame, and makes no load
no_load : (frames frame : ℕ) (rights : Rights) (level : ℕ) (found : ℕ → Rights → ℕ → Walk TableAnswer) (outside : Walk TableAnswer) → (IsLoad (found frame rights level) → ⊥) → (IsLoad outside → ⊥)
    → IsLoad (inside frames found outside frame rights level) → ⊥
no_load frames frame rights level found outside at_found at_outside = by (nat_lt frame frames)
  where
    by : (b : Bool) → IsLoad (if b then found frame rights level else outside) → ⊥
    by true = at_found
    by false = at_outside

-- a step further on a path
further : (memory : List (List ℕ)) (root : ℕ) (path : List ℕ) (i : ℕ) (below : List ℕ) (next : ℕ) (done : List ℕ) → path ≡ done ++ i ∷ below → IsTableAt (entries memory) root (done ++ i ∷ []) next
    → StandsOnPath memory root path next below
further memory root path i below next done path_is at = record { done = done ++ i ∷ []; path_is = path_is ∙ sym (append_assoc done (i ∷ []) below); table_is = at }

-- what both stages allow: each kind that is remembered the leaf allows
no_less : (given rights remembered : Rights) → remembered ≡ rights_of_both given rights → allows rights Read ≡ true → (kind : AccessKind) → allows remembered kind ≡ true → allows rights kind ≡ true
no_less given rights remembered is reads Read allowed = reads
no_less given rights remembered is reads Write allowed = by (allows given Write) (allows rights Write) refl (ap (λ r. allows r Write) (sym is) ∙ allowed)
  where
    by : (a b : Bool) → allows rights Write ≡ b → allows (if a && b then rw else r) Write ≡ true → allows rights Write ≡ true
    by true true same writes = same
    by true false same writes = absurd (false≢true writes)
    by false b same writes = absurd (false≢true writes)

-- and the access that both allow
both_allow : (kind : AccessKind) (given rights remembered : Rights) → remembered ≡ rights_of_both given rights → allows given kind ≡ true → allows rights kind ≡ true → allows remembered kind ≡ true
both_allow Read given rights remembered is first second = ap (λ r. allows r Read) is ∙ by (allows given Write) (allows rights Write)
  where
    by : (a b : Bool) → allows (if a && b then rw else r) Read ≡ true
    by true true = refl
    by true false = refl
    by false b = refl
both_allow Write given rights remembered is first second =
    ap (λ r. allows r Write) is ∙ ap (λ (a : Bool). allows (if a && allows rights Write then rw else r) Write) first ∙ ap (λ (b : Bool). allows (if b then rw else r) Write) second

-- ONE STAGE
module _ (laws : LoadLaws) (walk_laws : WalkLaws) (values : Values) (memory : List (List ℕ)) (owners : List (Option Owner)) (id root : ℕ) (size : Size) (asked : Asked) (low : asked.address / page_size < 2 ^ 52)
    (within : (page frame : ℕ) (rights : Rights) → held_in values.ledger id page ≡ Some (frame, rights) → frame < length memory) where
  first_goes : (left done : List ℕ) (table : ℕ) (after : Walk TableAnswer) → first_path (levels_of size) asked.address ≡ done ++ left → IsTableAt (entries memory) root done table
      → after_load memory (first_rest (length memory) asked.kind table left) ≡ after → IsLoad after
      → (next : ℕ) × (later : List ℕ) × StandsOnPath memory root (first_path (levels_of size) asked.address) next later × (after ≡ first_rest (length memory) asked.kind next later)
  first_goes [] done table after path at is load = absurd (subst IsLoad (sym is) load)
  first_goes (i ∷ below) done table after path at is load =
      by (laws.loads memory asked.kind (page_fault_of asked.kind) (access_fault_of asked.kind) Found (λ cause. Ends (Err (plain cause))) root table done i below at)
    where
      Held : ℕ → Rights → ℕ → Walk TableAnswer
      Held frame rights level = Ends (Ok (record { frame = frame; rights = rights; level = level; guest_frames = replicate 4 None }))

      Found : ℕ → Rights → ℕ → Walk TableAnswer
      Found = inside (length memory) Held (Ends (Err (plain (access_fault_of asked.kind))))

      After : Walk TableAnswer
      After = after_load memory (first_rest (length memory) asked.kind table (i ∷ below))

      by : ((next : ℕ) × IsTableAt (entries memory) root (done ++ i ∷ []) next × (After ≡ first_rest (length memory) asked.kind next below))
          ⊎ (((frame : ℕ) × (rights : Rights) × Reaches (entries memory) asked.kind root (done ++ i ∷ below) frame rights × (After ≡ Found frame rights (length below)))
          ⊎ ((cause : Cause) × StopsAs (entries memory) asked.kind (page_fault_of asked.kind) (access_fault_of asked.kind) root (done ++ i ∷ below) cause × (After ≡ Ends (Err (plain cause)))))
          → (next : ℕ) × (later : List ℕ) × StandsOnPath memory root (first_path (levels_of size) asked.address) next later × (after ≡ first_rest (length memory) asked.kind next later)
      by (inl (next, there, same)) = (next, below, further memory root (first_path (levels_of size) asked.address) i below next done path there, sym is ∙ same)
      by (inr (inl (frame, rights, reaches, same))) =
          absurd (no_load (length memory) frame rights (length below) Held (Ends (Err (plain (access_fault_of asked.kind)))) (λ x. x) (λ x. x) (subst IsLoad (sym is ∙ same) load))
      by (inr (inr (cause, stops, same))) = absurd (subst IsLoad (sym is ∙ same) load)

  -- a leaf that maps what is held lies in memory
  lies : (leaf : Option PageLeaf) (page : ℕ) → leaf ≡ option_map leaf_for (held_in values.ledger id page) → LiesIn memory leaf
  lies leaf page mapped own is = within page own.frame own.rights (pair_of_leaf (held_in values.ledger id page) own.frame own.rights (sym mapped ∙ is))

  -- nothing is held there with that right, where no leaf allows it
  none_held : (leaf : Option PageLeaf) (page : ℕ) → leaf ≡ option_map leaf_for (held_in values.ledger id page) → ((own : PageLeaf) → leaf ≡ Some own → allows own.rights asked.kind ≡ false)
      → NoneIsHeldFor values.ledger id page asked.kind
  none_held leaf page mapped none frame (rights, held, allowed) =
      false≢true (sym (none (record { frame = frame; rights = rights }) (mapped ∙ ap (option_map leaf_for) held)) ∙ allowed)

  module _ (tables : AreTablesOf memory owners values.ledger id (First size) root) where
    abbrev first_page : ℕ
    first_page = asked.address / page_size

    first_told : (answer : TableAnswer) → IsJudgedBy (leaf_of (levels_of size) memory root (asked.address / page_size)) asked.kind (plain (page_fault_of asked.kind)) answer
        → HasLoaded values (First size) memory id root asked InTables (Ends answer)
    first_told (Ok walked) (leaf, allowed) =
        ((first_page, walked.rights, (refl, refl), pair_of_leaf (held_in values.ledger id first_page) walked.frame walked.rights (sym (tables.leaves first_page low) ∙ leaf)), allowed)
    first_told (Err fault) (is, none) =
        (ap (λ (f : WalkFault). f.cause) is, none_held (leaf_of (levels_of size) memory root first_page) first_page (tables.leaves first_page low) none)

    first_on : (after : Walk TableAnswer) → IsLoad after
        → (next : ℕ) × (later : List ℕ) × StandsOnPath memory root (first_path (levels_of size) asked.address) next later × (after ≡ first_rest (length memory) asked.kind next later)
        → is_canonical (levels_of size) asked.address ≡ true → HasLoaded values (First size) memory id root asked InTables after
    first_on (Ends answer) load goes canonical = absurd load
    first_on (ReadsEntry address rest) load (next, later, on_path, same) canonical =
        (InTables, tt, record { table = next; left = later; in_tables = refl; canonical = canonical; on_path = on_path; remains = same })
    first_on (ReadsContext address rest) load (next, later, on_path, same) canonical =
        (InTables, tt, record { table = next; left = later; in_tables = refl; canonical = canonical; on_path = on_path; remains = same })

    -- A FIRST STAGE
    pub first_loaded : (rest : Walk TableAnswer) (from : Standing) → StandsInFirst size memory root asked rest from → HasLoaded values (First size) memory id root asked InTables (after_load memory rest)
    first_loaded rest from stands = by (after_load memory rest) refl
      where
        now : after_load memory (first_rest (length memory) asked.kind stands.table stands.left) ≡ after_load memory rest
        now = ap (after_load memory) (sym stands.remains)

        by : (after : Walk TableAnswer) → after_load memory rest ≡ after → HasLoaded values (First size) memory id root asked InTables after
        by (Ends answer) is =
            first_told answer
            (laws.first size memory root asked.address asked.kind stands.table stands.on_path.done stands.left answer tables.tree (lies (leaf_of (levels_of size) memory root first_page) first_page (tables.leaves first_page low))
            stands.canonical stands.on_path.path_is stands.on_path.table_is (now ∙ is))
        by (ReadsEntry address later) is =
            first_on (ReadsEntry address later) tt (first_goes stands.left stands.on_path.done stands.table (ReadsEntry address later) stands.on_path.path_is stands.on_path.table_is (now ∙ is) tt) stands.canonical
        by (ReadsContext address later) is =
            first_on (ReadsContext address later) tt (first_goes stands.left stands.on_path.done stands.table (ReadsContext address later) stands.on_path.path_is stands.on_path.table_is (now ∙ is) tt) stands.canonical

  -- A SECOND STAGE
  second_goes : (left done : List ℕ) (table : ℕ) (after : Walk TableAnswer) → second_path (levels_of size) asked.address ≡ done ++ left → IsTableAt (entries memory) root done table
      → after_load memory (second_rest (length memory) asked.kind asked.address table left) ≡ after → IsLoad after
      → (next : ℕ) × (later : List ℕ) × StandsOnPath memory root (second_path (levels_of size) asked.address) next later
      × (after ≡ second_rest (length memory) asked.kind asked.address next later)
  second_goes [] done table after path at is load = absurd (subst IsLoad (sym is) load)
  second_goes (i ∷ below) done table after path at is load =
      by (laws.loads memory asked.kind (guest_page_fault_of asked.kind) (access_fault_of asked.kind) Found Stopped root table done i below at)
    where
      Held : ℕ → Rights → ℕ → Walk TableAnswer
      Held frame rights level = Ends (Ok (record { frame = frame; rights = rights; level = level; guest_frames = replicate 4 None }))

      Stopped : Cause → Walk TableAnswer
      Stopped cause = Ends (Err (reported cause asked.address false))

      Found : ℕ → Rights → ℕ → Walk TableAnswer
      Found = inside (length memory) Held (Stopped (access_fault_of asked.kind))

      After : Walk TableAnswer
      After = after_load memory (second_rest (length memory) asked.kind asked.address table (i ∷ below))

      by : ((next : ℕ) × IsTableAt (entries memory) root (done ++ i ∷ []) next × (After ≡ second_rest (length memory) asked.kind asked.address next below))
          ⊎ (((frame : ℕ) × (rights : Rights) × Reaches (entries memory) asked.kind root (done ++ i ∷ below) frame rights × (After ≡ Found frame rights (length below)))
          ⊎ ((cause : Cause) × StopsAs (entries memory) asked.kind (guest_page_fault_of asked.kind) (access_fault_of asked.kind) root (done ++ i ∷ below) cause × (After ≡ Stopped cause)))
          → (next : ℕ) × (later : List ℕ) × StandsOnPath memory root (second_path (levels_of size) asked.address) next later
          × (after ≡ second_rest (length memory) asked.kind asked.address next later)
      by (inl (next, there, same)) = (next, below, further memory root (second_path (levels_of size) asked.address) i below next done path there, sym is ∙ same)
      by (inr (inl (frame, rights, reaches, same))) =
          absurd (no_load (length memory) frame rights (length below) Held (Stopped (access_fault_of asked.kind)) (λ x. x) (λ x. x) (subst IsLoad (sym is ∙ same) load))
      by (inr (inr (cause, stops, same))) = absurd (subst IsLoad (sym is ∙ same) load)

  module _ (tables : AreTablesOf memory owners values.ledger id (Second size) root) where
    second_mapped : (page : ℕ) → guest_leaf_of (levels_of size) memory root page ≡ option_map leaf_for (held_in values.ledger id page)
    second_mapped = guest_mapped walk_laws size memory values.ledger id root tables.tree.0 tables.leaves tables.low within

    second_told : (answer : TableAnswer)
        → IsJudgedBy (guest_leaf_of (levels_of size) memory root (asked.address / page_size)) asked.kind (reported (guest_page_fault_of asked.kind) asked.address false) answer
        → HasLoaded values (Second size) memory id root asked InTables (Ends answer)
    second_told (Ok walked) (leaf, allowed) =
        let page = asked.address / page_size in
        ((page, walked.rights, (refl, refl), pair_of_leaf (held_in values.ledger id page) walked.frame walked.rights (sym (second_mapped page) ∙ leaf)), allowed)
    second_told (Err fault) (is, none) =
        let page = asked.address / page_size in (
          ap (λ (f : WalkFault). f.cause) is ∙ reported_cause asked.kind asked.address false,
          none_held (guest_leaf_of (levels_of size) memory root page) page (second_mapped page) none,
        )

    second_on : (after : Walk TableAnswer) → IsLoad after
        → (next : ℕ) × (later : List ℕ) × StandsOnPath memory root (second_path (levels_of size) asked.address) next later
        × (after ≡ second_rest (length memory) asked.kind asked.address next later)
        → asked.address < 2 ^ (9 * levels_of size + 14) → HasLoaded values (Second size) memory id root asked InTables after
    second_on (Ends answer) load goes physical = absurd load
    second_on (ReadsEntry address rest) load (next, later, on_path, same) physical =
        (InTables, tt, record { table = next; left = later; in_tables = refl; physical = physical; on_path = on_path; remains = same })
    second_on (ReadsContext address rest) load (next, later, on_path, same) physical =
        (InTables, tt, record { table = next; left = later; in_tables = refl; physical = physical; on_path = on_path; remains = same })

    pub second_loaded : (rest : Walk TableAnswer) (from : Standing) → StandsInSecond size memory root asked rest from → HasLoaded values (Second size) memory id root asked InTables (after_load memory rest)
    second_loaded rest from stands = by (after_load memory rest) refl
      where
        page : ℕ
        page = asked.address / page_size

        now : after_load memory (second_rest (length memory) asked.kind asked.address stands.table stands.left) ≡ after_load memory rest
        now = ap (after_load memory) (sym stands.remains)

        by : (after : Walk TableAnswer) → after_load memory rest ≡ after → HasLoaded values (Second size) memory id root asked InTables after
        by (Ends answer) is =
            second_told answer
            (laws.second size memory root asked.address asked.kind stands.table stands.on_path.done stands.left answer tables.tree.0 (lies (guest_leaf_of (levels_of size) memory root page) page (second_mapped page))
            stands.physical stands.on_path.path_is stands.on_path.table_is (now ∙ is))
        by (ReadsEntry address later) is =
            second_on (ReadsEntry address later) tt (second_goes stands.left stands.on_path.done stands.table (ReadsEntry address later) stands.on_path.path_is stands.on_path.table_is (now ∙ is) tt) stands.physical
        by (ReadsContext address later) is =
            second_on (ReadsContext address later) tt (second_goes stands.left stands.on_path.done stands.table (ReadsContext address later) stands.on_path.path_is stands.on_path.table_is (now ∙ is) tt) stands.physical

  -- BOTH STAGES
  module _ (tables : AreTablesOf memory owners values.ledger id (Both size) root) where
    abbrev w : InBoth
    w = through size memory root asked.address asked.kind

    both_mapped : (page : ℕ) → guest_leaf_of (levels_of size) memory root page ≡ option_map leaf_for (held_in values.ledger id page)
    both_mapped = guest_mapped walk_laws size memory values.ledger id root tables.tree.0 tables.leaves tables.low within

    held_now : (address : ℕ) (kind : AccessKind) (frame : ℕ) (rights : Rights) → HasLeafNow size memory root address kind frame rights → held_in values.ledger id (address / page_size) ≡ Some (frame, rights)
    held_now address kind frame rights leaf = pair_of_leaf (held_in values.ledger id (address / page_size)) frame rights (sym (both_mapped (address / page_size)) ∙ leaf.0)

    -- what stands somewhere in both stages goes on
    both_on : (from to : Standing) (after : Walk TableAnswer) → StandsInBoth size memory root asked after to → MayGoOnThere values id from to → IsLoad after → HasLoaded values (Both size) memory id root asked from after
    both_on from to (Ends answer) stands may load = absurd load
    both_on from to (ReadsEntry address rest) stands may load = (to, may, stands)
    both_on from to (ReadsContext address rest) stands may load = (to, may, stands)

    -- a page fault of the second stage
    second_fault : (from : Standing) (address : ℕ) (implicit : Bool) (answer : TableAnswer) → answer ≡ Err (reported (guest_page_fault_of asked.kind) address implicit)
        → HasLoaded values (Both size) memory id root asked from (Ends answer)
    second_fault from address implicit answer is =
        subst (λ a. HasLoaded values (Both size) memory id root asked from (Ends a)) (sym is) (inr (reported_cause asked.kind address implicit))

    -- ON THE WAY TO AN ENTRY of a guest's table
    entry_on : (loaded : List ℕ) (guest i : ℕ) (below : List ℕ) (table : ℕ) (done : List ℕ) (j : ℕ) (left : List ℕ) (after : Walk TableAnswer)
        → IsOnItsWay size memory root (entry_address (slot guest i)) table done (j ∷ left) → after_load memory (rest_of w (ToEntry loaded guest i below table (j ∷ left))) ≡ after → IsLoad after
        → HasLoaded values (Both size) memory id root asked InTables after
    entry_on loaded guest i below table done j left after way is load = by (laws.entry size memory root asked.address asked.kind loaded guest i below table done j left way)
      where
        address : ℕ
        address = entry_address (slot guest i)

        After : Walk TableAnswer
        After = after_load memory (rest_of w (ToEntry loaded guest i below table (j ∷ left)))

        by : ((next : ℕ) × IsOnItsWay size memory root address next (done ++ j ∷ []) left × (After ≡ rest_of w (ToEntry loaded guest i below next left)))
            ⊎ (((frame : ℕ) × (rights : Rights) × HasLeafNow size memory root address Read frame rights × (After ≡ rest_of w (AtEntry loaded guest i below frame)))
            ⊎ ((fault : WalkFault) × (After ≡ Ends (Err fault)))) → HasLoaded values (Both size) memory id root asked InTables after
        by (inl (next, further_on, same)) = both_on InTables InTables after (record { position = ToEntry loaded guest i below next left; stands = (refl, done ++ j ∷ [], further_on); remains = sym is ∙ same }) tt load
        by (inr (inl (frame, rights, leaf, same))) =
            let held = held_now address Read frame rights leaf in
            both_on InTables (InGuestTable frame) after (record { position = AtEntry loaded guest i below frame; stands = (refl, within (address / page_size) frame rights held); remains = sym is ∙ same })
            (address / page_size, rights, held, leaf.1) load
        by (inr (inr (fault, same))) = absurd (subst IsLoad (sym is ∙ same) load)

    toward_entry : (loaded : List ℕ) (guest i : ℕ) (below : List ℕ) (table : ℕ) (done left : List ℕ) (after : Walk TableAnswer) → IsOnItsWay size memory root (entry_address (slot guest i)) table done left
        → after_load memory (rest_of w (ToEntry loaded guest i below table left)) ≡ after → HasLoaded values (Both size) memory id root asked InTables after
    toward_entry loaded guest i below table done [] after way is =
        subst (HasLoaded values (Both size) memory id root asked InTables) is (second_fault InTables (entry_address (slot guest i)) true (Err (reported (guest_page_fault_of asked.kind) (entry_address (slot guest i)) true)) refl)
    toward_entry loaded guest i below table done (j ∷ left) (Ends answer) way is =
        let page = entry_address (slot guest i) / page_size in
        second_fault InTables (entry_address (slot guest i)) true answer
        (laws.entry_faults size memory root asked.address asked.kind loaded guest i below table done j left answer tables.tree.0
        (lies (guest_leaf_of (levels_of size) memory root page) page (both_mapped page)) way is).1
    toward_entry loaded guest i below table done (j ∷ left) (ReadsEntry address rest) way is = entry_on loaded guest i below table done j left (ReadsEntry address rest) way is tt
    toward_entry loaded guest i below table done (j ∷ left) (ReadsContext address rest) way is = entry_on loaded guest i below table done j left (ReadsContext address rest) way is tt

    -- FROM THE ROOT of the second stage: to an entry of a guest's table
    pub downward : (loaded : List ℕ) (next : ℕ) (indices : List ℕ) (after : Walk TableAnswer) → guest_down w loaded next indices ≡ after → IsLoad after → StandsInBoth size memory root asked after InTables
    downward loaded next [] after is load = absurd (subst IsLoad (sym is) load)
    downward loaded next (k ∷ later) after is load = by (nat_lt (entry_address (slot next k)) (2 ^ (9 * levels_of size + 14))) refl is
      where
        path : List ℕ
        path = second_path (levels_of size) (entry_address (slot next k))

        by : (b : Bool) → nat_lt (entry_address (slot next k)) (2 ^ (9 * levels_of size + 14)) ≡ b
            → (if b then rest_of w (ToEntry loaded next k later root path) else unread w next k (guest_page_fault_of asked.kind)) ≡ after → StandsInBoth size memory root asked after InTables
        by true small same = record {
          position = ToEntry loaded next k later root path;
          stands = (refl, [], (leb-true (suc (entry_address (slot next k))) (2 ^ (9 * levels_of size + 14)) small, refl, refl));
          remains = sym same;
        }
        by false small same = absurd (subst IsLoad (sym same) load)

    -- or to the page
    pageward : (loaded : List ℕ) (page : ℕ) (given : Rights) (level : ℕ) (after : Walk TableAnswer) → allows given asked.kind ≡ true → page_walk w loaded page given level ≡ after → IsLoad after
        → StandsInBoth size memory root asked after InTables
    pageward loaded page given level after allowed is load = by (nat_lt (guest_address page asked.address) (2 ^ (9 * levels_of size + 14))) refl is
      where
        path : List ℕ
        path = second_path (levels_of size) (guest_address page asked.address)

        by : (b : Bool) → nat_lt (guest_address page asked.address) (2 ^ (9 * levels_of size + 14)) ≡ b
            → (if b then rest_of w (ToPage loaded page given level root path) else unreached w page (guest_page_fault_of asked.kind)) ≡ after → StandsInBoth size memory root asked after InTables
        by true small same = record {
          position = ToPage loaded page given level root path;
          stands = (refl, allowed, [], (leb-true (suc (guest_address page asked.address)) (2 ^ (9 * levels_of size + 14)) small, refl, refl));
          remains = sym same;
        }
        by false small same = absurd (subst IsLoad (sym same) load)

    -- AT AN ENTRY of a guest's table
    guest_on : (loaded : List ℕ) (guest i : ℕ) (below : List ℕ) (frame : ℕ) (after : Walk TableAnswer) → after_load memory (rest_of w (AtEntry loaded guest i below frame)) ≡ after → IsLoad after
        → HasLoaded values (Both size) memory id root asked (InGuestTable frame) after
    guest_on loaded guest i below frame after is load = by (entry_read (word_at entry_size memory (entry_size * slot frame (slot guest i % table_entries)))) is
      where
        now : List ℕ
        now = loaded ++ frame ∷ []

        leaf : (base : ℕ) (rights : Rights) (b : Bool) → is_lawful asked.kind base rights below ≡ b
            → (if b then page_walk w now (base + page_in below) rights (length below) else faulted w) ≡ after → HasLoaded values (Both size) memory id root asked (InGuestTable frame) after
        leaf base rights true lawful same =
            both_on (InGuestTable frame) InTables after (pageward now (base + page_in below) rights (length below) after (lawful_leaf asked.kind base rights below lawful).allowed same load) tt load
        leaf base rights false lawful same = absurd (subst IsLoad (sym same) load)

        by : (e : Entry) → at_guest_entry w now below (λ next. guest_down w now next below) e ≡ after → HasLoaded values (Both size) memory id root asked (InGuestTable frame) after
        by Outside same = absurd (subst IsLoad (sym same) load)
        by Invalid same = absurd (subst IsLoad (sym same) load)
        by (Pointer next) same = both_on (InGuestTable frame) InTables after (downward now next below after same load) tt load
        by (Leaf base rights) same = leaf base rights (is_lawful asked.kind base rights below) refl same

    guest_told : (frame : ℕ) (answer : TableAnswer) → EndsWithPageFault asked.kind answer → HasLoaded values (Both size) memory id root asked (InGuestTable frame) (Ends answer)
    guest_told frame (Ok walked) faulted_so = absurd faulted_so
    guest_told frame (Err fault) faulted_so = faulted_so

    at_guest : (loaded : List ℕ) (guest i : ℕ) (below : List ℕ) (frame : ℕ) (after : Walk TableAnswer) → frame < length memory → after_load memory (rest_of w (AtEntry loaded guest i below frame)) ≡ after
        → HasLoaded values (Both size) memory id root asked (InGuestTable frame) after
    at_guest loaded guest i below frame (Ends answer) here is =
        guest_told frame answer (laws.guest_faults size memory root asked.address asked.kind loaded guest i below frame answer here is)
    at_guest loaded guest i below frame (ReadsEntry address rest) here is = guest_on loaded guest i below frame (ReadsEntry address rest) is tt
    at_guest loaded guest i below frame (ReadsContext address rest) here is = guest_on loaded guest i below frame (ReadsContext address rest) is tt

    -- ON THE WAY TO THE PAGE
    page_on : (loaded : List ℕ) (page : ℕ) (given : Rights) (level table : ℕ) (done : List ℕ) (j : ℕ) (left : List ℕ) (after : Walk TableAnswer) → allows given asked.kind ≡ true
        → IsOnItsWay size memory root (guest_address page asked.address) table done (j ∷ left) → after_load memory (rest_of w (ToPage loaded page given level table (j ∷ left))) ≡ after → IsLoad after
        → HasLoaded values (Both size) memory id root asked InTables after
    page_on loaded page given level table done j left after allowed way is load = by (laws.page size memory root asked.address asked.kind loaded page given level table done j left way)
      where
        After : Walk TableAnswer
        After = after_load memory (rest_of w (ToPage loaded page given level table (j ∷ left)))

        by : ((next : ℕ) × IsOnItsWay size memory root (guest_address page asked.address) next (done ++ j ∷ []) left × (After ≡ rest_of w (ToPage loaded page given level next left)))
            ⊎ (((frame : ℕ) × (rights : Rights) × HasLeafNow size memory root (guest_address page asked.address) asked.kind frame rights
            × (After ≡ Ends (Ok (record { frame = frame; rights = rights_of_both given rights; level = level; guest_frames = padded 4 loaded }))))
            ⊎ ((fault : WalkFault) × (After ≡ Ends (Err fault)))) → HasLoaded values (Both size) memory id root asked InTables after
        by (inl (next, further_on, same)) = both_on InTables InTables after (record { position = ToPage loaded page given level next left; stands = (refl, allowed, done ++ j ∷ [], further_on); remains = sym is ∙ same }) tt load
        by (inr (inl (frame, rights, leaf, same))) = absurd (subst IsLoad (sym is ∙ same) load)
        by (inr (inr (fault, same))) = absurd (subst IsLoad (sym is ∙ same) load)

    -- what is remembered of it allows no more than its leaf
    page_told : (guest : ℕ) (given : Rights) → allows given asked.kind ≡ true → (answer : TableAnswer) → EndsAtPage size memory root guest asked.kind given answer
        → HasLoaded values (Both size) memory id root asked InTables (Ends answer)
    page_told guest given allowed (Err fault) (none, is) = inr (ap (λ (f : WalkFault). f.cause) is ∙ reported_cause asked.kind guest false)
    page_told guest given allowed (Ok walked) (rights, leaf, rights_is) =
        let held = held_now guest asked.kind walked.frame rights leaf in
        let leads = (walk_laws.guest_reaches size memory root guest asked.kind walked.frame rights).1 (leaf.0, leaf.1, within (guest / page_size) walked.frame rights held) in
        let reads = leads_reads walk_laws size memory values.ledger id root tables.tree.0 tables.leaves tables.low within guest asked.kind walked.frame rights leads in
        ((guest / page_size, rights, no_less given rights walked.rights rights_is reads, held), both_allow asked.kind given rights walked.rights rights_is allowed leaf.1)

    toward_page : (loaded : List ℕ) (page : ℕ) (given : Rights) (level table : ℕ) (done left : List ℕ) (after : Walk TableAnswer) → allows given asked.kind ≡ true
        → IsOnItsWay size memory root (guest_address page asked.address) table done left → after_load memory (rest_of w (ToPage loaded page given level table left)) ≡ after
        → HasLoaded values (Both size) memory id root asked InTables after
    toward_page loaded page given level table done [] after allowed way is =
        subst (HasLoaded values (Both size) memory id root asked InTables) is
        (second_fault InTables (guest_address page asked.address) false (Err (reported (guest_page_fault_of asked.kind) (guest_address page asked.address) false)) refl)
    toward_page loaded page given level table done (j ∷ left) (Ends answer) allowed way is =
        let guest = guest_address page asked.address in
        page_told guest given allowed answer
        (laws.page_ends size memory root asked.address asked.kind loaded page given level table done j left answer tables.tree.0
        (lies (guest_leaf_of (levels_of size) memory root (guest / page_size)) (guest / page_size) (both_mapped (guest / page_size))) way is)
    toward_page loaded page given level table done (j ∷ left) (ReadsEntry address rest) allowed way is = page_on loaded page given level table done j left (ReadsEntry address rest) allowed way is tt
    toward_page loaded page given level table done (j ∷ left) (ReadsContext address rest) allowed way is = page_on loaded page given level table done j left (ReadsContext address rest) allowed way is tt

    pub both_loaded : (rest : Walk TableAnswer) (from : Standing) → StandsInBoth size memory root asked rest from → HasLoaded values (Both size) memory id root asked from (after_load memory rest)
    both_loaded rest from stands = by stands.position stands.stands (ap (after_load memory) (sym stands.remains))
      where
        by : (position : Position) → StandsAt size memory root asked position from → after_load memory (rest_of w position) ≡ after_load memory rest → HasLoaded values (Both size) memory id root asked from (after_load memory rest)
        by (ToEntry loaded guest i below table left) (is, done, way) same =
            subst (λ standing. HasLoaded values (Both size) memory id root asked standing (after_load memory rest)) (sym is) (toward_entry loaded guest i below table done left (after_load memory rest) way same)
        by (AtEntry loaded guest i below frame) (is, here) same =
            subst (λ standing. HasLoaded values (Both size) memory id root asked standing (after_load memory rest)) (sym is) (at_guest loaded guest i below frame (after_load memory rest) here same)
        by (ToPage loaded page given level table left) (is, allowed, done, way) same =
            subst (λ standing. HasLoaded values (Both size) memory id root asked standing (after_load memory rest)) (sym is) (toward_page loaded page given level table done left (after_load memory rest) allowed way same)

-- IN EACH MODE
pub tables_loaded : LoadLaws → WalkLaws → (values : Values) (memory : List (List ℕ)) (owners : List (Option Owner)) (id root : ℕ) (mode : Mode) (asked : Asked) → asked.address / page_size < 2 ^ 52
    → ((page frame : ℕ) (rights : Rights) → held_in values.ledger id page ≡ Some (frame, rights) → frame < length memory) → AreTablesOf memory owners values.ledger id mode root
    → (rest : Walk TableAnswer) (from : Standing) → StandsInMode mode memory root asked rest from → HasLoaded values mode memory id root asked from (after_load memory rest)
tables_loaded laws walk_laws values memory owners id root (First size) asked low within tables rest from stands =
    subst (λ standing. HasLoaded values (First size) memory id root asked standing (after_load memory rest)) (sym stands.in_tables)
    (first_loaded laws walk_laws values memory owners id root size asked low within tables rest from stands)
tables_loaded laws walk_laws values memory owners id root (Second size) asked low within tables rest from stands =
    subst (λ standing. HasLoaded values (Second size) memory id root asked standing (after_load memory rest)) (sym stands.in_tables)
    (second_loaded laws walk_laws values memory owners id root size asked low within tables rest from stands)
tables_loaded laws walk_laws values memory owners id root (Both size) asked low within tables rest from stands =
    both_loaded laws walk_laws values memory owners id root size asked low within tables rest from stands
