-- A walk of tables at its beginning: it stands at the root, or faults at once, where the address is none that the tables translate.
use Rattle.std.proofs.Common.{◌≡◌, ℕ, suc, ◌+◌, ◌*◌, ◌/◌, ◌%◌, ◌^◌, ◌<◌, ◌⊎◌, inl, inr, Bool, true, false, nat_lt, List, [], ◌∷◌, length, replicate, Option, Some, None, Ok, Err, refl, sym, ap, subst, arith, if◌then◌else◌}
use Rattle.std.specs.Bool.{⊤}
use Rattle.std.proofs.lemmas.Bool.{leb-true}
use Rattle.iom_base.specs.Causes.{page_fault_of, guest_page_fault_of}
use Rattle.iom_base.specs.Modes.{size_in}
use Rattle.iom_base.specs.Sizes.{levels_of, page_size}
use Rattle.iom_base.specs.declared.size.Size.{Size}
use Rattle.iom_base.specs.declared.access.AccessKind.{AccessKind}
use Rattle.iom_base.specs.declared.access.AccessKind.TheVariants.{Read}
use Rattle.iom_base.specs.declared.cause.Cause.{Cause}
use Rattle.iom_base.specs.declared.mode.Mode.{Mode}
use Rattle.iom_base.specs.declared.mode.Mode.TheVariants.{First, Second, Both}
use Rattle.iom_base.specs.declared.owner.Owner.{Owner}
use Rattle.iom_base.specs.declared.rights.Rights.{Rights}
use Rattle.iom_base.specs.PageNumbers.{page_from}
use Rattle.iom_device_dir.specs.Values.{guest_root_from}
use Rattle.iom_driver.specs.Directory.{context_in}
use Rattle.iom_driver.specs.Tables.{AreTablesOf}
use Rattle.iom_ledger.specs.Shown.{held_in}
use Rattle.iom_stage_walk.specs.Both.{entry_address, plain}
use Rattle.iom_stage_walk.specs.Entries.{slot}
use Rattle.iom_stage_walk.specs.Paths.{first_path}
use Rattle.iom_stage_walk.specs.Second.{reported, second_path}
use Rattle.iom_stage_walk.specs.declared.walked.WalkFault.{WalkFault}
use Rattle.iom_standing_walks.specs.Judged.{through}
use Rattle.iom_stepped_requests.specs.Serving.{space_of}
use Rattle.iom_stepped_walk.specs.Steps.{TableAnswer}
use Rattle.iom_stepped_walk.specs.declared.tables.Asked.{Asked}
use Rattle.iom_tlb.specs.declared.space.Space.TheVariants as space
use Rattle.iom_walk_coherence.specs.Walks.{InTables}
use Rattle.iom_walk_loads.specs.Loads.{Walk, Ends, ReadsEntry, ReadsContext, made_from}
use Rattle.iom_walk_loads.specs.Tables.{InBoth, both_walk, first_rest, first_walk, guest_down, guest_load, is_canonical, lead_rest, second_rest, second_walk, unread}
use Rattle.iom_walk_loads.proofs.WholeLemmas.{first_is_whole, second_is_whole, both_is_whole}
use Rattle.iom_walk_stops.specs.Stages.{page_of, walk_of}
use Rattle.iom_walk_stops.specs.declared.stages.Stages as walk
use Rattle.iom_walk_stops.specs.declared.stages.Stages.TheVariants as stages
use Rattle.iom_world_effects.specs.Read.{space_in}
use Rattle.iom_world_effects.specs.Scenes.{Values}
use Rattle.iom_world_effects.proofs.WalkLemmas.{WalkLaws, FaultsBy, stopped}
use Rattle.iom_world_walks.specs.Standing.{StandsInMode}
use Rattle.iom_world_walks.proofs.TableLoads.{LoadLaws, IsLoad, downward}

-- the stages of a context that the driver writes, as a walk has them
abbrev pub named_in : Mode → ℕ → walk.Stages
named_in (First size) root = stages.First size (page_from 0 root)
named_in (Second size) root = stages.Second size (page_of (guest_root_from root))
named_in (Both size) root = stages.Both size (page_from 0 0) size (page_of (guest_root_from root))

-- their walk, from the root that the driver has; in both stages the guest's tables begin at its page 0
abbrev pub walk_in : Mode → ℕ → ℕ → ℕ → AccessKind → Walk TableAnswer
walk_in (First size) frames root address kind = first_walk frames (levels_of size) root address kind
walk_in (Second size) frames root address kind = second_walk frames (levels_of size) root address kind
walk_in (Both size) frames root address kind = both_walk frames (levels_of size) (levels_of size) 0 root address kind

pub walk_named : (mode : Mode) (frames root address : ℕ) (kind : AccessKind) → root < 2 ^ 44 → (mode ≡ First (size_in mode)) ⊎ (root % 4 ≡ 0)
    → walk_of frames (named_in mode root) address kind ≡ walk_in mode frames root address kind
walk_named (First size) frames root address kind low aligned =
    let at : root / 2 ^ 0 % 2 ^ 44 ≡ root = omega (arith, low) in ap (λ n. first_walk frames (levels_of size) n address kind) at
walk_named (Second size) frames root address kind low (inl first) = cc
walk_named (Second size) frames root address kind low (inr aligned) =
    let at : 4 * (root / 4 % 2 ^ 42) ≡ root = omega (arith, low, aligned) in ap (λ n. second_walk frames (levels_of size) n address kind) at
walk_named (Both size) frames root address kind low (inl first) = cc
walk_named (Both size) frames root address kind low (inr aligned) =
    let at : 4 * (root / 4 % 2 ^ 42) ≡ root = omega (arith, low, aligned) in ap (λ n. both_walk frames (levels_of size) (levels_of size) 0 n address kind) at

pub space_named : (mode : Mode) (root number : ℕ) (ats : Bool) → number < 2 ^ 20 → space_of (context_in mode root number ats) (named_in mode root) ≡ space_in mode number
space_named (First size) root number ats few = let at : number / 2 ^ 0 % 2 ^ 20 ≡ number = omega (arith, few) in ap space.First at
space_named (Second size) root number ats few = refl
space_named (Both size) root number ats few = let at : number / 2 ^ 0 % 2 ^ 20 ≡ number = omega (arith, few) in ap (space.Both number) at

-- HOW A WALK IS at its beginning
abbrev pub HasBegun : Values → Mode → List (List ℕ) → (id root : ℕ) → Asked → Walk TableAnswer → Type 0
HasBegun values mode memory id root asked (Ends (Ok walked)) = ⊥
HasBegun values mode memory id root asked (Ends (Err fault)) = FaultsBy mode values.ledger id (asked.address / page_size) asked.kind fault.cause
HasBegun values mode memory id root asked (ReadsEntry address rest) = StandsInMode mode memory root asked (ReadsEntry address rest) InTables
HasBegun values mode memory id root asked (ReadsContext address rest) = StandsInMode mode memory root asked (ReadsContext address rest) InTables

-- no walk reaches a page without a load
abbrev IsReached : Walk TableAnswer → Type 0
IsReached (Ends (Ok walked)) = ⊤
IsReached (Ends (Err fault)) = ⊥
IsReached (ReadsEntry address rest) = ⊥
IsReached (ReadsContext address rest) = ⊥

first_unreached : (frames : ℕ) (kind : AccessKind) (table : ℕ) (left : List ℕ) → IsReached (first_rest frames kind table left) → ⊥
first_unreached frames kind table [] is = is
first_unreached frames kind table (i ∷ below) is = is

lead_unreached : (frames : ℕ) (kind original : AccessKind) (found : ℕ → Rights → ℕ → Walk TableAnswer) (stopped : Cause → Walk TableAnswer) (table : ℕ) (left : List ℕ) → ((cause : Cause) → IsReached (stopped cause) → ⊥)
    → IsReached (lead_rest frames kind original found stopped table left) → ⊥
lead_unreached frames kind original found stopped table [] none is = none (guest_page_fault_of original) is
lead_unreached frames kind original found stopped table (i ∷ below) none is = is

module _ (laws : LoadLaws) (walk_laws : WalkLaws) (values : Values) (memory : List (List ℕ)) (owners : List (Option Owner)) (id root : ℕ) (asked : Asked) (low : asked.address / page_size < 2 ^ 52)
    (within : (page frame : ℕ) (rights : Rights) → held_in values.ledger id page ≡ Some (frame, rights) → frame < length memory) where
  -- a first stage
  first_stands : (size : Size) (after : Walk TableAnswer) → first_walk (length memory) (levels_of size) root asked.address asked.kind ≡ after → IsLoad after → StandsInMode (First size) memory root asked after InTables
  first_stands size after is load = by (is_canonical (levels_of size) asked.address) refl is
    where
      by : (b : Bool) → is_canonical (levels_of size) asked.address ≡ b
          → (if b then first_rest (length memory) asked.kind root (first_path (levels_of size) asked.address) else Ends (Err (plain (page_fault_of asked.kind)))) ≡ after
          → StandsInMode (First size) memory root asked after InTables
      by true lawful same = record {
        table = root;
        left = first_path (levels_of size) asked.address;
        in_tables = refl;
        canonical = lawful;
        on_path = record { done = []; path_is = refl; table_is = refl };
        remains = sym same;
      }
      by false lawful same = absurd (subst IsLoad (sym same) load)

  first_reaches_none : (size : Size) → IsReached (first_walk (length memory) (levels_of size) root asked.address asked.kind) → ⊥
  first_reaches_none size = by (is_canonical (levels_of size) asked.address)
    where
      by : (b : Bool) → IsReached (if b then first_rest (length memory) asked.kind root (first_path (levels_of size) asked.address) else Ends (Err (plain (page_fault_of asked.kind)))) → ⊥
      by true = first_unreached (length memory) asked.kind root (first_path (levels_of size) asked.address)
      by false = λ is. is

  -- a second
  second_stands : (size : Size) (after : Walk TableAnswer) → second_walk (length memory) (levels_of size) root asked.address asked.kind ≡ after → IsLoad after → StandsInMode (Second size) memory root asked after InTables
  second_stands size after is load = by (nat_lt asked.address (2 ^ (9 * levels_of size + 14))) refl is
    where
      by : (b : Bool) → nat_lt asked.address (2 ^ (9 * levels_of size + 14)) ≡ b
          → (if b then second_rest (length memory) asked.kind asked.address root (second_path (levels_of size) asked.address) else Ends (Err (reported (guest_page_fault_of asked.kind) asked.address false))) ≡ after
          → StandsInMode (Second size) memory root asked after InTables
      by true small same = record {
        table = root;
        left = second_path (levels_of size) asked.address;
        in_tables = refl;
        physical = leb-true (suc asked.address) (2 ^ (9 * levels_of size + 14)) small;
        on_path = record { done = []; path_is = refl; table_is = refl };
        remains = sym same;
      }
      by false small same = absurd (subst IsLoad (sym same) load)

  second_reaches_none : (size : Size) → IsReached (second_walk (length memory) (levels_of size) root asked.address asked.kind) → ⊥
  second_reaches_none size = by (nat_lt asked.address (2 ^ (9 * levels_of size + 14)))
    where
      by : (b : Bool)
          → IsReached (if b then second_rest (length memory) asked.kind asked.address root (second_path (levels_of size) asked.address) else Ends (Err (reported (guest_page_fault_of asked.kind) asked.address false))) → ⊥
      by true =
          lead_unreached (length memory) asked.kind asked.kind (λ frame rights level. Ends (Ok (record { frame = frame; rights = rights; level = level; guest_frames = replicate 4 None })))
          (λ cause. Ends (Err (reported cause asked.address false))) root (second_path (levels_of size) asked.address) (λ cause is. is)
      by false = λ is. is

  -- both
  abbrev w : Size → InBoth
  w size = through size memory root asked.address asked.kind

  both_stands : (size : Size) → AreTablesOf memory owners values.ledger id (Both size) root → (after : Walk TableAnswer)
      → both_walk (length memory) (levels_of size) (levels_of size) 0 root asked.address asked.kind ≡ after → IsLoad after → StandsInMode (Both size) memory root asked after InTables
  both_stands size tables after is load = by (is_canonical (levels_of size) asked.address) is
    where
      by : (b : Bool) → (if b then guest_down (w size) [] 0 (first_path (levels_of size) asked.address) else Ends (Err (plain (page_fault_of asked.kind)))) ≡ after
          → StandsInMode (Both size) memory root asked after InTables
      by true same = downward laws walk_laws values memory owners id root size asked low within tables [] 0 (first_path (levels_of size) asked.address) after same load
      by false same = absurd (subst IsLoad (sym same) load)

  guest_unreached : (size : Size) (indices : List ℕ) → IsReached (guest_down (w size) [] 0 indices) → ⊥
  guest_unreached size [] = λ is. is
  guest_unreached size (i ∷ below) = by (nat_lt (entry_address (slot 0 i)) (2 ^ (9 * levels_of size + 14)))
    where
      Found : ℕ → Rights → ℕ → Walk TableAnswer
      Found frame rights level = guest_load (w size) [] 0 i below (λ next. guest_down (w size) (frame ∷ []) next below) frame

      by : (b : Bool) → IsReached (if b then lead_rest (length memory) Read asked.kind Found (unread (w size) 0 i) root (second_path (levels_of size) (entry_address (slot 0 i))) else unread (w size) 0 i (guest_page_fault_of asked.kind)) → ⊥
      by true = lead_unreached (length memory) Read asked.kind Found (unread (w size) 0 i) root (second_path (levels_of size) (entry_address (slot 0 i))) (λ cause is. is)
      by false = λ is. is

  both_reaches_none : (size : Size) → IsReached (both_walk (length memory) (levels_of size) (levels_of size) 0 root asked.address asked.kind) → ⊥
  both_reaches_none size = by (is_canonical (levels_of size) asked.address)
    where
      by : (b : Bool) → IsReached (if b then guest_down (w size) [] 0 (first_path (levels_of size) asked.address) else Ends (Err (plain (page_fault_of asked.kind)))) → ⊥
      by true = guest_unreached size (first_path (levels_of size) asked.address)
      by false = λ is. is

  -- in each mode
  stands_begun : (mode : Mode) → AreTablesOf memory owners values.ledger id mode root → (after : Walk TableAnswer) → walk_in mode (length memory) root asked.address asked.kind ≡ after → IsLoad after
      → StandsInMode mode memory root asked after InTables
  stands_begun (First size) tables = first_stands size
  stands_begun (Second size) tables = second_stands size
  stands_begun (Both size) tables = both_stands size tables

  none_reached : (mode : Mode) → IsReached (walk_in mode (length memory) root asked.address asked.kind) → ⊥
  none_reached (First size) = first_reaches_none size
  none_reached (Second size) = second_reaches_none size
  none_reached (Both size) = both_reaches_none size

  faulted_at_once : (mode : Mode) → AreTablesOf memory owners values.ledger id mode root → (fault : WalkFault) → made_from memory (walk_in mode (length memory) root asked.address asked.kind) ≡ Err fault
      → FaultsBy mode values.ledger id (asked.address / page_size) asked.kind fault.cause
  faulted_at_once (First size) tables fault made =
      stopped walk_laws memory owners values.ledger id (First size) root tables within asked.address asked.kind low fault (((first_is_whole memory (levels_of size) root asked.address asked.kind).1 fault).0 made)
  faulted_at_once (Second size) tables fault made =
      stopped walk_laws memory owners values.ledger id (Second size) root tables within asked.address asked.kind low fault (((second_is_whole memory (levels_of size) root asked.address asked.kind).1 fault).0 made)
  faulted_at_once (Both size) tables fault made =
      stopped walk_laws memory owners values.ledger id (Both size) root tables within asked.address asked.kind low fault
      (((both_is_whole memory (levels_of size) (levels_of size) 0 root asked.address asked.kind).1 fault).0 made)

  -- A WALK AT ITS BEGINNING
  pub begun : (mode : Mode) → AreTablesOf memory owners values.ledger id mode root → (after : Walk TableAnswer) → walk_in mode (length memory) root asked.address asked.kind ≡ after
      → HasBegun values mode memory id root asked after
  begun mode tables (Ends (Ok walked)) is = none_reached mode (subst IsReached (sym is) tt)
  begun mode tables (Ends (Err fault)) is = faulted_at_once mode tables fault (ap (made_from memory) is)
  begun mode tables (ReadsEntry address rest) is = stands_begun mode tables (ReadsEntry address rest) is tt
  begun mode tables (ReadsContext address rest) is = stands_begun mode tables (ReadsContext address rest) is tt
