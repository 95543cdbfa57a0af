-- No walk reaches anything before its first load.
use Rattle.std.proofs.Common.{◌≡◌, ℕ, zero, suc, ◌+◌, ◌*◌, ◌^◌, Bool, true, false, nat_lt, List, [], ◌∷◌, ◌++◌, replicate, None, Result, Ok, Err, if◌then◌else◌}
use Rattle.iom_base.specs.Causes.{guest_page_fault_of, page_fault_of}
use Rattle.iom_base.specs.Sizes.{levels_of}
use Rattle.iom_base.specs.Tables.{access_fault_of}
use Rattle.iom_base.specs.declared.access.AccessKind.{AccessKind}
use Rattle.iom_base.specs.declared.access.AccessKind.TheVariants.{Read}
use Rattle.iom_base.specs.declared.cause.Cause.{Cause}
use Rattle.iom_base.specs.declared.cause.Cause.TheVariants.{AllInboundDisallowed, TransactionTypeDisallowed}
use Rattle.iom_base.specs.declared.rights.Rights.{Rights}
use Rattle.iom_device_dir.specs.Paths.{ids_below}
use Rattle.iom_device_dir.specs.declared.context.Context.{Context}
use Rattle.iom_registers.specs.declared.directory.DirectoryMode.{DirectoryMode}
use Rattle.iom_registers.specs.declared.directory.DirectoryMode.TheVariants as mode
use Rattle.iom_registers.specs.declared.directory.DirectoryPointer.{DirectoryPointer}
use Rattle.iom_stage_walk.specs.Both.{entry_address, plain}
use Rattle.iom_stage_walk.specs.Entries.{slot}
use Rattle.iom_stage_walk.specs.Paths.{first_path}
use Rattle.iom_stage_walk.specs.Second.{reported, second_path}
use Rattle.iom_stage_walk.specs.declared.walked.Walked.{Walked}
use Rattle.iom_stage_walk.specs.declared.walked.WalkFault.{WalkFault}
use Rattle.iom_stepped_walk.specs.Steps.{TableAnswer}
use Rattle.iom_walk_loads.specs.Directory.{directory_walk, locating, locating_by, locating_from}
use Rattle.iom_walk_loads.specs.Loads.{Ends, Walk}
use Rattle.iom_walk_loads.specs.Tables.{InBoth, both_walk, down, first_rest, first_walk, guest_down, guest_load, inside, is_canonical, lead, lead_rest, second_walk, unread}
use Rattle.iom_walk_stops.specs.Stages.{walk_of}
use Rattle.iom_walk_stops.specs.declared.stages.Stages.{Stages}
use Rattle.iom_walk_stops.specs.declared.stages.Stages.TheVariants.{Both, First, Second}

-- a fault is no page
fault_first : (fault : WalkFault) (walked : Walked) → ◌≡◌ {A = Walk TableAnswer} (Ends (Err fault)) (Ends (Ok walked)) → ⊥
fault_first fault walked same = let both : ◌≡◌ {A = TableAnswer} (Err fault) (Ok walked) = cc in cc

down_first : (kind : AccessKind) (page access : Cause) (found : ℕ → Rights → ℕ → Walk TableAnswer) (stopped : Cause → Walk TableAnswer) (table : ℕ) (left : List ℕ) (walked : Walked)
    → ((cause : Cause) → stopped cause ≡ Ends (Ok walked) → ⊥) → down kind page access found stopped table left ≡ Ends (Ok walked) → ⊥
down_first kind page access found stopped table [] walked none same = none page same
down_first kind page access found stopped table (i ∷ below) walked none same = cc

lead_first : (frames levels root : ℕ) (kind original : AccessKind) (found : ℕ → Rights → ℕ → Walk TableAnswer) (stopped : Cause → Walk TableAnswer) (address : ℕ) (walked : Walked)
    → ((cause : Cause) → stopped cause ≡ Ends (Ok walked) → ⊥) → lead frames levels root kind original found stopped address ≡ Ends (Ok walked) → ⊥
lead_first frames levels root kind original found stopped address walked none = by (nat_lt address (2 ^ (9 * levels + 14)))
  where
    by : (b : Bool) → (if b then lead_rest frames kind original found stopped root (second_path levels address) else stopped (guest_page_fault_of original)) ≡ Ends (Ok walked) → ⊥
    by true same =
        down_first kind (guest_page_fault_of original) (access_fault_of original) (inside frames found (stopped (access_fault_of original))) stopped root (second_path levels address) walked
        none same
    by false same = none (guest_page_fault_of original) same

first_first : (frames levels root address : ℕ) (kind : AccessKind) (walked : Walked) → first_walk frames levels root address kind ≡ Ends (Ok walked) → ⊥
first_first frames levels root address kind walked = by (is_canonical levels address)
  where
    by : (b : Bool) → (if b then first_rest frames kind root (first_path levels address) else Ends (Err (plain (page_fault_of kind)))) ≡ Ends (Ok walked) → ⊥
    by true same =
        down_first kind (page_fault_of kind) (access_fault_of kind)
        (inside frames (λ frame rights level. Ends (Ok (record { frame = frame; rights = rights; level = level; guest_frames = replicate 4 None }))) (Ends (Err (plain (access_fault_of kind)))))
        (λ cause. Ends (Err (plain cause))) root (first_path levels address) walked (λ cause. fault_first (plain cause) walked) same
    by false same = fault_first (plain (page_fault_of kind)) walked same

second_first : (frames levels root address : ℕ) (kind : AccessKind) (walked : Walked) → second_walk frames levels root address kind ≡ Ends (Ok walked) → ⊥
second_first frames levels root address kind walked =
    lead_first frames levels root kind kind (λ frame rights level. Ends (Ok (record { frame = frame; rights = rights; level = level; guest_frames = replicate 4 None })))
    (λ cause. Ends (Err (reported cause address false))) address walked (λ cause. fault_first (reported cause address false) walked)

guest_first : (w : InBoth) (table : ℕ) (left : List ℕ) (walked : Walked) → guest_down w [] table left ≡ Ends (Ok walked) → ⊥
guest_first w table [] walked same = fault_first (plain (page_fault_of w.kind)) walked same
guest_first w table (i ∷ below) walked same =
    lead_first w.frames w.levels' w.second Read w.kind (λ frame rights level. guest_load w [] table i below (λ next. guest_down w ([] ++ frame ∷ []) next below) frame)
    (unread w table i) (entry_address (slot table i)) walked (λ cause. fault_first (reported cause (entry_address (slot table i)) true) walked) same

both_first : (frames levels levels' first second address : ℕ) (kind : AccessKind) (walked : Walked)
    → both_walk frames levels levels' first second address kind ≡ Ends (Ok walked) → ⊥
both_first frames levels levels' first second address kind walked = by (is_canonical levels address)
  where
    w : InBoth
    w = record { frames = frames; levels' = levels'; second = second; address = address; kind = kind }

    by : (b : Bool) → (if b then guest_down w [] first (first_path levels address) else Ends (Err (plain (page_fault_of kind)))) ≡ Ends (Ok walked) → ⊥
    by true same = guest_first w first (first_path levels address) walked same
    by false same = fault_first (plain (page_fault_of kind)) walked same

-- no page of a context's stages
pub tables_first : (frames : ℕ) (stages : Stages) (address : ℕ) (kind : AccessKind) (walked : Walked) → walk_of frames stages address kind ≡ Ends (Ok walked) → ⊥
tables_first frames (First size root) address kind walked = first_first frames (levels_of size) root.number address kind walked
tables_first frames (Second size root) address kind walked = second_first frames (levels_of size) root.number address kind walked
tables_first frames (Both first_size first second_size second) address kind walked =
    both_first frames (levels_of first_size) (levels_of second_size) first.number second.number address kind walked

-- no context
cause_first : (cause : Cause) (context : Context) → ◌≡◌ {A = Walk (Result Context Cause)} (Ends (Err cause)) (Ends (Ok context)) → ⊥
cause_first cause context same = let both : ◌≡◌ {A = Result Context Cause} (Err cause) (Ok context) = cc in cc

page_first : (level page id : ℕ) (context : Context) → directory_walk level page id ≡ Ends (Ok context) → ⊥
page_first zero page id context same = cc
page_first (suc level) page id context same = cc

from_first : (level root id : ℕ) (context : Context) → locating_from level root id ≡ Ends (Ok context) → ⊥
from_first level root id context = by (nat_lt id (ids_below level))
  where
    by : (b : Bool) → (if b then directory_walk level root id else Ends (Err TransactionTypeDisallowed)) ≡ Ends (Ok context) → ⊥
    by true same = page_first level root id context same
    by false same = cause_first TransactionTypeDisallowed context same

mode_first : (m : DirectoryMode) (root id : ℕ) (context : Context) → locating_by m root id ≡ Ends (Ok context) → ⊥
mode_first mode.Off root id context same = cause_first AllInboundDisallowed context same
mode_first mode.Bare root id context same = cause_first AllInboundDisallowed context same
mode_first mode.OneLevel root id context same = from_first 0 root id context same
mode_first mode.TwoLevels root id context same = from_first 1 root id context same
mode_first mode.ThreeLevels root id context same = from_first 2 root id context same

pub locating_first : (ddtp : DirectoryPointer) (id : ℕ) (context : Context) → locating ddtp id ≡ Ends (Ok context) → ⊥
locating_first ddtp id context same = mode_first ddtp.mode ddtp.ppn id context same
