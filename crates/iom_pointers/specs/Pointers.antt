-- Pointers to tables that hardware caches, and what each call makes of them (RISC-V IOMMU Architecture Specification 1.0, section 2.8, "Caching in-memory data
-- structures", and section 3.1.1, "IOMMU Page-Table cache invalidation commands").
use Rattle.std.specs.Prelude.{◌≡◌, ℕ, zero, suc, ◌+◌, ◌/◌, ◌^◌, ◌≤◌, nat_lt, ◌==◌, ◌&&◌, Bool, true, false, not, List, [], ◌∷◌, ◌++◌, filter, length, Contains, Option, None, Some, if◌then◌else◌}
use Rattle.iom_base.specs.Tables.{table_entries}
use Rattle.iom_command_queue.specs.declared.command.Command.{Command}
use Rattle.iom_command_queue.specs.declared.command.Command.TheVariants.{IotinvalVma, IotinvalGvma, IofenceC, IodirInvalDdt, AtsInval}
use Rattle.iom_stage_walk.specs.Entries.{entries, slot}
use Rattle.iom_stage_walk.specs.declared.entry.Entry.{Entry}
use Rattle.iom_stage_walk.specs.declared.entry.Entry.TheVariants.{Outside, Invalid, Pointer, Leaf}
use Rattle.iom_stepped_walk.specs.Indices.{index_at}
use Rattle.iom_stepped_walk.specs.declared.hand.TableInHand.{TableInHand}
use Rattle.iom_pointers.specs.declared.pointer.Pointer.{Pointer as Kept}
use Rattle.iom_tlb.specs.Covers.{admits}
use Rattle.iom_tlb.specs.contracts.space.SpacePartialEq.TheImpl as spaces
use Rattle.iom_tlb.specs.declared.space.Space.{Space}
use Rattle.iom_tlb.specs.declared.space.Space.TheVariants as space

-- how many are cached at most
abbrev pub pointer_limit : ℕ
pointer_limit = 1024

-- how many pages the table of this level translates: nine bits of the page number for each of its levels
abbrev pub pages_of : ℕ → ℕ
pages_of level = table_entries ^ (level + 1)

-- a walk for this page of the space may begin there
abbrev pub is_for : Space → ℕ → Kept → Bool
is_for space page pointer = spaces.ghosts.eq pointer.space space && (page / pages_of pointer.level == pointer.prefix)

-- the table, for a walk to this page
abbrev pub hand_at : Kept → ℕ → TableInHand
hand_at pointer page = record { table = pointer.table; level = pointer.level; is_wide = false; page = page }

-- two are of the same pages of one space, at one level
abbrev pub has_key_of : Kept → Kept → Bool
has_key_of other pointer = spaces.ghosts.eq pointer.space other.space && ((pointer.level == other.level) && (pointer.prefix == other.prefix))

-- of each key there is one
abbrev pub HasOneOfEachKey : List Kept → Type 0
HasOneOfEachKey kept =
    (one other : Kept) → Contains kept one → Contains kept other → one.space ≡ other.space → one.level ≡ other.level → one.prefix ≡ other.prefix → one ≡ other

-- whether the table of the one stands lower than that of the other, if there is one
abbrev pub is_lower : Kept → Option Kept → Bool
is_lower own None = true
is_lower own (Some other) = nat_lt own.level other.level

-- WHERE A WALK BEGINS: at the table of the lowest level that is for the page
pub record IsDeepest (kept : List Kept) (space : Space) (page : ℕ) (pointer : Kept) : Type 0 where
  pub among : Contains kept pointer
  pub own : is_for space page pointer ≡ true
  pub lowest : (other : Kept) → Contains kept other → is_for space page other ≡ true → pointer.level ≤ other.level

-- none is for it
abbrev pub HasNoneFor : List Kept → Space → ℕ → Type 0
HasNoneFor kept space page = (other : Kept) → Contains kept other → is_for space page other ≡ false

-- A POINTER IS KEPT, in place of an older one of its key; where there is no room for it all others go
abbrev pub others_of : Kept → List Kept → List Kept
others_of pointer kept = filter (λ other. not (has_key_of pointer other)) kept

abbrev pub with_room : List Kept → List Kept
with_room kept = if length kept == pointer_limit then [] else kept

abbrev pub with_pointer : Kept → List Kept → List Kept
with_pointer pointer kept = with_room (others_of pointer kept) ++ pointer ∷ []

-- A COMMAND TAKES OUT all pointers of its address spaces, where it names no page. Where a first stage translates alone an IOTINVAL.VMA takes them out that names
-- no guest; those of a second stage's tables an IOTINVAL.GVMA
abbrev pub is_process_covered : Option ℕ → Space → Bool
is_process_covered asked (space.First pscid) = admits asked pscid
is_process_covered asked (space.Second gscid) = false
is_process_covered asked (space.Both gscid pscid) = false

abbrev pub is_guest_covered : Option ℕ → Space → Bool
is_guest_covered asked (space.First pscid) = false
is_guest_covered asked (space.Second gscid) = admits asked gscid
is_guest_covered asked (space.Both gscid pscid) = admits asked gscid

abbrev pub is_covered : Command → Kept → Bool
is_covered (IotinvalVma None pscid None) pointer = is_process_covered pscid pointer.space
is_covered (IotinvalVma None pscid (Some page)) pointer = false
is_covered (IotinvalVma (Some gscid) pscid page) pointer = false
is_covered (IotinvalGvma gscid None) pointer = is_guest_covered gscid pointer.space
is_covered (IotinvalGvma gscid (Some page)) pointer = false
is_covered (IofenceC store wsi pr pw) pointer = false
is_covered (IodirInvalDdt device) pointer = false
is_covered (AtsInval device range) pointer = false

abbrev pub without_covered : Command → List Kept → List Kept
without_covered command kept = filter (λ pointer. not (is_covered command pointer)) kept

-- WHAT A WALK PASSES IS KEPT

-- the pointer is to this table of this level, for the page of the space
pub record IsPointerTo (space : Space) (page level table : ℕ) (pointer : Kept) : Type 0 where
  pub space_is : pointer.space ≡ space
  pub level_is : pointer.level ≡ level
  pub prefix_is : pointer.prefix ≡ page / pages_of level
  pub table_is : pointer.table.number ≡ table

-- by an entry: where it names a table this is so, else all stays
abbrev pub FollowsEntry : Entry → (ℕ → Type 0) → List Kept → List Kept → Type 0
FollowsEntry Outside On old new = new ≡ old
FollowsEntry Invalid On old new = new ≡ old
FollowsEntry (Pointer next) On old new = On next
FollowsEntry (Leaf base rights) On old new = new ≡ old

-- from a table of this level on
abbrev pub FollowsFrom : List (List ℕ) → Space → (page level : ℕ) → Bool → (table : ℕ) → List Kept → List Kept → Type 0
FollowsFrom frames space page zero is_wide table old new = new ≡ old
FollowsFrom frames space page (suc below) is_wide table old new =
    FollowsEntry (entries frames (slot table (index_at is_wide (suc below) page)))
    (λ next. (pointer : Kept) × IsPointerTo space page below next pointer × FollowsFrom frames space page below false next (with_pointer pointer old) new) old new

abbrev pub Follows : List (List ℕ) → Space → TableInHand → List Kept → List Kept → Type 0
Follows frames space hand old new = FollowsFrom frames space hand.page hand.level hand.is_wide hand.table.number old new
