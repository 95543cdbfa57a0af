-- What a request of a device finds at a page, as hardware stands, and what a claim `ready` means by that.
use Rattle.std.specs.Prelude.{◌≡◌, ◌≢◌, ℕ, ◌*◌, ◌-◌, ◌^◌, Bool, true, false, min, List, Option, None, Some, Result, Ok, Err}
use Rattle.iom_base.specs.Rights.{allows}
use Rattle.iom_base.specs.Sizes.{levels_of, page_size}
use Rattle.iom_base.specs.declared.access.AccessKind.{AccessKind}
use Rattle.iom_base.specs.declared.rights.Rights.{Rights}
use Rattle.iom_board.specs.BoardParts.{BoardParts, board_parts}
use Rattle.iom_board.specs.declared.board.Board.{Board}
use Rattle.iom_claims.specs.Claimed.{Claimed}
use Rattle.iom_device_dir.specs.declared.context.Context.{Context}
use Rattle.iom_device_dir.specs.declared.stages.FirstStage.{FirstStage}
use Rattle.iom_device_dir.specs.declared.stages.FirstStage.TheVariants as first
use Rattle.iom_device_dir.specs.declared.stages.SecondStage.{SecondStage}
use Rattle.iom_device_dir.specs.declared.stages.SecondStage.TheVariants as second
use Rattle.iom_hardware_session.specs.declared.answer.Found.{Found}
use Rattle.iom_hardware_session.specs.declared.answer.Found.TheVariants.{NoContext, Fault, Walk, Cached}
use Rattle.iom_hardware_session.specs.declared.answer.Wrong.{Wrong}
use Rattle.iom_hardware_session.specs.declared.answer.Wrong.TheVariants as wrong
use Rattle.iom_hardware_session.specs.EventsPointed.{request_for}
use Rattle.iom_hardware_session.specs.Found.{frame_found}
use Rattle.iom_iommu.specs.Parts.{translations_of}
use Rattle.iom_iommu.specs.Service.{cached_for}
use Rattle.iom_ledger.specs.History.{Holds}
use Rattle.iom_pointed_board.specs.Roots.{context_found}
use Rattle.iom_pointed_board.specs.Starts.{IsFoundFromRoot}
use Rattle.iom_registers.specs.declared.directory.DirectoryMode.{DirectoryMode}
use Rattle.iom_registers.specs.declared.directory.DirectoryMode.TheVariants as mode
use Rattle.iom_stage_walk.specs.Paths.{ReachesFirst, StopsFirst}
use Rattle.iom_stage_walk.specs.Second.{ReachesSecond, StopsSecond}
use Rattle.iom_stage_walk.specs.declared.walked.Walked.{Walked}
use Rattle.iom_stage_walk.specs.declared.walked.WalkFault.{WalkFault}
use Rattle.iom_tlb.specs.declared.space.Space.{Space}
use Rattle.iom_tlb.specs.declared.trans_cache.Translation.{Translation}
use Rattle.iom_tlb.specs.declared.space.Space.TheVariants as space
use Rattle.iom_way_survey.specs.Found.{mode_in}

-- WALKS

-- what a walk finds that ended so
abbrev pub found_by_walk : Result Walked WalkFault → Found
found_by_walk (Ok walked) = Walk walked.frame
found_by_walk (Err fault) = Fault fault.cause

-- a walk that reaches these pages, and stops with these faults, ends so
abbrev pub EndsSo : (Walked → Type 0) → (WalkFault → Type 0) → Result Walked WalkFault → Type 0
EndsSo Reaches Stops (Ok walked) = Reaches walked
EndsSo Reaches Stops (Err fault) = Stops fault

abbrev pub WalkFinds : (Walked → Type 0) → (WalkFault → Type 0) → Found → Type 0
WalkFinds Reaches Stops found = (ended : Result Walked WalkFault) × EndsSo Reaches Stops ended × (found ≡ found_by_walk ended)

-- the address of a page; no page that is granted is so high that it has none
abbrev pub address_of : ℕ → ℕ
address_of page = min (page * page_size) (2 ^ 64 - 1)

-- by a first stage; where it is Bare the page is that of memory
abbrev pub FirstFinds : List (List ℕ) → FirstStage → ℕ → AccessKind → Found → Type 0
FirstFinds memory first.Bare page kind found = found ≡ Walk page
FirstFinds memory (first.Tables size root) page kind found =
    WalkFinds (ReachesFirst (levels_of size) memory root.number (address_of page) kind) (StopsFirst (levels_of size) memory root.number (address_of page) kind) found

-- by both: where there is a second, the page is a guest physical one, and the second alone is walked
abbrev pub StagesFind : List (List ℕ) → FirstStage → SecondStage → ℕ → AccessKind → Found → Type 0
StagesFind memory one second.Bare page kind found = FirstFinds memory one page kind found
StagesFind memory one (second.Tables size root) page kind found =
    WalkFinds (ReachesSecond (levels_of size) memory root.number (address_of page) kind) (StopsSecond (levels_of size) memory root.number (address_of page) kind) found

-- REQUESTS

-- the address space in which a page is looked up that the context's device was granted: that of the one stage that translates. There is none in both stages:
-- there the page is a guest physical one, and the cache goes by pages of the guest's own addresses
abbrev pub looked_space : FirstStage → SecondStage → Context → Option Space
looked_space first.Bare second.Bare context = None
looked_space (first.Tables size root) second.Bare context = Some (space.First context.pscid.number)
looked_space first.Bare (second.Tables size root) context = Some (space.Second context.gscid)
looked_space (first.Tables first_size first_root) (second.Tables second_size second_root) context = None

-- a cached translation of which the right allows the access, or else what the walk finds
abbrev pub LookFinds : Space → Option Translation → (Found → Type 0) → Found → Type 0
LookFinds own (Some cached) WalkFinds' found = found ≡ Cached own cached.frame
LookFinds own None WalkFinds' found = WalkFinds' found

-- in the address space of the stages, if they have one
abbrev pub SpaceFinds : BoardParts → Option Space → (Found → Type 0) → ℕ → AccessKind → Found → Type 0
SpaceFinds parts None WalkFinds' page kind found = WalkFinds' found
SpaceFinds parts (Some own) WalkFinds' page kind found = LookFinds own (cached_for (translations_of parts.iommu (own, page)) kind) WalkFinds' found

-- by the device's context
abbrev pub ContextFinds : BoardParts → Option Context → ℕ → AccessKind → Found → Type 0
ContextFinds parts None page kind found = found ≡ NoContext
ContextFinds parts (Some context) page kind found =
    SpaceFinds parts (looked_space context.first_stage context.second_stage context) (StagesFind parts.memory context.first_stage context.second_stage page kind) page kind found

-- by ddtp's mode
abbrev pub ModeFinds : DirectoryMode → BoardParts → (id page : ℕ) → AccessKind → Found → Type 0
ModeFinds mode.Bare parts id page kind found = found ≡ Walk page
ModeFinds mode.Off parts id page kind found = ContextFinds parts (context_found parts id) page kind found
ModeFinds mode.OneLevel parts id page kind found = ContextFinds parts (context_found parts id) page kind found
ModeFinds mode.TwoLevels parts id page kind found = ContextFinds parts (context_found parts id) page kind found
ModeFinds mode.ThreeLevels parts id page kind found = ContextFinds parts (context_found parts id) page kind found

-- WHAT A REQUEST of the device for an access of this kind at the page finds (IOMMU specification, section 2.3)
abbrev pub RequestFinds : BoardParts → (id page : ℕ) → AccessKind → Found → Type 0
RequestFinds parts id page kind found = ModeFinds (mode_in parts) parts id page kind found

-- what is found by a walk ahead that led to this translation; where it led to none, by hardware's own walk
abbrev pub LedFinds : Option Translation → (Found → Type 0) → Found → Type 0
LedFinds None Finds found = Finds found
LedFinds (Some translation) Finds found = found ≡ Walk translation.frame

-- the same where walks know leaves of 64 KiB, or don't
abbrev pub FindsBy : Bool → BoardParts → (id page : ℕ) → AccessKind → Found → Type 0
FindsBy false parts id page kind found = RequestFinds parts id page kind found
FindsBy true parts id page kind found =
    (led : Option Translation) × IsFoundFromRoot parts (request_for id (address_of page) kind) led × LedFinds led (RequestFinds parts id page kind) found

-- it is accepted on this frame
abbrev pub FindsFrame : Bool → BoardParts → (id page frame : ℕ) → AccessKind → Type 0
FindsFrame napot parts id page frame kind = (found : Found) × FindsBy napot parts id page kind found × (frame_found found ≡ Some frame)

-- it finds this instead
abbrev pub FindsInstead : Bool → BoardParts → (id page frame : ℕ) → AccessKind → Found → Type 0
FindsInstead napot parts id page frame kind found = FindsBy napot parts id page kind found × (frame_found found ≢ Some frame)

-- READY: the device holds a frame at the page, and each access that its right allows is accepted on that frame
abbrev pub IsReady : Bool → Board → Claimed → (id page : ℕ) → Type 0
IsReady napot hardware before id page =
    (frame : ℕ) × (rights : Rights) × Holds before.history id page (frame, rights)
    × ((kind : AccessKind) → allows rights kind ≡ true → FindsFrame napot (board_parts hardware) id page frame kind)

-- NOT READY: one such access finds something else
abbrev pub IsUnready : Bool → BoardParts → (id page frame : ℕ) → Rights → Wrong → Type 0
IsUnready napot parts id page frame rights (wrong.NotReady found) =
    (kind : AccessKind) × (allows rights kind ≡ true) × FindsInstead napot parts id page frame kind found
IsUnready napot parts id page frame rights wrong.Held = ⊥
IsUnready napot parts id page frame rights wrong.Lingers = ⊥
IsUnready napot parts id page frame rights (wrong.Reached own kind) = ⊥
IsUnready napot parts id page frame rights wrong.Used = ⊥
IsUnready napot parts id page frame rights wrong.Uncertain = ⊥

abbrev pub ReadyIsWrong : Wrong → Bool → Board → Claimed → (id page : ℕ) → Type 0
ReadyIsWrong why napot hardware before id page =
    (frame : ℕ) × (rights : Rights) × Holds before.history id page (frame, rights) × IsUnready napot (board_parts hardware) id page frame rights why
