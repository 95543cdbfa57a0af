-- What is found of a claim `ready` says how requests are answered.
use Rattle.std.specs.Prelude.{◌≡◌, ◌≢◌, ◌<◌, ◌/◌, ◌^◌, ℕ, true, false, ⊤, Option, None, Some, IfSome, Result, Ok, Err}
use Rattle.iom_base.specs.Rights.{allows}
use Rattle.iom_base.specs.Sizes.{page_size}
use Rattle.iom_base.specs.declared.access.Access.{Access}
use Rattle.iom_base.specs.declared.access.AccessKind.{AccessKind}
use Rattle.iom_base.specs.declared.rights.Rights.{Rights}
use Rattle.iom_board.specs.BoardParts.{BoardParts, board_parts}
use Rattle.iom_board.specs.declared.board.Board.{Board}
use Rattle.iom_claims.specs.Claimed.{Claimed}
use Rattle.iom_device_dir.specs.declared.context.Context.{Context}
use Rattle.iom_device_dir.specs.declared.stages.FirstStage.{FirstStage}
use Rattle.iom_device_dir.specs.declared.stages.FirstStage.TheVariants as first
use Rattle.iom_device_dir.specs.declared.stages.SecondStage.{SecondStage}
use Rattle.iom_device_dir.specs.declared.stages.SecondStage.TheVariants as second
use Rattle.iom_hardware_session.specs.Ready.{IsReady, ReadyIsWrong}
use Rattle.iom_hardware_session.specs.declared.answer.Found.{Found}
use Rattle.iom_hardware_session.specs.declared.answer.Wrong.TheVariants.{NotReady}
use Rattle.iom_iommu.specs.Requests.{ServesRequest}
use Rattle.iom_ledger.specs.History.{Holds}
use Rattle.iom_pointed_board.specs.Roots.{context_found}
use Rattle.iom_stage_walk.specs.Paths.{IsInMemory}
use Rattle.iom_stage_walk.specs.declared.walked.WalkFault.{WalkFault}
use Rattle.iom_tlb.specs.Content.{Translations}
use Rattle.iom_tlb.specs.declared.trans_cache.Translation.{Translation}

-- not both stages have tables: the page that was granted is one of the device's own addresses
abbrev pub IsOneStage : FirstStage → SecondStage → Type 0
IsOneStage first.Bare second.Bare = ⊤
IsOneStage (first.Tables size root) second.Bare = ⊤
IsOneStage first.Bare (second.Tables size root) = ⊤
IsOneStage (first.Tables first_size first_root) (second.Tables second_size second_root) = ⊥

abbrev pub HasOneStage : Context → Type 0
HasOneStage context = IsOneStage context.first_stage context.second_stage

-- the frame by which a request is answered, if it is accepted
abbrev pub frame_answered : Result Translation WalkFault → Option ℕ
frame_answered (Ok translation) = Some translation.frame
frame_answered (Err fault) = None

-- of each untranslated request of the device at an address of the page, for an access of this kind, this is so of the frame by which it is answered
abbrev pub AnswersAre : (Option ℕ → Type 0) → BoardParts → (id page : ℕ) → AccessKind → Type 0
AnswersAre Is parts id page kind = (access : Access) (answer : Result Translation WalkFault) (new : Translations)
    → access.kind ≡ kind → access.address < 2 ^ 64 → access.address / page_size ≡ page → ServesRequest parts.memory parts.iommu id access answer new → Is (frame_answered answer)

-- WHAT IS READY IS ACCEPTED: the device holds a frame at the page, and where that is one of memory, its requests there that its right allows are answered by it
abbrev pub ReadyIsAccepted : Type 0
ReadyIsAccepted = (hardware : Board) (before : Claimed) (id page : ℕ) → IsReady false hardware before id page → IfSome (context_found (board_parts hardware) id) HasOneStage
    → (frame : ℕ) × (rights : Rights) × Holds before.history id page (frame, rights)
    × (IsInMemory hardware.memory frame → (kind : AccessKind) → allows rights kind ≡ true → AnswersAre (λ answered. answered ≡ Some frame) (board_parts hardware) id page kind)

-- WHAT ISN'T READY IS NOT ACCEPTED: requests there of some kind that its right allows are not answered by that frame
abbrev pub UnreadyIsNotAccepted : Type 0
UnreadyIsNotAccepted = (hardware : Board) (before : Claimed) (id page : ℕ) (found : Found) → ReadyIsWrong (NotReady found) false hardware before id page
    → IfSome (context_found (board_parts hardware) id) HasOneStage
    → (frame : ℕ) × (rights : Rights) × Holds before.history id page (frame, rights)
    × ((kind : AccessKind) × (allows rights kind ≡ true) × AnswersAre (λ answered. answered ≢ Some frame) (board_parts hardware) id page kind)
