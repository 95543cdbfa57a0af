-- What is found of a claim `ready` where hardware caches pointers to tables says how requests are answered that are walked ahead.
use Rattle.std.specs.Prelude.{◌≡◌, ◌≢◌, ◌<◌, ◌/◌, ◌^◌, ℕ, true, List, [], Option, Some, IfSome, Result}
use Rattle.iom_base.specs.Rights.{allows}
use Rattle.iom_base.specs.Sizes.{page_size}
use Rattle.iom_base.specs.declared.access.Access.{Access}
use Rattle.iom_base.specs.declared.access.AccessKind.{AccessKind}
use Rattle.iom_base.specs.declared.rights.Rights.{Rights}
use Rattle.iom_board.specs.BoardParts.{BoardParts, board_parts}
use Rattle.iom_board.specs.declared.board.Board.{Board}
use Rattle.iom_claims.specs.Claimed.{Claimed}
use Rattle.iom_hardware_session.specs.Accepted.{frame_answered, HasOneStage}
use Rattle.iom_hardware_session.specs.EventsPointed.{request_for}
use Rattle.iom_hardware_session.specs.Ready.{IsReady, ReadyIsWrong}
use Rattle.iom_hardware_session.specs.ReadyPointed.{ArePointersReady, IsUnreadyByPointer}
use Rattle.iom_hardware_session.specs.Shown.{ShownHardware}
use Rattle.iom_hardware_session.specs.declared.answer.Found.{Found}
use Rattle.iom_hardware_session.specs.declared.answer.Wrong.TheVariants.{NotReady}
use Rattle.iom_hardware_session.specs.declared.beside.Beside.TheVariants.{Pointers}
use Rattle.iom_iommu.specs.Requests.{ServesRequest}
use Rattle.iom_ledger.specs.History.{Holds}
use Rattle.iom_pointed_board.specs.Roots.{context_found}
use Rattle.iom_pointed_board.specs.Starts.{WalksAhead}
use Rattle.iom_pointers.specs.Pointers.{HasOneOfEachKey}
use Rattle.iom_pointers.specs.declared.features.Features.{Features}
use Rattle.iom_pointers.specs.declared.pointer.Pointer.{Pointer}
use Rattle.iom_stage_walk.specs.Paths.{IsInMemory}
use Rattle.iom_stage_walk.specs.declared.walked.WalkFault.{WalkFault}
use Rattle.iom_tlb.specs.Content.{Translations}
use Rattle.iom_tlb.specs.declared.trans_cache.Translation.{Translation}

-- of each untranslated request of the device at an address of the page, for an access of this kind, that is walked ahead by these pointers: this is so of the frame
-- by which it is answered then
abbrev pub AnswersAheadAre : (Option ℕ → Type 0) → Features → BoardParts → List Pointer → (id page : ℕ) → AccessKind → Type 0
AnswersAheadAre Is features parts pointers id page kind =
    (access : Access) (between : BoardParts) (between_pointers : List Pointer) (answer : Result Translation WalkFault) (new : Translations) → access.kind ≡ kind
    → access.address < 2 ^ 64 → access.address / page_size ≡ page → WalksAhead features parts pointers (request_for id access.address kind) between between_pointers
    → ServesRequest between.memory between.iommu id access answer new → Is (frame_answered answer)

-- WHAT IS READY IS ACCEPTED where pointers are cached: the device holds a frame at the page, and where that is one of memory, its requests there that its right
-- allows are answered by it, also where what is found from a pointer was cached before
abbrev pub PointedReadyIsAccepted : Type 0
PointedReadyIsAccepted = (hardware : ShownHardware) (features : Features) (pointers : List Pointer) (before : Claimed) (id page : ℕ) → hardware.beside ≡ Pointers features pointers
    → IsReady features.napot hardware.board before id page → ArePointersReady hardware before id page → IfSome (context_found (board_parts hardware.board) id) HasOneStage
    → (frame : ℕ) × (rights : Rights) × Holds before.history id page (frame, rights)
    × (IsInMemory hardware.board.memory frame → (kind : AccessKind) → allows rights kind ≡ true
    → AnswersAheadAre (λ answered. answered ≡ Some frame) features (board_parts hardware.board) pointers id page kind)

-- WHAT IS LED ASTRAY IS NOT ACCEPTED: of pointers of which each key has one, as hardware keeps them, requests there of some kind that its right allows are not
-- answered by that frame
abbrev pub AstrayIsNotAccepted : Type 0
AstrayIsNotAccepted = (hardware : ShownHardware) (features : Features) (pointers : List Pointer) (before : Claimed) (id page : ℕ) (found : Found) → hardware.beside ≡ Pointers features pointers
    → HasOneOfEachKey pointers → IsUnreadyByPointer hardware before id page (NotReady found)
    → (frame : ℕ) × (rights : Rights) × Holds before.history id page (frame, rights)
    × ((kind : AccessKind) × (allows rights kind ≡ true) × AnswersAheadAre (λ answered. answered ≢ Some frame) features (board_parts hardware.board) pointers id page kind)

-- WHAT ISN'T READY IS NOT ACCEPTED, where walks know leaves of 64 KiB: requests there of some kind that its right allows are not answered by that frame, as long as
-- no pointer is cached
abbrev pub UnreadyAheadIsNotAccepted : Type 0
UnreadyAheadIsNotAccepted = (hardware : Board) (features : Features) (before : Claimed) (id page : ℕ) (found : Found) → features.napot ≡ true
    → ReadyIsWrong (NotReady found) true hardware before id page → IfSome (context_found (board_parts hardware) id) HasOneStage
    → (frame : ℕ) × (rights : Rights) × Holds before.history id page (frame, rights)
    × ((kind : AccessKind) × (allows rights kind ≡ true) × AnswersAheadAre (λ answered. answered ≢ Some frame) features (board_parts hardware) [] id page kind)
