-- What is found of a claim `ready` where hardware caches pointers to tables: also what a request finds whose walk begins at one.
use Rattle.std.specs.Prelude.{◌≡◌, ◌≢◌, ℕ, Bool, true, ⊤, List, Some, if◌then◌else◌}
use Rattle.iom_base.specs.Rights.{allows}
use Rattle.iom_base.specs.declared.access.AccessKind.{AccessKind}
use Rattle.iom_base.specs.declared.rights.Rights.{Rights}
use Rattle.iom_board.specs.BoardParts.{BoardParts, board_parts}
use Rattle.iom_claims.specs.Claimed.{Claimed}
use Rattle.iom_hardware_session.specs.EventsPointed.{request_for}
use Rattle.iom_hardware_session.specs.Found.{frame_found}
use Rattle.iom_hardware_session.specs.Ready.{address_of}
use Rattle.iom_hardware_session.specs.Shown.{ShownHardware}
use Rattle.iom_hardware_session.specs.declared.answer.Found.{Found}
use Rattle.iom_hardware_session.specs.declared.answer.Found.TheVariants.{Pointed, Walk}
use Rattle.iom_hardware_session.specs.declared.answer.Wrong.{Wrong}
use Rattle.iom_hardware_session.specs.declared.answer.Wrong.TheVariants as wrong
use Rattle.iom_hardware_session.specs.declared.beside.Beside.{Beside}
use Rattle.iom_hardware_session.specs.declared.beside.Beside.TheVariants.{Nothing, UnderWay, Pointers}
use Rattle.iom_ledger.specs.History.{Holds}
use Rattle.iom_pointed_board.specs.Starts.{IsStart}
use Rattle.iom_pointed_board.specs.declared.start.Start.{Start}
use Rattle.iom_pointers.specs.declared.pointer.Pointer.{Pointer}
use Rattle.iom_tlb.specs.declared.trans_cache.Translation.{Translation}

-- what a walk finds that led to this translation: from the root, or from a cached pointer
abbrev pub found_from : Start → Translation → Found
found_from start translation = if start.is_root then Walk translation.frame else Pointed start.space translation.frame

-- a request of the device, for an access of this kind at the page, is walked ahead, and finds this
abbrev pub FindsAhead : Bool → BoardParts → List Pointer → (id page : ℕ) → AccessKind → Found → Type 0
FindsAhead napot parts pointers id page kind found =
    (start : Start) × (translation : Translation) × IsStart napot parts pointers (request_for id (address_of page) kind) (Some start)
    × (start.found ≡ Some translation) × (found ≡ found_from start translation)

-- where it finds something so, it finds the frame
abbrev pub LeadsToFrame : Bool → BoardParts → List Pointer → (id page frame : ℕ) → AccessKind → Type 0
LeadsToFrame napot parts pointers id page frame kind = (found : Found) → FindsAhead napot parts pointers id page kind found → frame_found found ≡ Some frame

-- it finds this instead
abbrev pub LeadsInstead : Bool → BoardParts → List Pointer → (id page frame : ℕ) → AccessKind → Found → Type 0
LeadsInstead napot parts pointers id page frame kind found = FindsAhead napot parts pointers id page kind found × (frame_found found ≢ Some frame)

-- by the pointers that hardware keeps, if it keeps any
abbrev pub PointersLead : Beside → BoardParts → (id page frame : ℕ) → AccessKind → Type 0
PointersLead Nothing parts id page frame kind = ⊤
PointersLead (UnderWay rows) parts id page frame kind = ⊤
PointersLead (Pointers features pointers) parts id page frame kind = LeadsToFrame features.napot parts pointers id page frame kind

-- READY BY POINTERS TOO: each access that the right of what the device holds at the page allows finds that frame, also where its walk begins at a cached pointer
abbrev pub ArePointersReady : ShownHardware → Claimed → (id page : ℕ) → Type 0
ArePointersReady hardware before id page =
    (frame : ℕ) (rights : Rights) → Holds before.history id page (frame, rights)
    → (kind : AccessKind) → allows rights kind ≡ true → PointersLead hardware.beside (board_parts hardware.board) id page frame kind

-- NOT READY BY A POINTER: one such access finds something else from there
abbrev pub LeadsAstray : Bool → BoardParts → List Pointer → (id page frame : ℕ) → Rights → Wrong → Type 0
LeadsAstray napot parts pointers id page frame rights (wrong.NotReady found) =
    (kind : AccessKind) × (allows rights kind ≡ true) × LeadsInstead napot parts pointers id page frame kind found
LeadsAstray napot parts pointers id page frame rights wrong.Held = ⊥
LeadsAstray napot parts pointers id page frame rights wrong.Lingers = ⊥
LeadsAstray napot parts pointers id page frame rights (wrong.Reached own kind) = ⊥
LeadsAstray napot parts pointers id page frame rights wrong.Used = ⊥
LeadsAstray napot parts pointers id page frame rights wrong.Uncertain = ⊥

abbrev pub PointersLeadAstray : Beside → BoardParts → (id page frame : ℕ) → Rights → Wrong → Type 0
PointersLeadAstray Nothing parts id page frame rights why = ⊥
PointersLeadAstray (UnderWay rows) parts id page frame rights why = ⊥
PointersLeadAstray (Pointers features pointers) parts id page frame rights why = LeadsAstray features.napot parts pointers id page frame rights why

abbrev pub IsUnreadyByPointer : ShownHardware → Claimed → (id page : ℕ) → Wrong → Type 0
IsUnreadyByPointer hardware before id page why =
    (frame : ℕ) × (rights : Rights) × Holds before.history id page (frame, rights)
    × PointersLeadAstray hardware.beside (board_parts hardware.board) id page frame rights why
