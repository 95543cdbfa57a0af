-- What this crate proves.
use Rattle.std.specs.Prelude.{◌≡◌, ◌<◌, ℕ, Bool, true, List, [], ◌∷◌, replicate, slice_get, None, Some, Ok, ⊤}
use Rattle.iom_base.specs.Rights.{allows}
use Rattle.iom_base.specs.Sizes.{levels_of}
use Rattle.iom_base.specs.declared.access.AccessKind.{AccessKind}
use Rattle.iom_base.specs.declared.rights.Rights.{Rights}
use Rattle.iom_base.specs.declared.size.Size.{Size}
use Rattle.iom_device_dir.specs.declared.context.Context.{Context as DeviceContext}
use Rattle.iom_device_dir.specs.Paths.{FindsContext}
use Rattle.iom_registers.specs.declared.directory.DirectoryPointer.{DirectoryPointer}
use Rattle.iom_stage_walk.specs.declared.walked.Walked.{Walked}
use Rattle.iom_stage_walk.specs.Paths.{ReachesFirst, IsInMemory, path_of, first_widths}
use Rattle.iom_stage_walk.specs.Second.{ReachesSecond, second_widths}
use Rattle.iom_stage_walk.specs.Both.{ReachesBoth}
use Rattle.iom_board.specs.Commits.{CommitsOldestAccess}
use Rattle.iom_board.specs.BoardParts.{BoardParts, board_parts}
use Rattle.iom_board.specs.PowerOn.{IsBoardAtPowerOn}
use Rattle.iom_board.specs.Invariant.{BoardInvariant}
use Rattle.iom_board.specs.declared.board.Board.{Board}
use Rattle.iom_inflight.specs.declared.made.MadeAt.{MadeAt}
use Rattle.iom_ledger.specs.History.{History, May}
use Rattle.iom_reach.specs.Laws.{AddsNoWay, UsesNoMore, Permission, HasAllowedWaysAlone, IsOutOfReach, ReadsMore}
use Rattle.iom_reach.specs.Memory.{Tables, Ends}
use Rattle.iom_reach.specs.Transitions.{Transition, ComeInTurn}
use Rattle.iom_reach.specs.Safe.{IsSafe, AreTimely}
use Rattle.iom_reach.specs.Scene.{Mapping, Context, At}
use Rattle.iom_reach.specs.Ways.{LeadsToMapping, Way}
use Rattle.iom_hardware_ways.specs.Formats.{entry_format, format_of, steps_along, steps_of, context_of, formats}
use Rattle.iom_hardware_ways.specs.Scenes.{directory_by, mapping_from, scene_of}
use Rattle.iom_hardware_ways.specs.Calls.{HardwareCall, CallEffect, HarmlessEffect, IsMadeHarmlessly, DoInTurn}

-- THE FORMATS

-- what is walked without a guest's tables, by a leaf of this level
abbrev pub without_guest : Mapping → ℕ → Walked
without_guest mapping level = record { frame = mapping.frame; rights = mapping.rights; level = level; guest_frames = replicate 4 None }

-- where the path of an address in a first stage reaches, a walk by the formats leads
abbrev pub FirstStagesLead : Type 0
FirstStagesLead = (levels : ℕ) (memory : List (List ℕ)) (root address : ℕ) (kind : AccessKind) (walked : Walked)
    → ReachesFirst levels memory root address kind walked
    → LeadsToMapping formats (slice_get memory) root (λ page. steps_along (first_widths levels) page) (mapping_from walked.frame walked.rights)

-- the same of a second stage
abbrev pub SecondStagesLead : Type 0
SecondStagesLead = (levels : ℕ) (memory : List (List ℕ)) (root address : ℕ) (kind : AccessKind) (walked : Walked)
    → ReachesSecond levels memory root address kind walked
    → LeadsToMapping formats (slice_get memory) root (λ page. steps_along (second_widths levels) page) (mapping_from walked.frame walked.rights)

-- of both a walk of the second leads to the frame, and allows at least as much
abbrev pub BothStagesLead : Type 0
BothStagesLead = (levels levels' : ℕ) (memory : List (List ℕ)) (guest root address : ℕ) (kind : AccessKind) (walked : Walked)
    → ReachesBoth levels levels' memory guest root address kind walked
    → (rights : Rights) × LeadsToMapping formats (slice_get memory) root (λ page. steps_along (second_widths levels') page) (mapping_from walked.frame rights)
    × ((k : AccessKind) → allows walked.rights k ≡ true → allows rights k ≡ true)

-- And the other way round: to each mapping within memory to which a walk by the formats leads the path of some address reaches, for each kind of access that
-- it allows. So no leaf is one too many
abbrev pub FirstStagesAreReached : Type 0
FirstStagesAreReached = (size : Size) (memory : List (List ℕ)) (root : ℕ) (kind : AccessKind) (mapping : Mapping)
    → LeadsToMapping formats (slice_get memory) root (λ page. steps_along (first_widths (levels_of size)) page) mapping
    → IsInMemory memory mapping.frame → allows mapping.rights kind ≡ true
    → (address : ℕ) × (level : ℕ) × ReachesFirst (levels_of size) memory root address kind (without_guest mapping level)

abbrev pub SecondStagesAreReached : Type 0
SecondStagesAreReached = (size : Size) (memory : List (List ℕ)) (root : ℕ) (kind : AccessKind) (mapping : Mapping)
    → LeadsToMapping formats (slice_get memory) root (λ page. steps_along (second_widths (levels_of size)) page) mapping
    → IsInMemory memory mapping.frame → allows mapping.rights kind ≡ true
    → (address : ℕ) × (level : ℕ) × ReachesSecond (levels_of size) memory root address kind (without_guest mapping level)

-- each is below the width of its level, and there is one for each
abbrev pub AreIndices : List ℕ → List ℕ → Type 0
AreIndices [] [] = ⊤
AreIndices (width ∷ widths) (i ∷ is) = (i < width) × AreIndices widths is
AreIndices widths is = ⊥

-- The pages of a stage are its indices, one a level: whatever is said of the steps to some page is said of the steps along some indices. So what walks lead to
-- and read can be found entry by entry
abbrev pub PagesAreIndices : List ℕ → Type 0
PagesAreIndices widths =
    ((page : ℕ) → AreIndices widths (path_of widths page))
    × ((is : List ℕ) → AreIndices widths is → (page : ℕ) × (path_of widths page ≡ is))

abbrev pub SizesHaveIndices : Type 0
SizesHaveIndices = (size : Size) → PagesAreIndices (first_widths (levels_of size)) × PagesAreIndices (second_widths (levels_of size))

-- where the path of a device's id finds a context, a walk of the directory by the formats ends at it
abbrev pub DirectoriesLead : Type 0
DirectoriesLead = (memory : List (List ℕ)) (ddtp : DirectoryPointer) (id : ℕ) (context : DeviceContext) → FindsContext memory ddtp id context
    → (tables : Tables) × (directory_by ddtp.mode ddtp.ppn ≡ At tables)
    × Ends formats.context (slice_get memory) tables.root (steps_of tables.levels id) (context_of context)

-- and the other way round: what a walk of the directory by the formats ends at, the path of the id finds
abbrev pub DirectoriesAreFound : Type 0
DirectoriesAreFound = (memory : List (List ℕ)) (ddtp : DirectoryPointer) (id : ℕ) (tables : Tables) (context : Context) → directory_by ddtp.mode ddtp.ppn ≡ At tables
    → Ends formats.context (slice_get memory) tables.root (steps_of tables.levels id) context
    → (found : DeviceContext) × FindsContext memory ddtp id found × (context_of found ≡ context)

-- where walks know leaves of 64 KiB, they find all that they find where they don't, and such a leaf where nothing was found
abbrev pub NapotReadsMore : Type 0
NapotReadsMore = (napot : Bool) → ReadsMore entry_format (format_of napot)

-- THE CALLS

-- the scene of the one comes of that of the other by a list of transitions
abbrev pub AreTransitions : (ℕ → Bool) → BoardParts → BoardParts → Type 0
AreTransitions trusted old new = (transitions : List Transition) × ComeInTurn (scene_of trusted old) transitions (scene_of trusted new)

-- each call of hardware that keeps its invariant is a list of transitions
abbrev pub CallsAreTransitions : Type 0
CallsAreTransitions = (trusted : ℕ → Bool) (call : HardwareCall) (events : ℕ) (old new : BoardParts) → BoardInvariant old events
    → CallEffect call old new → HarmlessEffect trusted call old → AreTransitions trusted old new

-- NO CALL ADDS A WAY: where hardware and devices can't write what hardware reads, no list of calls does
abbrev pub CallsAddNoWay : Type 0
CallsAddNoWay = (trusted : ℕ → Bool) (calls : List HardwareCall) (events : ℕ) (old new : BoardParts)
    → IsSafe (scene_of trusted old) → AreTimely (scene_of trusted old) → DoInTurn trusted events old calls new
    → AddsNoWay (scene_of trusted old) (scene_of trusted new) × UsesNoMore (scene_of trusted old) (scene_of trusted new)
    × IsSafe (scene_of trusted new) × AreTimely (scene_of trusted new)

-- a commit makes this access, and a device that is trusted makes it harmlessly
abbrev pub MakesIn : (ℕ → Bool) → BoardParts → ℕ → MadeAt → BoardParts → Type 0
MakesIn trusted old id made new = CommitsOldestAccess old id (Ok (Some made)) new × IsMadeHarmlessly trusted old id (Ok (Some made))

-- each access that is made after any list of calls had its way at the beginning
abbrev pub MadeAccessesHadWays : Type 0
MadeAccessesHadWays = (trusted : ℕ → Bool) (calls : List HardwareCall) (events : ℕ) (id : ℕ) (made : MadeAt) (old between new : BoardParts)
    → IsSafe (scene_of trusted old) → AreTimely (scene_of trusted old) → DoInTurn trusted events old calls between → MakesIn trusted between id made new
    → Way (scene_of trusted old) id made.frame made.kind

-- WHAT WAS WITHDRAWN IS OUT OF REACH: a device without a way to a frame, but those that it may take, makes no other access there
abbrev pub QuietStaysQuiet : Type 0
QuietStaysQuiet = (trusted : ℕ → Bool) (may : Permission) (calls : List HardwareCall) (events : ℕ) (id : ℕ) (made : MadeAt) (old between new : BoardParts)
    → IsSafe (scene_of trusted old) → AreTimely (scene_of trusted old) → HasAllowedWaysAlone may (scene_of trusted old) id made.frame
    → DoInTurn trusted events old calls between → MakesIn trusted between id made new → may id made.frame made.kind ≡ true

-- A CLAIM THAT IS GOOD STAYS TRUE: where each way of a device to a frame is one that what was claimed allows, the device makes no other access there
abbrev pub GoodClaimsHold : Type 0
GoodClaimsHold = (trusted : ℕ → Bool) (claimed : History) (calls : List HardwareCall) (events : ℕ) (id : ℕ) (made : MadeAt) (old between new : BoardParts)
    → IsSafe (scene_of trusted old) → AreTimely (scene_of trusted old)
    → ((kind : AccessKind) → Way (scene_of trusted old) id made.frame kind → May claimed id made.frame kind)
    → DoInTurn trusted events old calls between → MakesIn trusted between id made new → May claimed id made.frame made.kind

-- NOBODY USES THE FRAME: where no device has a way to it, no access is made there
abbrev pub FreeStaysFree : Type 0
FreeStaysFree = (trusted : ℕ → Bool) (calls : List HardwareCall) (events : ℕ) (id : ℕ) (made : MadeAt) (old between new : BoardParts)
    → IsSafe (scene_of trusted old) → AreTimely (scene_of trusted old) → IsOutOfReach (scene_of trusted old) made.frame
    → DoInTurn trusted events old calls between → ¬ MakesIn trusted between id made new

-- at power-on all that the theorem asks for holds
abbrev pub BeginsSafe : Type 0
BeginsSafe = (trusted : ℕ → Bool) (frames : ℕ) (disks : List ℕ) (hardware : Board) → IsBoardAtPowerOn frames disks hardware
    → IsSafe (scene_of trusted (board_parts hardware)) × AreTimely (scene_of trusted (board_parts hardware))
