-- What is looked for of requests that are under way beside hardware: the tables that they still read, where these lead, the context that they look for, and the
-- accesses that they let through.
use Rattle.std.specs.Prelude.{◌≡◌, ◌⊎◌, ℕ, ◌+◌, ◌/◌, ◌%◌, ◌^◌, true, List, map, slice_get, Option, None, Some, option_map, Result, Ok, Err}
use Rattle.iom_base.specs.Rights.{allows}
use Rattle.iom_base.specs.Sizes.{levels_of, page_size}
use Rattle.iom_base.specs.Tables.{table_entries}
use Rattle.iom_base.specs.declared.access.AccessKind.{AccessKind}
use Rattle.iom_base.specs.declared.access.AccessKind.TheVariants.{Read}
use Rattle.iom_base.specs.declared.cause.Cause.{Cause}
use Rattle.iom_base.specs.declared.rights.Rights.{Rights}
use Rattle.iom_device_dir.specs.declared.context.Context.{Context as DeviceContext}
use Rattle.iom_stage_walk.specs.Entries.{entries}
use Rattle.iom_walk_loads.specs.Loads.{made_from}
use Rattle.iom_stepped_walk.specs.Directories.{directory_rest}
use Rattle.iom_stepped_walk.specs.Hands.{hand_of, to_come_of}
use Rattle.iom_stepped_walk.specs.Indices.{indices_from}
use Rattle.iom_stepped_walk.specs.declared.hand.SecondTables.{SecondTables}
use Rattle.iom_stepped_walk.specs.declared.hand.TableInHand.{TableInHand}
use Rattle.iom_stepped_walk.specs.declared.tables.TableWalk.{TableWalk}
use Rattle.iom_stepped_walk.specs.declared.tables.TableWalk.TheVariants.{InFirstStage, InSecondStage, ToGuestEntry, InGuestTable, ToGuestPage}
use Rattle.iom_stepped_requests.specs.declared.request.Answer.{Answer}
use Rattle.iom_stepped_requests.specs.declared.request.Answer.TheVariants.{AsItIs, Cached, Reaches, Faults}
use Rattle.iom_stepped_requests.specs.declared.request.Request.{Request}
use Rattle.iom_stepped_requests.specs.declared.walk.RequestWalk.TheVariants.{InDirectory, InTables}
use Rattle.iom_stepped_requests.specs.declared.walk.Serving.{Serving}
use Rattle.iom_stepped_requests.specs.declared.walk.Serving.TheVariants.{GoesOn, Served}
use Rattle.iom_tlb.specs.declared.space.Space.{Space}
use Rattle.iom_walks.specs.Walks.{UnderWay, WalkRow, under_way_of}
use Rattle.iom_reach.specs.Memory.{WalkStep, ReadsFrame, Ends}
use Rattle.iom_reach.specs.Scene.{Mapping}
use Rattle.iom_reach.specs.Ways.{ServesKind}
use Rattle.iom_hardware_ways.specs.Formats.{step_at, entry_format}
use Rattle.iom_table_survey.specs.Levels.{IsTable, IsMapped}
use Rattle.iom_table_survey.specs.Rows.{IsInRun}

-- there is one, and it is so
abbrev pub IsOneThat : {X : Type 0} → Option X → (X → Type 0) → Type 0
IsOneThat None IsSo = ⊥
IsOneThat (Some x) IsSo = IsSo x

-- how far the request of the device has come, if one is under way
abbrev pub serving_of : List WalkRow → ℕ → Option Serving
serving_of rows id = option_map (λ (own : UnderWay). own.serving) (under_way_of rows id)

-- A TABLE IN HAND

-- the steps that are left there
abbrev pub steps_in_hand : TableInHand → List WalkStep
steps_in_hand hand = map step_at (indices_from hand.is_wide hand.level hand.page)

-- the walk from there on reads the frame
abbrev pub HandReads : List (List ℕ) → TableInHand → ℕ → Type 0
HandReads memory hand frame = ReadsFrame entry_format (slice_get memory) hand.table.number (steps_in_hand hand) frame

-- it ends at a leaf that maps the frame, and allows this kind of access
abbrev pub HandLeads : List (List ℕ) → TableInHand → AccessKind → ℕ → Type 0
HandLeads memory hand kind frame = (mapping : Mapping) × Ends entry_format (slice_get memory) hand.table.number (steps_in_hand hand) mapping × ServesKind mapping frame kind

-- how many pages a leaf in the table spans
abbrev pub span_in : TableInHand → ℕ
span_in hand = table_entries ^ hand.level

-- such a leaf maps the page that is looked for to the frame: it is aligned to what it spans, and allows this kind of access
abbrev pub MapsPage : TableInHand → ℕ → Rights → AccessKind → ℕ → Type 0
MapsPage hand base rights kind frame = (base % span_in hand ≡ 0) × ((frame ≡ base + hand.page % span_in hand) × (allows rights kind ≡ true))

-- A SECOND STAGE TO COME, of any page

-- some walk of it reads the frame
abbrev pub SecondReads : List (List ℕ) → SecondTables → ℕ → Type 0
SecondReads memory second frame = IsTable (entries memory) (IsInRun second.root.number 4) (levels_of second.size) frame

-- some walk of it leads there
abbrev pub SecondLeads : List (List ℕ) → SecondTables → AccessKind → ℕ → Type 0
SecondLeads memory second kind frame = IsMapped (entries memory) (IsInRun second.root.number 4) (levels_of second.size) kind frame

-- A WALK OF TABLES: both

abbrev pub WalkReads : List (List ℕ) → TableWalk → ℕ → Type 0
WalkReads memory walk frame = IsOneThat (hand_of walk) (λ hand. HandReads memory hand frame) ⊎ IsOneThat (to_come_of walk) (λ second. SecondReads memory second frame)

abbrev pub WalkLeads : List (List ℕ) → TableWalk → AccessKind → ℕ → Type 0
WalkLeads memory walk kind frame =
    IsOneThat (hand_of walk) (λ hand. HandLeads memory hand kind frame) ⊎ IsOneThat (to_come_of walk) (λ second. SecondLeads memory second kind frame)

-- A REQUEST UNDER WAY

-- it walks tables: of the address space in which its translation is kept, and of where it stands, this is so
abbrev pub WalksSo : Option Serving → (Space → TableWalk → Type 0) → Type 0
WalksSo None IsSo = ⊥
WalksSo (Some (GoesOn (InDirectory request anew walk))) IsSo = ⊥
WalksSo (Some (GoesOn (InTables request context kept_in walk))) IsSo = IsSo kept_in walk
WalksSo (Some (Served answer)) IsSo = ⊥

-- its walk reads the frame
abbrev pub RequestReads : List (List ℕ) → Option Serving → ℕ → Type 0
RequestReads memory serving frame = WalksSo serving (λ kept_in walk. WalkReads memory walk frame)

-- it leads there
abbrev pub RequestLeads : List (List ℕ) → Option Serving → AccessKind → ℕ → Type 0
RequestLeads memory serving kind frame = WalksSo serving (λ kept_in walk. WalkLeads memory walk kind frame)

-- so of a walk whose translation is kept in this address space: it counts for all devices of the space
abbrev pub SpaceReads : List (List ℕ) → Space → Option Serving → ℕ → Type 0
SpaceReads memory own serving frame = WalksSo serving (λ kept_in walk. (kept_in ≡ own) × WalkReads memory walk frame)

abbrev pub SpaceLeads : List (List ℕ) → Space → Option Serving → AccessKind → ℕ → Type 0
SpaceLeads memory own serving kind frame = WalksSo serving (λ kept_in walk. (kept_in ≡ own) × WalkLeads memory walk kind frame)

abbrev pub found_of : Result DeviceContext Cause → Option DeviceContext
found_of (Ok context) = Some context
found_of (Err cause) = None

-- the context to which a walk of the directory comes that is under way, if memory stays as it is
abbrev pub sought_by : List (List ℕ) → Option Serving → Option DeviceContext
sought_by memory None = None
sought_by memory (Some (GoesOn (InDirectory request anew walk))) = found_of (made_from memory (directory_rest walk))
sought_by memory (Some (GoesOn (InTables request context kept_in walk))) = None
sought_by memory (Some (Served answer)) = None

-- ACCESSES that are let through

-- the frame on which an answer lets its request through, if it does
abbrev pub frame_let_through : Request → Answer → Option ℕ
frame_let_through request AsItIs = Some (request.asked.address / page_size)
frame_let_through request (Cached translation) = Some translation.frame
frame_let_through request (Reaches walked) = Some walked.frame
frame_let_through request (Faults fault) = None

-- the next load of a walk of tables is that of a guest's entry, which lies in the frame: the second stage has led it there already
abbrev pub LetsNext : TableWalk → AccessKind → ℕ → Type 0
LetsNext (InFirstStage asked place) kind frame = ⊥
LetsNext (InSecondStage asked place) kind frame = ⊥
LetsNext (ToGuestEntry both entry place) kind frame = ⊥
LetsNext (InGuestTable both entry own) kind frame = (frame ≡ own) × (kind ≡ Read)
LetsNext (ToGuestPage both page place) kind frame = ⊥

-- it lets an access of this kind through on the frame
abbrev pub LetsOn : Request → Serving → AccessKind → ℕ → Type 0
LetsOn request (GoesOn (InDirectory own anew walk)) kind frame = ⊥
LetsOn request (GoesOn (InTables own context kept_in walk)) kind frame = LetsNext walk kind frame
LetsOn request (Served answer) kind frame = (frame_let_through request answer ≡ Some frame) × (kind ≡ request.asked.kind)

-- so of what is under way of a device
abbrev pub IsLetThrough : Option UnderWay → AccessKind → ℕ → Type 0
IsLetThrough None kind frame = ⊥
IsLetThrough (Some own) kind frame = LetsOn own.request own.serving kind frame
