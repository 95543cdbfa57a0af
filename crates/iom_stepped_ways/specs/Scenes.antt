-- The scene of hardware beside which requests are under way: what each of them may still come to is among the walks of the scene.
use Rattle.std.specs.Prelude.{◌≡◌, ℕ, ◌/◌, ◌==◌, Bool, List, [], ◌∷◌, ◌++◌, map, length, Contains, Option, None, Some, ⊤, if◌then◌else◌}
use Rattle.iom_base.specs.Sizes.{page_size}
use Rattle.iom_base.specs.declared.access.AccessKind.{AccessKind}
use Rattle.iom_base.specs.declared.access.AccessKind.TheVariants.{Read}
use Rattle.iom_board.specs.BoardParts.{BoardParts}
use Rattle.iom_stepped_requests.specs.Serving.{Remaining, Serves, Locates, Translates}
use Rattle.iom_stepped_requests.specs.Standing.{still_serving}
use Rattle.iom_stepped_requests.specs.declared.request.Answer.{Answer}
use Rattle.iom_stepped_requests.specs.declared.request.Answer.TheVariants.{AsItIs, Cached, Reaches, Faults}
use Rattle.iom_stepped_requests.specs.declared.request.Request.{Request}
use Rattle.iom_stepped_requests.specs.declared.walk.RequestWalk.{RequestWalk}
use Rattle.iom_stepped_requests.specs.declared.walk.RequestWalk.TheVariants.{InDirectory, InTables}
use Rattle.iom_stepped_requests.specs.declared.walk.Serving.{Serving}
use Rattle.iom_stepped_requests.specs.declared.walk.Serving.TheVariants.{GoesOn, Served}
use Rattle.iom_stepped_walk.specs.Positions.{address_of, in_both, indices_of}
use Rattle.iom_stepped_walk.specs.declared.tables.Asked.{Asked}
use Rattle.iom_stepped_walk.specs.declared.tables.TableWalk.{TableWalk}
use Rattle.iom_stepped_walk.specs.declared.tables.TableWalk.TheVariants.{InFirstStage, InSecondStage, ToGuestEntry, InGuestTable, ToGuestPage}
use Rattle.iom_stage_walk.specs.Both.{guest_address}
use Rattle.iom_tlb.specs.declared.space.Space.{Space}
use Rattle.iom_tlb.specs.declared.space.Space.TheVariants as space
use Rattle.iom_walk_loads.specs.Directory.{directory_walk}
use Rattle.iom_walks.specs.Walks.{UnderWay, WalkRow, under_way_of}
use Rattle.iom_reach.specs.Scene.{AddressSpace, First, Second, Both, PendingAccess, PartialWalk, DirectoryWalk, HardwareScene}
use Rattle.iom_hardware_ways.specs.Formats.{indices_from}
use Rattle.iom_hardware_ways.specs.Scenes.{scene_of}
use Rattle.iom_stepped_ways.specs.Parts.{Part, part_along, part_from_root, IsWalkOf}

-- what is added to a scene: walks of tables, walks of the directory, and accesses of each device that are let through at a load to come: those that have their
-- answer, and the load of a guest's entry
pub record Added : Type 0 where
  pub partial_walks : List PartialWalk
  pub directory_walks : List DirectoryWalk
  pub let_through : ℕ → List PendingAccess

-- nothing
abbrev pub nothing_added : Added
nothing_added = record { partial_walks = []; directory_walks = []; let_through = λ device. [] }

-- the scene with that
abbrev pub with_added : HardwareScene → Added → HardwareScene
with_added scene added = record scene {
  partial_walks = scene.partial_walks ++ added.partial_walks;
  directory_walks = scene.directory_walks ++ added.directory_walks;
  in_flight = λ device. scene.in_flight device ++ added.let_through device;
}

-- the address space of a key by which a translation is cached
abbrev pub address_space : Space → AddressSpace
address_space (space.First pscid) = First pscid
address_space (space.Second gscid) = Second gscid
address_space (space.Both gscid pscid) = Both gscid pscid

-- a part of a walk of this device, whose translation is kept in this address space
abbrev pub walk_of_part : ℕ → AddressSpace → Part → PartialWalk
walk_of_part device kept_in part = record { device = Some device; space = kept_in; table = part.table; steps_to = part.steps_to }

-- the walk for a device to the context of an id that stands in this page of the directory, of this level
abbrev pub walk_in_page : (device id level page : ℕ) → DirectoryWalk
walk_in_page device id level page = record { device = device; table = page; steps = indices_from level id }

abbrev pub access_on : ℕ → AccessKind → PendingAccess
access_on frame kind = record { frame = frame; kind = kind }

-- an answer that a request has already lets its access through on this frame
abbrev pub HasLetThrough : Added → Request → Answer → Type 0
HasLetThrough added request AsItIs = Contains (added.let_through request.device) (access_on (request.asked.address / page_size) request.asked.kind)
HasLetThrough added request (Cached translation) = Contains (added.let_through request.device) (access_on translation.frame request.asked.kind)
HasLetThrough added request (Reaches walked) = Contains (added.let_through request.device) (access_on walked.frame request.asked.kind)
HasLetThrough added request (Faults fault) = ⊤

-- all that remains of a request is among what is added, in a memory of so many frames
abbrev pub HasAdded : ℕ → Added → Request → Remaining → Type 0
HasAdded frames added own (Serves answer) = HasLetThrough added own answer
HasAdded frames added own (Locates request anew rest) =
    (request ≡ own) × ((id : ℕ) × (level : ℕ) × (page : ℕ) × (rest ≡ directory_walk level page id)
    × Contains added.directory_walks (walk_in_page request.device id level page))
HasAdded frames added own (Translates request context translated rest) =
    (request ≡ own) × ((list : List Part) × (entries : List ℕ) × IsWalkOf frames request.asked.kind rest list entries
    × ((part : Part) → Contains list part → Contains added.partial_walks (walk_of_part request.device (address_space translated) part))
    × ((frame : ℕ) → Contains entries frame → Contains (added.let_through request.device) (access_on frame Read)))

-- A SCENE COVERS hardware beside which these requests are under way: it is that of the board, with all that may come of each of them
pub record Covers (trusted : ℕ → Bool) (parts : BoardParts) (rows : List WalkRow) (scene : HardwareScene) : Type 0 where
  pub added : Added
  pub is : scene ≡ with_added (scene_of trusted parts) added
  pub walks : (id : ℕ) (under_way : UnderWay) → under_way_of rows id ≡ Some under_way
      → HasAdded (length parts.memory) added under_way.request (still_serving (length parts.memory) under_way.serving)

-- WHAT EACH WALK ADDS, by where it stands

-- the parts of a walk of tables
abbrev pub parts_of : TableWalk → List Part
parts_of (InFirstStage asked place) = part_along place.table.number (indices_of place asked.address) ∷ []
parts_of (InSecondStage asked place) = part_along place.table.number (indices_of place asked.address) ∷ []
parts_of (ToGuestEntry both entry place) =
    part_along place.table.number (indices_of place (address_of entry both.asked.address)) ∷ part_from_root (in_both 0 both) ∷ []
parts_of (InGuestTable both entry frame) = part_from_root (in_both 0 both) ∷ []
parts_of (ToGuestPage both page place) = part_along place.table.number (indices_of place (guest_address page.number both.asked.address)) ∷ []

-- the frames of a guest's tables from which it loads next
abbrev pub entries_of : TableWalk → List ℕ
entries_of (InFirstStage asked place) = []
entries_of (InSecondStage asked place) = []
entries_of (ToGuestEntry both entry place) = []
entries_of (InGuestTable both entry frame) = frame ∷ []
entries_of (ToGuestPage both page place) = []

-- an access of the device is let through
abbrev pub with_one : ℕ → PendingAccess → Added
with_one owner access = record { partial_walks = []; directory_walks = []; let_through = λ device. if owner == device then access ∷ [] else [] }

abbrev pub added_by_answer : Request → Answer → Added
added_by_answer request AsItIs = with_one request.device (access_on (request.asked.address / page_size) request.asked.kind)
added_by_answer request (Cached translation) = with_one request.device (access_on translation.frame request.asked.kind)
added_by_answer request (Reaches walked) = with_one request.device (access_on walked.frame request.asked.kind)
added_by_answer request (Faults fault) = nothing_added

abbrev pub added_by_walk : RequestWalk → Added
added_by_walk (InDirectory request anew walk) =
    record { partial_walks = []; directory_walks = walk_in_page request.device walk.id walk.level walk.page.number ∷ []; let_through = λ device. [] }
added_by_walk (InTables request context translated walk) = record {
  partial_walks = map (walk_of_part request.device (address_space translated)) (parts_of walk);
  directory_walks = [];
  let_through = λ device. if request.device == device then map (λ frame. access_on frame Read) (entries_of walk) else [];
}

abbrev pub added_by : Request → Serving → Added
added_by request (GoesOn walk) = added_by_walk walk
added_by request (Served answer) = added_by_answer request answer

-- what is under way of a row, if anything is
abbrev pub added_if_any : Option UnderWay → Added
added_if_any None = nothing_added
added_if_any (Some under_way) = added_by under_way.request under_way.serving

-- both
abbrev pub added_and : Added → Added → Added
added_and one other = record {
  partial_walks = one.partial_walks ++ other.partial_walks;
  directory_walks = one.directory_walks ++ other.directory_walks;
  let_through = λ device. one.let_through device ++ other.let_through device;
}

-- all that is under way
abbrev pub added_of : List WalkRow → Added
added_of [] = nothing_added
added_of (row ∷ rows) = added_and (added_if_any row.under_way) (added_of rows)

-- what a walk of tables is for
abbrev pub asked_by : TableWalk → Asked
asked_by (InFirstStage asked place) = asked
asked_by (InSecondStage asked place) = asked
asked_by (ToGuestEntry both entry place) = both.asked
asked_by (InGuestTable both entry frame) = both.asked
asked_by (ToGuestPage both page place) = both.asked

-- it is for the kind of access that its request asks for
abbrev pub IsForKind : Request → Serving → Type 0
IsForKind own (GoesOn (InDirectory request anew walk)) = ⊤
IsForKind own (GoesOn (InTables request context translated walk)) = (asked_by walk).kind ≡ own.asked.kind
IsForKind own (Served answer) = ⊤

-- so is each that is under way
abbrev pub AreForKinds : List WalkRow → Type 0
AreForKinds rows = (id : ℕ) (under_way : UnderWay) → under_way_of rows id ≡ Some under_way → IsForKind under_way.request under_way.serving

-- THE SCENE of hardware beside which these requests are under way
abbrev pub stepped_scene : (ℕ → Bool) → BoardParts → List WalkRow → HardwareScene
stepped_scene trusted parts rows = with_added (scene_of trusted parts) (added_of rows)
