-- Where a request stands that is under way in a world, by what remains of it: among the walks of which the facts on copies speak, and in what the driver wrote, as
-- memory is now (RISC-V IOMMU specification, sections 2.3 and 2.3.1; RISC-V Privileged Architecture, sections 12.3.2 and 15.5).
use Rattle.std.specs.Prelude.{◌≡◌, ℕ, ◌+◌, ◌*◌, ◌^◌, ◌<◌, ◌≤◌, true, List, ◌++◌, length, Some, Result, Contains}
use Rattle.iom_base.specs.Rights.{allows}
use Rattle.iom_base.specs.Sizes.{levels_of}
use Rattle.iom_base.specs.declared.size.Size.{Size}
use Rattle.iom_base.specs.declared.mode.Mode.{Mode}
use Rattle.iom_base.specs.declared.mode.Mode.TheVariants.{First, Second, Both}
use Rattle.iom_device_dir.specs.Paths.{ids_below}
use Rattle.iom_directory_build.specs.Pages.{page_at, root_level}
use Rattle.iom_driver.specs.Devices.{owned_stages_of}
use Rattle.iom_driver.specs.Directory.{context_for}
use Rattle.iom_driver.specs.Layout.{directory_frame}
use Rattle.iom_driver.specs.State.{DriverState}
use Rattle.iom_driver.specs.declared.device.Stages.{Stages}
use Rattle.iom_page_table.specs.Trees.{IsTableAt}
use Rattle.iom_stage_walk.specs.Both.{entry_address, guest_address, plain}
use Rattle.iom_stage_walk.specs.Entries.{entries, slot}
use Rattle.iom_stage_walk.specs.Paths.{first_path}
use Rattle.iom_stage_walk.specs.Second.{second_path}
use Rattle.iom_standing_walks.specs.Judged.{IsOnItsWay, through}
use Rattle.iom_standing_walks.specs.Positions.{Position, ToEntry, AtEntry, ToPage, rest_of}
use Rattle.iom_stepped_requests.specs.Serving.{Remaining, Serves, Locates, Translates}
use Rattle.iom_stepped_requests.specs.Standing.{still_serving}
use Rattle.iom_stepped_requests.specs.declared.request.Answer.TheVariants.{Faults}
use Rattle.iom_stepped_requests.specs.declared.request.Request.{Request}
use Rattle.iom_stepped_walk.specs.Steps.{TableAnswer}
use Rattle.iom_stepped_walk.specs.declared.tables.Asked.{Asked}
use Rattle.iom_tlb.specs.declared.space.Space.{Space}
use Rattle.iom_walk_coherence.specs.Walks as walks
use Rattle.iom_walk_loads.specs.Directory.{directory_walk}
use Rattle.iom_walk_loads.specs.Loads.{Walk}
use Rattle.iom_walk_loads.specs.Tables.{first_rest, is_canonical, second_rest}
use Rattle.iom_walks.specs.Walks.{UnderWay, WalkRow}
use Rattle.iom_base.specs.declared.cause.Cause.{Cause}
use Rattle.iom_base.specs.declared.cause.Cause.TheVariants.{TransactionTypeDisallowed}
use Rattle.iom_device_dir.specs.declared.context.Context.{Context}
use Rattle.iom_world_effects.specs.Read.{space_in}

-- it stands in a page of the directory, that of a level on the path of the device's id
pub record StandsInDirectory (driver : DriverState) (memory : List (List ℕ)) (id : ℕ) (rest : Walk (Result Context Cause)) : Type 0 where
  pub level : ℕ
  pub page : ℕ
  pub fits : id < ids_below (root_level driver.levels)
  pub remains : rest ≡ directory_walk level page id
  pub is_there : page_at memory (root_level driver.levels) (directory_frame (length memory)) level id ≡ Some page

-- it has come by the first indices of a path to a table, and these indices are left
pub record StandsOnPath (memory : List (List ℕ)) (root : ℕ) (path : List ℕ) (table : ℕ) (left : List ℕ) : Type 0 where
  pub done : List ℕ
  pub path_is : path ≡ done ++ left
  pub table_is : IsTableAt (entries memory) root done table

-- in the tables of a first stage
pub record StandsInFirst (size : Size) (memory : List (List ℕ)) (root : ℕ) (asked : Asked) (rest : Walk TableAnswer) (standing : walks.Standing) : Type 0 where
  pub table : ℕ
  pub left : List ℕ
  pub in_tables : standing ≡ walks.InTables
  pub canonical : is_canonical (levels_of size) asked.address ≡ true
  pub on_path : StandsOnPath memory root (first_path (levels_of size) asked.address) table left
  pub remains : rest ≡ first_rest (length memory) asked.kind table left

-- of a second
pub record StandsInSecond (size : Size) (memory : List (List ℕ)) (root : ℕ) (asked : Asked) (rest : Walk TableAnswer) (standing : walks.Standing) : Type 0 where
  pub table : ℕ
  pub left : List ℕ
  pub in_tables : standing ≡ walks.InTables
  pub physical : asked.address < 2 ^ (9 * levels_of size + 14)
  pub on_path : StandsOnPath memory root (second_path (levels_of size) asked.address) table left
  pub remains : rest ≡ second_rest (length memory) asked.kind asked.address table left

-- in both stages: in a table of the second, on the way to an entry of a guest's table, or to the page, where the guest's leaf allows the access; or at that entry, which
-- lies in this frame
abbrev pub StandsAt : Size → List (List ℕ) → ℕ → Asked → Position → walks.Standing → Type 0
StandsAt size memory root asked (ToEntry loaded guest i below table left) standing =
    (standing ≡ walks.InTables) × (done : List ℕ) × IsOnItsWay size memory root (entry_address (slot guest i)) table done left
StandsAt size memory root asked (AtEntry loaded guest i below frame) standing = (standing ≡ walks.InGuestTable frame) × (frame < length memory)
StandsAt size memory root asked (ToPage loaded page given level table left) standing =
    (standing ≡ walks.InTables) × (allows given asked.kind ≡ true) × (done : List ℕ) × IsOnItsWay size memory root (guest_address page asked.address) table done left

pub record StandsInBoth (size : Size) (memory : List (List ℕ)) (root : ℕ) (asked : Asked) (rest : Walk TableAnswer) (standing : walks.Standing) : Type 0 where
  pub position : Position
  pub stands : StandsAt size memory root asked position standing
  pub remains : rest ≡ rest_of (through size memory root asked.address asked.kind) position

abbrev pub StandsInMode : Mode → List (List ℕ) → ℕ → Asked → Walk TableAnswer → walks.Standing → Type 0
StandsInMode (First size) memory root asked rest standing = StandsInFirst size memory root asked rest standing
StandsInMode (Second size) memory root asked rest standing = StandsInSecond size memory root asked rest standing
StandsInMode (Both size) memory root asked rest standing = StandsInBoth size memory root asked rest standing

-- it stands in tables of its device: by the context that the driver wrote for it
pub record StandsInTables (driver : DriverState) (memory : List (List ℕ)) (request : Request) (context : Context) (translated : Space) (rest : Walk TableAnswer)
    (standing : walks.Standing) : Type 0 where
  pub stage : Stages
  pub owned : owned_stages_of driver.devices request.device ≡ Some stage
  pub context_is : context ≡ context_for stage
  pub space_is : translated ≡ space_in stage.mode stage.number
  pub stands : StandsInMode stage.mode memory stage.root request.asked rest standing

-- its id is too wide for the directory
abbrev pub IsTooWide : DriverState → ℕ → Type 0
IsTooWide driver id = ids_below (root_level driver.levels) ≤ id

-- WHERE A REQUEST STANDS of which this remains, as one of these walks. One that is served already was begun anew, and has no place in the directory: it makes no load
abbrev pub StandsAs : DriverState → List (List ℕ) → List walks.Walk → Request → Remaining → Type 0
StandsAs driver memory under_way own (Serves answer) = IsTooWide driver own.device × (answer ≡ Faults (plain TransactionTypeDisallowed))
StandsAs driver memory under_way own (Locates request anew rest) =
    (request ≡ own) × Contains under_way (walks.walk_at own.device walks.InDirectory) × StandsInDirectory driver memory own.device rest
StandsAs driver memory under_way own (Translates request context translated rest) =
    (request ≡ own) × (standing : walks.Standing) × Contains under_way (walks.walk_at own.device standing)
    × StandsInTables driver memory own context translated rest standing

-- SO DOES EACH REQUEST that is under way, for an address of 64 bits
abbrev pub RowsStand : DriverState → List (List ℕ) → List walks.Walk → List WalkRow → Type 0
RowsStand driver memory under_way rows = (row : WalkRow) (own : UnderWay) → Contains rows row → row.under_way ≡ Some own
    → (own.request.asked.address < 2 ^ 64) × StandsAs driver memory under_way own.request (still_serving (length memory) own.serving)
