-- What holds of all requests under way, whatever calls were made.
use Rattle.std.specs.Prelude.{◌≡◌, ℕ, ◌≤◌, List, [], ◌∷◌, length, Option, None, Some}
use Rattle.iom_base.specs.Sizes.{device_limit}
use Rattle.iom_base.specs.Spans.{FitsInPage}
use Rattle.iom_inflight.specs.Invariant.{CarriesBytes}
use Rattle.iom_stepped_requests.specs.Standing.{request_of}
use Rattle.iom_stepped_requests.specs.declared.request.Answer.{Answer}
use Rattle.iom_stepped_requests.specs.declared.request.Answer.TheVariants.{AsItIs, Cached, Reaches, Faults}
use Rattle.iom_stepped_requests.specs.declared.request.Request.{Request}
use Rattle.iom_stepped_requests.specs.declared.walk.Serving.{Serving}
use Rattle.iom_stepped_requests.specs.declared.walk.Serving.TheVariants.{GoesOn, Served}
use Rattle.iom_walks.specs.Walks.{UnderWay, WalkRow, row_of}

-- a walk is of the request for which it is made
abbrev pub IsOfRequest : Request → Serving → Type 0
IsOfRequest request (GoesOn walk) = request_of walk ≡ request
IsOfRequest request (Served answer) = Unit {0}

-- one that is served while it is under way was begun anew where there is no directory, or its id is too wide for it: its answer names no frame
abbrev pub NamesNoFrame : Answer → Type 0
NamesNoFrame AsItIs = Unit {0}
NamesNoFrame (Cached translation) = ⊥
NamesNoFrame (Reaches walked) = ⊥
NamesNoFrame (Faults fault) = Unit {0}

abbrev pub IsServedAtMost : Serving → Type 0
IsServedAtMost (GoesOn walk) = Unit {0}
IsServedAtMost (Served answer) = NamesNoFrame answer

-- a request of the device that may be under way: its bytes are within a page, and these are those of a write
pub record UnderWayInvariant (device : ℕ) (bytes : List ℕ) (under_way : UnderWay) : Type 0 where
  pub own : under_way.request.device ≡ device
  pub of_request : IsOfRequest under_way.request under_way.serving
  pub served : IsServedAtMost under_way.serving
  pub within : FitsInPage under_way.request.asked.address under_way.len
  pub carries : CarriesBytes under_way.request.asked.kind under_way.len bytes

abbrev pub RowInvariant : ℕ → List ℕ → Option UnderWay → Type 0
RowInvariant device bytes None = Unit {0}
RowInvariant device bytes (Some under_way) = UnderWayInvariant device bytes under_way

abbrev pub RowsInvariant : List WalkRow → Type 0
RowsInvariant [] = Unit {0}
RowsInvariant (row ∷ rows) = RowInvariant row.device row.bytes row.under_way × RowsInvariant rows

-- no two rows are of one device
abbrev pub AreDistinct : List WalkRow → Type 0
AreDistinct [] = Unit {0}
AreDistinct (row ∷ rows) = (row_of rows row.device ≡ None) × AreDistinct rows

-- at most 16 devices, each with one row
pub record AreWalks (rows : List WalkRow) : Type 0 where
  pub few : length rows ≤ device_limit
  pub distinct : AreDistinct rows
  pub rows_are : RowsInvariant rows
