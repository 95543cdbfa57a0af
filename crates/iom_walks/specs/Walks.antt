-- The requests that are under way, that of each device in a row of its own.
use Rattle.std.specs.Prelude.{ℕ, ◌==◌, List, [], ◌∷◌, Option, None, Some, IsSome, if◌then◌else◌}
use Rattle.iom_stepped_requests.specs.declared.request.Request.{Request}
use Rattle.iom_stepped_requests.specs.declared.walk.Serving.{Serving}

-- a request that is under way
pub record UnderWay : Type 0 where
  -- its device, address and kind
  pub request : Request
  -- how far it has come: where it stands; or served already, where it was begun anew and there was no directory to walk
  pub serving : Serving
  -- how many bytes it asks for
  pub len : ℕ

-- a device's
pub record WalkRow : Type 0 where
  pub device : ℕ
  -- one request of a device is under way at most
  pub under_way : Option UnderWay
  -- the bytes with which that was asked that began last: of a write its bytes, of a read none. They stay when it ends
  pub bytes : List ℕ

-- the row of a device of which nothing has begun yet
abbrev pub new_row : ℕ → WalkRow
new_row device = record { device = device; under_way = None; bytes = [] }

-- the first row of this device
abbrev pub row_of : List WalkRow → ℕ → Option WalkRow
row_of [] device = None
row_of (row ∷ rows) device = if row.device == device then Some row else row_of rows device

-- the rows, where the first one of that device is this one
abbrev pub with_row : List WalkRow → WalkRow → List WalkRow
with_row [] own = []
with_row (row ∷ rows) own = if row.device == own.device then own ∷ rows else row ∷ with_row rows own

-- the device was added
abbrev pub IsAddedTo : List WalkRow → ℕ → Type 0
IsAddedTo rows device = IsSome (row_of rows device)

-- what is under way of a row
abbrev pub under_way_in : Option WalkRow → Option UnderWay
under_way_in None = None
under_way_in (Some row) = row.under_way

-- WHAT IS UNDER WAY of a device
abbrev pub under_way_of : List WalkRow → ℕ → Option UnderWay
under_way_of rows device = under_way_in (row_of rows device)

-- the bytes of a row
abbrev pub bytes_in : Option WalkRow → List ℕ
bytes_in None = []
bytes_in (Some row) = row.bytes

-- the row with nothing under way
abbrev pub idle_row : WalkRow → WalkRow
idle_row row = record row { under_way = None }
