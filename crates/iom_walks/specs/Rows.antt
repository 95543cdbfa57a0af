-- What the calls of one row, and those by a row's place, answer and leave; and what is inside a row.
use Rattle.std.specs.Prelude.{◌≡◌, ℕ, List, length, Option, None, Some, slice_get, slice_set}
use Rattle.iom_stepped_requests.specs.Serving.{Serves, load}
use Rattle.iom_stepped_requests.specs.Standing.{request_of, stands, still_serving}
use Rattle.iom_stepped_requests.specs.declared.request.Answer.{Answer}
use Rattle.iom_stepped_requests.specs.declared.walk.RequestWalk.{RequestWalk}
use Rattle.iom_stepped_requests.specs.declared.walk.Serving.{Serving}
use Rattle.iom_stepped_requests.specs.declared.walk.Serving.TheVariants.{GoesOn, Served}
use Rattle.iom_tlb.specs.Content.{Translations}
use Rattle.iom_walks.specs.Calls.{row_going_on, row_walking}
use Rattle.iom_walks.specs.Walks.{UnderWay, WalkRow, row_of, with_row, idle_row}
use Rattle.iom_walks.specs.declared.outcome.Answered.{Answered}
use Rattle.iom_walks.specs.declared.outcome.Loaded.{Loaded}
use Rattle.iom_walks.specs.declared.outcome.Loaded.TheVariants as loaded
use Rattle.iom_walks.specs.declared.standing.Standing.{Standing}

-- how far a request has come: with an answer already, or where its walk stands
abbrev pub serving_by : RequestWalk → Option Answer → Serving
serving_by walk None = GoesOn walk
serving_by walk (Some answer) = Served answer

-- what is under way, where this is inside the row
abbrev pub under_way_by : Standing → UnderWay
under_way_by standing = record { request = request_of standing.walk; serving = serving_by standing.walk standing.served; len = standing.len }

-- the row of the device stands at this place: it is the first of the device, and a row that is put there replaces it
pub record RowStandsAt (rows : List WalkRow) (device place : ℕ) : Type 0 where
  pub row : WalkRow
  pub own : row.device ≡ device
  pub there : slice_get rows place ≡ Some row
  pub first : row_of rows device ≡ Some row
  pub replaced : (other : WalkRow) → other.device ≡ device → slice_set rows place other ≡ with_row rows other

-- a request of the device, with these bytes, stands there now
pub record StartsThere (old : List WalkRow) (device : ℕ) (walk : RequestWalk) (len : ℕ) (bytes : List ℕ) (new : List WalkRow) : Type 0 where
  pub row : WalkRow
  pub was_there : row_of old device ≡ Some row
  pub after : new ≡ with_row old (row_walking row (request_of walk) len bytes walk)

-- the row goes on after one load
pub record RowGoesOn (memory : List (List ℕ)) (cached : Translations) (old new : WalkRow) : Type 0 where
  pub under_way : UnderWay
  pub walks : old.under_way ≡ Some under_way
  pub walk : RequestWalk
  pub of_request : request_of walk ≡ under_way.request
  pub made : stands (length memory) walk ≡ load memory cached (still_serving (length memory) under_way.serving)
  pub after : new ≡ row_going_on old under_way walk

-- its request ends
pub record RowEnds (memory : List (List ℕ)) (cached : Translations) (old : WalkRow) (ended : Answered) (new : WalkRow) : Type 0 where
  pub under_way : UnderWay
  pub walks : old.under_way ≡ Some under_way
  pub request : ended.request ≡ under_way.request
  pub len : ended.len ≡ under_way.len
  pub answered : Serves ended.answer ≡ load memory cached (still_serving (length memory) under_way.serving)
  pub after : new ≡ idle_row old

abbrev pub RowLoads : List (List ℕ) → Translations → WalkRow → Loaded → WalkRow → Type 0
RowLoads memory cached old loaded.Nothing new = (old.under_way ≡ None) × (new ≡ old)
RowLoads memory cached old loaded.GoesOn new = RowGoesOn memory cached old new
RowLoads memory cached old (loaded.Ended ended) new = RowEnds memory cached old ended new
