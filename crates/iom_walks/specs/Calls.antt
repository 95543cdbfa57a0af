-- What each call answers, and all that it leaves of what is under way.
use Rattle.std.specs.Prelude.{◌≡◌, ℕ, ◌<◌, ◌≤◌, ◌⊎◌, Bool, true, false, List, [], ◌∷◌, ◌++◌, length, Option, None, Some, IsSome}
use Rattle.iom_base.specs.Sizes.{device_limit}
use Rattle.iom_base.specs.Spans.{FitsInPage}
use Rattle.iom_inflight.specs.Invariant.{CarriesBytes}
use Rattle.iom_registers.specs.declared.directory.DirectoryPointer.{DirectoryPointer}
use Rattle.iom_stepped_requests.specs.Serving.{Remaining, Serves, begun_anew, load}
use Rattle.iom_stepped_requests.specs.Standing.{request_of, stands, still_serving}
use Rattle.iom_stepped_requests.specs.declared.request.Request.{Request}
use Rattle.iom_stepped_requests.specs.declared.walk.RequestWalk.{RequestWalk}
use Rattle.iom_stepped_requests.specs.declared.walk.Serving.{Serving}
use Rattle.iom_stepped_requests.specs.declared.walk.Serving.TheVariants.{GoesOn}
use Rattle.iom_tlb.specs.Content.{Translations}
use Rattle.iom_walks.specs.Invariant.{IsOfRequest}
use Rattle.iom_walks.specs.Walks.{UnderWay, WalkRow, new_row, row_of, with_row, idle_row, under_way_of}
use Rattle.iom_walks.specs.declared.outcome.Answered.{Answered}
use Rattle.iom_walks.specs.declared.outcome.Began.{Began}
use Rattle.iom_walks.specs.declared.outcome.Began.TheVariants as began
use Rattle.iom_walks.specs.declared.outcome.Loaded.{Loaded}
use Rattle.iom_walks.specs.declared.outcome.Loaded.TheVariants as loaded

-- A DEVICE IS ADDED, unless it is there or 16 are
abbrev pub Adds : List WalkRow → ℕ → Bool → List WalkRow → Type 0
Adds old device true new = (row_of old device ≡ None) × (length old < device_limit) × (new ≡ old ++ new_row device ∷ [])
Adds old device false new = (IsSome (row_of old device) ⊎ (device_limit ≤ length old)) × (new ≡ old)

-- the row, where this request of so many bytes begins and stands there
abbrev pub row_walking : WalkRow → Request → ℕ → List ℕ → RequestWalk → WalkRow
row_walking row request len bytes walk =
    record row { under_way = Some (record { request = request; serving = GoesOn walk; len = len }); bytes = bytes }

-- the request is under way now, with its bytes: `begun` is what remains of it, in a memory of so many frames
pub record StartsWalking (old : List WalkRow) (request : Request) (len : ℕ) (bytes : List ℕ) (begun : ℕ → Remaining) (new : List WalkRow) : Type 0 where
  pub row : WalkRow
  pub was_there : row_of old request.device ≡ Some row
  pub walk : RequestWalk
  pub of_request : request_of walk ≡ request
  pub has_begun : (frames : ℕ) → stands frames walk ≡ begun frames
  pub after : new ≡ with_row old (row_walking row request len bytes walk)

-- A REQUEST BEGINS: it is served at once, and nothing of it is kept; or it is under way
abbrev pub Begins : List WalkRow → Request → ℕ → List ℕ → (ℕ → Remaining) → Began → List WalkRow → Type 0
Begins old request len bytes begun (began.Served answer) new = ((frames : ℕ) → Serves answer ≡ begun frames) × (new ≡ old)
Begins old request len bytes begun began.Walking new = StartsWalking old request len bytes begun new

-- the row, where what is under way stands there now
abbrev pub row_going_on : WalkRow → UnderWay → RequestWalk → WalkRow
row_going_on row under_way walk = record row { under_way = Some (record under_way { serving = GoesOn walk }) }

-- the request of the device goes on after one load from this memory
pub record LoadGoesOn (memory : List (List ℕ)) (cached : Translations) (old : List WalkRow) (device : ℕ) (new : List WalkRow) : Type 0 where
  pub row : WalkRow
  pub was_there : row_of old device ≡ Some row
  pub under_way : UnderWay
  pub walks : row.under_way ≡ Some under_way
  pub walk : RequestWalk
  pub of_request : request_of walk ≡ under_way.request
  pub made : stands (length memory) walk ≡ load memory cached (still_serving (length memory) under_way.serving)
  pub after : new ≡ with_row old (row_going_on row under_way walk)

-- it ends with this answer, by one load from this memory; or by none, where it was served already. What was asked for is told
pub record LoadEnds (memory : List (List ℕ)) (cached : Translations) (old : List WalkRow) (device : ℕ) (ended : Answered) (new : List WalkRow) : Type 0 where
  pub row : WalkRow
  pub was_there : row_of old device ≡ Some row
  pub under_way : UnderWay
  pub walks : row.under_way ≡ Some under_way
  pub request : ended.request ≡ under_way.request
  pub len : ended.len ≡ under_way.len
  pub answered : Serves ended.answer ≡ load memory cached (still_serving (length memory) under_way.serving)
  pub own : under_way.request.device ≡ device
  pub within : FitsInPage under_way.request.asked.address under_way.len
  pub carries : CarriesBytes under_way.request.asked.kind under_way.len row.bytes
  pub after : new ≡ with_row old (idle_row row)

-- THE NEXT LOAD of a device is made, if a request of it is under way
abbrev pub Loads : List (List ℕ) → Translations → List WalkRow → ℕ → Loaded → List WalkRow → Type 0
Loads memory cached old device loaded.Nothing new = (under_way_of old device ≡ None) × (new ≡ old)
Loads memory cached old device loaded.GoesOn new = LoadGoesOn memory cached old device new
Loads memory cached old device (loaded.Ended ended) new = LoadEnds memory cached old device ended new

-- how far one has come that was begun anew, by this ddtp, in a memory of whatever size
abbrev pub IsBegunAnew : DirectoryPointer → Request → Serving → Type 0
IsBegunAnew ddtp request serving = (frames : ℕ) → still_serving frames serving ≡ begun_anew frames ddtp request

-- it begins anew: of what was asked for all stays
pub record OneBeginsAnew (ddtp : DirectoryPointer) (old new : UnderWay) : Type 0 where
  pub request : new.request ≡ old.request
  pub len : new.len ≡ old.len
  pub of_request : IsOfRequest new.request new.serving
  pub begun : IsBegunAnew ddtp old.request new.serving

abbrev pub WhatBeginsAnew : DirectoryPointer → Option UnderWay → Option UnderWay → Type 0
WhatBeginsAnew ddtp None None = Unit {0}
WhatBeginsAnew ddtp None (Some new) = ⊥
WhatBeginsAnew ddtp (Some old) None = ⊥
WhatBeginsAnew ddtp (Some old) (Some new) = OneBeginsAnew ddtp old new

pub record RowBeginsAnew (ddtp : DirectoryPointer) (old new : WalkRow) : Type 0 where
  pub device : new.device ≡ old.device
  pub bytes : new.bytes ≡ old.bytes
  pub under_way : WhatBeginsAnew ddtp old.under_way new.under_way

-- ALL BEGIN ANEW that are under way
abbrev pub AllBeginAnew : DirectoryPointer → List WalkRow → List WalkRow → Type 0
AllBeginAnew ddtp [] [] = Unit {0}
AllBeginAnew ddtp [] (new ∷ news) = ⊥
AllBeginAnew ddtp (old ∷ olds) [] = ⊥
AllBeginAnew ddtp (old ∷ olds) (new ∷ news) = RowBeginsAnew ddtp old new × AllBeginAnew ddtp olds news

-- THE REQUEST of a device is given up, if one is under way
abbrev pub given_up : List WalkRow → Option WalkRow → List WalkRow
given_up rows None = rows
given_up rows (Some row) = with_row rows (idle_row row)
