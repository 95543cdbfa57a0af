-- How far a request has come that stands between two of its loads.
use Rattle.std.specs.Prelude.{ℕ, Bool, false, not}
use Rattle.iom_stepped_walk.specs.Directories.{directory_rest}
use Rattle.iom_stepped_walk.specs.Positions.{rest_of}
use Rattle.iom_stepped_requests.specs.Serving.{Remaining, Serves, Locates, Translates}
use Rattle.iom_stepped_requests.specs.declared.request.Request.{Request}
use Rattle.iom_stepped_requests.specs.declared.walk.RequestWalk.{RequestWalk}
use Rattle.iom_stepped_requests.specs.declared.walk.RequestWalk.TheVariants.{InDirectory, InTables}
use Rattle.iom_stepped_requests.specs.declared.walk.Serving.{Serving}
use Rattle.iom_stepped_requests.specs.declared.walk.Serving.TheVariants.{GoesOn, Served}

-- whether its next load may look in the cache of translations: one of the directory, of a request that wasn't begun anew
abbrev pub may_look : RequestWalk → Bool
may_look (InDirectory request anew walk) = not anew
may_look (InTables request context translated walk) = false

-- the request that is served
abbrev pub request_of : RequestWalk → Request
request_of (InDirectory request anew walk) = request
request_of (InTables request context translated walk) = request

-- WHAT REMAINS of one that stands there, in a memory of so many frames
abbrev pub stands : ℕ → RequestWalk → Remaining
stands frames (InDirectory request anew walk) = Locates request anew (directory_rest walk)
stands frames (InTables request context translated walk) = Translates request context translated (rest_of frames walk)

-- WHAT REMAINS of one after a load
abbrev pub still_serving : ℕ → Serving → Remaining
still_serving frames (GoesOn walk) = stands frames walk
still_serving frames (Served answer) = Serves answer
