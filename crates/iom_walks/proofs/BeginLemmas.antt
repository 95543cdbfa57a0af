-- What is under way of a request that has begun with the context for which it looked.
use Rattle.std.proofs.Common.{◌≡◌, ◌∙◌, ℕ, List, Option, ap}
use Rattle.iom_device_dir.specs.declared.context.Context.{Context}
use Rattle.iom_registers.specs.declared.directory.DirectoryPointer.{DirectoryPointer}
use Rattle.iom_stepped_requests.specs.Serving.{Remaining, begin}
use Rattle.iom_stepped_requests.specs.Standing.{request_of, stands, still_serving}
use Rattle.iom_stepped_requests.specs.declared.request.Request.{Request}
use Rattle.iom_stepped_requests.specs.declared.walk.RequestWalk.{RequestWalk}
use Rattle.iom_stepped_requests.specs.declared.walk.Serving.{Serving}
use Rattle.iom_stepped_requests.specs.declared.walk.Serving.TheVariants.{GoesOn}
use Rattle.iom_tlb.specs.Content.{Translations}
use Rattle.iom_walks.specs.Caches.{found_for, looks_for_context}
use Rattle.iom_walks.specs.Calls.{StartsWalking, row_walking}
use Rattle.iom_walks.specs.Rows.{StartsThere}
use Rattle.iom_walks.specs.Walks.{WalkRow, with_row}
use Rattle.iom_walks.proofs.CacheLemmas.{begins_alike}
use Rattle.iom_walks.proofs.OfRequest.{begun_is_of}

module _ (ddtp : DirectoryPointer) (context looked : Option Context) (cached : Translations) (request : Request) (serving : Serving)
    (found : looked ≡ found_for (looks_for_context ddtp.mode request.device) context)
    (begun : (frames : ℕ) → still_serving frames serving ≡ begin frames ddtp looked cached request) where
  -- how far it has come
  pub has_begun : (frames : ℕ) → still_serving frames serving ≡ begin frames ddtp context cached request
  has_begun frames = begun frames ∙ ap (λ (c : Option Context). begin frames ddtp c cached request) found ∙ begins_alike frames ddtp context cached request

-- its walk is of the request
pub begun_walk_of : (ddtp : DirectoryPointer) (looked : Option Context) (cached : Translations) (request : Request) (walk : RequestWalk)
    → ((frames : ℕ) → stands frames walk ≡ begin frames ddtp looked cached request) → request_of walk ≡ request
begun_walk_of ddtp looked cached request walk begun = begun_is_of ddtp looked cached request (GoesOn walk) begun

-- it is under way
pub starts_walking : (old new : List WalkRow) (request : Request) (walk : RequestWalk) (len : ℕ) (bytes : List ℕ) (begun : ℕ → Remaining) → request_of walk ≡ request
    → ((frames : ℕ) → stands frames walk ≡ begun frames) → StartsThere old request.device walk len bytes new → StartsWalking old request len bytes begun new
starts_walking old new request walk len bytes begun same is there = record {
  row = there.row;
  was_there = there.was_there;
  walk = walk;
  of_request = same;
  has_begun = is;
  after = there.after ∙ ap (λ (r : Request). with_row old (row_walking there.row r len bytes walk)) same;
}
