-- What follows of the calls one after another: how a request is answered all of whose loads are made from one memory, and how many loads it makes at most.
use Rattle.std.specs.Prelude.{◌≡◌, ◌⊎◌, ◌≤◌, ℕ, zero, suc, Bool, List, length, Option, Some}
use Rattle.iom_device_dir.specs.declared.context.Context.{Context}
use Rattle.iom_registers.specs.declared.directory.DirectoryPointer.{DirectoryPointer}
use Rattle.iom_stepped_requests.specs.Answers.{Answers}
use Rattle.iom_stepped_requests.specs.Serving.{begin, begun_anew}
use Rattle.iom_stepped_requests.specs.Standing.{still_serving}
use Rattle.iom_stepped_requests.specs.declared.request.Answer.{Answer}
use Rattle.iom_stepped_requests.specs.declared.request.Request.{Request}
use Rattle.iom_tlb.specs.Content.{Translations, TranslationsUnchanged}
use Rattle.iom_walks.specs.Caches.{OffersTranslation, to_keep}
use Rattle.iom_walks.specs.Calls.{Begins, Loads}
use Rattle.iom_walks.specs.Walks.{UnderWay, WalkRow, under_way_of}
use Rattle.iom_walks.specs.declared.outcome.Answered.{Answered}
use Rattle.iom_walks.specs.declared.outcome.Began.TheVariants as began
use Rattle.iom_walks.specs.declared.outcome.Loaded.{Loaded}
use Rattle.iom_walks.specs.declared.outcome.Loaded.TheVariants as loaded

-- a load of a device, which answers so: what it leaves of what is under way, and of the translations that are cached
pub record OneLoad (sure : Bool) (memory : List (List ℕ)) (device : ℕ) (rows : List WalkRow) (cached : Translations) (answer : Loaded) (new : List WalkRow)
    (new_cached : Translations) : Type 0 where
  pub loads : Loads memory cached rows device answer new
  pub offers : OffersTranslation sure (to_keep memory (under_way_of rows device)) cached new_cached

-- ALL LOADS of a device's request, from one memory, with nothing else between them: so many go on, and one more ends it
abbrev pub RunsFrom : ℕ → Bool → List (List ℕ) → ℕ → List WalkRow → Translations → Answered → List WalkRow → Translations → Type 0
RunsFrom zero sure memory device rows cached ended new new_cached = OneLoad sure memory device rows cached (loaded.Ended ended) new new_cached
RunsFrom (suc more) sure memory device rows cached ended new new_cached =
    (next : List WalkRow) × (next_cached : Translations) × OneLoad sure memory device rows cached loaded.GoesOn next next_cached
    × RunsFrom more sure memory device next next_cached ended new new_cached

-- it is answered for what was asked, and as a request is that is served at once
abbrev pub RunsAreWhole : Type 0
RunsAreWhole = (sure : Bool) (memory : List (List ℕ)) (ddtp : DirectoryPointer) (context : Option Context) (cached begun_cached new_cached : Translations)
    (request : Request) (len : ℕ) (bytes : List ℕ) (rows begun new : List WalkRow) (more : ℕ) (ended : Answered)
    → Begins rows request len bytes (λ frames. begin frames ddtp context cached request) began.Walking begun
    → TranslationsUnchanged cached begun_cached
    → RunsFrom more sure memory request.device begun begun_cached ended new new_cached
    → (ended.request ≡ request) × (ended.len ≡ len) × Answers memory ddtp context cached request ended.answer

-- so is one that is served when it begins, whatever memory has
abbrev pub ServedAreWhole : Type 0
ServedAreWhole = (memory : List (List ℕ)) (ddtp : DirectoryPointer) (context : Option Context) (cached : Translations) (request : Request) (len : ℕ)
    (bytes : List ℕ) (rows new : List WalkRow) (answer : Answer)
    → Begins rows request len bytes (λ frames. begin frames ddtp context cached request) (began.Served answer) new
    → Answers memory ddtp context cached request answer

-- from this that is under way of a device on, so many loads go on, each from some memory of so many frames. Between two of them anything may happen that
-- leaves what is under way of the device
abbrev pub GoOn : ℕ → ℕ → ℕ → UnderWay → Type 0
GoOn zero frames device under_way = Unit {0}
GoOn (suc more) frames device under_way =
    (memory : List (List ℕ)) × (cached : Translations) × (old : List WalkRow) × (new : List WalkRow) × (next : UnderWay)
    × (length memory ≡ frames) × (under_way_of old device ≡ Some under_way) × Loads memory cached old device loaded.GoesOn new
    × (under_way_of new device ≡ Some next) × GoOn more frames device next

-- it has just begun, or begun anew
abbrev pub HasJustBegun : ℕ → UnderWay → Type 0
HasJustBegun frames under_way =
    (ddtp : DirectoryPointer) × (context : Option Context) × (cached : Translations) × (request : Request)
    × ((still_serving frames under_way.serving ≡ begin frames ddtp context cached request)
    ⊎ (still_serving frames under_way.serving ≡ begun_anew frames ddtp request))

-- AT MOST 26 LOADS GO ON, of which 3 may be of the directory, until a request ends or begins anew
abbrev pub FewGoOn : Type 0
FewGoOn = (more frames device : ℕ) (under_way : UnderWay) → HasJustBegun frames under_way → GoOn more frames device under_way → more ≤ 26
