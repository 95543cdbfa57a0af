-- What is under way grows: a scene that covers it goes on covering what was there, and comes to cover what is new.
use Rattle.std.proofs.Common.{◌≡◌, inl, inr, ℕ, ◌++◌, Bool, List, [], Contains, Option, None, Some, refl, sym, ap, ◌∙◌}
use Rattle.std.proofs.lemmas.List.Elements.{Contains-append_left, Contains-append_right, Contains-append_cases}
use Rattle.std.proofs.lemmas.Bool.Decides.{eqb_tells}
use Rattle.iom_base.specs.declared.access.AccessKind.TheVariants.{Read}
use Rattle.iom_board.specs.BoardParts.{BoardParts}
use Rattle.iom_stepped_board.proofs.BesideLemmas.{others_walk, own_walk}
use Rattle.iom_stepped_requests.specs.Serving.{Remaining, Serves, Locates, Translates}
use Rattle.iom_stepped_requests.specs.Standing.{still_serving}
use Rattle.iom_stepped_requests.specs.declared.request.Answer.{Answer}
use Rattle.iom_stepped_requests.specs.declared.request.Answer.TheVariants.{AsItIs, Cached, Reaches, Faults}
use Rattle.iom_stepped_requests.specs.declared.request.Request.{Request}
use Rattle.iom_walks.specs.Calls.{given_up}
use Rattle.iom_walks.specs.Walks.{UnderWay, WalkRow, idle_row, row_of, under_way_of, with_row}
use Rattle.iom_reach.specs.Scene.{PartialWalk, DirectoryWalk, PendingAccess}
use Rattle.iom_reach.specs.Transitions.{GoOn, IsContinued, IsSoughtOn}
use Rattle.iom_hardware_ways.proofs.ListLemmas.{in_none}
use Rattle.iom_hardware_ways.proofs.Turns.{Comes, one}
use Rattle.iom_hardware_ways.specs.Scenes.{scene_of}
use Rattle.iom_stepped_ways.specs.Scenes.{Added, HasAdded, HasLetThrough, added_and, access_on, walk_in_page, walk_of_part, address_space, with_added}

-- MORE IS ADDED, and what was there still is
let_through_more : (a b : Added) (request : Request) (answer : Answer) → HasLetThrough a request answer → HasLetThrough (added_and a b) request answer
let_through_more a b request AsItIs has = Contains-append_left (a.let_through request.device) (b.let_through request.device) (access_on _ request.asked.kind) has
let_through_more a b request (Cached translation) has = Contains-append_left (a.let_through request.device) (b.let_through request.device) (access_on translation.frame request.asked.kind) has
let_through_more a b request (Reaches walked) has = Contains-append_left (a.let_through request.device) (b.let_through request.device) (access_on walked.frame request.asked.kind) has
let_through_more a b request (Faults fault) has = tt

pub still_added : (frames : ℕ) (a b : Added) (own : Request) (remaining : Remaining) → HasAdded frames a own remaining → HasAdded frames (added_and a b) own remaining
still_added frames a b own (Serves answer) has = let_through_more a b own answer has
still_added frames a b own (Locates request anew rest) (same, (id, level, page, is, there)) =
    (same, (id, level, page, is, Contains-append_left a.directory_walks b.directory_walks (walk_in_page request.device id level page) there))
still_added frames a b own (Translates request context translated rest) (same, (list, entries, is, there, reads)) = (
  same,
  (
    list,
    entries,
    is,
    (λ part within.
        Contains-append_left a.partial_walks b.partial_walks (walk_of_part request.device (address_space translated) part) (there part within)),
    (λ frame within. Contains-append_left (a.let_through request.device) (b.let_through request.device) (access_on frame Read) (reads frame within)),
  ),
)

-- walks begin or go on in the scene, and nothing is let through beside them
pub walks_grow_beside : (trusted : ℕ → Bool) (parts : BoardParts) (a : Added) (more : List PartialWalk) (sought : List DirectoryWalk)
    (through : ℕ → List PendingAccess) → ((device : ℕ) (access : PendingAccess) → Contains (through device) access → ⊥)
    → ((walk : PartialWalk) → Contains more walk → IsContinued (with_added (scene_of trusted parts) a) walk)
    → ((walk : DirectoryWalk) → Contains sought walk → IsSoughtOn (with_added (scene_of trusted parts) a) walk)
    → Comes (with_added (scene_of trusted parts) a)
    (with_added (scene_of trusted parts) (added_and a (record { partial_walks = more; directory_walks = sought; let_through = through })))
walks_grow_beside trusted parts a more sought through none continues on =
    let s = scene_of trusted parts in
    let b : Added = record { partial_walks = more; directory_walks = sought; let_through = through } in
    one GoOn tt (with_added s a) (with_added s (added_and a b)) (
      a.partial_walks ++ more,
      a.directory_walks ++ sought,
      (λ d. s.in_flight d ++ (a.let_through d ++ through d)),
      (λ walk there. elim (Contains-append_cases a.partial_walks more walk there) [ inl old ↦ inr old | inr new ↦ inl (continues walk new) ]),
      (λ walk there. elim (Contains-append_cases a.directory_walks sought walk there) [ inl old ↦ inr old | inr new ↦ inl (on walk new) ]),
      (λ d access there. elim (Contains-append_cases (s.in_flight d) (a.let_through d ++ through d) access there) [
        | inl flies ↦ Contains-append_left (s.in_flight d) (a.let_through d) access flies
        | inr later ↦ elim (Contains-append_cases (a.let_through d) (through d) access later) [
          | inl old ↦ Contains-append_right (s.in_flight d) (a.let_through d) access old
          | inr never ↦ absurd (none d access never)
        ]
      ]),
      refl,
    )

-- walks alone
pub walks_grow : (trusted : ℕ → Bool) (parts : BoardParts) (a : Added) (more : List PartialWalk) (sought : List DirectoryWalk)
    → ((walk : PartialWalk) → Contains more walk → IsContinued (with_added (scene_of trusted parts) a) walk)
    → ((walk : DirectoryWalk) → Contains sought walk → IsSoughtOn (with_added (scene_of trusted parts) a) walk)
    → Comes (with_added (scene_of trusted parts) a)
    (with_added (scene_of trusted parts) (added_and a (record { partial_walks = more; directory_walks = sought; let_through = λ device. [] })))
walks_grow trusted parts a more sought continues on =
    walks_grow_beside trusted parts a more sought (λ device. []) (λ device access never. in_none access never) continues on

-- WHAT IS UNDER WAY, device by device

-- all of it is among what is added
abbrev pub AreAdded : ℕ → Added → List WalkRow → Type 0
AreAdded frames added rows =
    (id : ℕ) (under_way : UnderWay) → under_way_of rows id ≡ Some under_way → HasAdded frames added under_way.request (still_serving frames under_way.serving)

pub still_all_added : (frames : ℕ) (a b : Added) (rows : List WalkRow) → AreAdded frames a rows → AreAdded frames (added_and a b) rows
still_all_added frames a b rows all id under_way is = still_added frames a b under_way.request (still_serving frames under_way.serving) (all id under_way is)

-- a row is replaced by one of its device, of which what is under way is added
pub row_added : (frames : ℕ) (a : Added) (rows : List WalkRow) (id : ℕ) (row own : WalkRow) → row_of rows id ≡ Some row → own.device ≡ row.device → AreAdded frames a rows
    → ((under_way : UnderWay) → own.under_way ≡ Some under_way → HasAdded frames a under_way.request (still_serving frames under_way.serving))
    → AreAdded frames a (with_row rows own)
row_added frames a rows id row own at same all mine other under_way is = elim (eqb_tells other id) [
  | inl e ↦ mine under_way (sym (own_walk rows id row own at same) ∙ ap (λ (d : ℕ). under_way_of (with_row rows own) d) (sym e.1) ∙ is)
  | inr ne ↦ all other under_way (sym (others_walk rows id row own at same other ne.1) ∙ is)
]

-- one is given up
pub given_up_added : (frames : ℕ) (a : Added) (rows : List WalkRow) (id : ℕ) (found : Option WalkRow) → row_of rows id ≡ found → AreAdded frames a rows
    → AreAdded frames a (given_up rows found)
given_up_added frames a rows id None at all = all
given_up_added frames a rows id (Some row) at all = row_added frames a rows id row (idle_row row) at refl all (λ under_way none. absurd (let no : ⊥ = cc in no))
