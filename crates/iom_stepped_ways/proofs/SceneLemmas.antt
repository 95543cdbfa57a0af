-- The scene of hardware and of what is under way covers both.
use Rattle.std.proofs.Common.{◌≡◌, ◌⊎◌, ◌==◌, ◌∙◌, inl, inr, ℕ, Bool, true, false, List, [], ◌∷◌, ◌++◌, length, Option, None, Some, Ok, Err, if◌then◌else◌, refl, sym, ap, subst, append-nil, eq-eqb, ◌≢◌}
use Rattle.std.specs.Bool.{⊤}
use Rattle.std.proofs.lemmas.Bool.Decides.{eqb_tells}
use Rattle.std.proofs.lemmas.List.Elements.{Contains-append_right}
use Rattle.iom_base.specs.declared.access.AccessKind.{AccessKind}
use Rattle.iom_base.specs.Tables.{access_fault_of}
use Rattle.iom_base.specs.declared.access.AccessKind.TheVariants.{Read, Write}
use Rattle.iom_base.specs.declared.cause.Cause.{Cause}
use Rattle.iom_base.specs.declared.rights.Rights.{Rights}
use Rattle.iom_stepped_requests.specs.Serving.{Remaining, Serves, Locates, Translates}
use Rattle.iom_stepped_requests.specs.Standing.{still_serving}
use Rattle.iom_stepped_requests.specs.declared.request.Answer.{Answer}
use Rattle.iom_stepped_requests.specs.declared.request.Answer.TheVariants.{AsItIs, Cached, Reaches, Faults}
use Rattle.iom_stepped_requests.specs.declared.request.Request.{Request}
use Rattle.iom_stepped_requests.specs.declared.walk.RequestWalk.TheVariants.{InDirectory, InTables}
use Rattle.iom_stepped_requests.specs.declared.walk.Serving.{Serving}
use Rattle.iom_stepped_requests.specs.declared.walk.Serving.TheVariants.{GoesOn, Served}
use Rattle.iom_stage_walk.specs.Both.{entry_address, guest_address}
use Rattle.iom_stage_walk.specs.Entries.{slot}
use Rattle.iom_stage_walk.specs.Second.{reported}
use Rattle.iom_stage_walk.specs.declared.walked.WalkFault.{WalkFault}
use Rattle.iom_walk_loads.specs.Loads.{Ends, ReadsEntry, ReadsContext}
use Rattle.iom_walk_loads.specs.Tables.{first_rest, lead_rest, guest_load, guest_down, reached}
use Rattle.iom_stepped_walk.specs.Filled.{filled_places}
use Rattle.iom_stepped_walk.specs.Positions.{address_of, entries_below, entry_index, in_both, indices_of, rest_of}
use Rattle.iom_stepped_walk.specs.declared.tables.TableWalk.{TableWalk}
use Rattle.iom_stepped_walk.specs.declared.tables.TableWalk.TheVariants as stands
use Rattle.iom_walks.specs.Invariant.{AreDistinct, IsOfRequest, RowInvariant, RowsInvariant}
use Rattle.iom_walks.specs.Walks.{UnderWay, WalkRow, row_of, under_way_in, under_way_of}
use Rattle.iom_reach.proofs.TransitionLemmas.{contains_head}
use Rattle.iom_reach.specs.Scene.{HardwareScene}
use Rattle.iom_hardware_ways.specs.Scenes.{scene_of}
use Rattle.iom_hardware_ways.proofs.ListLemmas.{contains_map, same_function}
use Rattle.iom_stepped_ways.proofs.AnewLemmas.{AllAdded, by_id, is_own}
use Rattle.iom_stepped_ways.proofs.EntryLemmas.{are_read}
use Rattle.iom_stepped_ways.proofs.GrowLemmas.{still_added}
use Rattle.iom_stepped_ways.proofs.TableLemmas.{found_alone}
use Rattle.iom_stepped_ways.specs.Laws.{CoveredAreForKinds, ScenesCover, ScenesOutliveSoftware, WholeScenesCover}
use Rattle.iom_stepped_ways.specs.Parts.{Rest, Part, IsWalkOf, InFirstStage, InSecondStage, ToGuestEntry, InGuestTable, ToGuestPage}
use Rattle.iom_stepped_ways.specs.Scenes.{Added, AreForKinds, HasAdded, HasLetThrough, IsForKind, access_on, added_and, added_by, added_by_answer, added_if_any, added_of, address_space, asked_by, entries_of, nothing_added, parts_of, walk_in_page, walk_of_part}

-- MORE IS ADDED BEFORE IT
let_through_after : (a b : Added) (request : Request) (answer : Answer) → HasLetThrough b request answer → HasLetThrough (added_and a b) request answer
let_through_after a b request AsItIs has = Contains-append_right (a.let_through request.device) (b.let_through request.device) (access_on _ request.asked.kind) has
let_through_after a b request (Cached translation) has = Contains-append_right (a.let_through request.device) (b.let_through request.device) (access_on translation.frame request.asked.kind) has
let_through_after a b request (Reaches walked) has = Contains-append_right (a.let_through request.device) (b.let_through request.device) (access_on walked.frame request.asked.kind) has
let_through_after a b request (Faults fault) has = tt

added_after : (frames : ℕ) (a b : Added) (own : Request) (remaining : Remaining) → HasAdded frames b own remaining → HasAdded frames (added_and a b) own remaining
added_after frames a b own (Serves answer) has = let_through_after a b own answer has
added_after frames a b own (Locates request anew rest) (same, (id, level, page, is, there)) =
    (same, (id, level, page, is, Contains-append_right a.directory_walks b.directory_walks (walk_in_page request.device id level page) there))
added_after frames a b own (Translates request context translated rest) (same, (list, entries, is, there, reads)) = (
  same,
  (
    list,
    entries,
    is,
    (λ part within.
        Contains-append_right a.partial_walks b.partial_walks (walk_of_part request.device (address_space translated) part) (there part within)),
    (λ frame within. Contains-append_right (a.let_through request.device) (b.let_through request.device) (access_on frame Read) (reads frame within)),
  ),
)

all_after : (frames : ℕ) (a b : Added) (rows : List WalkRow) → AllAdded frames b rows → AllAdded frames (added_and a b) rows
all_after frames a b [] all = tt
all_after frames a b (row ∷ rows) (own, others) =
    ((λ under_way is. added_after frames a b under_way.request (still_serving frames under_way.serving) (own under_way is)), all_after frames a b rows others)

-- WHAT A WALK ADDS is what remains of it

-- of tables
walks_of : (frames : ℕ) (kind : AccessKind) (walk : TableWalk) → (asked_by walk).kind ≡ kind
    → IsWalkOf frames kind (rest_of frames walk) (parts_of walk) (entries_of walk)
walks_of frames kind (stands.InFirstStage asked place) same =
    subst (λ k. IsWalkOf frames k (rest_of frames (stands.InFirstStage asked place)) (parts_of (stands.InFirstStage asked place)) []) same
    (InFirstStage place.table.number (indices_of place asked.address) refl refl refl)
walks_of frames kind (stands.InSecondStage asked place) same =
    subst (λ k. IsWalkOf frames k (rest_of frames (stands.InSecondStage asked place)) (parts_of (stands.InSecondStage asked place)) []) same
    (InSecondStage asked.address place.table.number (indices_of place asked.address) refl refl refl)
walks_of frames kind (stands.ToGuestEntry both entry place) same =
    ToGuestEntry (in_both frames both) (filled_places entry.loaded.frames) entry.table.number (entry_index entry both.asked.address) (entries_below entry both.asked.address)
    place.table.number (indices_of place (address_of entry both.asked.address)) same refl refl refl
walks_of frames kind (stands.InGuestTable both entry frame) same =
    InGuestTable (in_both frames both) (filled_places entry.loaded.frames) entry.table.number (entry_index entry both.asked.address)
    (entries_below entry both.asked.address) frame same refl refl refl
walks_of frames kind (stands.ToGuestPage both page place) same =
    ToGuestPage (in_both frames both) (filled_places page.loaded.frames) page.number page.rights page.level place.table.number (indices_of place (guest_address page.number both.asked.address))
    same refl refl refl

answered : (request : Request) (answer : Answer) → HasLetThrough (added_by_answer request answer) request answer
answered request AsItIs = is_own request.device (access_on _ request.asked.kind)
answered request (Cached translation) = is_own request.device (access_on translation.frame request.asked.kind)
answered request (Reaches walked) = is_own request.device (access_on walked.frame request.asked.kind)
answered request (Faults fault) = tt

one_added : (frames : ℕ) (own : Request) (serving : Serving) → IsOfRequest own serving → IsForKind own serving → HasAdded frames (added_by own serving) own (still_serving frames serving)
one_added frames own (Served answer) same is = answered own answer
one_added frames own (GoesOn (InDirectory request anew walk)) same is =
    (same, (walk.id, walk.level, walk.page.number, refl, contains_head (walk_in_page request.device walk.id walk.level walk.page.number) []))
one_added frames own (GoesOn (InTables request context translated walk)) same asked = (
  same,
  (
    parts_of walk,
    entries_of walk,
    walks_of frames request.asked.kind walk (asked ∙ ap (λ (r : Request). r.asked.kind) (sym same)),
    (λ part there. contains_map (walk_of_part request.device (address_space translated)) (parts_of walk) part there),
    are_read request.device (entries_of walk),
  ),
)

-- ROW BY ROW
row_adds : (frames device : ℕ) (bytes : List ℕ) (found : Option UnderWay) (under_way : UnderWay) → RowInvariant device bytes found → found ≡ Some under_way
    → IsForKind under_way.request under_way.serving
    → HasAdded frames (added_if_any found) under_way.request (still_serving frames under_way.serving)
row_adds frames device bytes None under_way holds is for = let no : ⊥ = cc in absurd no
row_adds frames device bytes (Some own) under_way holds is for =
    let same : own ≡ under_way = cc in
    subst (λ (u : UnderWay). HasAdded frames (added_by u.request u.serving) under_way.request (still_serving frames under_way.serving)) (sym same)
    (one_added frames under_way.request under_way.serving (subst (λ (u : UnderWay). IsOfRequest u.request u.serving) same holds.of_request) for)

-- each walk of the rows is for its kind
abbrev EachForKind : List WalkRow → Type 0
EachForKind [] = ⊤
EachForKind (row ∷ rows) = ((under_way : UnderWay) → row.under_way ≡ Some under_way → IsForKind under_way.request under_way.serving) × EachForKind rows

all_added : (frames : ℕ) (rows : List WalkRow) → RowsInvariant rows → EachForKind rows → AllAdded frames (added_of rows) rows
all_added frames [] holds for = tt
all_added frames (row ∷ rows) (own, later) (mine, others) = (
  (λ under_way is.
      still_added frames (added_if_any row.under_way) (added_of rows) under_way.request (still_serving frames under_way.serving)
      (row_adds frames row.device row.bytes row.under_way under_way own is (mine under_way is))),
  all_after frames (added_if_any row.under_way) (added_of rows) rows (all_added frames rows later others),
)

-- rows of different devices: each is its device's
each_for_kind : (rows : List WalkRow) → AreDistinct rows → AreForKinds rows → EachForKind rows
each_for_kind [] distinct for = tt
each_for_kind (row ∷ rows) (alone, distinct) for = (
  (λ under_way is. for row.device under_way (ap under_way_in (ap (λ (b : Bool). if b then Some row else row_of rows row.device) (eq-eqb row.device row.device refl)) ∙ is)),
  each_for_kind rows distinct (λ id under_way is. for id under_way (behind id under_way is (eqb_tells row.device id))),
)
  where
    behind : (id : ℕ) (under_way : UnderWay) → under_way_of rows id ≡ Some under_way → (((row.device == id) ≡ true) × (row.device ≡ id)) ⊎ (((row.device == id) ≡ false) × (row.device ≢ id))
        → under_way_of (row ∷ rows) id ≡ Some under_way
    behind id under_way is (inl e) =
        let none = ap under_way_in (ap (row_of rows) (sym e.1) ∙ alone) in
        let no : ⊥ = cc in absurd no
    behind id under_way is (inr ne) = ap (λ (b : Bool). under_way_in (if b then Some row else row_of rows id)) ne.0 ∙ is

pub scenes_cover : ScenesCover
scenes_cover trusted parts rows walks for = record {
  added = added_of rows;
  is = refl;
  walks = by_id (length parts.memory) (added_of rows) rows (all_added (length parts.memory) rows walks.rows_are (each_for_kind rows walks.distinct for));
}

-- where nothing is under way nothing is added
in_flight_alone : (s : HardwareScene) → s.in_flight ≡ (λ device. s.in_flight device ++ [])
in_flight_alone s = same_function s.in_flight (λ device. s.in_flight device ++ []) (λ device. sym (append-nil (s.in_flight device)))

pub whole_scenes_cover : WholeScenesCover
whole_scenes_cover trusted parts rows idle = record {
  added = nothing_added;
  is = ap (λ flights. record (scene_of trusted parts) { in_flight = flights }) (in_flight_alone (scene_of trusted parts));
  walks = λ id under_way some. let none = idle id in let no : ⊥ = cc in absurd no;
}

pub scenes_outlive_software : ScenesOutliveSoftware
scenes_outlive_software trusted trusted' old new rows new_rows scene covers size left = record {
  added = covers.added;
  is = refl;
  walks = λ id under_way is.
      subst (λ frames. HasAdded frames covers.added under_way.request (still_serving frames under_way.serving)) (sym size)
      (covers.walks id under_way (left id under_way is));
}

-- EACH WALK THAT IS COVERED IS FOR ITS KIND: outside memory its next load would tell that
abbrev told_by_end : Rest → Option Cause
told_by_end (Ends (Ok walked)) = None
told_by_end (Ends (Err fault)) = Some fault.cause
told_by_end (ReadsEntry address next) = None
told_by_end (ReadsContext address next) = None

abbrev told : Rest → Option Cause
told (Ends answer) = None
told (ReadsEntry address next) = told_by_end (next None)
told (ReadsContext address next) = None

reported_access : (kind : AccessKind) (address : ℕ) (implicit : Bool) → (reported (access_fault_of kind) address implicit).cause ≡ access_fault_of kind
reported_access Read address implicit = refl
reported_access Write address implicit = refl

told_of_walk : (frames : ℕ) (walk : TableWalk) → told (rest_of frames walk) ≡ Some (access_fault_of (asked_by walk).kind)
told_of_walk frames (stands.InFirstStage asked place) = refl
told_of_walk frames (stands.InSecondStage asked place) = ap Some (reported_access asked.kind asked.address false)
told_of_walk frames (stands.ToGuestEntry both entry place) = ap Some (reported_access both.asked.kind (address_of entry both.asked.address) true)
told_of_walk frames (stands.InGuestTable both entry frame) = refl
told_of_walk frames (stands.ToGuestPage both page place) = ap Some (reported_access both.asked.kind (guest_address page.number both.asked.address) false)

same_kind : (one other : AccessKind) → access_fault_of one ≡ access_fault_of other → one ≡ other
same_kind Read Read is = refl
same_kind Read Write is = let no : ⊥ = cc in absurd no
same_kind Write Read is = let no : ⊥ = cc in absurd no
same_kind Write Write is = refl

-- in a table with indices left
told_first : (frames table : ℕ) (kind : AccessKind) (left : List ℕ) (cause : Cause) → told (first_rest frames kind table left) ≡ Some cause → access_fault_of kind ≡ cause
told_first frames table kind [] cause is = let no : ⊥ = cc in absurd no
told_first frames table kind (i ∷ left) cause is = cc

told_second : (frames table : ℕ) (asks kind : AccessKind) (found : ℕ → Rights → ℕ → Rest) (stopped : Cause → WalkFault) (left : List ℕ) (cause : Cause)
    → (stopped (access_fault_of kind)).cause ≡ access_fault_of kind
    → told (lead_rest frames asks kind found (λ c. Ends (Err (stopped c))) table left) ≡ Some cause → access_fault_of kind ≡ cause
told_second frames table asks kind found stopped [] cause says is = let no : ⊥ = cc in absurd no
told_second frames table asks kind found stopped (i ∷ left) cause says is =
    let e : (stopped (access_fault_of kind)).cause ≡ cause = cc in sym says ∙ e

told_of_parts : (frames : ℕ) (kind : AccessKind) (rest : Rest) (parts : List Part) (entries : List ℕ) (cause : Cause) → IsWalkOf frames kind rest parts entries
    → told rest ≡ Some cause → access_fault_of kind ≡ cause
told_of_parts frames kind rest parts entries cause (InFirstStage table left is all none) tells =
    told_first frames table kind left cause (ap told (sym is) ∙ tells)
told_of_parts frames kind rest parts entries cause (InSecondStage address table left is all none) tells =
    told_second frames table kind kind (λ frame rights level. Ends (Ok (found_alone frame rights level))) (λ c. reported c address false) left cause (reported_access kind address false) (ap told (sym is) ∙ tells)
told_of_parts frames kind rest parts entries cause (ToGuestEntry w loaded guest i below table left same is all none) tells =
    ap access_fault_of (sym same) ∙ told_second w.frames table Read w.kind (λ frame rights level. guest_load w loaded guest i below (λ next. guest_down w (loaded ++ frame ∷ []) next below) frame) (λ c. reported c (entry_address (slot guest i)) true) left cause (reported_access w.kind (entry_address (slot guest i)) true) (ap told (sym is) ∙ tells)
told_of_parts frames kind rest parts entries cause (InGuestTable w loaded guest i below frame same is all loads) tells =
    let e : Some (access_fault_of w.kind) ≡ Some cause = ap told (sym is) ∙ tells in
    let f : access_fault_of w.kind ≡ cause = cc in
    ap access_fault_of (sym same) ∙ f
told_of_parts frames kind rest parts entries cause (ToGuestPage w loaded page given level table left same is all none) tells =
    ap access_fault_of (sym same) ∙ told_second w.frames table w.kind w.kind (reached w loaded given level) (λ c. reported c (guest_address page w.address) false) left cause (reported_access w.kind (guest_address page w.address) false) (ap told (sym is) ∙ tells)

for_kind : (frames : ℕ) (a : Added) (own : Request) (serving : Serving) → HasAdded frames a own (still_serving frames serving) → IsForKind own serving
for_kind frames a own (Served answer) has = tt
for_kind frames a own (GoesOn (InDirectory request anew walk)) has = tt
for_kind frames a own (GoesOn (InTables request context translated walk)) (same, (list, entries, walks, there, reads)) =
    same_kind (asked_by walk).kind own.asked.kind
    (sym (told_of_parts frames request.asked.kind (rest_of frames walk) list entries (access_fault_of (asked_by walk).kind) walks (told_of_walk frames walk))
    ∙ ap (λ (r : Request). access_fault_of r.asked.kind) same)

pub covered_are_for_kinds : CoveredAreForKinds
covered_are_for_kinds trusted parts rows scene covers id under_way is =
    for_kind (length parts.memory) covers.added under_way.request under_way.serving (covers.walks id under_way is)
