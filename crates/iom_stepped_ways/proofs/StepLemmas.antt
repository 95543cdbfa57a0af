-- A request that begins beside a board, and the next load of one.
use Rattle.std.proofs.Common.{◌≡◌, ◌∙◌, inl, inr, ℕ, Bool, List, [], ◌∷◌, length, Some, Result, Ok, refl, sym, ap, subst}
use Rattle.std.specs.Result.{OnErr}
use Rattle.std.proofs.lemmas.Bool.Decides.{eqb_tells}
use Rattle.iom_base.specs.declared.access.Access.{Access}
use Rattle.iom_base.specs.declared.device_kind.DeviceKind.{DeviceKind}
use Rattle.iom_base.specs.declared.refusal.Refusal.{Refusal}
use Rattle.iom_base.specs.DeviceKinds.{is_any_kind}
use Rattle.iom_board.specs.BoardParts.{BoardParts}
use Rattle.iom_board.specs.ByDevice.{ByDevice}
use Rattle.iom_inflight.specs.Flights.{Flights}
use Rattle.iom_iommu.specs.Parts.{registers_of, contexts_of, translations_of, flights_of}
use Rattle.iom_iommu.specs.Requests.{access_of}
use Rattle.iom_iommu.specs.Stepped.{AnswersAtOnce, BeginsWalk, EndsAtLoad, LoadsMore, request_for, translation_by}
use Rattle.iom_iommu.specs.declared.begun.Begun.{Begun}
use Rattle.iom_iommu.specs.declared.begun.Begun.TheVariants.{Answered, Walking, Occupied}
use Rattle.iom_iommu.specs.declared.begun.Load.{Load}
use Rattle.iom_iommu.specs.declared.begun.Load.TheVariants.{Nothing, Loaded, Ended}
use Rattle.iom_iommu.specs.declared.reply.Reply.{Reply}
use Rattle.iom_iommu.specs.declared.reply.Reply.TheVariants.{Accepted, Busy, Fault, BadSpan}
use Rattle.iom_registers.specs.Queues.{directory_mode}
use Rattle.iom_stepped_board.specs.Requests.{BeginsAccessBeside, BeginsBeside, LoadsBeside, MakesLoad}
use Rattle.iom_stepped_requests.specs.Serving.{kept}
use Rattle.iom_stepped_requests.specs.Standing.{still_serving}
use Rattle.iom_stepped_requests.specs.declared.request.Kept.{Kept}
use Rattle.iom_stepped_requests.specs.declared.request.Request.{Request}
use Rattle.iom_walks.specs.Caches.{to_keep, looks_for_context}
use Rattle.iom_walks.specs.Calls.{row_going_on, row_walking}
use Rattle.iom_walks.specs.Invariant.{AreWalks, RowsInvariant, RowInvariant}
use Rattle.iom_walks.specs.Walks.{UnderWay, WalkRow, idle_row, row_of, under_way_in, under_way_of}
use Rattle.iom_walks.proofs.Rows.{row_is_own}
use Rattle.iom_reach.specs.Scene.{HasDevice}
use Rattle.iom_hardware_ways.specs.Scenes.{scene_of}
use Rattle.iom_hardware_ways.proofs.RequestLemmas.{plugged}
use Rattle.iom_hardware_ways.proofs.SceneParts.{scene_is}
use Rattle.iom_hardware_ways.proofs.TranslationLemmas.{stays_shown}
use Rattle.iom_hardware_ways.proofs.Turns.{Comes, nothing, in_succession}
use Rattle.iom_stepped_ways.proofs.BeginLemmas.{begins_walk, served_at_once}
use Rattle.iom_stepped_ways.proofs.CacheLemmas.{IsFoundToKeep, contexts_offered, kept_device, looked, translations_offered}
use Rattle.iom_stepped_ways.proofs.GrowLemmas.{AreAdded, row_added, still_all_added}
use Rattle.iom_stepped_ways.proofs.LoadLemmas.{load_ends, load_goes_on}
use Rattle.iom_stepped_ways.proofs.ReplyLemmas.{IsLetIn, cached_alone, replied}
use Rattle.iom_stepped_ways.specs.Scenes.{Added, HasAdded, added_and, with_added}

-- the scene that covers the board comes to one that covers it, and what is under way, after the call
abbrev pub Covered : (ℕ → Bool) → BoardParts → Added → BoardParts → List WalkRow → Type 0
Covered trusted old a new new_rows =
    (b : Added) × Comes (with_added (scene_of trusted old) a) (with_added (scene_of trusted new) b) × AreAdded (length old.memory) b new_rows

-- the board is as it was
pub same_scene : (trusted : ℕ → Bool) (old new : BoardParts) → new.memory ≡ old.memory → new.iommu ≡ old.iommu → new.devices ≡ old.devices → new.fabric ≡ old.fabric
    → scene_of trusted new ≡ scene_of trusted old
same_scene trusted old new memory iommu devices fabric =
    scene_is trusted new old.memory (registers_of old.iommu) (contexts_of old.iommu) (translations_of old.iommu) (flights_of old.iommu).rows old.devices old.fabric
    memory (ap (λ i. registers_of i) iommu) (ap (λ i. contexts_of i) iommu) (ap (λ i. translations_of i) iommu) (ap (λ i. (flights_of i).rows) iommu) devices fabric

pub unchanged : (trusted : ℕ → Bool) (old new : BoardParts) (rows new_rows : List WalkRow) (a : Added) → scene_of trusted new ≡ scene_of trusted old → new_rows ≡ rows
    → AreAdded (length old.memory) a rows → Covered trusted old a new new_rows
unchanged trusted old new rows new_rows a same rows_same all = (
  a,
  nothing (with_added (scene_of trusted old) a) (with_added (scene_of trusted new) a) (ap (λ s. with_added s a) same),
  subst (AreAdded (length old.memory) a) (sym rows_same) all,
)

-- a call of a device that isn't there, or is of another kind
pub by_device : {A : Type 0} (trusted : ℕ → Bool) (can : DeviceKind → Bool) (Call : BoardParts → A → BoardParts → Type 0) (old new : BoardParts) (rows new_rows : List WalkRow) (a : Added) (id : ℕ)
    (answer : Result A Refusal) → ByDevice can Call old id answer new → OnErr answer (new_rows ≡ rows) → AreAdded (length old.memory) a rows
    → ((given : A) → HasDevice (with_added (scene_of trusted old) a) id → Call old given new → Covered trusted old a new new_rows) → Covered trusted old a new new_rows
by_device {A} trusted can Call old new rows new_rows a id answer (inl absent) refused all effect =
    unchanged trusted old new rows new_rows a (ap (scene_of trusted) absent.same) (subst (λ (r : Result A Refusal). OnErr r (new_rows ≡ rows)) absent.answered refused) all
by_device {A} trusted can Call old new rows new_rows a id answer (inr (inl other)) refused all effect =
    unchanged trusted old new rows new_rows a (ap (scene_of trusted) other.same) (subst (λ (r : Result A Refusal). OnErr r (new_rows ≡ rows)) other.answered refused) all
by_device trusted can Call old new rows new_rows a id answer (inr (inr so)) refused all effect = effect so.given (plugged trusted old can id so.able) so.call

-- WHAT A ROW HAS IS OF ITS DEVICE
row_holds : (rows : List WalkRow) (id : ℕ) (row : WalkRow) → RowsInvariant rows → row_of rows id ≡ Some row → RowInvariant row.device row.bytes row.under_way
row_holds [] id row holds at = let no : ⊥ = cc in absurd no
row_holds (first ∷ others) id row (own, later) at = elim (eqb_tells first.device id) [
  | inl e ↦
      let here : Some first ≡ Some row = rw e.0 at at in
      subst (λ (r : WalkRow). RowInvariant r.device r.bytes r.under_way) (some_row first row here) own
  | inr ne ↦ row_holds others id row later (rw ne.0 at at)
]
  where
    some_row : (one other : WalkRow) → Some one ≡ Some other → one ≡ other
    some_row one other is = cc

own_request : (rows : List WalkRow) (id : ℕ) (row : WalkRow) (under_way : UnderWay) → RowsInvariant rows → row_of rows id ≡ Some row → row.under_way ≡ Some under_way
    → under_way.request.device ≡ id
own_request rows id row under_way holds at walks =
    (subst (RowInvariant row.device row.bytes) walks (row_holds rows id row holds at)).own ∙ row_is_own rows id row at

some_way : (one other : UnderWay) → Some one ≡ Some other → one ≡ other
some_way one other is = cc

module _ (trusted : ℕ → Bool) (old new : BoardParts) (rows new_rows : List WalkRow) (a : Added) (id : ℕ) (there : HasDevice (with_added (scene_of trusted old) a) id)
    (holds : RowsInvariant rows) (all : AreAdded (length old.memory) a rows) (devices : new.devices ≡ old.devices) (fabric : new.fabric ≡ old.fabric) where
  abbrev found : Kept
  found = to_keep old.memory (under_way_of rows id)

  -- what the load finds is what it keeps
  found_is : (row : WalkRow) (under_way : UnderWay) → row_of rows id ≡ Some row → row.under_way ≡ Some under_way
      → found ≡ kept old.memory (still_serving (length old.memory) under_way.serving)
  found_is row under_way at walks = ap (to_keep old.memory) (ap under_way_in at ∙ walks)

  -- A LOAD, and the request goes on
  loads_more : new.memory ≡ old.memory → LoadsMore old.memory old.iommu rows id new.iommu new_rows → Covered trusted old a new new_rows
  loads_more memory more =
      let l = more.loads in
      let u = l.under_way in
      let own = own_request rows id l.row u holds l.was_there l.walks in
      let plug : HasDevice (with_added (scene_of trusted old) a) u.request.device = subst (HasDevice (with_added (scene_of trusted old) a)) (sym own) there in
      let has = all id u (ap under_way_in l.was_there ∙ l.walks) in
      let (b, comes, now, keep) = load_goes_on trusted old a u.request plug (still_serving (length old.memory) u.serving) l.walk has l.made in
      let c = added_and a b in
      let keeps : IsFoundToKeep (with_added (scene_of trusted old) c) found = subst (IsFoundToKeep (with_added (scene_of trusted old) c)) (sym (found_is l.row u l.was_there l.walks)) keep in (
        c,
        in_succession (with_added (scene_of trusted old) a) (with_added (scene_of trusted old) c) (with_added (scene_of trusted new) c) comes
            (cached_alone trusted old new c (kept_device found) memory (ap (λ parts. parts.registers) more.rest) (ap (λ (f : Flights). f.rows) (ap (λ parts. parts.flights) more.rest)) devices fabric
            (translations_offered trusted old c _ found (translations_of new.iommu) keeps more.offers.translations)
            (contexts_offered trusted old c found old.iommu.contexts new.iommu.contexts refl keeps more.offers.contexts)),
        subst (AreAdded (length old.memory) c) (sym l.after)
            (row_added (length old.memory) c rows id l.row (row_going_on l.row u l.walk) l.was_there refl (still_all_added (length old.memory) a b rows all)
            (λ under_way is. subst (λ (w : UnderWay). HasAdded (length old.memory) c w.request (still_serving (length old.memory) w.serving)) (some_way _ under_way is) now)),
      )

  -- a load, and it has its answer
  ends : (reply : Reply) → EndsAtLoad old.memory old.iommu rows id reply new.memory new.iommu new_rows → Covered trusted old a new new_rows
  ends reply end =
      let l = end.loads in
      let u = l.under_way in
      let own = own_request rows id l.row u holds l.was_there l.walks in
      let plug : HasDevice (with_added (scene_of trusted old) a) u.request.device = subst (HasDevice (with_added (scene_of trusted old) a)) (sym own) there in
      let has = all id u (ap under_way_in l.was_there ∙ l.walks) in
      let (keep, let_in) = load_ends trusted old a u.request plug (still_serving (length old.memory) u.serving) end.ended.answer has l.answered in
      let keeps : IsFoundToKeep (with_added (scene_of trusted old) a) found = subst (IsFoundToKeep (with_added (scene_of trusted old) a)) (sym (found_is l.row u l.was_there l.walks)) keep in (
        a,
        replied trusted old new a id (access_of end.ended.request.asked.address end.ended.len end.ended.request.asked.kind l.row.bytes)
            (translation_by old.memory end.ended.request.asked.address end.ended.request.asked.kind end.ended.answer) devices fabric reply (kept_device found) end.replied
            (translations_offered trusted old a _ found (translations_of new.iommu) keeps end.offers.translations)
            (contexts_offered trusted old a found old.iommu.contexts new.iommu.contexts refl keeps end.offers.contexts)
            (λ t is.
            subst (λ d. IsLetIn (scene_of trusted old) a d t.frame end.ended.request.asked.kind) (ap (λ (r : Request). r.device) l.request ∙ own)
            (subst (λ (r : Request). translation_by old.memory r.asked.address r.asked.kind end.ended.answer ≡ Ok t → IsLetIn (scene_of trusted old) a r.device t.frame r.asked.kind)
            (sym l.request) (let_in t) is)),
        subst (AreAdded (length old.memory) a) (sym l.after)
            (row_added (length old.memory) a rows id l.row (idle_row l.row) l.was_there refl all (λ under_way none. let no : ⊥ = cc in absurd no)),
      )

  pub loaded : (load : Load) → LoadsBeside rows id new_rows old load new → Covered trusted old a new new_rows
  loaded Nothing beside = let (none, (memory, iommu, same)) = beside.call in unchanged trusted old new rows new_rows a (same_scene trusted old new memory iommu devices fabric) same all
  loaded Loaded beside = loads_more beside.call.0 beside.call.1
  loaded (Ended reply) beside = ends reply beside.call

  -- A REQUEST BEGINS, and is under way
  begins : (access : Access) → new.memory ≡ old.memory → BeginsWalk old.iommu rows id access new.iommu new_rows → Covered trusted old a new new_rows
  begins access memory walks =
      let l = walks.begun in
      let (b, comes, now) = begins_walk trusted old a (request_for id access) there l.walk (l.has_begun (length old.memory)) in
      let c = added_and a b in (
        c,
        in_succession (with_added (scene_of trusted old) a) (with_added (scene_of trusted old) c) (with_added (scene_of trusted new) c) comes
            (cached_alone trusted old new c 0 memory (ap (λ parts. parts.registers) walks.rest) (ap (λ (f : Flights). f.rows) (ap (λ parts. parts.flights) walks.rest)) devices fabric
            (inl (stays_shown (translations_of old.iommu) (translations_of new.iommu) walks.looks.translations))
            (inl (looked (looks_for_context (registers_of old.iommu).ddtp.mode id) (directory_mode (registers_of old.iommu)) id old.iommu.contexts new.iommu.contexts walks.looks.contexts))),
        subst (AreAdded (length old.memory) c) (sym l.after)
            (row_added (length old.memory) c rows id l.row (row_walking l.row (request_for id access) access.len access.bytes l.walk) l.was_there refl
            (still_all_added (length old.memory) a b rows all)
            (λ under_way is. subst (λ (w : UnderWay). HasAdded (length old.memory) c w.request (still_serving (length old.memory) w.serving)) (some_way _ under_way is) now)),
      )

  -- it is answered at once
  answered : (access : Access) (reply : Reply) → AnswersAtOnce old.memory old.iommu rows id access reply new.memory new.iommu new_rows → Covered trusted old a new new_rows
  answered access reply answers = (
    a,
    replied trusted old new a id access (translation_by old.memory access.address access.kind answers.answer) devices fabric reply 0 answers.replied
        (inl (stays_shown (translations_of old.iommu) (translations_of new.iommu) answers.looks.translations))
        (inl (looked (looks_for_context (registers_of old.iommu).ddtp.mode id) (directory_mode (registers_of old.iommu)) id old.iommu.contexts new.iommu.contexts answers.looks.contexts))
        (λ t is. inl (served_at_once trusted old a (request_for id access) there answers.answer (answers.begun.0 (length old.memory)) t is)),
    subst (AreAdded (length old.memory) a) (sym answers.begun.1) all,
  )

  pub begun : (access : Access) (answer : Begun) → BeginsBeside rows id access new_rows old answer new → Covered trusted old a new new_rows
  begun access (Answered BadSpan) beside = let (out, (memory, iommu, same)) = beside.call in unchanged trusted old new rows new_rows a (same_scene trusted old new memory iommu devices fabric) same all
  begun access (Answered Busy) beside =
      let (within, full, (memory, iommu, same)) = beside.call in unchanged trusted old new rows new_rows a (same_scene trusted old new memory iommu devices fabric) same all
  begun access Occupied beside =
      let (within, room, some, (memory, iommu, same)) = beside.call in unchanged trusted old new rows new_rows a (same_scene trusted old new memory iommu devices fabric) same all
  begun access Walking beside = begins access beside.call.0 beside.call.1
  begun access (Answered (Accepted number)) beside = answered access (Accepted number) beside.call
  begun access (Answered (Fault cause)) beside = answered access (Fault cause) beside.call

-- THE CALLS
pub load_covers : (trusted : ℕ → Bool) (old new : BoardParts) (rows new_rows : List WalkRow) (a : Added) (id : ℕ) (answer : Result Load Refusal) → AreWalks rows
    → AreAdded (length old.memory) a rows → MakesLoad old rows id answer new new_rows → Covered trusted old a new new_rows
load_covers trusted old new rows new_rows a id answer walks all makes =
    by_device trusted is_any_kind (LoadsBeside rows id new_rows) old new rows new_rows a id answer makes.by_device makes.refused all
    (λ load there call. loaded trusted old new rows new_rows a id there walks.rows_are all call.devices call.fabric load call)

pub begin_covers : (trusted : ℕ → Bool) (can : DeviceKind → Bool) (old new : BoardParts) (rows new_rows : List WalkRow) (a : Added) (id : ℕ) (access : Access) (answer : Result Begun Refusal)
    → AreWalks rows → AreAdded (length old.memory) a rows → BeginsAccessBeside can old rows id access answer new new_rows → Covered trusted old a new new_rows
begin_covers trusted can old new rows new_rows a id access answer walks all begin =
    by_device trusted can (BeginsBeside rows id access new_rows) old new rows new_rows a id answer begin.by_device begin.refused all
    (λ given there call. begun trusted old new rows new_rows a id there walks.rows_are all call.devices call.fabric access given call)
