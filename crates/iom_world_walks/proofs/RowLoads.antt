-- A LOAD OF A DEVICE'S REQUEST is an event of a world: all stays true, and each request under way stands somewhere.
use Rattle.std.proofs.Common.{◌≡◌, ℕ, ◌^◌, ◌<◌, ◌⊎◌, inl, inr, ◌∙◌, ◌==◌, Bool, true, false, List, [], ◌∷◌, length, Contains, Some, Result, Ok, Err, refl, sym, ap, subst, if◌then◌else◌}
use Rattle.iom_base.specs.declared.cause.Cause.{Cause}
use Rattle.iom_coherence.specs.Among.{AreAmong}
use Rattle.iom_coherence.proofs.ListLemmas.{cons_cases, contains_head, contains_tail}
use Rattle.iom_device_dir.specs.Cached.{cached_contexts}
use Rattle.iom_device_dir.specs.declared.cache.DirCache.{DirCache}
use Rattle.iom_device_dir.specs.declared.context.Context.{Context}
use Rattle.iom_driver.specs.Devices.{attachment_by_id}
use Rattle.iom_driver.specs.Directory.{context_for}
use Rattle.iom_driver.specs.State.{DriverState}
use Rattle.iom_driver.specs.declared.device.Attachment.TheVariants.{Attached}
use Rattle.iom_driver.specs.declared.device.Stages.{Stages}
use Rattle.iom_device_dir.specs.Contents.{KeepsOne}
use Rattle.iom_ledger.specs.Shown.{held_in}
use Rattle.iom_world_effects.specs.Devices.{shown_attachment}
use Rattle.iom_stepped_requests.specs.declared.request.Answer.{Answer}
use Rattle.iom_iommu.specs.Parts.{contexts_of, flights_of, iommu_parts, registers_of, translations_of}
use Rattle.iom_base.specs.declared.access.Access.{Access}
use Rattle.iom_iommu.specs.Requests.{access_of}
use Rattle.iom_iommu.specs.Stepped.{LoadsMore, EndsAtLoad, LoadsNext, OffersFound, Replies, translation_by}
use Rattle.iom_iommu.specs.declared.begun.Load.{Load}
use Rattle.iom_iommu.specs.declared.begun.Load.TheVariants.{Nothing, Loaded, Ended}
use Rattle.iom_iommu.specs.declared.reply.Reply.{Reply}
use Rattle.iom_iommu.specs.declared.reply.Reply.TheVariants.{Accepted, Busy, BadSpan, Fault}
use Rattle.iom_standing_walks.specs.Driven.{DrivenWalksStand}
use Rattle.iom_standing_walks.specs.Pages.{DirectoryEndsAsNow, DirectoryGoesOn}
use Rattle.iom_stepped_requests.specs.Serving.{Remaining, Serves, Locates, Translates, answer_of, in_tables, kept, kept_in_directory, kept_in_tables, load}
use Rattle.iom_stepped_walk.specs.Steps.{TableAnswer}
use Rattle.iom_walk_loads.specs.Loads.{Walk as LoadWalk, Ends, ReadsEntry, ReadsContext, after_load}
use Rattle.iom_tlb.specs.Content.{Translations, TranslationsUnchanged}
use Rattle.iom_tlb.specs.declared.trans_cache.Translation.{Translation}
use Rattle.iom_stage_walk.specs.declared.walked.WalkFault.{WalkFault}
use Rattle.iom_stepped_requests.specs.declared.request.Answer.TheVariants.{AsItIs, Cached, Reaches, Faults}
use Rattle.iom_stepped_requests.specs.declared.walk.Serving.TheVariants.{GoesOn}
use Rattle.iom_stepped_requests.specs.Standing.{stands, still_serving}
use Rattle.iom_stepped_requests.specs.declared.request.Kept.{Kept}
use Rattle.iom_stepped_requests.specs.declared.request.Kept.TheVariants as kept_as
use Rattle.iom_stepped_requests.specs.declared.request.Request.{Request}
use Rattle.iom_stepped_requests.specs.declared.walk.RequestWalk.{RequestWalk}
use Rattle.iom_stepped_requests.specs.declared.walk.RequestWalk.TheVariants as walking
use Rattle.iom_walk_coherence.specs.Walks.{Walk, Standing, InDirectory, InTables, InGuestTable, walk_at}
use Rattle.iom_tlb.specs.Chosen.{ioatc}
use Rattle.iom_walks.specs.Caches.{OffersContext, OffersTranslation, to_keep}
use Rattle.iom_walks.specs.Calls.{row_going_on}
use Rattle.iom_walks.specs.Walks.{UnderWay, WalkRow, row_of, with_row, idle_row, under_way_in, under_way_of}
use Rattle.iom_world_effects.specs.Invariant.{InvariantWith}
use Rattle.iom_world_effects.specs.Parts.{Parts}
use Rattle.iom_world_effects.specs.Read.{values_of}
use Rattle.iom_world_effects.proofs.DriverLemmas.{DriverInvariant}
use Rattle.iom_world_effects.proofs.PartsLemmas.{StaysReady, StaysReported, parts_are}
use Rattle.iom_world_effects.proofs.ServedLemmas.{IsAnswered, ServiceLaws}
use Rattle.iom_world_effects.proofs.WalkScenes.{MayGoOnThere, go_on_scene}
use Rattle.iom_world_effects.proofs.WalksLeft.{walks_change}
use Rattle.iom_world_invariant.proofs.ContextKeeps.{KeepsAttached}
use Rattle.iom_world_walks.specs.Invariant.{SteppedInvariant}
use Rattle.iom_world_walks.specs.Standing.{StandsAs, RowsStand}
use Rattle.iom_world_walks.proofs.EffectsLeave.{RecordsLeave}
use Rattle.iom_world_walks.proofs.LeavingLemmas.{leaves_all, leaves_said}
use Rattle.iom_world_walks.proofs.LoadKeeps.{quiet, recorded, accepted}
use Rattle.iom_world_walks.proofs.RequestLoads.{HasServed, context_kept, request_loaded, stands_at}
use Rattle.iom_world_walks.proofs.StillLemmas.{rows_still}
use Rattle.iom_world_walks.proofs.TableLoads.{LoadLaws}

-- ROWS

-- the row of a device is there
pub row_there : (rows : List WalkRow) (id : ℕ) (row : WalkRow) → row_of rows id ≡ Some row → Contains rows row
row_there [] id row is = cc
row_there (first ∷ others) id row is = by (first.device == id) (row_there others id row) is
  where
    by : (b : Bool) → (row_of others id ≡ Some row → Contains others row) → (if b then Some first else row_of others id) ≡ Some row → Contains (first ∷ others) row
    by true rest same = let one : first ≡ row = cc in subst (Contains (first ∷ others)) one (contains_head first others)
    by false rest same = contains_tail first others row (rest same)

-- what is there once a row is put in its place was there, or is that row
pub replaced_cases : (rows : List WalkRow) (own row : WalkRow) → Contains (with_row rows own) row → (row ≡ own) ⊎ Contains rows row
replaced_cases [] own row there = inr there
replaced_cases (first ∷ others) own row there = by (first.device == own.device) (replaced_cases others own row) there
  where
    by : (b : Bool) → (Contains (with_row others own) row → (row ≡ own) ⊎ Contains others row) → Contains (if b then own ∷ others else first ∷ with_row others own) row
        → (row ≡ own) ⊎ Contains (first ∷ others) row
    by true rest at = elim (cons_cases own others row at) [ inl same ↦ inl (sym same) | inr before ↦ inr (contains_tail first others row before) ]
    by false rest at = elim (cons_cases first (with_row others own) row at) [
      | inl same ↦ inr (subst (Contains (first ∷ others)) same (contains_head first others))
      | inr later ↦ elim (rest later) [ inl same ↦ inl same | inr before ↦ inr (contains_tail first others row before) ]
    ]

-- who stands among some walks stands among more
pub stands_more : (driver : DriverState) (memory : List (List ℕ)) (walks left : List Walk) (own : Request) (remaining : Remaining) → AreAmong walks left → StandsAs driver memory walks own remaining
    → StandsAs driver memory left own remaining
stands_more driver memory walks left own (Serves answer) among stands = stands
stands_more driver memory walks left own (Locates request anew rest) among (same, there, stands) = (same, among (walk_at own.device InDirectory) there, stands)
stands_more driver memory walks left own (Translates request context translated rest) among (same, standing, there, stands) = (same, standing, among (walk_at own.device standing) there, stands)

-- where a walk may come to depends on the driver alone
may_still : (old new : Parts) (id : ℕ) (from to : Standing) → new.driver ≡ old.driver → MayGoOnThere (values_of old) id from to → MayGoOnThere (values_of new) id from to
may_still old new id InDirectory InDirectory driver may = may
may_still old new id InDirectory InTables driver (mode, ats, attached) = (mode, ats, ap (λ (d : DriverState). shown_attachment (attachment_by_id d.devices id)) driver ∙ attached)
may_still old new id InDirectory (InGuestTable frame) driver may = may
may_still old new id InTables InDirectory driver may = may
may_still old new id InTables InTables driver may = may
may_still old new id InTables (InGuestTable frame) driver (page, rights, held, allowed) = (page, rights, ap (λ (d : DriverState). held_in d.ledger id page) driver ∙ held, allowed)
may_still old new id (InGuestTable frame) InDirectory driver may = may
may_still old new id (InGuestTable frame) InTables driver may = may
may_still old new id (InGuestTable frame) (InGuestTable other) driver may = may

-- a context that is kept is that of an attached device; else all that was cached is
keeps_offered : (d : DriverState) (id : ℕ) (found : Kept) (old new : DirCache)
    → ((device : ℕ) (context : Context) → found ≡ kept_as.Context device context → (device ≡ id) × (stage : Stages) × (attachment_by_id d.devices id ≡ Attached stage) × (context ≡ context_for stage))
    → OffersContext found old new → KeepsAttached (attachment_by_id d.devices id) id (cached_contexts old) (cached_contexts new)
keeps_offered d id kept_as.Nothing old new own same = inl (λ key. ap (λ (c : DirCache). cached_contexts c key) same)
keeps_offered d id (kept_as.Translation space page translation) old new own same = inl (λ key. ap (λ (c : DirCache). cached_contexts c key) same)
keeps_offered d id (kept_as.Context device context) old new own keeps =
    let mine = own device context refl in
    inr (mine.1, mine.2, subst (λ c. KeepsOne (cached_contexts old) id c (cached_contexts new)) mine.3 (subst (λ n. KeepsOne (cached_contexts old) n context (cached_contexts new)) mine.0 keeps.kept))

-- what remains of one that goes on isn't an answer
pub goes_on_still : (frames : ℕ) (walk : RequestWalk) (answer : Answer) → stands frames walk ≡ Serves answer → ⊥
goes_on_still frames (walking.InDirectory request anew walk) answer same = cc
goes_on_still frames (walking.InTables request context translated walk) answer same = cc

-- where it goes on no translation is kept
unchanged_on : (memory : List (List ℕ)) (cached old new : Translations) (sure : Bool) (remaining : Remaining) (walk : RequestWalk) → stands (length memory) walk ≡ load memory cached remaining
    → OffersTranslation sure (kept memory remaining) old new → TranslationsUnchanged old new
unchanged_on memory cached old new sure (Serves answer) walk made offers = offers
unchanged_on memory cached old new sure (Locates request anew rest) walk made offers = by (after_load memory rest) offers
  where
    by : (after : LoadWalk (Result Context Cause)) → OffersTranslation sure (kept_in_directory request after) old new → TranslationsUnchanged old new
    by (Ends (Ok context)) offered = offered
    by (Ends (Err cause)) offered = offered
    by (ReadsEntry address later) offered = offered
    by (ReadsContext address later) offered = offered
unchanged_on memory cached old new sure (Translates request context translated rest) walk made offers = by (after_load memory rest) made offers
  where
    by : (after : LoadWalk TableAnswer) → stands (length memory) walk ≡ in_tables request context translated after → OffersTranslation sure (kept_in_tables request translated after) old new → TranslationsUnchanged old new
    by (Ends (Ok walked)) same offered = absurd (goes_on_still (length memory) walk (answer_of (Ok walked)) same)
    by (Ends (Err fault)) same offered = offered
    by (ReadsEntry address later) same offered = offered
    by (ReadsContext address later) same offered = offered

-- the laws on which loads rest
pub record RowLaws : Type 0 where
  pub loads : LoadLaws
  pub service : ServiceLaws
  pub ends : DirectoryEndsAsNow
  pub goes_on : DirectoryGoesOn
  pub driven : DrivenWalksStand

module _ {walks : List Walk} (laws : RowLaws) (old new : Parts) (events id : ℕ) (rows new_rows : List WalkRow) (invariants : InvariantWith walks old events) (own : DriverInvariant old.driver)
    (stays_ready : StaysReady old.driver) (reported : StaysReported old.driver) (recorded_leaves : RecordsLeave old.driver) (driver : new.driver ≡ old.driver) (devices : new.devices ≡ old.devices)
    (fabric : new.fabric ≡ old.fabric) (below : (flights_of old.iommu).so_far < events) (stand : RowsStand old.driver old.memory walks rows)
    (mine : (row : WalkRow) (under_way : UnderWay) → row_of rows id ≡ Some row → row.under_way ≡ Some under_way → under_way.request.device ≡ id) where
  module _ (row : WalkRow) (under_way : UnderWay) (there : row_of rows id ≡ Some row) (walking_now : row.under_way ≡ Some under_way) (offers : OffersFound old.memory old.iommu rows id new.iommu) where
    abbrev request : Request
    request = under_way.request

    abbrev remaining : Remaining
    remaining = still_serving (length old.memory) under_way.serving

    stood : (request.asked.address < 2 ^ 64) × StandsAs old.driver old.memory walks request remaining
    stood = stand row under_way (row_there rows id row there) walking_now

    is_mine : request.device ≡ id
    is_mine = mine row under_way there walking_now

    found : to_keep old.memory (under_way_of rows id) ≡ kept old.memory remaining
    found = ap (to_keep old.memory) (ap under_way_in there ∙ walking_now)

    offered : OffersTranslation ioatc.SURE (kept old.memory remaining) (translations_of old.iommu) (translations_of new.iommu)
    offered = subst (λ k. OffersTranslation ioatc.SURE k (translations_of old.iommu) (translations_of new.iommu)) found offers.translations

    -- what the load makes of it
    served : HasServed laws.loads laws.service laws.ends laws.goes_on old events invariants own request stood.0 ioatc.SURE (translations_of old.iommu) (translations_of new.iommu)
        (stands_at laws.loads laws.service laws.ends laws.goes_on old events invariants own request stood.0 ioatc.SURE (translations_of old.iommu) (translations_of new.iommu) remaining stood.1)
        (load old.memory (translations_of old.iommu) remaining)
    served = request_loaded laws.loads laws.service laws.ends laws.goes_on old events invariants own request stood.0 ioatc.SURE (translations_of old.iommu) (translations_of new.iommu) remaining stood.1 offered

    keeps : KeepsAttached (attachment_by_id old.driver.devices id) id (contexts_of old.iommu) (contexts_of new.iommu)
    keeps =
        keeps_offered old.driver id (kept old.memory remaining) old.iommu.contexts new.iommu.contexts
        (subst (λ n. (device : ℕ) (context : Context) → kept old.memory remaining ≡ kept_as.Context device context
        → (device ≡ n) × (stage : Stages) × (attachment_by_id old.driver.devices n ≡ Attached stage) × (context ≡ context_for stage)) is_mine
        (context_kept laws.loads laws.service laws.ends laws.goes_on old events invariants own request stood.0 ioatc.SURE (translations_of old.iommu) (translations_of new.iommu) remaining stood.1))
        (subst (λ k. OffersContext k old.iommu.contexts new.iommu.contexts) found offers.contexts)

    -- all other requests stand where they stood
    others_stand : (left : List Walk) (later : WalkRow) → AreAmong walks left → new_rows ≡ with_row rows later → ((next : UnderWay) → later.under_way ≡ Some next
        → (next.request.asked.address < 2 ^ 64) × StandsAs old.driver old.memory left next.request (still_serving (length old.memory) next.serving))
        → RowsStand old.driver old.memory left new_rows
    others_stand left later among is own_row one next at goes = elim (replaced_cases rows later one (subst (λ (rs : List WalkRow). Contains rs one) is at)) [
      | inl same ↦ own_row next (ap (λ (r : WalkRow). r.under_way) (sym same) ∙ goes)
      | inr before ↦
          let stood_before = stand one next before goes in
          (stood_before.0, stands_more old.driver old.memory walks left next.request (still_serving (length old.memory) next.serving) among stood_before.1)
    ]

    -- its walk is among those under way
    among_walks : (at : Remaining) → (stands_there : StandsAs old.driver old.memory walks request at) → (walk : RequestWalk) → stands (length old.memory) walk ≡ load old.memory (translations_of old.iommu) at
        → Contains walks (walk_at request.device (stands_at laws.loads laws.service laws.ends laws.goes_on old events invariants own request stood.0 ioatc.SURE (translations_of old.iommu) (translations_of new.iommu) at stands_there))
    among_walks (Serves answer) stands_there walk made = absurd (goes_on_still (length old.memory) walk answer made)
    among_walks (Locates other anew rest) (same, there_now, at) walk made = there_now
    among_walks (Translates other context translated rest) (same, standing, there_now, at) walk made = there_now

    abbrev from : Standing
    from = stands_at laws.loads laws.service laws.ends laws.goes_on old events invariants own request stood.0 ioatc.SURE (translations_of old.iommu) (translations_of new.iommu) remaining stood.1

    abbrev Served : Remaining → Type 0
    Served = HasServed laws.loads laws.service laws.ends laws.goes_on old events invariants own request stood.0 ioatc.SURE (translations_of old.iommu) (translations_of new.iommu) from

    -- where it goes on the walk stands there now
    gone_on : (to : Standing) (walk : RequestWalk) → stands (length old.memory) walk ≡ load old.memory (translations_of old.iommu) remaining → new_rows ≡ with_row rows (row_going_on row under_way walk)
        → MayGoOnThere (values_of old) request.device from to
        → StandsAs old.driver old.memory (walk_at request.device to ∷ walks) request (stands (length old.memory) walk)
        → new.memory ≡ old.memory → iommu_parts new.iommu ≡ record (iommu_parts old.iommu) { contexts = new.iommu.contexts; translations = new.iommu.translations } → SteppedInvariant new new_rows events
    gone_on to walk made after may stands_now memory rest =
        let left = walk_at request.device to ∷ walks in
        let more : AreAmong walks left = λ x x_there. contains_tail (walk_at request.device to) walks x x_there in
        let unchanged = unchanged_on old.memory (translations_of old.iommu) (translations_of old.iommu) (translations_of new.iommu) ioatc.SURE remaining walk made offered in
        let before : InvariantWith walks new events = quiet old new events id invariants own driver devices fabric keeps stays_ready memory rest unchanged in
        let now : InvariantWith left new events =
        walks_change new events before
        (go_on_scene (values_of new) request.device from to walks left (among_walks remaining stood.1 walk made) (may_still old new request.device from to driver may)
        (λ x x_there. elim (cons_cases (walk_at request.device to) walks x x_there) [ inl same ↦ inl (sym same) | inr earlier ↦ inr earlier ])) in
        let standing_rows : RowsStand old.driver old.memory left new_rows =
        others_stand left (row_going_on row under_way walk) more after (λ next is.
        let one : record under_way { serving = GoesOn walk } ≡ next = cc in
        subst (λ (u : UnderWay). (u.request.asked.address < 2 ^ 64) × StandsAs old.driver old.memory left u.request (still_serving (length old.memory) u.serving)) one (stood.0, stands_now)) in
        (left, now, rows_still laws.driven old new events left invariants.started (leaves_all old.driver new.driver old.memory new.memory driver memory) now new_rows standing_rows)

    by_walk : (walk : RequestWalk) → stands (length old.memory) walk ≡ load old.memory (translations_of old.iommu) remaining → new_rows ≡ with_row rows (row_going_on row under_way walk)
        → Served (stands (length old.memory) walk) → new.memory ≡ old.memory
        → iommu_parts new.iommu ≡ record (iommu_parts old.iommu) { contexts = new.iommu.contexts; translations = new.iommu.translations } → SteppedInvariant new new_rows events
    by_walk (walking.InDirectory other anew at) made after (same, may, stands_there) memory rest =
        gone_on InDirectory (walking.InDirectory other anew at) made after may (same, contains_head (walk_at request.device InDirectory) walks, stands_there) memory rest
    by_walk (walking.InTables other context translated at) made after (same, to, may, stands_there) memory rest =
        gone_on to (walking.InTables other context translated at) made after may (same, to, contains_head (walk_at request.device to) walks, stands_there) memory rest

    -- where it ends nothing is under way of the device
    left_idle : new_rows ≡ with_row rows (idle_row row) → RowsStand old.driver old.memory walks new_rows
    left_idle after = others_stand walks (idle_row row) (λ x x_there. x_there) after (λ next is. cc)

    -- the answer gives what the service of whole requests may give
    given : (answer : Answer) → Served (Serves answer) → (translated : Result Translation WalkFault) → translation_by old.memory request.asked.address request.asked.kind answer ≡ translated
        → IsAnswered ioatc.SURE old.driver request.device request.asked.address request.asked.kind (translations_of old.iommu) translated (translations_of new.iommu)
    given AsItIs never translated is = absurd never
    given (Cached found_one) answers translated is =
        subst (λ t. IsAnswered ioatc.SURE old.driver request.device request.asked.address request.asked.kind (translations_of old.iommu) t (translations_of new.iommu)) is answers
    given (Reaches walked) answers translated is =
        subst (λ t. IsAnswered ioatc.SURE old.driver request.device request.asked.address request.asked.kind (translations_of old.iommu) t (translations_of new.iommu)) is answers
    given (Faults fault) answers translated is =
        subst (λ t. IsAnswered ioatc.SURE old.driver request.device request.asked.address request.asked.kind (translations_of old.iommu) t (translations_of new.iommu)) is answers

  -- WHAT A REQUEST IS ANSWERED THAT ENDS may be answered to a whole one then
  pub ended_answer : (reply : Reply) → (call : EndsAtLoad old.memory old.iommu rows id reply new.memory new.iommu new_rows) → (translated : Result Translation WalkFault)
      → translation_by old.memory call.ended.request.asked.address call.ended.request.asked.kind call.ended.answer ≡ translated
      → IsAnswered ioatc.SURE old.driver id call.ended.request.asked.address call.ended.request.asked.kind (translations_of old.iommu) translated (translations_of new.iommu)
  ended_answer reply call translated is =
      let loads = call.loads in
      let same : call.ended.request ≡ loads.under_way.request = loads.request in
      let answered = subst (Served loads.row loads.under_way loads.was_there loads.walks call.offers) (sym loads.answered) (served loads.row loads.under_way loads.was_there loads.walks call.offers) in
      let told = subst (λ (r : Request). translation_by old.memory r.asked.address r.asked.kind call.ended.answer ≡ translated) same is in
      let mine_now = given loads.row loads.under_way loads.was_there loads.walks call.offers call.ended.answer answered translated told in
      subst (λ (r : Request). IsAnswered ioatc.SURE old.driver id r.asked.address r.asked.kind (translations_of old.iommu) translated (translations_of new.iommu)) (sym same)
      (subst (λ n. IsAnswered ioatc.SURE old.driver n loads.under_way.request.asked.address loads.under_way.request.asked.kind (translations_of old.iommu) translated (translations_of new.iommu))
      (is_mine loads.row loads.under_way loads.was_there loads.walks call.offers) mine_now)

  -- THE LOAD, by what is told of it
  goes_on : new.memory ≡ old.memory → LoadsMore old.memory old.iommu rows id new.iommu new_rows → SteppedInvariant new new_rows events
  goes_on memory more =
      let loads = more.loads in
      by_walk loads.row loads.under_way loads.was_there loads.walks more.offers loads.walk loads.made loads.after
      (subst (Served loads.row loads.under_way loads.was_there loads.walks more.offers) (sym loads.made) (served loads.row loads.under_way loads.was_there loads.walks more.offers)) memory more.rest

  ends_so : (reply : Reply) → EndsAtLoad old.memory old.iommu rows id reply new.memory new.iommu new_rows → SteppedInvariant new new_rows events
  ends_so reply call = by reply call.replied
    where
      row : WalkRow
      row = call.loads.row

      under_way : UnderWay
      under_way = call.loads.under_way

      access : Request → Access
      access request = access_of request.asked.address call.ended.len request.asked.kind row.bytes

      told : Request → Result Translation WalkFault
      told request = translation_by old.memory request.asked.address request.asked.kind call.ended.answer

      kept_so : KeepsAttached (attachment_by_id old.driver.devices id) id (contexts_of old.iommu) (contexts_of new.iommu)
      kept_so = keeps row under_way call.loads.was_there call.loads.walks call.offers

      idle : RowsStand old.driver old.memory walks new_rows
      idle = left_idle row under_way call.loads.was_there call.loads.walks call.offers call.loads.after

      by : (reply : Reply) → Replies old.memory old.iommu id (access call.ended.request) (told call.ended.request) reply new.memory new.iommu → SteppedInvariant new new_rows events
      by (Accepted number) accepts =
          let now = accepted old new events id invariants own driver devices fabric kept_so stays_ready below (access call.ended.request) (told call.ended.request) number accepts
          (ended_answer reply call (Ok accepts.translation) accepts.is) in
          (walks, now, rows_still laws.driven old new events walks invariants.started (leaves_all old.driver new.driver old.memory new.memory driver accepts.memory_stays) now new_rows idle)
      by (Fault cause) records =
          let unchanged = (ended_answer reply call (Err records.fault) records.is).1 in
          let now = recorded old new events id invariants own driver devices fabric kept_so reported (access call.ended.request) (told call.ended.request) cause records unchanged in
          let else_same = (reported old.memory new.memory (registers_of old.iommu) (registers_of new.iommu) _ records.answer invariants.ready invariants.started records.recorded).1 in (
            walks,
            now,
            rows_still laws.driven old new events walks invariants.started
                (leaves_said old.driver new.driver old.memory new.memory driver else_same.size
                (recorded_leaves old.memory new.memory (registers_of old.iommu) (registers_of new.iommu) invariants.ready.stand else_same)) now new_rows idle,
          )
      by Busy never = absurd never
      by BadSpan never = absurd never

  pub loads_keep : (load : Load) → LoadsNext old.memory old.iommu rows id load new.memory new.iommu new_rows → SteppedInvariant new new_rows events
  loads_keep Nothing (none, (memory, iommu, rows_stay)) =
      let same : new ≡ old = parts_are new old.memory old.iommu old.driver old.devices old.fabric memory iommu driver devices fabric in
      subst (λ parts. SteppedInvariant parts new_rows events) (sym same) (subst (λ rs. SteppedInvariant old rs events) (sym rows_stay) (walks, invariants, stand))
  loads_keep Loaded (memory, more) = goes_on memory more
  loads_keep (Ended reply) call = ends_so reply call
