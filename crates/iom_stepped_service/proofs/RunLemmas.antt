-- A request and all its loads, with nothing else between them: what its loads keep, one after another, and what it is answered at the end.
use Rattle.std.proofs.Common.{◌≡◌, ◌∙◌, ◌+◌, ◌<◌, ◌≤◌, ◌≢◌, inl, inr, ℕ, zero, suc, Bool, true, false, List, length, Option, None, Some, IsSome, is_some, Result, Ok, Err, if◌then◌else◌, refl, sym, ap, subst, arith}
use Rattle.std.proofs.lemmas.Bool.Decides.{eqb_tells}
use Rattle.iom_base.specs.declared.access.Access.{Access}
use Rattle.iom_base.specs.declared.access.AccessKind.{AccessKind}
use Rattle.iom_base.specs.declared.cause.Cause.{Cause}
use Rattle.iom_device_dir.specs.Cached.{cached_contexts}
use Rattle.iom_device_dir.specs.Contents.{Content, IsSameContent, KeepsOne}
use Rattle.iom_device_dir.specs.declared.cache.DirCache.{DirCache}
use Rattle.iom_device_dir.specs.declared.context.Context.{Context}
use Rattle.iom_iommu.specs.OwnIommu.{Iommu}
use Rattle.iom_iommu.specs.Parts.{IommuParts, contexts_of, iommu_parts, translations_of}
use Rattle.iom_iommu.specs.Requests.{access_of}
use Rattle.iom_iommu.specs.Stepped.{EndsAtLoad, LoadsMore, Replies, translation_by}
use Rattle.iom_iommu.specs.declared.reply.Reply.{Reply}
use Rattle.iom_stepped_requests.proofs.KeepingLemmas.{loads_keep_of_the_run}
use Rattle.iom_stepped_requests.proofs.WholeLemmas.{loads_are_of_the_walk}
use Rattle.iom_stepped_requests.specs.Keeping.{Keeping, keeping, with_kept}
use Rattle.iom_stepped_requests.specs.Serving.{Remaining, Serves, Locates, Translates, by_stages, in_directory, in_tables, kept, kept_in_directory, kept_in_tables, load, looked_up, space_of}
use Rattle.iom_stepped_requests.specs.Standing.{stands, still_serving}
use Rattle.iom_stepped_requests.specs.Whole.{walk_on}
use Rattle.iom_stepped_requests.specs.declared.request.Answer.{Answer}
use Rattle.iom_stepped_requests.specs.declared.request.Kept.{Kept}
use Rattle.iom_stepped_requests.specs.declared.request.Kept.TheVariants as kept_as
use Rattle.iom_stepped_requests.specs.declared.request.Request.{Request}
use Rattle.iom_stepped_requests.specs.declared.walk.RequestWalk.{RequestWalk}
use Rattle.iom_stepped_requests.specs.declared.walk.RequestWalk.TheVariants.{InDirectory, InTables}
use Rattle.iom_stepped_requests.specs.declared.walk.Serving.{Serving}
use Rattle.iom_stepped_requests.specs.declared.walk.Serving.TheVariants.{GoesOn, Served}
use Rattle.iom_stepped_walk.specs.Steps.{TableAnswer}
use Rattle.iom_tlb.specs.Content.{Translations, TranslationsUnchanged}
use Rattle.iom_tlb.specs.declared.space.Space.{Space}
use Rattle.iom_tlb.specs.Chosen.{Ioatc}
use Rattle.iom_tlb.specs.declared.trans_cache.Translation.{Translation}
use Rattle.iom_walk_loads.proofs.LoadLemmas.{made_load}
use Rattle.iom_walk_loads.specs.Loads.{Walk, Ends, ReadsEntry, ReadsContext, after_load, made_from}
use Rattle.iom_walk_stops.specs.Stages.{stages_of, walk_of}
use Rattle.iom_walk_stops.specs.declared.stages.Stages.{Stages}
use Rattle.iom_walks.proofs.Rows.{row_is_own, row_of_other, row_of_own}
use Rattle.iom_walks.specs.Caches.{OffersContext, OffersTranslation, to_keep}
use Rattle.iom_walks.specs.Calls.{row_going_on}
use Rattle.iom_walks.specs.Walks.{UnderWay, WalkRow, bytes_in, idle_row, row_of, under_way_in, under_way_of, with_row}
use Rattle.iom_stepped_service.specs.Runs.{LoadsToEnd, SameUnderWay}
use Rattle.iom_stepped_service.specs.Service.{KeepsContextIfAny, KeepsIfAny}

-- ROWS

-- the row that is put there is the device's
pub replaced_row : (rows : List WalkRow) (device : ℕ) (row own : WalkRow) → row_of rows device ≡ Some row → own.device ≡ row.device → row_of (with_row rows own) device ≡ Some own
replaced_row rows device row own at same =
    let named : own.device ≡ device = same ∙ row_is_own rows device row at in
    let there : IsSome (row_of rows own.device) = rw (named, at) refl in
    subst (λ d. row_of (with_row rows own) d ≡ Some own) named (row_of_own rows own there)

-- what is under way is what a load finds
same_under_way : (one other : UnderWay) (row : WalkRow) (found : Option WalkRow) → under_way_in found ≡ Some one → found ≡ Some row → row.under_way ≡ Some other → other ≡ one
same_under_way one other row found first is second =
    let both : Some other ≡ Some one = sym second ∙ sym (ap under_way_in is) ∙ first in cc

-- one that stands there isn't served
no_answer : (frames : ℕ) (walk : RequestWalk) (answer : Answer) → stands frames walk ≡ Serves answer → ⊥
no_answer frames (InDirectory request anew walk) answer is = cc
no_answer frames (InTables request context translated walk) answer is = cc

-- ONE LOAD is one of the run
still_made : (memory : List (List ℕ)) (cached : Translations) (serving : Serving)
    → made_from memory (walk_on (length memory) cached (load memory cached (still_serving (length memory) serving)))
    ≡ made_from memory (walk_on (length memory) cached (still_serving (length memory) serving))
still_made memory cached (GoesOn walk) =
    ap (made_from memory) (loads_are_of_the_walk memory cached walk) ∙ made_load memory (walk_on (length memory) cached (stands (length memory) walk))
still_made memory cached (Served answer) = refl

still_keeping : (memory : List (List ℕ)) (cached : Translations) (serving : Serving)
    → with_kept (kept memory (still_serving (length memory) serving)) (keeping memory cached (load memory cached (still_serving (length memory) serving)))
    ≡ keeping memory cached (still_serving (length memory) serving)
still_keeping memory cached (GoesOn walk) = loads_keep_of_the_run memory cached walk
still_keeping memory cached (Served answer) = refl

-- contexts that are the same at each id are the same
pub same_contexts : (old new : Content ℕ Context) → IsSameContent old new → new ≡ old
same_contexts old new same = λ i id. same id i

pub same_content : (old new : Translations) → TranslationsUnchanged old new → new ≡ old
same_content old new same = λ i key. same key i

-- WHAT IS KEPT AT LAST is what is kept of the one load, and then of the others
abbrev pub KeepsAll : Bool → Keeping → Content ℕ Context → Translations → Content ℕ Context → Translations → Type 0
KeepsAll sure all contexts cached new_contexts new_cached = KeepsContextIfAny contexts all.context new_contexts × KeepsIfAny sure cached all.translation new_cached

-- of the last load nothing is kept later
keeps_last : (sure : Bool) (found : Kept) (old new : DirCache) (cached new_cached : Translations) → OffersContext found old new → OffersTranslation sure found cached new_cached
    → KeepsAll sure (with_kept found (record { context = None; translation = None })) (cached_contexts old) cached (cached_contexts new) new_cached
keeps_last sure kept_as.Nothing old new cached new_cached same unchanged = ((λ id. ap (λ c. cached_contexts c id) same), unchanged)
keeps_last sure (kept_as.Context device context) old new cached new_cached keeps unchanged = (keeps.kept, unchanged)
keeps_last sure (kept_as.Translation space page translation) old new cached new_cached same keeps = ((λ id. ap (λ c. cached_contexts c id) same), keeps)

-- what a load that goes on keeps: a context after which none is kept, or nothing
abbrev GoesOnKeeping : Kept → Keeping → Type 0
GoesOnKeeping kept_as.Nothing later = Unit {0}
GoesOnKeeping (kept_as.Context device context) later = later.context ≡ None
GoesOnKeeping (kept_as.Translation space page translation) later = ⊥

keeps_then : (sure : Bool) (found : Kept) (later : Keeping) (old next : DirCache) (cached : Translations) (new_contexts : Content ℕ Context) (new_cached : Translations)
    → GoesOnKeeping found later → OffersContext found old next → KeepsAll sure later (cached_contexts next) cached new_contexts new_cached
    → KeepsAll sure (with_kept found later) (cached_contexts old) cached new_contexts new_cached
keeps_then sure kept_as.Nothing later old next cached new_contexts new_cached on same (contexts, translations) =
    (subst (λ c. KeepsContextIfAny (cached_contexts c) later.context new_contexts) same contexts, translations)
keeps_then sure (kept_as.Context device context) later old next cached new_contexts new_cached none keeps (contexts, translations) =
    let unchanged : IsSameContent (cached_contexts next) new_contexts = subst (λ k. KeepsContextIfAny (cached_contexts next) k new_contexts) none contexts in
    (subst (KeepsOne (cached_contexts old) device context) (sym (same_contexts (cached_contexts next) new_contexts unchanged)) keeps.kept, translations)
keeps_then sure (kept_as.Translation space page translation) later old next cached new_contexts new_cached on same keeps = absurd on

-- of one that stands in tables no context is kept later; and it stands there where its context was found
module _ (memory : List (List ℕ)) (cached : Translations) (walk : RequestWalk) where
  abbrev Later : Kept → Type 0
  Later found = GoesOnKeeping found (keeping memory cached (stands (length memory) walk))

  in_tables_later : (request : Request) (context : Context) (translated : Space) (rest : Walk TableAnswer) → stands (length memory) walk ≡ in_tables request context translated rest
      → Later (kept_in_tables request translated rest)
  in_tables_later request context translated (Ends (Ok walked)) is = absurd (no_answer (length memory) walk _ is)
  in_tables_later request context translated (Ends (Err fault)) is = tt
  in_tables_later request context translated (ReadsEntry address rest) is = tt
  in_tables_later request context translated (ReadsContext address rest) is = tt

  -- whatever it looks up
  by_stages_later : (request : Request) (context : Context) (found : Option Translation) (stages : Option Stages)
      → (keeping memory cached (by_stages (length memory) found request context stages)).context ≡ None
  by_stages_later request context found None = refl
  by_stages_later request context (Some translation) (Some stages) = refl
  by_stages_later request context None (Some stages) = by (walk_of (length memory) stages request.asked.address request.asked.kind)
    where
      by : (rest : Walk TableAnswer) → (keeping memory cached (in_tables request context (space_of context stages) rest)).context ≡ None
      by (Ends answer) = refl
      by (ReadsEntry address rest) = refl
      by (ReadsContext address rest) = refl

  in_directory_later : (request : Request) (anew : Bool) (rest : Walk (Result Context Cause)) → stands (length memory) walk ≡ in_directory (length memory) anew cached request rest
      → Later (kept_in_directory request rest)
  in_directory_later request anew (Ends (Ok context)) is =
      ap (λ (r : Remaining). (keeping memory cached r).context) is
      ∙ by_stages_later request context (looked_up anew cached request context) (stages_of context.first_stage context.second_stage)
  in_directory_later request anew (Ends (Err cause)) is = tt
  in_directory_later request anew (ReadsEntry address rest) is = tt
  in_directory_later request anew (ReadsContext address rest) is = tt

  goes_on_keeping : (remaining : Remaining) → stands (length memory) walk ≡ load memory cached remaining → Later (kept memory remaining)
  goes_on_keeping (Serves answer) is = tt
  goes_on_keeping (Locates request anew rest) is = in_directory_later request anew (after_load memory rest) is
  goes_on_keeping (Translates request context translated rest) is = in_tables_later request context translated (after_load memory rest) is

-- A LOAD THAT GOES ON keeps no translation
keeps_no_translation : (sure : Bool) (found : Kept) (later : Keeping) (cached new : Translations) → GoesOnKeeping found later → OffersTranslation sure found cached new
    → TranslationsUnchanged cached new
keeps_no_translation sure kept_as.Nothing later cached new on unchanged = unchanged
keeps_no_translation sure (kept_as.Context device context) later cached new on unchanged = unchanged
keeps_no_translation sure (kept_as.Translation space page translation) later cached new on keeps = absurd on

-- THE RUN: what it keeps, what it is answered, and what it leaves beside the caches, where this is under way
pub record IsRunOf (memory : List (List ℕ)) (old : Iommu) (rows : List WalkRow) (id : ℕ) (under_way : UnderWay) (bytes : List ℕ) (reply : Reply) (new_memory : List (List ℕ)) (new : Iommu)
    (new_rows : List WalkRow) : Type 0 where
  pub answer : Answer
  pub answered : answer ≡ made_from memory (walk_on (length memory) (translations_of old) (still_serving (length memory) under_way.serving))
  pub keeps : KeepsAll true (keeping memory (translations_of old) (still_serving (length memory) under_way.serving)) (contexts_of old) (translations_of old) (contexts_of new) (translations_of new)
  pub last : Iommu
  pub last_is : iommu_parts last ≡ record (iommu_parts old) { contexts = last.contexts; translations = last.translations }
  pub replied : Replies memory last id (access_of under_way.request.asked.address under_way.len under_way.request.asked.kind bytes)
      (translation_by memory under_way.request.asked.address under_way.request.asked.kind answer) reply new_memory new
  pub idle : under_way_of new_rows id ≡ None
  pub others : (other : ℕ) → other ≢ id → under_way_of new_rows other ≡ under_way_of rows other

module _ (memory new_memory : List (List ℕ)) (old new : Iommu) (rows new_rows : List WalkRow) (id : ℕ) (reply : Reply) where
  -- the last load
  ends : EndsAtLoad memory old rows id reply new_memory new new_rows → (under_way : UnderWay) → (bytes : List ℕ) → under_way_of rows id ≡ Some under_way → bytes_in (row_of rows id) ≡ bytes
      → IsRunOf memory old rows id under_way bytes reply new_memory new new_rows
  ends end under_way bytes walks bytes_are =
      let l = end.loads in
      let same : l.under_way ≡ under_way = same_under_way under_way l.under_way l.row (row_of rows id) walks l.was_there l.walks in
      let found : to_keep memory (under_way_of rows id) ≡ kept memory (still_serving (length memory) l.under_way.serving) = ap (to_keep memory) (ap under_way_in l.was_there ∙ l.walks) in
      let over : load memory (translations_of old) (still_serving (length memory) l.under_way.serving) ≡ Serves end.ended.answer = sym l.answered in
      let carried : l.row.bytes ≡ bytes = sym (ap bytes_in l.was_there) ∙ bytes_are in
      let keeps = keeps_last true (to_keep memory (under_way_of rows id)) old.contexts new.contexts (translations_of old) (translations_of new) end.offers.contexts end.offers.translations in
      subst (λ (u : UnderWay). IsRunOf memory old rows id u bytes reply new_memory new new_rows) same (record {
        answer = end.ended.answer;
        answered = ap (λ (r : Remaining). made_from memory (walk_on (length memory) (translations_of old) r)) l.answered ∙ still_made memory (translations_of old) l.under_way.serving;
        keeps = subst (λ all. KeepsAll true all (contexts_of old) (translations_of old) (contexts_of new) (translations_of new))
            (ap (λ k. with_kept k (record { context = None; translation = None })) found
            ∙ ap (λ (r : Remaining). with_kept (kept memory (still_serving (length memory) l.under_way.serving)) (keeping memory (translations_of old) r)) (sym over)
            ∙ still_keeping memory (translations_of old) l.under_way.serving) keeps;
        last = old;
        last_is = refl;
        replied = subst (λ (b : List ℕ). Replies memory old id (access_of l.under_way.request.asked.address l.under_way.len l.under_way.request.asked.kind b)
            (translation_by memory l.under_way.request.asked.address l.under_way.request.asked.kind end.ended.answer) reply new_memory new) carried
            (subst (λ (n : ℕ). Replies memory old id (access_of l.under_way.request.asked.address n l.under_way.request.asked.kind l.row.bytes)
            (translation_by memory l.under_way.request.asked.address l.under_way.request.asked.kind end.ended.answer) reply new_memory new) l.len
            (subst (λ (r : Request). Replies memory old id (access_of r.asked.address end.ended.len r.asked.kind l.row.bytes)
            (translation_by memory r.asked.address r.asked.kind end.ended.answer) reply new_memory new) l.request end.replied));
        idle = ap (λ rs. under_way_of rs id) l.after ∙ ap under_way_in (replaced_row rows id l.row (idle_row l.row) l.was_there refl);
        others = λ other ne. ap (λ rs. under_way_of rs other) l.after ∙ ap under_way_in (row_of_other rows (idle_row l.row) other (λ e. ne (e ∙ row_is_own rows id l.row l.was_there)));
      })

  -- one load more before the others
  goes_on : (next : Iommu) (next_rows : List WalkRow) → LoadsMore memory old rows id next next_rows → (under_way : UnderWay) → (bytes : List ℕ) → under_way_of rows id ≡ Some under_way
      → bytes_in (row_of rows id) ≡ bytes
      → ((later : UnderWay) → under_way_of next_rows id ≡ Some later → bytes_in (row_of next_rows id) ≡ bytes → IsRunOf memory next next_rows id later bytes reply new_memory new new_rows)
      → IsRunOf memory old rows id under_way bytes reply new_memory new new_rows
  goes_on next next_rows more under_way bytes walks bytes_are later =
      let l = more.loads in
      let same : l.under_way ≡ under_way = same_under_way under_way l.under_way l.row (row_of rows id) walks l.was_there l.walks in
      let rem = still_serving (length memory) l.under_way.serving in
      let found : to_keep memory (under_way_of rows id) ≡ kept memory rem = ap (to_keep memory) (ap under_way_in l.was_there ∙ l.walks) in
      let own = row_going_on l.row l.under_way l.walk in
      let there : row_of next_rows id ≡ Some own = ap (λ (rs : List WalkRow). row_of rs id) l.after ∙ replaced_row rows id l.row own l.was_there refl in
      let run = later (record l.under_way { serving = GoesOn l.walk }) (ap under_way_in there) (ap bytes_in there ∙ sym (ap bytes_in l.was_there) ∙ bytes_are) in
      let on = goes_on_keeping memory (translations_of old) l.walk rem l.made in
      let unchanged = keeps_no_translation true (kept memory rem) (keeping memory (translations_of old) (stands (length memory) l.walk)) (translations_of old) (translations_of next) on
      (subst (λ k. OffersTranslation true k (translations_of old) (translations_of next)) found more.offers.translations) in
      let e : translations_of next ≡ translations_of old = same_content (translations_of old) (translations_of next) unchanged in
      let keeps = subst (λ (c : Translations). KeepsAll true (keeping memory c (stands (length memory) l.walk)) (contexts_of next) c (contexts_of new) (translations_of new)) e run.keeps in
      subst (λ (u : UnderWay). IsRunOf memory old rows id u bytes reply new_memory new new_rows) same (record {
        answer = run.answer;
        answered = subst (λ (c : Translations). run.answer ≡ made_from memory (walk_on (length memory) c (stands (length memory) l.walk))) e run.answered
            ∙ ap (λ (r : Remaining). made_from memory (walk_on (length memory) (translations_of old) r)) l.made ∙ still_made memory (translations_of old) l.under_way.serving;
        keeps = subst (λ all. KeepsAll true all (contexts_of old) (translations_of old) (contexts_of new) (translations_of new))
            (ap (λ (r : Remaining). with_kept (kept memory rem) (keeping memory (translations_of old) r)) l.made ∙ still_keeping memory (translations_of old) l.under_way.serving)
            (keeps_then true (kept memory rem) (keeping memory (translations_of old) (stands (length memory) l.walk)) old.contexts next.contexts (translations_of old) (contexts_of new) (translations_of new)
            on (subst (λ k. OffersContext k old.contexts next.contexts) found more.offers.contexts) keeps);
        last = run.last;
        last_is = run.last_is ∙ ap (λ (p : IommuParts Ioatc). record p { contexts = run.last.contexts; translations = run.last.translations }) more.rest;
        replied = run.replied;
        idle = run.idle;
        others = λ other ne. run.others other ne ∙ ap (λ rs. under_way_of rs other) l.after ∙ ap under_way_in (row_of_other rows own other (λ e. ne (e ∙ row_is_own rows id l.row l.was_there)));
      })

-- ALL LOADS
pub runs : (more : ℕ) (memory new_memory : List (List ℕ)) (old new : Iommu) (rows new_rows : List WalkRow) (id : ℕ) (reply : Reply) (under_way : UnderWay) (bytes : List ℕ)
    → under_way_of rows id ≡ Some under_way → bytes_in (row_of rows id) ≡ bytes → LoadsToEnd more memory old rows id reply new_memory new new_rows
    → IsRunOf memory old rows id under_way bytes reply new_memory new new_rows
runs zero memory new_memory old new rows new_rows id reply under_way bytes walks bytes_are end = ends memory new_memory old new rows new_rows id reply end under_way bytes walks bytes_are
runs (suc more) memory new_memory old new rows new_rows id reply under_way bytes walks bytes_are (next, next_rows, loads, rest) =
    goes_on memory new_memory old new rows new_rows id reply next next_rows loads.1 under_way bytes walks bytes_are
    (λ later on bytes_on. runs more memory new_memory next new next_rows new_rows id reply later bytes on bytes_on rest)
