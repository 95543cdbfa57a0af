-- A request all of whose loads are made from one memory.
use Rattle.std.proofs.Common.{◌≡◌, ◌∙◌, ℕ, zero, suc, Bool, List, length, Option, Some, IsSome, Result, Ok, Err, refl, sym, ap, subst}
use Rattle.iom_base.specs.declared.cause.Cause.{Cause}
use Rattle.iom_device_dir.specs.declared.context.Context.{Context}
use Rattle.iom_stepped_requests.proofs.WholeLemmas.{loads_are_of_the_walk, requests_are_whole}
use Rattle.iom_stepped_requests.specs.Serving.{Remaining, Serves, Locates, Translates, begin, in_tables, kept, kept_in_directory, kept_in_tables, load}
use Rattle.iom_stepped_requests.specs.Standing.{stands, still_serving}
use Rattle.iom_stepped_requests.specs.Whole.{walk_on}
use Rattle.iom_stepped_requests.specs.declared.request.Answer.{Answer}
use Rattle.iom_stepped_requests.specs.declared.request.Request.{Request}
use Rattle.iom_stepped_requests.specs.declared.walk.RequestWalk.{RequestWalk}
use Rattle.iom_stepped_requests.specs.declared.walk.RequestWalk.TheVariants.{InDirectory, InTables}
use Rattle.iom_stepped_requests.specs.declared.walk.Serving.{Serving}
use Rattle.iom_stepped_requests.specs.declared.walk.Serving.TheVariants.{GoesOn, Served}
use Rattle.iom_stepped_walk.specs.Steps.{TableAnswer}
use Rattle.iom_tlb.specs.Content.{Translations, TranslationsUnchanged}
use Rattle.iom_tlb.specs.declared.space.Space.{Space}
use Rattle.iom_walk_loads.proofs.LoadLemmas.{made_load}
use Rattle.iom_walk_loads.specs.Loads.{Walk, Ends, ReadsEntry, ReadsContext, after_load, made_from}
use Rattle.iom_walks.proofs.CacheLemmas.{same_content}
use Rattle.iom_walks.proofs.Rows.{row_is_own, row_of_own}
use Rattle.iom_walks.specs.Caches.{OffersTranslation, to_keep}
use Rattle.iom_walks.specs.Calls.{LoadEnds, LoadGoesOn, StartsWalking, row_going_on, row_walking}
use Rattle.iom_walks.specs.Laws.{RunsAreWhole, RunsFrom, ServedAreWhole}
use Rattle.iom_walks.specs.Walks.{UnderWay, WalkRow, row_of, under_way_in, under_way_of, with_row}
use Rattle.iom_walks.specs.declared.outcome.Answered.{Answered}

-- the row that is put there is the device's
pub replaced_row : (rows : List WalkRow) (device : ℕ) (row own : WalkRow) → row_of rows device ≡ Some row → own.device ≡ row.device → row_of (with_row rows own) device ≡ Some own
replaced_row rows device row own at same =
    let named : own.device ≡ device = same ∙ row_is_own rows device row at in
    let there : IsSome (row_of rows own.device) = rw (named, at) refl in
    subst (λ d. row_of (with_row rows own) d ≡ Some own) named (row_of_own rows own there)

-- one load of a request makes what remains of it from the same memory no other
still_made : (memory : List (List ℕ)) (cached : Translations) (serving : Serving)
    → made_from memory (walk_on (length memory) cached (load memory cached (still_serving (length memory) serving)))
    ≡ made_from memory (walk_on (length memory) cached (still_serving (length memory) serving))
still_made memory cached (GoesOn walk) =
    ap (made_from memory) (loads_are_of_the_walk memory cached walk) ∙ made_load memory (walk_on (length memory) cached (stands (length memory) walk))
still_made memory cached (Served answer) = refl

-- one that stands there isn't served
pub no_answer : (frames : ℕ) (walk : RequestWalk) (answer : Answer) → stands frames walk ≡ Serves answer → ⊥
no_answer frames (InDirectory request anew walk) answer is = cc
no_answer frames (InTables request context translated walk) answer is = cc

module _ (sure : Bool) (cached new : Translations) (frames : ℕ) (walk : RequestWalk) where
  tables_keep_none : (request : Request) (context : Context) (translated : Space) (rest : Walk TableAnswer) → stands frames walk ≡ in_tables request context translated rest
      → OffersTranslation sure (kept_in_tables request translated rest) cached new → TranslationsUnchanged cached new
  tables_keep_none request context translated (Ends (Ok walked)) is offers = absurd (no_answer frames walk _ is)
  tables_keep_none request context translated (Ends (Err fault)) is offers = offers
  tables_keep_none request context translated (ReadsEntry address rest) is offers = offers
  tables_keep_none request context translated (ReadsContext address rest) is offers = offers

  directory_keeps_none : (request : Request) (rest : Walk (Result Context Cause)) → OffersTranslation sure (kept_in_directory request rest) cached new → TranslationsUnchanged cached new
  directory_keeps_none request (Ends (Ok context)) offers = offers
  directory_keeps_none request (Ends (Err cause)) offers = offers
  directory_keeps_none request (ReadsEntry address rest) offers = offers
  directory_keeps_none request (ReadsContext address rest) offers = offers

  -- a load that goes on keeps no translation
  goes_on_keeps_none : (memory : List (List ℕ)) (remaining : Remaining) → stands frames walk ≡ load memory cached remaining
      → OffersTranslation sure (kept memory remaining) cached new → TranslationsUnchanged cached new
  goes_on_keeps_none memory (Serves answer) is offers = offers
  goes_on_keeps_none memory (Locates request anew rest) is offers = directory_keeps_none request (after_load memory rest) offers
  goes_on_keeps_none memory (Translates request context translated rest) is offers = tables_keep_none request context translated (after_load memory rest) is offers

-- what is under way is what a load finds
pub same_under_way : (one other : UnderWay) (row : WalkRow) (found : Option WalkRow) → under_way_in found ≡ Some one → found ≡ Some row → row.under_way ≡ Some other → other ≡ one
same_under_way one other row found first is second =
    let both : Some other ≡ Some one = sym second ∙ sym (ap under_way_in is) ∙ first in cc

-- what a run is answered
record IsRunOf (request : Request) (len : ℕ) (answer : Answer) (ended : Answered) : Type 0 where
  pub of_request : ended.request ≡ request
  pub of_len : ended.len ≡ len
  pub of_answer : ended.answer ≡ answer

run_answers : (more : ℕ) (sure : Bool) (memory : List (List ℕ)) (device : ℕ) (rows : List WalkRow) (cached : Translations) (under_way : UnderWay) (ended : Answered) (new : List WalkRow)
    (new_cached : Translations) → under_way_of rows device ≡ Some under_way → RunsFrom more sure memory device rows cached ended new new_cached
    → IsRunOf under_way.request under_way.len (made_from memory (walk_on (length memory) cached (still_serving (length memory) under_way.serving))) ended
run_answers zero sure memory device rows cached under_way ended new new_cached walks run =
    let is : LoadEnds memory cached rows device ended new = run.loads in
    let same : is.under_way ≡ under_way = same_under_way under_way is.under_way is.row (row_of rows device) walks is.was_there is.walks in
    let made : ended.answer ≡ made_from memory (walk_on (length memory) cached (still_serving (length memory) is.under_way.serving)) =
    ap (λ (r : Remaining). made_from memory (walk_on (length memory) cached r)) is.answered ∙ still_made memory cached is.under_way.serving in
    record {
      of_request = is.request ∙ ap (λ (u : UnderWay). u.request) same;
      of_len = is.len ∙ ap (λ (u : UnderWay). u.len) same;
      of_answer = made ∙ ap (λ (u : UnderWay). made_from memory (walk_on (length memory) cached (still_serving (length memory) u.serving))) same;
    }
run_answers (suc more) sure memory device rows cached under_way ended new new_cached walks run =
    let next = run.0 in
    let is : LoadGoesOn memory cached rows device next = run.2.loads in
    let same : is.under_way ≡ under_way = same_under_way under_way is.under_way is.row (row_of rows device) walks is.was_there is.walks in
    let later : UnderWay = record is.under_way { serving = GoesOn is.walk } in
    let there : row_of next device ≡ Some (row_going_on is.row is.under_way is.walk) =
    ap (λ (rs : List WalkRow). row_of rs device) is.after ∙ replaced_row rows device is.row (row_going_on is.row is.under_way is.walk) is.was_there refl in
    let found : under_way_of rows device ≡ Some is.under_way = ap under_way_in is.was_there ∙ is.walks in
    let offers : OffersTranslation sure (kept memory (still_serving (length memory) is.under_way.serving)) cached run.1 =
    subst (λ (u : Option UnderWay). OffersTranslation sure (to_keep memory u) cached run.1) found run.2.offers in
    let unchanged : TranslationsUnchanged cached run.1 =
    goes_on_keeps_none sure cached run.1 (length memory) is.walk memory (still_serving (length memory) is.under_way.serving) is.made offers in
    let rest : RunsFrom more sure memory device next cached ended new new_cached =
    subst (λ (content : Translations). RunsFrom more sure memory device next content ended new new_cached) (same_content cached run.1 unchanged) run.3 in
    let runs = run_answers more sure memory device next cached later ended new new_cached (ap under_way_in there) rest in
    let made : made_from memory (walk_on (length memory) cached (stands (length memory) is.walk))
    ≡ made_from memory (walk_on (length memory) cached (still_serving (length memory) is.under_way.serving)) =
    ap (λ (r : Remaining). made_from memory (walk_on (length memory) cached r)) is.made ∙ still_made memory cached is.under_way.serving in
    record {
      of_request = runs.of_request ∙ ap (λ (u : UnderWay). u.request) same;
      of_len = runs.of_len ∙ ap (λ (u : UnderWay). u.len) same;
      of_answer =
          runs.of_answer ∙ made ∙ ap (λ (u : UnderWay). made_from memory (walk_on (length memory) cached (still_serving (length memory) u.serving))) same;
    }

pub runs_are_whole : RunsAreWhole
runs_are_whole sure memory ddtp context cached begun_cached new_cached request len bytes rows begun new more ended starts unchanged run =
    let is : StartsWalking rows request len bytes (λ frames. begin frames ddtp context cached request) begun = starts in
    let walking : WalkRow = row_walking is.row request len bytes is.walk in
    let there : row_of begun request.device ≡ Some walking =
    ap (λ (rs : List WalkRow). row_of rs request.device) is.after ∙ replaced_row rows request.device is.row walking is.was_there refl in
    let own_run : RunsFrom more sure memory request.device begun cached ended new new_cached =
    subst (λ (content : Translations). RunsFrom more sure memory request.device begun content ended new new_cached) (same_content cached begun_cached unchanged) run in
    let under_way : UnderWay = record { request = request; serving = GoesOn is.walk; len = len } in
    let runs = run_answers more sure memory request.device begun cached under_way ended new new_cached (ap under_way_in there) own_run in
    let made : made_from memory (walk_on (length memory) cached (begin (length memory) ddtp context cached request)) ≡ ended.answer =
    ap (λ (r : Remaining). made_from memory (walk_on (length memory) cached r)) (sym (is.has_begun (length memory))) ∙ sym runs.of_answer in
    (runs.of_request, runs.of_len, (requests_are_whole memory ddtp context cached request ended.answer).0 made)

pub served_are_whole : ServedAreWhole
served_are_whole memory ddtp context cached request len bytes rows new answer begins =
    let made : made_from memory (walk_on (length memory) cached (begin (length memory) ddtp context cached request)) ≡ answer =
    ap (λ (r : Remaining). made_from memory (walk_on (length memory) cached r)) (sym (begins.0 (length memory))) in
    (requests_are_whole memory ddtp context cached request answer).0 made
