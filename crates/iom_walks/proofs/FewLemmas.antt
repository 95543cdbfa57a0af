-- How many loads of a request go on.
use Rattle.std.proofs.Common.{◌≡◌, ◌∙◌, ℕ, zero, suc, ◌<◌, ◌≤◌, List, length, None, Some, Result, refl, sym, ap, subst, inl, inr, arith}
use Rattle.iom_base.specs.declared.cause.Cause.{Cause}
use Rattle.iom_device_dir.specs.declared.context.Context.{Context}
use Rattle.iom_stepped_requests.proofs.BoundLemmas.{loads_take_away, requests_end}
use Rattle.iom_stepped_requests.specs.Serving.{Serves, load}
use Rattle.iom_stepped_requests.specs.Standing.{stands, still_serving}
use Rattle.iom_stepped_requests.specs.Whole.{ServedWithin, followed}
use Rattle.iom_stepped_requests.specs.declared.request.Answer.{Answer}
use Rattle.iom_stepped_requests.specs.declared.walk.RequestWalk.{RequestWalk}
use Rattle.iom_stepped_requests.specs.declared.walk.RequestWalk.TheVariants.{InDirectory, InTables}
use Rattle.iom_stepped_requests.specs.declared.walk.Serving.{Serving}
use Rattle.iom_stepped_requests.specs.declared.walk.Serving.TheVariants.{GoesOn, Served}
use Rattle.iom_stepped_walk.specs.declared.tables.TableWalk.TheVariants.{InFirstStage, InSecondStage, ToGuestEntry, InGuestTable, ToGuestPage}
use Rattle.iom_tlb.specs.Content.{Translations}
use Rattle.iom_walk_loads.specs.Directory.{directory_walk}
use Rattle.iom_walk_loads.specs.Loads.{Walk, EndsWithin}
use Rattle.iom_walks.proofs.RunLemmas.{no_answer, replaced_row, same_under_way}
use Rattle.iom_walks.specs.Calls.{LoadGoesOn, row_going_on}
use Rattle.iom_walks.specs.Laws.{FewGoOn, GoOn, HasJustBegun}
use Rattle.iom_walks.specs.Walks.{UnderWay, WalkRow, row_of, under_way_of}

-- ONE THAT STANDS THERE needs a load
directory_needs : {A : Type 0} (level page id : ℕ) (next : Result Context Cause → Walk A) → EndsWithin 0 (followed (directory_walk level page id) next) → ⊥
directory_needs zero page id next within = within
directory_needs (suc level) page id next within = within

needs_load : (frames : ℕ) (walk : RequestWalk) → ServedWithin 0 frames (stands frames walk) → ⊥
needs_load frames (InDirectory request anew walk) within = directory_needs walk.level walk.page.number walk.id _ (within (λ key. None))
needs_load frames (InTables request context translated (InFirstStage asked place)) within = within (λ key. None)
needs_load frames (InTables request context translated (InSecondStage asked place)) within = within (λ key. None)
needs_load frames (InTables request context translated (ToGuestEntry both entry place)) within = within (λ key. None)
needs_load frames (InTables request context translated (InGuestTable both entry frame)) within = within (λ key. None)
needs_load frames (InTables request context translated (ToGuestPage both page place)) within = within (λ key. None)

-- what a load leaves that goes on
record GoneOn (frames : ℕ) (under_way next : UnderWay) : Type 0 where
  pub memory : List (List ℕ)
  pub cached : Translations
  pub size : length memory ≡ frames
  pub walk : RequestWalk
  pub stands_there : next.serving ≡ GoesOn walk
  pub made : stands frames walk ≡ load memory cached (still_serving frames under_way.serving)

gone_on : (frames device : ℕ) (memory : List (List ℕ)) (cached : Translations) (old new : List WalkRow) (under_way next : UnderWay) → length memory ≡ frames
    → under_way_of old device ≡ Some under_way → LoadGoesOn memory cached old device new → under_way_of new device ≡ Some next → GoneOn frames under_way next
gone_on frames device memory cached old new under_way next size walks is later =
    let same : is.under_way ≡ under_way = same_under_way under_way is.under_way is.row (row_of old device) walks is.was_there is.walks in
    let own : WalkRow = row_going_on is.row is.under_way is.walk in
    let there : row_of new device ≡ Some own = ap (λ (rs : List WalkRow). row_of rs device) is.after ∙ replaced_row old device is.row own is.was_there refl in
    let then : UnderWay = record is.under_way { serving = GoesOn is.walk } in
    let is_next : then ≡ next = same_under_way next then own (row_of new device) later there refl in
    let at_size : stands frames is.walk ≡ load memory cached (still_serving frames is.under_way.serving) =
    subst (λ n. stands n is.walk ≡ load memory cached (still_serving n is.under_way.serving)) size is.made in
    record {
      memory = memory;
      cached = cached;
      size = size;
      walk = is.walk;
      stands_there = ap (λ (u : UnderWay). u.serving) (sym is_next);
      made = subst (λ (u : UnderWay). stands frames is.walk ≡ load memory cached (still_serving frames u.serving)) same at_size;
    }

-- one load less
one_less : (frames n : ℕ) (memory : List (List ℕ)) (cached : Translations) (walk : RequestWalk) → length memory ≡ frames → ServedWithin (suc n) frames (stands frames walk)
    → ServedWithin n frames (load memory cached (stands frames walk))
one_less frames n memory cached walk size =
    subst (λ f. ServedWithin (suc n) f (stands f walk) → ServedWithin n f (load memory cached (stands f walk))) size (loads_take_away memory cached walk n)

walk_goes_on : (more n frames device : ℕ) (under_way : UnderWay) (walk : RequestWalk) → under_way.serving ≡ GoesOn walk → ServedWithin n frames (stands frames walk)
    → GoOn more frames device under_way → more < n
walk_goes_on more zero frames device under_way walk at within goes = absurd (needs_load frames walk within)
walk_goes_on zero (suc n) frames device under_way walk at within goes = omega arith
walk_goes_on (suc more) (suc n) frames device under_way walk at within goes =
    let gone = gone_on frames device goes.0 goes.1 goes.2 goes.3 under_way goes.4 goes.5 goes.6 goes.7 goes.8 in
    let made : stands frames gone.walk ≡ load gone.memory gone.cached (stands frames walk) =
    subst (λ (s : Serving). stands frames gone.walk ≡ load gone.memory gone.cached (still_serving frames s)) at gone.made in
    let less : ServedWithin n frames (stands frames gone.walk) = subst (ServedWithin n frames) (sym made) (one_less frames n gone.memory gone.cached walk gone.size within) in
    let rest : more < n = walk_goes_on more n frames device goes.4 gone.walk gone.stands_there less goes.9 in
    omega arith

-- one that is served already makes none
served_goes_on : (more frames device : ℕ) (under_way : UnderWay) (answer : Answer) → under_way.serving ≡ Served answer → GoOn more frames device under_way → more ≡ 0
served_goes_on zero frames device under_way answer at goes = refl
served_goes_on (suc more) frames device under_way answer at goes =
    let gone = gone_on frames device goes.0 goes.1 goes.2 goes.3 under_way goes.4 goes.5 goes.6 goes.7 goes.8 in
    let made : stands frames gone.walk ≡ Serves answer =
    subst (λ (s : Serving). stands frames gone.walk ≡ load gone.memory gone.cached (still_serving frames s)) at gone.made in
    absurd (no_answer frames gone.walk answer made)

within_27 : (frames : ℕ) (under_way : UnderWay) → HasJustBegun frames under_way → ServedWithin 27 frames (still_serving frames under_way.serving)
within_27 frames under_way begun =
    let ends = requests_end frames begun.0 begun.1 begun.2 begun.3 in
    elim begun.4 [ inl is ↦ subst (ServedWithin 27 frames) (sym is) ends.0 | inr is ↦ subst (ServedWithin 27 frames) (sym is) ends.1 ]

by_serving : (more frames device : ℕ) (under_way : UnderWay) (serving : Serving) → under_way.serving ≡ serving → ServedWithin 27 frames (still_serving frames serving)
    → GoOn more frames device under_way → more ≤ 26
by_serving more frames device under_way (GoesOn walk) at within goes =
    let fewer : more < 27 = walk_goes_on more 27 frames device under_way walk at within goes in omega arith
by_serving more frames device under_way (Served answer) at within goes =
    let none : more ≡ 0 = served_goes_on more frames device under_way answer at goes in omega arith

pub few_go_on : FewGoOn
few_go_on more frames device under_way begun goes = by_serving more frames device under_way under_way.serving refl (within_27 frames under_way begun) goes
