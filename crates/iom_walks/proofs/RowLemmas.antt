-- What a load leaves of a row, by what is inside it.
use Rattle.std.proofs.Common.{◌≡◌, ◌∙◌, ℕ, List, length, Option, Some, None, option_map, sym, ap, subst}
use Rattle.iom_stepped_requests.specs.Serving.{Serves, load}
use Rattle.iom_stepped_requests.specs.Standing.{request_of, still_serving}
use Rattle.iom_stepped_requests.specs.declared.request.Answer.{Answer}
use Rattle.iom_stepped_requests.specs.declared.request.Request.{Request}
use Rattle.iom_stepped_requests.specs.declared.walk.RequestWalk.{RequestWalk}
use Rattle.iom_stepped_requests.specs.declared.walk.Serving.{Serving}
use Rattle.iom_stepped_requests.specs.declared.walk.Serving.TheVariants.{GoesOn, Served}
use Rattle.iom_tlb.specs.Content.{Translations}
use Rattle.iom_walks.specs.Invariant.{IsOfRequest}
use Rattle.iom_walks.specs.Rows.{RowEnds, RowGoesOn, serving_by, under_way_by}
use Rattle.iom_walks.specs.Walks.{UnderWay, WalkRow}
use Rattle.iom_walks.specs.declared.outcome.Answered.{Answered}
use Rattle.iom_walks.specs.declared.standing.Standing.{Standing}

module _ (memory : List (List ℕ)) (cached : Translations) (device : ℕ) (bytes : List ℕ) (inside : Option Standing) (standing : Standing) (there : inside ≡ Some standing) (old : WalkRow)
    (view : ◌≡◌ {A = WalkRow} (record { device = device; under_way = option_map under_way_by inside; bytes = bytes }) old) (serving : Serving)
    (made : still_serving (length memory) serving ≡ load memory cached (still_serving (length memory) (serving_by standing.walk standing.served)))
    (of_request : IsOfRequest (request_of standing.walk) serving) where
  abbrev own : UnderWay
  own = under_way_by standing

  shown : ◌≡◌ {A = WalkRow} (record { device = device; under_way = Some own; bytes = bytes }) old
  shown = ap (λ (s : Option Standing). record { device = device; under_way = option_map under_way_by s; bytes = bytes }) (sym there) ∙ view

  walks : old.under_way ≡ Some own
  walks = ap (λ (r : WalkRow). r.under_way) (sym shown)

  -- it goes on
  pub row_goes_on : (walk : RequestWalk) → serving ≡ GoesOn walk
      → RowGoesOn memory cached old (record { device = device; under_way = Some (under_way_by (record { walk = walk; served = None; len = standing.len })); bytes = bytes })
  row_goes_on walk is =
      let same : request_of walk ≡ request_of standing.walk = subst (IsOfRequest (request_of standing.walk)) is of_request in
      let after = ap (λ (r : Request). record { device = device; under_way = Some (record { request = r; serving = GoesOn walk; len = standing.len }); bytes = bytes }) same
      ∙ ap (λ (r : WalkRow). record r { under_way = Some (record { request = request_of standing.walk; serving = GoesOn walk; len = standing.len }) }) shown in
      record {
        under_way = own;
        walks = walks;
        walk = walk;
        of_request = same;
        made = ap (still_serving (length memory)) (sym is) ∙ made;
        after = after;
      }

  -- it ends
  pub row_ends : (answer : Answer) (ended : Answered) → serving ≡ Served answer → ended.request ≡ request_of standing.walk → ended.len ≡ standing.len → ended.answer ≡ answer
      → RowEnds memory cached old ended (record { device = device; under_way = None; bytes = bytes })
  row_ends answer ended is request len told = record {
    under_way = own;
    walks = walks;
    request = request;
    len = len;
    answered = ap Serves told ∙ ap (still_serving (length memory)) (sym is) ∙ made;
    after = ap (λ (r : WalkRow). record r { under_way = None }) shown;
  }
