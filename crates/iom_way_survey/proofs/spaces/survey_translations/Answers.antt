use Rattle.std.proofs.Common.{◌≡◌, ◌<◌, ℕ, Some, subst, arith}
use Rattle.iom_tlb.specs.declared.cached_page.CachedPage.{CachedPage}
use Rattle.iom_way_survey.specs.Found.{CachedLeadsTo, IsCachedIn}
use Rattle.iom_way_survey.proofs.StepLemmas.{Between, StandsServing, between_none, between_next, between_all, cached_by, stands_by}
use Rattle.iom_way_survey.proofs.spaces.survey_translations.Goals as goal

pub loop-place-init : goal.loop-place-init
loop-place-init c = between_none c.args.reach.now (StandsServing c.args.cache.now c.args.space) (IsCachedIn c.args.cache.now c.args.space)

pub loop-place-preserved : goal.loop-place-preserved
loop-place-preserved c =
    between_next c.args.reach.now c.loop-place.reach c.survey_page.new.reach (StandsServing c.args.cache.now c.args.space) (IsCachedIn c.args.cache.now c.args.space)
    (λ kind f. (own : CachedPage) × (c.page_at.result ≡ Some own) × CachedLeadsTo c.args.space own kind f) c.loop-place.place
    c.loop-place.invariant c.survey_page.ensures
    (stands_by c.args.cache.now c.args.space c.loop-place.place c.page_at.result c.page_at.ensures.stands)
    (cached_by c.args.cache.now c.args.space c.page_at.result c.page_at.ensures.cached)

pub returns : goal.returns
returns c =
    let last : c.loop-place.place ≡ 512 = omega arith in
    between_all c.args.reach.now c.loop-place.reach c.args.cache.now c.args.space c.facts.ensures
    (subst (λ (n : ℕ). Between c.args.reach.now c.loop-place.reach (λ kind f. (k : ℕ) × (k < n) × StandsServing c.args.cache.now c.args.space k kind f) (IsCachedIn c.args.cache.now c.args.space)) last c.loop-place.invariant)
