use Rattle.std.proofs.Common.{◌∙◌, List, sym, ap}
use Rattle.iom_iommu.specs.Service.{cached_for}
use Rattle.iom_tlb.specs.Ways.{Ways, content_of_sets}
use Rattle.iom_pointed_board.proofs.CachedLemmas.{none_found}
use Rattle.iom_pointed_board.specs.Roots.{root_by}
use Rattle.iom_pointed_board.proofs.start.walked_by.Goals as goal

pub returns-clause-some : goal.returns-clause-some
returns-clause-some c =
    let space = c.space_of-space.result in
    let root = c.in_ok-root.root in
    let asked = c.args.request.asked in
    let stages = sym c.of.ensures ∙ c.in_ok-stages.was in
    let none = none_found c.cached_translation.result (sym c.is_some.ensures ∙ c.if-is_some.false) in record {
      context = c.in_ok-context.context;
      found = sym c.context_of.ensures ∙ c.in_ok-context.was;
      space = c.space_of-space.ensures stages;
      root_is = ap (λ s. root_by s asked.address) stages ∙ sym c.root_of.ensures.root ∙ c.in_ok-root.was;
      misses = ap (λ (sets : List Ways). cached_for (content_of_sets sets (space, root.page)) asked.kind) (sym c.translations.ensures)
          ∙ sym c.cached_translation.ensures ∙ none;
    }
