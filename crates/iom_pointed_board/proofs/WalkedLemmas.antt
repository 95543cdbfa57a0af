-- The tables that a request walks are those of its one context.
use Rattle.std.proofs.Common.{◌≡◌, ◌∙◌, Some, sym, ap}
use Rattle.iom_board.specs.BoardParts.{BoardParts}
use Rattle.iom_device_dir.specs.declared.context.Context.{Context}
use Rattle.iom_iommu.specs.Stages.{space_through}
use Rattle.iom_pointed_board.specs.Roots.{root_in}
use Rattle.iom_pointed_board.specs.Starts.{Walks}
use Rattle.iom_stepped_requests.specs.declared.request.Request.{Request}
use Rattle.iom_stepped_walk.specs.declared.hand.TableInHand.{TableInHand}
use Rattle.iom_tlb.specs.declared.space.Space.{Space}

some_is : {X : Type 0} (x y : X) → Some x ≡ Some y → x ≡ y
some_is x y e = cc

pub one_walked : (parts : BoardParts) (request : Request) (own its : Space) (root first : TableInHand) → Walks parts request own root → Walks parts request its first
    → (own ≡ its) × (root ≡ first)
one_walked parts request own its root first walks goes = (
  some_is own its (sym walks.space ∙ ap (λ (c : Context). space_through c.first_stage c.second_stage c) same ∙ goes.space),
  some_is root first (sym walks.root_is ∙ ap (λ (c : Context). root_in c request.asked.address) same ∙ goes.root_is),
)
  where
    same : walks.context ≡ goes.context
    same = some_is walks.context goes.context (sym walks.found ∙ goes.found)
