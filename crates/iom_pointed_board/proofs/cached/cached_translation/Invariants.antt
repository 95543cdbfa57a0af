use Rattle.std.proofs.Common.{◌≡◌, ◌<◌, ℕ, false}
use Rattle.iom_base.specs.Rights.{allows}
use Rattle.iom_tlb.specs.Places.{IsCachedAt}
use Rattle.iom_tlb.specs.declared.cached_page.CachedPage.{CachedPage}
use Rattle.iom_pointed_board.proofs.cached.cached_translation.Given as goal

abbrev pub invariant-loop-place : goal.invariant-loop-place
invariant-loop-place l =
    (k : ℕ) → k < l.place → (own : CachedPage) → IsCachedAt l.cache k own → own.space ≡ l.space → own.page ≡ l.page → allows own.translation.rights l.kind ≡ false
