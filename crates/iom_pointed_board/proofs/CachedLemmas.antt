-- What is cached of a page, place by place.
use Rattle.std.proofs.Common.{◌≡◌, ℕ, ◌<◌, false, is_some, List, Option, None, Some, if◌then◌else◌, refl, sym, ap}
use Rattle.iom_base.specs.Rights.{allows}
use Rattle.iom_base.specs.declared.access.AccessKind.{AccessKind}
use Rattle.iom_iommu.specs.Service.{cached_for}
use Rattle.iom_tlb.specs.Places.{IsCachedAt, HavePlaces}
use Rattle.iom_tlb.specs.Ways.{Ways, content_of_sets}
use Rattle.iom_tlb.specs.declared.cached_page.CachedPage.{CachedPage}
use Rattle.iom_tlb.specs.declared.space.Space.{Space}
use Rattle.iom_tlb.specs.declared.trans_cache.Translation.{Translation}

-- where nothing that stands at a place is it
pub none_served : (sets : List Ways) (space : Space) (page : ℕ) (kind : AccessKind) → HavePlaces sets
    → ((k : ℕ) → k < 512 → (own : CachedPage) → IsCachedAt sets k own → own.space ≡ space → own.page ≡ page → allows own.translation.rights kind ≡ false)
    → None ≡ cached_for (content_of_sets sets (space, page)) kind
none_served sets space page kind places none = by (content_of_sets sets (space, page)) refl
  where
    by : (found : Option Translation) → content_of_sets sets (space, page) ≡ found → None ≡ cached_for found kind
    by None e = refl
    by (Some own) e =
        let cached : CachedPage = record { space = space; page = page; translation = own } in
        let (k, low, stands) = places cached e in
        ap (λ b. if b then Some own else None) (sym (none k low cached stands refl refl))

-- nothing is found
pub none_found : (found : Option Translation) → is_some found ≡ false → found ≡ None
none_found None is = refl
none_found (Some own) is = absurd (cc)
