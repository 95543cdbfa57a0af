-- IOMMUs whose parts are the same are one.
use Rattle.std.specs.Prelude.{◌≡◌}
use mathlib.Core.HLevel.{is_prop→PathP}
use Rattle.iom_inflight.specs.Invariant.{AreRowsIn}
use Rattle.iom_inflight.specs.IsFact.{rows_in_prop}
use Rattle.iom_tlb.specs.declared.trans_cache.TransCache.{Ghosts as Cache}
use Rattle.iom_iommu.specs.Cached.{AreTranslationsIn, translations_in_prop}
use Rattle.iom_iommu.specs.Parts.{registers_of, translation_cache_of, flights_of, fence_snapshot_of, waits_of, slots_of, frames_of}
use Rattle.iom_iommu.specs.declared.iommu.Iommu.{Iommu}

module _ {C : Type 0} {c : Cache C} (one other : Iommu C c) where
  pub record SameParts : Type 0 where
    pub registers : registers_of one ≡ registers_of other
    pub contexts : one.contexts ≡ other.contexts
    pub translations : translation_cache_of one ≡ translation_cache_of other
    pub flights : flights_of one ≡ flights_of other
    pub fence_snapshot : fence_snapshot_of one ≡ fence_snapshot_of other
    pub waits : waits_of one ≡ waits_of other
    pub slots : slots_of one ≡ slots_of other
    pub frames : frames_of one ≡ frames_of other

  pub one_iommu : SameParts → one ≡ other
  one_iommu s = λ i. record {
    registers = s.registers i;
    contexts = s.contexts i;
    translations = s.translations i;
    in_flight = s.flights i;
    fence_snapshot = s.fence_snapshot i;
    fence_waits = s.waits i;
    slots = s.slots i;
    frames = s.frames i;
    inside = is_prop→PathP (λ j. AreRowsIn (s.frames j) (s.flights j).rows) (λ j. rows_in_prop (s.frames j) (s.flights j).rows) one.inside other.inside i;
    cached = is_prop→PathP (λ j. AreTranslationsIn (s.frames j) (c.content (s.translations j))) (λ j. translations_in_prop (s.frames j) (c.content (s.translations j))) one.cached other.cached i;
  }
