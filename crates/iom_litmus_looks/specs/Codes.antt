-- How the logic stores what a place has of an IOMMU: the facts that it carries have one proof each.
use Rattle.std.specs.Prelude.{ℕ, List}
use Rattle.std.specs.Coded.{Coded, prop_coded}
use Rattle.iom_inflight.specs.Flights.{FlightRow}
use Rattle.iom_inflight.specs.Invariant.{AreRowsIn}
use Rattle.iom_inflight.specs.IsFact.{rows_in_prop}
use Rattle.iom_iommu.specs.Cached.{AreTranslationsIn, translations_in_prop}
use Rattle.iom_tlb.specs.Content.{Translations}

abbrev pub rows_coded : (frames : ℕ) (rows : List FlightRow) → Coded (AreRowsIn frames rows)
rows_coded frames rows = prop_coded (rows_in_prop frames rows)

abbrev pub translations_coded : (frames : ℕ) (translations : Translations) → Coded (AreTranslationsIn frames translations)
translations_coded frames translations = prop_coded (translations_in_prop frames translations)
