-- What is in flight, by the IOMMU's rows.
use Rattle.std.specs.Prelude.{◌≡◌, ℕ, ⊤, List, [], ◌∷◌, map, flat_map}
use Rattle.iom_inflight.specs.Flights.{FlightRow}

-- no access of these rows is in flight
abbrev pub AreIdle : List FlightRow → Type 0
AreIdle [] = ⊤
AreIdle (row ∷ rows) = (row.waiting ≡ []) × AreIdle rows

-- whose accesses are in flight, row by row: its device once for each of them
abbrev pub waiting_by : List FlightRow → List ℕ
waiting_by rows = flat_map (λ row. map (λ access. row.device) row.waiting) rows
