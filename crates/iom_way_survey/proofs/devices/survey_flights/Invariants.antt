use Rattle.std.proofs.Common.{◌<◌, ℕ}
use Rattle.iom_inflight.specs.Flights.{row_of, waiting_at}
use Rattle.iom_iommu.specs.Parts.{flights_of}
use Rattle.iom_table_survey.specs.Reaches.{AddsReach}
use Rattle.iom_way_survey.specs.Found.{IsThatAccess}
use Rattle.iom_way_survey.proofs.devices.survey_flights.Given as goal

-- the accesses before this one are looked at
abbrev pub invariant-loop-place : goal.invariant-loop-place
invariant-loop-place l = AddsReach l.fn.reach l.reach (λ kind f. (k : ℕ) × (k < l.place) × IsThatAccess (waiting_at (row_of (flights_of l.hardware.iommu).rows l.device.id) k) kind f)
