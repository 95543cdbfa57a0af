use Rattle.std.proofs.Common.{◌≡◌, ◌<◌, ℕ, subst, arith}
use Rattle.iom_inflight.specs.Flights.{row_of, waiting_at}
use Rattle.iom_iommu.specs.Parts.{flights_of}
use Rattle.iom_table_survey.specs.Reaches.{AddsReach}
use Rattle.iom_table_survey.proofs.AddLemmas.{reach_none_yet, reach_next}
use Rattle.iom_way_survey.specs.Found.{IsThatAccess}
use Rattle.iom_way_survey.proofs.devices.survey_flights.Goals as goal

pub loop-place-init : goal.loop-place-init
loop-place-init c = reach_none_yet c.args.reach.now (λ k kind f. IsThatAccess (waiting_at (row_of (flights_of c.args.hardware.now.iommu).rows c.args.device.now.id) k) kind f)

pub loop-place-preserved : goal.loop-place-preserved
loop-place-preserved c =
    reach_next c.args.reach.now c.loop-place.reach c.survey_access.new.reach (λ k kind f. IsThatAccess (waiting_at (row_of (flights_of c.args.hardware.now.iommu).rows c.args.device.now.id) k) kind f)
    c.loop-place.place c.loop-place.invariant
    (subst (λ o. AddsReach c.loop-place.reach c.survey_access.new.reach (IsThatAccess o)) c.waiting_at.ensures c.survey_access.ensures)

pub returns : goal.returns
returns c =
    let last : c.loop-place.place ≡ 8 = omega arith in
    subst (λ (n : ℕ). AddsReach c.args.reach.now c.loop-place.reach (λ kind f. (k : ℕ) × (k < n) × IsThatAccess (waiting_at (row_of (flights_of c.args.hardware.now.iommu).rows c.args.device.now.id) k) kind f)) last c.loop-place.invariant
