use Rattle.std.proofs.Common.{◌≡◌, ◌+◌, ◌∙◌, suc, drop, sym, ap, arith, Some, true, false}
use Rattle.std.proofs.lemmas.Option.{get_or_from_slice_get}
use Rattle.iom_inflight.specs.Flights.{FlightRow, first_busy, has_access}
use Rattle.iom_inflight.proofs.Rows.{get_there, busy_here, busy_later, busy_past}
use Rattle.iom_inflight.proofs.in_flight.first_busy_in.Goals as goal

pub returns-then-has_access : goal.returns-then-has_access
returns-then-has_access c =
    let there = get_there c.args.rows.now c.loop-place.place c.loop-place-test.true in
    let same = c.index-rows-place.is ∙ get_or_from_slice_get c.args.rows.now c.loop-place.place there.0 c.index-rows-place.result there.1 in
    let again = c.index-rows-place-then-has_access.is ∙ get_or_from_slice_get c.args.rows.now c.loop-place.place there.0 c.index-rows-place-then-has_access.result there.1 in
    let busy : has_access there.0.waiting ≡ true = sym (c.has_access.ensures ∙ ap (λ (r : FlightRow). has_access r.waiting) same) ∙ c.if-has_access.true in
    let named = ap Some (c.device.ensures ∙ ap (λ (r : FlightRow). r.device) again) in
    named ∙ sym (busy_here c.args.rows.now c.loop-place.place there.0 there.1 busy) ∙ c.loop-place.invariant

pub loop-place-preserved : goal.loop-place-preserved
loop-place-preserved c =
    let there = get_there c.args.rows.now c.loop-place.place c.loop-place-test.true in
    let same = c.index-rows-place.is ∙ get_or_from_slice_get c.args.rows.now c.loop-place.place there.0 c.index-rows-place.result there.1 in
    let idle : has_access there.0.waiting ≡ false = sym (c.has_access.ensures ∙ ap (λ (r : FlightRow). has_access r.waiting) same) ∙ c.if-has_access.false in
    let next : suc c.loop-place.place ≡ c.loop-place.place + 1 = omega arith in
    ap (λ k. first_busy (drop k c.args.rows.now)) (sym next) ∙ sym (busy_later c.args.rows.now c.loop-place.place there.0 there.1 idle) ∙ c.loop-place.invariant

pub returns : goal.returns
returns c = sym (busy_past c.args.rows.now c.loop-place.place (omega arith)) ∙ c.loop-place.invariant
