use Rattle.std.proofs.Common.{◌≡◌, ◌+◌, ◌∙◌, suc, length, drop, ap, arith}
use Rattle.std.proofs.lemmas.Option.{get_or_from_slice_get}
use Rattle.iom_inflight.specs.Flights.{FlightRow, count_all}
use Rattle.iom_inflight.proofs.Rows.{get_there, count_from, count_past}
use Rattle.iom_inflight.proofs.in_flight.count_in_rows.Goals as goal

pub loop-place-preserved : goal.loop-place-preserved
loop-place-preserved c =
    let there = get_there c.args.rows.now c.loop-place.place c.loop-place-test.true in
    let same = c.index-rows-place.is ∙ get_or_from_slice_get c.args.rows.now c.loop-place.place there.0 c.index-rows-place.result there.1 in
    let found = c.count-total.ensures.count ∙ ap (λ (r : FlightRow). length r.waiting) same in
    let next : suc c.loop-place.place ≡ c.loop-place.place + 1 = omega arith in
    let step =
    count_from c.args.rows.now c.loop-place.place there.0 there.1
    ∙ ap (λ k. length there.0.waiting + count_all (drop k c.args.rows.now)) next in
    (omega (arith, found, step, c.loop-place.invariant.0), omega (arith, c.count-total.ensures.few, c.loop-place.invariant.1))

pub returns : goal.returns
returns c =
    let none = count_past c.args.rows.now c.loop-place.place (omega arith) in
    record { count = omega (arith, none, c.loop-place.invariant.0); few = omega (arith, c.loop-place.invariant.1) }
