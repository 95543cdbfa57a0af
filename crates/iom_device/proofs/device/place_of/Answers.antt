use Rattle.std.proofs.Common.{◌∙◌, ℕ, get_or, sym, ap, arith, inl, inr}
use Rattle.std.proofs.lemmas.Bool.Decides.{eqb_tells}
use Rattle.std.proofs.lemmas.Option.{get_or_from_slice_get, slice_get-get_or}
use Rattle.iom_device.specs.declared.device.Device.{Device}
use Rattle.iom_device.proofs.CachePlaces.{no_place, place_is}
use Rattle.iom_device.proofs.device.place_of.Goals as goal

pub returns-then-devices-place : goal.returns-then-devices-place
returns-then-devices-place c =
    place_is c.args.devices.now c.args.id c.loop-place.place (get_or c.args.devices.now c.loop-place.place c.index-devices-place.result)
    (slice_get-get_or c.args.devices.now c.loop-place.place c.index-devices-place.result c.loop-place-test.true) c.if-devices-place.true c.loop-place.invariant

pub loop-place-preserved : goal.loop-place-preserved
loop-place-preserved c = λ j other lt at same. elim (eqb_tells j c.loop-place.place) [
  | inl e ↦
      let here = get_or_from_slice_get c.args.devices.now j other c.index-devices-place.result at in
      let read = ap (λ (k : ℕ). get_or c.args.devices.now k c.index-devices-place.result) e.1 in
      c.if-devices-place.false (ap (λ (d : Device). d.id) (sym read ∙ here) ∙ same)
  | inr ne ↦ c.loop-place.invariant j other (omega (arith, ne.1)) at same
]

pub returns : goal.returns
returns c = no_place c.args.devices.now c.args.id (λ k other lt at. c.loop-place.invariant k other (omega arith) at)
