use Rattle.std.proofs.Common.{◌∙◌, ℕ, false, get_or, sym, ap, arith, inl, inr}
use Rattle.std.proofs.lemmas.Bool.Decides.{eqb_tells}
use Rattle.std.proofs.lemmas.Option.{get_or_from_slice_get}
use Rattle.iom_driver.specs.declared.device.Device.{Device}
use Rattle.iom_driver.specs.Devices.{detached}
use Rattle.iom_driver.proofs.Lists.{get_there}
use Rattle.iom_driver.proofs.Places.{absent, place_is}
use Rattle.iom_driver.proofs.lookups.place_of.Goals as goal

pub returns-then-devices-k : goal.returns-then-devices-k
returns-then-devices-k c =
    let found = get_there c.args.devices.now c.loop-k.k c.loop-k-test.true in
    let read = get_or_from_slice_get c.args.devices.now c.loop-k.k found.0 (detached 0 false) found.1 in
    place_is c.args.devices.now c.args.id c.loop-k.k found.0 found.1 (ap (λ (d : Device). d.id) (sym read) ∙ c.if-devices-k.true) c.loop-k.invariant

pub loop-k-preserved : goal.loop-k-preserved
loop-k-preserved c = λ j other lt at same. elim (eqb_tells j c.loop-k.k) [
  | inl e ↦
      let here = get_or_from_slice_get c.args.devices.now j other (detached 0 false) at in
      let read = ap (λ (k : ℕ). get_or c.args.devices.now k (detached 0 false)) e.1 in
      c.if-devices-k.false (ap (λ (d : Device). d.id) (sym read ∙ here) ∙ same)
  | inr ne ↦ c.loop-k.invariant j other (omega (arith, ne.1)) at same
]

pub returns : goal.returns
returns c = absent c.args.devices.now c.args.id (λ k other lt at. c.loop-k.invariant k other (omega arith) at)
