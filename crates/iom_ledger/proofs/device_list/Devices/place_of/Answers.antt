use Rattle.std.proofs.Common.{◌∙◌, ℕ, Some, get_or, sym, ap, arith, inl, inr}
use Rattle.std.proofs.lemmas.Bool.Decides.{eqb_tells}
use Rattle.std.proofs.lemmas.Option.{slice_get-get_or, get_or_from_slice_get}
use Rattle.iom_ledger.specs.declared.device_list.DevicePages.{DevicePages}
use Rattle.iom_ledger.proofs.Places.{absent, place_is}
use Rattle.iom_ledger.proofs.device_list.Devices.place_of.Goals as goal

pub returns-then-index-device : goal.returns-then-index-device
returns-then-index-device c =
    place_is c.args.self.now.list.items c.args.device c.loop-k.k c.index.result.now
    (slice_get-get_or c.args.self.now.list.items c.loop-k.k c.index.result.now (omega arith) ∙ ap Some (sym c.index.ensures)) c.if-index-device.true c.loop-k.invariant

pub loop-k-preserved : goal.loop-k-preserved
loop-k-preserved c = λ j other lt at same. elim (eqb_tells j c.loop-k.k) [
  | inl e ↦
      let here = get_or_from_slice_get c.args.self.now.list.items j other c.index.result.now at in
      let read = c.index.ensures ∙ ap (λ (k : ℕ). get_or c.args.self.now.list.items k c.index.result.now) (sym e.1) ∙ here in
      c.if-index-device.false (ap (λ (d : DevicePages). d.device) read ∙ same)
  | inr ne ↦ c.loop-k.invariant j other (omega (arith, ne.1)) at same
]

pub returns : goal.returns
returns c = absent c.args.self.now.list.items c.args.device (λ k other lt at. c.loop-k.invariant k other (omega arith) at)
