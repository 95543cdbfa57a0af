use Rattle.std.proofs.Common.{◌≡◌, ◌∙◌, Bool, true, false, List, Option, Some, None, is_some, if◌then◌else◌, refl, sym, subst, arith}
use Rattle.std.proofs.lemmas.Bool.{false≢true}
use Rattle.iom_driver.specs.declared.device.Device.{Device}
use Rattle.iom_driver.specs.Ready.{IsReady}
use Rattle.iom_driver.specs.StateOf.{state_of}
use Rattle.iom_driver.specs.Invariant.{StateInvariant}
use Rattle.iom_driver.proofs.Keeps.{sound_plugged}
use Rattle.iom_driver.proofs.Unchanged.{ready_plugged}
use Rattle.iom_driver.proofs.driver.Driver.plug.Goals as goal

-- what holds of both values that a test chooses between
by_test : {A : Type 0} (P : A → Type 0) (b : Bool) (x y z : A) → x ≡ (if b then y else z) → P y → P z → P x
by_test P true x y z is chosen other = subst P (sym is) chosen
by_test P false x y z is chosen other = subst P (sym is) other

absent_device : {A : Type 0} (o : Option A) → is_some o ≡ false → o ≡ None
absent_device None none = refl
absent_device (Some x) none = absurd (false≢true (sym none))

pub invariant_of-self : goal.invariant_of-self
invariant_of-self c =
    let driver = c.args.self.now in
    record {
      invariants = by_test (λ (devices : List Device). StateInvariant driver.ledger driver.owners devices driver.frames driver.levels driver.started driver.given driver.confirmed driver.restarts driver.restarted) _ _ _ _ c.push.ensures.items
          (sound_plugged driver.ledger driver.owners driver.devices.items driver.frames driver.levels driver.started driver.given driver.confirmed driver.restarts driver.restarted c.args.id c.args.trusted driver.invariants (sym c.device_of.ensures ∙ absent_device c.device_of.result (sym c.is_some.ensures ∙ c.if-is_some.false)) (omega arith))
          driver.invariants;
    }

pub returns-in-Ok-clause-ready : goal.returns-in-Ok-clause-ready
returns-in-Ok-clause-ready c = λ memory r ready.
    let d = state_of c.args.self.now in
    subst (λ (devices : List Device). IsReady (record d { devices = devices }) memory r) (sym c.in-Ok.ensures.items) (ready_plugged d memory r c.args.id c.args.trusted ready)
