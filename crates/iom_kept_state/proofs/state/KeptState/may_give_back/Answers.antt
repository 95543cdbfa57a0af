use Rattle.std.proofs.Common.{◌↔◌, ◌∙◌, Option, Some, IsTrue, ap, sym, subst}
use Rattle.iom_base.specs.declared.owner.Owner.{Owner}
use Rattle.iom_machine.specs.Returning.{MayGiveBackOf}
use Rattle.iom_kept_state.specs.States.{state_of}
use Rattle.iom_kept_state.proofs.state.KeptState.may_give_back.Goals as goal

pub returns-in-Some-OneDevice : goal.returns-in-Some-OneDevice
returns-in-Some-OneDevice c h past =
    let owner = ap (λ (o : Owner). Some o) (sym c.in-Some-OneDevice.field-0-is) ∙ c.in-Some-OneDevice.ensures in
    let decides = subst (λ (o : Option Owner). IsTrue c.device_may_give_back.result ↔ MayGiveBackOf (state_of c.args.self.now h) o) owner (c.device_may_give_back.ensures h past) in (
      (λ yes. (c.if-self.false, decides.0 yes)),
      (λ may. decides.1 may.1),
    )
