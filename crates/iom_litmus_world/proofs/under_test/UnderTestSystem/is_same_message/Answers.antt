use Rattle.std.specs.Prelude.{◌↔◌, IsTrue}
use Rattle.std.proofs.Common.{◌∙◌, List, ap, subst}
use Rattle.iom_fabric.specs.declared.fabric.OnLink.{OnLink}
use Rattle.iom_hardware.specs.declared.hardware.Hardware.{Hardware}
use Rattle.iom_litmus_looks.specs.Looks.{AreEqualMessages}
use Rattle.iom_litmus_world.specs.Places.{Tested}
use Rattle.iom_litmus_world.proofs.under_test.UnderTestSystem.is_same_message.Goals as goal

pub returns : goal.returns
returns g c =
    subst (λ (messages : List OnLink). IsTrue c.is_same_message.result ↔ AreEqualMessages messages c.args.place c.args.other)
    (c.messages.ensures ∙ ap (λ (h : Hardware _ _). h.board.fabric) c.hardware.ensures ∙ ap (λ (t : Tested). t.place.hardware.messages) c.self.view_is)
    c.is_same_message.ensures
