use Rattle.std.proofs.Common.{◌∙◌, refl, ap}
use Rattle.iom_hardware.specs.declared.hardware.Hardware.{Hardware}
use Rattle.iom_litmus_looks.specs.Places.{ids_of}
use Rattle.iom_litmus_world.proofs.under_test.UnderTestSystem.new.Goals as goal

pub returns : goal.returns
returns g c = (
  c.in_ok-world.world,
  c.in_ok-world.ensures,
  refl,
  c.in_ok-ids.ensures ∙ ap ids_of (c.deref.ensures.value ∙ ap (λ (h : Hardware _ _). h.board.devices.items) c.hardware.ensures),
)
