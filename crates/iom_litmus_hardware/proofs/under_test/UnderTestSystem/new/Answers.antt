use Rattle.std.proofs.Common.{◌∙◌, refl, ap}
use Rattle.iom_board.specs.declared.board.Board.{Board}
use Rattle.iom_litmus_looks.specs.Places.{ids_of}
use Rattle.iom_litmus_hardware.proofs.under_test.UnderTestSystem.new.Goals as goal

pub returns : goal.returns
returns c = (
  c.in_ok-session.session,
  c.in_ok-session.ensures.opened,
  refl,
  c.in_ok-ids.ensures ∙ ap ids_of (c.deref.ensures.value ∙ ap (λ (h : Board). h.devices.items) c.hardware.ensures),
)
