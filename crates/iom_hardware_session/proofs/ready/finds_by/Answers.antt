use Rattle.std.proofs.Common.{◌∙◌, Some, None, ap}
use Rattle.iom_board.specs.BoardParts.{board_parts}
use Rattle.iom_hardware_session.proofs.ReadyLemmas.{finds_led}
use Rattle.iom_hardware_session.specs.declared.answer.Found.TheVariants.{Walk}
use Rattle.iom_hardware_session.proofs.ready.finds_by.Goals as goal

pub returns-in-Some : goal.returns-in-Some
returns-in-Some c =
    finds_led c.args.napot (board_parts c.args.hardware.now) c.args.device c.args.page c.args.kind c.request_at.result c.found_from_root.result (Some c.in-Some.led)
    c.by_walk.result c.if-not-napot.false c.request_at.ensures c.in-Some.is c.found_from_root.ensures (c.by_walk.ensures ∙ ap Walk c.from.ensures)

pub returns-in-None : goal.returns-in-None
returns-in-None c =
    finds_led c.args.napot (board_parts c.args.hardware.now) c.args.device c.args.page c.args.kind c.request_at.result c.found_from_root.result None
    c.request_finds-in-None.result c.if-not-napot.false c.request_at.ensures c.in-None.is c.found_from_root.ensures c.request_finds-in-None.ensures
