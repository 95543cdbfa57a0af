use Rattle.iom_board.specs.BoardParts.{board_parts}
use Rattle.iom_pointed_board.proofs.BeginLemmas.{found_by, found_none}
use Rattle.iom_pointed_board.proofs.start.found_from_root.Goals as goal

pub returns-in_err-root : goal.returns-in_err-root
returns-in_err-root c = found_none (board_parts c.args.hardware.now) c.args.request c.from_residual.result c.from_residual.ensures c.in_err-root.ensures.none

pub returns : goal.returns
returns c =
    found_by (board_parts c.args.hardware.now) c.args.request c.in_ok-root.field-0-0 c.in_ok-root.root c.in_ok-root.ensures.some c.lead.result
    c.lead.ensures.some c.lead.ensures.none
