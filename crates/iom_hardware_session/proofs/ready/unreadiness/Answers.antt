use Rattle.std.proofs.Common.{◌≡◌, true}
use Rattle.iom_base.specs.Rights.{allows}
use Rattle.iom_board.specs.BoardParts.{board_parts}
use Rattle.iom_hardware_session.specs.Ready.{FindsFrame}
use Rattle.iom_hardware_session.proofs.ReadyLemmas.{of_both_kinds}
use Rattle.iom_hardware_session.proofs.ready.unreadiness.Goals as goal

pub returns-clause-none : goal.returns-clause-none
returns-clause-none c =
    of_both_kinds (λ kind. allows c.args.rights kind ≡ true → FindsFrame c.args.napot (board_parts c.args.hardware.now) c.args.device c.args.page c.args.frame kind) c.in_default.ensures.none
    c.in_default-writes.ensures.none
