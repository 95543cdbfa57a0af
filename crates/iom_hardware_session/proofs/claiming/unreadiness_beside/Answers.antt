use Rattle.std.proofs.Common.{◌≡◌, true, IfNone, subst, sym}
use Rattle.iom_base.specs.Rights.{allows}
use Rattle.iom_base.specs.declared.access.AccessKind.{AccessKind}
use Rattle.iom_board.specs.BoardParts.{board_parts}
use Rattle.iom_hardware_session.specs.ReadyPointed.{PointersLead}
use Rattle.iom_hardware_session.specs.declared.beside.Beside.{Beside}
use Rattle.iom_hardware_session.proofs.claiming.unreadiness_beside.Goals as goal

pub returns-in-Pointers-clause-none : goal.returns-in-Pointers-clause-none
returns-in-Pointers-clause-none c =
    subst (λ (beside : Beside). IfNone c.unreadiness_ahead.result ((kind : AccessKind) → allows c.args.rights kind ≡ true
    → PointersLead beside (board_parts c.args.hardware.now) c.args.device c.args.page c.args.frame kind)) (sym c.in-Pointers.is) c.unreadiness_ahead.ensures.none
