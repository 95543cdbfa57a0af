use Rattle.std.proofs.Common.{List, sym, subst}
use Rattle.std.specs.List.{All}
use Rattle.iom_fabric.specs.declared.fabric.OnLink.{OnLink}
use Rattle.iom_board.specs.BoardParts.{board_parts}
use Rattle.iom_board.specs.Invariant.{IsMessageOf}
use Rattle.iom_board.proofs.Sent.{messages_left}
use Rattle.iom_board.proofs.SoundThen.{fabric_sound}
use Rattle.iom_board.proofs.board.Board.drop_message.Goals as goal

pub returns-clause-invariants : goal.returns-clause-invariants
returns-clause-invariants c =
    let h = c.args.self.now in
    fabric_sound (board_parts h) c.drop.new.self h.events c.requires.invariants
    (subst (λ (f : List OnLink). All (IsMessageOf h.devices.items) f) (sym c.drop.ensures.rest) (messages_left h.devices.items h.fabric c.args.place c.requires.invariants.askers))
