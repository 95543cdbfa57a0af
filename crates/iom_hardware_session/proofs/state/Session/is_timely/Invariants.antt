use Rattle.std.proofs.Common.{◌≡◌, ◌<◌, ℕ, Some, slice_get}
use Rattle.iom_fabric.specs.declared.fabric.OnLink.{OnLink}
use Rattle.iom_board.specs.BoardParts.{board_parts}
use Rattle.iom_hardware_session.specs.Timely.{IsTimelyMessage}
use Rattle.iom_hardware_session.proofs.state.Session.is_timely.Given as goal

-- the messages so far
abbrev pub invariant-loop-place : goal.invariant-loop-place
invariant-loop-place l = (k : ℕ) (on : OnLink) → k < l.place → slice_get l.self.hardware.board.fabric k ≡ Some on → IsTimelyMessage (board_parts l.self.hardware.board) on
