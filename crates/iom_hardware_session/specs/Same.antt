-- When two sessions are equal, for whatever lines may still come that aren't of block devices.
use Rattle.std.specs.Prelude.{◌≡◌}
use Rattle.iom_board.specs.Same.{IsSameBoard}
use Rattle.iom_hardware_session.specs.declared.beside.Beside.TheVariants.{Nothing}
use Rattle.iom_hardware_session.specs.declared.state.Session.{Session}

-- Their boards are, what is claimed, who is trusted, and what is watched. What is inside block devices isn't asked: it is answered at the lines of block devices
-- alone. Nor is the survey: it is where ways are looked for, and keeps what was last looked at. Each look begins with nothing (`Survey::look` clears all rows
-- first), and no line reads it before it has looked itself. Sessions of hardware that keeps something beside, requests under way or pointers to tables, aren't compared.
pub record IsSameSession (one other : Session) : Type 0 where
  pub hardware : IsSameBoard one.hardware.board other.hardware.board
  pub beside : (one.beside ≡ Nothing) × (other.beside ≡ Nothing)
  pub claims : one.claims ≡ other.claims
  pub trusted : one.trusted.items ≡ other.trusted.items
  pub watched : one.watched.items ≡ other.watched.items
