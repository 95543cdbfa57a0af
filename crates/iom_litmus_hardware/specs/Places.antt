-- What hardware under a driver is, for a litmus test: what later answers can depend on.
use Rattle.std.specs.Prelude.{◌≡◌, ℕ, List}
use Rattle.iom_claims.specs.Rows.{Rows}
use Rattle.iom_hardware_session.specs.declared.beside.Beside.TheVariants.{Nothing}
use Rattle.iom_hardware_session.specs.declared.state.Session.{Session}
use Rattle.iom_hardware_session.specs.declared.watched.Watched.{Watched}
use Rattle.iom_litmus_looks.specs.Places.{HardwarePlace, hardware_place, ids_of}

-- The board, what is claimed of it, who is trusted, and what is watched. What is inside block devices isn't part of it, since their lines aren't for tests; nor is
-- where a survey was made last.
pub record SessionPlace : Type 0 where
  pub hardware : HardwarePlace
  pub claims : Rows
  pub trusted : List ℕ
  pub watched : List Watched

abbrev pub place_of : Session → SessionPlace
place_of session = record {
  hardware = hardware_place session.hardware.board;
  claims = session.claims;
  trusted = session.trusted.items;
  watched = session.watched.items;
}

-- each walk of the session's hardware is one event, from the root. Places don't say what is under way, nor which pointers are cached, so they are compared of such
-- sessions alone
abbrev pub IsWhole : Session → Type 0
IsWhole session = session.beside ≡ Nothing

-- the same, with the ids of the devices
pub record Tested : Type 0 where
  pub place : SessionPlace
  pub ids : List ℕ

abbrev pub AreListed : Tested → Type 0
AreListed tested = tested.ids ≡ ids_of tested.place.hardware.devices
