-- When rows show what was claimed.
use Rattle.std.specs.Prelude.{◌≡◌, ◌↔◌, ℕ, ◌<◌, ◌≤◌, false, List, Contains}
use Rattle.iom_ledger.specs.History.{History, confirms}
use Rattle.iom_claims.specs.declared.grant.Grant.{Grant}
use Rattle.iom_claims.specs.declared.grant.OpenClaim.{OpenClaim}
use Rattle.iom_claims.specs.Claimed.{Claimed, IsHeld, IsOpen}
use Rattle.iom_claims.specs.Rows.{Rows, has_mark}

-- a row for each page that is held, and no other
abbrev pub AreHeldGrants : List Grant → History → Type 0
AreHeldGrants rows history = (grant : Grant) → Contains rows grant ↔ IsHeld history grant

-- a row for each claim that is open, and no other; each has a number of its own, and that was given
pub record AreClaims (rows : List OpenClaim) (history : History) (last : ℕ) : Type 0 where
  pub opens : (claim : OpenClaim) → Contains rows claim ↔ IsOpen history claim
  pub single : (one other : OpenClaim) → Contains rows one → Contains rows other → one.number ≡ other.number → one ≡ other
  pub given : (claim : OpenClaim) → Contains rows claim → claim.number ≤ last

-- no number that is still to be given is confirmed
abbrev pub AreUnused : History → ℕ → Type 0
AreUnused history last = (number : ℕ) → last < number → confirms history number ≡ false

-- the rows show what was claimed
pub record ShowsClaimed (rows : Rows) (claimed : Claimed) : Type 0 where
  pub holds : AreHeldGrants rows.held claimed.history
  pub lingers : AreClaims rows.claims claimed.history claimed.last
  pub unused : AreUnused claimed.history claimed.last
  pub counted : rows.last ≡ claimed.last
  pub marked : (frame : ℕ) → has_mark rows frame ≡ claimed.handed_on frame
