-- What a driver has claimed.
use Rattle.std.specs.Prelude.{ℕ, ◌+◌, Bool, false, [], ◌∷◌, Contains, nat_eq, if◌then◌else◌}
use Rattle.iom_ledger.specs.declared.entry.HistoryEntry.TheVariants.{Granted, Released, Confirmed}
use Rattle.iom_ledger.specs.History.{History, Holds, lingering_at}
use Rattle.iom_claims.specs.declared.grant.Grant.{Grant}
use Rattle.iom_claims.specs.declared.grant.OpenClaim.{OpenClaim}

-- the history, its newest entry first; whether a frame is handed on; the number of the last claim, 0 before the first
pub record Claimed : Type 0 where
  pub history : History
  pub handed_on : ℕ → Bool
  pub last : ℕ

-- nothing is claimed
abbrev pub nothing_claimed : Claimed
nothing_claimed = record { history = []; handed_on = λ frame. false; last = 0 }

-- the device holds the frame at the page, with the right
abbrev pub IsHeld : History → Grant → Type 0
IsHeld history grant = Holds history grant.device grant.page (grant.frame, grant.rights)

-- it held that and withdrew it, under a number that isn't confirmed
abbrev pub IsOpen : History → OpenClaim → Type 0
IsOpen history claim = Contains (lingering_at history claim.grant.device claim.grant.page) (claim.number, (claim.grant.frame, claim.grant.rights))

-- the marks, where this frame's is the one given
abbrev pub with_mark : ℕ → Bool → (ℕ → Bool) → ℕ → Bool
with_mark frame mark before other = if nat_eq frame other then mark else before other

-- the device may reach the frame from now on, and the frame is handed on no more
abbrev pub after_grant : Grant → Claimed → Claimed
after_grant grant before = record {
  history = Granted grant.device grant.page grant.frame grant.rights ∷ before.history;
  handed_on = with_mark grant.frame false before.handed_on;
  last = before.last;
}

-- what the device holds at the page is withdrawn, under the next number
abbrev pub after_release : ℕ → ℕ → Claimed → Claimed
after_release device page before = record {
  history = Released device page (before.last + 1) ∷ before.history;
  handed_on = before.handed_on;
  last = before.last + 1;
}

-- the claim is done
abbrev pub after_done : ℕ → Claimed → Claimed
after_done number before = record {
  history = Confirmed number ∷ before.history;
  handed_on = before.handed_on;
  last = before.last;
}

-- the frame is handed on, or, with the mark cleared, taken
abbrev pub after_mark : ℕ → Bool → Claimed → Claimed
after_mark frame mark before = record {
  history = before.history;
  handed_on = with_mark frame mark before.handed_on;
  last = before.last;
}
