-- What the rows keep: the grants that are held, the claims that aren't done, the frames that are handed on.
use Rattle.std.specs.Prelude.{◌≡◌, ℕ, Bool, not, ◌==◌, ◌&&◌, List, [], ◌∷◌, ◌++◌, filter, nat_eq}
use Rattle.std.specs.List.{list_any}
use Rattle.iom_base.specs.declared.access.AccessKind.{AccessKind}
use Rattle.iom_base.specs.Rights.{allows}
use Rattle.iom_ledger.specs.History.{Pair}
use Rattle.iom_claims.specs.declared.grant.Grant.{Grant}
use Rattle.iom_claims.specs.declared.grant.OpenClaim.{OpenClaim}

-- grants in the order in which they were made, claims in that of their numbers, and the last number that was given
pub record Rows : Type 0 where
  pub held : List Grant
  pub claims : List OpenClaim
  pub handed_on : List ℕ
  pub last : ℕ

-- whether the frame is handed on
abbrev pub has_mark : Rows → ℕ → Bool
has_mark rows frame = list_any (nat_eq frame) rows.handed_on

-- the frame of a grant, with the right to it
abbrev pub pair_of : Grant → Pair
pair_of grant = (grant.frame, grant.rights)

-- the grant that a claim withdrew
abbrev pub grant_of : OpenClaim → Grant
grant_of claim = claim.grant

-- whether the grant is of this page of the device
abbrev pub is_at : ℕ → ℕ → Grant → Bool
is_at device page grant = (device == grant.device) && (page == grant.page)

-- whether it is of the frame
abbrev pub is_on : ℕ → Grant → Bool
is_on frame grant = frame == grant.frame

-- whether it lets the device reach the frame by an access of this kind
abbrev pub lets : ℕ → ℕ → AccessKind → Grant → Bool
lets device frame kind grant = (device == grant.device) && ((frame == grant.frame) && allows grant.rights kind)

-- whether the claim has this number
abbrev pub is_numbered : ℕ → OpenClaim → Bool
is_numbered number claim = number == claim.number

-- whether it withdrew a grant of the frame
abbrev pub claim_is_on : ℕ → OpenClaim → Bool
claim_is_on frame claim = is_on frame claim.grant

-- whether it withdrew one that lets the device reach the frame by an access of this kind
abbrev pub claim_lets : ℕ → ℕ → AccessKind → OpenClaim → Bool
claim_lets device frame kind claim = lets device frame kind claim.grant

-- the grants, without those of this page of the device
abbrev pub without_page : ℕ → ℕ → List Grant → List Grant
without_page device page = filter (λ grant. not (is_at device page grant))

-- the claims, without those of this number
abbrev pub without_number : ℕ → List OpenClaim → List OpenClaim
without_number number = filter (λ claim. not (is_numbered number claim))

-- the grant is withdrawn under the number, which is the last then, and each other row stays
pub record Withdraws (old new : Rows) (grant : Grant) (number : ℕ) : Type 0 where
  pub held : new.held ≡ without_page grant.device grant.page old.held
  pub claims : new.claims ≡ old.claims ++ record { number = number; grant = grant } ∷ []
  pub handed_on : new.handed_on ≡ old.handed_on
  pub last : new.last ≡ number
