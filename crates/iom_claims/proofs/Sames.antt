-- When grants are equal, and claims, and rows.
use Rattle.std.proofs.Common.{◌≡◌, ◌∙◌, ℕ, List, ap, arith}
use Rattle.std.specs.Bool.{Decides}
use Rattle.std.proofs.lemmas.Grind.{common_steps}
use Rattle.iom_claims.specs.contracts.grant.GrantPartialEq.TheImpl as grant
use Rattle.iom_claims.specs.contracts.grant.OpenClaimPartialEq.TheImpl as open_claim
use Rattle.iom_claims.specs.declared.grant.Grant.{Grant}
use Rattle.iom_claims.specs.declared.grant.OpenClaim.{OpenClaim}
use Rattle.iom_claims.specs.Rows.{Rows}

-- `==` of grants tells whether they are
pub grant_decides : (a b : Grant) → Decides (grant.ghosts.eq a b) (a ≡ b)
grant_decides a b = grind (arith, common_steps)

-- `==` of claims does
pub claim_decides : (a b : OpenClaim) → Decides (open_claim.ghosts.eq a b) (a ≡ b)
claim_decides a b = grind (arith, common_steps)

pub same_rows : (one other : Rows) → one.held ≡ other.held → one.claims ≡ other.claims → one.handed_on ≡ other.handed_on → one.last ≡ other.last → one ≡ other
same_rows one other held claims frames last =
    ap (λ (l : List Grant). record one { held = l }) held ∙ ap (λ (l : List OpenClaim). record other { claims = l; handed_on = one.handed_on; last = one.last }) claims
    ∙ ap (λ (l : List ℕ). record other { handed_on = l; last = one.last }) frames ∙ ap (λ (n : ℕ). record other { last = n }) last
