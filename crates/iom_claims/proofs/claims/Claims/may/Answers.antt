use Rattle.std.proofs.Common.{inl, inr, refl, sym, ap, ◌∙◌, subst}
use Rattle.std.specs.List.{list_any}
use Rattle.std.proofs.lemmas.Bool.{false≢true}
use Rattle.iom_claims.specs.Rows.{lets, claim_lets}
use Rattle.iom_claims.specs.Shown.{ShowsClaimed}
use Rattle.iom_claims.proofs.RowLemmas.{may_by_grant, may_by_claim, row_from_may}
use Rattle.iom_claims.proofs.claims.Claims.may.Goals as goal

pub returns-then-some_grant_lets : goal.returns-then-some_grant_lets
returns-then-some_grant_lets c claimed shows =
    let inside = subst (λ rows. ShowsClaimed rows claimed) (sym c.self.view_is) shows in
    let by_rows = c.some_grant_lets.ensures ∙ ap (list_any (lets c.args.device c.args.frame c.args.kind)) c.deref.ensures.value in (
      (λ yes. may_by_grant c.self.inside.held.items claimed.history inside.holds c.args.device c.args.frame c.args.kind (sym by_rows ∙ c.if-some_grant_lets.true)),
      (λ reaches. refl),
    )

pub returns : goal.returns
returns c claimed shows =
    let inside = subst (λ rows. ShowsClaimed rows claimed) (sym c.self.view_is) shows in
    let by_rows = c.some_grant_lets.ensures ∙ ap (list_any (lets c.args.device c.args.frame c.args.kind)) c.deref.ensures.value in
    let by_claims = c.some_claim_lets.ensures ∙ ap (list_any (claim_lets c.args.device c.args.frame c.args.kind)) c.deref-2.ensures.value in (
      (λ yes. may_by_claim c.self.inside.claims.items claimed.history claimed.last inside.lingers c.args.device c.args.frame c.args.kind (sym by_claims ∙ yes)),
      (λ reaches. elim (row_from_may c.self.inside.held.items c.self.inside.claims.items claimed.history claimed.last inside.holds inside.lingers c.args.device c.args.frame c.args.kind reaches) [
        | inl any ↦ absurd (false≢true (sym c.if-some_grant_lets.false ∙ by_rows ∙ any))
        | inr any ↦ by_claims ∙ any
      ]),
    )
