use Rattle.std.proofs.Common.{find, sym, ap, ◌∙◌, subst}
use Rattle.iom_claims.specs.Rows.{claim_is_on}
use Rattle.iom_claims.specs.Shown.{ShowsClaimed}
use Rattle.iom_claims.proofs.RowLemmas.{lingering_is, none_lingering_is}
use Rattle.iom_claims.proofs.claims.Claims.lingering_on.Goals as goal

pub returns-clause-open : goal.returns-clause-open
returns-clause-open c claimed shows =
    let inside = subst (λ rows. ShowsClaimed rows claimed) (sym c.self.view_is) shows in
    lingering_is c.self.inside.claims.items claimed.history claimed.last inside.lingers c.args.frame c.copied.result
    (c.copied.ensures ∙ c.claim_on.ensures ∙ ap (find (claim_is_on c.args.frame)) c.deref.ensures.value)

pub returns-clause-none : goal.returns-clause-none
returns-clause-none c claimed shows =
    let inside = subst (λ rows. ShowsClaimed rows claimed) (sym c.self.view_is) shows in
    none_lingering_is c.self.inside.claims.items claimed.history claimed.last inside.lingers c.args.frame c.copied.result
    (c.copied.ensures ∙ c.claim_on.ensures ∙ ap (find (claim_is_on c.args.frame)) c.deref.ensures.value)
