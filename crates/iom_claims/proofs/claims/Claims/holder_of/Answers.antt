use Rattle.std.proofs.Common.{find, sym, ap, ◌∙◌, subst}
use Rattle.iom_claims.specs.Rows.{is_on}
use Rattle.iom_claims.specs.Shown.{ShowsClaimed}
use Rattle.iom_claims.proofs.RowLemmas.{holder_is, no_holder_is}
use Rattle.iom_claims.proofs.claims.Claims.holder_of.Goals as goal

pub returns-clause-held : goal.returns-clause-held
returns-clause-held c claimed shows =
    let inside = subst (λ rows. ShowsClaimed rows claimed) (sym c.self.view_is) shows in
    holder_is c.self.inside.held.items claimed.history inside.holds c.args.frame c.copied.result
    (c.copied.ensures ∙ c.grant_on.ensures ∙ ap (find (is_on c.args.frame)) c.deref.ensures.value)

pub returns-clause-none : goal.returns-clause-none
returns-clause-none c claimed shows =
    let inside = subst (λ rows. ShowsClaimed rows claimed) (sym c.self.view_is) shows in
    no_holder_is c.self.inside.held.items claimed.history inside.holds c.args.frame c.copied.result
    (c.copied.ensures ∙ c.grant_on.ensures ∙ ap (find (is_on c.args.frame)) c.deref.ensures.value)
