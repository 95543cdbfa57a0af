use Rattle.std.proofs.Common.{find, sym, ap, ◌∙◌, subst}
use Rattle.std.specs.Option.{option_map}
use Rattle.iom_claims.specs.Rows.{is_numbered, grant_of}
use Rattle.iom_claims.specs.Shown.{ShowsClaimed}
use Rattle.iom_claims.proofs.RowLemmas.{open_is}
use Rattle.iom_claims.proofs.claims.Claims.open_claim.Goals as goal

pub returns : goal.returns
returns c claimed shows grant =
    let inside = subst (λ rows. ShowsClaimed rows claimed) (sym c.self.view_is) shows in
    let found = c.withdrawn_by.ensures ∙ ap (λ rows. option_map grant_of (find (is_numbered c.args.number) rows)) c.deref.ensures.value in
    let is = open_is c.self.inside.claims.items claimed.history claimed.last inside.lingers c.args.number grant in
    ((λ some. is.0 (sym found ∙ some)), (λ lingers. found ∙ is.1 lingers))
