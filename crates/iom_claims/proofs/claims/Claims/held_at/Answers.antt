use Rattle.std.proofs.Common.{find, sym, ap, ◌∙◌, subst}
use Rattle.std.specs.Option.{option_map}
use Rattle.iom_claims.specs.Rows.{is_at, pair_of}
use Rattle.iom_claims.specs.Shown.{ShowsClaimed}
use Rattle.iom_claims.proofs.RowLemmas.{held_is}
use Rattle.iom_claims.proofs.claims.Claims.held_at.Goals as goal

pub returns : goal.returns
returns c claimed shows =
    let inside = subst (λ rows. ShowsClaimed rows claimed) (sym c.self.view_is) shows in
    c.pair_at.ensures ∙ ap (λ rows. option_map pair_of (find (is_at c.args.device c.args.page) rows)) c.deref.ensures.value
    ∙ held_is c.self.inside.held.items claimed.history inside.holds c.args.device c.args.page
