use Rattle.std.proofs.Common.{find, refl, sym, ap, ◌∙◌, subst}
use Rattle.std.specs.Option.{option_map}
use Rattle.std.proofs.lemmas.Bool.{false≢true}
use Rattle.iom_claims.specs.Rows.{is_numbered, grant_of}
use Rattle.iom_claims.specs.Shown.{ShowsClaimed}
use Rattle.iom_claims.proofs.RowLemmas.{open_is, claim_found}
use Rattle.iom_claims.proofs.ShowLemmas.{shows_done}
use Rattle.iom_claims.proofs.claims.Claims.done.Goals as goal

pub returns-in-None-clause-open : goal.returns-in-None-clause-open
returns-in-None-clause-open c claimed shows =
    let inside = subst (λ rows. ShowsClaimed rows claimed) (sym c.self.view_is) shows in
    let found = c.withdrawn_by.ensures ∙ ap (λ rows. option_map grant_of (find (is_numbered c.args.number) rows)) c.deref.ensures.value in (
      (λ other. absurd (false≢true other)),
      (λ (grant, lingers).
          let some = (open_is c.self.inside.claims.items claimed.history claimed.last inside.lingers c.args.number grant).1 lingers in
          let none = sym found ∙ c.in-None.is in
          cc),
    )

pub returns-in-Some-clause-done : goal.returns-in-Some-clause-done
returns-in-Some-clause-done c claimed shows =
    let inside = subst (λ rows. ShowsClaimed rows claimed) (sym c.self.view_is) shows in
    let found = c.withdrawn_by.ensures ∙ ap (λ rows. option_map grant_of (find (is_numbered c.args.number) rows)) c.deref.ensures.value in
    let (claim, at) = claim_found (find (is_numbered c.args.number) c.self.inside.claims.items) c.in-Some.field-0 (sym found ∙ c.in-Some.is) in
    shows_done _ _ claimed c.args.number claim inside at refl c.drop_claim.ensures refl refl

pub returns-in-Some-clause-open : goal.returns-in-Some-clause-open
returns-in-Some-clause-open c claimed shows =
    let inside = subst (λ rows. ShowsClaimed rows claimed) (sym c.self.view_is) shows in
    let found = c.withdrawn_by.ensures ∙ ap (λ rows. option_map grant_of (find (is_numbered c.args.number) rows)) c.deref.ensures.value in (
      (λ yes. (c.in-Some.field-0, (open_is c.self.inside.claims.items claimed.history claimed.last inside.lingers c.args.number c.in-Some.field-0).0 (sym found ∙ c.in-Some.is))),
      (λ lingers. refl),
    )
