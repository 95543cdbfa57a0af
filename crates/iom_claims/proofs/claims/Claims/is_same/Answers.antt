-- Claims are equal where each of their parts is.
use Rattle.std.proofs.Common.{◌≡◌, ◌∙◌, sym, ap}
use Rattle.iom_claims.specs.Rows.{Rows}
use Rattle.iom_claims.proofs.Sames.{same_rows}
use Rattle.iom_claims.proofs.claims.Claims.is_same.Goals as goal

pub returns : goal.returns
returns c =
    let held : c.self.inside.held.items ≡ c.other.inside.held.items =
    sym c.deref.ensures.value ∙ c.are_same_grants.ensures.0 c.if-not-are_same_grants.false ∙ c.deref-2.ensures.value in
    let frames : c.self.inside.handed_on.keys ≡ c.other.inside.handed_on.keys = c.are_same_frames.ensures.0 c.if-not-are_same_frames.false in (
      λ is.
          let claims : c.self.inside.claims.items ≡ c.other.inside.claims.items = sym c.deref-3.ensures.value ∙ c.are_same_claims.ensures.0 is ∙ c.deref-4.ensures.value in
          sym c.self.view_is ∙ same_rows _ _ held claims frames c.if-self-other.false ∙ c.other.view_is,
      λ same.
          let claims : c.self.inside.claims.items ≡ c.other.inside.claims.items = ap (λ (rows : Rows). rows.claims) (c.self.view_is ∙ same ∙ sym c.other.view_is) in
          c.are_same_claims.ensures.1 (c.deref-3.ensures.value ∙ claims ∙ sym c.deref-4.ensures.value),
    )
