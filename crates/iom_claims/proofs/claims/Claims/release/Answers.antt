use Rattle.std.proofs.Common.{◌≡◌, ◌⊎◌, inl, inr, ℕ, find, Result, Ok, Err, IfErr, is_some, refl, sym, ap, ◌∙◌}
use Rattle.std.proofs.lemmas.Bool.{false≢true}
use Rattle.iom_base.specs.declared.refusal.Refusal.{Refusal}
use Rattle.iom_base.specs.declared.refusal.Refusal.TheVariants.{NotGranted, TooManyPending, Memory}
use Rattle.iom_claims.specs.Rows.{Rows, is_at}
use Rattle.iom_claims.proofs.RowLemmas.{held_some, held_none}
use Rattle.iom_claims.proofs.ShowLemmas.{shows_released_if}
use Rattle.iom_claims.proofs.claims.Claims.release.Goals as goal

-- what is refused for want of a number or of memory isn't refused for want of a grant
another : (result : Result ℕ Refusal) → IfErr result (λ why. (why ≡ TooManyPending) ⊎ (why ≡ Memory)) → result ≡ Err NotGranted → ⊥
another (Ok number) refused is = cc
another (Err why) refused is =
    let own : why ≡ NotGranted = cc in
    elim refused [ inl full ↦ cc | inr room ↦ cc ]

pub returns-in-None-clause-not_granted : goal.returns-in-None-clause-not_granted
returns-in-None-clause-not_granted c claimed shows =
    let found = sym (ap (λ (rows : Rows). find (is_at c.args.device c.args.page) rows.held) c.self.view_is) ∙ sym (ap (find (is_at c.args.device c.args.page)) c.deref.ensures.value)
    ∙ sym c.grant_at.ensures ∙ sym c.copied.ensures ∙ c.in-None.is in
    ((λ same. held_none c.args.self.now.held claimed.history shows.holds c.args.device c.args.page found), (λ none. refl))

pub returns-in-None-clause-used_up : goal.returns-in-None-clause-used_up
returns-in-None-clause-used_up c claimed shows =
    let found = sym (ap (λ (rows : Rows). find (is_at c.args.device c.args.page) rows.held) c.self.view_is) ∙ sym (ap (find (is_at c.args.device c.args.page)) c.deref.ensures.value)
    ∙ sym c.grant_at.ensures ∙ sym c.copied.ensures ∙ c.in-None.is in
    let none = held_none c.args.self.now.held claimed.history shows.holds c.args.device c.args.page found in
    ((λ other. cc), (λ held. absurd (false≢true (sym (ap is_some none) ∙ held.0))))

pub returns-in-Some-clause-released : goal.returns-in-Some-clause-released
returns-in-Some-clause-released c claimed shows =
    let found = sym (ap (λ (rows : Rows). find (is_at c.args.device c.args.page) rows.held) c.self.view_is) ∙ sym (ap (find (is_at c.args.device c.args.page)) c.deref.ensures.value)
    ∙ sym c.grant_at.ensures ∙ sym c.copied.ensures ∙ c.in-Some.is in
    shows_released_if c.args.self.now c.withdraw.new.self claimed c.args.device c.args.page c.in-Some.grant c.withdraw.result shows found c.withdraw.ensures.number c.withdraw.ensures.rows

pub returns-in-Some-clause-not_granted : goal.returns-in-Some-clause-not_granted
returns-in-Some-clause-not_granted c claimed shows =
    let found = sym (ap (λ (rows : Rows). find (is_at c.args.device c.args.page) rows.held) c.self.view_is) ∙ sym (ap (find (is_at c.args.device c.args.page)) c.deref.ensures.value)
    ∙ sym c.grant_at.ensures ∙ sym c.copied.ensures ∙ c.in-Some.is in
    let held = held_some c.args.self.now.held claimed.history shows.holds c.args.device c.args.page c.in-Some.grant found in
    ((λ is. absurd (another c.withdraw.result c.withdraw.ensures.refused is)), (λ none. absurd (false≢true (sym (ap is_some none) ∙ ap is_some held))))

pub returns-in-Some-clause-used_up : goal.returns-in-Some-clause-used_up
returns-in-Some-clause-used_up c claimed shows =
    let found = sym (ap (λ (rows : Rows). find (is_at c.args.device c.args.page) rows.held) c.self.view_is) ∙ sym (ap (find (is_at c.args.device c.args.page)) c.deref.ensures.value)
    ∙ sym c.grant_at.ensures ∙ sym c.copied.ensures ∙ c.in-Some.is in
    let held = held_some c.args.self.now.held claimed.history shows.holds c.args.device c.args.page c.in-Some.grant found in
    ((λ up. (ap is_some held, c.withdraw.ensures.used_up.0 up)), (λ both. c.withdraw.ensures.used_up.1 both.1))
