use Rattle.std.proofs.Common.{zero, suc, ◌≡◌, ◌+◌, ◌-◌, ◌∙◌, inl, inr, ℕ, List, [], ◌∷◌, length, None, slice_get, refl, ap, subst, arith}
use Rattle.std.specs.Option.{unwrap_or}
use Rattle.iom_driver.specs.Attaching.{IsRootBelow, NoRootBelow, limit_below}
use Rattle.iom_driver.specs.StateOf.{state_of}
use Rattle.iom_driver.proofs.Chosen.{last_low}
use Rattle.iom_driver.proofs.driver.Driver.choose_with_root.Goals as goal

-- the last of a list, or the limit where it is empty
at_end : (limit : ℕ) (xs : List ℕ) (k : ℕ) → k + 1 ≡ length xs → unwrap_or (slice_get xs k) limit ≡ limit_below limit xs
at_end limit [] k e = absurd (omega (arith, e))
at_end limit (x ∷ []) zero e = refl
at_end limit (x ∷ []) (suc k) e = absurd (omega (arith, e))
at_end limit (x ∷ y ∷ ys) zero e = absurd (omega (arith, e))
at_end limit (x ∷ y ∷ ys) (suc k) e = at_end limit (y ∷ ys) k (omega (arith, e))

last_or : (limit : ℕ) (xs : List ℕ) → unwrap_or (slice_get xs (length xs - 1)) limit ≡ limit_below limit xs
last_or limit [] = refl
last_or limit (x ∷ xs) = at_end limit (x ∷ xs) (length (x ∷ xs) - 1) (omega arith)

pub choose_root-requires : goal.choose_root-requires
choose_root-requires c =
    let driver = c.args.self.now in
    let chosen = c.in_ok-pages.pages.items in
    let is : c.unwrap_or-limit.result ≡ limit_below driver.frames chosen =
    c.unwrap_or-limit.ensures ∙ ap (λ o. unwrap_or o driver.frames) (c.copied.ensures ∙ c.last.ensures.value)
    ∙ ap (λ (xs : List ℕ). unwrap_or (slice_get xs (length xs - 1)) driver.frames) c.deref.ensures.0 ∙ last_or driver.frames chosen in
    let low = last_low driver.owners driver.ledger None driver.frames c.args.pages chosen c.in_ok-pages.ensures.chosen in
    omega (arith, is, low)

pub returns-in_err-pages-clause-none : goal.returns-in_err-pages-clause-none
returns-in_err-pages-clause-none c = rw c.from_residual.ensures (inl c.in_err-pages.ensures.none)

pub returns-in_err-root-clause-none : goal.returns-in_err-root-clause-none
returns-in_err-root-clause-none c =
    let driver = c.args.self.now in
    let chosen = c.in_ok-pages.pages.items in
    let is : c.unwrap_or-limit.result ≡ limit_below driver.frames chosen =
    c.unwrap_or-limit.ensures ∙ ap (λ o. unwrap_or o driver.frames) (c.copied.ensures ∙ c.last.ensures.value)
    ∙ ap (λ (xs : List ℕ). unwrap_or (slice_get xs (length xs - 1)) driver.frames) c.deref.ensures.0 ∙ last_or driver.frames chosen in
    rw c.from_residual-in_err-root.ensures (inr (chosen, c.in_ok-pages.ensures.chosen, subst (λ n. NoRootBelow c.args.mode (state_of driver) n) is c.in_err-root.ensures))

pub returns-clause-root : goal.returns-clause-root
returns-clause-root c =
    let driver = c.args.self.now in
    let chosen = c.in_ok-pages.pages.items in
    let is : c.unwrap_or-limit.result ≡ limit_below driver.frames chosen =
    c.unwrap_or-limit.ensures ∙ ap (λ o. unwrap_or o driver.frames) (c.copied.ensures ∙ c.last.ensures.value)
    ∙ ap (λ (xs : List ℕ). unwrap_or (slice_get xs (length xs - 1)) driver.frames) c.deref.ensures.0 ∙ last_or driver.frames chosen in
    subst (λ n. IsRootBelow c.args.mode (state_of driver) n c.in_ok-root.root) is c.in_ok-root.ensures
