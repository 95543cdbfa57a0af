-- How each entry changes what is held and which claims are open.
use Rattle.std.proofs.Common.{◌≡◌, ◌⊎◌, inl, inr, ℕ, Bool, true, false, not, ◌==◌, ◌&&◌, ◌||◌, List, [], ◌∷◌, ◌++◌, filter, Contains, Option, None, Some, if◌then◌else◌, refl, sym, ap, ◌∙◌, subst, arith}
use Rattle.std.proofs.lemmas.Bool.{false≢true, eqb-true, eq-eqb, and_parts, and_from}
use Rattle.std.proofs.lemmas.List.Elements.{Contains-push, Contains-push_cases, Contains-append_cases, Contains-append_left, Contains-append_right}
use Rattle.iom_ledger.specs.declared.entry.HistoryEntry.TheVariants.{Granted, Released, Confirmed}
use Rattle.iom_ledger.specs.History.{History, Pair, held_at, released_by, released_at, lingering_at, confirms}
use Rattle.iom_claims.specs.declared.grant.Grant.{Grant}
use Rattle.iom_claims.specs.declared.grant.OpenClaim.{OpenClaim}
use Rattle.iom_claims.specs.Claimed.{IsHeld, IsOpen}
use Rattle.iom_claims.specs.Rows.{is_at, is_numbered, pair_of}
use Rattle.iom_claims.proofs.ListLemmas.{contains_filter, contains_from_filter}

-- a grant, and a claim, by their parts
abbrev pub grant_from : ℕ → ℕ → Pair → Grant
grant_from device page pair = record { device = device; page = page; frame = pair.0; rights = pair.1 }

abbrev pub claim_from : ℕ → Grant → OpenClaim
claim_from number grant = record { number = number; grant = grant }

-- two grants of the same parts are the same
pub same_grant : (one other : Grant) → one.device ≡ other.device → one.page ≡ other.page → ◌≡◌ {A = Pair} (pair_of one) (pair_of other) → one ≡ other
same_grant one other devices pages pairs =
    ap (λ v. grant_from v one.page (pair_of one)) devices
    ∙ ap (λ v. grant_from other.device v (pair_of one)) pages
    ∙ ap (λ (v : Pair). grant_from other.device other.page v) pairs

pub same_claim : (one other : OpenClaim) → one.number ≡ other.number → one.grant ≡ other.grant → one ≡ other
same_claim one other numbers grants = ap (λ v. claim_from v one.grant) numbers ∙ ap (λ (v : Grant). claim_from other.number v) grants

-- a grant is of its own page
pub is_own : (grant : Grant) → is_at grant.device grant.page grant ≡ true
is_own grant = and_from (grant.device == grant.device) (grant.page == grant.page) (eq-eqb grant.device grant.device refl) (eq-eqb grant.page grant.page refl)

pub at_page : (device page : ℕ) (grant : Grant) → is_at device page grant ≡ true → (device ≡ grant.device) × (page ≡ grant.page)
at_page device page grant e =
    let parts = and_parts (device == grant.device) (page == grant.page) e in
    (eqb-true device grant.device parts.0, eqb-true page grant.page parts.1)

-- what the history holds at a grant's page, where the grant is of this page
pub moved : (h : History) (device page : ℕ) (grant : Grant) (held : Option Pair) → is_at device page grant ≡ true → held_at h device page ≡ held → held_at h grant.device grant.page ≡ held
moved h device page grant held e at =
    let parts = at_page device page grant e in
    subst (λ d. held_at h d grant.page ≡ held) parts.0 (subst (λ p. held_at h device p ≡ held) parts.1 at)

-- what is held after a grant at a page where nothing was
pub held_to_grant : (h : History) (grant other : Grant) → held_at h grant.device grant.page ≡ None → IsHeld h other ⊎ (grant ≡ other)
    → IsHeld (Granted grant.device grant.page grant.frame grant.rights ∷ h) other
held_to_grant h grant other none (inl held) = by (is_at grant.device grant.page other) refl
  where
    by : (b : Bool) → is_at grant.device grant.page other ≡ b
        → ◌≡◌ {A = Option Pair} (if b then Some (grant.frame, grant.rights) else held_at h other.device other.page) (Some (other.frame, other.rights))
    by false e = held
    by true e = let there : held_at h other.device other.page ≡ None = moved h grant.device grant.page other None e none in cc
held_to_grant h grant other none (inr same) =
    subst (λ x. IsHeld (Granted grant.device grant.page grant.frame grant.rights ∷ h) x) same
    (ap (λ b. if b then Some (pair_of grant) else held_at h grant.device grant.page) (is_own grant))

pub held_from_grant : (h : History) (grant other : Grant) → IsHeld (Granted grant.device grant.page grant.frame grant.rights ∷ h) other
    → IsHeld h other ⊎ (grant ≡ other)
held_from_grant h grant other held = by (is_at grant.device grant.page other) refl held
  where
    by : (b : Bool) → is_at grant.device grant.page other ≡ b
        → ◌≡◌ {A = Option Pair} (if b then Some (grant.frame, grant.rights) else held_at h other.device other.page) (Some (other.frame, other.rights))
        → IsHeld h other ⊎ (grant ≡ other)
    by false e held = inl held
    by true e held =
        let parts = at_page grant.device grant.page other e in
        let pairs : ◌≡◌ {A = Pair} (grant.frame, grant.rights) (other.frame, other.rights) = cc in
        inr (same_grant grant other parts.0 parts.1 pairs)

-- what is held after a release: what was, elsewhere
pub held_to_release : (h : History) (device page number : ℕ) (other : Grant) → IsHeld h other → not (is_at device page other) ≡ true
    → IsHeld (Released device page number ∷ h) other
held_to_release h device page number other held elsewhere = by (is_at device page other) elsewhere
  where
    by : (b : Bool) → not b ≡ true → ◌≡◌ {A = Option Pair} (if b then None else held_at h other.device other.page) (Some (other.frame, other.rights))
    by false e = held
    by true e = absurd (false≢true e)

pub held_from_release : (h : History) (device page number : ℕ) (other : Grant) → IsHeld (Released device page number ∷ h) other
    → IsHeld h other × (not (is_at device page other) ≡ true)
held_from_release h device page number other held = by (is_at device page other) refl held
  where
    by : (b : Bool) → is_at device page other ≡ b → ◌≡◌ {A = Option Pair} (if b then None else held_at h other.device other.page) (Some (other.frame, other.rights))
        → IsHeld h other × (not (is_at device page other) ≡ true)
    by false e held = (held, ap not e)
    by true e held = cc

-- a grant leaves open what was
pub lingering_after_grant : (h : History) (grant : Grant) (device page : ℕ)
    → lingering_at (Granted grant.device grant.page grant.frame grant.rights ∷ h) device page ≡ lingering_at h device page
lingering_after_grant h grant device page = by ((grant.device == device) && (grant.page == page))
  where
    by : (b : Bool) → filter (λ (r : ℕ × Pair). not (confirms h r.0)) ((if b then [] else []) ++ released_at h device page) ≡ lingering_at h device page
    by true = refl
    by false = refl

-- a release under a number that isn't confirmed opens its claim, and leaves the others
abbrev released_here : History → Grant → ℕ → OpenClaim → Bool → List (ℕ × Pair)
released_here h grant number claim b = if b then released_by (Released grant.device grant.page number) (held_at h claim.grant.device claim.grant.page) else []

pub open_from_release : (h : History) (grant : Grant) (number : ℕ) (claim : OpenClaim) → IsHeld h grant → IsOpen (Released grant.device grant.page number ∷ h) claim
    → IsOpen h claim ⊎ (claim_from number grant ≡ claim)
open_from_release h grant number claim held is_open =
    let here = released_here h grant number claim (is_at grant.device grant.page claim.grant) in
    let before = released_at h claim.grant.device claim.grant.page in
    let own : ℕ × Pair = (claim.number, (claim.grant.frame, claim.grant.rights)) in
    let kept = contains_from_filter (λ (r : ℕ × Pair). not (confirms h r.0)) (here ++ before) own is_open in
    elim (Contains-append_cases here before own kept.0) [
      | inl new ↦ inr (by (is_at grant.device grant.page claim.grant) refl new)
      | inr old ↦ inl (contains_filter (λ (r : ℕ × Pair). not (confirms h r.0)) before own old kept.1)
    ]
  where
    by : (b : Bool) → is_at grant.device grant.page claim.grant ≡ b → Contains (released_here h grant number claim b) (claim.number, (claim.grant.frame, claim.grant.rights))
        → claim_from number grant ≡ claim
    by false e (k, below, at) = absurd (omega arith)
    by true e new =
        let parts = at_page grant.device grant.page claim.grant e in
        let there = moved h grant.device grant.page claim.grant (Some (pair_of grant)) e held in
        let only : Contains {X = ℕ × Pair} ((number, pair_of grant) ∷ []) (claim.number, pair_of claim.grant) =
        subst (λ o. Contains (released_by (Released grant.device grant.page number) o) (claim.number, pair_of claim.grant)) there new in
        elim (Contains-push_cases [] (number, pair_of grant) (claim.number, pair_of claim.grant) only) [
          | inl (k, below, at) ↦ absurd (omega arith)
          | inr same ↦ same_claim (claim_from number grant) claim (ap (λ (r : ℕ × Pair). r.0) same) (same_grant grant claim.grant parts.0 parts.1 (ap (λ (r : ℕ × Pair). r.1) same))
        ]

pub open_to_release : (h : History) (grant : Grant) (number : ℕ) (claim : OpenClaim) → IsHeld h grant → confirms h number ≡ false
    → IsOpen h claim ⊎ (claim_from number grant ≡ claim) → IsOpen (Released grant.device grant.page number ∷ h) claim
open_to_release h grant number claim held fresh (inl is_open) =
    let here = released_here h grant number claim (is_at grant.device grant.page claim.grant) in
    let before = released_at h claim.grant.device claim.grant.page in
    let own : ℕ × Pair = (claim.number, pair_of claim.grant) in
    let was = contains_from_filter (λ (r : ℕ × Pair). not (confirms h r.0)) before own is_open in
    contains_filter (λ (r : ℕ × Pair). not (confirms h r.0)) (here ++ before) own (Contains-append_right here before own was.0) was.1
open_to_release h grant number claim held fresh (inr same) =
    let here = released_here h grant number (claim_from number grant) (is_at grant.device grant.page grant) in
    let before = released_at h grant.device grant.page in
    let own : ℕ × Pair = (number, pair_of grant) in
    let within : Contains here own =
    subst (λ b. Contains (released_here h grant number (claim_from number grant) b) own) (sym (is_own grant))
    (subst (λ o. Contains (released_by (Released grant.device grant.page number) o) own) (sym held) (Contains-push [] own)) in
    subst (λ x. IsOpen (Released grant.device grant.page number ∷ h) x) same
    (contains_filter (λ (r : ℕ × Pair). not (confirms h r.0)) (here ++ before) own (Contains-append_left here before own within) (ap not fresh))

-- a confirmation closes the claims of its number, and leaves the others
neither : (a b : Bool) → not (a || b) ≡ true → (not a ≡ true) × (not b ≡ true)
neither true b e = absurd (false≢true e)
neither false b e = (refl, e)

both : (a b : Bool) → not a ≡ true → not b ≡ true → not (a || b) ≡ true
both true b e f = absurd (false≢true e)
both false b e f = f

pub open_from_done : (h : History) (number : ℕ) (claim : OpenClaim) → IsOpen (Confirmed number ∷ h) claim
    → IsOpen h claim × (not (is_numbered number claim) ≡ true)
open_from_done h number claim is_open =
    let before = released_at h claim.grant.device claim.grant.page in
    let own : ℕ × Pair = (claim.number, pair_of claim.grant) in
    let kept = contains_from_filter (λ (r : ℕ × Pair). not ((number == r.0) || confirms h r.0)) before own is_open in
    let parts = neither (number == claim.number) (confirms h claim.number) kept.1 in
    (contains_filter (λ (r : ℕ × Pair). not (confirms h r.0)) before own kept.0 parts.1, parts.0)

pub open_to_done : (h : History) (number : ℕ) (claim : OpenClaim) → IsOpen h claim → not (is_numbered number claim) ≡ true
    → IsOpen (Confirmed number ∷ h) claim
open_to_done h number claim is_open other =
    let before = released_at h claim.grant.device claim.grant.page in
    let own : ℕ × Pair = (claim.number, pair_of claim.grant) in
    let was = contains_from_filter (λ (r : ℕ × Pair). not (confirms h r.0)) before own is_open in
    contains_filter (λ (r : ℕ × Pair). not ((number == r.0) || confirms h r.0)) before own was.0 (both (number == claim.number) (confirms h claim.number) other was.1)
