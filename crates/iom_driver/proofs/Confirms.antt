-- What a ledger shows after one more ticket of a row is confirmed.
use Rattle.std.proofs.Common.{◌≡◌, ◌<◌, ◌≤◌, ◌+◌, ◌∙◌, ◌==◌, ◌||◌, suc, ℕ, Bool, true, false, not, nat_lt, List, [], ◌∷◌, filter, Option, Some, None, refl, sym, ap, subst, arith}
use Rattle.std.proofs.lemmas.Bool.{eqb-true, lt-ltb, le-ltb, le-leb, lt-leb, and_from, and_left, and_right}
use Rattle.std.proofs.lemmas.Bool.Decides.{nat_tests}
use Rattle.iom_ledger.specs.declared.entry.HistoryEntry.TheVariants.{Confirmed}
use Rattle.iom_ledger.specs.declared.ledger.Ledger.{Ledger}
use Rattle.iom_ledger.specs.History.{History, Pair, confirmed_from}
use Rattle.iom_ledger.specs.Shown.{Agrees}
use Rattle.iom_ledger.specs.Changes.{ShowsConfirmation, unless_under}
use Rattle.iom_ledger.specs.Confirmations.{is_among_next, unless_among, ConfirmsFrom}

-- tickets within the row, below it and above it
pub among_yes : (first n t : ℕ) → first ≤ t → t < first + n → is_among_next first n t ≡ true
among_yes first n t low high = and_from _ _ (le-leb first t low) (lt-ltb t (first + n) high)

pub among_below : (first n t : ℕ) → t < first → is_among_next first n t ≡ false
among_below first n t low = and_left _ _ (lt-leb first t low)

pub among_above : (first n t : ℕ) → first + n ≤ t → is_among_next first n t ≡ false
among_above first n t high = and_right _ _ (le-ltb t (first + n) high)

-- one more ticket is that one, or one of those before
among_more : (first n t : ℕ) → is_among_next first (suc n) t ≡ ((first + n == t) || is_among_next first n t)
among_more first n t = by (first + n == t) (nat_lt t first) (nat_lt t (first + n)) refl refl refl
  where
    by : (b low high : Bool) → (first + n == t) ≡ b → nat_lt t first ≡ low → nat_lt t (first + n) ≡ high → is_among_next first (suc n) t ≡ (b || is_among_next first n t)
    by true low high e f g = let same : first + n ≡ t = eqb-true (first + n) t e in among_yes first (suc n) t (omega arith) (omega arith)
    by false true high e f g = let below : t < first = grind (arith, nat_tests) in among_below first (suc n) t below ∙ sym (among_below first n t below)
    by false false true e f g =
        let low : first ≤ t = grind (arith, nat_tests) in
        let high : t < first + n = grind (arith, nat_tests) in
        among_yes first (suc n) t low (omega arith) ∙ sym (among_yes first n t low high)
    by false false false e f g =
        let above : first + suc n ≤ t = grind (arith, nat_tests) in
        among_above first (suc n) t above ∙ sym (among_above first n t (omega arith))

-- what lingers after one more
unless_more : (first n : ℕ) (released : Option (ℕ × Pair)) → unless_under (first + n) (unless_among first n released) ≡ unless_among first (suc n) released
unless_more first n None = refl
unless_more first n (Some released) = by (is_among_next first n released.0) (first + n == released.0) refl refl
  where
    by : (among own : Bool) → is_among_next first n released.0 ≡ among → (first + n == released.0) ≡ own
        → unless_under (first + n) (unless_among first n (Some released)) ≡ unless_among first (suc n) (Some released)
    by true true e f = rw (among_more first n released.0, f, e) refl
    by true false e f = rw (among_more first n released.0, f, e) refl
    by false true e f = rw (among_more first n released.0, e, f) refl
    by false false e f = rw (among_more first n released.0, e, f) refl

-- what waits after one more
waiting_more : (first n : ℕ) (ts : List ℕ)
    → filter (λ t. not (first + n == t)) (filter (λ t. not (is_among_next first n t)) ts) ≡ filter (λ t. not (is_among_next first (suc n) t)) ts
waiting_more first n [] = refl
waiting_more first n (t ∷ ts) = by (is_among_next first n t) (first + n == t) refl refl (waiting_more first n ts)
  where
    by : (among own : Bool) → is_among_next first n t ≡ among → (first + n == t) ≡ own
        → filter (λ x. not (first + n == x)) (filter (λ x. not (is_among_next first n x)) ts) ≡ filter (λ x. not (is_among_next first (suc n) x)) ts
        → filter (λ x. not (first + n == x)) (filter (λ x. not (is_among_next first n x)) (t ∷ ts)) ≡ filter (λ x. not (is_among_next first (suc n) x)) (t ∷ ts)
    by true true e f rest = rw (among_more first n t, f, e) rest
    by true false e f rest = rw (among_more first n t, f, e) rest
    by false true e f rest = rw (among_more first n t, e, f) rest
    by false false e f rest = rw (among_more first n t, e, f) (ap (λ xs. t ∷ xs) rest)

-- none is confirmed
unless_none : (first : ℕ) (released : Option (ℕ × Pair)) → released ≡ unless_among first 0 released
unless_none first None = refl
unless_none first (Some released) = by (nat_lt released.0 first) refl
  where
    by : (low : Bool) → nat_lt released.0 first ≡ low → Some released ≡ unless_among first 0 (Some released)
    by true e = let below : released.0 < first = grind (arith, nat_tests) in rw (among_below first 0 released.0 below) refl
    by false e = let above : first + 0 ≤ released.0 = grind (arith, nat_tests) in rw (among_above first 0 released.0 above) refl

waiting_none : (first : ℕ) (ts : List ℕ) → ts ≡ filter (λ t. not (is_among_next first 0 t)) ts
waiting_none first [] = refl
waiting_none first (t ∷ ts) = by (nat_lt t first) refl (waiting_none first ts)
  where
    by : (low : Bool) → nat_lt t first ≡ low → ts ≡ filter (λ x. not (is_among_next first 0 x)) ts → (t ∷ ts) ≡ filter (λ x. not (is_among_next first 0 x)) (t ∷ ts)
    by true e rest = let below : t < first = grind (arith, nat_tests) in rw (among_below first 0 t below) (ap (λ xs. t ∷ xs) rest)
    by false e rest = let above : first + 0 ≤ t = grind (arith, nat_tests) in rw (among_above first 0 t above) (ap (λ xs. t ∷ xs) rest)

pub confirms_none : (ledger : Ledger) (first n : ℕ) → n ≡ 0 → ConfirmsFrom ledger ledger first n
confirms_none ledger first n none = subst (λ m. ConfirmsFrom ledger ledger first m) (sym none) record {
  held = λ d a. refl;
  lingering = λ d a. unless_none first _;
  pending = waiting_none first _;
}

pub confirms_more : (old now new : Ledger) (first n ticket more : ℕ) → ticket ≡ first + n → more ≡ suc n → ConfirmsFrom old now first n → ShowsConfirmation now new ticket
    → ConfirmsFrom old new first more
confirms_more old now new first n ticket more next is before confirmed =
    let last : ShowsConfirmation now new (first + n) = subst (λ t. ShowsConfirmation now new t) next confirmed in
    subst (λ m. ConfirmsFrom old new first m) (sym is) record {
      held = λ d a. last.held d a ∙ before.held d a;
      lingering = λ d a. last.lingering d a ∙ ap (unless_under (first + n)) (before.lingering d a) ∙ unless_more first n _;
      pending = last.pending ∙ ap (filter (λ t. not (first + n == t))) before.pending ∙ waiting_more first n _;
    }

-- each history that it agrees with has one more confirmation
pub agrees_more : (old now new : Ledger) (first n ticket more : ℕ) → ticket ≡ first + n → more ≡ suc n
    → ((h : History) → Agrees old h → Agrees now (confirmed_from first n h)) → ((h : History) → Agrees now h → Agrees new (Confirmed ticket ∷ h))
    → (h : History) → Agrees old h → Agrees new (confirmed_from first more h)
agrees_more old now new first n ticket more next is before confirmed h agrees =
    subst (λ m. Agrees new (confirmed_from first m h)) (sym is)
    (subst (λ t. Agrees new (Confirmed t ∷ confirmed_from first n h)) next (confirmed (confirmed_from first n h) (before h agrees)))
