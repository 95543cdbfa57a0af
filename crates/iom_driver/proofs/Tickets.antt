-- Tickets that rise: one more, and some that are confirmed.
use Rattle.std.proofs.Common.{◌≡◌, ◌+◌, ◌<◌, ◌≤◌, ◌++◌, inl, inr, ℕ, not, List, [], ◌∷◌, length, filter, refl, ap, arith}
use Rattle.std.proofs.lemmas.Bool.{cases_lt}
use Rattle.iom_ledger.specs.Confirmations.{is_among_next}
use Rattle.iom_driver.specs.Invariant.{RiseBetween}
use Rattle.iom_driver.proofs.Confirms.{among_yes, among_above}

-- they are no more than the numbers between
pub few_rise : (first last : ℕ) (tickets : List ℕ) → RiseBetween first last tickets → first ≤ last → length tickets + first ≤ last
few_rise first last [] rise le = omega arith
few_rise first last (ticket ∷ tickets) rise le =
    let rest = few_rise ticket last tickets rise.2 rise.1 in
    let low : first < ticket = rise.0 in
    omega (arith, rest, low)

-- up to a later number
pub rise_further : (first last later : ℕ) (tickets : List ℕ) → last ≤ later → RiseBetween first last tickets → RiseBetween first later tickets
rise_further first last later [] le rise = rise
rise_further first last later (ticket ∷ tickets) le rise =
    let high : ticket ≤ last = rise.1 in (rise.0, omega (arith, high, le), rise_further ticket last later tickets le rise.2)

-- one more, above them
pub rise_more : (first last : ℕ) (tickets : List ℕ) → first ≤ last → RiseBetween first last tickets → RiseBetween first (last + 1) (tickets ++ (last + 1) ∷ [])
rise_more first last [] le rise = (omega (arith, le), omega arith, tt)
rise_more first last (ticket ∷ tickets) le rise =
    let high : ticket ≤ last = rise.1 in (rise.0, omega (arith, high), rise_more ticket last tickets high rise.2)

-- none of those above a row is in it
keep_above : (start n first last : ℕ) (tickets : List ℕ) → start + n ≤ first + 1 → RiseBetween first last tickets → filter (λ t. not (is_among_next start n t)) tickets ≡ tickets
keep_above start n first last [] end rise = refl
keep_above start n first last (ticket ∷ tickets) end rise =
    let low : first < ticket = rise.0 in
    rw (among_above start n ticket (omega (arith, low, end))) (ap (λ ts. ticket ∷ ts) (keep_above start n ticket last tickets (omega (arith, low, end)) rise.2))

-- those that are left when the row up to a number is confirmed rise from above it
pub rise_left : (start n done first last : ℕ) (tickets : List ℕ) → start ≤ first + 1 → start + n ≡ done + 1 → RiseBetween first last tickets
    → RiseBetween done last (filter (λ t. not (is_among_next start n t)) tickets)
rise_left start n done first last [] low end rise = tt
rise_left start n done first last (ticket ∷ tickets) low end rise = elim (cases_lt done ticket) [
  | inr le ↦
      let above : first < ticket = rise.0 in
      rw (among_yes start n ticket (omega (arith, above, low)) (omega (arith, le, end))) (rise_left start n done ticket last tickets (omega (arith, above, low)) end rise.2)
  | inl lt ↦
      rw (among_above start n ticket (omega (arith, lt, end)), keep_above start n ticket last tickets (omega (arith, lt, end)) rise.2) (lt, rise.1, rise.2)
]
