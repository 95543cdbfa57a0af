-- Reasons of refusals.
use Rattle.std.proofs.Common.{◌≡◌, ◌↔◌, ℕ, ◌==◌, ◌⊎◌, inl, inr, Bool, true, false, not, IsTrue, List, [], ◌∷◌, length, Contains, Option, None, Some, is_some, refl, sym, ap, subst, arith}
use Rattle.std.proofs.lemmas.Bool.{false≢true, eqb-true}
use Rattle.iom_ledger.specs.History.{Pair, Holds, Lingers, held_at, lingering_at}
use Rattle.iom_machine.specs.declared.state.State.{State}
use Rattle.iom_machine.specs.Refusals.{is_held, is_lingering, has_grants}
use Rattle.iom_machine.proofs.ReachLemmas.{contains_head}
use Rattle.iom_machine.proofs.GrantLemmas.{grants_are_at_pages}

-- the device holds something, or something lingers for it
abbrev IsLeft : State → ℕ → Type 0
IsLeft state id = (page : ℕ) × ((pair : Pair) × (Holds state.history id page pair ⊎ Lingers state.history id page pair))

some_in : (list : List (ℕ × Pair)) (released : ℕ × Pair) → Contains list released → not (length list == 0) ≡ true
some_in list released among = by (length list == 0) refl
  where
    none : (found : List (ℕ × Pair)) → Contains found released → length found ≡ 0 → ⊥
    none [] (k, below, at) empty = absurd (omega arith)
    none (first ∷ later) within empty = absurd (omega (arith, empty))

    by : (b : Bool) → (length list == 0) ≡ b → not b ≡ true
    by true e = absurd (none list among (eqb-true (length list) 0 e))
    by false e = refl

-- what decides that decides `has_grants`
pub any_is_left : (state : State) (id : ℕ) (reply : Bool) → IsTrue reply ↔ IsLeft state id → reply ≡ has_grants state id
any_is_left state id reply decides = same reply (has_grants state id) (λ yes. forward (decides.0 yes)) (λ yes. decides.1 (backward yes))
  where
    same : (one other : Bool) → (one ≡ true → other ≡ true) → (other ≡ true → one ≡ true) → one ≡ other
    same true other to from = sym (to refl)
    same false true to from = from refl
    same false false to from = refl

    forward : IsLeft state id → has_grants state id ≡ true
    forward (page, (pair, inl holds)) = (grants_are_at_pages state id).1 (page, inl (ap (λ (o : Option Pair). is_some o) holds))
    forward (page, (pair, inr (ticket, among))) = (grants_are_at_pages state id).1 (page, inr (some_in (lingering_at state.history id page) (ticket, pair) among))

    held : (page : ℕ) (pair : Option Pair) → held_at state.history id page ≡ pair → is_some pair ≡ true → IsLeft state id
    held page None is some = absurd (false≢true some)
    held page (Some pair) is some = (page, (pair, inl is))

    lingers : (page : ℕ) (list : List (ℕ × Pair)) → lingering_at state.history id page ≡ list → not (length list == 0) ≡ true → IsLeft state id
    lingers page [] is some = absurd (false≢true some)
    lingers page (first ∷ later) is some =
        (page, (first.1, inr (first.0, subst (λ (l : List (ℕ × Pair)). Contains l first) (sym is) (contains_head first later))))

    at_page : (page : ℕ) × ((is_held state id page ≡ true) ⊎ (is_lingering state id page ≡ true)) → IsLeft state id
    at_page (page, inl some) = held page (held_at state.history id page) refl some
    at_page (page, inr some) = lingers page (lingering_at state.history id page) refl some

    backward : has_grants state id ≡ true → IsLeft state id
    backward any = at_page ((grants_are_at_pages state id).0 any)
