-- Devices for which nothing lingers.
use Rattle.std.proofs.Common.{◌≡◌, ◌↔◌, ◌∙◌, ◌==◌, ℕ, Bool, true, false, not, List, [], ◌∷◌, length, Option, None, Some, IsSome, IsTrue, refl, sym, ap, arith}
use Rattle.std.specs.Option.{option_map}
use Rattle.std.proofs.lemmas.Bool.{false≢true, eqb-true}
use Rattle.iom_ledger.specs.History.{History, Pair, lingering_at}
use Rattle.iom_ledger.specs.Shown.{lingering_in}
use Rattle.iom_machine.specs.Returning.{NothingLingers}
use Rattle.iom_machine.specs.declared.state.State.{State}
use Rattle.iom_kept_state.specs.declared.grants.KeptGrants.{KeptGrants}
use Rattle.iom_kept_state.specs.Grants.{IsPastOf, lingering_by, named_pair}
use Rattle.iom_kept_state.proofs.LookLemmas.{none_lingers_of_past}

-- nothing lingers at a page, by a past and by the ledger
at_page : (kept : KeptGrants) (h : History) → IsPastOf kept h → (device page : ℕ)
    → (lingering_at h device page ≡ [] → IsSome (lingering_in kept.ledger device page) → ⊥)
    × ((IsSome (lingering_in kept.ledger device page) → ⊥) → lingering_at h device page ≡ [])
unfolding lingering_by
at_page kept h past device page = by (lingering_in kept.ledger device page) refl
  where
    own : (found : Option Pair) → lingering_in kept.ledger device page ≡ found → lingering_by kept device page ≡ option_map (named_pair kept.names.keys) found
    own found e = ap (option_map (named_pair kept.names.keys)) e

    by : (found : Option Pair) → lingering_in kept.ledger device page ≡ found
        → (lingering_at h device page ≡ [] → IsSome found → ⊥) × ((IsSome found → ⊥) → lingering_at h device page ≡ [])
    by None e = ((λ none some. false≢true some), (λ none. (none_lingers_of_past kept h past device page).0 (own None e)))
    by (Some pair) e = (
      (λ none some. let same : ◌≡◌ {A = Option Pair} (Some (named_pair kept.names.keys pair)) None = sym (own (Some pair) e) ∙ (none_lingers_of_past kept h past device page).1 none in cc),
      (λ none. absurd (none refl)),
    )

-- nothing lingers for the device, by the ledger and by a past
pub nothing_of_past : (kept : KeptGrants) (h : History) → IsPastOf kept h → (device : ℕ) (some : Bool)
    → (IsTrue some ↔ ((page : ℕ) × IsSome (lingering_in kept.ledger device page)))
    → IsTrue (not some) ↔ ((page : ℕ) → lingering_at h device page ≡ [])
nothing_of_past kept h past device true shown =
    let found = shown.0 refl in
    ((λ yes. absurd (false≢true yes)), (λ none. absurd ((at_page kept h past device found.0).0 (none found.0) found.1)))
nothing_of_past kept h past device false shown =
    ((λ yes page. (at_page kept h past device page).1 (λ some. false≢true (shown.1 (page, some)))), (λ none. refl))

-- and in the words of the machine
of_list : {X : Type 0} (xs : List X) → (xs ≡ []) ↔ (not (length xs == 0) ≡ false)
of_list [] = ((λ none. refl), (λ none. refl))
of_list (x ∷ xs) = ((λ none. cc), (λ none. by (length (x ∷ xs) == 0) refl none))
  where
    by : (b : Bool) → (length (x ∷ xs) == 0) ≡ b → not b ≡ false → x ∷ xs ≡ []
    by true e none = let zero : length (x ∷ xs) ≡ 0 = eqb-true (length (x ∷ xs)) 0 e in absurd (omega (arith, zero))
    by false e none = absurd (false≢true (sym none))

pub nothing_as : (state : State) (id : ℕ) → ((page : ℕ) → lingering_at state.history id page ≡ []) ↔ NothingLingers state id
nothing_as state id = (
  (λ none page. (of_list (lingering_at state.history id page)).0 (none page)),
  (λ none page. (of_list (lingering_at state.history id page)).1 (none page)),
)
