-- Whether a device has grants: by the pages that were ever granted to it, by the entries, and at any page.
use Rattle.std.proofs.Common.{◌≡◌, ℕ, ◌⊎◌, inl, inr, Bool, true, false, not, ◌==◌, ◌&&◌, ◌||◌, [], ◌∷◌, Contains, Option, None, Some, is_some, if◌then◌else◌, refl, sym, ap, ◌∙◌, subst}
use Rattle.std.specs.List.{list_any}
use Rattle.std.proofs.lemmas.Bool.{false≢true, eqb-true, or_left, or_right}
use Rattle.iom_ledger.specs.declared.entry.HistoryEntry.TheVariants.{Granted, Released, AllReleased, Confirmed}
use Rattle.iom_ledger.specs.History.{History, Pair, held_at, released_at, confirms}
use Rattle.iom_machine.specs.declared.state.State.{State}
use Rattle.iom_machine.specs.Judging.{grants_left_in}
use Rattle.iom_machine.specs.Refusals.{is_held, is_lingering, pages_granted, has_grants}
use Rattle.iom_machine.specs.Laws.{GrantsAreAtPages}
use Rattle.iom_machine.proofs.ReachLemmas.{contains_head, contains_tail}
use Rattle.iom_machine.proofs.JudgeLemmas.{some_passes, passing_element, some_kept, grants_at, held_was_granted, released_was_granted}

-- whether something is held at the page, or lingers there
abbrev is_left_at : State → ℕ → ℕ → Bool
is_left_at state id page = is_held state id page || is_lingering state id page

-- a page that an entry grants is among those that were ever granted
pub page_among : (h : History) (id page : ℕ) → grants_at h id page ≡ true → Contains (pages_granted h id) page
page_among [] id page granted = absurd (false≢true granted)
page_among (Granted d p frame rights ∷ h) id page granted = by (d == id) (p == page) refl granted (page_among h id page)
  where
    by : (b c : Bool) → (p == page) ≡ c → ((b && c) || grants_at h id page) ≡ true → (grants_at h id page ≡ true → Contains (pages_granted h id) page)
        → Contains (if b then p ∷ pages_granted h id else pages_granted h id) page
    by true true e g rest = subst (λ q. Contains (p ∷ pages_granted h id) q) (eqb-true p page e) (contains_head p (pages_granted h id))
    by true false e g rest = contains_tail p (pages_granted h id) page (rest g)
    by false c e g rest = rest g
page_among (Released d p ticket ∷ h) id page granted = page_among h id page granted
page_among (AllReleased d ticket ∷ h) id page granted = page_among h id page granted
page_among (Confirmed ticket ∷ h) id page granted = page_among h id page granted

-- what is held was granted at its page
held_among : (state : State) (id page : ℕ) → is_held state id page ≡ true → Contains (pages_granted state.history id) page
held_among state id page held = by (held_at state.history id page) refl held
  where
    by : (pair : Option Pair) → held_at state.history id page ≡ pair → is_some pair ≡ true → Contains (pages_granted state.history id) page
    by None at h = absurd (false≢true h)
    by (Some pair) at h = page_among state.history id page (held_was_granted state.history id page pair at)

-- and what lingers
lingering_among : (state : State) (id page : ℕ) → is_lingering state id page ≡ true → Contains (pages_granted state.history id) page
lingering_among state id page lingers =
    let found = passing_element (λ (r : ℕ × Pair). not (confirms state.history r.0)) (released_at state.history id page)
    (sym (some_kept (λ (r : ℕ × Pair). not (confirms state.history r.0)) (released_at state.history id page)) ∙ lingers) in
    page_among state.history id page (released_was_granted state.history id page found.0 found.1)

pub grants_are_at_pages : GrantsAreAtPages
grants_are_at_pages state id = (forward, backward)
  where
    at_page : (page : ℕ) (b c : Bool) → is_held state id page ≡ b → is_lingering state id page ≡ c → (b || c) ≡ true
        → (is_held state id page ≡ true) ⊎ (is_lingering state id page ≡ true)
    at_page page true c held lingers either = inl held
    at_page page false true held lingers either = inr lingers
    at_page page false false held lingers either = absurd (false≢true either)

    forward : has_grants state id ≡ true → (page : ℕ) × ((is_held state id page ≡ true) ⊎ (is_lingering state id page ≡ true))
    forward any =
        let found = passing_element (is_left_at state id) (pages_granted state.history id) any in
        (found.0, at_page found.0 (is_held state id found.0) (is_lingering state id found.0) refl refl found.2)

    backward : (page : ℕ) × ((is_held state id page ≡ true) ⊎ (is_lingering state id page ≡ true)) → has_grants state id ≡ true
    backward (page, inl held) = some_passes (is_left_at state id) (pages_granted state.history id) page (held_among state id page held)
        (or_left (is_held state id page) (is_lingering state id page) held)
    backward (page, inr lingers) = some_passes (is_left_at state id) (pages_granted state.history id) page (lingering_among state id page lingers)
        (or_right (is_held state id page) (is_lingering state id page) lingers)

-- the judge's look through the entries finds the same
pub grants_left_any : (state : State) (h : History) (id : ℕ) → grants_left_in state.history h id ≡ list_any (is_left_at state id) (pages_granted h id)
grants_left_any state [] id = refl
grants_left_any state (Granted d page frame rights ∷ h) id = by (d == id) (grants_left_any state h id)
  where
    here : (is_some (held_at state.history id page) || list_any (λ r. not (confirms state.history r.0)) (released_at state.history id page)) ≡ is_left_at state id page
    here = ap (λ b. is_held state id page || b) (sym (some_kept (λ (r : ℕ × Pair). not (confirms state.history r.0)) (released_at state.history id page)))

    by : (b : Bool) → grants_left_in state.history h id ≡ list_any (is_left_at state id) (pages_granted h id)
        → ((b && (is_some (held_at state.history id page) || list_any (λ r. not (confirms state.history r.0)) (released_at state.history id page))) || grants_left_in state.history h id)
        ≡ list_any (is_left_at state id) (if b then page ∷ pages_granted h id else pages_granted h id)
    by true rest = ap (λ b. b || grants_left_in state.history h id) here ∙ ap (λ b. is_left_at state id page || b) rest
    by false rest = rest
grants_left_any state (Released d page ticket ∷ h) id = grants_left_any state h id
grants_left_any state (AllReleased d ticket ∷ h) id = grants_left_any state h id
grants_left_any state (Confirmed ticket ∷ h) id = grants_left_any state h id
