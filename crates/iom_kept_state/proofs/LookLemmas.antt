-- What a ledger shows of grants that are kept, said of a past of them.
use Rattle.std.proofs.Common.{◌≡◌, ◌↔◌, ℕ, ◌⊎◌, inl, inr, List, [], ◌∷◌, Contains, map, Option, None, Some, is_some, IsSome, refl, sym, ap, ◌∙◌, subst, arith}
use Rattle.std.specs.Option.{option_map, option_to_list}
use Rattle.std.proofs.lemmas.Bool.{false≢true}
use Rattle.std.proofs.lemmas.List.Elements.{Contains-push, Contains-push_cases}
use Rattle.iom_ledger.specs.History.{History, Pair, held_at, confirms, lingering_at, Holds, Lingers}
use Rattle.iom_ledger.specs.Shown.{held_in, released_in, lingering_in}
use Rattle.iom_machine.specs.Tickets.{last_confirmed}
use Rattle.iom_kept_state.specs.declared.grants.KeptGrants.{KeptGrants}
use Rattle.iom_kept_state.specs.Grants.{IsPastOf, held_by, lingering_by, named_pair, is_confirmed_in}
use Rattle.iom_kept_state.proofs.NamedLemmas.{named_release, held_at-named, lingering_at-named, confirms-named, last_confirmed-named}

-- what is held
pub held_of_past : (kept : KeptGrants) (h : History) → IsPastOf kept h → (device page : ℕ) → held_by kept device page ≡ held_at h device page
unfolding held_by
held_of_past kept h past device page = sym (
    ap (λ g. held_at g device page) past.named
    ∙ held_at-named kept.names.keys past.placed device page
    ∙ ap (option_map (named_pair kept.names.keys)) (past.grants.pages device page).holds)

-- what two devices hold alike by the history they hold alike
pub held_alike : (kept : KeptGrants) (h : History) → IsPastOf kept h → (one other page : ℕ) → held_at h one page ≡ held_at h other page
    → held_by kept one page ≡ held_by kept other page
held_alike kept h past one other page same = held_of_past kept h past one page ∙ same ∙ sym (held_of_past kept h past other page)

-- what lingers
pub lingering_of_past : (kept : KeptGrants) (h : History) → IsPastOf kept h → (device page : ℕ)
    → lingering_at h device page ≡ map (named_release kept.names.keys) (option_to_list (released_in kept.ledger device page))
lingering_of_past kept h past device page =
    ap (λ g. lingering_at g device page) past.named
    ∙ lingering_at-named kept.names.keys past.placed device page
    ∙ ap (map (named_release kept.names.keys)) (past.grants.pages device page).lingers

-- which tickets are confirmed
pub confirmed_of_past : (kept : KeptGrants) (h : History) → IsPastOf kept h → (ticket : ℕ) → is_confirmed_in kept ticket ≡ confirms h ticket
confirmed_of_past kept h past ticket = sym (
    ap (λ g. confirms g ticket) past.named
    ∙ confirms-named kept.names.keys past.placed ticket
    ∙ past.confirmed ticket)

pub last_of_past : (kept : KeptGrants) (h : History) → IsPastOf kept h → kept.confirmed ≡ last_confirmed h
last_of_past kept h past = sym (ap last_confirmed past.named ∙ last_confirmed-named kept.names.keys past.placed ∙ past.last)

-- one release or none
lingers_one : (names : List ℕ) (released : Option (ℕ × Pair)) (pair : Pair)
    → (option_map (named_pair names) (option_map (λ (r : ℕ × Pair). r.1) released) ≡ Some pair)
    ↔ ((ticket : ℕ) × Contains (map (named_release names) (option_to_list released)) (ticket, pair))
lingers_one names None pair = (λ none. cc, λ (ticket, (k, below, at)). absurd (omega arith))
lingers_one names (Some (t, own)) pair = (
  λ same. let is : named_pair names own ≡ pair = cc in (t, subst (λ (p : Pair). Contains {X = ℕ × Pair} ((t, named_pair names own) ∷ []) (t, p)) is (Contains-push [] (t, named_pair names own))),
  λ lingers. elim (Contains-push_cases [] (t, named_pair names own) (lingers.0, pair) lingers.1) [
    | inl (k, below, at) ↦ absurd (omega arith)
    | inr same ↦ let it : named_pair names own ≡ pair = ap (λ (r : ℕ × Pair). r.1) same in ap Some it
  ],
)

pub lingers_of_past : (kept : KeptGrants) (h : History) → IsPastOf kept h → (device page : ℕ) (pair : Pair)
    → (lingering_by kept device page ≡ Some pair) ↔ Lingers h device page pair
unfolding lingering_by
lingers_of_past kept h past device page pair =
    subst (λ (l : List (ℕ × Pair)). (lingering_by kept device page ≡ Some pair) ↔ ((ticket : ℕ) × Contains l (ticket, pair))) (sym (lingering_of_past kept h past device page))
    (lingers_one kept.names.keys (released_in kept.ledger device page) pair)

none_lingers_one : (names : List ℕ) (released : Option (ℕ × Pair))
    → (option_map (named_pair names) (option_map (λ (r : ℕ × Pair). r.1) released) ≡ None) ↔ (map (named_release names) (option_to_list released) ≡ [])
none_lingers_one names None = (λ none. refl, λ none. refl)
none_lingers_one names (Some released) = (λ some. cc, λ some. cc)

pub none_lingers_of_past : (kept : KeptGrants) (h : History) → IsPastOf kept h → (device page : ℕ)
    → (lingering_by kept device page ≡ None) ↔ (lingering_at h device page ≡ [])
unfolding lingering_by
none_lingers_of_past kept h past device page =
    subst (λ l. (lingering_by kept device page ≡ None) ↔ (l ≡ [])) (sym (lingering_of_past kept h past device page))
    (none_lingers_one kept.names.keys (released_in kept.ledger device page))

-- something is held or lingers, somewhere
pub any_held : (kept : KeptGrants) (h : History) → IsPastOf kept h → (device : ℕ) → ((page : ℕ) × IsSome (held_in kept.ledger device page))
    → (page : ℕ) × ((pair : Pair) × (Holds h device page pair ⊎ Lingers h device page pair))
unfolding held_by
any_held kept h past device (page, some) = by (held_in kept.ledger device page) refl some
  where
    by : (own : Option Pair) → held_in kept.ledger device page ≡ own → IsSome own → (page : ℕ) × ((pair : Pair) × (Holds h device page pair ⊎ Lingers h device page pair))
    by None e some = absurd (false≢true some)
    by (Some own) e some = (page, (named_pair kept.names.keys own, inl (sym (held_of_past kept h past device page) ∙ ap (option_map (named_pair kept.names.keys)) e)))

pub any_lingers : (kept : KeptGrants) (h : History) → IsPastOf kept h → (device : ℕ) → ((page : ℕ) × IsSome (lingering_in kept.ledger device page))
    → (page : ℕ) × ((pair : Pair) × (Holds h device page pair ⊎ Lingers h device page pair))
unfolding lingering_by
any_lingers kept h past device (page, some) = by (lingering_in kept.ledger device page) refl some
  where
    by : (own : Option Pair) → lingering_in kept.ledger device page ≡ own → IsSome own → (page : ℕ) × ((pair : Pair) × (Holds h device page pair ⊎ Lingers h device page pair))
    by None e some = absurd (false≢true some)
    by (Some own) e some =
        (page, (named_pair kept.names.keys own, inr ((lingers_of_past kept h past device page (named_pair kept.names.keys own)).0 (ap (option_map (named_pair kept.names.keys)) e))))

pub held_somewhere : (kept : KeptGrants) (h : History) → IsPastOf kept h → (device page : ℕ) (pair : Pair) → Holds h device page pair → IsSome (held_in kept.ledger device page)
unfolding held_by
held_somewhere kept h past device page pair held = by (held_in kept.ledger device page) refl (held_of_past kept h past device page ∙ held)
  where
    by : (own : Option Pair) → held_in kept.ledger device page ≡ own → held_by kept device page ≡ Some pair → IsSome (held_in kept.ledger device page)
    by None e held = let none : None ≡ Some pair = sym (ap (option_map (named_pair kept.names.keys)) e) ∙ held in cc
    by (Some own) e held = ap is_some e

pub lingers_somewhere : (kept : KeptGrants) (h : History) → IsPastOf kept h → (device page : ℕ) (pair : Pair) → Lingers h device page pair → IsSome (lingering_in kept.ledger device page)
unfolding lingering_by
lingers_somewhere kept h past device page pair lingers = by (lingering_in kept.ledger device page) refl ((lingers_of_past kept h past device page pair).1 lingers)
  where
    by : (own : Option Pair) → lingering_in kept.ledger device page ≡ own → lingering_by kept device page ≡ Some pair → IsSome (lingering_in kept.ledger device page)
    by None e held = let none : None ≡ Some pair = sym (ap (option_map (named_pair kept.names.keys)) e) ∙ held in cc
    by (Some own) e held = ap is_some e
