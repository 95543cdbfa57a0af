-- The pages at which a device holds something are among those that are listed of it.
use Rattle.std.proofs.Common.{◌≡◌, ◌∙◌, ◌⊎◌, ℕ, suc, List, [], ◌∷◌, Option, None, Some, map, refl, sym, ap, slice_get, nat_eq, inl, inr}
use Rattle.std.specs.Map.{lookup}
use Rattle.std.specs.Option.{option_and_then, option_map_or}
use Rattle.std.proofs.lemmas.Bool.Decides.{eqb_tells}
use Rattle.iom_ledger.specs.Rows.{Pages, pages_in}
use Rattle.iom_ledger.specs.Shown.{held_in, pages_listed}
use Rattle.iom_ledger.specs.declared.page_row.PageRow.{PageRow}
use Rattle.iom_kept_state.specs.Grants.{held_by, pages_by}
use Rattle.iom_kept_state.specs.declared.grants.KeptGrants.{KeptGrants}

-- A page is one of those of some rows, or none of these is its.
listed : (rows : List (ℕ × PageRow)) (page : ℕ)
    → ((k : ℕ) × (slice_get (map (λ (row : ℕ × PageRow). row.0) rows) k ≡ Some page)) ⊎ (lookup (nat_eq page) rows ≡ None)
listed [] page = inr refl
listed (row ∷ rows) page = elim (eqb_tells page row.0) [
  | inl same ↦ inl (0, ap (λ (p : ℕ). Some p) (sym same.1))
  | inr apart ↦ elim (listed rows page) [
    | inl there ↦ inl (suc there.0, there.1)
    | inr none ↦ inr (rw apart.0 none)
  ]
]

-- the same of the pages of a device
listed_of : (pages : Option Pages) (page : ℕ)
    → ((k : ℕ) × (slice_get (map (λ (row : ℕ × PageRow). row.0) (option_map_or (λ (p : Pages). p.entries) pages [])) k ≡ Some page))
    ⊎ (option_and_then (λ (p : Pages). lookup (nat_eq page) p.entries) pages ≡ None)
listed_of None page = inr refl
listed_of (Some pages) page = listed pages.entries page

-- At a page that isn't among those of the device it holds nothing.
held_where_listed : (kept : KeptGrants) (device page : ℕ)
    → ((k : ℕ) × (slice_get (pages_by kept device) k ≡ Some page)) ⊎ (held_by kept device page ≡ None)
unfolding held_by held_in pages_listed
held_where_listed kept device page = elim (listed_of (pages_in kept.ledger.devices.list.items device) page) [
  | inl there ↦ inl there
  | inr none ↦ inr (rw none refl)
]

-- Two devices that hold the same at the pages of the one and at those of the other hold the same at each page.
pub hold_the_same : (kept : KeptGrants) (one other : ℕ)
    → ((k page : ℕ) → slice_get (pages_by kept one) k ≡ Some page → held_by kept one page ≡ held_by kept other page)
    → ((k page : ℕ) → slice_get (pages_by kept other) k ≡ Some page → held_by kept one page ≡ held_by kept other page)
    → (page : ℕ) → held_by kept one page ≡ held_by kept other page
hold_the_same kept one other at_one at_other page = elim (held_where_listed kept one page) [
  | inl there ↦ at_one there.0 page there.1
  | inr none ↦ elim (held_where_listed kept other page) [
    | inl there ↦ at_other there.0 page there.1
    | inr nothing ↦ none ∙ sym nothing
  ]
]
