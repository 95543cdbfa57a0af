-- What a look finds: an entry of its page, and where no page has two that one.
use Rattle.std.proofs.Common.{◌≡◌, ◌≢◌, ◌⊎◌, ◌↔◌, inl, inr, ◌∙◌, ℕ, suc, Bool, true, false, nat_eq, List, [], ◌∷◌, Some, None, refl, sym, ap, subst, arith, if◌then◌else◌}
use Rattle.std.specs.List.{All, Contains}
use Rattle.std.proofs.lemmas.List.Elements.{All-head, All-tail, All-contains_itself, Contains-append_cases, Contains-push_cases}
use Rattle.std.proofs.lemmas.Bool.{eqb-true, eq-eqb}
use Rattle.iom_base.specs.declared.access.AccessKind.{AccessKind}
use Rattle.iom_base.specs.declared.rights.Rights.{Rights}
use Rattle.iom_base.specs.Rights.{allows}
use Rattle.iom_ats_cache.specs.declared.entry.Entry.{Entry}
use Rattle.iom_ats_cache.specs.Cache.{Cache, entry_for_page, frame_if_allowed, frame_for, AreOfDistinctPages, AreEntries}

-- what a look finds is one of the entries
module _ (P : Entry → Type 0) (page : ℕ) (kind : AccessKind) (frame : ℕ) where
  abbrev IsFound : Type 0
  IsFound = (entry : Entry) × (entry.page ≡ page) × (entry.frame ≡ frame) × (allows entry.rights kind ≡ true) × P entry

  allowed : (entry : Entry) → entry.page ≡ page → P entry → (b : Bool) → allows entry.rights kind ≡ b → (if b then Some entry.frame else None) ≡ Some frame → IsFound
  allowed entry same holds true allow found = (entry, same, cc, allow, holds)
  allowed entry same holds false allow found = absurd cc

  pub found_is : (entries : List Entry) → All P entries → frame_if_allowed (entry_for_page entries page) kind ≡ Some frame → IsFound
  found_is [] all found = absurd cc
  found_is (entry ∷ entries) all found = by (nat_eq entry.page page) refl found (found_is entries (All-tail P entry entries all))
    where
      by : (b : Bool) → nat_eq entry.page page ≡ b
          → frame_if_allowed (if b then Some entry else entry_for_page entries page) kind ≡ Some frame
          → (frame_if_allowed (entry_for_page entries page) kind ≡ Some frame → IsFound)
          → IsFound
      by true same found later = allowed entry (eqb-true entry.page page same) (All-head P entry entries all) (allows entry.rights kind) refl found
      by false other found later = later found

distinct_tail : (first : Entry) (rest : List Entry) → AreOfDistinctPages (first ∷ rest) → AreOfDistinctPages rest
distinct_tail first rest distinct i j d before below = distinct (suc i) (suc j) d (omega arith) (omega arith)

other_than_first : (first : Entry) (rest : List Entry) (entry : Entry) → AreOfDistinctPages (first ∷ rest) → Contains rest entry → first.page ≢ entry.page
other_than_first first rest entry distinct at same =
    distinct 0 (suc at.0) entry (omega arith) (let below = at.1 in omega arith) (same ∙ ap (λ e. e.page) (sym at.2))

first_or_rest : (first : Entry) (rest : List Entry) (entry : Entry) → Contains (first ∷ rest) entry → (first ≡ entry) ⊎ Contains rest entry
first_or_rest first rest entry at = elim (Contains-append_cases (first ∷ []) rest entry at) [
  | inl one ↦ elim (Contains-push_cases [] first entry one) [
    | inl none ↦ absurd (let below = none.1 in omega arith)
    | inr same ↦ inl same
  ]
  | inr later ↦ inr later
]

-- where no page has two entries, each is its page's
entry_is_found : (entries : List Entry) → AreOfDistinctPages entries → (entry : Entry) → Contains entries entry → entry_for_page entries entry.page ≡ Some entry
entry_is_found [] distinct entry at = absurd (let below = at.1 in omega arith)
entry_is_found (first ∷ rest) distinct entry at =
    by (nat_eq first.page entry.page) refl (first_or_rest first rest entry at) (entry_is_found rest (distinct_tail first rest distinct) entry)
  where
    by : (b : Bool) → nat_eq first.page entry.page ≡ b → (first ≡ entry) ⊎ Contains rest entry → (Contains rest entry → entry_for_page rest entry.page ≡ Some entry)
        → (if b then Some first else entry_for_page rest entry.page) ≡ Some entry
    by true same (inl one) later = ap Some one
    by true same (inr at) later = absurd (other_than_first first rest entry distinct at (eqb-true first.page entry.page same))
    by false other (inl one) later = absurd (let e : nat_eq first.page entry.page ≡ true = eq-eqb first.page entry.page (ap (λ e. e.page) one) in cc)
    by false other (inr at) later = later at

if_allowed : (entry : Entry) (kind : AccessKind) (b : Bool) → allows entry.rights kind ≡ b → b ≡ true → (if b then Some entry.frame else None) ≡ Some entry.frame
if_allowed entry kind true allow is_true = refl
if_allowed entry kind false allow is_true = absurd cc

pub found_exactly : (cache : Cache) → AreEntries cache.entries → (page : ℕ) (kind : AccessKind) (frame : ℕ)
    → (frame_for cache page kind ≡ Some frame)
    ↔ ((rights : Rights) × Contains cache.entries (record { page = page; frame = frame; rights = rights }) × (allows rights kind ≡ true))
found_exactly cache are page kind frame = (
  (λ found.
      let is = found_is (Contains cache.entries) page kind frame cache.entries (All-contains_itself cache.entries) found in
      let entry_at : ℕ → ℕ → Entry = λ p f. record { page = p; frame = f; rights = is.0.rights } in
      (is.0.rights, subst (Contains cache.entries) (λ i. entry_at (is.1 i) (is.2 i)) is.4, is.3)),
  (λ at.
      let entry : Entry = record { page = page; frame = frame; rights = at.0 } in
      ap (λ found. frame_if_allowed found kind) (entry_is_found cache.entries are.distinct entry at.1) ∙ if_allowed entry kind (allows entry.rights kind) refl at.2),
)
