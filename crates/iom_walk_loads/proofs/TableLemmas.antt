-- A walk in one stage, made from one memory.
use Rattle.std.proofs.Common.{◌≡◌, ℕ, suc, ◌+◌, ◌*◌, ◌%◌, ◌^◌, ◌<◌, inl, inr, Bool, true, false, ◌==◌, ◌||◌, nat_lt, nat_le, List, [], ◌∷◌, length, if◌then◌else◌, refl, ap, subst, arith}
use Rattle.std.proofs.lemmas.Bool.{eqb-true, eqb-false, and_parts, and_cases, or_parts, leb-true, leb-false}
use Rattle.iom_base.specs.Causes.{guest_page_fault_of}
use Rattle.iom_base.specs.Tables.{access_fault_of}
use Rattle.iom_base.specs.Rights.{allows}
use Rattle.iom_base.specs.declared.access.AccessKind.{AccessKind}
use Rattle.iom_base.specs.declared.cause.Cause.{Cause}
use Rattle.iom_base.specs.declared.rights.Rights.{Rights}
use Rattle.iom_phys_mem.specs.Words.{word_at}
use Rattle.iom_stage_walk.specs.Entries.{entries, entry_read, slot}
use Rattle.iom_stage_walk.specs.Paths.{IsCanonical, IsLawfulLeaf, IsUnlawfulLeaf, Reaches, StopsAs, leaf_level, level_at, page_in, pages_spanned}
use Rattle.iom_stage_walk.specs.Second.{LeadsNowhere, LeadsTo, second_path}
use Rattle.iom_stage_walk.specs.declared.entry.Entry.{Entry}
use Rattle.iom_stage_walk.specs.declared.entry.Entry.TheVariants.{Invalid, Leaf, Outside, Pointer}
use Rattle.iom_walk_loads.specs.Loads.{Walk, made_from}
use Rattle.iom_walk_loads.specs.Tables.{at_entry, down, inside, is_canonical, is_lawful, lead}

-- an entry is what its word says
pub entries_are : (m : List (List ℕ)) (s : ℕ) → entries m s ≡ entry_read (word_at 8 m (8 * s))
unfolding entries
entries_are m s = refl

pub lawful_leaf : (kind : AccessKind) (base : ℕ) (rights : Rights) (below : List ℕ) → is_lawful kind base rights below ≡ true → IsLawfulLeaf kind base rights below (base + page_in below) rights
lawful_leaf kind base rights below is =
    let parts = and_parts (base % pages_spanned below == 0) (allows rights kind) is in
    record { aligned = eqb-true (base % pages_spanned below) 0 parts.0; allowed = parts.1; page = refl; same = refl }

pub unlawful_leaf : (kind : AccessKind) (base : ℕ) (rights : Rights) (below : List ℕ) → is_lawful kind base rights below ≡ false → IsUnlawfulLeaf kind base rights below
unlawful_leaf kind base rights below is = elim (and_cases (base % pages_spanned below == 0) (allows rights kind) is) [
  | inl crooked ↦ inl (eqb-false (base % pages_spanned below) 0 crooked)
  | inr denied ↦ inr denied
]

-- Down the tables: what is true wherever the path reaches, and wherever it stops, is true of the walk's end.
pub down_made : {A : Type 0} (m : List (List ℕ)) (kind : AccessKind) (page access : Cause) (P : A → Type 0) (found : ℕ → Rights → ℕ → Walk A) (stopped : Cause → Walk A) (table : ℕ) (is : List ℕ)
    → ((f : ℕ) (r : Rights) → Reaches (entries m) kind table is f r → P (made_from m (found f r (leaf_level (entries m) table is))))
    → ((c : Cause) → StopsAs (entries m) kind page access table is c → P (made_from m (stopped c)))
    → P (made_from m (down kind page access found stopped table is))
down_made m kind page access P found stopped table [] ok err = err page refl
down_made m kind page access P found stopped table (i ∷ below) ok err =
    subst (λ x. P (made_from m (at_entry kind page access found stopped below (λ next. down kind page access found stopped next below) x))) (entries_are m (slot table i))
    (by (entries m (slot table i)) refl (λ next. down_made m kind page access P found stopped next below))
  where
    own_level : (x : Entry) → entries m (slot table i) ≡ x → leaf_level (entries m) table (i ∷ below) ≡ level_at x (length below) (λ next. leaf_level (entries m) next below)
    own_level x at = ap (λ y. level_at y (length below) (λ next. leaf_level (entries m) next below)) at

    leaf : (base : ℕ) (rights : Rights) → entries m (slot table i) ≡ Leaf base rights → (b : Bool) → is_lawful kind base rights below ≡ b
        → P (made_from m (if b then found (base + page_in below) rights (length below) else stopped page))
    leaf base rights at true is =
        subst (λ l. P (made_from m (found (base + page_in below) rights l))) (own_level (Leaf base rights) at) (ok (base + page_in below) rights (inr (base, rights, at, lawful_leaf kind base rights below is)))
    leaf base rights at false is = err page (inr (inr (inr (base, rights, at, refl, unlawful_leaf kind base rights below is))))

    by : (x : Entry) → entries m (slot table i) ≡ x
        → ((next : ℕ) → ((f : ℕ) (r : Rights) → Reaches (entries m) kind next below f r → P (made_from m (found f r (leaf_level (entries m) next below))))
        → ((c : Cause) → StopsAs (entries m) kind page access next below c → P (made_from m (stopped c)))
        → P (made_from m (down kind page access found stopped next below)))
        → P (made_from m (at_entry kind page access found stopped below (λ next. down kind page access found stopped next below) x))
    by Outside at follow = err access (inr (inl (at, refl)))
    by Invalid at follow = err page (inr (inr (inl (at, refl))))
    by (Pointer next) at follow = follow next (λ f r reaches. subst (λ l. P (made_from m (found f r l))) (own_level (Pointer next) at) (ok f r (inl (next, at, reaches)))) (λ c stops. err c (inl (next, at, stops)))
    by (Leaf base rights) at follow = leaf base rights at (is_lawful kind base rights below) refl

-- Through the second stage.
pub lead_made : {A : Type 0} (m : List (List ℕ)) (levels root : ℕ) (kind original : AccessKind) (P : A → Type 0) (found : ℕ → Rights → ℕ → Walk A) (stopped : Cause → Walk A) (address : ℕ)
    → ((f : ℕ) (r : Rights) → LeadsTo levels m root address kind f r → P (made_from m (found f r (leaf_level (entries m) root (second_path levels address)))))
    → ((c : Cause) → LeadsNowhere levels m root address kind original c → P (made_from m (stopped c)))
    → P (made_from m (lead (length m) levels root kind original found stopped address))
lead_made m levels root kind original P found stopped address ok err = by (nat_lt address (2 ^ (9 * levels + 14))) refl
  where
    frame : (f : ℕ) (r : Rights) → address < 2 ^ (9 * levels + 14) → Reaches (entries m) kind root (second_path levels address) f r → (b : Bool) → nat_lt f (length m) ≡ b
        → P (made_from m (if b then found f r (leaf_level (entries m) root (second_path levels address)) else stopped (access_fault_of original)))
    frame f r small path true is = ok f r (record { guest_physical = small; path = path; inside = leb-true (suc f) (length m) is })
    frame f r small path false is =
        let past = leb-false (suc f) (length m) is in
        err (access_fault_of original) (inr (inr (small, (f, r, path, omega (arith, past), refl))))

    by : (b : Bool) → nat_lt address (2 ^ (9 * levels + 14)) ≡ b
        → P (made_from m (if b then down kind (guest_page_fault_of original) (access_fault_of original) (inside (length m) found (stopped (access_fault_of original))) stopped root (second_path levels address)
        else stopped (guest_page_fault_of original)))
    by true is =
        let small : address < 2 ^ (9 * levels + 14) = leb-true (suc address) (2 ^ (9 * levels + 14)) is in
        down_made m kind (guest_page_fault_of original) (access_fault_of original) P (inside (length m) found (stopped (access_fault_of original))) stopped root (second_path levels address)
        (λ f r path. frame f r small path (nat_lt f (length m)) refl)
        (λ c stops. err c (inr (inl (small, stops))))
    by false is = err (guest_page_fault_of original) (inl ((λ small. let past = leb-false (suc address) (2 ^ (9 * levels + 14)) is in omega (arith, small, past)), refl))

-- whether an address is canonical
pub canonical : (levels address : ℕ) → is_canonical levels address ≡ true → IsCanonical levels address
canonical levels address is = by (nat_lt address (2 ^ (9 * levels + 11))) refl is
  where
    by : (b : Bool) → nat_lt address (2 ^ (9 * levels + 11)) ≡ b → (b || nat_le (2 ^ 64) (address + 2 ^ (9 * levels + 11))) ≡ true → IsCanonical levels address
    by true low e = inl (leb-true (suc address) (2 ^ (9 * levels + 11)) low)
    by false low e = inr (leb-true (2 ^ 64) (address + 2 ^ (9 * levels + 11)) e)

pub not_canonical : (levels address : ℕ) → is_canonical levels address ≡ false → IsCanonical levels address → ⊥
not_canonical levels address is lawful = by (or_parts (nat_lt address (2 ^ (9 * levels + 11))) (nat_le (2 ^ 64) (address + 2 ^ (9 * levels + 11))) is) lawful
  where
    by : (nat_lt address (2 ^ (9 * levels + 11)) ≡ false) × (nat_le (2 ^ 64) (address + 2 ^ (9 * levels + 11)) ≡ false) → IsCanonical levels address → ⊥
    by (low, high) (inl below) = let past = leb-false (suc address) (2 ^ (9 * levels + 11)) low in omega (arith, below, past)
    by (low, high) (inr above) = let past = leb-false (2 ^ 64) (address + 2 ^ (9 * levels + 11)) high in omega (arith, above, past)
