-- The indices of a page, level by level.
use Rattle.std.proofs.Common.{◌≡◌, ◌≢◌, ℕ, zero, suc, ◌+◌, ◌-◌, ◌*◌, ◌/◌, ◌%◌, ◌^◌, ◌<◌, ◌==◌, ◌&&◌, Bool, true, false, List, ◌∷◌, length, None, Some, if◌then◌else◌, refl, sym, ap, ◌∙◌, subst, arith, eq-eqb}
use Rattle.std.proofs.lemmas.Bool.{ne_eqb}
use Rattle.std.proofs.lemmas.List.{length-replicate}
use Rattle.iom_base.specs.Rights.{allows}
use Rattle.iom_base.specs.declared.access.AccessKind.{AccessKind}
use Rattle.iom_base.specs.declared.rights.Rights.{Rights}
use Rattle.iom_stage_walk.specs.Paths.{first_widths, page_in, pages_spanned}
use Rattle.iom_walk_loads.proofs.PathLemmas.{path_length}
use Rattle.iom_stepped_walk.specs.Indices.{indices_below, indices_from, page_by}

-- as many indices as levels
pub below_length : (level page : ℕ) → length (indices_below level page) ≡ level
below_length level page = path_length (first_widths level) page ∙ length-replicate {A = ℕ} level 512

-- how many pages an entry of this level spans
pub span_is : (level page : ℕ) → level < 4 → pages_spanned (indices_below level page) ≡ 512 ^ level
span_is zero page small = refl
span_is (suc zero) page small = refl
span_is (suc (suc zero)) page small = refl
span_is (suc (suc (suc zero))) page small = refl
span_is (suc (suc (suc (suc level)))) page small = absurd (omega (arith, small))

-- which of them the page is
pub page_in_is : (level page : ℕ) → level < 4 → page_in (indices_below level page) ≡ page % 512 ^ level
page_in_is zero page small = omega arith
page_in_is (suc zero) page small = omega arith
page_in_is (suc (suc zero)) page small = omega arith
page_in_is (suc (suc (suc zero))) page small = omega arith
page_in_is (suc (suc (suc (suc level)))) page small = absurd (omega (arith, small))

-- the indices below a level are those from the next one on
pub indices_from_next : (level page : ℕ) → indices_below (suc level) page ≡ indices_from false level page
indices_from_next level page = ap (λ n. page / 512 ^ n % 512 ∷ indices_below level page) (length-replicate {A = ℕ} level 512)

pub indices_from_below : (level page : ℕ) → 0 < level → indices_below level page ≡ indices_from false (level - 1) page
indices_from_below zero page some = absurd (omega (arith, some))
indices_from_below (suc level) page some = let e : suc level - 1 ≡ level = omega arith in rw e (indices_from_next level page)

-- a leaf whose base isn't aligned to what it spans gives no page
pub crooked_gives_none : (kind : AccessKind) (base : ℕ) (rights : Rights) (level page span : ℕ) → level < 4 → span ≡ 512 ^ level → base % span ≢ 0
    → None ≡ page_by kind base rights (indices_below level page)
crooked_gives_none kind base rights level page span small spans crooked =
    sym (ap (λ b. if b && allows rights kind then Some (base + page_in (indices_below level page)) else None)
    (ne_eqb (base % pages_spanned (indices_below level page)) 0 (subst (λ n. base % n ≢ 0) (spans ∙ sym (span_is level page small)) crooked)))

-- nor does one that doesn't allow the access
pub denied_gives_none : (kind : AccessKind) (base : ℕ) (rights : Rights) (below : List ℕ) → allows rights kind ≡ false → None ≡ page_by kind base rights below
denied_gives_none kind base rights below denied = by (base % pages_spanned below == 0) (allows rights kind) denied
  where
    by : (b a : Bool) → a ≡ false → None ≡ (if b && a then Some (base + page_in below) else None)
    by true a is = ap (λ a. if a then Some (base + page_in below) else None) (sym is)
    by false a is = refl

-- any other gives the page
pub lawful_gives_page : (kind : AccessKind) (base : ℕ) (rights : Rights) (level page span : ℕ) → level < 4 → span ≡ 512 ^ level → base % span ≡ 0 → allows rights kind ≡ true
    → Some (base + page % span) ≡ page_by kind base rights (indices_below level page)
lawful_gives_page kind base rights level page span small spans aligned allowed =
    ap (λ n. Some (base + n)) (ap (λ n. page % n) spans ∙ sym (page_in_is level page small))
    ∙ sym (ap (λ b. if b && allows rights kind then Some (base + page_in (indices_below level page)) else None)
    (eq-eqb (base % pages_spanned (indices_below level page)) 0 (subst (λ n. base % n ≡ 0) (spans ∙ sym (span_is level page small)) aligned))
    ∙ ap (λ b. if b then Some (base + page_in (indices_below level page)) else None) allowed)

-- an index within a table of 512 entries
pub slot_mod : (table x : ℕ) → (512 * table + x % 512) % 512 ≡ x % 512
slot_mod table x = omega arith
