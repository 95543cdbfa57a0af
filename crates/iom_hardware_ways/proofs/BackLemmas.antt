-- Where a walk by the formats leads, a path of the hardware reaches.
use Rattle.std.proofs.Common.{◌≡◌, ◌+◌, ◌*◌, ◌/◌, ◌%◌, ◌<◌, ◌==◌, ◌∙◌, inl, inr, ℕ, Bool, true, false, List, [], ◌∷◌, map, slice_get, if◌then◌else◌, refl, sym, ap, subst, arith}
use Rattle.std.proofs.lemmas.Bool.{eqb-true}
use Rattle.std.proofs.lemmas.Bool.Decides.{leb_tells}
use Rattle.iom_base.specs.Rights.{allows}
use Rattle.iom_base.specs.Sizes.{levels_of}
use Rattle.iom_base.specs.declared.access.AccessKind.{AccessKind}
use Rattle.iom_base.specs.declared.rights.Rights.{Rights}
use Rattle.iom_base.specs.declared.size.Size.{Size}
use Rattle.iom_base.specs.declared.size.Size.TheVariants.{Sv39, Sv48}
use Rattle.iom_stage_walk.specs.Entries.{entries, slot}
use Rattle.iom_stage_walk.specs.Paths.{Reaches, leaf_level, IsLawfulLeaf, IsCanonical, pages_spanned, page_in, path_of, first_widths, first_path}
use Rattle.iom_stage_walk.specs.Second.{IsGuestPhysical, second_widths, second_path}
use Rattle.iom_stage_walk.specs.declared.entry.Entry.{Entry}
use Rattle.iom_stage_walk.specs.declared.entry.Entry.TheVariants as entry
use Rattle.iom_reach.specs.Memory.{Nothing, Leaf, Goes, Ends}
use Rattle.iom_reach.specs.Scene.{Mapping}
use Rattle.iom_hardware_ways.specs.Formats.{index_of, step_at, found_leaf, found_entry, entry_format}
use Rattle.iom_hardware_ways.specs.Laws.{FirstStagesAreReached, SecondStagesAreReached}
use Rattle.iom_hardware_ways.proofs.PageIndices.{three, four}
use Rattle.iom_hardware_ways.proofs.FormatLemmas.{entry_there, indices_back}

-- a leaf that is found is lawful
leaf_back : (kind : AccessKind) (base : ℕ) (rights : Rights) (below : List ℕ) (On : ℕ → Type 0) (mapping : Mapping) → allows mapping.rights kind ≡ true
    → Goes (found_leaf base rights (map index_of (map step_at below))) On (λ said. said ≡ mapping) → IsLawfulLeaf kind base rights below mapping.frame mapping.rights
leaf_back kind base rights below On mapping allowed goes = by (base % pages_spanned below == 0) refl (subst (λ is. Goes (found_leaf base rights is) On (λ said. said ≡ mapping)) (indices_back below) goes)
  where
    own : Mapping
    own = record { frame = base + page_in below; rights = rights }

    by : (b : Bool) → (base % pages_spanned below == 0) ≡ b → Goes {X = Mapping} (if b then Leaf (record { frame = base + page_in below; rights = rights }) else Nothing) On (λ said. said ≡ mapping)
        → IsLawfulLeaf kind base rights below mapping.frame mapping.rights
    by true e same = record {
      aligned = eqb-true (base % pages_spanned below) 0 e;
      allowed = ap (λ (m : Mapping). allows m.rights kind) same ∙ allowed;
      page = sym (ap (λ (m : Mapping). m.frame) same);
      same = sym (ap (λ (m : Mapping). m.rights) same);
    }
    by false e never = absurd never

-- a walk that ends at a mapping is a path that reaches it
ends_reaches : (memory : List (List ℕ)) (kind : AccessKind) (table : ℕ) (is : List ℕ) (mapping : Mapping) → allows mapping.rights kind ≡ true
    → Ends entry_format (slice_get memory) table (map step_at is) mapping → Reaches (entries memory) kind table is mapping.frame mapping.rights
ends_reaches memory kind table [] mapping allowed never = absurd never
ends_reaches memory kind table (i ∷ below) mapping allowed ends =
    by (entries memory (slot table i)) refl
    (λ next rest. ends_reaches memory kind next below mapping allowed rest)
    (subst (λ e. Goes (found_entry e (map step_at below)) (λ next. Ends entry_format (slice_get memory) next (map step_at below) mapping) (λ said. said ≡ mapping)) (sym (entry_there memory table i)) ends)
  where
    by : (e : Entry) → entries memory (slot table i) ≡ e
        → ((next : ℕ) → Ends entry_format (slice_get memory) next (map step_at below) mapping → Reaches (entries memory) kind next below mapping.frame mapping.rights)
        → Goes (found_entry e (map step_at below)) (λ next. Ends entry_format (slice_get memory) next (map step_at below) mapping) (λ said. said ≡ mapping)
        → Reaches (entries memory) kind table (i ∷ below) mapping.frame mapping.rights
    by entry.Outside at later never = absurd never
    by entry.Invalid at later never = absurd never
    by (entry.Pointer next) at later goes = inl (next, at, later next goes)
    by (entry.Leaf base rights) at later goes =
        inr (base, rights, at, leaf_back kind base rights below (λ next. Ends entry_format (slice_get memory) next (map step_at below) mapping) mapping allowed goes)

-- ADDRESSES

-- an address that is lawful and has the page's path
abbrev IsOfPage : Size → ℕ → ℕ → Type 0
IsOfPage size page address = IsCanonical (levels_of size) address × (first_path (levels_of size) address ≡ path_of (first_widths (levels_of size)) page)

first_39 : (page n : ℕ) → n ≡ page % 134217728 → (address : ℕ) × IsOfPage Sv39 page address
first_39 page n is = elim (leb_tells 67108864 n) [
  | inl (tested, upper) ↦ ((4503599493152768 + n) * 4096, (inr (omega (arith, upper)), three ((4503599493152768 + n) * 4096 / 4096 / 262144 % 512) ((4503599493152768 + n) * 4096 / 4096 / 512 % 512) ((4503599493152768 + n) * 4096 / 4096 / 1 % 512) (page / 262144 % 512) (page / 512 % 512) (page / 1 % 512) (omega (arith, is)) (omega (arith, is)) (omega (arith, is))))
  | inr (tested, lower) ↦ (n * 4096, (inl (omega (arith, lower)), three (n * 4096 / 4096 / 262144 % 512) (n * 4096 / 4096 / 512 % 512) (n * 4096 / 4096 / 1 % 512) (page / 262144 % 512) (page / 512 % 512) (page / 1 % 512) (omega (arith, is)) (omega (arith, is)) (omega (arith, is))))
]

first_48 : (page n : ℕ) → n ≡ page % 68719476736 → (address : ℕ) × IsOfPage Sv48 page address
first_48 page n is = elim (leb_tells 34359738368 n) [
  | inl (tested, upper) ↦ ((4503530907893760 + n) * 4096, (inr (omega (arith, upper)), four ((4503530907893760 + n) * 4096 / 4096 / 134217728 % 512) ((4503530907893760 + n) * 4096 / 4096 / 262144 % 512) ((4503530907893760 + n) * 4096 / 4096 / 512 % 512) ((4503530907893760 + n) * 4096 / 4096 / 1 % 512) (page / 134217728 % 512) (page / 262144 % 512) (page / 512 % 512) (page / 1 % 512) (omega (arith, is)) (omega (arith, is)) (omega (arith, is)) (omega (arith, is))))
  | inr (tested, lower) ↦ (n * 4096, (inl (omega (arith, lower)), four (n * 4096 / 4096 / 134217728 % 512) (n * 4096 / 4096 / 262144 % 512) (n * 4096 / 4096 / 512 % 512) (n * 4096 / 4096 / 1 % 512) (page / 134217728 % 512) (page / 262144 % 512) (page / 512 % 512) (page / 1 % 512) (omega (arith, is)) (omega (arith, is)) (omega (arith, is)) (omega (arith, is))))
]

of_page : (size : Size) (page : ℕ) → (address : ℕ) × IsOfPage size page address
of_page Sv39 page = first_39 page (page % 134217728) refl
of_page Sv48 page = first_48 page (page % 68719476736) refl

-- the same of a guest physical address
abbrev IsOfGuestPage : Size → ℕ → ℕ → Type 0
IsOfGuestPage size page address = IsGuestPhysical (levels_of size) address × (second_path (levels_of size) address ≡ path_of (second_widths (levels_of size)) page)

second_39 : (page n : ℕ) → n ≡ page % 536870912 → n < 536870912 → (address : ℕ) × IsOfGuestPage Sv39 page address
second_39 page n is low = (n * 4096, (omega (arith, low), three (n * 4096 / 4096 / 262144 % 2048) (n * 4096 / 4096 / 512 % 512) (n * 4096 / 4096 / 1 % 512) (page / 262144 % 2048) (page / 512 % 512) (page / 1 % 512) (omega (arith, is)) (omega (arith, is)) (omega (arith, is))))

second_48 : (page n : ℕ) → n ≡ page % 274877906944 → n < 274877906944 → (address : ℕ) × IsOfGuestPage Sv48 page address
second_48 page n is low = (n * 4096, (omega (arith, low), four (n * 4096 / 4096 / 134217728 % 2048) (n * 4096 / 4096 / 262144 % 512) (n * 4096 / 4096 / 512 % 512) (n * 4096 / 4096 / 1 % 512) (page / 134217728 % 2048) (page / 262144 % 512) (page / 512 % 512) (page / 1 % 512) (omega (arith, is)) (omega (arith, is)) (omega (arith, is)) (omega (arith, is))))

of_guest_page : (size : Size) (page : ℕ) → (address : ℕ) × IsOfGuestPage size page address
of_guest_page Sv39 page = second_39 page (page % 536870912) refl (omega arith)
of_guest_page Sv48 page = second_48 page (page % 274877906944) refl (omega arith)

-- WHAT IS REACHED

pub first_stages_are_reached : FirstStagesAreReached
first_stages_are_reached size memory root kind mapping (page, ends) inside allowed =
    let (address, (canonical, same)) = of_page size page in (
      address,
      leaf_level (entries memory) root (first_path (levels_of size) address),
      record {
        canonical = canonical;
        path = subst (λ is. Reaches (entries memory) kind root is mapping.frame mapping.rights) (sym same)
            (ends_reaches memory kind root (path_of (first_widths (levels_of size)) page) mapping allowed ends);
        inside = inside;
        level = refl;
        no_guest = refl;
      },
    )

pub second_stages_are_reached : SecondStagesAreReached
second_stages_are_reached size memory root kind mapping (page, ends) inside allowed =
    let (address, (physical, same)) = of_guest_page size page in (
      address,
      leaf_level (entries memory) root (second_path (levels_of size) address),
      record {
        leads = record {
          guest_physical = physical;
          path = subst (λ is. Reaches (entries memory) kind root is mapping.frame mapping.rights) (sym same)
              (ends_reaches memory kind root (path_of (second_widths (levels_of size)) page) mapping allowed ends);
          inside = inside;
        };
        level = refl;
        no_guest = refl;
      },
    )
