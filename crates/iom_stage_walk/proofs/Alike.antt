-- Two memories that are alike on the entries, or on the frames, of a path.
use Rattle.std.proofs.Common.{◌≡◌, ◌*◌, ◌/◌, ◌∙◌, inl, inr, ℕ, List, [], ◌∷◌, length, slice_get, refl, sym, ap, subst, arith}
use Rattle.std.specs.List.{All}
use Rattle.std.proofs.lemmas.List.Elements.{All-head, All-tail}
use Rattle.iom_base.specs.declared.access.AccessKind.{AccessKind}
use Rattle.iom_base.specs.declared.cause.Cause.{Cause}
use Rattle.iom_base.specs.declared.rights.Rights.{Rights}
use Rattle.iom_stage_walk.specs.Entries.{Entries, entries, slot}
use Rattle.iom_stage_walk.specs.Paths.{Reaches, level_at, leaf_level, StopsAs}
use Rattle.iom_stage_walk.specs.Through.{after_pointer, through}
use Rattle.iom_stage_walk.specs.declared.entry.Entry.{Entry}
use Rattle.iom_stage_walk.specs.declared.entry.Entry.TheVariants.{Outside, Invalid, Pointer, Leaf}

-- the two say the same at each entry that the path from the table along the indices loads
abbrev pub Alike : Entries → Entries → ℕ → List ℕ → Type 0
Alike old new table [] = Unit {0}
Alike old new table (i ∷ is) = (new (slot table i) ≡ old (slot table i)) × ((next : ℕ) → old (slot table i) ≡ Pointer next → Alike old new next is)

pub alike_back : (old new : Entries) (table : ℕ) (is : List ℕ) → Alike old new table is → Alike new old table is
alike_back old new table [] u = tt
alike_back old new table (i ∷ is) u = (sym u.0, λ next at. alike_back old new next is (u.1 next (sym u.0 ∙ at)))

pub alike_reaches : (old new : Entries) (table : ℕ) (is : List ℕ) (kind : AccessKind) (f : ℕ) (r : Rights) → Alike old new table is → Reaches old kind table is f r → Reaches new kind table is f r
alike_reaches old new table [] kind f r u h = h
alike_reaches old new table (i ∷ is) kind f r u h =
    elim h [
      | inl x ↦ inl (x.0, u.0 ∙ x.1, alike_reaches old new x.0 is kind f r (u.1 x.0 x.1) x.2)
      | inr y ↦ inr (y.0, y.1, u.0 ∙ y.2, y.3)
    ]

pub alike_stops : (old new : Entries) (table : ℕ) (is : List ℕ) (kind : AccessKind) (page access c : Cause) → Alike old new table is → StopsAs old kind page access table is c → StopsAs new kind page access table is c
alike_stops old new table [] kind page access c u h = h
alike_stops old new table (i ∷ is) kind page access c u h =
    elim h [
      | inl x ↦ inl (x.0, u.0 ∙ x.1, alike_stops old new x.0 is kind page access c (u.1 x.0 x.1) x.2)
      | inr y ↦ elim y [
        | inl a ↦ inr (inl (u.0 ∙ a.0, a.1))
        | inr z ↦ elim z [
          | inl b ↦ inr (inr (inl (u.0 ∙ b.0, b.1)))
          | inr d ↦ inr (inr (inr (d.0, d.1, u.0 ∙ d.2, d.3, d.4)))
        ]
      ]
    ]

through_entry : (old new : Entries) (x : Entry) (is : List ℕ) → ((next : ℕ) → x ≡ Pointer next → Alike old new next is) → ((next : ℕ) → Alike old new next is → through new next is ≡ through old next is)
    → after_pointer x (λ next. through new next is) ≡ after_pointer x (λ next. through old next is)
through_entry old new Outside is u go = refl
through_entry old new Invalid is u go = refl
through_entry old new (Pointer next) is u go = go next (u next refl)
through_entry old new (Leaf base rights) is u go = refl

pub alike_through : (old new : Entries) (table : ℕ) (is : List ℕ) → Alike old new table is → through new table is ≡ through old table is
alike_through old new table [] u = refl
alike_through old new table (i ∷ is) u =
    ap (λ x. slot table i / 512 ∷ after_pointer x (λ next. through new next is)) u.0
    ∙ ap (λ rest. slot table i / 512 ∷ rest) (through_entry old new (old (slot table i)) is u.1 (λ next v. alike_through old new next is v))

level_entry : (old new : Entries) (x : Entry) (is : List ℕ) → ((next : ℕ) → x ≡ Pointer next → Alike old new next is) → ((next : ℕ) → Alike old new next is → leaf_level new next is ≡ leaf_level old next is)
    → level_at x (length is) (λ next. leaf_level new next is) ≡ level_at x (length is) (λ next. leaf_level old next is)
level_entry old new Outside is u go = refl
level_entry old new Invalid is u go = refl
level_entry old new (Pointer next) is u go = go next (u next refl)
level_entry old new (Leaf base rights) is u go = refl

pub alike_level : (old new : Entries) (table : ℕ) (is : List ℕ) → Alike old new table is → leaf_level new table is ≡ leaf_level old table is
alike_level old new table [] u = refl
alike_level old new table (i ∷ is) u =
    ap (λ x. level_at x (length is) (λ next. leaf_level new next is)) u.0
    ∙ level_entry old new (old (slot table i)) is u.1 (λ next v. alike_level old new next is v)

-- an entry is read from its own frame alone
pub same_entry : (old new : List (List ℕ)) (s : ℕ) → slice_get new (s / 512) ≡ slice_get old (s / 512) → entries new s ≡ entries old s
unfolding entries
same_entry old new s same =
    let frame : 8 * s / 4096 ≡ s / 512 = omega arith in
    let at : slice_get new (8 * s / 4096) ≡ slice_get old (8 * s / 4096) = rw frame same in
    rw at refl

-- memories that are alike on the frames of a path are alike on its entries
pub alike_frames : (old new : List (List ℕ)) (table : ℕ) (is : List ℕ) → All (λ f. slice_get new f ≡ slice_get old f) (through (entries old) table is) → Alike (entries old) (entries new) table is
alike_frames old new table [] all = tt
alike_frames old new table (i ∷ is) all =
    let rest = after_pointer (entries old (slot table i)) (λ next. through (entries old) next is) in
    let P : ℕ → Type 0 = λ f. slice_get new f ≡ slice_get old f in
    let below = All-tail P (slot table i / 512) rest all in (
      same_entry old new (slot table i) (All-head P (slot table i / 512) rest all),
      λ next at. alike_frames old new next is (subst (λ x. All P (after_pointer x (λ n. through (entries old) n is))) at below),
    )
