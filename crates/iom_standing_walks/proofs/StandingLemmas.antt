-- Tables in hand.
use Rattle.std.proofs.Common.{◌≡◌, ℕ, inl, inr, List, [], ◌∷◌, ◌++◌, refl, sym, ◌∙◌, subst}
use Rattle.iom_base.specs.declared.access.AccessKind.{AccessKind}
use Rattle.iom_base.specs.declared.cause.Cause.{Cause}
use Rattle.iom_base.specs.declared.rights.Rights.{Rights}
use Rattle.iom_stage_walk.specs.Entries.{Entries, slot}
use Rattle.iom_stage_walk.specs.Paths.{Reaches, StopsAs}
use Rattle.iom_stage_walk.specs.declared.entry.Entry.TheVariants.{Invalid, Leaf, Outside, Pointer}
use Rattle.iom_standing_walks.specs.Standing.{PointersUnchanged, StandingStays, StandingWalksAreOfNow}
use Rattle.iom_page_table.specs.Trees.{IsTableAt}

module _ (e : Entries) (kind : AccessKind) (page access : Cause) where
  reaches_now : (root table : ℕ) (done below : List ℕ) → IsTableAt e root done table → (f : ℕ) (r : Rights) → Reaches e kind root (done ++ below) f r → Reaches e kind table below f r
  reaches_now root table [] below same f r reaches = subst (λ t. Reaches e kind t below f r) (sym same) reaches
  reaches_now root table (i ∷ done) below (next, at, rest) f r (inl (other, there, reaches)) =
      let both : Pointer other ≡ Pointer next = sym there ∙ at in
      let same : other ≡ next = cc in
      reaches_now next table done below rest f r (subst (λ t. Reaches e kind t (done ++ below) f r) same reaches)
  reaches_now root table (i ∷ done) below (next, at, rest) f r (inr (base, rights, there, lawful)) =
      let never : Pointer next ≡ Leaf base rights = sym at ∙ there in cc

  reaches_then : (root table : ℕ) (done below : List ℕ) → IsTableAt e root done table → (f : ℕ) (r : Rights) → Reaches e kind table below f r → Reaches e kind root (done ++ below) f r
  reaches_then root table [] below same f r reaches = subst (λ t. Reaches e kind t below f r) same reaches
  reaches_then root table (i ∷ done) below (next, at, rest) f r reaches = inl (next, at, reaches_then next table done below rest f r reaches)

  stops_now : (root table : ℕ) (done below : List ℕ) → IsTableAt e root done table → (c : Cause) → StopsAs e kind page access root (done ++ below) c → StopsAs e kind page access table below c
  stops_now root table [] below same c stops = subst (λ t. StopsAs e kind page access t below c) (sym same) stops
  stops_now root table (i ∷ done) below (next, at, rest) c (inl (other, there, stops)) =
      let both : Pointer other ≡ Pointer next = sym there ∙ at in
      let same : other ≡ next = cc in
      stops_now next table done below rest c (subst (λ t. StopsAs e kind page access t (done ++ below) c) same stops)
  stops_now root table (i ∷ done) below (next, at, rest) c (inr (inl (there, is))) = let never : Pointer next ≡ Outside = sym at ∙ there in cc
  stops_now root table (i ∷ done) below (next, at, rest) c (inr (inr (inl (there, is)))) = let never : Pointer next ≡ Invalid = sym at ∙ there in cc
  stops_now root table (i ∷ done) below (next, at, rest) c (inr (inr (inr (base, rights, there, is, unlawful)))) = let never : Pointer next ≡ Leaf base rights = sym at ∙ there in cc

  stops_then : (root table : ℕ) (done below : List ℕ) → IsTableAt e root done table → (c : Cause) → StopsAs e kind page access table below c → StopsAs e kind page access root (done ++ below) c
  stops_then root table [] below same c stops = subst (λ t. StopsAs e kind page access t below c) same stops
  stops_then root table (i ∷ done) below (next, at, rest) c stops = inl (next, at, stops_then next table done below rest c stops)

pub standing_walks_are_of_now : StandingWalksAreOfNow
standing_walks_are_of_now e kind page access root table done below at = (
  (λ f r. (reaches_now e kind page access root table done below at f r, reaches_then e kind page access root table done below at f r)),
  (λ c. (stops_now e kind page access root table done below at c, stops_then e kind page access root table done below at c)),
)

-- the next table
pub table_push : (e : Entries) (root table : ℕ) (done : List ℕ) → IsTableAt e root done table → (i next : ℕ) → e (slot table i) ≡ Pointer next → IsTableAt e root (done ++ i ∷ []) next
table_push e root table [] same i next at = (next, subst (λ t. e (slot t i) ≡ Pointer next) same at, refl)
table_push e root table (j ∷ done) (middle, there, rest) i next at = (middle, there, table_push e middle table done rest i next at)

stays_from : (old new : Entries) (root : ℕ) → PointersUnchanged old new root → (prefix : List ℕ) (here table : ℕ) (is : List ℕ) → IsTableAt old root prefix here → IsTableAt old here is table → IsTableAt new here is table
stays_from old new root stay prefix here table [] before same = same
stays_from old new root stay prefix here table (i ∷ is) before (next, at, rest) =
    (next, stay prefix here i next before at, stays_from old new root stay (prefix ++ i ∷ []) next table is (table_push old root here prefix before i next at) rest)

pub standing_stays : StandingStays
standing_stays old new root table done at = ((λ stay. stays_from old new root stay [] root table done refl at), table_push old root table done at)
