-- Steps of a path, as a walk takes them.
use Rattle.std.proofs.Common.{◌≡◌, ◌+◌, ◌-◌, ◌<◌, inl, inr, ℕ, List, ◌∷◌, length, take, drop, get_or, sym, refl, arith, add-one, drop-cons, length-drop}
use Rattle.std.proofs.lemmas.List.{take_all}
use Rattle.iom_base.specs.declared.access.AccessKind.{AccessKind}
use Rattle.iom_base.specs.declared.cause.Cause.{Cause}
use Rattle.iom_base.specs.declared.rights.Rights.{Rights}
use Rattle.iom_stage_walk.specs.Entries.{Entries, slot}
use Rattle.iom_stage_walk.specs.Paths.{IsLawfulLeaf, IsUnlawfulLeaf, Reaches, leaf_level, StopsAs}
use Rattle.iom_stage_walk.specs.declared.entry.Entry.TheVariants.{Outside, Invalid, Pointer, Leaf}

-- the rest from index k on begins with index k
pub rest_is : (is : List ℕ) (k d : ℕ) → k < length is → drop k is ≡ get_or is k d ∷ drop (k + 1) is
rest_is is k d lt = rw (add-one) (drop-cons is k d lt)

-- a slice from index n on, as the code has it
pub tail_is : (is : List ℕ) (n : ℕ) → take (length is - n) (drop n is) ≡ drop n is
tail_is is n = take_all (length is - n) (drop n is) (omega (arith, length-drop n is))

module _ (e : Entries) (kind : AccessKind) (page access : Cause) (table k d : ℕ) (is : List ℕ) (lt : k < length is) where
  pub reaches_down : (next frame : ℕ) (given : Rights) → Pointer next ≡ e (slot table (get_or is k d)) → Reaches e kind next (drop (k + 1) is) frame given → Reaches e kind table (drop k is) frame given
  reaches_down next frame given at h = rw (rest_is is k d lt) (inl (next, sym at, h))

  pub level_down : (next : ℕ) → Pointer next ≡ e (slot table (get_or is k d)) → leaf_level e table (drop k is) ≡ leaf_level e next (drop (k + 1) is)
  level_down next at = rw (rest_is is k d lt, sym at) refl

  pub level_leaf : (base : ℕ) (rights : Rights) → Leaf base rights ≡ e (slot table (get_or is k d))
      → leaf_level e table (drop k is) ≡ length (take (length is - (k + 1)) (drop (k + 1) is))
  level_leaf base rights at = rw (rest_is is k d lt, sym at, tail_is is (k + 1)) refl

  pub stops_down : (next : ℕ) (cause : Cause) → Pointer next ≡ e (slot table (get_or is k d)) → StopsAs e kind page access next (drop (k + 1) is) cause → StopsAs e kind page access table (drop k is) cause
  stops_down next cause at h = rw (rest_is is k d lt) (inl (next, sym at, h))

  pub stops_outside : Outside ≡ e (slot table (get_or is k d)) → StopsAs e kind page access table (drop k is) access
  stops_outside at = rw (rest_is is k d lt) (inr (inl (sym at, refl)))

  pub stops_invalid : Invalid ≡ e (slot table (get_or is k d)) → StopsAs e kind page access table (drop k is) page
  stops_invalid at = rw (rest_is is k d lt) (inr (inr (inl (sym at, refl))))

  pub leaf_ok : (base : ℕ) (rights : Rights) (frame : ℕ) (given : Rights) → Leaf base rights ≡ e (slot table (get_or is k d))
      → IsLawfulLeaf kind base rights (take (length is - (k + 1)) (drop (k + 1) is)) frame given
      → Reaches e kind table (drop k is) frame given
  leaf_ok base rights frame given at h = rw (rest_is is k d lt) (inr (base, rights, sym at, rw (← tail_is is (k + 1)) h))

  pub leaf_err : (base : ℕ) (rights : Rights) → Leaf base rights ≡ e (slot table (get_or is k d))
      → IsUnlawfulLeaf kind base rights (take (length is - (k + 1)) (drop (k + 1) is))
      → StopsAs e kind page access table (drop k is) page
  leaf_err base rights at h = rw (rest_is is k d lt) (inr (inr (inr (base, rights, sym at, refl, rw (← tail_is is (k + 1)) h))))
