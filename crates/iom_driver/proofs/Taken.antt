-- The owners, once the chosen frames become pages of the directory and a device's root.
use Rattle.std.proofs.Common.{◌≡◌, ◌≢◌, ◌<◌, ◌∙◌, inl, inr, ℕ, true, false, List, ◌++◌, length, Option, Some, None, slice_get, refl, sym, ap, subst}
use Rattle.iom_base.specs.declared.owner.Owner.{Owner}
use Rattle.iom_base.specs.declared.owner.Owner.TheVariants.{OneDevice, System}
use Rattle.iom_ledger.specs.declared.ledger.Ledger.{Ledger}
use Rattle.iom_table_frames.specs.Owners.{has_owner, IsFreeForTable}
use Rattle.iom_driver.specs.Choices.{owned_by}
use Rattle.iom_driver.proofs.Chosen.{AreChosen}
use Rattle.iom_driver.proofs.Lists.{get_there}
use Rattle.iom_driver.proofs.Owners.{Among, NotAmong, not_among, not_among_left, not_among_right, among_either, among_all, all_among, length-owned_by, mark_stays}

-- a frame that isn't owned has no owner
pub unmarked : (owners : List (Option Owner)) (n : ℕ) → n < length owners → has_owner owners n ≡ false → slice_get owners n ≡ Some None
unmarked owners n lt free = by (get_there owners n lt) free
  where
    by : (m : Option Owner) × (slice_get owners n ≡ Some m) → has_owner owners n ≡ false → slice_get owners n ≡ Some None
    by (None, at) free = at
    by (Some owner, at) free = absurd (contra (rw at at free))
      where
        contra : true ≡ false → ⊥
        contra e = cc

-- a frame that is somebody's isn't one that is nobody's
pub owned_differs : (owners : List (Option Owner)) (n free : ℕ) (owner : Owner) → slice_get owners n ≡ Some (Some owner) → slice_get owners free ≡ Some None → n ≢ free
owned_differs owners n free owner own none e =
    let both : ◌≡◌ {A = Option (Option Owner)} (Some (Some owner)) (Some None) = sym own ∙ ap (λ j. slice_get owners j) e ∙ none in cc

-- a frame that is somebody's isn't chosen
pub owned_not_chosen : (owners : List (Option Owner)) (ledger : Ledger) (named : Option ℕ) (limit count n : ℕ) (chosen : List ℕ) (owner : Owner) → length owners ≡ limit
    → AreChosen owners ledger named limit count chosen → slice_get owners n ≡ Some (Some owner) → NotAmong n chosen
owned_not_chosen owners ledger named limit count n chosen owner long chose mark =
    not_among (λ t. (t < limit) × IsFreeForTable owners ledger named t) n chosen (λ k d lt. (chose.inside k d lt, chose.free k d lt))
    (λ is_free. owned_differs owners n n owner mark (unmarked owners n (subst (λ m. n < m) (sym long) is_free.0) is_free.1.unmarked) refl)

-- the owners: the pages are the system's, and the root's frames the device's
abbrev pub taken_owners : ℕ → List ℕ → List ℕ → List (Option Owner) → List (Option Owner)
taken_owners id pages roots owners = owned_by (OneDevice id) roots (owned_by System pages owners)

pub length-taken : (id : ℕ) (pages roots : List ℕ) (owners : List (Option Owner)) → length (taken_owners id pages roots owners) ≡ length owners
length-taken id pages roots owners = length-owned_by (OneDevice id) roots (owned_by System pages owners) ∙ length-owned_by System pages owners

-- another frame keeps its owner
pub taken_stays : (id n : ℕ) (pages roots : List ℕ) (owners : List (Option Owner)) → NotAmong n (pages ++ roots) → slice_get (taken_owners id pages roots owners) n ≡ slice_get owners n
taken_stays id n pages roots owners apart =
    mark_stays (OneDevice id) n roots (owned_by System pages owners) (not_among_right n pages roots apart) ∙ mark_stays System n pages owners (not_among_left n pages roots apart)

-- The frames that an attach takes: the directory's pages, and those of the root, below them.
pub record AreTaken (owners : List (Option Owner)) (ledger : Ledger) (frames count : ℕ) (pages roots : List ℕ) : Type 0 where
  pub chosen : AreChosen owners ledger None frames count pages
  pub inside : (f : ℕ) → Among f roots → f < frames
  pub free : (f : ℕ) → Among f roots → IsFreeForTable owners ledger None f
  pub apart : (f : ℕ) → Among f roots → NotAmong f pages

-- each of them is a free frame of memory
pub taken_inside : (owners : List (Option Owner)) (ledger : Ledger) (frames count : ℕ) (pages roots : List ℕ) → AreTaken owners ledger frames count pages roots
    → (n : ℕ) → Among n (pages ++ roots) → n < frames
taken_inside owners ledger frames count pages roots taken n here = elim (among_either n pages roots here) [
  | inl page ↦ among_all (λ f. f < frames) n pages taken.chosen.inside page
  | inr root ↦ taken.inside n root
]

pub taken_free : (owners : List (Option Owner)) (ledger : Ledger) (frames count : ℕ) (pages roots : List ℕ) → AreTaken owners ledger frames count pages roots
    → (n : ℕ) → Among n (pages ++ roots) → IsFreeForTable owners ledger None n
taken_free owners ledger frames count pages roots taken n here = elim (among_either n pages roots here) [
  | inl page ↦ among_all (λ f. IsFreeForTable owners ledger None f) n pages taken.chosen.free page
  | inr root ↦ taken.free n root
]

-- so a frame that is somebody's isn't taken
pub owned_not_taken : (owners : List (Option Owner)) (ledger : Ledger) (frames count n : ℕ) (pages roots : List ℕ) (owner : Owner) → length owners ≡ frames
    → AreTaken owners ledger frames count pages roots → slice_get owners n ≡ Some (Some owner) → NotAmong n (pages ++ roots)
owned_not_taken owners ledger frames count n pages roots owner long taken mark =
    not_among (λ t. (t < frames) × IsFreeForTable owners ledger None t) n (pages ++ roots)
    (all_among (λ t. (t < frames) × IsFreeForTable owners ledger None t) (pages ++ roots)
    (λ f here. (taken_inside owners ledger frames count pages roots taken f here, taken_free owners ledger frames count pages roots taken f here)))
    (λ is_free. owned_differs owners n n owner mark (unmarked owners n (subst (λ m. n < m) (sym long) is_free.0) is_free.1.unmarked) refl)
