-- How the map of a disk goes on with its history.
use Rattle.std.proofs.Common.{◌≡◌, ◌≢◌, ℕ, ◌+◌, ◌-◌, ◌*◌, ◌/◌, ◌<◌, ◌≤◌, ◌⊎◌, ◌∙◌, inl, inr, List, [], ◌∷◌, ◌++◌, length, take, drop, slice_get, slice_set, Option, Some, None, sym, subst, arith, length-append, length-drop}
use Rattle.std.proofs.Math.ListN.{set}
use Rattle.std.proofs.lemmas.List.{take_all}
use Rattle.std.proofs.lemmas.Grind.{common_steps}
use Rattle.std.proofs.lemmas.Option.{gets}
use Rattle.std.proofs.lemmas.Bool.{cases_order, cases_lt}
use Rattle.iom_virtio_blk.specs.Disks.{KeepsSectors, DidWrite, Tears}
use Rattle.iom_virtio_blk.specs.DiskStates.{DiskState}
use Rattle.iom_virtio_blk.specs.Histories.{Entry, inserted, gave, failed, Gives, MayHold, IsDisk, IsMap}
use Rattle.iom_virtio_blk.proofs.SectorLemmas.{same_sector}

-- a list with one element put in its place
same_place : (xs : List (List ℕ)) (i n : ℕ) (y z : List ℕ) → i < length xs → n ≡ i → slice_get (set xs i y) n ≡ Some z → z ≡ y
same_place xs i n y z lt e at = grind (arith, common_steps, gets)

other_place : (xs : List (List ℕ)) (i n : ℕ) (y z : List ℕ) → n ≢ i → slice_get (set xs i y) n ≡ Some z → slice_get xs n ≡ Some z
other_place xs i n y z other at = grind (arith, common_steps, gets)

-- a disk as it was put in
pub inserted_lem : (map : List (List ℕ)) → IsDisk (inserted map ∷ []) map
inserted_lem map n bytes at = at

-- an OUT of which no data was read yet
pub IsDisk-begun : (history : List Entry) (map : List (List ℕ)) (first : ℕ) → IsDisk history map → IsDisk (gave first [] ∷ history) map
IsDisk-begun history map first disk n bytes at = inr (inr (omega arith), disk n bytes at)

-- data that is given is given with more data too
Gives-more : (first : ℕ) (xs more : List ℕ) (n : ℕ) (bytes : List ℕ) → Gives first xs n bytes → Gives first (xs ++ more) n bytes
Gives-more first xs more n bytes gives =
    (gives.0, simp length-append (let le : 512 * (n - first) + 512 ≤ length xs = gives.1 in omega arith), gives.2 ∙ sym (same_sector xs more (512 * (n - first)) gives.1))

-- more data, with which no sector is complete
pub IsDisk-more : (history : List Entry) (map : List (List ℕ)) (first : ℕ) (xs more : List ℕ) → length xs / 512 ≡ length (xs ++ more) / 512
    → IsDisk (gave first xs ∷ history) map → IsDisk (gave first (xs ++ more) ∷ history) map
IsDisk-more history map first xs more same disk n bytes at = elim (disk n bytes at) [
  | inl gives ↦ inl (Gives-more first xs more n bytes gives)
  | inr other ↦ inr (
    elim other.0 [
      | inl lt ↦ inl lt
      | inr few ↦ inr (omega arith)
    ],
    other.1,
  )
]

-- what was given may as well have failed
pub IsDisk-failed : (history : List Entry) (map : List (List ℕ)) (first : ℕ) (xs : List ℕ) → IsDisk (gave first xs ∷ history) map → IsDisk (failed first xs ∷ history) map
IsDisk-failed history map first xs disk n bytes at = elim (disk n bytes at) [ inl gives ↦ inl gives | inr other ↦ inr other.1 ]

-- the disk failed at the next sector, which is old
pub IsDisk-unchanged : (history : List Entry) (map : List (List ℕ)) (first : ℕ) (xs more : List ℕ) → IsDisk (gave first xs ∷ history) map → IsDisk (failed first (xs ++ more) ∷ history) map
IsDisk-unchanged history map first xs more disk n bytes at = elim (disk n bytes at) [ inl gives ↦ inl (Gives-more first xs more n bytes gives) | inr other ↦ inr other.1 ]

-- a list's last sector
last_sector : (ys : List ℕ) (k : ℕ) → 512 * k + 512 ≡ length ys → take 512 (drop (512 * k) ys) ≡ drop (512 * k) ys
last_sector ys k whole = take_all 512 (drop (512 * k) ys) (simp length-drop (omega arith))

-- the next sector was written, which is the last of the data
pub IsDisk-write : (history : List Entry) (map : List (List ℕ)) (first : ℕ) (xs more sector : List ℕ) (k : ℕ) → 512 * k + 512 ≡ length (xs ++ more) → 512 * k ≤ length xs
    → sector ≡ drop (512 * k) (xs ++ more) → first + k < length map → IsDisk (gave first xs ∷ history) map → IsDisk (gave first (xs ++ more) ∷ history) (slice_set map (first + k) sector)
IsDisk-write history map first xs more sector k whole most is lt disk n content at = by (cases_order n (first + k)) where
  elsewhere : n ≢ first + k → MayHold (gave first (xs ++ more) ∷ history) n content
  elsewhere other = elim (disk n content (other_place map (first + k) n sector content other at)) [
    | inl gives ↦ inl (Gives-more first xs more n content gives)
    | inr apart ↦ inr (
      elim apart.0 [
        | inl less ↦ inl less
        | inr few ↦ elim (cases_lt n first) [ inl less ↦ inl less | inr ge ↦ inr (omega arith) ]
      ],
      apart.1,
    )
  ]

  here : n ≡ first + k → MayHold (gave first (xs ++ more) ∷ history) n content
  here e =
      let same : n - first ≡ k = omega arith in
      let new : content ≡ sector = same_place map (first + k) n sector content lt e at in
      inl (omega arith, rw same (omega arith), rw same (new ∙ is ∙ sym (last_sector (xs ++ more) k whole)))

  by : (n ≡ first + k) ⊎ ((n < first + k) ⊎ (first + k < n)) → MayHold (gave first (xs ++ more) ∷ history) n content
  by (inl e) = here e
  by (inr (inl less)) = elsewhere (λ e. omega arith)
  by (inr (inr more)) = elsewhere (λ e. omega arith)

-- the same of a disk that may not be there
pub IsMap-kept : (history : List Entry) (old new : Option DiskState) → KeepsSectors old new → IsMap history old → IsMap history new
IsMap-kept history None None kept map = tt
IsMap-kept history None (Some new) kept map = absurd kept
IsMap-kept history (Some old) None kept map = absurd kept
IsMap-kept history (Some old) (Some new) kept map = subst (λ m. IsDisk history m) (sym kept) map

pub IsMap-begun : (history : List Entry) (disk : Option DiskState) (first : ℕ) → IsMap history disk → IsMap (gave first [] ∷ history) disk
IsMap-begun history None first map = tt
IsMap-begun history (Some disk) first map = IsDisk-begun history disk.sectors first map

pub IsMap-more : (history : List Entry) (disk : Option DiskState) (first : ℕ) (xs more : List ℕ) → length xs / 512 ≡ length (xs ++ more) / 512
    → IsMap (gave first xs ∷ history) disk → IsMap (gave first (xs ++ more) ∷ history) disk
IsMap-more history None first xs more same map = tt
IsMap-more history (Some disk) first xs more same map = IsDisk-more history disk.sectors first xs more same map

pub IsMap-write : (history : List Entry) (first : ℕ) (xs more sector : List ℕ) (k at : ℕ) (old new : Option DiskState) → 512 * k + 512 ≡ length (xs ++ more) → 512 * k ≤ length xs
    → sector ≡ drop (512 * k) (xs ++ more) → at ≡ first + k → DidWrite old at sector new → IsMap (gave first xs ∷ history) old → IsMap (gave first (xs ++ more) ∷ history) new
IsMap-write history first xs more sector k at None new whole most is place did map = absurd did
IsMap-write history first xs more sector k at (Some old) None whole most is place did map = absurd did
IsMap-write history first xs more sector k at (Some old) (Some new) whole most is place did map =
    rw (did.1, place) (IsDisk-write history old.sectors first xs more sector k whole most is (subst (λ a. a < length old.sectors) place did.0) map)

pub IsMap-tears : (history : List Entry) (first : ℕ) (xs more sector : List ℕ) (k at : ℕ) (old new : Option DiskState) → 512 * k + 512 ≡ length (xs ++ more) → 512 * k ≤ length xs
    → sector ≡ drop (512 * k) (xs ++ more) → at ≡ first + k → Tears old at sector new → IsMap (gave first xs ∷ history) old → IsMap (failed first (xs ++ more) ∷ history) new
IsMap-tears history first xs more sector k at None None whole most is place tears map = tt
IsMap-tears history first xs more sector k at None (Some new) whole most is place tears map = absurd tears
IsMap-tears history first xs more sector k at (Some old) None whole most is place tears map = absurd tears
IsMap-tears history first xs more sector k at (Some old) (Some new) whole most is place tears map = by tears where
  by : (new.sectors ≡ old.sectors) ⊎ ((at < length old.sectors) × (new.sectors ≡ slice_set old.sectors at sector)) → IsDisk (failed first (xs ++ more) ∷ history) new.sectors
  by (inl e) = subst (λ m. IsDisk (failed first (xs ++ more) ∷ history) m) (sym e) (IsDisk-unchanged history old.sectors first xs more map)
  by (inr did) =
      rw (did.1, place) (IsDisk-failed history (slice_set old.sectors (first + k) sector) first (xs ++ more) (IsDisk-write history old.sectors first xs more sector k whole most is (subst (λ a. a < length old.sectors) place did.0) map))
