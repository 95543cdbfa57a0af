-- Steps of a path through a guest's tables, as a walk takes them.
use Rattle.std.proofs.Common.{◌≡◌, ◌+◌, ◌-◌, ◌*◌, ◌%◌, ◌<◌, ◌∙◌, inl, inr, ℕ, true, List, [], ◌∷◌, length, take, drop, get_or, refl, ap, subst, arith}
use Rattle.iom_base.specs.declared.access.AccessKind.{AccessKind}
use Rattle.iom_base.specs.declared.access.AccessKind.TheVariants.{Read}
use Rattle.iom_base.specs.declared.rights.Rights.{Rights}
use Rattle.iom_base.specs.Causes.{page_fault_of}
use Rattle.iom_stage_walk.specs.Entries.{entries, slot}
use Rattle.iom_stage_walk.specs.Paths.{IsLawfulLeaf, IsUnlawfulLeaf}
use Rattle.iom_stage_walk.specs.Second.{LeadsTo, LeadsToFault}
use Rattle.iom_stage_walk.specs.Both.{IsReadFrom, ReachesGuest, StopsGuest, plain}
use Rattle.iom_stage_walk.specs.declared.entry.Entry.{Entry}
use Rattle.iom_stage_walk.specs.declared.entry.Entry.TheVariants.{Invalid, Pointer, Leaf}
use Rattle.iom_stage_walk.specs.declared.walked.WalkFault.{WalkFault}
use Rattle.iom_stage_walk.proofs.Steps.{rest_is, tail_is}

-- the address of an entry, as the code has it
address_is : (table index wide : ℕ) → wide ≡ index → 4096 * table + 8 * wide ≡ 8 * slot table index
address_is table index wide e = omega (arith, e)

-- an entry is read at its index of the frame to which its address leads
pub read_ok : (levels : ℕ) (frames : List (List ℕ)) (second table index wide frame : ℕ) (rights : Rights) (entry : Entry) → wide ≡ index → index < 512
    → LeadsTo levels frames second (4096 * table + 8 * wide) Read frame rights → entry ≡ entries frames (slot frame index)
    → IsReadFrom levels frames second (slot table index) frame entry
read_ok levels frames second table index wide frame rights entry e lt leads same =
    let inside : index ≡ (512 * table + index) % 512 = omega arith in
    (rights, subst (λ a. LeadsTo levels frames second a Read frame rights) (address_is table index wide e) leads, same ∙ ap (λ n. entries frames (slot frame n)) inside)

pub read_err : (levels : ℕ) (frames : List (List ℕ)) (second table index wide : ℕ) (original : AccessKind) (fault : WalkFault) → wide ≡ index
    → LeadsToFault levels frames second (4096 * table + 8 * wide) Read original true fault
    → LeadsToFault levels frames second (8 * slot table index) Read original true fault
read_err levels frames second table index wide original fault e h =
    subst (λ a. LeadsToFault levels frames second a Read original true fault) (address_is table index wide e) h

module _ (levels : ℕ) (frames : List (List ℕ)) (second : ℕ) (kind : AccessKind) (table k d : ℕ) (is : List ℕ) (lt : k < length is) where
  pub guest_down : (next frame : ℕ) (entry : Entry) (rest : List ℕ) (page : ℕ) (given : Rights) → IsReadFrom levels frames second (slot table (get_or is k d)) frame entry → entry ≡ Pointer next
      → ReachesGuest levels frames second kind next (drop (k + 1) is) rest page given → ReachesGuest levels frames second kind table (drop k is) (frame ∷ rest) page given
  guest_down next frame entry rest page given read at h = rw (rest_is is k d lt) (frame, entry, read, inl (next, rest, at, refl, h))

  pub guest_stops_down : (next frame : ℕ) (entry : Entry) (fault : WalkFault) → IsReadFrom levels frames second (slot table (get_or is k d)) frame entry → entry ≡ Pointer next
      → StopsGuest levels frames second kind next (drop (k + 1) is) fault → StopsGuest levels frames second kind table (drop k is) fault
  guest_stops_down next frame entry fault read at h = rw (rest_is is k d lt) (inr (frame, entry, read, inl (next, at, h)))

  pub guest_leaf : (base : ℕ) (rights : Rights) (frame : ℕ) (entry : Entry) (page : ℕ) (given : Rights) → IsReadFrom levels frames second (slot table (get_or is k d)) frame entry → entry ≡ Leaf base rights
      → IsLawfulLeaf kind base rights (take (length is - (k + 1)) (drop (k + 1) is)) page given
      → ReachesGuest levels frames second kind table (drop k is) (frame ∷ []) page given
  guest_leaf base rights frame entry page given read at h =
      rw (rest_is is k d lt) (frame, entry, read, inr (base, rights, at, refl, rw (← tail_is is (k + 1)) h))

  pub guest_unlawful : (base : ℕ) (rights : Rights) (frame : ℕ) (entry : Entry) (fault : WalkFault) → IsReadFrom levels frames second (slot table (get_or is k d)) frame entry → entry ≡ Leaf base rights
      → IsUnlawfulLeaf kind base rights (take (length is - (k + 1)) (drop (k + 1) is)) → fault ≡ plain (page_fault_of kind)
      → StopsGuest levels frames second kind table (drop k is) fault
  guest_unlawful base rights frame entry fault read at h same =
      rw (rest_is is k d lt) (inr (frame, entry, read, inr (inr (base, rights, at, rw (← tail_is is (k + 1)) h), same)))

  pub guest_invalid : (frame : ℕ) (entry : Entry) (fault : WalkFault) → IsReadFrom levels frames second (slot table (get_or is k d)) frame entry → entry ≡ Invalid
      → fault ≡ plain (page_fault_of kind) → StopsGuest levels frames second kind table (drop k is) fault
  guest_invalid frame entry fault read at same = rw (rest_is is k d lt) (inr (frame, entry, read, inr (inl at, same)))

  pub guest_unread : (fault : WalkFault) → LeadsToFault levels frames second (8 * slot table (get_or is k d)) Read kind true fault
      → StopsGuest levels frames second kind table (drop k is) fault
  guest_unread fault h = rw (rest_is is k d lt) (inl h)
