-- The second stage has led a walk to a guest's entry: the load of the entry is let through, as a read of its frame.
use Rattle.std.proofs.Common.{◌≡◌, ◌⊎◌, ◌==◌, inl, inr, ℕ, Bool, true, List, [], ◌∷◌, ◌++◌, map, Contains, Some, if◌then◌else◌, refl, sym, subst}
use Rattle.std.proofs.lemmas.Bool.Decides.{eqb_tells}
use Rattle.std.proofs.lemmas.List.Elements.{Contains-append_left, Contains-append_right, Contains-append_cases}
use Rattle.iom_base.specs.Rights.{allows}
use Rattle.iom_base.specs.declared.access.AccessKind.TheVariants.{Read}
use Rattle.iom_board.specs.BoardParts.{BoardParts}
use Rattle.iom_reach.proofs.TransitionLemmas.{contains_head, contains_tail}
use Rattle.iom_reach.specs.Memory.{WalkStep}
use Rattle.iom_reach.specs.Scene.{Mapping, AddressSpace, PartialWalk, PendingAccess, HardwareScene}
use Rattle.iom_reach.specs.Transitions.{Accept, AreAmongWithOf, ComesAbout, IsAdmitted, IsContinued, Walked as InWalk}
use Rattle.iom_reach.specs.Ways.{LeadsToMapping}
use Rattle.iom_hardware_ways.specs.Scenes.{scene_of}
use Rattle.iom_hardware_ways.proofs.ListLemmas.{cons_cases, contains_map, in_none}
use Rattle.iom_hardware_ways.proofs.Turns.{Comes, one, in_succession}
use Rattle.iom_stepped_ways.proofs.GrowLemmas.{walks_grow_beside}
use Rattle.iom_stepped_ways.specs.Scenes.{Added, access_on, added_and, with_added}

-- a load of an entry in this frame
abbrev read_of : ℕ → PendingAccess
read_of frame = access_on frame Read

-- the device's loads of entries in these frames
abbrev reads_of : ℕ → List ℕ → ℕ → List PendingAccess
reads_of owner entries device = if owner == device then map read_of entries else []

-- these walks are added, with its loads
abbrev pub walks_with : List PartialWalk → ℕ → List ℕ → Added
walks_with more owner entries = record { partial_walks = more; directory_walks = []; let_through = reads_of owner entries }

-- each is among them
pub are_read : (owner : ℕ) (entries : List ℕ) (frame : ℕ) → Contains entries frame → Contains (reads_of owner entries owner) (access_on frame Read)
are_read owner entries frame within = elim (eqb_tells owner owner) [
  | inl e ↦ subst (λ (b : Bool). Contains (if b then map read_of entries else []) (read_of frame)) (sym e.0) (contains_map read_of entries frame within)
  | inr ne ↦ absurd (ne.1 refl)
]

-- no frame, no load
none_read : (owner device : ℕ) (access : PendingAccess) → Contains (reads_of owner [] device) access → ⊥
none_read owner device access there = elim (eqb_tells owner device) [
  | inl e ↦ in_none access (subst (λ (b : Bool). Contains (if b then map read_of [] else []) access) e.0 there)
  | inr ne ↦ in_none access (subst (λ (b : Bool). Contains (if b then map read_of [] else []) access) ne.0 there)
]

-- one more frame, one more load
one_more_read : (owner frame : ℕ) (entries : List ℕ) (device : ℕ) (access : PendingAccess) → Contains (reads_of owner (frame ∷ entries) device) access
    → ((device ≡ owner) × (access ≡ read_of frame)) ⊎ Contains (reads_of owner entries device) access
one_more_read owner frame entries device access there = elim (eqb_tells owner device) [
  | inl e ↦
      let within = subst (λ (b : Bool). Contains (if b then map read_of (frame ∷ entries) else []) access) e.0 there in
      elim (cons_cases (read_of frame) (map read_of entries) access within) [
        | inl same ↦ inl (sym e.1, sym same)
        | inr later ↦ inr (subst (λ (b : Bool). Contains (if b then map read_of entries else []) access) (sym e.0) later)
      ]
  | inr ne ↦ absurd (in_none access (subst (λ (b : Bool). Contains (if b then map read_of (frame ∷ entries) else []) access) ne.0 there))
]

module _ (trusted : ℕ → Bool) (parts : BoardParts) (a : Added) (more : List PartialWalk) (owner : ℕ) where
  abbrev s : HardwareScene
  s = scene_of trusted parts

  abbrev grown : List ℕ → HardwareScene
  grown entries = with_added s (added_and a (walks_with more owner entries))

  -- a walk of the device that is under way leads to the frame, for reads
  abbrev pub IsOnTheWay : ℕ → Type 0
  IsOnTheWay frame =
      (space : AddressSpace) × (table : ℕ) × (steps_to : ℕ → List WalkStep) × (leaf : Mapping)
      × Contains a.partial_walks (record { device = Some owner; space = space; table = table; steps_to = steps_to })
      × LeadsToMapping s.formats s.memory table steps_to leaf × (leaf.frame ≡ frame) × (allows leaf.rights Read ≡ true)

  admitted : (entries : List ℕ) (frame : ℕ) → IsOnTheWay frame → IsAdmitted (grown entries) owner frame Read
  admitted entries frame (space, table, steps_to, leaf, there, leads, is, allowed) =
      let walk : PartialWalk = record { device = Some owner; space = space; table = table; steps_to = steps_to } in
      InWalk space table steps_to leaf (Contains-append_left a.partial_walks more walk there) (leaf, leads, refl, (λ kind same. same)) (is, allowed)

  among : (entries : List ℕ) (frame : ℕ) → AreAmongWithOf (grown (frame ∷ entries)).in_flight owner (read_of frame) (grown entries).in_flight
  among entries frame d x flies =
      let flights = s.in_flight d in
      let before = a.let_through d in
      let reads = reads_of owner entries d in
      elim (Contains-append_cases flights (before ++ reads_of owner (frame ∷ entries) d) x flies) [
        | inl old ↦ inr (Contains-append_left flights (before ++ reads) x old)
        | inr rest ↦ elim (Contains-append_cases before (reads_of owner (frame ∷ entries) d) x rest) [
          | inl was ↦ inr (Contains-append_right flights (before ++ reads) x (Contains-append_left before reads x was))
          | inr new ↦ elim (one_more_read owner frame entries d x new) [
            | inl own ↦ inl own
            | inr other ↦ inr (Contains-append_right flights (before ++ reads) x (Contains-append_right before reads x other))
          ]
        ]
      ]

  lets_in : (entries : List ℕ) (frame : ℕ) → IsOnTheWay frame → ComesAbout (Accept owner (read_of frame)) (grown entries) (grown (frame ∷ entries))
  lets_in entries frame way = ((grown (frame ∷ entries)).in_flight, admitted entries frame way, among entries frame, refl)

  -- THE WALK GOES ON, and its loads are let through
  pub entries_let_in : (entries : List ℕ) → ((walk : PartialWalk) → Contains more walk → IsContinued (with_added s a) walk)
      → ((frame : ℕ) → Contains entries frame → IsOnTheWay frame) → Comes (with_added s a) (grown entries)
  entries_let_in [] continues ways =
      walks_grow_beside trusted parts a more [] (reads_of owner []) (none_read owner) continues (λ other none. absurd (in_none other none))
  entries_let_in (frame ∷ entries) continues ways =
      in_succession (with_added s a) (grown entries) (grown (frame ∷ entries))
      (entries_let_in entries continues (λ other within. ways other (contains_tail frame entries other within)))
      (one (Accept owner (read_of frame)) tt (grown entries) (grown (frame ∷ entries)) (lets_in entries frame (ways frame (contains_head frame entries))))
