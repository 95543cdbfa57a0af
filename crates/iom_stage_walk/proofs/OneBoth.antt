-- A translation in both stages ends in one way.
use Rattle.std.proofs.Common.{◌≡◌, ◌/◌, ◌%◌, ◌*◌, ◌+◌, ◌-◌, ◌∙◌, ℕ, length, inl, inr, true, false, List, [], ◌∷◌, sym, ap, subst, arith}
use Rattle.iom_base.specs.declared.access.AccessKind.{AccessKind}
use Rattle.iom_base.specs.declared.access.AccessKind.TheVariants.{Read}
use Rattle.iom_base.specs.declared.rights.Rights.{Rights}
use Rattle.iom_stage_walk.specs.Entries.{entries, slot}
use Rattle.iom_stage_walk.specs.Paths.{IsLawfulLeaf, path_of, first_widths}
use Rattle.iom_stage_walk.specs.Both.{IsReadFrom, ReachesGuest, IsStop, StopsGuest, padded, rights_of_both, ReachesBoth, StopsBoth}
use Rattle.iom_stage_walk.specs.Second.{LeadsTo, LeadsToFault}
use Rattle.iom_stage_walk.specs.declared.entry.Entry.{Entry}
use Rattle.iom_stage_walk.specs.declared.entry.Entry.TheVariants.{Pointer, Leaf}
use Rattle.iom_stage_walk.specs.declared.walked.Walked.{Walked}
use Rattle.iom_stage_walk.specs.declared.walked.WalkFault.{WalkFault}
use Rattle.iom_stage_walk.proofs.Unique.{lawful_or_not}
use Rattle.iom_stage_walk.proofs.Exact.{same_walked}
use Rattle.iom_stage_walk.proofs.OneSecond.{one_place, leads_or_faults, one_fault_leading}

-- an entry of the guest's tables is read from one frame, and is one
one_reading : (levels : ℕ) (frames : List (List ℕ)) (second s f g : ℕ) (x y : Entry) → IsReadFrom levels frames second s f x → IsReadFrom levels frames second s g y → (f ≡ g) × (x ≡ y)
one_reading levels frames second s f g x y p q =
    let same = one_place levels frames second (8 * s) Read Read f g p.0 q.0 p.1 q.1 in
    (same.0, p.2 ∙ ap (λ n. entries frames (slot n (s % 512))) same.0 ∙ sym q.2)

-- an entry that stops the walk is no pointer
no_pointer : (kind : AccessKind) (is : List ℕ) (x y : Entry) (next : ℕ) → x ≡ y → IsStop kind is x → y ≡ Pointer next → ⊥
no_pointer kind is x y next e (inl p) at = cc (e, p, at)
no_pointer kind is x y next e (inr p) at = cc (e, p.2, at)

-- an entry that stops the walk is no lawful leaf
no_leaf : (kind : AccessKind) (is : List ℕ) (x y : Entry) (base : ℕ) (rights : Rights) (f : ℕ) (r : Rights) → x ≡ y → IsStop kind is x → y ≡ Leaf base rights → IsLawfulLeaf kind base rights is f r → ⊥
no_leaf kind is x y base rights f r e (inl p) at ok = cc (e, p, at)
no_leaf kind is x y base rights f r e (inr p) at ok =
    lawful_or_not kind base p.0 rights p.1 is f r (cc (e, p.2, at)) (cc (e, p.2, at)) ok p.3

module _ (levels : ℕ) (frames : List (List ℕ)) (second : ℕ) where
  -- the paths of two kinds of access along the same indices load the same entries and reach the same leaf
  pub one_guest_leaf : (kind kind' : AccessKind) (table : ℕ) (is fs gs : List ℕ) (p q : ℕ) (r u : Rights) → ReachesGuest levels frames second kind table is fs p r → ReachesGuest levels frames second kind' table is gs q u → (fs ≡ gs) × (p ≡ q) × (r ≡ u)
  one_guest_leaf kind kind' table [] fs gs p q r u a b = absurd a
  one_guest_leaf kind kind' table (i ∷ is) fs gs p q r u a b =
      let same = one_reading levels frames second (slot table i) a.0 b.0 a.1 b.1 a.2 b.2 in
      elim (a.3) [
        | inl x ↦ elim (b.3) [
          | inl y ↦
              let next : y.0 ≡ x.0 = cc (same.1, x.2, y.2) in
              let rest = one_guest_leaf kind kind' x.0 is x.1 y.1 p q r u x.4 (subst (λ n. ReachesGuest levels frames second kind' n is y.1 q u) next y.4) in
              let all : fs ≡ gs = cc (same.0, x.3, y.3, rest.0) in
              (all, rest.1, rest.2)
          | inr y ↦ let no : ⊥ = cc (same.1, x.2, y.2) in absurd no
        ]
        | inr x ↦ elim (b.3) [
          | inl y ↦ let no : ⊥ = cc (same.1, x.2, y.2) in absurd no
          | inr y ↦
              let base : x.0 ≡ y.0 = cc (same.1, x.2, y.2) in
              let rights : x.1 ≡ y.1 = cc (same.1, x.2, y.2) in
              let all : fs ≡ gs = cc (same.0, x.3, y.3) in
              let page : p ≡ q = omega (arith, base, x.4.page, y.4.page) in
              (all, page, x.4.same ∙ rights ∙ sym y.4.same)
        ]
      ]

  -- no path both reaches and stops
  pub not_both_guest : (kind : AccessKind) (table : ℕ) (is fs : List ℕ) (p : ℕ) (r : Rights) (fault : WalkFault) → ReachesGuest levels frames second kind table is fs p r → StopsGuest levels frames second kind table is fault → ⊥
  not_both_guest kind table [] fs p r fault a b = a
  not_both_guest kind table (i ∷ is) fs p r fault a (inl b) = leads_or_faults levels frames second (8 * slot table i) Read kind true a.0 a.2.0 fault a.2.1 b
  not_both_guest kind table (i ∷ is) fs p r fault a (inr b) =
      let same = one_reading levels frames second (slot table i) a.0 b.0 a.1 b.1 a.2 b.2 in
      elim (a.3) [
        | inl x ↦ elim (b.3) [
          | inl y ↦
              let next : y.0 ≡ x.0 = cc (same.1, x.2, y.1) in
              not_both_guest kind x.0 is x.1 p r fault x.4 (subst (λ n. StopsGuest levels frames second kind n is fault) next y.2)
          | inr y ↦ no_pointer kind is b.1 a.1 x.0 (sym same.1) y.0 x.2
        ]
        | inr x ↦ elim (b.3) [
          | inl y ↦ cc (same.1, x.2, y.1)
          | inr y ↦ no_leaf kind is b.1 a.1 x.0 x.1 p r (sym same.1) y.0 x.2 x.4
        ]
      ]

  -- a path stops with one fault
  pub one_guest_fault : (kind : AccessKind) (table : ℕ) (is : List ℕ) (f g : WalkFault) → StopsGuest levels frames second kind table is f → StopsGuest levels frames second kind table is g → f ≡ g
  one_guest_fault kind table [] f g a b = a ∙ sym b
  one_guest_fault kind table (i ∷ is) f g (inl a) (inl b) = one_fault_leading levels frames second (8 * slot table i) Read kind true f g a b
  one_guest_fault kind table (i ∷ is) f g (inl a) (inr b) = absurd (leads_or_faults levels frames second (8 * slot table i) Read kind true b.0 b.2.0 f b.2.1 a)
  one_guest_fault kind table (i ∷ is) f g (inr a) (inl b) = absurd (leads_or_faults levels frames second (8 * slot table i) Read kind true a.0 a.2.0 g a.2.1 b)
  one_guest_fault kind table (i ∷ is) f g (inr a) (inr b) =
      let same = one_reading levels frames second (slot table i) a.0 b.0 a.1 b.1 a.2 b.2 in
      elim (a.3) [
        | inl x ↦ elim (b.3) [
          | inl y ↦
              let next : y.0 ≡ x.0 = cc (same.1, x.1, y.1) in
              one_guest_fault kind x.0 is f g x.2 (subst (λ n. StopsGuest levels frames second kind n is g) next y.2)
          | inr y ↦ absurd (no_pointer kind is b.1 a.1 x.0 (sym same.1) y.0 x.1)
        ]
        | inr x ↦ elim (b.3) [
          | inl y ↦ absurd (no_pointer kind is a.1 b.1 y.0 same.1 x.0 y.1)
          | inr y ↦ x.1 ∙ sym y.1
        ]
      ]

module _ (levels levels' : ℕ) (frames : List (List ℕ)) (first second address : ℕ) where
  pub one_walked_both : (kind kind' : AccessKind) (a b : Walked) → ReachesBoth levels levels' frames first second address kind a → ReachesBoth levels levels' frames first second address kind' b → a ≡ b
  one_walked_both kind kind' a b p q =
      let guest = one_guest_leaf levels' frames second kind kind' first (path_of (first_widths levels) (address / 4096)) p.loaded q.loaded p.page q.page p.given q.given p.guest q.guest in
      let place = one_place levels' frames second (4096 * p.page + address % 4096) kind kind' a.frame b.frame p.given' q.given' p.leads (subst (λ n. LeadsTo levels' frames second (4096 * n + address % 4096) kind' b.frame q.given') (sym guest.1) q.leads) in
      same_walked a b place.0
      (p.rights ∙ ap (λ n. rights_of_both n p.given') guest.2 ∙ ap (λ n. rights_of_both q.given n) place.1 ∙ sym q.rights)
      (p.level ∙ ap (λ fs. levels - length fs) guest.0 ∙ sym q.level)
      (p.guest_frames ∙ ap (λ n. padded 4 n) guest.0 ∙ sym q.guest_frames)

  pub both_or_stops : (kind : AccessKind) (a : Walked) (f : WalkFault) → ReachesBoth levels levels' frames first second address kind a → StopsBoth levels levels' frames first second address kind f → ⊥
  both_or_stops kind a f p (inl high) = high.0 p.canonical
  both_or_stops kind a f p (inr (inl x)) = not_both_guest levels' frames second kind first (path_of (first_widths levels) (address / 4096)) p.loaded p.page p.given f p.guest x.1
  both_or_stops kind a f p (inr (inr x)) =
      let guest = one_guest_leaf levels' frames second kind kind first (path_of (first_widths levels) (address / 4096)) p.loaded x.1.2 p.page x.1.0 p.given x.1.1 p.guest x.1.3 in
      leads_or_faults levels' frames second (4096 * p.page + address % 4096) kind kind false a.frame p.given' f p.leads
      (subst (λ n. LeadsToFault levels' frames second (4096 * n + address % 4096) kind kind false f) (sym guest.1) x.1.4)

  pub one_fault_both : (kind : AccessKind) (f g : WalkFault) → StopsBoth levels levels' frames first second address kind f → StopsBoth levels levels' frames first second address kind g → f ≡ g
  one_fault_both kind f g (inl a) (inl b) = a.1 ∙ sym b.1
  one_fault_both kind f g (inl a) (inr (inl b)) = absurd (a.0 b.0)
  one_fault_both kind f g (inl a) (inr (inr b)) = absurd (a.0 b.0)
  one_fault_both kind f g (inr (inl a)) (inl b) = absurd (b.0 a.0)
  one_fault_both kind f g (inr (inr a)) (inl b) = absurd (b.0 a.0)
  one_fault_both kind f g (inr (inl a)) (inr (inl b)) = one_guest_fault levels' frames second kind first (path_of (first_widths levels) (address / 4096)) f g a.1 b.1
  one_fault_both kind f g (inr (inl a)) (inr (inr b)) =
      absurd (not_both_guest levels' frames second kind first (path_of (first_widths levels) (address / 4096)) b.1.2 b.1.0 b.1.1 f b.1.3 a.1)
  one_fault_both kind f g (inr (inr a)) (inr (inl b)) =
      absurd (not_both_guest levels' frames second kind first (path_of (first_widths levels) (address / 4096)) a.1.2 a.1.0 a.1.1 g a.1.3 b.1)
  one_fault_both kind f g (inr (inr a)) (inr (inr b)) =
      let guest = one_guest_leaf levels' frames second kind kind first (path_of (first_widths levels) (address / 4096)) a.1.2 b.1.2 a.1.0 b.1.0 a.1.1 b.1.1 a.1.3 b.1.3 in
      one_fault_leading levels' frames second (4096 * a.1.0 + address % 4096) kind kind false f g a.1.4
      (subst (λ n. LeadsToFault levels' frames second (4096 * n + address % 4096) kind kind false g) (sym guest.1) b.1.4)
