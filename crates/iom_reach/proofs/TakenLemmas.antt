-- Each way leads to an access.
use Rattle.std.proofs.Common.{◌≡◌, ◌⊎◌, inl, inr, ℕ, ◌==◌, Bool, true, false, ◌≤◌, ◌&&◌, ◌∙◌, length, List, [], ◌∷◌, Contains, Option, None, Some, if◌then◌else◌, refl, sym, ap, subst, arith}
use Rattle.std.proofs.lemmas.List.Elements.{Contains-push_cases}
use Rattle.iom_base.specs.declared.access.AccessKind.{AccessKind}
use Rattle.iom_base.specs.declared.access.AccessKind.TheVariants.{Read, Write}
use Rattle.iom_base.specs.Rights.{allows, rw}
use Rattle.std.proofs.lemmas.Bool.{false≢true}
use Rattle.iom_reach.proofs.TransitionLemmas.{contains_head}
use Rattle.iom_reach.specs.Laws.{WaysCanBeTaken}
use Rattle.iom_reach.specs.Memory.{Memory}
use Rattle.iom_reach.specs.Transitions.{IsMemoryAfter, IsPartWith, ToItself, ByCache, IsAdmitted, InModeBare, Requested, FromEntry, Forged, Walked, Transition, KeepTranslation, DeliverAnswer, Accept, Make, ComesAbout, ComeInTurn}
use Rattle.iom_reach.specs.Scene.{Mapping, AddressSpace, First, Second, Both, SpacePage, AtsEntry, PendingAccess, HardwareScene}
use Rattle.iom_reach.specs.Ways.{ByAts, Untranslated, Translated, Accepted, AnyFrame, ByContext, OnTheWalk}

-- hardware and devices come to the access, after so many transitions at most
abbrev IsTaken : ℕ → HardwareScene → ℕ → PendingAccess → Type 0
IsTaken most scene device access = (transitions : List Transition) × (length transitions ≤ most) × (between : HardwareScene) × (new : HardwareScene)
    × ComeInTurn scene transitions between × ComesAbout (Make device access) between new

-- or after one more
later : (scene : HardwareScene) (device : ℕ) (access : PendingAccess) → IsTaken 1 scene device access → IsTaken 2 scene device access
later scene device access (transitions, few, between, new, turns, made) = (transitions, omega (arith, few), between, new, turns, made)

none_among : {X : Type 0} (xs : List X) (x : X) → Contains [] x → Contains xs x
none_among xs x (k, below, at) = absurd (omega arith)

-- of one device this alone, of the others nothing
abbrev only_of : {X : Type 0} → ℕ → X → ℕ → List X
only_of owner new device = if owner == device then new ∷ [] else []

same_number : (m n : ℕ) → (m == n) ≡ true → n ≡ m
same_number m n e = grind (arith, e)

own : (n : ℕ) → (n == n) ≡ true
own n = grind arith

only : {X : Type 0} (owner : ℕ) (new : X) (all : ℕ → List X) (device : ℕ) (x : X) → Contains (only_of owner new device) x
    → ((device ≡ owner) × (x ≡ new)) ⊎ Contains (all device) x
only {X} owner new all device x c = by (owner == device) refl c
  where
    by : (b : Bool) → (owner == device) ≡ b → Contains (if b then new ∷ [] else []) x → ((device ≡ owner) × (x ≡ new)) ⊎ Contains (all device) x
    by false e there = inr (none_among (all device) x there)
    by true e there = elim (Contains-push_cases [] new x there) [ inl none ↦ inr (none_among (all device) x none) | inr same ↦ inl (same_number owner device e, sym same) ]

has_only : {X : Type 0} (owner : ℕ) (new : X) → Contains (only_of owner new owner) new
has_only {X} owner new = subst (λ b. Contains (if b then new ∷ [] else []) new) (sym (own owner)) (contains_head new [])

-- whether two pages of address spaces are the same
abbrev is_space : AddressSpace → AddressSpace → Bool
is_space (First p) (First q) = p == q
is_space (Second g) (Second h) = g == h
is_space (Both g p) (Both h q) = (g == h) && (p == q)
is_space _ _ = false

abbrev is_page : SpacePage → SpacePage → Bool
is_page one other = is_space one.space other.space && (one.page == other.page)

both_true : (a b : Bool) → (a && b) ≡ true → (a ≡ true) × (b ≡ true)
both_true true b e = (refl, e)
both_true false b e = absurd (false≢true e)

same_space : (a b : AddressSpace) → is_space a b ≡ true → b ≡ a
same_space (First p) (First q) e = ap First (same_number p q e)
same_space (First p) (Second h) e = absurd (false≢true e)
same_space (First p) (Both h q) e = absurd (false≢true e)
same_space (Second g) (First q) e = absurd (false≢true e)
same_space (Second g) (Second h) e = ap Second (same_number g h e)
same_space (Second g) (Both h q) e = absurd (false≢true e)
same_space (Both g p) (First q) e = absurd (false≢true e)
same_space (Both g p) (Second h) e = absurd (false≢true e)
same_space (Both g p) (Both h q) e =
    let (guests, pages) = both_true (g == h) (p == q) e in
    ap (λ n. Both n q) (same_number g h guests) ∙ ap (λ n. Both g n) (same_number p q pages)

own_space : (a : AddressSpace) → is_space a a ≡ true
own_space (First p) = own p
own_space (Second g) = own g
own_space (Both g p) = subst (λ b. (b && (p == p)) ≡ true) (sym (own g)) (own p)

own_page : (a : SpacePage) → is_page a a ≡ true
own_page a = subst (λ b. (b && (a.page == a.page)) ≡ true) (sym (own_space a.space)) (own a.page)

same_page : (a b : SpacePage) → is_page a b ≡ true → b ≡ a
same_page a b e =
    let (spaces, pages) = both_true (is_space a.space b.space) (a.page == b.page) e in
    ap (λ s. page_of s b.page) (same_space a.space b.space spaces) ∙ ap (λ n. page_of a.space n) (same_number a.page b.page pages)
  where
    page_of : AddressSpace → ℕ → SpacePage
    page_of s n = record { space = s; page = n }

-- at one page of an address space this alone
abbrev only_at : SpacePage → Mapping → SpacePage → Option Mapping
only_at at mapping other = if is_page at other then Some mapping else None

some_same : (x y : Mapping) → Some x ≡ Some y → y ≡ x
some_same x y e = sym (grind (arith, e))

at_most : (at : SpacePage) (mapping : Mapping) (all : SpacePage → Option Mapping) → IsPartWith (only_at at mapping) at mapping all
at_most at mapping all key value is = by (is_page at key) refl is
  where
    by : (b : Bool) → is_page at key ≡ b → (if b then Some mapping else None) ≡ Some value → ((key ≡ at) × (value ≡ mapping)) ⊎ (all key ≡ Some value)
    by true e there = inl (same_page at key e, some_same mapping value there)
    by false e there = absurd (grind (arith, there))

has_only_at : (at : SpacePage) (mapping : Mapping) → only_at at mapping at ≡ Some mapping
has_only_at at mapping = ap (λ b. if b then Some mapping else None) (own_page at)

same_memory : (kind : AccessKind) (frame : ℕ) (memory : Memory) → IsMemoryAfter kind frame memory memory
same_memory Read frame memory = refl
same_memory Write frame memory = λ f apart. refl

-- an access in flight is made
taken_made : (s : HardwareScene) (device : ℕ) (access : PendingAccess) → s.is_trusted device ≡ false → Contains (s.in_flight device) access
    → ComesAbout (Make device access) s (record s { in_flight = λ d. [] })
taken_made s device access untrusted there = ((λ d. []), s.memory, there, (λ d. none_among (s.in_flight d)), (λ trusted. absurd (false≢true (sym untrusted ∙ trusted))), same_memory access.kind access.frame s.memory, refl)

-- an access that is served is accepted, and made
taken_served : (s : HardwareScene) (device : ℕ) (access : PendingAccess) → s.is_trusted device ≡ false → IsAdmitted s device access.frame access.kind → IsTaken 1 s device access
taken_served s device access untrusted served = (
  Accept device access ∷ [],
  omega arith,
  record s { in_flight = only_of device access },
  record s { in_flight = λ d. [] },
  (record s { in_flight = only_of device access }, (only_of device access, served, only device access s.in_flight, refl), refl),
  taken_made (record s { in_flight = only_of device access }) device access untrusted (has_only device access),
)

-- after one other transition
taken_after : (s t : HardwareScene) (first : Transition) (device : ℕ) (access : PendingAccess) → ComesAbout first s t → IsTaken 1 t device access → IsTaken 2 s device access
taken_after s t first device access now (others, few, between, new, turns, made) = (first ∷ others, omega (arith, few), between, new, (t, now, turns), made)

all_allowed : (kind : AccessKind) → allows rw kind ≡ true
all_allowed Read = refl
all_allowed Write = refl

pub ways_can_be_taken : WaysCanBeTaken
ways_can_be_taken s device frame kind untrusted (Accepted there) =
    ([], omega arith, s, record s { in_flight = λ d. [] }, refl, taken_made s device (record { frame = frame; kind = kind }) untrusted there)
ways_can_be_taken s device frame kind untrusted (AnyFrame plugged bare) =
    later s device (record { frame = frame; kind = kind }) (taken_served s device (record { frame = frame; kind = kind }) untrusted (InModeBare plugged bare))
ways_can_be_taken s device frame kind untrusted (OnTheWalk space table steps_to mapping there leads serves) =
    later s device (record { frame = frame; kind = kind }) (taken_served s device (record { frame = frame; kind = kind }) untrusted
    (Walked space table steps_to mapping there (mapping, leads, refl, (λ k allowed. allowed)) serves))
ways_can_be_taken s device frame kind untrusted (ByContext context find (Untranslated none)) =
    later s device (record { frame = frame; kind = kind }) (taken_served s device (record { frame = frame; kind = kind }) untrusted
    (Requested context 0 (record { frame = frame; rights = rw }) find (ToItself none) (refl, all_allowed kind)))
ways_can_be_taken s device frame kind untrusted (ByContext context find (ByAts lets (inl forges))) =
    later s device (record { frame = frame; kind = kind }) (taken_served s device (record { frame = frame; kind = kind }) untrusted (Forged context find lets forges))
ways_can_be_taken s device frame kind untrusted (ByContext context find (ByAts lets (inr (caches, (page, mapping, inl there, serves))))) =
    later s device (record { frame = frame; kind = kind }) (taken_served s device (record { frame = frame; kind = kind }) untrusted (FromEntry context page mapping find lets caches there serves))
ways_can_be_taken s device frame kind untrusted (ByContext context find (ByAts lets (inr (caches, (page, mapping, inr (epoch, there, now), serves))))) =
    let entry : AtsEntry = record { page = page; mapping = mapping } in
    let t : HardwareScene = record s { ats_entries = only_of device entry } in
    taken_after s t DeliverAnswer device (record { frame = frame; kind = kind })
    (device, epoch, page, mapping, only_of device entry, there, now, only device entry s.ats_entries, refl)
    (taken_served t device (record { frame = frame; kind = kind }) untrusted (FromEntry context page mapping find lets caches (has_only device entry) serves))
ways_can_be_taken s device frame kind untrusted (ByContext context find (Translated space is (inl (page, mapping, there, serves)))) =
    later s device (record { frame = frame; kind = kind }) (taken_served s device (record { frame = frame; kind = kind }) untrusted (Requested context page mapping find (ByCache space is there) serves))
ways_can_be_taken s device frame kind untrusted (ByContext context find (Translated space is (inr (table, steps_to, mapping, begins, leads, serves)))) =
    let at : SpacePage = record { space = space; page = 0 } in
    let t : HardwareScene = record s { translations = only_at at mapping } in
    taken_after s t KeepTranslation device (record { frame = frame; kind = kind })
    (space, table, steps_to, 0, mapping, only_at at mapping, begins, (mapping, leads, refl, (λ k allowed. allowed)), at_most at mapping s.translations, refl)
    (taken_served t device (record { frame = frame; kind = kind }) untrusted (Requested context 0 mapping find (ByCache space is (has_only_at at mapping)) serves))
