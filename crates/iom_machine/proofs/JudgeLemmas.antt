-- The judge's look-ups in a history say what the definitions do.
use Rattle.std.proofs.Common.{◌≡◌, ℕ, ◌⊎◌, inl, inr, Bool, true, false, not, ◌==◌, ◌&&◌, ◌||◌, List, [], ◌∷◌, filter, cond, Contains, Option, None, Some, if◌then◌else◌, refl, sym, ap, ◌∙◌, subst, arith}
use Rattle.std.specs.List.{list_any}
use Rattle.std.specs.Option.{option_map_or}
use Rattle.std.proofs.lemmas.Bool.{false≢true, eqb-true, eq-eqb, and_parts, and_from, or_left, or_right}
use Rattle.std.proofs.lemmas.List.Elements.{Contains-append_cases}
use Rattle.iom_base.specs.declared.access.AccessKind.{AccessKind}
use Rattle.iom_base.specs.declared.rights.Rights.{Rights}
use Rattle.iom_base.specs.Rights.{allows}
use Rattle.iom_base.specs.declared.access.AccessKind.TheVariants.{Read}
use Rattle.iom_base.proofs.RightsLemmas.{allows-Read}
use Rattle.std.specs.Set.{is_member}
use Rattle.std.specs.Cmp.{nat_eq_equiv}
use Rattle.std.specs.List.{IsDistinct}
use Rattle.std.proofs.Common.{nat_eq, length, ◌<◌, ◌≤◌, All}
use Rattle.std.proofs.lemmas.Map.Made.{length-le_from_is_member}
use Rattle.std.proofs.lemmas.List.Elements.{All-contains}
use Rattle.iom_machine.specs.Frames.{FewerThan}
use Rattle.iom_ledger.specs.declared.entry.HistoryEntry.{HistoryEntry}
use Rattle.iom_ledger.specs.declared.entry.HistoryEntry.TheVariants.{Granted, Released, AllReleased, Confirmed}
use Rattle.iom_ledger.specs.History.{History, Pair, is_about, granted_by, held_at, released_by, released_at, confirms, Holds, Lingers, May, NoneMayReach}
use Rattle.iom_machine.specs.Judging.{serves, holds_for, still_serves, is_pair, still_is, lingers_for, lingers_among, reaches_in, anyone_reaches_in}
use Rattle.iom_machine.proofs.ReachLemmas.{cons_cases, contains_head, contains_tail, contains_from_filter, contains_filter, released_was_held}

-- a test that some element passes, and the element
pub some_passes : {X : Type 0} (p : X → Bool) (xs : List X) (x : X) → Contains xs x → p x ≡ true → list_any p xs ≡ true
some_passes p [] x (k, below, at) passes = absurd (omega arith)
some_passes p (a ∷ xs) x c passes = by (cons_cases a xs x c) (λ later. some_passes p xs x later passes)
  where
    by : (a ≡ x) ⊎ Contains xs x → (Contains xs x → list_any p xs ≡ true) → (p a || list_any p xs) ≡ true
    by (inl same) rest = or_left (p a) (list_any p xs) (ap p same ∙ passes)
    by (inr later) rest = or_right (p a) (list_any p xs) (rest later)

pub passing_element : {X : Type 0} (p : X → Bool) (xs : List X) → list_any p xs ≡ true → (x : X) × Contains xs x × (p x ≡ true)
passing_element p [] any = absurd (false≢true any)
passing_element p (a ∷ xs) any = by (p a) refl any (passing_element p xs)
  where
    by : (b : Bool) → p a ≡ b → (b || list_any p xs) ≡ true → (list_any p xs ≡ true → (x : _) × Contains xs x × (p x ≡ true)) → (x : _) × Contains (a ∷ xs) x × (p x ≡ true)
    by true e h rest = (a, contains_head a xs, e)
    by false e h rest = let found = rest h in (found.0, contains_tail a xs found.0 found.1, found.2)

-- the device holds the frame at the page, with a right that allows the kind
abbrev pub HoldsFor : History → ℕ → ℕ → AccessKind → ℕ → Type 0
HoldsFor history id page kind frame =
    (rights : Rights) × Holds history id page (frame, rights) × (allows rights kind ≡ true)

-- the frame lingers there, with such a right
abbrev pub LingersFor : History → ℕ → ℕ → AccessKind → ℕ → Type 0
LingersFor history id page kind frame =
    (rights : Rights) × Lingers history id page (frame, rights) × (allows rights kind ≡ true)

-- it holds none so
abbrev pub HoldsNoneFor : History → ℕ → ℕ → AccessKind → Type 0
HoldsNoneFor history id page kind = (frame : ℕ) → ¬ HoldsFor history id page kind frame

-- a pair that serves is on the frame
served : (frame : ℕ) (kind : AccessKind) (pair : Pair) → serves frame kind pair ≡ true → ◌≡◌ {A = Pair} pair (frame, pair.1) × (allows pair.1 kind ≡ true)
served frame kind pair e =
    let parts = and_parts (pair.0 == frame) (allows pair.1 kind) e in
    let same : pair.0 ≡ frame = eqb-true pair.0 frame parts.0 in
    (ap (λ f. (f, pair.1)) same, parts.1)

serving : (frame : ℕ) (kind : AccessKind) (rights : Rights) → allows rights kind ≡ true → serves frame kind (frame, rights) ≡ true
serving frame kind rights allowed = and_from (frame == frame) (allows rights kind) (eq-eqb frame frame refl) allowed

pub HoldsFor-from : (h : History) (id page : ℕ) (kind : AccessKind) (frame : ℕ) → holds_for h id page kind frame ≡ true → HoldsFor h id page kind frame
HoldsFor-from h id page kind frame e = by (held_at h id page) refl e
  where
    by : (held : Option Pair) → held_at h id page ≡ held → option_map_or (serves frame kind) held false ≡ true → HoldsFor h id page kind frame
    by None at x = absurd (false≢true x)
    by (Some pair) at x = let s = served frame kind pair x in (pair.1, at ∙ ap (λ (p : Pair). Some p) s.0, s.1)

pub HoldsFor-test : (h : History) (id page : ℕ) (kind : AccessKind) (frame : ℕ) → HoldsFor h id page kind frame → holds_for h id page kind frame ≡ true
HoldsFor-test h id page kind frame (rights, holds, allowed) = rw holds (serving frame kind rights allowed)

pub LingersFor-from : (h : History) (id page : ℕ) (kind : AccessKind) (frame : ℕ) → lingers_for h h id page kind frame ≡ true → LingersFor h id page kind frame
LingersFor-from h id page kind frame e =
    let found = passing_element (still_serves h frame kind) (released_at h id page) e in
    let parts = and_parts (not (confirms h found.0.0)) (serves frame kind found.0.1) found.2 in
    let s = served frame kind found.0.1 parts.1 in (
      found.0.1.1,
      (
        found.0.0,
        subst (λ (p : Pair). Contains (filter (λ r. not (confirms h r.0)) (released_at h id page)) (found.0.0, p)) s.0
            (contains_filter (λ r. not (confirms h r.0)) (released_at h id page) found.0 found.1 parts.0),
      ),
      s.1,
    )

pub LingersFor-test : (h : History) (id page : ℕ) (kind : AccessKind) (frame : ℕ) → LingersFor h id page kind frame → lingers_for h h id page kind frame ≡ true
LingersFor-test h id page kind frame (rights, (ticket, c), allowed) =
    let kept = contains_from_filter (λ r. not (confirms h r.0)) (released_at h id page) (ticket, (frame, rights)) c in
    some_passes (still_serves h frame kind) (released_at h id page) (ticket, (frame, rights)) kept.0
    (and_from (not (confirms h ticket)) (serves frame kind (frame, rights)) kept.1 (serving frame kind rights allowed))

-- the pair that is sought
abbrev pair_of : ℕ → ℕ → Pair
pair_of frame bits = (frame, record { 0 = bits })

sought_pair : (sought pair : Pair) → is_pair sought pair ≡ true → ◌≡◌ {A = Pair} pair sought
sought_pair sought pair e =
    let parts = and_parts (pair.0 == sought.0) (pair.1.0 == sought.1.0) e in
    ap (λ (f : ℕ). pair_of f pair.1.0) (eqb-true pair.0 sought.0 parts.0) ∙ ap (pair_of sought.0) (eqb-true pair.1.0 sought.1.0 parts.1)

pair_itself : (pair : Pair) → is_pair pair pair ≡ true
pair_itself pair = and_from (pair.0 == pair.0) (pair.1.0 == pair.1.0) (eq-eqb pair.0 pair.0 refl) (eq-eqb pair.1.0 pair.1.0 refl)

-- a pair lingers exactly where it is found
pub Lingers-from : (h : History) (id page : ℕ) (sought : Pair) → list_any (still_is h sought) (released_at h id page) ≡ true → Lingers h id page sought
Lingers-from h id page sought e =
    let found = passing_element (still_is h sought) (released_at h id page) e in
    let parts = and_parts (not (confirms h found.0.0)) (is_pair sought found.0.1) found.2 in (
      found.0.0,
      subst (λ (p : Pair). Contains (filter (λ r. not (confirms h r.0)) (released_at h id page)) (found.0.0, p)) (sought_pair sought found.0.1 parts.1)
          (contains_filter (λ r. not (confirms h r.0)) (released_at h id page) found.0 found.1 parts.0),
    )

pub Lingers-test : (h : History) (id page : ℕ) (sought : Pair) → Lingers h id page sought → list_any (still_is h sought) (released_at h id page) ≡ true
Lingers-test h id page sought (ticket, c) =
    let kept = contains_from_filter (λ r. not (confirms h r.0)) (released_at h id page) (ticket, sought) c in
    some_passes (still_is h sought) (released_at h id page) (ticket, sought) kept.0 (and_from (not (confirms h ticket)) (is_pair sought sought) kept.1 (pair_itself sought))

-- whether some entry grants the device something at the page
abbrev pub grants_at : History → ℕ → ℕ → Bool
grants_at [] device page = false
grants_at (Granted d p frame rights ∷ before) device page = ((d == device) && (p == page)) || grants_at before device page
grants_at (Released d p ticket ∷ before) device page = grants_at before device page
grants_at (AllReleased d ticket ∷ before) device page = grants_at before device page
grants_at (Confirmed ticket ∷ before) device page = grants_at before device page

granted_before : (entry : HistoryEntry) (h : History) (device page : ℕ) → grants_at h device page ≡ true → grants_at (entry ∷ h) device page ≡ true
granted_before (Granted d p frame rights) h device page e = or_right ((d == device) && (p == page)) (grants_at h device page) e
granted_before (Released d p ticket) h device page e = e
granted_before (AllReleased d ticket) h device page e = e
granted_before (Confirmed ticket) h device page e = e

-- what is held was granted
pub held_was_granted : (h : History) (d page : ℕ) (pair : Pair) → held_at h d page ≡ Some pair → grants_at h d page ≡ true
held_was_granted [] d page pair e = cc
held_was_granted (entry ∷ h) d page pair e = by (is_about entry (held_at h d page) d page) refl e (held_was_granted h d page pair)
  where
    here : (x : HistoryEntry) → is_about x (held_at h d page) d page ≡ true → granted_by x ≡ Some pair → grants_at (x ∷ h) d page ≡ true
    here (Granted x p frame rights) about g = or_left ((x == d) && (p == page)) (grants_at h d page) about
    here (Released x p ticket) about g = cc
    here (AllReleased x ticket) about g = cc
    here (Confirmed ticket) about g = cc

    by : (b : Bool) → is_about entry (held_at h d page) d page ≡ b → (if b then granted_by entry else held_at h d page) ≡ Some pair
        → (held_at h d page ≡ Some pair → grants_at h d page ≡ true) → grants_at (entry ∷ h) d page ≡ true
    by true about x rest = here entry about x
    by false about x rest = granted_before entry h d page (rest x)

-- what was released was granted
pub released_was_granted : (h : History) (d page : ℕ) (released : ℕ × Pair) → Contains (released_at h d page) released → grants_at h d page ≡ true
released_was_granted [] d page released (k, below, at) = absurd (omega arith)
released_was_granted (entry ∷ h) d page released c =
    by (is_about entry (held_at h d page) d page)
    (Contains-append_cases (if is_about entry (held_at h d page) d page then released_by entry (held_at h d page) else []) (released_at h d page) released c)
    (released_was_granted h d page released)
  where
    by : (b : Bool) → Contains (if b then released_by entry (held_at h d page) else []) released ⊎ Contains (released_at h d page) released
        → (Contains (released_at h d page) released → grants_at h d page ≡ true) → grants_at (entry ∷ h) d page ≡ true
    by b (inr old) rest = granted_before entry h d page (rest old)
    by true (inl new) rest = granted_before entry h d page (held_was_granted h d page released.1 (released_was_held entry (held_at h d page) released.0 released.1 new))
    by false (inl (k, below, at)) rest = absurd (omega arith)

-- a page that is granted is looked at
looked_at : (all h : History) (d page frame : ℕ) (kind : AccessKind) → grants_at h d page ≡ true
    → (holds_for all d page kind frame || lingers_for all all d page kind frame) ≡ true → reaches_in all h d frame kind ≡ true
looked_at all [] d page frame kind granted passes = absurd (false≢true granted)
looked_at all (Granted x p f rights ∷ h) d page frame kind granted passes = by ((x == d) && (p == page)) refl granted (λ g. looked_at all h d page frame kind g passes)
  where
    by : (b : Bool) → ((x == d) && (p == page)) ≡ b → (b || grants_at h d page) ≡ true → (grants_at h d page ≡ true → reaches_in all h d frame kind ≡ true)
        → reaches_in all (Granted x p f rights ∷ h) d frame kind ≡ true
    by true e g rest = or_left (holds_for all d p kind frame || lingers_for all all d p kind frame) (reaches_in all h d frame kind)
        (subst (λ q. (holds_for all d q kind frame || lingers_for all all d q kind frame) ≡ true) (sym (eqb-true p page (and_parts (x == d) (p == page) e).1)) passes)
    by false e g rest = or_right (holds_for all d p kind frame || lingers_for all all d p kind frame) (reaches_in all h d frame kind) (rest g)
looked_at all (Released x p ticket ∷ h) d page frame kind granted passes = looked_at all h d page frame kind granted passes
looked_at all (AllReleased x ticket ∷ h) d page frame kind granted passes = looked_at all h d page frame kind granted passes
looked_at all (Confirmed ticket ∷ h) d page frame kind granted passes = looked_at all h d page frame kind granted passes

-- a device that is granted something is asked
asked_at : (all h : History) (d page frame : ℕ) → grants_at h d page ≡ true → reaches_in all all d frame Read ≡ true → anyone_reaches_in all h frame ≡ true
asked_at all [] d page frame granted passes = absurd (false≢true granted)
asked_at all (Granted x p f rights ∷ h) d page frame granted passes = by ((x == d) && (p == page)) refl granted (λ g. asked_at all h d page frame g passes)
  where
    by : (b : Bool) → ((x == d) && (p == page)) ≡ b → (b || grants_at h d page) ≡ true → (grants_at h d page ≡ true → anyone_reaches_in all h frame ≡ true)
        → anyone_reaches_in all (Granted x p f rights ∷ h) frame ≡ true
    by true e g rest = or_left (reaches_in all all x frame Read) (anyone_reaches_in all h frame)
        (subst (λ q. reaches_in all all q frame Read ≡ true) (sym (eqb-true x d (and_parts (x == d) (p == page) e).0)) passes)
    by false e g rest = or_right (reaches_in all all x frame Read) (anyone_reaches_in all h frame) (rest g)
asked_at all (Released x p ticket ∷ h) d page frame granted passes = asked_at all h d page frame granted passes
asked_at all (AllReleased x ticket ∷ h) d page frame granted passes = asked_at all h d page frame granted passes
asked_at all (Confirmed ticket ∷ h) d page frame granted passes = asked_at all h d page frame granted passes

-- a device that may reach a frame was granted something
may_was_granted : (h : History) (d frame : ℕ) (kind : AccessKind) → May h d frame kind → (page : ℕ) × (grants_at h d page ≡ true)
may_was_granted h d frame kind (page, rights, inl holds, allowed) = (page, held_was_granted h d page (frame, rights) holds)
may_was_granted h d frame kind (page, rights, inr lingers, allowed) =
    (page, released_was_granted h d page (lingers.0, (frame, rights)) (contains_from_filter (λ r. not (confirms h r.0)) (released_at h d page) (lingers.0, (frame, rights)) lingers.1).0)

pub reaches_if_may : (h : History) (d frame : ℕ) (kind : AccessKind) → May h d frame kind → reaches_in h h d frame kind ≡ true
reaches_if_may h d frame kind (page, rights, inl holds, allowed) =
    looked_at h h d page frame kind (held_was_granted h d page (frame, rights) holds)
    (or_left (holds_for h d page kind frame) (lingers_for h h d page kind frame) (HoldsFor-test h d page kind frame (rights, holds, allowed)))
reaches_if_may h d frame kind (page, rights, inr lingers, allowed) =
    looked_at h h d page frame kind
    (released_was_granted h d page (lingers.0, (frame, rights)) (contains_from_filter (λ r. not (confirms h r.0)) (released_at h d page) (lingers.0, (frame, rights)) lingers.1).0)
    (or_right (holds_for h d page kind frame) (lingers_for h h d page kind frame) (LingersFor-test h d page kind frame (rights, lingers, allowed)))

pub may_if_reaches : (all h : History) (d frame : ℕ) (kind : AccessKind) → reaches_in all h d frame kind ≡ true → May all d frame kind
may_if_reaches all [] d frame kind e = absurd (false≢true e)
may_if_reaches all (Granted x p f rights ∷ h) d frame kind e = by (holds_for all d p kind frame) (lingers_for all all d p kind frame) refl refl e (may_if_reaches all h d frame kind)
  where
    by : (b c : Bool) → holds_for all d p kind frame ≡ b → lingers_for all all d p kind frame ≡ c → ((b || c) || reaches_in all h d frame kind) ≡ true
        → (reaches_in all h d frame kind ≡ true → May all d frame kind) → May all d frame kind
    by true c holds lingers x rest = let found = HoldsFor-from all d p kind frame holds in (p, found.0, inl found.1, found.2)
    by false true holds lingers x rest = let found = LingersFor-from all d p kind frame lingers in (p, found.0, inr found.1, found.2)
    by false false holds lingers x rest = rest x
may_if_reaches all (Released x p ticket ∷ h) d frame kind e = may_if_reaches all h d frame kind e
may_if_reaches all (AllReleased x ticket ∷ h) d frame kind e = may_if_reaches all h d frame kind e
may_if_reaches all (Confirmed ticket ∷ h) d frame kind e = may_if_reaches all h d frame kind e

-- the frame lingers at some page, with such a right
abbrev pub LingersSomewhere : History → ℕ → ℕ → AccessKind → Type 0
LingersSomewhere history id frame kind =
    (page : ℕ) × (rights : Rights) × Lingers history id page (frame, rights) × (allows rights kind ≡ true)

-- a page that is granted is looked at for what lingers
lingering_looked_at : (all h : History) (d page frame : ℕ) (kind : AccessKind) → grants_at h d page ≡ true
    → lingers_for all all d page kind frame ≡ true → lingers_among all h d frame kind ≡ true
lingering_looked_at all [] d page frame kind granted passes = absurd (false≢true granted)
lingering_looked_at all (Granted x p f rights ∷ h) d page frame kind granted passes = by ((x == d) && (p == page)) refl granted (λ g. lingering_looked_at all h d page frame kind g passes)
  where
    by : (b : Bool) → ((x == d) && (p == page)) ≡ b → (b || grants_at h d page) ≡ true → (grants_at h d page ≡ true → lingers_among all h d frame kind ≡ true)
        → lingers_among all (Granted x p f rights ∷ h) d frame kind ≡ true
    by true e g rest = or_left (lingers_for all all d p kind frame) (lingers_among all h d frame kind)
        (subst (λ q. lingers_for all all d q kind frame ≡ true) (sym (eqb-true p page (and_parts (x == d) (p == page) e).1)) passes)
    by false e g rest = or_right (lingers_for all all d p kind frame) (lingers_among all h d frame kind) (rest g)
lingering_looked_at all (Released x p ticket ∷ h) d page frame kind granted passes = lingering_looked_at all h d page frame kind granted passes
lingering_looked_at all (AllReleased x ticket ∷ h) d page frame kind granted passes = lingering_looked_at all h d page frame kind granted passes
lingering_looked_at all (Confirmed ticket ∷ h) d page frame kind granted passes = lingering_looked_at all h d page frame kind granted passes

pub among_if_somewhere : (h : History) (d frame : ℕ) (kind : AccessKind) → LingersSomewhere h d frame kind → lingers_among h h d frame kind ≡ true
among_if_somewhere h d frame kind (page, rights, lingers, allowed) =
    lingering_looked_at h h d page frame kind
    (released_was_granted h d page (lingers.0, (frame, rights)) (contains_from_filter (λ r. not (confirms h r.0)) (released_at h d page) (lingers.0, (frame, rights)) lingers.1).0)
    (LingersFor-test h d page kind frame (rights, lingers, allowed))

pub somewhere_if_among : (all h : History) (d frame : ℕ) (kind : AccessKind) → lingers_among all h d frame kind ≡ true → LingersSomewhere all d frame kind
somewhere_if_among all [] d frame kind e = absurd (false≢true e)
somewhere_if_among all (Granted x p f rights ∷ h) d frame kind e = by (lingers_for all all d p kind frame) refl e (somewhere_if_among all h d frame kind)
  where
    by : (b : Bool) → lingers_for all all d p kind frame ≡ b → (b || lingers_among all h d frame kind) ≡ true
        → (lingers_among all h d frame kind ≡ true → LingersSomewhere all d frame kind) → LingersSomewhere all d frame kind
    by true lingers x rest = let found = LingersFor-from all d p kind frame lingers in (p, found.0, found.1, found.2)
    by false lingers x rest = rest x
somewhere_if_among all (Released x p ticket ∷ h) d frame kind e = somewhere_if_among all h d frame kind e
somewhere_if_among all (AllReleased x ticket ∷ h) d frame kind e = somewhere_if_among all h d frame kind e
somewhere_if_among all (Confirmed ticket ∷ h) d frame kind e = somewhere_if_among all h d frame kind e

-- where a pair is held, nothing serves exactly where its right doesn't allow the kind
pub HoldsNoneFor-by_right : (h : History) (id page : ℕ) (kind : AccessKind) (pair : Pair) → held_at h id page ≡ Some pair
    → (not (allows pair.1 kind) ≡ true → HoldsNoneFor h id page kind) × (HoldsNoneFor h id page kind → not (allows pair.1 kind) ≡ true)
HoldsNoneFor-by_right h id page kind pair at = (forward, by (allows pair.1 kind) refl)
  where
    forward : not (allows pair.1 kind) ≡ true → HoldsNoneFor h id page kind
    forward none frame (rights, holds, allowed) =
        let pairs : ◌≡◌ {A = Pair} pair (frame, rights) = cc in
        let same : allows pair.1 kind ≡ true = ap (λ (p : Pair). allows p.1 kind) pairs ∙ allowed in
        false≢true (ap not (sym same) ∙ none)

    by : (b : Bool) → allows pair.1 kind ≡ b → HoldsNoneFor h id page kind → not b ≡ true
    by false e none = refl
    by true e none = absurd (none pair.0 (pair.1, at, e))

-- where no device is found to reach the frame, none may
pub anyone_if_may : (h : History) (d frame : ℕ) (kind : AccessKind) → May h d frame kind → anyone_reaches_in h h frame ≡ true
anyone_if_may h d frame kind may =
    let granted = may_was_granted h d frame kind may in
    asked_at h h d granted.0 frame granted.1 (reaches_if_may h d frame Read (may.0, may.1, may.2, allows-Read may.1 kind may.3))

pub may_if_anyone : (all h : History) (frame : ℕ) → anyone_reaches_in all h frame ≡ true → (d : ℕ) × May all d frame Read
may_if_anyone all [] frame e = absurd (false≢true e)
may_if_anyone all (Granted x p f rights ∷ h) frame e = by (reaches_in all all x frame Read) refl e (may_if_anyone all h frame)
  where
    by : (b : Bool) → reaches_in all all x frame Read ≡ b → (b || anyone_reaches_in all h frame) ≡ true
        → (anyone_reaches_in all h frame ≡ true → (d : ℕ) × May all d frame Read) → (d : ℕ) × May all d frame Read
    by true reached y rest = (x, may_if_reaches all all x frame Read reached)
    by false reached y rest = rest y
may_if_anyone all (Released x p ticket ∷ h) frame e = may_if_anyone all h frame e
may_if_anyone all (AllReleased x ticket ∷ h) frame e = may_if_anyone all h frame e
may_if_anyone all (Confirmed ticket ∷ h) frame e = may_if_anyone all h frame e

pub out_of_reach_test : (h : History) (frame : ℕ) → (not (anyone_reaches_in h h frame) ≡ true → NoneMayReach h frame) × (NoneMayReach h frame → not (anyone_reaches_in h h frame) ≡ true)
out_of_reach_test h frame = ((λ none device kind may. false≢true (ap not (sym (anyone_if_may h device frame kind may)) ∙ none)), by (anyone_reaches_in h h frame) refl)
  where
    by : (b : Bool) → anyone_reaches_in h h frame ≡ b → NoneMayReach h frame → not b ≡ true
    by false e out = refl
    by true e out = let found = may_if_anyone h h frame e in absurd (out found.0 Read found.1)

-- fewer than n frames are free exactly where the list of them is shorter
pub fewer_than : (IsOfSort : ℕ → Type 0) (all : List ℕ) (n : ℕ) → IsDistinct nat_eq all → All IsOfSort all → ((x : ℕ) → IsOfSort x → is_member nat_eq all x ≡ true)
    → ((length all < n → FewerThan n IsOfSort) × (FewerThan n IsOfSort → length all < n))
fewer_than IsOfSort all n distinct each whole = (
  (λ short numbers once sorted.
      let most : length numbers ≤ length all = length-le_from_is_member nat_eq_equiv numbers all once
      (λ q m. whole q (let found = passing_element (nat_eq q) numbers m in subst IsOfSort (sym (eqb-true q found.0 found.2)) (All-contains IsOfSort numbers found.0 sorted found.1))) in omega arith),
  (λ fewer. fewer all distinct each),
)

-- a filter keeps something exactly where something passes
pub some_kept : {X : Type 0} (p : X → Bool) (xs : List X) → not (length (filter p xs) == 0) ≡ list_any p xs
some_kept p [] = refl
some_kept p (x ∷ xs) = by (p x) (some_kept p xs)
  where
    by : (b : Bool) → not (length (filter p xs) == 0) ≡ list_any p xs → not (length (cond b (x ∷ filter p xs) (filter p xs)) == 0) ≡ (b || list_any p xs)
    by true rest = more (length (x ∷ filter p xs) == 0) refl
      where
        more : (c : Bool) → (length (x ∷ filter p xs) == 0) ≡ c → not c ≡ true
        more false e = refl
        more true e = let none : length (x ∷ filter p xs) ≡ 0 = eqb-true _ _ e in absurd (omega arith)
    by false rest = rest
