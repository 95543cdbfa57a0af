-- What a ledger shows as reached, said of a past.
use Rattle.std.proofs.Common.{◌≡◌, ◌↔◌, ℕ, zero, suc, ◌+◌, ◌-◌, ◌<◌, ◌≤◌, inl, inr, Bool, true, false, not, ◌==◌, ◌&&◌, ◌||◌, List, [], ◌∷◌, Contains, map, length, get_or, nat_eq, nat_lt, nat_le, Option, None, Some, if◌then◌else◌, refl, sym, ap, ◌∙◌, subst, arith}
use Rattle.std.specs.List.{IsDistinct, position, position_or_len}
use Rattle.std.specs.Option.{option_map, option_to_list}
use Rattle.std.proofs.lemmas.Bool.{false≢true, eqb-true, eq-eqb}
use Rattle.std.proofs.lemmas.Bool.Decides.{nat_tests}
use Rattle.std.proofs.lemmas.List.Elements.{Contains-append_cases}
use Rattle.std.proofs.lemmas.List.Quantifiers.{position-Some}
use Rattle.std.proofs.lemmas.List.Sums.{fails_before_first}
use Rattle.std.proofs.lemmas.Map.Keys.{apart_from_distinct}
use Rattle.iom_base.specs.declared.access.AccessKind.{AccessKind}
use Rattle.iom_base.specs.declared.rights.Rights.{Rights}
use Rattle.iom_base.specs.Rights.{allows}
use Rattle.iom_ledger.specs.declared.entry.HistoryEntry.{HistoryEntry}
use Rattle.iom_ledger.specs.declared.entry.HistoryEntry.TheVariants.{Granted, Released, AllReleased, Confirmed}
use Rattle.iom_ledger.specs.History.{History, Pair, is_about, granted_by, released_by, confirmed_from, confirms, held_at, released_at, lingering_at, Holds, Lingers, May, NoneMayReach}
use Rattle.iom_ledger.specs.Shown.{held_in, released_in}
use Rattle.iom_machine.specs.Requests.{LingersSomewhere}
use Rattle.iom_machine.proofs.ReachLemmas.{cons_cases, contains_head, contains_filter, contains_from_filter}
use Rattle.iom_kept_state.specs.declared.grants.KeptGrants.{KeptGrants}
use Rattle.iom_kept_state.specs.declared.wanted.Wanted.{Wanted}
use Rattle.iom_kept_state.specs.Grants.{IsPastOf, IsPlaced, ArePlaced, held_by, named_pair, frame_at_place}
use Rattle.iom_kept_state.specs.Wanted.{is_between, IsReached}
use Rattle.iom_kept_state.proofs.NamedLemmas.{named_release}
use Rattle.iom_kept_state.proofs.LookLemmas.{held_of_past, lingering_of_past}

-- TICKETS THAT ARE CONFIRMED BESIDES

held_at-confirmed : (first n : ℕ) (h : History) (device page : ℕ) → held_at (confirmed_from first n h) device page ≡ held_at h device page
held_at-confirmed first zero h device page = refl
held_at-confirmed first (suc n) h device page = held_at-confirmed first n h device page

released_at-confirmed : (first n : ℕ) (h : History) (device page : ℕ) → released_at (confirmed_from first n h) device page ≡ released_at h device page
released_at-confirmed first zero h device page = refl
released_at-confirmed first (suc n) h device page = released_at-confirmed first n h device page

-- a ticket from the first on is confirmed, or was before
between-none : (first ticket : ℕ) (b : Bool) → ((nat_le first ticket && nat_lt ticket (first + zero)) || b) ≡ b
between-none first ticket b = by (nat_le first ticket) (nat_lt ticket (first + zero)) refl refl
  where
    by : (low up : Bool) → nat_le first ticket ≡ low → nat_lt ticket (first + zero) ≡ up → ((low && up) || b) ≡ b
    by false up e f = refl
    by true false e f = refl
    by true true e f = absurd (grind (arith, nat_tests))

between-more : (first n ticket : ℕ) (b : Bool) → ((first + n == ticket) || ((nat_le first ticket && nat_lt ticket (first + n)) || b)) ≡ ((nat_le first ticket && nat_lt ticket (first + suc n)) || b)
between-more first n ticket b = by (first + n == ticket) (nat_le first ticket) (nat_lt ticket (first + n)) (nat_lt ticket (first + suc n)) refl refl refl refl
  where
    by : (same low up up' : Bool) → (first + n == ticket) ≡ same → nat_le first ticket ≡ low → nat_lt ticket (first + n) ≡ up → nat_lt ticket (first + suc n) ≡ up'
        → (same || ((low && up) || b)) ≡ ((low && up') || b)
    by true true up true e f g i = refl
    by true true up false e f g i = absurd (grind (arith, nat_tests))
    by true false up up' e f g i = absurd (grind (arith, nat_tests))
    by false false up up' e f g i = refl
    by false true true true e f g i = refl
    by false true false false e f g i = refl
    by false true true false e f g i = absurd (grind (arith, nat_tests))
    by false true false true e f g i = absurd (grind (arith, nat_tests))

confirms-from : (first n : ℕ) (h : History) (ticket : ℕ) → confirms (confirmed_from first n h) ticket ≡ ((nat_le first ticket && nat_lt ticket (first + n)) || confirms h ticket)
confirms-from first zero h ticket = sym (between-none first ticket (confirms h ticket))
confirms-from first (suc n) h ticket = ap (λ (b : Bool). (first + n == ticket) || b) (confirms-from first n h ticket) ∙ between-more first n ticket (confirms h ticket)

-- as many as there are from the first to the last
between-is : (first last ticket : ℕ) → first ≤ suc last → (nat_le first ticket && nat_lt ticket (first + (suc last - first))) ≡ is_between first last ticket
between-is first last ticket range = by (nat_lt ticket (first + (suc last - first))) (nat_le ticket last) refl refl
  where
    end : first + (suc last - first) ≡ suc last
    end = omega (arith, range)

    by : (up up' : Bool) → nat_lt ticket (first + (suc last - first)) ≡ up → nat_le ticket last ≡ up' → (nat_le first ticket && up) ≡ (nat_le first ticket && up')
    by true true e f = refl
    by false false e f = refl
    by true false e f = let e' : nat_lt ticket (suc last) ≡ true = ap (λ (n : ℕ). nat_lt ticket n) (sym end) ∙ e in absurd (grind (arith, nat_tests))
    by false true e f = let e' : nat_lt ticket (suc last) ≡ false = ap (λ (n : ℕ). nat_lt ticket n) (sym end) ∙ e in absurd (grind (arith, nat_tests))

or_false : (a b : Bool) → a ≡ false → b ≡ false → (a || b) ≡ false
or_false false b e f = f
or_false true b e f = absurd (false≢true (sym e))

both_false : (a b : Bool) → (a || b) ≡ false → (a ≡ false) × (b ≡ false)
both_false false b e = (refl, e)
both_false true b e = absurd (false≢true (sym e))

not_true : (b : Bool) → not b ≡ true → b ≡ false
not_true true e = cc
not_true false e = refl

-- PLACES

-- what is held names a place
placed_held : (count : ℕ) (history : History) → ArePlaced count history → (device page : ℕ) (pair : Pair) → held_at history device page ≡ Some pair → pair.0 < count
placed_held count [] placed device page pair held = cc
placed_held count (entry ∷ before) placed device page pair held =
    by entry (is_about entry (held_at before device page) device page) placed.0 held (placed_held count before placed.1 device page pair)
  where
    by : (e : HistoryEntry) (b : Bool) → IsPlaced count e → (if b then granted_by e else held_at before device page) ≡ Some pair
        → (held_at before device page ≡ Some pair → pair.0 < count) → pair.0 < count
    by e false is held rest = rest held
    by (Granted d a place rights) true is held rest = let same : place ≡ pair.0 = cc in subst (λ (p : ℕ). p < count) same is
    by (Released d a t) true is held rest = cc
    by (AllReleased d t) true is held rest = cc
    by (Confirmed t) true is held rest = cc

-- what was released does
one_element : (own : Pair) (t ticket : ℕ) (pair : Pair) → Contains {X = ℕ × Pair} ((t, own) ∷ []) (ticket, pair) → (t ≡ ticket) × (own ≡ pair)
one_element own t ticket pair in_it = elim (cons_cases {X = ℕ × Pair} (t, own) [] (ticket, pair) in_it) [
  | inl same ↦ (ap (λ (r : ℕ × Pair). r.0) same, ap (λ (r : ℕ × Pair). r.1) same)
  | inr (k, below, at) ↦ absurd (omega arith)
]

released_was_held : (entry : HistoryEntry) (before : Option Pair) (ticket : ℕ) (pair : Pair) → Contains (released_by entry before) (ticket, pair) → before ≡ Some pair
released_was_held (Released d a t) (Some own) ticket pair in_it = ap Some (one_element own t ticket pair in_it).1
released_was_held (AllReleased d t) (Some own) ticket pair in_it = ap Some (one_element own t ticket pair in_it).1
released_was_held (Released d a t) None ticket pair (k, below, at) = absurd (omega arith)
released_was_held (AllReleased d t) None ticket pair (k, below, at) = absurd (omega arith)
released_was_held (Granted d a f r) before ticket pair (k, below, at) = absurd (omega arith)
released_was_held (Confirmed t) before ticket pair (k, below, at) = absurd (omega arith)

placed_released : (count : ℕ) (history : History) → ArePlaced count history → (device page ticket : ℕ) (pair : Pair) → Contains (released_at history device page) (ticket, pair) → pair.0 < count
placed_released count [] placed device page ticket pair (k, below, at) = absurd (omega arith)
placed_released count (entry ∷ before) placed device page ticket pair released =
    elim (Contains-append_cases (if is_about entry (held_at before device page) device page then released_by entry (held_at before device page) else []) (released_at before device page) (ticket, pair) released) [
      | inl now ↦ by (is_about entry (held_at before device page) device page) now
      | inr earlier ↦ placed_released count before placed.1 device page ticket pair earlier
    ]
  where
    by : (b : Bool) → Contains (if b then released_by entry (held_at before device page) else []) (ticket, pair) → pair.0 < count
    by true now = placed_held count before placed.1 device page pair (released_was_held entry (held_at before device page) ticket pair now)
    by false (k, below, at) = absurd (omega arith)

-- the frame stands at the place, and at no other
pub record IsNamedAt (names : List ℕ) (place frame : ℕ) : Type 0 where
  pub within : place < length names
  pub named : frame_at_place names place ≡ frame

pub named_where_found : (names : List ℕ) (frame place : ℕ) → position (nat_eq frame) names ≡ Some place → IsNamedAt names place frame
named_where_found names frame place found =
    let (within, same, first) = position-Some (nat_eq frame) names place 0 found in
    record { within = within; named = sym (eqb-true frame (get_or names place 0) same) }

pub one_place : (names : List ℕ) (frame place place' : ℕ) → IsDistinct nat_eq names → IsNamedAt names place frame → IsNamedAt names place' frame → place ≡ place'
one_place names frame place place' distinct one other = by (nat_lt place place') (nat_lt place' place) refl refl
  where
    clash : (i j : ℕ) → i < j → IsNamedAt names i frame → IsNamedAt names j frame → ⊥
    clash i j less low high =
        let apart = apart_from_distinct nat_eq names i j 0 distinct less high.within in
        let same : get_or names i 0 ≡ get_or names j 0 = low.named ∙ sym high.named in
        false≢true (sym apart ∙ eq-eqb (get_or names i 0) (get_or names j 0) same)

    by : (b c : Bool) → nat_lt place place' ≡ b → nat_lt place' place ≡ c → place ≡ place'
    by true c e f = absurd (clash place place' (grind (arith, nat_tests)) one other)
    by false true e f = absurd (clash place' place (grind (arith, nat_tests)) other one)
    by false false e f = grind (arith, nat_tests)

pub nowhere_named : (names : List ℕ) (frame place : ℕ) → position (nat_eq frame) names ≡ None → ¬ IsNamedAt names place frame
nowhere_named names frame place none at =
    let past : length names ≤ position_or_len (nat_eq frame) names = by (nat_lt (position_or_len (nat_eq frame) names) (length names)) refl none in
    let fails = fails_before_first (nat_eq frame) names place 0 (omega (arith, past, at.within)) in
    false≢true (sym fails ∙ eq-eqb frame (get_or names place 0) (sym at.named))
  where
    by : (b : Bool) → nat_lt (position_or_len (nat_eq frame) names) (length names) ≡ b → (if b then Some (position_or_len (nat_eq frame) names) else None) ≡ None
        → length names ≤ position_or_len (nat_eq frame) names
    by true e none = cc
    by false e none = grind (arith, nat_tests)

-- WHAT IS REACHED, SAID OF A PAST
module _ (kept : KeptGrants) (h : History) (past : IsPastOf kept h) (first last : ℕ) (range : first ≤ suc last) where
  -- the past, once the tickets from the first to the last are confirmed
  abbrev once : History
  once = confirmed_from first (suc last - first) h

  confirms_once : (ticket : ℕ) → confirms once ticket ≡ (is_between first last ticket || confirms h ticket)
  confirms_once ticket = confirms-from first (suc last - first) h ticket ∙ ap (λ (b : Bool). b || confirms h ticket) (between-is first last ticket range)

  lingers_once : (device page ticket : ℕ) (pair : Pair) → released_in kept.ledger device page ≡ Some (ticket, pair) → is_between first last ticket ≡ false
      → Lingers once device page (named_pair kept.names.keys pair)
  lingers_once device page ticket pair released open' =
      let there : Contains (lingering_at h device page) (ticket, named_pair kept.names.keys pair) =
      subst (λ (l : List (ℕ × Pair)). Contains l (ticket, named_pair kept.names.keys pair))
      (sym (lingering_of_past kept h past device page ∙ ap (λ (r : Option (ℕ × Pair)). map (named_release kept.names.keys) (option_to_list r)) released))
      (contains_head {X = ℕ × Pair} (ticket, named_pair kept.names.keys pair) []) in
      let (was, passes) = contains_from_filter (λ (r : ℕ × Pair). not (confirms h r.0)) (released_at h device page) (ticket, named_pair kept.names.keys pair) there in
      let is = subst (λ (l : List (ℕ × Pair)). Contains l (ticket, named_pair kept.names.keys pair)) (sym (released_at-confirmed first (suc last - first) h device page)) was in
      (ticket, contains_filter (λ (r : ℕ × Pair). not (confirms once r.0)) (released_at once device page) (ticket, named_pair kept.names.keys pair) is (ap not (confirms_once ticket ∙ or_false (is_between first last ticket) (confirms h ticket) open' (not_true (confirms h ticket) passes))))

  -- what lingers then
  released_from_once : (device page ticket : ℕ) (pair : Pair) → Contains (lingering_at once device page) (ticket, pair)
      → (own : Pair) × (released_in kept.ledger device page ≡ Some (ticket, own)) × (named_pair kept.names.keys own ≡ pair) × (is_between first last ticket ≡ false) × (own.0 < length kept.names.keys)
  released_from_once device page ticket pair lingers =
      let (was, passes) = contains_from_filter (λ (r : ℕ × Pair). not (confirms once r.0)) (released_at once device page) (ticket, pair) lingers in
      let (after, now) = both_false (is_between first last ticket) (confirms h ticket) (sym (confirms_once ticket) ∙ not_true (confirms once ticket) passes) in
      let there = contains_filter (λ (r : ℕ × Pair). not (confirms h r.0)) (released_at h device page) (ticket, pair)
      (subst (λ (l : List (ℕ × Pair)). Contains l (ticket, pair)) (released_at-confirmed first (suc last - first) h device page) was)
      (ap not now) in
      by (released_in kept.ledger device page) refl (subst (λ (l : List (ℕ × Pair)). Contains l (ticket, pair)) (lingering_of_past kept h past device page) there) after
    where
      by : (released : Option (ℕ × Pair)) → released_in kept.ledger device page ≡ released → Contains (map (named_release kept.names.keys) (option_to_list released)) (ticket, pair) → is_between first last ticket ≡ false
          → (own : Pair) × (released_in kept.ledger device page ≡ Some (ticket, own)) × (named_pair kept.names.keys own ≡ pair) × (is_between first last ticket ≡ false) × (own.0 < length kept.names.keys)
      by None e (k, below, at) after = absurd (omega arith)
      by (Some (t, own)) e in_it after =
          let (tickets, pairs) = one_element (named_pair kept.names.keys own) t ticket pair in_it in
          let within : own.0 < length kept.names.keys = placed_released (length kept.names.keys) past.placed past.within device page t own
          (contains_from_filter (λ (r : ℕ × Pair). not (confirms past.placed r.0)) (released_at past.placed device page) (t, own)
          (subst (λ (l : List (ℕ × Pair)). Contains l (t, own)) (sym ((past.grants.pages device page).lingers ∙ ap option_to_list e)) (contains_head {X = ℕ × Pair} (t, own) []))).0 in
          (own, e ∙ ap (λ (n : ℕ). Some (n, own)) tickets, pairs, after, within)

  -- what is held then
  held_from_once : (device page : ℕ) (pair : Pair) → held_at once device page ≡ Some pair
      → (own : Pair) × (held_in kept.ledger device page ≡ Some own) × (named_pair kept.names.keys own ≡ pair) × (own.0 < length kept.names.keys)
  unfolding held_by
  held_from_once device page pair held =
      by (held_in kept.ledger device page) refl
      (held_of_past kept h past device page ∙ sym (held_at-confirmed first (suc last - first) h device page) ∙ held)
    where
      by : (own : Option Pair) → held_in kept.ledger device page ≡ own → held_by kept device page ≡ Some pair
          → (own : Pair) × (held_in kept.ledger device page ≡ Some own) × (named_pair kept.names.keys own ≡ pair) × (own.0 < length kept.names.keys)
      by None e held = let none : None ≡ Some pair = sym (ap (option_map (named_pair kept.names.keys)) e) ∙ held in cc
      by (Some own) e held =
          let same : Some (named_pair kept.names.keys own) ≡ Some pair = sym (ap (option_map (named_pair kept.names.keys)) e) ∙ held in
          (own, e, cc, placed_held (length kept.names.keys) past.placed past.within device page own ((past.grants.pages device page).holds ∙ e))

  module _ (wanted : Wanted) (frame : ℕ) (first_is : wanted.first ≡ first) (last_is : wanted.last ≡ last) (named : IsNamedAt kept.names.keys wanted.place frame) where
    range_is : (ticket : ℕ) → is_between wanted.first wanted.last ticket ≡ is_between first last ticket
    range_is ticket = ap (λ (n : ℕ). is_between n wanted.last ticket) first_is ∙ ap (λ (n : ℕ). is_between first n ticket) last_is

    -- what is reached in the ledger is so once the tickets are confirmed
    pair_is : (rights : Rights) → named_pair kept.names.keys (wanted.place, rights) ≡ (frame, rights)
    pair_is rights = ap (λ (f : ℕ). (f, rights)) named.named

    lingers_from : (page ticket : ℕ) (rights : Rights) → released_in kept.ledger wanted.device page ≡ Some (ticket, (wanted.place, rights)) → is_between wanted.first wanted.last ticket ≡ false
        → Lingers once wanted.device page (frame, rights)
    lingers_from page ticket rights released counts =
        subst (λ (p : Pair). Lingers once wanted.device page p) (pair_is rights)
        (lingers_once wanted.device page ticket (wanted.place, rights) released (sym (range_is ticket) ∙ counts))

    holds_from : (page : ℕ) (rights : Rights) → held_in kept.ledger wanted.device page ≡ Some (wanted.place, rights) → Holds once wanted.device page (frame, rights)
    unfolding held_by
    holds_from page rights held =
        held_at-confirmed first (suc last - first) h wanted.device page ∙ sym (held_of_past kept h past wanted.device page)
        ∙ ap (option_map (named_pair kept.names.keys)) held ∙ ap Some (pair_is rights)

    pub may_from_reached : wanted.held ≡ true → IsReached wanted kept.ledger → May once wanted.device frame wanted.kind
    may_from_reached with_held (page, rights, None, reaches, allowed, counts) = (page, rights, inl (holds_from page rights reaches), allowed)
    may_from_reached with_held (page, rights, Some ticket, reaches, allowed, counts) = (page, rights, inr (lingers_from page ticket rights reaches counts), allowed)

    pub lingers_from_reached : wanted.held ≡ false → IsReached wanted kept.ledger → LingersSomewhere once wanted.device frame wanted.kind
    lingers_from_reached without (page, rights, None, reaches, allowed, counts) = absurd (false≢true (sym without ∙ counts))
    lingers_from_reached without (page, rights, Some ticket, reaches, allowed, counts) = (page, rights, lingers_from page ticket rights reaches counts, allowed)

    -- and the other way
    place_is : (own : Pair) (rights : Rights) → named_pair kept.names.keys own ≡ (frame, rights) → own.0 < length kept.names.keys → own ≡ (wanted.place, rights)
    place_is own rights same within =
        let frames : frame_at_place kept.names.keys own.0 ≡ frame = ap (λ (p : Pair). p.0) same in
        let places = one_place kept.names.keys frame own.0 wanted.place past.unique (record { within = within; named = frames }) named in
        let both : own.1 ≡ rights = ap (λ (p : Pair). p.1) same in
        ap (λ (n : ℕ). (n, own.1)) places ∙ ap (λ (r : Rights). (wanted.place, r)) both

    reached_from_lingers : (page : ℕ) (rights : Rights) → Lingers once wanted.device page (frame, rights) → allows rights wanted.kind ≡ true → IsReached wanted kept.ledger
    reached_from_lingers page rights (ticket, lingers) allowed =
        let (own, released, same, after, within) = released_from_once wanted.device page ticket (frame, rights) lingers in
        (page, rights, Some ticket, released ∙ ap (λ (p : Pair). Some (ticket, p)) (place_is own rights same within), allowed, range_is ticket ∙ after)

    pub reached_from_may : wanted.held ≡ true → May once wanted.device frame wanted.kind → IsReached wanted kept.ledger
    reached_from_may with_held (page, rights, inr lingers, allowed) = reached_from_lingers page rights lingers allowed
    reached_from_may with_held (page, rights, inl held, allowed) =
        let (own, in_it, same, within) = held_from_once wanted.device page (frame, rights) held in
        (page, rights, None, in_it ∙ ap Some (place_is own rights same within), allowed, with_held)

    pub reached_from_somewhere : LingersSomewhere once wanted.device frame wanted.kind → IsReached wanted kept.ledger
    reached_from_somewhere (page, rights, lingers, allowed) = reached_from_lingers page rights lingers allowed

  -- a frame that has no place is reached by nobody
  pub none_may : (device frame : ℕ) (kind : AccessKind) → position (nat_eq frame) kept.names.keys ≡ None → ¬ May once device frame kind
  none_may device frame kind none (page, rights, inl held, allowed) =
      let (own, in_it, same, within) = held_from_once device page (frame, rights) held in
      nowhere_named kept.names.keys frame own.0 none (record { within = within; named = ap (λ (p : Pair). p.0) same })
  none_may device frame kind none (page, rights, inr (ticket, lingers), allowed) =
      let (own, released, same, after, within) = released_from_once device page ticket (frame, rights) lingers in
      nowhere_named kept.names.keys frame own.0 none (record { within = within; named = ap (λ (p : Pair). p.0) same })

  pub none_lingers : (device frame : ℕ) (kind : AccessKind) → position (nat_eq frame) kept.names.keys ≡ None → ¬ LingersSomewhere once device frame kind
  none_lingers device frame kind none (page, rights, lingers, allowed) = none_may device frame kind none (page, rights, inr lingers, allowed)

-- what the placed history says is reached
module _ (kept : KeptGrants) (h : History) (past : IsPastOf kept h) (wanted : Wanted) (besides : (ticket : ℕ) → is_between wanted.first wanted.last ticket ≡ false) (with_held : wanted.held ≡ true) where
  pub reached_from_placed : May past.placed wanted.device wanted.place wanted.kind → IsReached wanted kept.ledger
  reached_from_placed (page, rights, inl held, allowed) = (page, rights, None, sym (past.grants.pages wanted.device page).holds ∙ held, allowed, with_held)
  reached_from_placed (page, rights, inr (ticket, lingers), allowed) =
      let there = subst (λ (l : List (ℕ × Pair)). Contains l (ticket, (wanted.place, rights))) (past.grants.pages wanted.device page).lingers lingers in
      (page, rights, Some ticket, by (released_in kept.ledger wanted.device page) refl there, allowed, besides ticket)
    where
      by : (released : Option (ℕ × Pair)) → released_in kept.ledger wanted.device page ≡ released → Contains (option_to_list released) (ticket, (wanted.place, rights))
          → released_in kept.ledger wanted.device page ≡ Some (ticket, (wanted.place, rights))
      by None e (k, below, at) = absurd (omega arith)
      by (Some (t, own)) e in_it =
          let (tickets, pairs) = one_element own t ticket (wanted.place, rights) in_it in
          e ∙ ap (λ (n : ℕ). Some (n, own)) tickets ∙ ap (λ (p : Pair). Some (ticket, p)) pairs

  pub placed_from_reached : IsReached wanted kept.ledger → May past.placed wanted.device wanted.place wanted.kind
  placed_from_reached (page, rights, None, reaches, allowed, counts) = (page, rights, inl ((past.grants.pages wanted.device page).holds ∙ reaches), allowed)
  placed_from_reached (page, rights, Some ticket, reaches, allowed, counts) = (
    page,
    rights,
    inr (
      ticket,
      subst (λ (l : List (ℕ × Pair)). Contains l (ticket, (wanted.place, rights)))
          (sym ((past.grants.pages wanted.device page).lingers ∙ ap option_to_list reaches)) (contains_head {X = ℕ × Pair} (ticket, (wanted.place, rights)) []),
    ),
    allowed,
  )

-- no ticket is one from 1 to 0
none_between : (ticket : ℕ) → is_between 1 0 ticket ≡ false
none_between ticket = by (nat_le 1 ticket) (nat_le ticket 0) refl refl
  where
    by : (low up : Bool) → nat_le 1 ticket ≡ low → nat_le ticket 0 ≡ up → (low && up) ≡ false
    by false up e f = refl
    by true false e f = refl
    by true true e f = absurd (grind (arith, nat_tests))

-- nobody reaches a frame where nobody reaches its place
pub none_reaches : (kept : KeptGrants) (h : History) (past : IsPastOf kept h) (place frame : ℕ) → IsNamedAt kept.names.keys place frame → NoneMayReach past.placed place ↔ NoneMayReach h frame
none_reaches kept h past place frame named = (
  λ none device kind may. none device kind (placed_from_reached kept h past (wanted device kind) none_between refl
      (reached_from_may kept h past 1 0 (omega arith) (wanted device kind) frame refl refl named refl may)),
  λ none device kind may. none device kind (may_from_reached kept h past 1 0 (omega arith) (wanted device kind) frame refl refl named refl
      (reached_from_placed kept h past (wanted device kind) none_between refl may)),
)
  where
    wanted : ℕ → AccessKind → Wanted
    wanted device kind = record { device = device; place = place; kind = kind; first = 1; last = 0; held = true }

pub nobody_reaches : (kept : KeptGrants) (h : History) → IsPastOf kept h → (frame : ℕ) → position (nat_eq frame) kept.names.keys ≡ None → NoneMayReach h frame
nobody_reaches kept h past frame none device kind may = none_may kept h past 1 0 (omega arith) device frame kind none may
