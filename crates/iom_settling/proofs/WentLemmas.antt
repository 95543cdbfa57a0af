-- Events one after another.
use Rattle.std.proofs.Common.{◌≡◌, ◌+◌, ℕ, List, [], ◌∷◌, ◌++◌, length, refl, subst, arith}
use Rattle.iom_machine.specs.declared.event.Event.{Event}
use Rattle.iom_machine.specs.declared.outcome.Outcome.{Outcome}
use Rattle.iom_settling.specs.Went.{Takes, Went}

-- none
pub went_none : {S : Type 0} (happens : S → Event → Outcome → S → Type 0) (Are : List Event → List Outcome → Type 0) (old : S) → Are [] [] → Went happens Are old 0 old
went_none happens Are old are = record { events = []; outcomes = []; takes = refl; order = are; counted = refl }

-- one
pub went_once : {S : Type 0} (happens : S → Event → Outcome → S → Type 0) (Are : List Event → List Outcome → Type 0) (old new : S) (event : Event) (reply : Outcome)
    → Are (event ∷ []) (reply ∷ []) → happens old event reply new → Went happens Are old 1 new
went_once happens Are old new event reply are next = record { events = event ∷ []; outcomes = reply ∷ []; takes = (new, next, refl); order = are; counted = refl }

takes_both : {S : Type 0} (happens : S → Event → Outcome → S → Type 0) (old mid new : S) (events more : List Event) (outcomes others : List Outcome)
    → Takes happens old events outcomes mid → Takes happens mid more others new → Takes happens old (events ++ more) (outcomes ++ others) new
takes_both happens old mid new [] more [] others first rest = subst (λ s. Takes happens s more others new) first rest
takes_both happens old mid new [] more (outcome ∷ outcomes) others first rest = absurd first
takes_both happens old mid new (event ∷ events) more [] others first rest = absurd first
takes_both happens old mid new (event ∷ events) more (outcome ∷ outcomes) others first rest =
    (first.0, first.1, takes_both happens first.0 mid new events more outcomes others first.2 rest)

-- each is answered once
as_long : {S : Type 0} (happens : S → Event → Outcome → S → Type 0) (old new : S) (events : List Event) (outcomes : List Outcome)
    → Takes happens old events outcomes new → length events ≡ length outcomes
as_long happens old new [] [] takes = refl
as_long happens old new [] (outcome ∷ outcomes) takes = absurd takes
as_long happens old new (event ∷ events) [] takes = absurd takes
as_long happens old new (event ∷ events) (outcome ∷ outcomes) takes = let rest = as_long happens takes.0 new events outcomes takes.2 in omega (arith, rest)

length_both : (events more : List Event) → length (events ++ more) ≡ length events + length more
length_both [] more = omega arith
length_both (event ∷ events) more = let rest = length_both events more in omega (arith, rest)

-- these, and then those
pub went_both : {S : Type 0} (happens : S → Event → Outcome → S → Type 0) (One Other Both : List Event → List Outcome → Type 0) (old mid new : S) (n m : ℕ)
    → ((these those : List Event) (outcomes others : List Outcome) → length these ≡ length outcomes → length those ≡ length others → One these outcomes → Other those others
    → Both (these ++ those) (outcomes ++ others))
    → Went happens One old n mid → Went happens Other mid m new → Went happens Both old (n + m) new
went_both happens One Other Both old mid new n m join first rest =
    let long = length_both first.events rest.events in
    let one = first.counted in
    let other = rest.counted in
    record {
      events = first.events ++ rest.events;
      outcomes = first.outcomes ++ rest.outcomes;
      takes = takes_both happens old mid new first.events rest.events first.outcomes rest.outcomes first.takes rest.takes;
      order = join first.events rest.events first.outcomes rest.outcomes (as_long happens old mid first.events first.outcomes first.takes)
          (as_long happens mid new rest.events rest.outcomes rest.takes) first.order rest.order;
      counted = omega (arith, long, one, other);
    }

-- one before those
pub went_first : {S : Type 0} (happens : S → Event → Outcome → S → Type 0) (Other Both : List Event → List Outcome → Type 0) (old mid new : S) (n : ℕ) (event : Event) (reply : Outcome)
    → ((those : List Event) (others : List Outcome) → length those ≡ length others → Other those others → Both (event ∷ those) (reply ∷ others))
    → happens old event reply mid → Went happens Other mid n new → Went happens Both old (1 + n) new
went_first happens Other Both old mid new n event reply join first rest =
    let others = rest.counted in
    record {
      events = event ∷ rest.events;
      outcomes = reply ∷ rest.outcomes;
      takes = (mid, first, rest.takes);
      order = join rest.events rest.outcomes (as_long happens mid new rest.events rest.outcomes rest.takes) rest.order;
      counted = omega (arith, others);
    }

-- one behind these
pub went_more : {S : Type 0} (happens : S → Event → Outcome → S → Type 0) (One Both : List Event → List Outcome → Type 0) (old mid new : S) (n : ℕ) (event : Event) (reply : Outcome)
    → ((these : List Event) (outcomes : List Outcome) → One these outcomes → Both (these ++ event ∷ []) (outcomes ++ reply ∷ []))
    → Went happens One old n mid → happens mid event reply new → Went happens Both old (n + 1) new
went_more happens One Both old mid new n event reply join first next =
    let long = length_both first.events (event ∷ []) in
    let these = first.counted in
    record {
      events = first.events ++ event ∷ [];
      outcomes = first.outcomes ++ reply ∷ [];
      takes = takes_both happens old mid new first.events (event ∷ []) first.outcomes (reply ∷ []) first.takes (new, next, refl);
      order = join first.events first.outcomes first.order;
      counted = omega (arith, long, these);
    }

-- in another order
pub went_as : {S : Type 0} (happens : S → Event → Outcome → S → Type 0) (One Other : List Event → List Outcome → Type 0) (old new : S) (n : ℕ)
    → ((these : List Event) (outcomes : List Outcome) → One these outcomes → Other these outcomes) → Went happens One old n new → Went happens Other old n new
went_as happens One Other old new n also went =
    record { events = went.events; outcomes = went.outcomes; takes = went.takes; order = also went.events went.outcomes went.order; counted = went.counted }
