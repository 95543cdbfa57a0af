-- What an event asks for, what is accepted at it, and how many accesses it makes, as functions: they meet the theorem's relations.
use Rattle.std.proofs.Common.{◌≡◌, ℕ, ◌+◌, ◌==◌, ◌⊎◌, inl, inr, Bool, true, false, List, [], ◌∷◌, ◌++◌, Option, None, Some, if◌then◌else◌, refl, sym, ap, ◌∙◌, subst, arith}
use Rattle.std.specs.Option.{option_map_or}
use Rattle.std.proofs.lemmas.Bool.{eqb-true, eqb-false}
use Rattle.iom_machine.specs.declared.event.Event.{Event}
use Rattle.iom_machine.specs.declared.event.Event.TheVariants as events
use Rattle.iom_machine.specs.declared.outcome.Outcome.{Outcome}
use Rattle.iom_machine.specs.declared.outcome.Outcome.TheVariants.{Accepted, Read, Wrote}
use Rattle.iom_base.specs.declared.access.Access.{Access}
use Rattle.iom_base.specs.Accesses.{read_of, write_of}
use Rattle.iom_machine.specs.Headline.{SaysMade, MakesAccessOf}
use Rattle.iom_machine.specs.Laws.{Asked, IsAskedBy, IsAcceptedAt, AreAccepted, AreMade}

abbrev pub asked_untranslated : ℕ → Access → Option (ℕ × Asked)
asked_untranslated id access = Some (id, Asked.Named access false)

abbrev pub asked_through_cache : ℕ → Access → Option (ℕ × Asked)
asked_through_cache id access = Some (id, Asked.Named access true)

-- what the event asks for, with the device that asks
abbrev pub asked_by : Event → Option (ℕ × Asked)
asked_by (events.Read id address len) = asked_untranslated id (read_of address len)
asked_by (events.Write id address bytes) = asked_untranslated id (write_of address bytes)
asked_by (events.ReadThroughCache id address len) = asked_through_cache id (read_of address len)
asked_by (events.WriteThroughCache id address bytes) = asked_through_cache id (write_of address bytes)
asked_by (events.Step id) = Some (id, Asked.Chosen)
asked_by _ = None

-- what is asked for, where it is of this device
abbrev pub asked_of : ℕ → Option (ℕ × Asked) → List Asked
asked_of id found = option_map_or (λ asked. if asked.0 == id then asked.1 ∷ [] else []) found []

-- the access of the device that is accepted at the event, if one is
abbrev pub accepted_by : Event → Outcome → ℕ → List Asked
accepted_by event (Accepted number) id = asked_of id (asked_by event)
accepted_by event _ id = []

-- and at the events
abbrev pub accepted_in : List Event → List Outcome → ℕ → List Asked
accepted_in (event ∷ events) (outcome ∷ outcomes) id = accepted_by event outcome id ++ accepted_in events outcomes id
accepted_in _ _ id = []

-- how many accesses of the device the event makes
abbrev pub made_by : Event → Outcome → ℕ → ℕ
made_by (events.Commit d) (Read bytes) id = if d == id then 1 else 0
made_by (events.Commit d) (Wrote len) id = if d == id then 1 else 0
made_by _ _ id = 0

-- and the events
abbrev pub made_in : List Event → List Outcome → ℕ → ℕ
made_in (event ∷ events) (outcome ∷ outcomes) id = made_by event outcome id + made_in events outcomes id
made_in _ _ id = 0

-- what the function says that the event asks for, it asks for
asked_is : (event : Event) (id : ℕ) (asked : Asked) → asked_by event ≡ Some (id, asked) → IsAskedBy event id asked
asked_is event id asked same = by event same
  where
    of_parts : (its : Event) (d : ℕ) (own : Asked) → IsAskedBy its d own → ◌≡◌ {A = Option (ℕ × Asked)} (Some (d, own)) (Some (id, asked)) → IsAskedBy its id asked
    of_parts its d own holds is =
        let pairs : ◌≡◌ {A = ℕ × Asked} (d, own) (id, asked) = cc in subst (λ (p : ℕ × Asked). IsAskedBy its p.0 p.1) pairs holds

    by : (its : Event) → asked_by its ≡ Some (id, asked) → IsAskedBy its id asked
    by (events.Read d address len) is = of_parts (events.Read d address len) d (Asked.Named (read_of address len) false) (inl (address, len, refl, refl)) is
    by (events.Write d address bytes) is = of_parts (events.Write d address bytes) d (Asked.Named (write_of address bytes) false) (inr (address, bytes, refl, refl)) is
    by (events.ReadThroughCache d address len) is = of_parts (events.ReadThroughCache d address len) d (Asked.Named (read_of address len) true) (inl (address, len, refl, refl)) is
    by (events.WriteThroughCache d address bytes) is = of_parts (events.WriteThroughCache d address bytes) d (Asked.Named (write_of address bytes) true) (inr (address, bytes, refl, refl)) is
    by (events.Step d) is = of_parts (events.Step d) d Asked.Chosen refl is
    by _ is = cc

-- and nothing else
is_asked : (event : Event) (id : ℕ) (asked : Asked) → IsAskedBy event id asked → asked_by event ≡ Some (id, asked)
is_asked event id (Asked.Named access false) (inl (address, len, is, same)) = ap asked_by is ∙ ap (asked_untranslated id) (sym same)
is_asked event id (Asked.Named access false) (inr (address, bytes, is, same)) = ap asked_by is ∙ ap (asked_untranslated id) (sym same)
is_asked event id (Asked.Named access true) (inl (address, len, is, same)) = ap asked_by is ∙ ap (asked_through_cache id) (sym same)
is_asked event id (Asked.Named access true) (inr (address, bytes, is, same)) = ap asked_by is ∙ ap (asked_through_cache id) (sym same)
is_asked event id Asked.Chosen is = ap asked_by is

-- an event accepts one access of the device before the later ones, or none
accepted_cases : (event : Event) (outcome : Outcome) (id : ℕ) (later : List Asked)
    → ((asked : Asked) × IsAcceptedAt event outcome id asked × (accepted_by event outcome id ++ later ≡ asked ∷ later))
    ⊎ (((asked : Asked) → ¬ IsAcceptedAt event outcome id asked) × (accepted_by event outcome id ++ later ≡ later))
accepted_cases event (Accepted number) id later = by (asked_by event) refl
  where
    by : (found : Option (ℕ × Asked)) → asked_by event ≡ found
        → ((asked : Asked) × IsAcceptedAt event (Accepted number) id asked × (asked_of id found ++ later ≡ asked ∷ later))
        ⊎ (((asked : Asked) → ¬ IsAcceptedAt event (Accepted number) id asked) × (asked_of id found ++ later ≡ later))
    by None asks = inr ((λ asked accepted. let its = is_asked event id asked accepted.0 in cc), refl)
    by (Some (d, its)) asks = of_device (d == id) refl
      where
        of_device : (b : Bool) → (d == id) ≡ b
            → ((asked : Asked) × IsAcceptedAt event (Accepted number) id asked × ((if b then its ∷ [] else []) ++ later ≡ asked ∷ later))
            ⊎ (((asked : Asked) → ¬ IsAcceptedAt event (Accepted number) id asked) × ((if b then its ∷ [] else []) ++ later ≡ later))
        of_device true e = inl (its, (asked_is event id its (asks ∙ ap (λ n. Some (n, its)) (eqb-true d id e)), (number, refl)), refl)
        of_device false e = inr (
          (λ asked accepted.
              let both : ◌≡◌ {A = Option (ℕ × Asked)} (Some (d, its)) (Some (id, asked)) = sym asks ∙ is_asked event id asked accepted.0 in
              let pairs : ◌≡◌ {A = ℕ × Asked} (d, its) (id, asked) = cc in eqb-false d id e (ap (λ (p : ℕ × Asked). p.0) pairs)),
          refl,
        )
accepted_cases event _ id later = inr ((λ asked accepted. let reply = accepted.1.1 in cc), refl)

pub are_accepted : (events : List Event) (outcomes : List Outcome) (id : ℕ) → AreAccepted events outcomes id (accepted_in events outcomes id)
are_accepted (event ∷ events) (outcome ∷ outcomes) id =
    (accepted_in events outcomes id, are_accepted events outcomes id, accepted_cases event outcome id (accepted_in events outcomes id))
are_accepted _ _ id = refl

-- an event makes one access of the device, or none
made_cases : (event : Event) (outcome : Outcome) (id later : ℕ)
    → (MakesAccessOf event outcome id × (made_by event outcome id + later ≡ later + 1)) ⊎ ((¬ MakesAccessOf event outcome id) × (made_by event outcome id + later ≡ later))
made_cases (events.Commit d) outcome id later = by outcome
  where
    own : (reply : Outcome) → SaysMade reply → (b : Bool) → (d == id) ≡ b
        → (MakesAccessOf (events.Commit d) reply id × ((if b then 1 else 0) + later ≡ later + 1))
        ⊎ ((¬ MakesAccessOf (events.Commit d) reply id) × ((if b then 1 else 0) + later ≡ later))
    own reply says true e = inl ((ap (λ n. events.Commit n) (eqb-true d id e), says), omega arith)
    own reply says false e = inr ((λ makes. let same : events.Commit d ≡ events.Commit id = makes.0 in eqb-false d id e cc), omega arith)

    by : (reply : Outcome) → (MakesAccessOf (events.Commit d) reply id × (made_by (events.Commit d) reply id + later ≡ later + 1))
        ⊎ ((¬ MakesAccessOf (events.Commit d) reply id) × (made_by (events.Commit d) reply id + later ≡ later))
    by (Read bytes) = own (Read bytes) (inl (bytes, refl)) (d == id) refl
    by (Wrote len) = own (Wrote len) (inr (len, refl)) (d == id) refl
    by _ = inr (
      (λ makes. elim makes.1 [
        | inl (bytes, reply) ↦ cc
        | inr (len, reply) ↦ cc
      ]),
      omega arith,
    )
made_cases _ outcome id later = inr ((λ makes. let is = makes.0 in cc), omega arith)

pub are_made : (events : List Event) (outcomes : List Outcome) (id : ℕ) → AreMade events outcomes id (made_in events outcomes id)
are_made (event ∷ events) (outcome ∷ outcomes) id = (made_in events outcomes id, are_made events outcomes id, made_cases event outcome id (made_in events outcomes id))
are_made _ _ id = refl
