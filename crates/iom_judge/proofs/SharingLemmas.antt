-- Devices that share a domain.
use Rattle.std.proofs.Common.{◌≡◌, ◌∙◌, ℕ, Bool, List, [], ◌∷◌, ◌++◌, Option, None, Some, IsTrue, map, refl, sym, ap, subst, drop, take, slice_get, slice_index_or, ◌<◌, ◌-◌, nat_eq, length, arith}
use Rattle.std.specs.Prelude.{⊤}
use Rattle.std.specs.Map.{lookup}
use Rattle.iom_base.specs.declared.grant_rights.GrantRights.{GrantRights}
use Rattle.iom_machine.specs.declared.choice.Choice.{Choice}
use Rattle.iom_machine.specs.declared.event.Event.{Event}
use Rattle.iom_machine.specs.declared.event.Event.TheVariants as events
use Rattle.iom_machine.specs.declared.outcome.Outcome.{Outcome}
use Rattle.iom_machine.specs.declared.outcome.Outcome.TheVariants as outcomes
use Rattle.iom_machine.specs.declared.state.Device.{Device}
use Rattle.iom_judge.specs.Certified.{first_in, trace_state, Continues, ContinuesAs, ContinuesBy, ContinuesByHeld}
use Rattle.iom_judge.specs.Happenings.{Happening, Came, Joined, Shared, CameInTurn, IsShared, change_by, event_of}
use Rattle.iom_trace_lines.specs.TraceLines.{Joins}
use Rattle.iom_base.specs.declared.mode.Mode.{Mode}
use Rattle.iom_judge.specs.Sharing.{sharers}
use Rattle.iom_judge.specs.declared.changes.Change.{Change}
use Rattle.iom_judge.specs.declared.machine.TraceMachine.{TraceMachine}
use Rattle.iom_judge.proofs.CertificateLemmas.{continues_further}
use Rattle.std.proofs.lemmas.Grind.{common_steps}
use Rattle.std.proofs.lemmas.List.{map-append}

-- what happened is for each of the devices that share the domain
pub for_sharers : (old new : TraceMachine) (device : ℕ) (devices : List ℕ) (others : List Happening)
    → devices ≡ sharers (first_in old.domains) old.kept.devices device → Continues old others new → Continues old (Shared device devices ∷ others) new
for_sharers old new device devices others are goes =
    λ history past. let after = goes history past in (after.0, after.1, (trace_state old history, (are, refl), after.2))

-- Nothing is found where there is nothing.
pub nothing_found : (firsts : List (ℕ × ℕ)) (device : ℕ) → length firsts ≡ 0 → lookup (nat_eq device) firsts ≡ None
nothing_found [] device none = refl
nothing_found (first ∷ others) device none = absurd (omega (arith, none))

-- No device shares a domain where none has another's.
pub none_shares : (first_with : ℕ → Option ℕ) (devices : List Device) (first : ℕ) → ((device : ℕ) → first_with device ≡ None)
    → sharers first_with devices first ≡ []
none_shares first_with [] first none = refl
none_shares first_with (device ∷ devices) first none = rw (none device.id) (none_shares first_with devices first none)

-- events in turn, and more behind them
came_further : (events more : List Event) (outcome : Outcome) (happened later : List Happening) → CameInTurn events outcome happened
    → CameInTurn more outcome later → CameInTurn (events ++ more) outcome (happened ++ later)
came_further [] more outcome happened later are rest = subst (λ (l : List Happening). CameInTurn more outcome (l ++ later)) (sym are) rest
came_further (event ∷ events) more outcome happened later (others, choice, none, are, is) rest =
    (others ++ later, choice, none, came_further events more outcome others later are rest, ap (λ (l : List Happening). l ++ later) is)

-- grants of what another device holds, and more of them
held_further : (old mid new : TraceMachine) (device : ℕ) → ContinuesByHeld old device mid → ContinuesByHeld mid device new → ContinuesByHeld old device new
held_further old mid new device (pages, grants, are, goes) (more, later, rest, further) =
    let grant : ℕ × ℕ × GrantRights → Event = λ page. events.Grant device page.0 page.1 page.2 in (
      pages ++ more,
      grants ++ later,
      subst (λ (l : List Event). CameInTurn l outcomes.Done (grants ++ later)) (sym (map-append grant pages more))
          (came_further (map grant pages) (map grant more) outcomes.Done grants later are rest),
      continues_further old mid new grants later goes further,
    )

-- what is told of a device that joins a domain
pub joins_so : (old mid late new : TraceMachine) (device with : ℕ) (mode : Mode) (ats has : Bool) (tables : List ℕ) (choice : Choice) → choice.taken ≡ []
    → (IsTrue has → choice.directory ≡ tables) → Continues old (Came (events.Attach device mode ats) outcomes.Done choice ∷ []) mid
    → ContinuesByHeld mid device late → Continues late (Joined device with ∷ []) new → ContinuesAs old (Joins device with ats has) tables new
joins_so old mid late new device with mode ats has tables choice none shown attached (pages, grants, are, held) joined =
    let came = Came (events.Attach device mode ats) outcomes.Done choice in (
      came ∷ (grants ++ Joined device with ∷ []),
      (mode, choice, pages, grants, none, shown, are, refl),
      continues_further old mid new (came ∷ []) (grants ++ Joined device with ∷ []) attached
          (continues_further mid late new grants (Joined device with ∷ []) held joined),
    )

-- the grant of a page that another device holds
held_at_one : (old new : TraceMachine) (device page frame : ℕ) (rights : GrantRights) (event : Event) (choice : Choice)
    → event ≡ events.Grant device page frame rights → choice.taken ≡ [] → Continues old (Came event outcomes.Done choice ∷ []) new
    → ContinuesByHeld old device new
held_at_one old new device page frame rights event choice is none goes = (
  (page, frame, rights) ∷ [],
  Came (events.Grant device page frame rights) outcomes.Done choice ∷ [],
  ([], choice, none, refl, refl),
  subst (λ (e : Event). Continues old (Came e outcomes.Done choice ∷ []) new) is goes,
)

-- one grant more of what another device holds
pub held_one_more : (old mid new : TraceMachine) (device : ℕ) (event : Event)
    → (page frame : ℕ) × (rights : GrantRights) × (event ≡ events.Grant device page frame rights) → ContinuesByHeld old device mid
    → (choice : Choice) × ((choice.taken ≡ []) × ⊤) × Continues mid (Came event outcomes.Done choice ∷ []) new → ContinuesByHeld old device new
held_one_more old mid new device event (page, frame, rights, is) before (choice, (none, shown), goes) =
    held_further old mid new device before (held_at_one mid new device page frame rights event choice is none goes)

-- the first item of a list that has one
pub first_item : (xs : List ℕ) → 0 < length xs → (d : ℕ) → slice_get xs 0 ≡ Some (slice_index_or xs 0 d)
first_item [] some d = absurd (omega (arith, some))
first_item (x ∷ xs) some d = refl

-- a list is its first item and the others
abbrev pub rest_of : List ℕ → List ℕ
rest_of xs = take (length xs - 1) (drop 1 xs)

first_and_drop : (xs : List ℕ) (x : ℕ) → slice_get xs 0 ≡ Some x → xs ≡ x ∷ drop 1 xs
first_and_drop [] x is = cc
first_and_drop (y ∷ ys) x is = cc

first_and_rest : (xs : List ℕ) (x : ℕ) → slice_get xs 0 ≡ Some x → xs ≡ x ∷ rest_of xs
first_and_rest xs x is =
    let rest : rest_of xs ≡ drop 1 xs = grind (arith, common_steps) in
    first_and_drop xs x is ∙ ap (λ (l : List ℕ). x ∷ l) (sym rest)

-- one change more in front
pub changed_these : (old mid new : TraceMachine) (devices : List ℕ) (device : ℕ) (change : Change) (event : Event) (outcome : Outcome) (choice : Choice)
    (others : List Happening) → slice_get devices 0 ≡ Some device → event ≡ event_of device change → choice.taken ≡ []
    → Continues old (Came event outcome choice ∷ []) mid
    → CameInTurn (map (λ (d : ℕ). event_of d change) (rest_of devices)) outcome others → Continues mid others new
    → (happened : List Happening) × CameInTurn (map (λ (d : ℕ). event_of d change) devices) outcome happened × Continues old happened new
changed_these old mid new devices device change event outcome choice others first is none goes are rest =
    let came = Came (event_of device change) outcome choice in
    subst
    (λ (l : List ℕ). (happened : List Happening) × CameInTurn (map (λ (d : ℕ). event_of d change) l) outcome happened × Continues old happened new)
    (sym (first_and_rest devices device first)) (
      came ∷ others,
      (others, choice, none, are, refl),
      continues_further old mid new (came ∷ []) others
          (subst (λ (e : Event). Continues old (Came e outcome choice ∷ []) mid) is goes) rest,
    )

-- what comes of an event, of each device of the domain
pub comes_so : (old mid new : TraceMachine) (event : Event) (outcome : Outcome) (choice : Choice) → Continues old (Came event outcome choice ∷ []) mid
    → (others : List Happening) × IsShared (change_by event outcome) outcome others × Continues mid others new → ContinuesBy old event outcome choice new
comes_so old mid new event outcome choice came (others, shares, goes) =
    (Came event outcome choice ∷ others, (others, shares, refl), continues_further old mid new (Came event outcome choice ∷ []) others came goes)

-- nothing changes of a domain where neither a page is granted nor one released
pub nothing_changes : (event : Event) (outcome : Outcome) → ((id page frame : ℕ) (rights : GrantRights) → event ≡ events.Grant id page frame rights → ⊥)
    → ((id page : ℕ) → event ≡ events.Release id page → ⊥) → change_by event outcome ≡ None
nothing_changes (events.Grant id page frame rights) outcome grant release = absurd (grant id page frame rights refl)
nothing_changes (events.Release id page) outcome grant release = absurd (release id page refl)
nothing_changes _ outcome grant release = refl

-- what comes of such an event is all that comes
pub comes_alone : (old new : TraceMachine) (event : Event) (outcome : Outcome) (choice : Choice) → change_by event outcome ≡ None
    → Continues old (Came event outcome choice ∷ []) new → ContinuesBy old event outcome choice new
comes_alone old new event outcome choice none goes =
    (Came event outcome choice ∷ [], ([], subst (λ change. IsShared change outcome []) (sym none) refl, refl), goes)
