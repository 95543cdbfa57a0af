-- A step that the judge decides, with the next state shown.
use Rattle.std.proofs.Common.{◌≡◌, ◌↔◌, ℕ, Bool, true, false, IsTrue, refl, List, Option, None, Some, Result, Ok, Err, IfOk, get_or, slice_get, sym, ap, subst, ◌∙◌}
use Rattle.std.proofs.lemmas.Option.{get_or_from_slice_get}
use Rattle.std.specs.declared.alloc.AllocError.{AllocError}
use Rattle.iom_base.specs.declared.refusal.Refusal.TheVariants.{NoSuchDevice, WrongKind}
use Rattle.iom_machine.specs.declared.outcome.Outcome.{Outcome}
use Rattle.iom_machine.specs.declared.outcome.Outcome.TheVariants.{Refused}
use Rattle.iom_machine.specs.declared.state.Device.{Device}
use Rattle.iom_base.specs.declared.device_kind.DeviceKind.{DeviceKind}
use Rattle.iom_machine.specs.declared.state.State.{State}
use Rattle.iom_machine.specs.Devices.{device_of}
use Rattle.iom_machine.specs.Judging.{StandsAt}
use Rattle.iom_base.specs.DeviceKinds.{is_any_kind}
use Rattle.iom_machine.specs.Machine.{Acts}
use Rattle.iom_machine.proofs.InFlightLemmas.{found_device}

-- some state is the only one
pub only_state : (next new : State) → ◌≡◌ {A = Option State} (Some next) (Some new) → next ≡ new
only_state next new same = cc

pub some_state : (next new : State) → next ≡ new → ◌≡◌ {A = Option State} (Some next) (Some new)
some_state next new same = ap (λ (s : State). Some s) same

pub no_state : (new : State) → ◌≡◌ {A = Option State} None (Some new) → ⊥
no_state new same = cc

-- a fact, and that the next state is this one
pub lawful : (P : Type 0) (next final : State) → P → next ≡ final → (new : State) → (◌≡◌ {A = Option State} (Some next) (Some new)) ↔ (P × (new ≡ final))
lawful P next final fact is new =
    ((λ same. (fact, sym (only_state next new same) ∙ is)), (λ both. some_state next new (is ∙ sym both.1)))

pub unlawful : (P : Type 0) (final : State) → ¬ P → (new : State) → (◌≡◌ {A = Option State} None (Some new)) ↔ (P × (new ≡ final))
unlawful P final never new = ((λ same. absurd (no_state new same)), (λ both. absurd (never both.0)))

-- what the act of a plugged device leaves that is able, of one that isn't, and of one that isn't there
pub acts_there : (can : DeviceKind → Bool) (next : Option State) (Q : Device → State → Type 0) (old : State) (id : ℕ) (outcome : Outcome) (device : Device)
    → device_of old id ≡ Some device → can device.kind ≡ true
    → ((new : State) → (next ≡ Some new) ↔ Q device new) → (new : State) → (next ≡ Some new) ↔ Acts can (λ d. Q d new) old id outcome new
acts_there can next Q old id outcome device there able decides new = rw (there, able) (decides new)

pub acts_unable : (can : DeviceKind → Bool) (next : Option State) (Q : Device → State → Type 0) (old : State) (id : ℕ) (outcome : Outcome) (device : Device)
    → device_of old id ≡ Some device → can device.kind ≡ false
    → ((new : State) → (next ≡ Some new) ↔ ((outcome ≡ Refused WrongKind) × (new ≡ old))) → (new : State) → (next ≡ Some new) ↔ Acts can (λ d. Q d new) old id outcome new
acts_unable can next Q old id outcome device there unable decides new = rw (there, unable) (decides new)

pub acts_absent : (can : DeviceKind → Bool) (next : Option State) (Q : Device → State → Type 0) (old : State) (id : ℕ) (outcome : Outcome) → device_of old id ≡ None
    → ((new : State) → (next ≡ Some new) ↔ ((outcome ≡ Refused NoSuchDevice) × (new ≡ old))) → (new : State) → (next ≡ Some new) ↔ Acts can (λ d. Q d new) old id outcome new
acts_absent can next Q old id outcome absent decides new = rw absent (decides new)

-- a state that stays where a test says so, which decides a fact
pub stays_where : (next : Option State) (test : Bool) (P : Type 0) (old : State) → (IsTrue test ↔ P)
    → ((new : State) → (next ≡ Some new) ↔ (IsTrue test × (new ≡ old))) → (new : State) → (next ≡ Some new) ↔ (P × (new ≡ old))
stays_where next test P old decides unchanged new = (
  (λ same. let both = (unchanged new).0 same in (decides.0 both.0, both.1)),
  (λ both. (unchanged new).1 (decides.1 both.0, both.1)),
)

-- the device at the place of an id has that place itself
pub own_place : (devices : List Device) (id place : ℕ) (device : Device) → StandsAt devices id place → slice_get devices place ≡ Some device → StandsAt devices device.id place
own_place devices id place device is_place at =
    let own = (found_device devices id device (is_place.1 ∙ at)).1 in subst (λ i. StandsAt devices i place) (sym own) is_place

-- the same, whatever memory did
pub able_if_ok : (can : DeviceKind → Bool) (result : Result (Option State) AllocError) (Q : Device → State → Type 0) (old : State) (id : ℕ) (outcome : Outcome) (device : Device)
    → device_of old id ≡ Some device → can device.kind ≡ true
    → IfOk result (λ next. (new : State) → (next ≡ Some new) ↔ Q device new) → IfOk result (λ next. (new : State) → (next ≡ Some new) ↔ Acts can (λ d. Q d new) old id outcome new)
able_if_ok can (Ok next) Q old id outcome device there able decides = acts_there can next Q old id outcome device there able decides
able_if_ok can (Err e) Q old id outcome device there able decides = decides

pub acts_if_ok : (result : Result (Option State) AllocError) (Q : Device → State → Type 0) (old : State) (id : ℕ) (outcome : Outcome) (device : Device) → device_of old id ≡ Some device
    → IfOk result (λ next. (new : State) → (next ≡ Some new) ↔ Q device new) → IfOk result (λ next. (new : State) → (next ≡ Some new) ↔ Acts is_any_kind (λ d. Q d new) old id outcome new)
acts_if_ok result Q old id outcome device there decides = able_if_ok is_any_kind result Q old id outcome device there refl decides

-- what is so for each device at the place is so for the one that is there
pub at_device : (result : Result (Option State) AllocError) (A B : Device → Type 0) (R : Option State → Device → Type 0) (device : Device) → A device → B device
    → IfOk result (λ next. (d : Device) → A d → B d → R next d) → IfOk result (λ next. R next device)
at_device (Ok next) A B R device a b decides = decides device a b
at_device (Err e) A B R device a b decides = decides

-- what is read at a place is the device that stands there
pub read_again : (devices : List Device) (place : ℕ) (device read : Device) → slice_get devices place ≡ Some device → read ≡ get_or devices place read → device ≡ read
read_again devices place device read at is = sym (is ∙ get_or_from_slice_get devices place device read at)
