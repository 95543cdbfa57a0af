-- What is kept where a step may come that leaves another state, and where it may not.
use Rattle.std.proofs.Common.{◌≡◌, ◌<◌, ◌∙◌, ◌↔◌, ℕ, Bool, true, false, not, IsTrue, List, Some, length, get_or, slice_get, refl, sym, ap, subst}
use Rattle.std.proofs.lemmas.Bool.{false≢true}
use Rattle.std.proofs.lemmas.Option.{slice_get_read}
use Rattle.iom_kept_state.specs.declared.state.KeptState.{KeptState}
use Rattle.iom_kept_state.specs.Grants.{IsPastOf}
use Rattle.iom_kept_state.specs.States.{state_of, Decides, DecidesUnchanged}
use Rattle.iom_ledger.specs.History.{History}
use Rattle.iom_machine.specs.declared.state.Device.{Device}
use Rattle.iom_machine.specs.declared.state.State.{State}
use Rattle.iom_machine.proofs.StepLemmas.{read_again}

-- it may come, and leaves this state
pub comes : (old new : KeptState) (IsFact : State → Type 0) (final : State → State) → new.grants ≡ old.grants
    → ((h : History) → IsPastOf old.grants h → IsFact (state_of old h))
    → ((h : History) → IsPastOf old.grants h → state_of new h ≡ final (state_of old h))
    → Decides true old new (λ before after. IsFact before × (after ≡ final before))
comes old new IsFact final same fact is = λ h past. (
  h,
  subst (λ g. IsPastOf g h) (sym same) past,
  (λ after. ((λ e. (fact h past, e ∙ is h past)), (λ both. both.1 ∙ sym (is h past)))),
)

-- it may not come
pub never_comes : (kept : KeptState) (IsFact : State → Type 0) (final : State → State) → ((h : History) → IsPastOf kept.grants h → ¬ IsFact (state_of kept h))
    → DecidesUnchanged false kept (λ before after. IsFact before × (after ≡ final before))
never_comes kept IsFact final never = (refl, (λ h past after both. never h past both.0))

-- the device that is read at the place of an id is the one with the id
pub read_there : (devices : List Device) (place : ℕ) (read : Device) → place < length devices → read ≡ get_or devices place read → slice_get devices place ≡ Some read
read_there devices place read below is = slice_get_read devices _ place read refl below is

-- what a test doesn't find isn't so
pub never_by : (test : Bool) (P : Type 0) → (IsTrue test ↔ P) → IsTrue (not test) ↔ (¬ P)
never_by true P decides = ((λ no. absurd (false≢true no)), (λ never. absurd (never (decides.0 refl))))
never_by false P decides = ((λ yes so. false≢true (decides.1 so)), (λ never. refl))

-- what is so of the device that is read at the place is so of each that stands there
pub there : (devices : List Device) (place : ℕ) (read : Device) (P : Device → Type 0) → read ≡ get_or devices place read
    → (slice_get devices place ≡ Some read → P read) → (device : Device) → slice_get devices place ≡ Some device → P device
there devices place read P is so device at =
    let same = read_again devices place device read at is in subst P (sym same) (so (at ∙ ap (λ (d : Device). Some d) same))
