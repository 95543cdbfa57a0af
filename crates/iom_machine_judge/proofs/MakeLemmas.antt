-- What a commit makes of the oldest access in flight, if there is one.
use Rattle.std.proofs.Common.{◌≡◌, ◌∙◌, ◌<◌, ℕ, true, false, List, [], ◌∷◌, Option, None, Some, IsSomeAnd, length, slice_get, slice_set, drop, refl, sym, subst, arith}
use Rattle.iom_base.specs.declared.access.AcceptedAccess.{AcceptedAccess}
use Rattle.iom_ledger.specs.History.{History}
use Rattle.iom_machine.specs.declared.outcome.Outcome.{Outcome}
use Rattle.iom_machine.specs.declared.outcome.Outcome.TheVariants.{Read, Wrote, NothingInFlight}
use Rattle.iom_machine.specs.declared.state.Device.{Device}
use Rattle.iom_machine.specs.declared.state.Frame.{Frame}
use Rattle.iom_machine.specs.declared.state.State.{State}
use Rattle.iom_machine.specs.Judging.{StandsAt}
use Rattle.iom_machine.specs.Machine.{Makes, with_oldest_made}
use Rattle.iom_kept_state.specs.declared.state.KeptState.{KeptState}
use Rattle.iom_kept_state.specs.Grants.{IsPastOf}
use Rattle.iom_kept_state.specs.States.{state_of, Decides}
use Rattle.iom_machine_judge.proofs.DecidedLemmas.{comes, never_comes}
use Rattle.iom_machine_judge.proofs.NextLemmas.{next_state}

-- the oldest access is made so, or not
pub is_made : (old new : KeptState) (oldest : Option AcceptedAccess) (made : AcceptedAccess) (P : AcceptedAccess → State → Type 0) (final : AcceptedAccess → State → State)
    → Some made ≡ oldest → new.grants ≡ old.grants → ((h : History) → IsPastOf old.grants h → P made (state_of old h))
    → ((h : History) → IsPastOf old.grants h → state_of new h ≡ final made (state_of old h))
    → Decides true old new (λ before after. IsSomeAnd oldest (λ m. P m before × (after ≡ final m before)))
is_made old new oldest made P final is same fact left =
    subst (λ (o : Option AcceptedAccess). Decides true old new (λ before after. IsSomeAnd o (λ m. P m before × (after ≡ final m before)))) is
    (comes old new (P made) (final made) same fact left)

pub never_made : (kept : KeptState) (oldest : Option AcceptedAccess) (made : AcceptedAccess) (P : AcceptedAccess → State → Type 0) (final : AcceptedAccess → State → State)
    → Some made ≡ oldest → ((h : History) → IsPastOf kept.grants h → ¬ P made (state_of kept h))
    → Decides false kept kept (λ before after. IsSomeAnd oldest (λ m. P m before × (after ≡ final m before)))
never_made kept oldest made P final is never =
    subst (λ (o : Option AcceptedAccess). Decides false kept kept (λ before after. IsSomeAnd o (λ m. P m before × (after ≡ final m before)))) is
    (never_comes kept (P made) (final made) never)

pub same_made : (one other : AcceptedAccess) → ◌≡◌ {A = Option AcceptedAccess} (Some one) (Some other) → one ≡ other
same_made one other same = cc

never_both : (made : AcceptedAccess) → ◌≡◌ {A = Option AcceptedAccess} (Some made) None → ⊥
never_both made same = cc

pub some_first : (list : List AcceptedAccess) (made : AcceptedAccess) → Some made ≡ slice_get list 0 → 0 < length list
some_first [] made is = absurd (never_both made is)
some_first (first ∷ later) made is = omega arith

pub none_first : (list : List AcceptedAccess) → slice_get list 0 ≡ None → list ≡ []
none_first [] is = refl
none_first (first ∷ later) is = absurd (never_both first is)

-- where nothing is in flight nothing else comes, and nothing where something is
pub never_empty : (device : Device) (outcome : Outcome) → slice_get device.in_flight 0 ≡ None → ¬ (outcome ≡ NothingInFlight) → (old new : State) → ¬ Makes old device outcome new
never_empty device (Read bytes) none never old new made = rw none at made
never_empty device (Wrote len) none never old new made = rw none at made
never_empty device NothingInFlight none never old new made = never refl
never_empty device _ none never old new made = made

pub never_other : (device : Device) (made : AcceptedAccess) (outcome : Outcome) → Some made ≡ slice_get device.in_flight 0
    → ((bytes : _) → ¬ (outcome ≡ Read bytes)) → ((len : ℕ) → ¬ (outcome ≡ Wrote len)) → (old new : State) → ¬ Makes old device outcome new
never_other device made (Read bytes) some not_read not_wrote old new makes = not_read bytes refl
never_other device made (Wrote len) some not_read not_wrote old new makes = not_wrote len refl
never_other device made NothingInFlight some not_read not_wrote old new makes = never_both made (some ∙ rw makes.0 refl)
never_other device made _ some not_read not_wrote old new makes = makes

-- the state without the access, and with these frames
pub made_state : (old : KeptState) (h : History) (device : Device) (place : ℕ) (devices : List Device) (frames final : List Frame) → StandsAt old.devices device.id place
    → devices ≡ slice_set old.devices place (record device { in_flight = drop 1 device.in_flight }) → frames ≡ final
    → next_state old frames h old.grants.given devices ≡ record (with_oldest_made (state_of old h) device) { frames = final }
made_state old h device place devices frames final own d f =
    let here = own.2 (record device { in_flight = drop 1 device.in_flight }) in rw (d ∙ sym here, f) refl
