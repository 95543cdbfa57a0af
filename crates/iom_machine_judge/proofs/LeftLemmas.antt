-- What is decided of a step, by what its tests decide.
use Rattle.std.proofs.Common.{◌≡◌, ◌↔◌, ◌∙◌, ◌==◌, ℕ, Bool, true, false, IsTrue, List, Option, None, Some, is_some, find, slice_get, MatchOption, Result, Ok, Err, IfOk, refl, sym, ap, subst}
use Rattle.std.proofs.lemmas.Bool.{false≢true}
use Rattle.std.specs.declared.alloc.AllocError.{AllocError}
use Rattle.iom_base.specs.declared.device_kind.DeviceKind.{DeviceKind}
use Rattle.iom_base.specs.declared.refusal.Refusal.{Refusal}
use Rattle.iom_base.specs.declared.refusal.Refusal.TheVariants.{NoSuchDevice, WrongKind}
use Rattle.iom_base.specs.Refusals.{first_that_applies, NoneApplies, IsRefusedBy}
use Rattle.iom_ledger.specs.History.{History}
use Rattle.iom_machine.specs.declared.outcome.Outcome.{Outcome}
use Rattle.iom_machine.specs.declared.outcome.Outcome.TheVariants.{Refused}
use Rattle.iom_machine.specs.declared.state.Device.{Device}
use Rattle.iom_machine.specs.declared.state.State.{State}
use Rattle.iom_machine.specs.Devices.{device_of}
use Rattle.iom_machine.specs.Judging.{StandsAt}
use Rattle.iom_machine.specs.Machine.{Acts}
use Rattle.iom_machine.specs.Refusals.{NeverElse}
use Rattle.iom_machine.proofs.StepLemmas.{only_state, some_state, own_place}
use Rattle.iom_kept_state.specs.declared.state.KeptState.{KeptState}
use Rattle.iom_kept_state.specs.Grants.{IsPastOf}
use Rattle.iom_kept_state.specs.States.{state_of, Decides}

-- the next state that is shown is the only one
pub leaves_as : (next : State) (Q : State → Type 0) → ((new : State) → (◌≡◌ {A = Option State} (Some next) (Some new)) ↔ Q new) → (after : State) → (after ≡ next) ↔ Q after
leaves_as next Q decides after = (
  (λ same. (decides after).0 (some_state next after (sym same))),
  (λ step. sym (only_state next after ((decides after).1 step))),
)

pub only_left : (P : Type 0) (next final : State) → P → next ≡ final → (after : State) → (after ≡ next) ↔ (P × (after ≡ final))
only_left P next final fact is after = ((λ same. (fact, same ∙ is)), (λ both. both.1 ∙ sym is))

-- the state stays where a test says so
pub stays_by : (test : Bool) (P : State → Type 0) (kept : KeptState) → ((h : History) → IsPastOf kept.grants h → IsTrue test ↔ P (state_of kept h))
    → Decides test kept kept (λ before after. P before × (after ≡ before))
stays_by true P kept decides = λ h past. (h, past, only_left (P (state_of kept h)) (state_of kept h) (state_of kept h) ((decides h past).0 refl) refl)
stays_by false P kept decides = (refl, λ h past after step. false≢true ((decides h past).1 step.0))

refusal : (first : Option Refusal) (may_come said : Bool) (May : Refusal → Type 0) (why : Refusal) → (IsTrue may_come ↔ May why)
    → (IsTrue said ↔ MatchOption first (IsTrue may_come) (λ it. why ≡ it)) → IsTrue said ↔ MatchOption first (May why) (λ it. why ≡ it)
refusal None may_come said May why may decides = ((λ yes. may.0 (decides.0 yes)), (λ fact. decides.1 (may.1 fact)))
refusal (Some it) may_come said May why may decides = decides

-- the state stays where a refusal may come
pub refused_by : (first : Option Refusal) (reasons : State → List (Bool × Refusal)) (may_come said : Bool) (May : State → Refusal → Type 0) (why : Refusal) (kept : KeptState)
    → ((h : History) → IsPastOf kept.grants h → first ≡ first_that_applies (reasons (state_of kept h)))
    → ((h : History) → IsPastOf kept.grants h → IsTrue may_come ↔ May (state_of kept h) why)
    → (IsTrue said ↔ MatchOption first (IsTrue may_come) (λ it. why ≡ it))
    → Decides said kept kept (λ before after. IsRefusedBy (reasons before) (May before) why × (after ≡ before))
refused_by first reasons may_come said May why kept is may decides =
    stays_by said (λ before. IsRefusedBy (reasons before) (May before) why) kept
    (λ h past. subst (λ (o : Option Refusal). IsTrue said ↔ MatchOption o (May (state_of kept h) why) (λ it. why ≡ it)) (is h past)
    (refusal first may_come said (May (state_of kept h)) why (may h past) decides))

-- where a reason applies, none doesn't
pub some_applies : (first : Option Refusal) (reasons : List (Bool × Refusal)) (reply : Bool)
    → first ≡ first_that_applies reasons → reply ≡ is_some first → reply ≡ true → ¬ NoneApplies reasons
some_applies first reasons reply is tells applies none = false≢true (sym (tells ∙ ap (λ (o : Option Refusal). is_some o) (is ∙ none)) ∙ applies)

-- steps that are the same are decided alike
pub decides_alike : (may : Bool) (old new : KeptState) (S T : State → State → Type 0)
    → ((h : History) (after : State) → S (state_of old h) after ↔ T (state_of old h) after) → Decides may old new S → Decides may old new T
decides_alike true old new S T alike decides = λ h past.
    let left = decides h past in
    (left.0, left.1, (λ after. ((λ same. (alike h after).0 ((left.2 after).0 same)), (λ step. (left.2 after).1 ((alike h after).1 step)))))
decides_alike false old new S T alike decides = (decides.0, λ h past after step. decides.1 h past after ((alike h after).1 step))

absent_same : (can : DeviceKind → Bool) (Q : Device → Type 0) (state : State) (id : ℕ) (outcome : Outcome) (new : State) → device_of state id ≡ None
    → ((outcome ≡ Refused NoSuchDevice) × (new ≡ state)) ↔ Acts can Q state id outcome new
absent_same can Q state id outcome new absent = rw absent ((λ same. same), (λ same. same))

unable_same : (can : DeviceKind → Bool) (Q : Device → Type 0) (state : State) (id : ℕ) (outcome : Outcome) (new : State) (device : Device) → device_of state id ≡ Some device
    → can device.kind ≡ false → ((outcome ≡ Refused WrongKind) × (new ≡ state)) ↔ Acts can Q state id outcome new
unable_same can Q state id outcome new device there unable = rw (there, unable) ((λ same. same), (λ same. same))

able_same : (can : DeviceKind → Bool) (Q : Device → Type 0) (state : State) (id : ℕ) (outcome : Outcome) (new : State) (device : Device) → device_of state id ≡ Some device
    → can device.kind ≡ true → Q device ↔ Acts can Q state id outcome new
able_same can Q state id outcome new device there able = rw (there, able) ((λ same. same), (λ same. same))

-- the act of a device that isn't there, of one that isn't able, and of one that is
pub absent_by : (can : DeviceKind → Bool) (Q : Device → State → State → Type 0) (kept : KeptState) (id : ℕ) (outcome : Outcome) (test : Bool)
    → find (λ (device : Device). device.id == id) kept.devices ≡ None → (IsTrue test ↔ (outcome ≡ Refused NoSuchDevice))
    → Decides test kept kept (λ before after. Acts can (λ d. Q d before after) before id outcome after)
absent_by can Q kept id outcome test absent decides =
    decides_alike test kept kept (λ before after. (outcome ≡ Refused NoSuchDevice) × (after ≡ before)) (λ before after. Acts can (λ d. Q d before after) before id outcome after)
    (λ h after. absent_same can (λ d. Q d (state_of kept h) after) (state_of kept h) id outcome after absent)
    (stays_by test (λ before. outcome ≡ Refused NoSuchDevice) kept (λ h past. decides))

pub unable_by : (can : DeviceKind → Bool) (Q : Device → State → State → Type 0) (kept : KeptState) (id : ℕ) (outcome : Outcome) (device : Device) (test : Bool)
    → find (λ (device : Device). device.id == id) kept.devices ≡ Some device → can device.kind ≡ false → (IsTrue test ↔ (outcome ≡ Refused WrongKind))
    → Decides test kept kept (λ before after. Acts can (λ d. Q d before after) before id outcome after)
unable_by can Q kept id outcome device test there unable decides =
    decides_alike test kept kept (λ before after. (outcome ≡ Refused WrongKind) × (after ≡ before)) (λ before after. Acts can (λ d. Q d before after) before id outcome after)
    (λ h after. unable_same can (λ d. Q d (state_of kept h) after) (state_of kept h) id outcome after device there unable)
    (stays_by test (λ before. outcome ≡ Refused WrongKind) kept (λ h past. decides))

pub able_by : (can : DeviceKind → Bool) (Q : Device → State → State → Type 0) (old new : KeptState) (id : ℕ) (outcome : Outcome) (device : Device) (may : Bool)
    → find (λ (device : Device). device.id == id) old.devices ≡ Some device → can device.kind ≡ true
    → Decides may old new (λ before after. Q device before after)
    → Decides may old new (λ before after. Acts can (λ d. Q d before after) before id outcome after)
able_by can Q old new id outcome device may there able decides =
    decides_alike may old new (λ before after. Q device before after) (λ before after. Acts can (λ d. Q d before after) before id outcome after)
    (λ h after. able_same can (λ d. Q d (state_of old h) after) (state_of old h) id outcome after device there able) decides

-- of one that is able, and stays as it is
pub able_stays : (can : DeviceKind → Bool) (P : Device → State → Type 0) (kept : KeptState) (id : ℕ) (outcome : Outcome) (device : Device) (test : Bool)
    → find (λ (device : Device). device.id == id) kept.devices ≡ Some device → can device.kind ≡ true
    → ((h : History) → IsPastOf kept.grants h → IsTrue test ↔ P device (state_of kept h))
    → Decides test kept kept (λ before after. Acts can (λ d. P d before × (after ≡ before)) before id outcome after)
able_stays can P kept id outcome device test there able decides =
    able_by can (λ d before after. P d before × (after ≡ before)) kept kept id outcome device test there able
    (stays_by test (λ before. P device before) kept decides)

-- what is so for each device at the place of an id is so for the one with the id
pub able_at : (can : DeviceKind → Bool) (result : Result Bool AllocError) (Q : Device → State → State → Type 0) (old new : KeptState) (id : ℕ) (outcome : Outcome) (place : ℕ) (device : Device)
    → StandsAt old.devices id place → slice_get old.devices place ≡ Some device → can device.kind ≡ true
    → IfOk result (λ may. (d : Device) → slice_get old.devices place ≡ Some d → StandsAt old.devices d.id place → Decides may old new (λ before after. Q d before after))
    → IfOk result (λ may. Decides may old new (λ before after. Acts can (λ d. Q d before after) before id outcome after))
able_at can (Ok may) Q old new id outcome place device stands at able decides =
    able_by can Q old new id outcome device may (stands.1 ∙ at) able (decides device at (own_place old.devices id place device stands at))
able_at can (Err e) Q old new id outcome place device stands at able decides = decides

-- what never comes is decided so
pub never_so : (why : Refusal) → IsTrue false ↔ NeverElse why
never_so why = ((λ same. absurd (false≢true same)), (λ never. absurd never))

-- what is so anyway is one more part of a step that leaves the state
pub with_fact : (A : Type 0) (P : State → Type 0) (may : Bool) (kept : KeptState) → A → Decides may kept kept (λ before after. P before × (after ≡ before))
    → Decides may kept kept (λ before after. A × P before × (after ≡ before))
with_fact A P may kept fact decides =
    decides_alike may kept kept (λ before after. P before × (after ≡ before)) (λ before after. A × P before × (after ≡ before))
    (λ h after. ((λ step. (fact, step.0, step.1)), (λ all. (all.1, all.2)))) decides

-- what is told is so
pub reply_is : (reply is same : Bool) (P : Type 0) → (IsTrue same ↔ (reply ≡ is)) → (IsTrue is ↔ P) → IsTrue same ↔ (IsTrue reply ↔ P)
reply_is reply is same P compares decides = (
  (λ alike. let e = compares.0 alike in ((λ t. decides.0 (sym e ∙ t)), (λ fact. e ∙ decides.1 fact))),
  (λ so. compares.1 (by reply is (λ t. decides.1 (so.0 t)) (λ t. so.1 (decides.0 t)))),
)
  where
    by : (a b : Bool) → (a ≡ true → b ≡ true) → (b ≡ true → a ≡ true) → a ≡ b
    by true b to from = sym (to refl)
    by false true to from = from refl
    by false false to from = refl
