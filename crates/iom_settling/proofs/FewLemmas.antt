-- In every state that is reached few accesses are in flight: no more devices are plugged in, and each has no more, than its limits say. In the model
-- these are 16 and 8.
use Rattle.std.proofs.Common.{◌≡◌, ◌+◌, ◌*◌, ◌≤◌, ◌<◌, ◌==◌, ℕ, inl, inr, Bool, true, false, cond, if◌then◌else◌, List, [], ◌∷◌, ◌++◌, length, map, drop, find, Some, slice_get, refl, sym, ap, subst, arith}
use Rattle.std.proofs.lemmas.Bool.{cases_lt, leb-false}
use Rattle.std.proofs.lemmas.List.{length-append, length-drop, length-map}
use Rattle.iom_base.specs.declared.access.Access.{Access}
use Rattle.iom_base.specs.declared.access.AcceptedAccess.{AcceptedAccess}
use Rattle.iom_base.specs.Accesses.{read_of, write_of, at_frame}
use Rattle.iom_ledger.specs.History.{History}
use Rattle.iom_base.specs.Refusals.{NoneApplies}
use Rattle.iom_machine.specs.declared.event.Event.{Event}
use Rattle.iom_machine.specs.declared.event.Event.TheVariants as events
use Rattle.iom_machine.specs.declared.outcome.Outcome.{Outcome}
use Rattle.iom_machine.specs.declared.outcome.Outcome.TheVariants as outcome
use Rattle.iom_machine.specs.declared.state.Device.{Device}
use Rattle.iom_base.specs.declared.device_kind.NewDevice.{NewDevice}
use Rattle.iom_machine.specs.declared.state.Limits.{Limits}
use Rattle.iom_machine.specs.declared.state.State.{State}
use Rattle.iom_machine.specs.BlockDevices.{Inserts, IsAnswered, TakesStep}
use Rattle.iom_machine.specs.Devices.{device_of, replaced_device}
use Rattle.iom_base.specs.DeviceKinds.{is_block_device, sends_untranslated, sends_through_cache, is_any_kind, has_cache}
use Rattle.iom_machine.specs.Laws.{IsReached}
use Rattle.iom_machine.specs.Leaving.{leaving_under, device_once_confirmed}
use Rattle.iom_machine.specs.Machine.{Requests, RequestsThroughCache, InsertsDisk, Steps, Makes, Commits, Step, Run, plugged_device}
use Rattle.iom_machine.specs.PowerOn.{model_limits, opening}
use Rattle.iom_machine.specs.Refusals.{plug_reasons}
use Rattle.iom_machine.specs.Requests.{IsBusy, MayAnswer, state_after, with_accepted}
use Rattle.iom_machine.specs.ThroughCache.{MayAnswerThroughCache, state_after_cached}
use Rattle.iom_machine.specs.Tickets.{with_confirmed}
use Rattle.iom_machine.specs.Traces.{count_in_flight}
use Rattle.iom_machine.proofs.ReasonLemmas.{plug_finds_room}
use Rattle.iom_machine.proofs.StepChanges.{DeviceChange, DevicesChange, step_change}

-- each of the devices has at most so many in flight
abbrev pub HaveFew : ℕ → List Device → Type 0
HaveFew most [] = Unit {0}
HaveFew most (device ∷ others) = (length device.in_flight ≤ most) × HaveFew most others

-- and they are no more than the limits say
abbrev pub AreFew : Limits → List Device → Type 0
AreFew limits devices = (length devices ≤ limits.devices) × HaveFew limits.in_flight devices

-- so in the model at most 128 are in flight
by_device : (devices : List Device) → HaveFew 8 devices → count_in_flight devices ≤ 8 * length devices
by_device [] few = omega arith
by_device (device ∷ others) few =
    let own : length device.in_flight ≤ 8 = few.0 in
    let rest = by_device others few.1 in
    omega (arith, own, rest)

pub few_in_flight : (devices : List Device) → AreFew model_limits devices → count_in_flight devices ≤ 128
few_in_flight devices few =
    let each = by_device devices few.1 in
    let all : length devices ≤ 16 = few.0 in
    omega (arith, each, all)

-- WHERE A DEVICE IS PLUGGED IN
have_few-pushed : (most : ℕ) (devices : List Device) (now : Device) → length now.in_flight ≤ most → HaveFew most devices → HaveFew most (devices ++ now ∷ [])
have_few-pushed most [] now its few = (its, tt)
have_few-pushed most (device ∷ others) now its few = (few.0, have_few-pushed most others now its few.1)

few-plugs : (old new : State) (id : ℕ) (what : NewDevice) → NoneApplies (plug_reasons old id what) → new.devices ≡ old.devices ++ plugged_device id what ∷ []
    → AreFew old.limits old.devices → AreFew old.limits new.devices
few-plugs old new id what none same few =
    let room = plug_finds_room old id what none in
    let one_more : length (old.devices ++ plugged_device id what ∷ []) ≡ length old.devices + 1 = length-append old.devices (plugged_device id what ∷ []) in
    subst (AreFew old.limits) (sym same) (omega (arith, room, one_more), have_few-pushed old.limits.in_flight old.devices (plugged_device id what) (omega arith) few.1)

-- WHERE ONE IS CHANGED
length-replaced : (devices : List Device) (id : ℕ) (now : Device) → length (replaced_device devices id now) ≡ length devices
length-replaced [] id now = refl
length-replaced (device ∷ others) id now = by (device.id == id) (length-replaced others id now)
  where
    by : (b : Bool) → length (replaced_device others id now) ≡ length others
        → length (if b then now ∷ others else device ∷ replaced_device others id now) ≡ length (device ∷ others)
    by true rest = refl
    by false rest = omega (arith, rest)

have_few-replaced : (most : ℕ) (devices : List Device) (id : ℕ) (now : Device) → length now.in_flight ≤ most → HaveFew most devices → HaveFew most (replaced_device devices id now)
have_few-replaced most [] id now its few = tt
have_few-replaced most (device ∷ others) id now its few = by (device.id == id) (have_few-replaced most others id now its few.1)
  where
    by : (b : Bool) → HaveFew most (replaced_device others id now) → HaveFew most (if b then now ∷ others else device ∷ replaced_device others id now)
    by true rest = (its, few.1)
    by false rest = (few.0, rest)

found_has_few : (most : ℕ) (devices : List Device) (id : ℕ) (device : Device) → find (λ d. d.id == id) devices ≡ Some device → HaveFew most devices → length device.in_flight ≤ most
found_has_few most [] id device at few = cc
found_has_few most (first ∷ others) id device at few = by (first.id == id) at (found_has_few most others id device)
  where
    by : (b : Bool) → cond b (Some first) (find (λ d. d.id == id) others) ≡ Some device
        → (find (λ d. d.id == id) others ≡ Some device → HaveFew most others → length device.in_flight ≤ most) → length device.in_flight ≤ most
    by true found rest = let same : first ≡ device = cc in subst (λ (d : Device). length d.in_flight ≤ most) same few.0
    by false found rest = rest found few.1

-- the device `now` stands where the other stood, and has few too
few-changed : (old new : State) (id : ℕ) (device now : Device) → device_of old id ≡ Some device → (length device.in_flight ≤ old.limits.in_flight → length now.in_flight ≤ old.limits.in_flight)
    → new.devices ≡ replaced_device old.devices device.id now → AreFew old.limits old.devices → AreFew old.limits new.devices
few-changed old new id device now at also same few =
    let as_many = length-replaced old.devices device.id now in
    let all : length old.devices ≤ old.limits.devices = few.0 in
    subst (AreFew old.limits) (sym same)
    (omega (arith, as_many, all), have_few-replaced old.limits.in_flight old.devices device.id now (also (found_has_few old.limits.in_flight old.devices id device at few.1)) few.1)

-- WHERE SOME HAVE LEFT
have_few-left : (most : ℕ) (history : History) (devices : List Device) → HaveFew most devices → HaveFew most (map (device_once_confirmed history) devices)
have_few-left most history [] few = tt
have_few-left most history (device ∷ others) few = (few.0, have_few-left most history others few.1)

few-leaves : (old new : State) (history : History) → new.devices ≡ map (device_once_confirmed history) old.devices → AreFew old.limits old.devices → AreFew old.limits new.devices
few-leaves old new history same few =
    let as_many = length-map old.devices (device_once_confirmed history) in
    let all : length old.devices ≤ old.limits.devices = few.0 in
    subst (AreFew old.limits) (sym same) (omega (arith, as_many, all), have_few-left old.limits.in_flight history old.devices few.1)

-- WHERE AN ACCESS IS ACCEPTED: the device had room for it
few-entered : (most : ℕ) (device : Device) (flight : AcceptedAccess) → ¬ IsBusy most device.in_flight → length (device.in_flight ++ flight ∷ []) ≤ most
few-entered most device flight idle =
    let one_more : length (device.in_flight ++ flight ∷ []) ≡ length device.in_flight + 1 = length-append device.in_flight (flight ∷ []) in
    elim (cases_lt (length device.in_flight) most) [
      | inl below ↦ omega (arith, one_more, below)
      | inr many ↦ absurd (idle many)
    ]

-- one device has few afterwards, where it had before
few-device : (event : Event) (reply : Outcome) (old : State) (id : ℕ) (device now : Device) → DeviceChange event reply old id device now
    → length device.in_flight ≤ old.limits.in_flight → length now.in_flight ≤ old.limits.in_flight
few-device event reply old id device now (DeviceChange.rearranged flights count none) its = subst (λ (l : List AcceptedAccess). length l ≤ old.limits.in_flight) (sym flights) its
few-device event reply old id device now (DeviceChange.accepts asked flight is accepted none_made sent idle whole may) its =
    subst (λ (d : Device). length d.in_flight ≤ old.limits.in_flight) (sym is) (few-entered old.limits.in_flight device flight idle)
few-device event reply old id device now (DeviceChange.makes first at is accepted one) its =
    let fewer = length-drop 1 device.in_flight in
    subst (λ (d : Device). length d.in_flight ≤ old.limits.in_flight) (sym is) (omega (arith, fewer, its))

-- EACH STEP KEEPS THIS
few-change : (old new : State) (event : Event) (reply : Outcome) → DevicesChange event reply old new → AreFew old.limits old.devices → AreFew old.limits new.devices
few-change old new event reply (DevicesChange.stay none same) few = subst (AreFew old.limits) (sym same) few
few-change old new event reply (DevicesChange.leave none history same) few = few-leaves old new history same few
few-change old new event reply (DevicesChange.enters id what fits none same) few = few-plugs old new id what fits same few
few-change old new event reply (DevicesChange.changes id device now at own change others same) few =
    few-changed old new id device now at (few-device event reply old id device now change) same few

-- and so does each run, from power-on
few-run : (old new : State) (events : List Event) (outcomes : List Outcome) → Run old events outcomes new → AreFew old.limits old.devices → AreFew new.limits new.devices
few-run old new [] [] run few = subst (λ (s : State). AreFew s.limits s.devices) (sym run) few
few-run old new [] (reply ∷ outcomes) run few = absurd run
few-run old new (event ∷ events) [] run few = absurd run
few-run old new (event ∷ events) (reply ∷ outcomes) (mid, step, run) few =
    let change = step_change old mid event reply step in
    few-run mid new events outcomes run (subst (λ limits. AreFew limits mid.devices) (sym change.limits) (few-change old mid event reply change.devices few))

pub few_if_reached : (state : State) → IsReached state → AreFew state.limits state.devices
few_if_reached state (events, outcomes, (limits, frames, levels, disks, run)) = few-run (opening limits frames levels disks) state events outcomes run (omega arith, tt)
