-- What each device holds is as before, after a run of events of settling.
use Rattle.std.proofs.Common.{◌≡◌, ◌∙◌, ◌-◌, inl, inr, ℕ, zero, suc, List, [], ◌∷◌, slice_get, refl, ap}
use Rattle.iom_ledger.specs.History.{History, held_at, confirmed_from}
use Rattle.iom_machine.specs.declared.event.Event.{Event}
use Rattle.iom_machine.specs.declared.event.Event.TheVariants as events
use Rattle.iom_machine.specs.declared.outcome.Outcome.{Outcome}
use Rattle.iom_machine.specs.declared.outcome.Outcome.TheVariants as outcome
use Rattle.iom_machine.specs.declared.state.Device.{Device}
use Rattle.iom_machine.specs.declared.state.State.{State}
use Rattle.iom_base.specs.DeviceKinds.{is_any_kind}
use Rattle.iom_machine.specs.Machine.{Makes, Commits, Restarts, Fetches, Polls, Step, Run}
use Rattle.iom_machine.specs.Messages.{Delivers}
use Rattle.iom_machine.proofs.InFlightLemmas.{act_cases, some_case}
use Rattle.iom_settling.specs.Kinds.{AreAll, IsSettling}
use Rattle.iom_settling.specs.Settles.{HoldAsBefore}

-- a confirmation ends no holding
held_confirmed : (first n : ℕ) (history : History) (device page : ℕ) → held_at (confirmed_from first n history) device page ≡ held_at history device page
held_confirmed first zero history device page = refl
held_confirmed first (suc n) history device page = held_confirmed first n history device page

same_holds : (old new : State) → new.history ≡ old.history → HoldAsBefore old.history new.history
same_holds old new same device page = ap (λ (h : History). held_at h device page) same

is_same : (old new : State) → new ≡ old → HoldAsBefore old.history new.history
is_same old new same = same_holds old new (ap (λ (s : State). s.history) same)

-- a commit
made_holds : (old new : State) (device : Device) (reply : Outcome) → Makes old device reply new → HoldAsBefore old.history new.history
made_holds old new device (outcome.Read bytes) made =
    let one = some_case (slice_get device.in_flight 0) _ made in same_holds old new (ap (λ (s : State). s.history) one.2.1)
made_holds old new device (outcome.Wrote len) made =
    let one = some_case (slice_get device.in_flight 0) _ made in same_holds old new (ap (λ (s : State). s.history) one.2.1)
made_holds old new device outcome.NothingInFlight made = is_same old new made.1
made_holds old new device _ made = absurd made

commit_holds : (old new : State) (id : ℕ) (reply : Outcome) → Commits old id reply new → HoldAsBefore old.history new.history
commit_holds old new id reply commits = elim (act_cases is_any_kind (λ device. Makes old device reply new) old id reply new commits) [
  | inl (why, reply_is, same) ↦ is_same old new same
  | inr (device, at, makes) ↦ made_holds old new device reply makes
]

deliver_holds : (old new : State) (asker page : ℕ) (reply : Outcome) → Delivers asker page old reply new → HoldAsBefore old.history new.history
deliver_holds old new asker page (outcome.Answered answer) delivers = is_same old new delivers.1
deliver_holds old new asker page outcome.Kept delivers = is_same old new delivers
deliver_holds old new asker page outcome.Stale delivers = is_same old new delivers
deliver_holds old new asker page outcome.AnswerRefused delivers = is_same old new delivers
deliver_holds old new asker page outcome.Ignored delivers = is_same old new delivers
deliver_holds old new asker page (outcome.Invalidated serial) delivers = is_same old new delivers
deliver_holds old new asker page (outcome.Closed serial) delivers = is_same old new delivers
deliver_holds old new asker page (outcome.NotClosed serial) delivers = is_same old new delivers
deliver_holds old new asker page outcome.NoMessage delivers = is_same old new delivers
deliver_holds old new asker page _ delivers = absurd delivers

restart_holds : (old new : State) (reply : Outcome) → Restarts old reply new → HoldAsBefore old.history new.history
restart_holds old new outcome.Done restarts = is_same old new restarts
restart_holds old new (outcome.Refused why) restarts = is_same old new restarts.1
restart_holds old new _ restarts = absurd restarts

fetch_holds : (old new : State) (reply : Outcome) → Fetches old reply new → HoldAsBefore old.history new.history
fetch_holds old new (outcome.Fetched result) fetches = is_same old new fetches
fetch_holds old new _ fetches = absurd fetches

poll_holds : (returned : List ℕ) (old new : State) (reply : Outcome) → Polls returned old reply new → HoldAsBefore old.history new.history
poll_holds returned old new (outcome.Confirmed first last timed_out) polls = λ device page.
    ap (λ (s : State). held_at s.history device page) polls.1 ∙ held_confirmed first (suc (last - first)) old.history device page
poll_holds returned old new (outcome.NoneConfirmed timed_out) polls = same_holds old new (ap (λ (s : State). s.history) polls.1)
poll_holds returned old new _ polls = absurd polls

step_holds : (old new : State) (event : Event) (reply : Outcome) → IsSettling event → Step old event reply new → HoldAsBefore old.history new.history
step_holds old new (events.Commit id) reply is (choice, step) = commit_holds old new id reply step
step_holds old new (events.Deliver place) reply is (choice, step) = deliver_holds old new choice.device choice.page reply step
step_holds old new events.Restart reply is (choice, step) = restart_holds old new reply step
step_holds old new events.Fetch reply is (choice, step) = fetch_holds old new reply step
step_holds old new events.Poll reply is (choice, step) = poll_holds choice.returned old new reply step
step_holds old new _ reply is step = absurd is

pub run_holds : (old new : State) (events : List Event) (outcomes : List Outcome) → Run old events outcomes new → AreAll IsSettling events → HoldAsBefore old.history new.history
run_holds old new [] [] run all = is_same old new run
run_holds old new [] (reply ∷ outcomes) run all = absurd run
run_holds old new (event ∷ events) [] run all = absurd run
run_holds old new (event ∷ events) (reply ∷ outcomes) run all = λ device page.
    run_holds run.0 new events outcomes run.2 all.1 device page ∙ step_holds old run.0 event reply all.0 run.1 device page
