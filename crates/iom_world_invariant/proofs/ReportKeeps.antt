-- The driver takes a fault record: what stays true of a world, and that it is a step of the ledger machine.
use Rattle.std.proofs.Common.{◌≡◌, ◌∙◌, ℕ, Bool, true, not, is_some, List, [], ◌∷◌, length, slice_get, Option, Some, None, Result, Ok, Err, refl, sym, ap, subst, if◌then◌else◌}
use Rattle.iom_walk_coherence.specs.Walks.{Walk}
use Rattle.iom_command_queue.specs.Waiting.{commands_in}
use Rattle.iom_coherence.specs.Among.{AreAmong}
use Rattle.iom_driver.specs.Laws.{LeavesCommands}
use Rattle.iom_driver.specs.Ready.{IsReady}
use Rattle.iom_driver.specs.Reasons.{why_not_poll}
use Rattle.iom_driver.specs.Reports.{AnswersFaults, cleared_flags}
use Rattle.iom_driver.specs.State.{DriverState}
use Rattle.iom_fault_queue.specs.Fields.{Fields}
use Rattle.iom_iommu.specs.Parts.{mmio, registers_of, contexts_of, translations_of, flights_of, fence_snapshot_of, frames_of, slots_of}
use Rattle.iom_inflight.specs.Flights.{Flights}
use Rattle.iom_base.specs.declared.refusal.Refusal.{Refusal}
use Rattle.iom_base.specs.declared.refusal.Refusal.TheVariants.{NotStarted}
use Rattle.iom_base.specs.Refusals.{first_that_applies}
use Rattle.iom_machine.specs.declared.outcome.Outcome.{Outcome}
use Rattle.iom_machine.specs.declared.outcome.Outcome.TheVariants as outcome
use Rattle.iom_machine.specs.declared.state.State.{State}
use Rattle.iom_machine.specs.Machine as machine
use Rattle.iom_registers.specs.declared.register.Register.TheVariants.{Fqh, Fqcsr}
use Rattle.iom_registers.specs.Queues.{is_command_queue_on}
use Rattle.iom_tlb.specs.Content.{Translations}
use Rattle.iom_world_effects.specs.Effect.{TakesReport, outcome_of_report}
use Rattle.iom_world_effects.specs.Unchanged.{AreSame, SameIfRefused, waiting_in}
use Rattle.iom_iommu.specs.OwnIommu.{Iommu}
use Rattle.iom_world_effects.specs.Parts.{Parts}
use Rattle.iom_world_effects.specs.Read.{values_of, accesses_of}
use Rattle.iom_world_effects.specs.Shows.{PartsShow}
use Rattle.iom_world_effects.specs.Invariant.{InvariantWith, ContextsAreTrue}
use Rattle.iom_world_effects.proofs.DriverLemmas.{DriverInvariant}
use Rattle.iom_world_effects.proofs.CallRefused.{same_of}
use Rattle.iom_world_invariant.proofs.RequestStep.{shows_flights}
use Rattle.iom_world_effects.proofs.SceneSteps.{make_scene}
use Rattle.iom_world_effects.proofs.SoundFrom.{LeavesReport, report_grants, report_queue, report_sound, commands_by}

-- of the IOMMU nothing changes but registers of the fault queue, and what they make pending
record WritesReports (old new : Iommu) : Type 0 where
  commands : LeavesCommands (registers_of old) (registers_of new)
  contexts : (id : ℕ) → contexts_of new id ≡ contexts_of old id
  translations : translations_of new ≡ translations_of old
  flights : flights_of new ≡ flights_of old
  frames : frames_of new ≡ frames_of old
  fence_snapshot : is_command_queue_on (registers_of old) ≡ true → fence_snapshot_of new ≡ fence_snapshot_of old
  slots : is_command_queue_on (registers_of old) ≡ true → slots_of new ≡ slots_of old

wrote_head : (old new : Iommu) (value : ℕ) → new ≡ mmio.after old Fqh value → WritesReports old new
wrote_head old new value is = subst (WritesReports old) (sym is) (record {
  commands = record { base = refl; head = refl; tail = refl; status = refl; directory = refl };
  contexts = λ id. refl;
  translations = refl;
  flights = refl;
  frames = refl;
  fence_snapshot = λ on. ap (λ (b : Bool). if b then fence_snapshot_of old else None) on;
  slots = λ on. ap (λ (b : Bool). if b then slots_of old else record (slots_of old) { open_slots = [] }) on;
})

wrote_status : (old new : Iommu) (value : ℕ) → new ≡ mmio.after old Fqcsr value → WritesReports old new
wrote_status old new value is = subst (WritesReports old) (sym is) (record {
  commands = record { base = refl; head = refl; tail = refl; status = refl; directory = refl };
  contexts = λ id. refl;
  translations = refl;
  flights = refl;
  frames = refl;
  fence_snapshot = λ on. ap (λ (b : Bool). if b then fence_snapshot_of old else None) on;
  slots = λ on. ap (λ (b : Bool). if b then slots_of old else record (slots_of old) { open_slots = [] }) on;
})

wrote_nothing : (old new : Iommu) → new ≡ old → WritesReports old new
wrote_nothing old new is = subst (WritesReports old) (sym is) (record {
  commands = record { base = refl; head = refl; tail = refl; status = refl; directory = refl };
  contexts = λ id. refl;
  translations = refl;
  flights = refl;
  frames = refl;
  fence_snapshot = λ on. refl;
  slots = λ on. refl;
})

wrote : (d : DriverState) (memory : List (List ℕ)) (old new : Iommu) (answer : Result (Option Fields) Refusal) → AnswersFaults mmio d memory old answer new → WritesReports old new
wrote d memory old new (Ok (Some fields)) (none, (takes, list)) = wrote_head old new _ takes.1
wrote d memory old new (Ok None) (none, (empty, is)) = wrote_status old new cleared_flags is
wrote d memory old new (Err why) (refused, is) = wrote_nothing old new is

leaves_taken : (old new : Parts) (reply : Outcome) → is_command_queue_on (registers_of old.iommu) ≡ true → IsReady new.driver new.memory (registers_of new.iommu) → TakesReport old reply new → LeavesReport old new
leaves_taken old new reply on ready takes =
    let writes = wrote old.driver old.memory old.iommu new.iommu takes.answer takes.call in
    record {
      ready = ready;
      else_same = record { size = ap (λ m. length m) takes.memory; frames = λ frame other. ap (λ m. slice_get m frame) takes.memory; registers = writes.commands };
      frames = writes.frames;
      slots = writes.slots on;
      flights = writes.flights;
      driver = takes.driver;
      devices = takes.devices;
      fabric = takes.fabric;
    }

-- A FAULT RECORD IS TAKEN
pub keeps_taken : {walks : List Walk} (old new : Parts) (events : ℕ) (reply : Outcome) → InvariantWith walks old events → DriverInvariant old.driver → IsReady new.driver new.memory (registers_of new.iommu)
    → TakesReport old reply new → InvariantWith walks new events
keeps_taken {walks = walks} old new events reply invariants own ready takes =
    let writes = wrote old.driver old.memory old.iommu new.iommu takes.answer takes.call in
    let on = (invariants.ready.ring invariants.started).on in
    let leaves = leaves_taken old new reply on ready takes in
    let contexts : ContextsAreTrue new = λ id context at. rw takes.driver (invariants.contexts id context (sym (writes.contexts id) ∙ at)) in
    report_sound old new events invariants own leaves (rw writes.flights invariants.counted) contexts
    (λ has. make_scene (values_of old) (values_of new) (report_grants old new events invariants own leaves) (report_queue old new events invariants own leaves (writes.fence_snapshot on))
    (ap (λ (f : Flights). f.so_far) writes.flights)
    (subst (λ (f : Flights). AreAmong (accesses_of f.rows) (accesses_of (flights_of old.iommu).rows)) (sym writes.flights) (λ x there. there))
    (λ d is. ap (λ o. is_some o) (sym (writes.contexts d)) ∙ is)
    (λ key translation at. sym (ap (λ (c : Translations). c key) writes.translations) ∙ at) walks has)

pub taken_waiting : {walks : List Walk} (old new : Parts) (events : ℕ) (reply : Outcome) → InvariantWith walks old events → DriverInvariant old.driver → TakesReport old reply new → waiting_in new ≡ waiting_in old
taken_waiting old new events reply invariants own takes =
    let writes = wrote old.driver old.memory old.iommu new.iommu takes.answer takes.call in
    ap (λ m. commands_in m (registers_of new.iommu)) takes.memory ∙ commands_by old.memory (registers_of old.iommu) (registers_of new.iommu) writes.commands

-- a driver that was started isn't refused
never_refused : (d : DriverState) (why : Refusal) → d.started ≡ true → first_that_applies (why_not_poll d) ≡ Some why → ⊥
never_refused d why started refused = none_some (sym (ap (λ (b : Bool). first_that_applies ((not b, NotStarted) ∷ [])) started) ∙ refused)
  where
    none_some : ◌≡◌ {A = Option Refusal} None (Some why) → ⊥
    none_some same = cc

pub taken_step : {walks : List Walk} (old new : Parts) (events : ℕ) (reply : Outcome) → InvariantWith walks old events → TakesReport old reply new → (state : State) → PartsShow old state
    → machine.TakesRecord state reply state × PartsShow new state
taken_step old new events reply invariants takes state shows = (
  subst (λ t. machine.TakesRecord state t state) (sym takes.reply_is) (by takes.answer takes.call),
  shows_flights old new state takes.memory takes.driver takes.devices (wrote old.driver old.memory old.iommu new.iommu takes.answer takes.call).flights shows,
)
  where
    by : (answer : Result (Option Fields) Refusal) → AnswersFaults mmio old.driver old.memory old.iommu answer new.iommu → machine.TakesRecord state (outcome_of_report answer) state
    by (Ok (Some fields)) call = refl
    by (Ok None) call = refl
    by (Err why) call = absurd (never_refused old.driver why invariants.started call.0)

pub taken_refused : (old new : Parts) (reply : Outcome) → TakesReport old reply new → SameIfRefused reply old new
taken_refused old new reply takes why is = by takes.answer (sym takes.reply_is ∙ is) takes.call
  where
    by : (answer : Result (Option Fields) Refusal) → outcome_of_report answer ≡ outcome.Refused why → AnswersFaults mmio old.driver old.memory old.iommu answer new.iommu → AreSame old new
    by (Ok (Some fields)) refused call = cc
    by (Ok None) refused call = cc
    by (Err reason) refused call = same_of old new takes.memory call.1 takes.devices takes.fabric takes.driver
