use Rattle.std.proofs.Common.{◌≡◌, ◌+◌, ◌∙◌, Option, None, Some, Result, Ok, Err, refl, sym, ap}
use Rattle.iom_base.specs.declared.refusal.Refusal.{Refusal}
use Rattle.iom_fault_queue.specs.Fields.{Fields}
use Rattle.iom_machine.specs.declared.outcome.Outcome.{Outcome}
use Rattle.iom_machine.specs.declared.outcome.Outcome.TheVariants as outcome
use Rattle.iom_world_effects.specs.Effect.{outcome_of_report, TakesReport}
use Rattle.iom_driver.specs.StateOf.{state_of}
use Rattle.iom_world_effects.specs.Parts.{Parts}
use Rattle.iom_world_effects.specs.Invariant.{PartsInvariant}
use Rattle.iom_world.specs.Shown.{parts_of}
use Rattle.iom_world_invariant.proofs.ReportKeeps.{keeps_taken}
use Rattle.iom_world_effects.proofs.DriverLemmas.{driver_invariant}
use Rattle.iom_world.proofs.OfHardware.{counted}
use Rattle.iom_world.proofs.world.World.faults.Given as given
use Rattle.iom_world.proofs.world.World.faults.Goals as goal
use Rattle.iom_world.proofs.world.World.faults.Goals.{After-faults}

-- the parts behind the driver's call
abbrev parts_after : (g : given.Over) → After-faults g → Parts
parts_after g c =
    let world = c.args.self.now in
    record { memory = world.hardware.board.memory; iommu = c.faults.new.io; driver = state_of world.driver; devices = world.hardware.board.devices.items; fabric = world.hardware.board.fabric }

sound_after : (g : given.Over) (c : After-faults g) → PartsInvariant (parts_after g c) (c.args.self.now.hardware.board.events + 1)
sound_after g c =
    let world = c.args.self.now in
    keeps_taken (parts_of world) (parts_after g c) (world.hardware.board.events + 1) (outcome_of_report c.faults.result) (counted world) (driver_invariant world.driver) c.faults.ensures.ready
    record { answer = c.faults.result; reply_is = refl; call = c.faults.ensures.effect; driver = refl; memory = refl; devices = refl; fabric = refl }

pub invariant_of-self : goal.invariant_of-self
invariant_of-self g c = let world = c.args.self.now in record { invariants = sound_after g (goal.at.invariant_of-self g c).After-faults; agrees = world.agrees; room = world.room }

pub invariant_of-self-in-Ok-None : goal.invariant_of-self-in-Ok-None
invariant_of-self-in-Ok-None g c = let world = c.args.self.now in record { invariants = sound_after g (goal.at.invariant_of-self-in-Ok-None g c).After-faults; agrees = world.agrees; room = world.room }

-- the report, by what the call answered
taken_so : (g : given.Over) (c : After-faults g) (answer : Result (Option Fields) Refusal) (reply : Outcome) → c.faults.result ≡ answer → reply ≡ outcome_of_report answer
    → TakesReport (parts_of c.args.self.now) reply (parts_after g c)
taken_so g c answer reply is so =
    record { answer = c.faults.result; reply_is = so ∙ sym (ap outcome_of_report is); call = c.faults.ensures.effect; driver = refl; memory = refl; devices = refl; fabric = refl }

pub returns-in-Ok-Some : goal.returns-in-Ok-Some
returns-in-Ok-Some g c =
    let after = (goal.at.returns-in-Ok-Some g c).After-faults in
    let reply = outcome.Record (record { words = c.words-self.result }) in (
      (
        refl,
        (λ _. _),
        (
          taken_so g after (Ok (Some c.in-Ok-Some.record)) reply (c.in-Ok-Some.is ∙ ap (λ (o : Option Fields). Ok o) c.in-Ok-Some.field-0-is) (ap (λ w. outcome.Record (record { words = w })) c.words-self.ensures.value),
          refl,
          refl,
          refl,
          refl,
        ),
      ),
      _,
    )

pub returns-in-Ok-None : goal.returns-in-Ok-None
returns-in-Ok-None g c =
    let after = (goal.at.returns-in-Ok-None g c).After-faults in (
      (
        refl,
        (λ _. _),
        (
          taken_so g after (Ok None) outcome.NoRecord (c.in-Ok-None.is ∙ ap (λ (o : Option Fields). Ok o) c.in-Ok-None.field-0-is) refl,
          refl,
          refl,
          refl,
          refl,
        ),
      ),
      _,
    )

pub returns-in-Err : goal.returns-in-Err
returns-in-Err g c =
    let after = (goal.at.returns-in-Err g c).After-faults in
    ((refl, (λ _. _), (taken_so g after (Err c.in-Err.why) (outcome.Refused c.in-Err.why) c.in-Err.is refl, refl, refl, refl, refl)), _)
