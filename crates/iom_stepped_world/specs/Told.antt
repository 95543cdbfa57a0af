-- What the calls of hardware are told as.
use Rattle.std.specs.Prelude.{Result, Ok, Err}
use Rattle.iom_base.specs.declared.refusal.Refusal.{Refusal}
use Rattle.iom_iommu.specs.declared.begun.Begun.{Begun}
use Rattle.iom_iommu.specs.declared.begun.Load as iommu
use Rattle.iom_machine.specs.declared.outcome.Outcome.TheVariants.{Refused}
use Rattle.iom_stepped_hardware.specs.declared.steps.StepOutcome.{StepOutcome}
use Rattle.iom_stepped_hardware.specs.declared.steps.StepOutcome.TheVariants as step
use Rattle.iom_stepped_machine.specs.Machine as machine
use Rattle.iom_stepped_refinement.specs.Shows.{told_at_begin, told_at_load}
use Rattle.iom_stepped_world.specs.declared.event.SteppedEvent as events
use Rattle.iom_stepped_world.specs.declared.event.SteppedEvent.TheVariants as event
use Rattle.iom_stepped_world.specs.declared.outcome.SteppedOutcome.{SteppedOutcome}
use Rattle.iom_stepped_world.specs.declared.outcome.SteppedOutcome.TheVariants as outcome
use Rattle.iom_world.specs.OnHardware.{outcome_of_step}

-- an outcome in the ledger machine's words
abbrev pub told : SteppedOutcome → machine.SteppedOutcome
told (outcome.Answer answer) = machine.Answer answer
told outcome.Walking = machine.Walking
told outcome.Occupied = machine.Occupied
told outcome.Loaded = machine.Loaded
told outcome.NoWalk = machine.NoWalk

-- a request that begins
abbrev pub told_begun : Result Begun Refusal → machine.SteppedOutcome
told_begun (Ok begun) = told_at_begin begun
told_begun (Err why) = machine.Answer (Refused why)

-- a load
abbrev pub told_load : Result iommu.Load Refusal → machine.SteppedOutcome
told_load (Ok load) = told_at_load load
told_load (Err why) = machine.Answer (Refused why)

-- a step of a block device
abbrev pub told_step : Result StepOutcome Refusal → machine.SteppedOutcome
told_step (Ok step.Walking) = machine.Walking
told_step (Ok (step.Took taken)) = machine.Answer (outcome_of_step taken)
told_step (Err why) = machine.Answer (Refused why)

-- an event in the ledger machine's words
abbrev pub said : events.SteppedEvent → machine.SteppedEvent
said (event.Event its) = machine.Whole its
said (event.Load id) = machine.Load id
