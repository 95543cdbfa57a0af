-- What each event does to the block devices themselves, and to the disks that were never in one, while requests are under way (virtio 1.2, sections 2.7 and 5.2).
use Rattle.std.specs.Prelude.{◌≡◌, ℕ, Result}
use Rattle.iom_base.specs.declared.refusal.Refusal.{Refusal}
use Rattle.iom_hardware.specs.Blocks.{BlocksUnchanged}
use Rattle.iom_iommu.specs.declared.begun.Load as iommu
use Rattle.iom_machine.specs.declared.event.Event.TheVariants as events
use Rattle.iom_stepped_hardware.specs.Requests.{HearsLoad}
use Rattle.iom_stepped_hardware.specs.Steps.{TakesStepBeside}
use Rattle.iom_stepped_hardware.specs.declared.steps.StepOutcome.{StepOutcome}
use Rattle.iom_stepped_machine.specs.Machine.{Answer, Load, SteppedEvent, SteppedOutcome, Whole}
use Rattle.iom_stepped_world.specs.Shown.{SteppedShown}
use Rattle.iom_stepped_world.specs.Told.{told_load, told_step}
use Rattle.iom_world.specs.Blocks.{EffectOnBlocks}
use Rattle.iom_world.specs.OnHardware.{hardware_of}

-- A BLOCK DEVICE TAKES A STEP, up to the access that it wants, whose request begins
pub record StepsInside (old : SteppedShown) (id : ℕ) (outcome : SteppedOutcome) (new : SteppedShown) : Type 0 where
  pub taken : Result StepOutcome Refusal
  pub answered : outcome ≡ told_step taken
  pub steps : TakesStepBeside (hardware_of old.world.parts) old.rows old.world.inside id taken (hardware_of new.world.parts) new.rows new.world.inside

-- A LOAD: the block device hears of its access where that load ended the request
pub record HearsInside (old : SteppedShown) (id : ℕ) (outcome : SteppedOutcome) (new : SteppedShown) : Type 0 where
  pub load : Result iommu.Load Refusal
  pub answered : outcome ≡ told_load load
  pub hears : HearsLoad load old.world.inside id new.world.inside

-- THE RELATION of an event: but for a step and a load as in a world without walks
abbrev pub EffectInside : SteppedShown → SteppedEvent → SteppedOutcome → SteppedShown → Type 0
EffectInside old (Load id) outcome new = HearsInside old id outcome new
EffectInside old (Whole (events.Step id)) outcome new = StepsInside old id outcome new
EffectInside old (Whole event) (Answer answered) new = EffectOnBlocks old.world event answered new.world
EffectInside old (Whole event) outcome new = BlocksUnchanged old.world.inside new.world.inside
