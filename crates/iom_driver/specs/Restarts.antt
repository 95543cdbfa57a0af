-- What a restart answers, what it leaves, and what stays.
use Rattle.std.specs.Prelude.{◌≡◌, ◌≢◌, ℕ, ◌+◌, ◌^◌, ◌<◌, Bool, List, [], ◌∷◌, ◌++◌, length, map, Some, IfSome, Option, None, Result, Ok, Err, slice_get, if◌then◌else◌}
use Rattle.iom_command_queue.specs.declared.command.Command.{Command}
use Rattle.iom_command_queue.specs.declared.command.Command.TheVariants.{AtsInval}
use Rattle.iom_command_queue.specs.declared.command.AtsRange.TheVariants.{Everything}
use Rattle.iom_command_queue.specs.declared.entry.QueueEntry.TheVariants as stands
use Rattle.iom_command_queue.specs.Waiting.{commands_in}
use Rattle.iom_base.specs.declared.refusal.Refusal.{Refusal}
use Rattle.iom_base.specs.Refusals.{first_that_applies, NoneApplies}
use Rattle.iom_registers.specs.declared.mmio.Mmio.{Ghosts}
use Rattle.iom_registers.specs.declared.register.Register.TheVariants.{Cqcsr, Cqt}
use Rattle.iom_driver.specs.declared.device.Device.{Device}
use Rattle.iom_driver.specs.declared.device.Stages.{Stages}
use Rattle.iom_driver.specs.Appends.{context_invalidation, space_invalidation, fence, AppendsAll}
use Rattle.iom_driver.specs.Devices.{owned_stages, is_attached_with_ats}
use Rattle.iom_driver.specs.Fences.{last_fence}
use Rattle.iom_driver.specs.Layout.{command_frame, completion_address}
use Rattle.iom_driver.specs.Reasons.{why_not_restart}
use Rattle.iom_driver.specs.Standing.{LeavesStanding}
use Rattle.iom_driver.specs.State.{DriverState}

-- Whatever has registers, once the command queue is turned off, its tail is 0, and it is turned on: so it is empty, and nothing is wrong any more (IOMMU
-- specification, chapter 5, `cqcsr`).
abbrev pub turned_off_and_on : {M : Type 0} → Ghosts M → M → M
turned_off_and_on g io = g.after (g.after (g.after io Cqcsr 0) Cqt 0) Cqcsr 1

-- a device with ATS is asked to drop all its own translations
abbrev pub device_reset : ℕ → Bool → List Command
device_reset id ats = if ats then AtsInval id Everything ∷ [] else []

-- the commands of a restart for a device that owns these stages, if it does, with ATS or without: its context goes, and all of its address space; then the
-- device drops all its own
abbrev pub requeued_for : ℕ → Option Stages → Bool → List Command
requeued_for id None ats = []
requeued_for id (Some stage) ats = context_invalidation id ∷ space_invalidation stage.mode stage.number ∷ device_reset id ats

-- so for each device that is attached, quarantined or leaving; only one that is attached keeps translations of its own
abbrev pub requeued : Device → List Command
requeued device = requeued_for device.id (owned_stages device.attachment) (is_attached_with_ats device.attachment)

-- those for all of these devices, in their order
abbrev pub all_requeued : List Device → List Command
all_requeued [] = []
all_requeued (device ∷ others) = requeued device ++ all_requeued others

-- and then one fence
abbrev pub restart_commands : List Device → ℕ → ℕ → List Command
restart_commands devices address number = all_requeued devices ++ fence address number ∷ []

-- where the device owns stages, its id and its number fit into commands
abbrev pub IsNamable : Device → Type 0
IsNamable device = IfSome (owned_stages device.attachment) (λ stage. (device.id < 2 ^ 24) × (stage.number < 2 ^ 16))

-- The queue is emptied, and these commands are appended: they are all that wait. Each ticket that isn't confirmed waits for their fence from then on
-- (`fence_of`). No frame but the ring's changes.
pub record QueuesRestart {M : Type 0} (g : Ghosts M) (d : DriverState) (memory : List (List ℕ)) (io : M) (d' : DriverState) (memory' : List (List ℕ)) (io' : M) : Type 0 where
  pub driver : d' ≡ record d { restarts = d.restarts + 1; restarted = d.given }
  pub queued : AppendsAll g memory (turned_off_and_on g io) (restart_commands d.devices (completion_address (length memory)) (last_fence d + 1)) memory' io'
  pub list : commands_in memory' (g.registers io')
      ≡ map stands.Command (restart_commands d.devices (completion_address (length memory)) (last_fence d + 1))
  pub others : (f : ℕ) → f ≢ command_frame (length memory) → slice_get memory' f ≡ slice_get memory f
  pub standing : LeavesStanding d memory d' memory'

-- RESTART
abbrev pub AnswersRestart : {M : Type 0} → Ghosts M → DriverState → List (List ℕ) → M → Result (Unit {0}) Refusal → DriverState → List (List ℕ) → M → Type 0
AnswersRestart g d memory io (Ok done) d' memory' io' = NoneApplies (why_not_restart d) × QueuesRestart g d memory io d' memory' io'
AnswersRestart g d memory io (Err why) d' memory' io' =
    (first_that_applies (why_not_restart d) ≡ Some why) × (d' ≡ d) × (memory' ≡ memory) × (io' ≡ io)
